use Rattle.std.proofs.Common.{◌∙◌, ap}
use Rattle.tds_ends.specs.Refines.{worked_outcome}
use Rattle.tds_play.proofs.Tying.{retied}
use Rattle.tds_play.proofs.Worked.{worked_so}
use Rattle.tds_play.proofs.any_bytes.Stays.{worked_stays}
use Rattle.tds_play.proofs.link.Link.put_step.Goals as goal

pub returns-clause-outcome : goal.returns-clause-outcome
returns-clause-outcome g c = c.as_outcome.ensures ∙ ap worked_outcome c.in_ok-worked.ensures.answer

pub returns-clause-value : goal.returns-clause-value
returns-clause-value g c =
    worked_so c.args.self.now c.note_step.new.self c.work.new.self c.in_ok-worked.worked _
    c.in_ok-worked.ensures.state c.in_ok-worked.ensures.answer c.session-before.ensures c.note_step.ensures

pub returns-clause-number : goal.returns-clause-number
returns-clause-number g c = ap (λ l. l.number) c.note_step.ensures

pub returns-clause-live : goal.returns-clause-live
returns-clause-live g c = ap (λ l. l.is_cut) c.note_step.ensures

pub returns-clause-tied : goal.returns-clause-tied
returns-clause-tied g c = λ pipe. retied c.args.self.now c.note_step.new.self c.work.new.self _ pipe c.note_step.ensures

pub returns-clause-still : goal.returns-clause-still
returns-clause-still g c = λ pipe. worked_stays c.in_ok-worked.worked _ _ c.args.self.now c.note_step.new.self c.work.new.self pipe c.note_step.ensures
