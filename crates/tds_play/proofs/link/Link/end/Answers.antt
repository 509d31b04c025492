use Rattle.std.proofs.Common.{ap, refl, sym, subst}
use Rattle.tds_play.specs.Plays.{RepresentsConnection, cut_where}
use Rattle.tds_play.proofs.Failing.{ended_as}
use Rattle.tds_play.proofs.link.Link.end.Goals as goal

pub returns-then-lost-clause-refines : goal.returns-then-lost-clause-refines
returns-then-lost-clause-refines g c = λ size engine seat d played.
    let conn = c.args.self.now.number in
    subst (λ b. RepresentsConnection conn size engine c.cut.new.self seat (g.C.EventCarrier.pipes c.cut.new.carrier conn) (cut_where b d)) (sym c.if-lost.true)
    (c.cut.ensures.refines size engine seat d played c.requires.live)

pub returns-then-lost-clause-failed : goal.returns-then-lost-clause-failed
returns-then-lost-clause-failed g c = λ calls fails.
    let conn = c.args.self.now.number in
    ended_as calls _ c.args.outcome c.args.lost c.cut.new.self (g.C.EventCarrier.pipes c.args.carrier.now conn) (g.C.EventCarrier.pipes c.cut.new.carrier conn) refl
    (λ lost. ap (λ l. l.is_cut) c.cut.ensures.value) c.cut.ensures.failed fails

pub returns-else-lost-clause-failed : goal.returns-else-lost-clause-failed
returns-else-lost-clause-failed g c = λ calls fails.
    let conn = c.args.self.now.number in
    let whole = c.if-lost.false in
    ended_as calls _ c.args.outcome c.args.lost c.args.self.now (g.C.EventCarrier.pipes c.args.carrier.now conn) (g.C.EventCarrier.pipes c.args.carrier.now conn) refl
    (λ lost. absurd (cc)) (λ call. refl) fails
