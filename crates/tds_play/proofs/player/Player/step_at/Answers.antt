use Rattle.std.proofs.Common.{ap}
use Rattle.tds_session.specs.Answer.{answer_of}
use Rattle.tds_play.specs.Stepping.{one_event}
use Rattle.tds_play.proofs.pooled.Steps.{of_event, of_quiet}
use Rattle.tds_play.proofs.player.Player.step_at.Goals as goal

pub returns-in-Resume : goal.returns-in-Resume
returns-in-Resume g c =
    of_quiet (λ x. answer_of (g.E.Engine.statements_of x) (g.E.Engine.step_of x)) (one_event c.args.step) _ c.args.place c.args.self.now c.resume.new.self (g.C.EventCarrier.pipes c.args.carrier.now) (g.C.EventCarrier.began c.args.carrier.now) c.resume.result (ap one_event c.in-Resume.is)
    (c.resume.ensures (g.C.EventCarrier.pipes c.args.carrier.now) c.requires.tied)

pub returns-in-Keep : goal.returns-in-Keep
returns-in-Keep g c =
    of_quiet (λ x. answer_of (g.E.Engine.statements_of x) (g.E.Engine.step_of x)) (one_event c.args.step) _ c.args.place c.args.self.now c.keep.new.self (g.C.EventCarrier.pipes c.args.carrier.now) (g.C.EventCarrier.began c.args.carrier.now) c.keep.result (ap one_event c.in-Keep.is)
    (c.keep.ensures (g.C.EventCarrier.pipes c.args.carrier.now) c.requires.tied)

pub returns-in-GiveBack : goal.returns-in-GiveBack
returns-in-GiveBack g c =
    of_event (λ x. answer_of (g.E.Engine.statements_of x) (g.E.Engine.step_of x)) (one_event c.args.step) _ c.args.place c.args.self.now c.give_back.new.self (g.C.EventCarrier.pipes c.args.carrier.now) (g.C.EventCarrier.pipes c.give_back.new.carrier) _ _ c.give_back.result (ap one_event c.in-GiveBack.is) c.give_back.ensures

pub returns-in-Abandon : goal.returns-in-Abandon
returns-in-Abandon g c =
    of_event (λ x. answer_of (g.E.Engine.statements_of x) (g.E.Engine.step_of x)) (one_event c.args.step) _ c.args.place c.args.self.now c.abandon.new.self (g.C.EventCarrier.pipes c.args.carrier.now) (g.C.EventCarrier.pipes c.abandon.new.carrier) _ _ c.abandon.result (ap one_event c.in-Abandon.is) c.abandon.ensures

pub returns-in-Clean : goal.returns-in-Clean
returns-in-Clean g c =
    of_event (λ x. answer_of (g.E.Engine.statements_of x) (g.E.Engine.step_of x)) (one_event c.args.step) _ c.args.place c.args.self.now c.clean.new.self (g.C.EventCarrier.pipes c.args.carrier.now) (g.C.EventCarrier.pipes c.clean.new.carrier) _ _ c.clean.result (ap one_event c.in-Clean.is) c.clean.ensures

pub returns-in-AtEnds : goal.returns-in-AtEnds
returns-in-AtEnds g c =
    of_event (λ x. answer_of (g.E.Engine.statements_of x) (g.E.Engine.step_of x)) (one_event c.args.step) _ c.args.place c.args.self.now c.act_on.new.self (g.C.EventCarrier.pipes c.args.carrier.now) (g.C.EventCarrier.pipes c.act_on.new.carrier) _ _ c.act_on.result (ap one_event c.in-AtEnds.is) c.act_on.ensures
