use Rattle.std.proofs.Common.{ap, Option, refl}
use Rattle.tds_session.specs.Answer.{Answers, answer_of}
use Rattle.tds_world.specs.World.{next_number}
use Rattle.tds_play.specs.Stepping.{caller_event}
use Rattle.tds_play.specs.Pipe.{Pipe}
use Rattle.tds_play.specs.Seats.{seated}
use Rattle.tds_play.proofs.Acting.{plain_act, whole_act}
use Rattle.tds_play.proofs.Asked.{asked_ok}
use Rattle.tds_play.proofs.Listening.{if_ok}
use Rattle.tds_play.specs.Failures.{calls_of}
use Rattle.tds_play.proofs.Failing as failing
use Rattle.tds_play.proofs.Tying.{may_lose, whole_loses}
use Rattle.tds_play.proofs.any_bytes.Brought.{still_ok}
use Rattle.tds_play.proofs.link.Link.act_by_caller.Goals as goal

pub returns-in-Ask-clause-refines : goal.returns-in-Ask-clause-refines
returns-in-Ask-clause-refines g c = λ setup w m engine p faithful played promises few next.
    let answers : Answers = answer_of (g.E.Engine.statements_of engine) (g.E.Engine.step_of engine) in
    whole_act setup answers w (caller_event c.args.step) c.ask.new.self c.ask.new.client (g.C.EventCarrier.pipes c.args.carrier.now c.args.self.now.number) c.ask.result played c.requires.live _ (ap caller_event c.in-Ask.is)
    (asked_ok (record { waits = c.idle_alike.ensures; takes = c.asks_alike.ensures; stays = c.the_other_stays.ensures.asks }) c.args.self.now.number setup.packet_size c.args.number (next_number w.asked_on) _ engine _ c.args.self.now c.ask.new.self (seated p c.args.client.now) (seated p c.ask.new.client) (g.C.EventCarrier.pipes c.args.carrier.now c.args.self.now.number) m c.ask.result played c.requires.live promises.rests next (λ e. let h = c.ask.ensures.refused e in (h.0, h.1, ap (seated p) h.2)) (λ e. if_ok c.ask.result _ _ (λ done h. (h.0, ap (seated p) h.1, h.2)) (c.ask.ensures.asked e)))

pub returns-in-Send-clause-refines : goal.returns-in-Send-clause-refines
returns-in-Send-clause-refines g c = λ setup w m engine p faithful played promises few next.
    let answers : Answers = answer_of (g.E.Engine.statements_of engine) (g.E.Engine.step_of engine) in
    plain_act setup answers w (caller_event c.args.step) c.send.new.self c.send.new.client (g.C.EventCarrier.pipes c.send.new.carrier c.args.self.now.number) c.send.result played c.requires.live _ (ap caller_event c.in-Send.is) (λ k. refl) few
    (λ most. c.send.ensures.refines setup.packet_size engine p m played most.0)

pub returns-in-Cancel-clause-refines : goal.returns-in-Cancel-clause-refines
returns-in-Cancel-clause-refines g c = λ setup w m engine p faithful played promises few next.
    let answers : Answers = answer_of (g.E.Engine.statements_of engine) (g.E.Engine.step_of engine) in
    plain_act setup answers w (caller_event c.args.step) c.cancel.new.self c.cancel.new.client (g.C.EventCarrier.pipes c.cancel.new.carrier c.args.self.now.number) c.cancel.result played c.requires.live _ (ap caller_event c.in-Cancel.is) (λ k. refl) few
    (λ most. c.cancel.ensures.refines setup.packet_size engine p m played most.0)

pub returns-in-Ask-clause-failed : goal.returns-in-Ask-clause-failed
returns-in-Ask-clause-failed g c = failing.whole_ok (calls_of (caller_event c.args.step)) c.ask.result c.ask.new.self (g.C.EventCarrier.pipes c.args.carrier.now c.args.self.now.number) c.ask.ensures.whole

pub returns-in-Send-clause-failed : goal.returns-in-Send-clause-failed
returns-in-Send-clause-failed g c = rw c.in-Send.is c.send.ensures.failed

pub returns-in-Cancel-clause-failed : goal.returns-in-Cancel-clause-failed
returns-in-Cancel-clause-failed g c = rw c.in-Cancel.is c.cancel.ensures.failed

pub returns-in-Ask-clause-reads : goal.returns-in-Ask-clause-reads
returns-in-Ask-clause-reads g c = λ size reads.
    let pipe : Option Pipe = g.C.EventCarrier.pipes c.args.carrier.now c.args.self.now.number in
    still_ok size (caller_event c.args.step) _ c.ask.result c.args.self.now c.ask.new.self c.args.client.now.columns c.ask.new.client.columns pipe pipe (ap caller_event c.in-Ask.is) (λ d. refl) reads (c.ask.ensures.still pipe) c.ask.ensures.columns

pub returns-in-Send-clause-reads : goal.returns-in-Send-clause-reads
returns-in-Send-clause-reads g c = λ size reads.
    still_ok size (caller_event c.args.step) _ c.send.result c.args.self.now c.send.new.self c.args.client.now.columns c.send.new.client.columns (g.C.EventCarrier.pipes c.args.carrier.now c.args.self.now.number) (g.C.EventCarrier.pipes c.send.new.carrier c.args.self.now.number) (ap caller_event c.in-Send.is) (λ d. refl) reads c.send.ensures.still c.send.ensures.columns

pub returns-in-Cancel-clause-reads : goal.returns-in-Cancel-clause-reads
returns-in-Cancel-clause-reads g c = λ size reads.
    still_ok size (caller_event c.args.step) _ c.cancel.result c.args.self.now c.cancel.new.self c.args.client.now.columns c.cancel.new.client.columns (g.C.EventCarrier.pipes c.args.carrier.now c.args.self.now.number) (g.C.EventCarrier.pipes c.cancel.new.carrier c.args.self.now.number) (ap caller_event c.in-Cancel.is) (λ d. refl) reads c.cancel.ensures.still c.cancel.ensures.columns

pub returns-in-Ask-clause-loses : goal.returns-in-Ask-clause-loses
returns-in-Ask-clause-loses g c = whole_loses c.ask.result (caller_event c.args.step) c.ask.ensures.whole

pub returns-in-Send-clause-loses : goal.returns-in-Send-clause-loses
returns-in-Send-clause-loses g c = may_lose c.send.result (caller_event c.args.step) _ (ap caller_event c.in-Send.is) tt

pub returns-in-Cancel-clause-loses : goal.returns-in-Cancel-clause-loses
returns-in-Cancel-clause-loses g c = may_lose c.cancel.result (caller_event c.args.step) _ (ap caller_event c.in-Cancel.is) tt
