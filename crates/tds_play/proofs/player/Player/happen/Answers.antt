use Rattle.std.proofs.Common.{◌∙◌, Ok, ap, arith, refl, sym}
use Rattle.tds_session.specs.Answer.{answer_of}
use Rattle.tds_world.specs.declared.event.Event.TheVariants as event
use Rattle.tds_play.specs.Stepping.{event_of, one_event}
use Rattle.tds_play.proofs.Stepping.{one_is_one}
use Rattle.tds_play.proofs.any_bytes.Places.{about_there}
use Rattle.tds_play.proofs.pooled.Happening.{all_steps_happen, client_happens, happens_for, refuses_happen, server_happens}
use Rattle.tds_play.proofs.player.Player.happen.Goals as goal

pub returns-in-RestartServer : goal.returns-in-RestartServer
returns-in-RestartServer g c =
    server_happens (λ x. answer_of (g.E.Engine.statements_of x) (g.E.Engine.step_of x)) c.args.event.now c.args.self.now c.cut_all.new.self (g.C.EventCarrier.pipes c.args.carrier.now) (g.C.EventCarrier.pipes c.cut_all.new.carrier) _ _
    (sym c.step_of.ensures ∙ ap event_of c.in-RestartServer.is) c.cut_all.ensures.keeps c.cut_all.ensures.refines

pub returns-in-RestartClient : goal.returns-in-RestartClient
returns-in-RestartClient g c =
    client_happens (λ x. answer_of (g.E.Engine.statements_of x) (g.E.Engine.step_of x)) c.args.event.now c.args.self.now c.cut_all-in-RestartClient.new.self c.end_all.new.self (g.C.EventCarrier.pipes c.args.carrier.now) (g.C.EventCarrier.pipes c.cut_all-in-RestartClient.new.carrier) _ _
    (sym c.step_of.ensures ∙ ap event_of c.in-RestartClient.is) c.cut_all-in-RestartClient.ensures.keeps
    (record {
      leases = c.end_all.ensures.leases;
      tickets = c.end_all.ensures.tickets;
      rest = c.end_all.ensures.rest;
      pool = c.end_all.ensures.pool;
      before = c.cut_all-in-RestartClient.ensures.none;
      then = c.end_all.ensures.none c.cut_all-in-RestartClient.ensures.none;
    })
    c.cut_all-in-RestartClient.ensures.refines

pub returns-in-Lease : goal.returns-in-Lease
returns-in-Lease g c =
    happens_for (λ x. answer_of (g.E.Engine.statements_of x) (g.E.Engine.step_of x)) c.args.event.now event.Lease c.args.self.now c.lease.new.self (g.C.EventCarrier.pipes c.args.carrier.now) (g.C.EventCarrier.pipes c.lease.new.carrier) _ _ c.lease.result
    (sym c.step_of.ensures ∙ ap event_of c.in-Lease.is) c.lease.ensures

pub returns-in-Err : goal.returns-in-Err
returns-in-Err g c =
    let e = one_event c.in-OfOne.step in
    happens_for {B = ⊥} (λ x. answer_of (g.E.Engine.statements_of x) (g.E.Engine.step_of x)) c.args.event.now e c.args.self.now c.args.self.now (g.C.EventCarrier.pipes c.args.carrier.now) (g.C.EventCarrier.pipes c.args.carrier.now) _ _ (Ok c.refused.result) (sym c.step_of.ensures ∙ ap event_of c.in-OfOne.is)
    (refuses_happen (λ x. answer_of (g.E.Engine.statements_of x) (g.E.Engine.step_of x)) e c.in-Err.refusal c.args.self.now c.args.self.now (g.C.EventCarrier.pipes c.args.carrier.now) _ c.refused.result
    c.requires.tied (one_is_one c.in-OfOne.step)
    (λ setup engine w is idle. c.in-Err.ensures.value)
    c.requires.held refl refl (record { leases_are = refl; tickets_are = refl; asked_are = refl })
    (record { engine_is = refl; max_is = refl; size_is = refl; told_is = refl })
    (λ most few. record { links_few = omega (arith, few.links_few); leases_few = omega (arith, few.leases_few); tickets_few = omega (arith, few.tickets_few) })
    c.refused.ensures)

pub returns-in-Ok : goal.returns-in-Ok
returns-in-Ok g c =
    let e = one_event c.in-OfOne.step in
    happens_for (λ x. answer_of (g.E.Engine.statements_of x) (g.E.Engine.step_of x)) c.args.event.now e c.args.self.now c.step_at.new.self (g.C.EventCarrier.pipes c.args.carrier.now) (g.C.EventCarrier.pipes c.step_at.new.carrier) _ _ c.step_at.result (sym c.step_of.ensures ∙ ap event_of c.in-OfOne.is)
    (all_steps_happen (λ x. answer_of (g.E.Engine.statements_of x) (g.E.Engine.step_of x)) e c.in-Ok.place c.args.self.now c.step_at.new.self (g.C.EventCarrier.pipes c.args.carrier.now) (g.C.EventCarrier.pipes c.step_at.new.carrier) _ _ c.step_at.result
    c.requires.tied (one_is_one c.in-OfOne.step)
    (about_there e _ _ _ _ c.in-Ok.place c.in-Ok.ensures.value)
    (λ setup engine w is idle. c.in-Ok.ensures.value)
    c.step_at.ensures)
