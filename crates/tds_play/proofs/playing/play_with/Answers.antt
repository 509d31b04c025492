use Rattle.std.proofs.Common.{◌≡◌, ◌≤◌, ℕ, List, [], length, ap, subst, ⊎_elim, sym, refl, ◌∙◌, arith}
use Rattle.std.proofs.lemmas.Result.{IfOk-weaker}
use Rattle.std.specs.List.{AllByRecursion}
use Rattle.std.specs.Prelude.{Err, IfErr, IfOk, Ok, OnOk, Option, Result}
use Rattle.tds_play.specs.Failures.{TellFailures}
use Rattle.tds_play.specs.Pipe.{Pipe}
use Rattle.tds_play.specs.Player.{RepresentsWorld}
use Rattle.tds_play.specs.Plays.{RepresentConnections}
use Rattle.tds_play.specs.Stopping.{AllStop}
use Rattle.tds_play.specs.WholePlay.{IsReportOfPlay}
use Rattle.tds_play.specs.Pooled.{numbers_kept, numbers_leased, seated_from}
use Rattle.tds_play.specs.declared.seat.Held.{Held}
use Rattle.tds_pool.specs.Connections.{connections}
use Rattle.tds_play.specs.declared.player.Player.{Player}
use Rattle.tds_session.specs.Answer.{answer_of}
use Rattle.tds_world.specs.alone.Alone.{AsIfAlone}
use Rattle.tds_world.specs.alone.AloneShown.{ShowsAsIfAlone, far_in}
use Rattle.tds_world.specs.Bounds.{IsEvent}
use Rattle.tds_world.specs.limits.Descriptors.{AreFewEvents}
use Rattle.tds_world.specs.left_clean.LeftCleanShown.{ShowsLeftClean}
use Rattle.tds_world.specs.Losses.{marked, world_with}
use Rattle.tds_world.specs.World.{new_world}
use Rattle.tds_world.specs.declared.event.Event.{Event}
use Rattle.tds_world.specs.declared.event.Setup.{Setup}
use Rattle.tds_play.specs.Calls.{MakesCalls, MarksFailures}
use Rattle.tds_play.specs.AnyBytes.{ReadsBytes}
use Rattle.tds_play.proofs.Resting.{all_stop, both_so, clean_nothing, marks_failures}
use Rattle.tds_play.proofs.playing.play_with.Goals as goal

-- A play's events leave descriptors.
few_events : {events : List Event} → AllByRecursion IsEvent events → length events ≤ 10000 → AreFewEvents events
few_events {events} known few = record { known = known; few = (let n : length events ≤ 10000 = few in omega arith) }

-- A player before any event.
begins : {E S : Type 0} (setup : Setup) (player : Player E S) (pipes : ℕ → Option Pipe) → player.links.items ≡ [] → player.leases ≡ [] → player.tickets ≡ []
    → player.asked_on.items ≡ [] → player.max ≡ setup.max → player.size ≡ setup.packet_size → player.on_attention ≡ setup.on_attention → RepresentsWorld setup player.engine player pipes new_world
begins {E} {S} setup player pipes links leases tickets asked max size told = record {
  connections = subst (λ (hs : List (Held E S)). RepresentConnections 1 setup.packet_size player.engine (seated_from 1 hs (connections player.pool)) pipes []) (sym links) tt;
  leases = ap numbers_leased leases;
  tickets = ap numbers_kept tickets;
  asked = asked;
  engine_is = refl;
  max = max;
  size = size;
  told = told;
}

told_always : {A B : Type 0} (r : Result A B) (P : Type 0) → P → OnOk r P
told_always (Ok x) P p = p
told_always (Err e) P p = tt

if_err : {A B : Type 0} (r : Result A B) (P Q : B → Type 0) → ((e : B) → P e → Q e) → IfErr r P → IfErr r Q
if_err (Ok x) P Q goes h = tt
if_err (Err e) P Q goes h = goes e h

pub returns-in-Ok-clause-played : goal.returns-in-Ok-clause-played
returns-in-Ok-clause-played g c = told_always c.play_events.result _ c.in-Ok.ensures.ok

pub returns-in-Ok-clause-named : goal.returns-in-Ok-clause-named
returns-in-Ok-clause-named g c = if_err c.play_events.result _ _ (λ why is differs other. ⊎_elim (λ m. absurd (differs m)) (λ m. absurd (other m)) is) c.play_events.ensures.stops

pub returns-in-Ok-clause-refines : goal.returns-in-Ok-clause-refines
returns-in-Ok-clause-refines g c = λ faithful.
    let new = c.new-player.ensures in
    subst (λ engine. IfOk c.play_events.result (λ report. IsReportOfPlay c.args.setup.now (answer_of (g.E.Engine.statements_of engine) (g.E.Engine.step_of engine)) c.args.events.now report (g.C.EventCarrier.pipes c.play_events.new.carrier)))
    new.engine
    (c.play_events.ensures.refines c.args.setup.now c.in-Ok.ensures.setup faithful
    (begins c.args.setup.now c.new-player.result (g.C.EventCarrier.pipes c.args.carrier.now) new.links new.leases new.tickets new.asked new.max (new.size ∙ c.in-Ok.ensures.size) new.told))

pub returns-in-Ok-clause-calls : goal.returns-in-Ok-clause-calls
returns-in-Ok-clause-calls g c = λ faithful.
    let new = c.new-player.ensures in
    subst (λ engine. IfOk c.play_events.result (λ report. MakesCalls g.C.EventCarrier.is_told c.args.setup.now (answer_of (g.E.Engine.statements_of engine) (g.E.Engine.step_of engine)) (marked c.args.events.now report.events)
    (g.C.EventCarrier.began c.args.carrier.now) (g.C.EventCarrier.began c.play_events.new.carrier) (g.C.EventCarrier.pipes c.play_events.new.carrier)))
    new.engine
    (c.play_events.ensures.calls c.args.setup.now c.in-Ok.ensures.setup faithful
    (begins c.args.setup.now c.new-player.result (g.C.EventCarrier.pipes c.args.carrier.now) new.links new.leases new.tickets new.asked new.max (new.size ∙ c.in-Ok.ensures.size) new.told))

pub returns-in-Ok-clause-lost : goal.returns-in-Ok-clause-lost
returns-in-Ok-clause-lost g c = λ faithful.
    let new = c.new-player.ensures in
    let answers = answer_of (g.E.Engine.statements_of c.args.engine) (g.E.Engine.step_of c.args.engine) in
    let pipes = g.C.EventCarrier.pipes c.play_events.new.carrier in
    let was = g.C.EventCarrier.began c.args.carrier.now in
    let is = g.C.EventCarrier.began c.play_events.new.carrier in
    both_so c.play_events.result
    (λ report. MakesCalls g.C.EventCarrier.is_told c.args.setup.now answers (marked c.args.events.now report.events) was is pipes)
    (λ report. TellFailures c.args.setup.now answers (marked c.args.events.now report.events) pipes)
    (λ report. MarksFailures g.C.EventCarrier.is_told c.args.setup.now answers (marked c.args.events.now report.events) was is pipes)
    (λ report makes tells. marks_failures c.args.setup.now answers (marked c.args.events.now report.events) was is pipes makes tells)
    (returns-in-Ok-clause-calls g c faithful)
    (subst (λ engine. IfOk c.play_events.result (λ report. TellFailures c.args.setup.now (answer_of (g.E.Engine.statements_of engine) (g.E.Engine.step_of engine)) (marked c.args.events.now report.events) (g.C.EventCarrier.pipes c.play_events.new.carrier)))
    new.engine
    (c.play_events.ensures.lost c.args.setup.now c.in-Ok.ensures.setup faithful
    (begins c.args.setup.now c.new-player.result (g.C.EventCarrier.pipes c.args.carrier.now) new.links new.leases new.tickets new.asked new.max (new.size ∙ c.in-Ok.ensures.size) new.told)))

pub returns-in-Ok-clause-unfailing : goal.returns-in-Ok-clause-unfailing
returns-in-Ok-clause-unfailing g c = λ faithful fine.
    let new = c.new-player.ensures in
    c.play_events.ensures.unfailing c.args.setup.now c.in-Ok.ensures.setup faithful
    (begins c.args.setup.now c.new-player.result (g.C.EventCarrier.pipes c.args.carrier.now) new.links new.leases new.tickets new.asked new.max (new.size ∙ c.in-Ok.ensures.size) new.told)
    fine

pub returns-in-Ok-clause-reads : goal.returns-in-Ok-clause-reads
returns-in-Ok-clause-reads g c =
    subst (λ (size : ℕ). IfOk c.play_events.result (λ report. ReadsBytes size c.args.events.now report (g.C.EventCarrier.pipes c.play_events.new.carrier))) (c.new-player.ensures.size ∙ c.in-Ok.ensures.size)
    c.play_events.ensures.reads

pub returns-in-Ok-clause-as_if_alone : goal.returns-in-Ok-clause-as_if_alone
returns-in-Ok-clause-as_if_alone g c = λ faithful blind uses.
    let answers = answer_of (g.E.Engine.statements_of c.args.engine) (g.E.Engine.step_of c.args.engine) in
    IfOk-weaker c.play_events.result (λ report. IsReportOfPlay c.args.setup.now answers c.args.events.now report (g.C.EventCarrier.pipes c.play_events.new.carrier))
    (λ report. AsIfAlone c.args.setup.now.on_attention answers (world_with c.args.setup.now answers (marked c.args.events.now report.events) new_world))
    (λ report is. c.as_if_alone.ensures c.args.setup.now answers c.engine_is_lawful.ensures blind uses (marked c.args.events.now report.events)
    (subst AreFewEvents (sym (c.marks_of_a_report.ensures.events c.args.events.now report.events)) (few_events is.known is.few)))
    (returns-in-Ok-clause-refines g c faithful)

pub returns-in-Ok-clause-told_alone : goal.returns-in-Ok-clause-told_alone
returns-in-Ok-clause-told_alone g c = λ faithful blind uses.
    let answers = answer_of (g.E.Engine.statements_of c.args.engine) (g.E.Engine.step_of c.args.engine) in
    IfOk-weaker c.play_events.result (λ report. IsReportOfPlay c.args.setup.now answers c.args.events.now report (g.C.EventCarrier.pipes c.play_events.new.carrier))
    (λ report. ShowsAsIfAlone c.args.setup.now.on_attention answers (far_in (world_with c.args.setup.now answers (marked c.args.events.now report.events) new_world)) c.args.events.now report)
    (λ report is. c.of_marked_report.ensures.told_alone c.args.setup.now answers c.args.events.now report c.engine_is_lawful.ensures blind uses (few_events is.known is.few) is.told)
    (returns-in-Ok-clause-refines g c faithful)

pub returns-in-Ok-clause-left_clean : goal.returns-in-Ok-clause-left_clean
returns-in-Ok-clause-left_clean g c = λ faithful clean.
    let answers = answer_of (g.E.Engine.statements_of c.args.engine) (g.E.Engine.step_of c.args.engine) in
    IfOk-weaker c.play_events.result (λ report. IsReportOfPlay c.args.setup.now answers c.args.events.now report (g.C.EventCarrier.pipes c.play_events.new.carrier))
    (λ report. ShowsLeftClean c.args.events.now report)
    (λ report is. c.of_marked_report.ensures.left_clean c.args.setup.now answers c.args.events.now report c.engine_is_lawful.ensures clean is.told)
    (returns-in-Ok-clause-refines g c faithful)

pub returns-in-Ok-clause-all_stop : goal.returns-in-Ok-clause-all_stop
returns-in-Ok-clause-all_stop g c = λ faithful none.
    let answers = answer_of (g.E.Engine.statements_of c.args.engine) (g.E.Engine.step_of c.args.engine) in
    let lawful = c.engine_is_lawful.ensures in
    IfOk-weaker c.play_events.result (λ report. IsReportOfPlay c.args.setup.now answers c.args.events.now report (g.C.EventCarrier.pipes c.play_events.new.carrier))
    (λ report. AllStop c.args.setup.now answers (world_with c.args.setup.now answers (marked c.args.events.now report.events) new_world) report)
    (λ report is.
    let ps = marked c.args.events.now report.events in
    all_stop c.args.setup.now answers ps report is.told
    (c.all_can_cancel.ensures c.args.setup.now answers lawful ps (clean_nothing c.args.events.now report.events none))
    (c.never_stuck.ensures c.args.setup.now answers lawful ps))
    (returns-in-Ok-clause-refines g c faithful)
