-- A lease can't tell that it shares its connection, whatever is lost.
use Rattle.std.proofs.Common.{◌≡◌, ◌≤◌, List, [], ◌∷◌, length, sym, subst, arith}
use Rattle.std.proofs.lemmas.List.{length-map}
use Rattle.std.specs.List.{AllByRecursion}
use Rattle.tds_session.specs.declared.attention.OnAttention.{OnAttention}
use Rattle.tds_session.specs.Answer.{Answers}
use Rattle.tds_world.specs.declared.event.Event.{Event}
use Rattle.tds_world.specs.declared.event.Setup.{Setup}
use Rattle.tds_world.specs.declared.report.EventReport.{EventReport}
use Rattle.tds_world.specs.declared.report.RequestReport.{RequestReport}
use Rattle.tds_world.specs.alone.Alone.{BlindToNumbers, RunsAlone, AsIfAlone}
use Rattle.tds_world.specs.alone.AloneShown.{LeaseShown, lease_in, own_by, far_in, ShowsAsIfAlone}
use Rattle.tds_world.specs.Bounds.{IsEvent}
use Rattle.tds_world.specs.limits.Descriptors.{UseFewDescriptors, AreFewEvents, most_events}
use Rattle.tds_world.specs.Events.{world_after}
use Rattle.tds_world.specs.Lawful.{Lawful}
use Rattle.tds_world.specs.Losses.{Played, event_reports_with, observed_with, with_cuts, world_with}
use Rattle.tds_world.specs.Observed.{event_reports, request_reports}
use Rattle.tds_world.specs.Reports.{Ask, asked_in}
use Rattle.tds_world.specs.WithLosses.{AreEvents, events_of}
use Rattle.tds_world.specs.World.{World, new_world}
use Rattle.tds_world.proofs.alone.AsIfAlone as alone
use Rattle.tds_world.proofs.plays.Few.{few_of_each}
use Rattle.tds_world.proofs.plays.Told.{each_follows, same_asks}
use Rattle.tds_world.proofs.plays.Worlds.{plain_worlds, plain_events}
use Rattle.tds_world.proofs.reports.Alone.{shown_alone}

are_events : (ps : List Played) → AllByRecursion IsEvent (events_of ps) → AreEvents ps
are_events [] h = tt
are_events (p ∷ ps) h = (h.0, are_events ps h.1)

-- The plain schedule asks for as many requests as the play.
plainly_alone : (setup : Setup) (answers : Answers) (ps : List Played) → Lawful answers → BlindToNumbers answers → UseFewDescriptors answers → AreFewEvents (events_of ps) → AsIfAlone setup.on_attention answers (world_after setup answers (with_cuts setup answers ps new_world) new_world)
plainly_alone setup answers ps l b u h =
    let few = few_of_each setup answers ps in
    let asked : length (world_with setup answers ps new_world).asked_on ≤ most_events =
    (let y : length (world_with setup answers ps new_world).asked_on ≤ length ps = few.asked in
    let same : length (events_of ps) ≡ length ps = length-map ps (λ (p : Played). p.event) in
    let z : length (events_of ps) ≤ most_events = h.few in omega arith) in
    alone.as_if_alone setup answers (with_cuts setup answers ps new_world) l b u (plain_events setup answers ps new_world (are_events ps h.known))
    (subst (λ (w : World). length w.asked_on ≤ most_events) (plain_worlds setup answers ps new_world) asked)

pub as_if_alone : (setup : Setup) (answers : Answers) → Lawful answers → BlindToNumbers answers → UseFewDescriptors answers → (ps : List Played) → AreFewEvents (events_of ps) → AsIfAlone setup.on_attention answers (world_with setup answers ps new_world)
as_if_alone setup answers l b u ps h =
    subst (AsIfAlone setup.on_attention answers) (sym (plain_worlds setup answers ps new_world)) (plainly_alone setup answers ps l b u h)

-- ---- Reports

abbrev requests_in : World → List RequestReport
requests_in w = request_reports w 1 w.asked_on

abbrev IsAlone : OnAttention → Answers → World → List Ask → EventReport → Type 0
IsAlone attention answers w asks r =
    AllByRecursion (λ (x : LeaseShown). RunsAlone attention answers (own_by x.opened) x.exchanges) (lease_in (far_in w) asks (requests_in w) r.outcome)

pub as_if_alone_is_shown : (setup : Setup) (answers : Answers) → Lawful answers → BlindToNumbers answers → UseFewDescriptors answers → (ps : List Played) → AreFewEvents (events_of ps) → ShowsAsIfAlone setup.on_attention answers (far_in (world_with setup answers ps new_world)) (events_of ps) (observed_with setup answers ps)
as_if_alone_is_shown setup answers l b u ps h =
    let es : List Event = with_cuts setup answers ps new_world in
    let v : World = world_after setup answers es new_world in
    let asks : List Ask = asked_in es (event_reports setup answers es new_world) in
    subst (λ w. AllByRecursion (IsAlone setup.on_attention answers w (asked_in (events_of ps) (event_reports_with setup answers ps new_world))) (event_reports_with setup answers ps new_world)) (sym (plain_worlds setup answers ps new_world))
    (subst (λ xs. AllByRecursion (IsAlone setup.on_attention answers v xs) (event_reports_with setup answers ps new_world)) (sym (same_asks setup answers ps new_world))
    (each_follows (IsAlone setup.on_attention answers v asks) (IsAlone setup.on_attention answers v asks) setup answers ps new_world
    (λ r t. subst (λ o. AllByRecursion (λ (x : LeaseShown). RunsAlone setup.on_attention answers (own_by x.opened) x.exchanges) (lease_in (far_in v) asks (requests_in v) o)) (sym t.outcome) t.event_told)
    (shown_alone setup answers es (plainly_alone setup answers ps l b u h))))
