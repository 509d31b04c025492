-- What holds of the world after any events is shown in each snapshot.
use Rattle.std.proofs.Common.{◌≡◌, ◌≤◌, ℕ, suc, List, [], ◌∷◌, ◌++◌, refl}
use Rattle.std.specs.List.{AllByRecursion}
use Rattle.tds_session.specs.Answer.{Answers}
use Rattle.tds_world.specs.declared.event.Event.{Event}
use Rattle.tds_world.specs.declared.event.Setup.{Setup}
use Rattle.tds_world.specs.declared.outcome.Outcome.{Outcome}
use Rattle.tds_world.specs.declared.report.ClientView.TheVariants as view
use Rattle.tds_world.specs.declared.report.EventReport.{EventReport}
use Rattle.tds_world.specs.declared.report.Place.{Place}
use Rattle.tds_world.specs.declared.report.Snapshot.{Snapshot}
use Rattle.tds_world.specs.Bounds.{IsEvent, IsSetup}
use Rattle.tds_world.specs.Connection.{Connection, phase, Standing, In, Cut, up_underway}
use Rattle.tds_world.specs.Events.{happens, world_after}
use Rattle.tds_world.specs.Lawful.{Lawful}
use Rattle.tds_world.specs.Laws.{QuietIfIdle}
use Rattle.tds_world.specs.Observed.{snapshot_of, seen, snapshots_from, event_report, event_reports}
use Rattle.tds_world.specs.Phase.{Phase, Settled, state_of}
use Rattle.tds_world.specs.Reports.{AlwaysShown, AlwaysShownOf, ShowsFewUnderway, ShowsIdleQuiet, ShowsQuietIfIdle}
use Rattle.tds_world.specs.World.{World, new_world}
use Rattle.tds_world.proofs.flow.Quiet.{idle_is_quiet}
use Rattle.tds_world.proofs.packets.Sizes.{few_are_underway}

-- What holds of each connection holds of what is seen of it.
abbrev pub Shows : (Connection → Type 0) → (Snapshot → Type 0) → Type 0
Shows P Q = (n : ℕ) (c : Connection) (p : Place) → P c → Q (snapshot_of n c p)

seen_then : (P : Connection → Type 0) (Q : Snapshot → Type 0) (n : ℕ) (c : Connection) (s : Standing) (later : List Snapshot) → Shows P Q → P c → AllByRecursion Q later → AllByRecursion Q (seen n c s ++ later)
seen_then P Q n c (In p) later f h g = (f n c p h, g)
seen_then P Q n c Cut later f h g = g

all_seen : (P : Connection → Type 0) (Q : Snapshot → Type 0) (n : ℕ) (cs : List Connection) → Shows P Q → AllByRecursion P cs → AllByRecursion Q (snapshots_from n cs)
all_seen P Q n [] f h = tt
all_seen P Q n (c ∷ cs) f h = seen_then P Q n c c.standing (snapshots_from (suc n) cs) f h.0 (all_seen P Q (suc n) cs f h.1)

-- What holds of the world after any events of a kind holds of what is told of each event.
pub each_told : (setup : Setup) (answers : Answers) (E : Event → Type 0) (P : World → Type 0) (Q : EventReport → Type 0) (events : List Event) (w : World) → ((o : Outcome) (v : World) → P v → Q (event_report (o, v))) → ((later : List Event) → AllByRecursion E later → P (world_after setup answers later w)) → AllByRecursion E events → AllByRecursion Q (event_reports setup answers events w)
each_told setup answers E P Q [] w f h x = tt
each_told setup answers E P Q (e ∷ es) w f h x = (
  f (happens setup answers e w).0 (happens setup answers e w).1 (h (e ∷ []) (x.0, tt)),
  each_told setup answers E P Q es (happens setup answers e w).1 f (λ later y. h (e ∷ later) (x.0, y)) x.1,
)

pub each_snapshot : (setup : Setup) (answers : Answers) (E : Event → Type 0) (P : Connection → Type 0) (Q : Snapshot → Type 0) (events : List Event) → Shows P Q → ((later : List Event) → AllByRecursion E later → AllByRecursion P (world_after setup answers later new_world).connections) → AllByRecursion E events → AllByRecursion (λ (r : EventReport). AllByRecursion Q r.snapshots) (event_reports setup answers events new_world)
each_snapshot setup answers E P Q events f h x =
    each_told setup answers E (λ w. AllByRecursion P w.connections) (λ (r : EventReport). AllByRecursion Q r.snapshots) events new_world
    (λ o v g. all_seen P Q 1 v.connections f g) h x

-- ---- Any events

any : (events : List Event) → AllByRecursion (λ (e : Event). Unit {0}) events
any [] = tt
any (e ∷ es) = (tt, any es)

-- ---- Idle is quiet

pub idle_settled : (p : Phase) → state_of p ≡ view.Idle → p ≡ Settled
idle_settled Settled e = refl
idle_settled p e = absurd (cc)

shows_quiet : Shows QuietIfIdle ShowsQuietIfIdle
shows_quiet n c p h e =
    let q = h (idle_settled (phase c) e) in
    record { to_server = q.to_server; to_client = q.to_client; descriptor = q.descriptor }

pub idle_is_shown_quiet : (setup : Setup) (answers : Answers) → Lawful answers → AlwaysShown setup answers ShowsIdleQuiet
idle_is_shown_quiet setup answers l events =
    each_snapshot setup answers (λ (e : Event). Unit {0}) QuietIfIdle ShowsQuietIfIdle events shows_quiet (λ later x. idle_is_quiet setup answers l later) (any events)

-- ---- Few bytes are underway

pub few_are_shown_underway : (setup : Setup) (answers : Answers) → IsSetup setup → Lawful answers → AlwaysShownOf IsEvent setup answers ShowsFewUnderway
few_are_shown_underway setup answers s l events x =
    each_snapshot setup answers IsEvent (λ c. up_underway c ≤ 4094) (λ (s : Snapshot). s.to_server ≤ 4094) events (λ n c p h. h) (few_are_underway setup answers s l) x
