-- No connection that a report shows is ever stuck.
use Rattle.std.proofs.Common.{◌≡◌, ◌+◌, ℕ, suc, List, [], ◌∷◌, ◌++◌, false, refl, sym, ap, subst, ◌∙◌, Some, arith}
use Rattle.std.specs.List.{AllByRecursion}
use Rattle.std.specs.Prelude.{slice_get}
use Rattle.tds_session.specs.Answer.{Answers}
use Rattle.tds_world.specs.declared.event.Event.{Event}
use Rattle.tds_world.specs.declared.event.Setup.{Setup}
use Rattle.tds_world.specs.declared.report.Place.{Place}
use Rattle.tds_world.specs.declared.report.Place.TheVariants as place
use Rattle.tds_world.specs.declared.report.Snapshot.{Snapshot}
use Rattle.tds_world.specs.Bounds.{IsSetup}
use Rattle.tds_world.specs.Connection.{Connection, Standing, In, Cut, is_cut, phase}
use Rattle.tds_world.specs.Events.{happens, world_after}
use Rattle.tds_world.specs.Lawful.{Lawful}
use Rattle.tds_world.specs.Observed.{observed, snapshot_of, seen, snapshots_from, snapshots, event_reports}
use Rattle.tds_world.specs.Phase.{state_of}
use Rattle.tds_world.specs.Reports.{AlwaysTold, snapshot_in}
use Rattle.tds_world.specs.rest.Rest.{rested_at, rested, CanCancel, BringsToRest, Finishes, stopping, finishing, NeverStuck}
use Rattle.tds_world.specs.rest.RestShown.{last_of, last_snapshots, acknowledgement_most, IsAtRest, CanCancelShown, CanBeStopped, CanBeFinished, IsNeverStuck, ShowsNeverStuck}
use Rattle.tds_world.specs.World.{World, new_world, numbered}
use Rattle.tds_world.proofs.events.Grows.{after_both}
use Rattle.tds_world.proofs.events.Worlds.{always}
use Rattle.tds_world.proofs.events.Options.{told_kept}
use Rattle.tds_world.proofs.flow.Flow.{Sound}
use Rattle.tds_world.proofs.flow.Sound.{sound_kept}
use Rattle.tds_world.proofs.packets.Deliveries.{LanesWithin, within_kept}
use Rattle.tds_world.proofs.reports.Answered.{are_answered}
use Rattle.tds_world.proofs.reports.Asks.{snapshot_there}
use Rattle.tds_world.proofs.rest.Arriving.{IsGood, cancels_good}
use Rattle.tds_world.proofs.rest.FinishCounts.{finish_counts}
use Rattle.tds_world.proofs.rest.NeverStuck.{never_stuck, number_finds, of_there}
use Rattle.tds_world.proofs.rest.StopCounts.{stop_counts}

-- ---- The last snapshots are of the world after all events

last_shown : (setup : Setup) (answers : Answers) (events : List Event) (w : World) → last_of (snapshots w) (event_reports setup answers events w) ≡ snapshots (world_after setup answers events w)
last_shown setup answers [] w = refl
last_shown setup answers (e ∷ es) w = last_shown setup answers es (happens setup answers e w).1

pub last_are : (setup : Setup) (answers : Answers) (events : List Event) → last_snapshots (observed setup answers events) ≡ snapshots (world_after setup answers events new_world)
last_are setup answers events = last_shown setup answers events new_world

-- ---- Each of them is of a connection that isn't cut

seen_each : (P : Snapshot → Type 0) (k : ℕ) (c : Connection) (s : Standing) (later : List Snapshot) → ((p : Place) → s ≡ In p → P (snapshot_of k c p)) → AllByRecursion P later → AllByRecursion P (seen k c s ++ later)
seen_each P k c (In p) later f h = (f p refl, h)
seen_each P k c Cut later f h = h

each_from : (P : Snapshot → Type 0) (k : ℕ) (cs : List Connection) → ((i : ℕ) (c : Connection) (p : Place) → slice_get cs i ≡ Some c → c.standing ≡ In p → P (snapshot_of (k + i) c p)) → AllByRecursion P (snapshots_from k cs)
each_from P k [] f = tt
each_from P k (c ∷ cs) f =
    seen_each P k c c.standing (snapshots_from (suc k) cs) (λ p e. subst (λ m. P (snapshot_of m c p)) (let z : k + 0 ≡ k = omega arith in z) (f 0 c p refl e))
    (each_from P (suc k) cs (λ i d p e s. subst (λ m. P (snapshot_of m d p)) (let z : k + suc i ≡ suc k + i = omega arith in z) (f (suc i) d p e s)))

pub each_seen : (P : Snapshot → Type 0) (w : World) → ((n : ℕ) (c : Connection) (p : Place) → numbered w.connections n ≡ Some c → c.standing ≡ In p → P (snapshot_of n c p)) → AllByRecursion P (snapshots w)
each_seen P w f = each_from P 1 w.connections (λ i c p e s. subst (λ m. P (snapshot_of m c p)) (let z : suc i ≡ 1 + i = omega arith in z) (f (suc i) c p e s))

-- ---- It is shown at rest

shown_at_rest : (setup : Setup) (answers : Answers) (events more : List Event) (n : ℕ) (c : Connection) (p : Place) → c.standing ≡ In p → BringsToRest setup answers (world_after setup answers events new_world) n c more → IsAtRest (snapshot_of n c p) (observed setup answers (events ++ more))
shown_at_rest setup answers events more n c p s b =
    let v : World = world_after setup answers more (world_after setup answers events new_world) in
    let same : last_snapshots (observed setup answers (events ++ more)) ≡ snapshots v =
    last_are setup answers (events ++ more) ∙ ap snapshots (after_both setup answers events more new_world) in
    record {
      after = snapshot_of n b.after (rested_at p);
      shown = ap (λ shown. snapshot_in n shown) same
          ∙ snapshot_there v.connections n b.after (rested_at p) b.there (b.rests.stands ∙ ap rested s);
      idle = ap state_of b.rests.idle;
      quiet = record { to_server = b.rests.quiet.to_server; to_client = b.rests.quiet.to_client; descriptor = b.rests.quiet.descriptor };
      place = refl;
    }

whole_in : (p : Place) (s : Standing) → s ≡ In p → is_cut s ≡ false
whole_in p s e = ap is_cut e

can_cancel : (n : ℕ) (c : Connection) (p : Place) → c.standing ≡ In p → CanCancelShown (snapshot_of n c p) → CanCancel c.standing (phase c)
can_cancel n c p s z = λ d r. z (let y : In p ≡ In place.Draining = sym s ∙ d in cc) (ap state_of r)

one_stops : (setup : Setup) (answers : Answers) (events : List Event) (n : ℕ) (c : Connection) (p : Place) → Lawful answers → NeverStuck setup answers (world_after setup answers events new_world) → numbered (world_after setup answers events new_world).connections n ≡ Some c → c.standing ≡ In p → IsGood c → c.on_attention ≡ setup.on_attention → CanBeStopped setup.on_attention (λ more. observed setup answers (events ++ more)) (snapshot_of n c p)
one_stops setup answers events n c p l h t s g o z up down m k =
    let w : World = world_after setup answers events new_world in
    shown_at_rest setup answers events (stopping (In p) n up down) n c p s
    (subst (λ x. BringsToRest setup answers w n c (stopping x n up down)) s
    (h.stops n c up down (number_finds w n c t (whole_in p c.standing s)) (can_cancel n c p s z) (stop_counts (acknowledgement_most setup.on_attention) answers c up down (ap acknowledgement_most o) (cancels_good setup answers c l g).0 m k)))

one_finishes : (setup : Setup) (answers : Answers) (events : List Event) (n : ℕ) (c : Connection) (p : Place) → IsSetup setup → Lawful answers → NeverStuck setup answers (world_after setup answers events new_world) → numbered (world_after setup answers events new_world).connections n ≡ Some c → c.standing ≡ In p → IsGood c → CanBeFinished (λ more. observed setup answers (events ++ more)) (observed setup answers events) (snapshot_of n c p)
one_finishes setup answers events n c p u l h t s g =
    let w : World = world_after setup answers events new_world in
    let enough = finish_counts setup answers c u l g in (
      enough.0,
      λ packets up steps down i j k m.
          let f : Finishes setup answers w n c (finishing (In p) n packets up steps down) =
          subst (λ x. Finishes setup answers w n c (finishing x n packets up steps down)) s
          (h.finishes n c packets up steps down (number_finds w n c t (whole_in p c.standing s)) (enough.1 packets up steps down i j k m)) in
          record {
            rest = shown_at_rest setup answers events (finishing (In p) n packets up steps down) n c p s f.brings;
            requests = are_answered setup answers events (finishing (In p) n packets up steps down) n c l t (whole_in p c.standing s) f;
          },
    )

pub never_stuck_is_shown : (setup : Setup) (answers : Answers) → IsSetup setup → Lawful answers → AlwaysTold setup answers (ShowsNeverStuck setup answers)
never_stuck_is_shown setup answers u l events =
    let w : World = world_after setup answers events new_world in
    let h : NeverStuck setup answers w = never_stuck setup answers l events in
    let sound : AllByRecursion Sound w.connections = always Sound setup answers events (sound_kept setup answers l) in
    let within : AllByRecursion LanesWithin w.connections = always LanesWithin setup answers events (within_kept setup answers) in
    let told : AllByRecursion (λ c. c.on_attention ≡ setup.on_attention) w.connections = always (λ c. c.on_attention ≡ setup.on_attention) setup answers events (told_kept setup answers) in
    subst (λ shown. AllByRecursion (IsNeverStuck setup.on_attention (λ more. observed setup answers (events ++ more)) (observed setup answers events)) shown) (sym (last_are setup answers events))
    (each_seen (IsNeverStuck setup.on_attention (λ more. observed setup answers (events ++ more)) (observed setup answers events)) w (λ n c p t s.
    let good : IsGood c = (of_there Sound w n c t sound, of_there LanesWithin w n c t within) in
    record {
      stopped = one_stops setup answers events n c p l h t s good (of_there (λ c. c.on_attention ≡ setup.on_attention) w n c t told);
      finished = one_finishes setup answers events n c p u l h t s good;
    }))
