-- No connection that the report of a play shows is ever stuck, whatever links failed before.
use Rattle.std.proofs.Common.{◌≡◌, List, [], ◌∷◌, ◌++◌, refl, sym, ap, subst, ◌∙◌}
use Rattle.std.specs.List.{AllByRecursion}
use Rattle.tds_session.specs.declared.attention.OnAttention.{OnAttention}
use Rattle.tds_session.specs.Answer.{Answers}
use Rattle.tds_world.specs.declared.event.Event.{Event}
use Rattle.tds_world.specs.declared.event.Setup.{Setup}
use Rattle.tds_world.specs.declared.report.Report.{Report}
use Rattle.tds_world.specs.declared.report.Snapshot.{Snapshot}
use Rattle.tds_world.specs.Bounds.{IsSetup}
use Rattle.tds_world.specs.Connection.{In}
use Rattle.tds_world.specs.Lawful.{Lawful}
use Rattle.tds_world.specs.Losses.{Played, marked, with_cuts, world_then, world_with, event_reports_with, observed_with}
use Rattle.tds_world.specs.Observed.{observed, request_reports, snapshots}
use Rattle.tds_world.specs.Reports.{snapshot_in}
use Rattle.tds_world.specs.rest.Rest.{finishing, stopping}
use Rattle.tds_world.specs.rest.RestShown.{AreAnswered, IsAnswered, IsAtRest, IsNeverStuck, Later, ShowsNeverStuckWith, last_of, last_snapshots, later_with, unlost}
use Rattle.tds_world.specs.WithLosses.{IsReportWith, LosesNothing, events_of}
use Rattle.tds_world.specs.World.{World, new_world}
use Rattle.tds_world.proofs.plays.Worlds.{lost_no_event, plain_worlds, schedule_fronts}
use Rattle.tds_world.proofs.reports.Rest.{last_are, never_stuck_is_shown}

-- ---- What two reports show in the end

-- The same snapshots after the last event, and the same requests.
pub record EndAlike (r there : Report) : Type 0 where
  pub shown : last_snapshots r ≡ last_snapshots there
  pub requests : r.requests ≡ there.requests

rest_alike : (s : Snapshot) (r there : Report) → EndAlike r there → IsAtRest s there → IsAtRest s r
rest_alike s r there e h = record {
  after = h.after;
  shown = ap (λ shown. snapshot_in s.conn shown) e.shown ∙ h.shown;
  idle = h.idle;
  quiet = h.quiet;
  place = h.place;
}

answered_alike : (s : Snapshot) (r there later later_there : Report) → EndAlike r there → EndAlike later later_there → IsAnswered s there later_there → IsAnswered s r later
answered_alike s r there later later_there e f h = record {
  rest = rest_alike s later later_there f h.rest;
  requests = subst (λ rs. AreAnswered s.conn rs later.requests) (sym e.requests)
      (subst (λ rs. AreAnswered s.conn there.requests rs) (sym f.requests) h.requests);
}

stuck_alike : (attention : OnAttention) (s : Snapshot) (later later_there : Later) (r there : Report) → EndAlike r there → ((more : List Event) → EndAlike (later more) (later_there more)) → IsNeverStuck attention later_there there s → IsNeverStuck attention later r s
stuck_alike attention s later later_there r there e f h = record {
  stopped = λ z up down i j.
      let more : List Event = stopping (In s.place) s.conn up down in
      rest_alike s (later more) (later_there more) (f more) (h.stopped z up down i j);
  finished = (
    h.finished.0,
    λ packets up steps down i j k m.
        let more : List Event = finishing (In s.place) s.conn packets up steps down in
        answered_alike s r there (later more) (later_there more) e (f more) (h.finished.1 packets up steps down i j k m),
  );
}

-- ---- A play, and the plain schedule that it stands for

last_shown_with : (setup : Setup) (answers : Answers) (ps : List Played) (w : World) → last_of (snapshots w) (event_reports_with setup answers ps w) ≡ snapshots (world_with setup answers ps w)
last_shown_with setup answers [] w = refl
last_shown_with setup answers (p ∷ ps) w = last_shown_with setup answers ps (world_then setup answers w p)

ends_plainly : (setup : Setup) (answers : Answers) (ps : List Played) → EndAlike (observed_with setup answers ps) (observed setup answers (with_cuts setup answers ps new_world))
ends_plainly setup answers ps =
    let es : List Event = with_cuts setup answers ps new_world in
    record {
      shown = last_shown_with setup answers ps new_world ∙ (ap snapshots (plain_worlds setup answers ps new_world) ∙ sym (last_are setup answers es));
      requests = ap (λ (w : World). request_reports w 1 w.asked_on) (plain_worlds setup answers ps new_world);
    }

loses_nothing : (events : List Event) → LosesNothing (unlost events)
loses_nothing [] = tt
loses_nothing (e ∷ es) = (refl, loses_nothing es)

unlost_events : (events : List Event) → events_of (unlost events) ≡ events
unlost_events [] = refl
unlost_events (e ∷ es) = ap (λ xs. e ∷ xs) (unlost_events es)

-- Behind it, where nothing is lost, come the events as they are.
plainly_later : (setup : Setup) (answers : Answers) (ps : List Played) (more : List Event) → with_cuts setup answers (ps ++ unlost more) new_world ≡ with_cuts setup answers ps new_world ++ more
plainly_later setup answers ps more =
    schedule_fronts setup answers ps (unlost more) new_world
    ∙ ap (λ es. with_cuts setup answers ps new_world ++ es)
    (lost_no_event setup answers (unlost more) (world_with setup answers ps new_world) (loses_nothing more) ∙ unlost_events more)

later_alike : (setup : Setup) (answers : Answers) (ps : List Played) (more : List Event) → EndAlike (later_with setup answers ps more) (observed setup answers (with_cuts setup answers ps new_world ++ more))
later_alike setup answers ps more =
    subst (λ es. EndAlike (later_with setup answers ps more) (observed setup answers es)) (plainly_later setup answers ps more)
    (ends_plainly setup answers (ps ++ unlost more))

each_alike : (P Q : Snapshot → Type 0) (shown : List Snapshot) → ((s : Snapshot) → P s → Q s) → AllByRecursion P shown → AllByRecursion Q shown
each_alike P Q [] f h = tt
each_alike P Q (s ∷ ss) f h = (f s h.0, each_alike P Q ss f h.1)

pub never_stuck_is_shown_with : (setup : Setup) (answers : Answers) → IsSetup setup → Lawful answers → (ps : List Played) → AllByRecursion (IsNeverStuck setup.on_attention (later_with setup answers ps) (observed_with setup answers ps)) (last_snapshots (observed_with setup answers ps))
never_stuck_is_shown_with setup answers u l ps =
    let es : List Event = with_cuts setup answers ps new_world in
    let ends : EndAlike (observed_with setup answers ps) (observed setup answers es) = ends_plainly setup answers ps in
    subst (AllByRecursion (IsNeverStuck setup.on_attention (later_with setup answers ps) (observed_with setup answers ps))) (sym ends.shown)
    (each_alike (IsNeverStuck setup.on_attention (λ more. observed setup answers (es ++ more)) (observed setup answers es)) (IsNeverStuck setup.on_attention (later_with setup answers ps) (observed_with setup answers ps)) (last_snapshots (observed setup answers es))
    (λ s. stuck_alike setup.on_attention s (later_with setup answers ps) (λ more. observed setup answers (es ++ more)) (observed_with setup answers ps) (observed setup answers es) ends (later_alike setup answers ps))
    (never_stuck_is_shown setup answers u l es))

-- Of a report that marks its losses itself.
pub never_stuck_is_marked : (setup : Setup) (answers : Answers) (events : List Event) (r : Report) → IsSetup setup → Lawful answers → IsReportWith setup answers events r → ShowsNeverStuckWith setup answers events r
never_stuck_is_marked setup answers events r u l e =
    let ps : List Played = marked events r.events in
    subst (λ (x : Report). AllByRecursion (IsNeverStuck setup.on_attention (later_with setup answers ps) x) (last_snapshots x)) (sym e) (never_stuck_is_shown_with setup answers u l ps)
