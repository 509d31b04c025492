-- The laws of reports hold of the reports of plays with losses.
use Rattle.std.proofs.Common.{◌≡◌, List, ◌++◌, Some, sym, ap, subst, ◌∙◌}
use Rattle.std.specs.List.{AllByRecursion}
use Rattle.tds_session.specs.Answer.{Answers}
use Rattle.tds_world.specs.declared.event.Event.{Event}
use Rattle.tds_world.specs.declared.event.Setup.{Setup}
use Rattle.tds_world.specs.declared.report.EventReport.{EventReport}
use Rattle.tds_world.specs.declared.report.RequestReport.{RequestReport}
use Rattle.tds_world.specs.declared.report.Snapshot.{Snapshot}
use Rattle.tds_world.specs.Bounds.{IsSetup}
use Rattle.tds_world.specs.Events.{world_after}
use Rattle.tds_world.specs.Lawful.{Lawful}
use Rattle.tds_world.specs.Losses.{Played, world_with, with_cuts, event_reports_with, observed_with}
use Rattle.tds_world.specs.Observed.{event_reports, observed, request_reports}
use Rattle.tds_world.specs.Reports.{Ask, asked_in, first_run, GivesNoMore, IsLentIdle, IsNoFault, IsWithoutFault, OfEachAskFrom, ShowsFewUnderway, ShowsFreshStart, ShowsIdleQuiet, ShowsKeptTransaction, ShowsLendsIdle, ShowsOwnAnswer, ShowsOwnAnswers, ShowsOwnTransaction, ShowsQuietIfIdle, ShowsRunInOwn, StartsIfLeased}
use Rattle.tds_world.specs.WithLosses.{AlwaysShownOfEvents, AlwaysShownWith, AlwaysToldWith, ShowsNoEndFaults, ShowsNothingAfterCancelWith, events_of}
use Rattle.tds_world.specs.World.{World, new_world}
use Rattle.tds_world.proofs.plays.Told.{each_follows, same_asks, same_kept, each_resumes}
use Rattle.tds_world.proofs.plays.Worlds.{plain_worlds, plain_events, schedule_fronts}
use Rattle.tds_world.proofs.reports.OwnShown.{own_answers_are_shown, own_transactions_are_shown}
use Rattle.tds_world.proofs.reports.Leased.{fresh_start_is_shown}
use Rattle.tds_world.proofs.reports.Lends.{lends_idle_is_shown}
use Rattle.tds_world.proofs.reports.NoFault as fault
use Rattle.tds_world.proofs.reports.NoMore.{nothing_after_cancel_is_shown}
use Rattle.tds_world.proofs.reports.Reports.{idle_is_shown_quiet, few_are_shown_underway}
use Rattle.tds_world.proofs.reports.Tickets.{AtEnd, IsKept, at_end, each_keeps}

-- ---- What is told of each event

each_snapshot : (P : Snapshot → Type 0) (setup : Setup) (answers : Answers) (ps : List Played) → AllByRecursion (λ (r : EventReport). AllByRecursion P r.snapshots) (event_reports setup answers (with_cuts setup answers ps new_world) new_world) → AllByRecursion (λ (r : EventReport). AllByRecursion P r.snapshots) (event_reports_with setup answers ps new_world)
each_snapshot P setup answers ps h =
    each_follows (λ (r : EventReport). AllByRecursion P r.snapshots) (λ (r : EventReport). AllByRecursion P r.snapshots) setup answers ps new_world
    (λ r t. subst (AllByRecursion P) (sym t.snapshots) t.last_told) h

pub idle_is_quiet : (setup : Setup) (answers : Answers) → Lawful answers → AlwaysShownWith setup answers ShowsIdleQuiet
idle_is_quiet setup answers l ps =
    each_snapshot ShowsQuietIfIdle setup answers ps (idle_is_shown_quiet setup answers l (with_cuts setup answers ps new_world))

pub few_underway : (setup : Setup) (answers : Answers) → IsSetup setup → Lawful answers → AlwaysShownOfEvents setup answers ShowsFewUnderway
few_underway setup answers s l ps x =
    each_snapshot _ setup answers ps (few_are_shown_underway setup answers s l (with_cuts setup answers ps new_world) (plain_events setup answers ps new_world x))

pub no_fault : (setup : Setup) (answers : Answers) → AlwaysShownWith setup answers ShowsNoEndFaults
no_fault setup answers ps =
    each_follows IsWithoutFault (λ (r : EventReport). IsNoFault r.outcome) setup answers ps new_world
    (λ r t. subst IsNoFault (sym t.outcome) t.event_told.outcome) (fault.no_fault setup answers (with_cuts setup answers ps new_world))

pub lends_idle : (setup : Setup) (answers : Answers) → Lawful answers → AlwaysShownWith setup answers ShowsLendsIdle
lends_idle setup answers l ps =
    each_follows IsLentIdle IsLentIdle setup answers ps new_world
    (λ r t x. t.unlost x x) (lends_idle_is_shown setup answers l (with_cuts setup answers ps new_world))

-- ---- What is told of each request

abbrev requests_in : World → List RequestReport
requests_in w = request_reports w 1 w.asked_on

pub fresh_start : (setup : Setup) (answers : Answers) → Lawful answers → AlwaysShownWith setup answers ShowsFreshStart
fresh_start setup answers l ps =
    let rs : List RequestReport = requests_in (world_after setup answers (with_cuts setup answers ps new_world) new_world) in
    subst (λ w. AllByRecursion (λ (r : EventReport). StartsIfLeased (requests_in w) r.outcome) (event_reports_with setup answers ps new_world)) (sym (plain_worlds setup answers ps new_world))
    (each_follows (λ (r : EventReport). StartsIfLeased rs r.outcome) (λ (r : EventReport). StartsIfLeased rs r.outcome) setup answers ps new_world
    (λ r t. subst (StartsIfLeased rs) (sym t.outcome) t.event_told) (fresh_start_is_shown setup answers l (with_cuts setup answers ps new_world)))

of_each_ask : (P : Ask → RequestReport → Type 0) (setup : Setup) (answers : Answers) (ps : List Played) → OfEachAskFrom 1 P (asked_in (with_cuts setup answers ps new_world) (event_reports setup answers (with_cuts setup answers ps new_world) new_world)) (requests_in (world_after setup answers (with_cuts setup answers ps new_world) new_world)) → OfEachAskFrom 1 P (asked_in (events_of ps) (event_reports_with setup answers ps new_world)) (requests_in (world_with setup answers ps new_world))
of_each_ask P setup answers ps h =
    subst (λ w. OfEachAskFrom 1 P (asked_in (events_of ps) (event_reports_with setup answers ps new_world)) (requests_in w)) (sym (plain_worlds setup answers ps new_world))
    (subst (λ xs. OfEachAskFrom 1 P xs (requests_in (world_after setup answers (with_cuts setup answers ps new_world) new_world))) (sym (same_asks setup answers ps new_world)) h)

pub own_answers : (setup : Setup) (answers : Answers) → Lawful answers → AlwaysToldWith setup answers (ShowsOwnAnswers answers)
own_answers setup answers l ps =
    of_each_ask (ShowsOwnAnswer answers) setup answers ps (own_answers_are_shown setup answers l (with_cuts setup answers ps new_world))

pub own_transaction : (setup : Setup) (answers : Answers) → Lawful answers → AlwaysToldWith setup answers ShowsOwnTransaction
own_transaction setup answers l ps =
    of_each_ask ShowsRunInOwn setup answers ps (own_transactions_are_shown setup answers l (with_cuts setup answers ps new_world))

-- The report shows the end of the plain schedule too.
ends : (setup : Setup) (answers : Answers) (ps : List Played) → AtEnd (world_after setup answers (with_cuts setup answers ps new_world) new_world) (observed setup answers (with_cuts setup answers ps new_world)) → AtEnd (world_after setup answers (with_cuts setup answers ps new_world) new_world) (observed_with setup answers ps)
ends setup answers ps z =
    let v : World = world_after setup answers (with_cuts setup answers ps new_world) new_world in
    record {
      starts = λ lease s e.
          z.starts lease s (subst (λ w. first_run lease (requests_in w) ≡ Some s) (plain_worlds setup answers ps new_world) e);
      kept = λ t h e. subst (IsKept t h) (sym (same_kept setup answers t ps new_world)) (z.kept t h e);
    }

pub kept_transaction : (setup : Setup) (answers : Answers) → Lawful answers → AlwaysToldWith setup answers ShowsKeptTransaction
kept_transaction setup answers l ps =
    let es : List Event = with_cuts setup answers ps new_world in
    each_resumes (observed_with setup answers ps) setup answers ps new_world
    (each_keeps setup answers es new_world (observed_with setup answers ps) (ends setup answers ps (at_end setup answers es l)))

-- ---- What is told later

pub nothing_after_cancel : (setup : Setup) (answers : Answers) → Lawful answers → ShowsNothingAfterCancelWith setup answers
nothing_after_cancel setup answers l ps qs =
    let es : List Event = with_cuts setup answers ps new_world in
    let fs : List Event = with_cuts setup answers qs (world_with setup answers ps new_world) in
    let later : world_with setup answers (ps ++ qs) new_world ≡ world_after setup answers (es ++ fs) new_world =
    plain_worlds setup answers (ps ++ qs) new_world ∙ ap (λ xs. world_after setup answers xs new_world) (schedule_fronts setup answers ps qs new_world) in
    subst (λ w. GivesNoMore (requests_in w) (requests_in (world_with setup answers (ps ++ qs) new_world))) (sym (plain_worlds setup answers ps new_world))
    (subst (λ w. GivesNoMore (requests_in (world_after setup answers es new_world)) (requests_in w)) (sym later) (nothing_after_cancel_is_shown setup answers l es fs))
