-- The laws of reports, of a report that is the model's with the losses that it marks itself.
use Rattle.std.proofs.Common.{◌≡◌, List, ◌++◌, sym, ap, subst, ◌∙◌}
use Rattle.std.specs.List.{AllByRecursion}
use Rattle.tds_session.specs.Answer.{Answers}
use Rattle.tds_world.specs.declared.event.Event.{Event}
use Rattle.tds_world.specs.declared.event.Setup.{Setup}
use Rattle.tds_world.specs.declared.report.Report.{Report}
use Rattle.tds_world.specs.alone.Alone.{BlindToNumbers}
use Rattle.tds_world.specs.alone.AloneShown.{ShowsAsIfAlone, far_in}
use Rattle.tds_world.specs.Bounds.{IsEvent, IsSetup}
use Rattle.tds_world.specs.limits.Descriptors.{AreFewEvents, UseFewDescriptors}
use Rattle.tds_world.specs.Events.{world_after}
use Rattle.tds_world.specs.Lawful.{Lawful}
use Rattle.tds_world.specs.left_clean.LeftClean.{AnswersClean}
use Rattle.tds_world.specs.left_clean.LeftCleanShown.{ShowsLeftClean}
use Rattle.tds_world.specs.Losses.{Played, marked, world_with, observed_with}
use Rattle.tds_world.specs.Observed.{observed}
use Rattle.tds_world.specs.Reports.{GivesNoMore, ShowsFewUnderway, ShowsFreshStart, ShowsIdleQuiet, ShowsKeptTransaction, ShowsLendsIdle, ShowsOwnAnswers, ShowsOwnTransaction}
use Rattle.tds_world.specs.rest.RestShown.{ShowsNeverStuckWith}
use Rattle.tds_world.specs.WithLosses.{AlwaysShownWith, AlwaysToldWith, GivesNoMoreWith, IsReportWith, MarksNothing, ShowsNoEndFaults, events_of}
use Rattle.tds_world.specs.World.{new_world}
use Rattle.tds_world.proofs.plays.Alone as alone
use Rattle.tds_world.proofs.plays.LeftClean as left
use Rattle.tds_world.proofs.plays.Marks as marks
use Rattle.tds_world.proofs.plays.Reports as reports
use Rattle.tds_world.proofs.plays.Rest as rest
use Rattle.tds_world.proofs.plays.Worlds as worlds

of_shown : (P : Report → Type 0) (setup : Setup) (answers : Answers) (events : List Event) (r : Report) → AlwaysShownWith setup answers P → IsReportWith setup answers events r → P r
of_shown P setup answers events r h e = subst P (sym e) (h (marked events r.events))

of_told : (P : List Event → Report → Type 0) (setup : Setup) (answers : Answers) (events : List Event) (r : Report) → AlwaysToldWith setup answers P → IsReportWith setup answers events r → P events r
of_told P setup answers events r h e =
    subst (P events) (sym e)
    (subst (λ es. P es (observed_with setup answers (marked events r.events))) (marks.events events r.events) (h (marked events r.events)))

pub own_answers : (setup : Setup) (answers : Answers) (events : List Event) (r : Report) → Lawful answers → IsReportWith setup answers events r → ShowsOwnAnswers answers events r
own_answers setup answers events r l e = of_told (ShowsOwnAnswers answers) setup answers events r (reports.own_answers setup answers l) e

pub own_transaction : (setup : Setup) (answers : Answers) (events : List Event) (r : Report) → Lawful answers → IsReportWith setup answers events r → ShowsOwnTransaction events r
own_transaction setup answers events r l e = of_told ShowsOwnTransaction setup answers events r (reports.own_transaction setup answers l) e

pub kept_transaction : (setup : Setup) (answers : Answers) (events : List Event) (r : Report) → Lawful answers → IsReportWith setup answers events r → ShowsKeptTransaction events r
kept_transaction setup answers events r l e = of_told ShowsKeptTransaction setup answers events r (reports.kept_transaction setup answers l) e

pub fresh_start : (setup : Setup) (answers : Answers) (events : List Event) (r : Report) → Lawful answers → IsReportWith setup answers events r → ShowsFreshStart r
fresh_start setup answers events r l e = of_shown ShowsFreshStart setup answers events r (reports.fresh_start setup answers l) e

pub left_clean : (setup : Setup) (answers : Answers) (events : List Event) (r : Report) → Lawful answers → AnswersClean answers → IsReportWith setup answers events r → ShowsLeftClean events r
left_clean setup answers events r l clean e = of_told ShowsLeftClean setup answers events r (left.left_clean_is_shown setup answers l clean) e

pub lends_idle : (setup : Setup) (answers : Answers) (events : List Event) (r : Report) → Lawful answers → IsReportWith setup answers events r → ShowsLendsIdle r
lends_idle setup answers events r l e = of_shown ShowsLendsIdle setup answers events r (reports.lends_idle setup answers l) e

pub idle_is_quiet : (setup : Setup) (answers : Answers) (events : List Event) (r : Report) → Lawful answers → IsReportWith setup answers events r → ShowsIdleQuiet r
idle_is_quiet setup answers events r l e = of_shown ShowsIdleQuiet setup answers events r (reports.idle_is_quiet setup answers l) e

pub few_underway : (setup : Setup) (answers : Answers) (events : List Event) (r : Report) → IsSetup setup → Lawful answers → AllByRecursion IsEvent events → IsReportWith setup answers events r → ShowsFewUnderway r
few_underway setup answers events r s l x e =
    subst ShowsFewUnderway (sym e) (reports.few_underway setup answers s l (marked events r.events) (marks.known events r.events x))

pub no_fault : (setup : Setup) (answers : Answers) (events : List Event) (r : Report) → IsReportWith setup answers events r → ShowsNoEndFaults r
no_fault setup answers events r e = of_shown ShowsNoEndFaults setup answers events r (reports.no_fault setup answers) e

pub told_alone : (setup : Setup) (answers : Answers) (events : List Event) (r : Report) → Lawful answers → BlindToNumbers answers → UseFewDescriptors answers → AreFewEvents events → IsReportWith setup answers events r → ShowsAsIfAlone setup.on_attention answers (far_in (world_with setup answers (marked events r.events) new_world)) events r
told_alone setup answers events r l b u h e =
    let ps : List Played = marked events r.events in
    let same : events_of ps ≡ events = marks.events events r.events in
    subst (ShowsAsIfAlone setup.on_attention answers (far_in (world_with setup answers ps new_world)) events) (sym e)
    (subst (λ es. ShowsAsIfAlone setup.on_attention answers (far_in (world_with setup answers ps new_world)) es (observed_with setup answers ps)) same
    (alone.as_if_alone_is_shown setup answers l b u ps (subst AreFewEvents (sym same) h)))

pub comes_to_rest : (setup : Setup) (answers : Answers) (events : List Event) (r : Report) → IsSetup setup → Lawful answers → IsReportWith setup answers events r → ShowsNeverStuckWith setup answers events r
comes_to_rest = rest.never_stuck_is_marked

-- A front of the events is a front of the play.
pub after_cancel : (setup : Setup) (answers : Answers) (front later : List Event) (r : Report) → Lawful answers → IsReportWith setup answers (front ++ later) r → GivesNoMoreWith setup answers front r
after_cancel setup answers front later r l e =
    let ps : List Played = marked front r.events in
    let f : (qs : List Played) × (marked (front ++ later) r.events ≡ ps ++ qs) = marks.front front later r.events in
    let same : r ≡ observed_with setup answers (ps ++ f.0) = e ∙ ap (observed_with setup answers) f.1 in
    subst (λ (x : Report). GivesNoMore (observed_with setup answers ps).requests x.requests) (sym same) (reports.nothing_after_cancel setup answers l ps f.0)

pub whole : (setup : Setup) (answers : Answers) (events : List Event) (r : Report) → IsReportWith setup answers events r → MarksNothing r → r ≡ observed setup answers events
whole setup answers events r e x =
    e ∙ (worlds.lost_no_report setup answers (marked events r.events) (marks.unlost events r.events x)
    ∙ ap (observed setup answers) (marks.events events r.events))

pub plain : (setup : Setup) (answers : Answers) (events : List Event) (r : Report) → MarksNothing r → world_with setup answers (marked events r.events) new_world ≡ world_after setup answers events new_world
plain setup answers events r x =
    worlds.lost_no_world setup answers (marked events r.events) new_world (marks.unlost events r.events x)
    ∙ ap (λ es. world_after setup answers es new_world) (marks.events events r.events)
