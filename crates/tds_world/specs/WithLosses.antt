-- What the laws say of plays over links that fail.
use Rattle.std.specs.Prelude.{◌≡◌, List, [], ◌∷◌, ◌++◌, map, false}
use Rattle.std.specs.List.{AllByRecursion}
use Rattle.tds_session.specs.Answer.{Answers}
use Rattle.tds_world.specs.declared.event.Event.{Event}
use Rattle.tds_world.specs.declared.event.Setup.{Setup}
use Rattle.tds_world.specs.declared.report.EventReport.{EventReport}
use Rattle.tds_world.specs.declared.report.Report.{Report}
use Rattle.tds_world.specs.Bounds.{IsEvent}
use Rattle.tds_world.specs.Losses.{Played, Nothing, loss_in, marked, world_then, world_with, report_then, observed_with}
use Rattle.tds_world.specs.Reports.{IsNoFault, GivesNoMore}
use Rattle.tds_world.specs.World.{World, new_world}
use Rattle.tds_world.specs.rest.Rest.{IsNoCleaning}

-- The events of a play.
abbrev pub events_of : List Played → List Event
events_of ps = map (λ (p : Played). p.event) ps

-- They are events of the program.
abbrev pub AreEvents : List Played → Type 0
AreEvents ps = AllByRecursion (λ (p : Played). IsEvent p.event) ps

-- None of them cleans.
abbrev pub CleanNothing : List Played → Type 0
CleanNothing ps = AllByRecursion (λ (p : Played). IsNoCleaning p.event) ps

-- A play that loses nothing.
abbrev pub LosesNothing : List Played → Type 0
LosesNothing ps = AllByRecursion (λ (p : Played). p.loss ≡ Nothing) ps

-- Each loss is of as many bytes as the outcome says came.
abbrev pub AreMarked : Setup → Answers → List Played → World → Type 0
AreMarked setup answers [] w = Unit {0}
AreMarked setup answers (p ∷ ps) w =
    (p.loss ≡ loss_in (report_then setup answers w p)) × AreMarked setup answers ps (world_then setup answers w p)

-- P holds of the world after any play, whatever it loses.
abbrev pub AlwaysWith : Setup → Answers → (World → Type 0) → Type 0
AlwaysWith setup answers P = (ps : List Played) → P (world_with setup answers ps new_world)

-- P holds of the report of any play.
abbrev pub AlwaysShownWith : Setup → Answers → (Report → Type 0) → Type 0
AlwaysShownWith setup answers P = (ps : List Played) → P (observed_with setup answers ps)

-- P holds of the report of any play whose events are of the program.
abbrev pub AlwaysShownOfEvents : Setup → Answers → (Report → Type 0) → Type 0
AlwaysShownOfEvents setup answers P =
    (ps : List Played) → AreEvents ps → P (observed_with setup answers ps)

-- P holds of the events of any play and its report.
abbrev pub AlwaysToldWith : Setup → Answers → (List Event → Report → Type 0) → Type 0
AlwaysToldWith setup answers P = (ps : List Played) → P (events_of ps) (observed_with setup answers ps)

-- No end refuses what comes to it, whatever is lost.
abbrev pub ShowsNoEndFaults : Report → Type 0
ShowsNoEndFaults r = AllByRecursion (λ (e : EventReport). IsNoFault e.outcome) r.events

-- Each request that a front of a play reports, the whole play reports, and with the same tokens where
-- it was cancelled.
abbrev pub ShowsNothingAfterCancelWith : Setup → Answers → Type 0
ShowsNothingAfterCancelWith setup answers =
    (ps later : List Played)
    → GivesNoMore (observed_with setup answers ps).requests (observed_with setup answers (ps ++ later)).requests

-- The report is the model's of these events, with the losses that it marks.
abbrev pub IsReportWith : Setup → Answers → List Event → Report → Type 0
IsReportWith setup answers events r = r ≡ observed_with setup answers (marked events r.events)

-- No event of it is lost.
abbrev pub MarksNothing : Report → Type 0
MarksNothing r = AllByRecursion (λ (e : EventReport). e.lost ≡ false) r.events

-- Each request that the report of the first events shows, with the losses that this report marks, it
-- shows too, and with the same tokens where it was cancelled.
abbrev pub GivesNoMoreWith : Setup → Answers → List Event → Report → Type 0
GivesNoMoreWith setup answers front r =
    GivesNoMore (observed_with setup answers (marked front r.events)).requests r.requests
