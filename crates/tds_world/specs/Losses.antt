-- Plays over links that fail: what an event lost, and the plain schedule that such a play stands for.
use Rattle.std.specs.Prelude.{ℕ, List, [], ◌∷◌, ◌++◌, Bool, true, false, Option, Some, None}
use Rattle.tds_session.specs.Answer.{Answers}
use Rattle.tds_world.specs.declared.event.Event.{Event}
use Rattle.tds_world.specs.declared.event.Event.TheVariants as event
use Rattle.tds_world.specs.declared.event.Setup.{Setup}
use Rattle.tds_world.specs.declared.outcome.Outcome.{Outcome}
use Rattle.tds_world.specs.declared.outcome.Outcome.TheVariants as outcome
use Rattle.tds_world.specs.declared.report.EventReport.{EventReport}
use Rattle.tds_world.specs.declared.report.Report.{Report}
use Rattle.tds_world.specs.Events.{about, happens, world_after}
use Rattle.tds_world.specs.Observed.{report_of, snapshots}
use Rattle.tds_world.specs.World.{World, Found, Missing, Here, Opens, new_world}

-- What an event lost: nothing, or the link of its connection failed there, when so many bytes had come.
pub data Loss : Type 0 where
  Nothing : Loss
  Failed : (came : ℕ) → Loss

-- An event of a play, with what it lost.
pub record Played : Type 0 where
  pub event : Event
  pub loss : Loss

-- A delivery that brings so many bytes. Other events bring none.
abbrev pub bringing : ℕ → Event → Event
bringing k (event.ToServer n count) = event.ToServer n k
bringing k (event.ToClient n count) = event.ToClient n k
bringing k e = e

-- The event as it was met: where the link failed in a delivery, with the bytes that had come.
abbrev pub met : Loss → Event → Event
met Nothing e = e
met (Failed came) e = bringing came e

-- The number of the connection that was found.
abbrev pub number_of : Found → Option ℕ
number_of (Missing why) = None
number_of (Here n c) = Some n
number_of (Opens n) = Some n

-- The connection whose link an event uses. The others hand no bytes over and bring none.
abbrev pub link_of : Setup → World → Event → Option ℕ
link_of setup w event.Lease = number_of (about setup w event.Lease)
link_of setup w (event.GiveBack lease) = number_of (about setup w (event.GiveBack lease))
link_of setup w (event.Clean n) = number_of (about setup w (event.Clean n))
link_of setup w (event.Send lease) = number_of (about setup w (event.Send lease))
link_of setup w (event.Cancel lease) = number_of (about setup w (event.Cancel lease))
link_of setup w (event.Work n) = number_of (about setup w (event.Work n))
link_of setup w (event.ToServer n count) = number_of (about setup w (event.ToServer n count))
link_of setup w (event.ToClient n count) = number_of (about setup w (event.ToClient n count))
link_of setup w e = None

-- The connection whose link failed is cut.
abbrev pub cuts : Option ℕ → List Event
cuts None = []
cuts (Some n) = event.Cut n ∷ []

abbrev pub cuts_after : Loss → Option ℕ → List Event
cuts_after Nothing link = []
cuts_after (Failed came) link = cuts link

-- The plain events that one stands for: itself as it was met, and the cut where its link failed.
abbrev pub plainly : Setup → World → Played → List Event
plainly setup w p = met p.loss p.event ∷ cuts_after p.loss (link_of setup w p.event)

-- The world after it.
abbrev pub world_then : Setup → Answers → World → Played → World
world_then setup answers w p = world_after setup answers (plainly setup w p) w

abbrev pub world_with : Setup → Answers → List Played → World → World
world_with setup answers [] w = w
world_with setup answers (p ∷ ps) w = world_with setup answers ps (world_then setup answers w p)

-- The plain schedule that a play stands for.
abbrev pub with_cuts : Setup → Answers → List Played → World → List Event
with_cuts setup answers [] w = []
with_cuts setup answers (p ∷ ps) w =
    plainly setup w p ++ with_cuts setup answers ps (world_then setup answers w p)

-- Whether it was lost.
abbrev pub is_lost : Loss → Bool
is_lost Nothing = false
is_lost (Failed came) = true

-- What is told of it: one outcome, and what is seen after the cut.
abbrev pub report_then : Setup → Answers → World → Played → EventReport
report_then setup answers w p = record {
  outcome = (happens setup answers (met p.loss p.event) w).0;
  lost = is_lost p.loss;
  snapshots = snapshots (world_then setup answers w p);
}

abbrev pub event_reports_with : Setup → Answers → List Played → World → List EventReport
event_reports_with setup answers [] w = []
event_reports_with setup answers (p ∷ ps) w =
    report_then setup answers w p ∷ event_reports_with setup answers ps (world_then setup answers w p)

-- The report of a play with its losses.
abbrev pub observed_with : Setup → Answers → List Played → Report
observed_with setup answers ps =
    report_of (world_with setup answers ps new_world) (event_reports_with setup answers ps new_world)

-- How many bytes came, as an outcome says.
abbrev pub came_in : Outcome → ℕ
came_in (outcome.ToServer k) = k
came_in (outcome.ToClient k) = k
came_in o = 0

-- What a report marks as lost.
abbrev pub loss_by : Bool → Outcome → Loss
loss_by true o = Failed (came_in o)
loss_by false o = Nothing

abbrev pub loss_in : EventReport → Loss
loss_in r = loss_by r.lost r.outcome

-- The events with the losses that their report marks. One that it doesn't tell of lost nothing: so a
-- report that is the play's which it marks tells of each event.
abbrev pub marked : List Event → List EventReport → List Played
marked [] rs = []
marked (e ∷ es) [] = record { event = e; loss = Nothing } ∷ marked es []
marked (e ∷ es) (r ∷ rs) = record { event = e; loss = loss_in r } ∷ marked es rs
