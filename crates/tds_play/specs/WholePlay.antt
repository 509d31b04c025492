-- A whole play: what is told of it, and what its carrier was handed.
use Rattle.std.specs.Prelude.{ℕ, ◌≡◌, ◌<◌, ◌≤◌, List, length, Bool, Option, Some, None}
use Rattle.std.specs.List.{AllByRecursion}
use Rattle.tds_packet.specs.declared.kind.Direction.{Direction}
use Rattle.tds_packet.specs.declared.kind.Direction.TheVariants.{ToServer, ToClient}
use Rattle.tds_session.specs.Answer.{Answers, script_answers}
use Rattle.tds_world.specs.declared.event.Event.{Event}
use Rattle.tds_world.specs.declared.event.Setup.{Setup}
use Rattle.tds_world.specs.declared.report.EventReport.{EventReport}
use Rattle.tds_world.specs.declared.report.Report.{Report}
use Rattle.tds_world.specs.Bounds.{IsEvent, IsSetup}
use Rattle.tds_world.specs.Caller.{cancels}
use Rattle.tds_world.specs.Connection.{Connection, is_cut}
use Rattle.tds_world.specs.Entries.{up_bytes, down_bytes}
use Rattle.tds_world.specs.Events.{world_after}
use Rattle.tds_world.specs.Losses.{marked, world_with}
use Rattle.tds_world.specs.Observed.{bytes_of, observed}
use Rattle.tds_world.specs.WithLosses.{IsReportWith, MarksNothing}
use Rattle.tds_world.specs.rest.Rest.{AreAll, BringsToRest, stopping}
use Rattle.tds_world.specs.World.{Here, World, by_number, new_world, numbered}
use Rattle.tds_world.specs.Lane.{come_bytes}
use Rattle.tds_play.specs.Pipe.{Pipe, traffic}

-- The world of the model after these events with the losses that their reports mark, where servers
-- know the batch language.
abbrev pub world_of : Setup → List Event → List EventReport → World
world_of setup events reports = world_with setup script_answers (marked events reports) new_world

-- What was handed over on each connection, each way, is what was sent there in the model.
abbrev pub HandsBytesOf : World → (ℕ → Option Pipe) → Type 0
HandsBytesOf w pipes =
    (n : ℕ) (direction : Direction) → 0 < n → n ≤ length w.connections
    → (traffic (pipes n) direction).handed ≡ bytes_of w n direction

-- The bytes that have come to an end of a connection of the model.
abbrev pub come_on : Direction → Connection → List ℕ
come_on ToServer c = come_bytes up_bytes c.to_server
come_on ToClient c = come_bytes down_bytes c.to_client

-- What the carrier brought on each connection, each way, is what came there in the model: the bytes of
-- the entries that arrived, and those that had come of the next one.
abbrev pub CarriesBytesOf : World → (ℕ → Option Pipe) → Type 0
CarriesBytesOf w pipes =
    (n : ℕ) (c : Connection) (direction : Direction) → numbered w.connections n ≡ Some c
    → (traffic (pipes n) direction).came ≡ come_on direction c

-- A connection that was opened at the carrier, and is cut there or not.
abbrev pub IsCutAs : Bool → Option Pipe → Type 0
IsCutAs cut None = ⊥
IsCutAs cut (Some p) = p.is_cut ≡ cut

-- Each connection was opened at the carrier, and is cut there exactly where it is cut in the model.
abbrev pub CutsThoseOf : World → (ℕ → Option Pipe) → Type 0
CutsThoseOf w pipes =
    (n : ℕ) (c : Connection) → numbered w.connections n ≡ Some c
    → IsCutAs (is_cut c.standing) (pipes n)

-- Where no event was lost, the play is the model's of the events as they are.
pub record IsWholePlayOf (setup : Setup) (answers : Answers) (events : List Event) (report : Report) : Type 0 where
  pub told : report ≡ observed setup answers events
  pub world : world_with setup answers (marked events report.events) new_world ≡ world_after setup answers events new_world

-- The play of these events from nothing: its report is the model's with the losses that it marks, and
-- so are the bytes that were handed over, those that came, and what is cut. It is one that is played:
-- its setup is in range, its requests have a spelling, and its events are not too many.
pub record IsReportOfPlay (setup : Setup) (answers : Answers) (events : List Event) (report : Report)
    (pipes : ℕ → Option Pipe) : Type 0 where
  pub in_range : IsSetup setup
  pub known : AllByRecursion IsEvent events
  pub few : length events ≤ 10000
  pub told : IsReportWith setup answers events report
  pub bytes : HandsBytesOf (world_with setup answers (marked events report.events) new_world) pipes
  pub carried : CarriesBytesOf (world_with setup answers (marked events report.events) new_world) pipes
  pub cuts : CutsThoseOf (world_with setup answers (marked events report.events) new_world) pipes
  pub plain : MarksNothing report → IsWholePlayOf setup answers events report

-- Each connection of a world that isn't cut comes to rest by a cancel and what is underway then, wherever it stands.
abbrev pub CanAllStop : Setup → Answers → World → Type 0
CanAllStop setup answers w =
    (n : ℕ) (c : Connection) (up down : ℕ)
    → by_number w n ≡ Here n c → AreAll answers (cancels c) up down
    → BringsToRest setup answers w n c (stopping c.standing n up down)
