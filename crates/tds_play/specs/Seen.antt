-- What is seen of a connection of a play, and what an event came to there.
use Rattle.std.specs.Prelude.{ℕ, zero, suc, Bool, true, false, List, Option, Some, None, option_map, slice_get}
use Rattle.tds_client.specs.Session as client
use Rattle.tds_world.specs.declared.outcome.Outcome.{Outcome}
use Rattle.tds_world.specs.declared.outcome.Outcome.TheVariants as outcome
use Rattle.tds_world.specs.declared.report.ClientView.{ClientView}
use Rattle.tds_world.specs.declared.report.ClientView.TheVariants as view
use Rattle.tds_world.specs.declared.report.Snapshot.{Snapshot}
use Rattle.tds_play.specs.declared.feeding.Fault.{Fault}
use Rattle.tds_play.specs.declared.link.EventDone.{EventDone}
use Rattle.tds_play.specs.declared.link.Link.{Link}
use Rattle.tds_play.specs.Seats.{Seat, Seated}

-- ---- What is seen

-- A broken client isn't seen.
abbrev pub view_of : client.Stage → Option ClientView
view_of client.Idle = Some view.Idle
view_of (client.Sending kind left packets) = Some view.Sending
view_of client.Reading = Some view.Reading
view_of client.Cancelling = Some view.Cancelling
view_of (client.Broken fault) = None

abbrev pub snapshot_as : {E S : Type 0} → Link E S → Seat → ClientView → Snapshot
snapshot_as link seat v = record {
  conn = link.number;
  client = v;
  place = seat.place;
  descriptor = seat.client.heard.descriptor;
  mark = seat.client.heard.mark;
  server = link.server.session;
  to_server = link.to_server;
  to_client = link.to_client;
}

-- Nor is a connection that is cut.
abbrev pub seen_by : {E S : Type 0} → Bool → Link E S → Seat → Option Snapshot
seen_by true link seat = None
seen_by false link seat = option_map (snapshot_as link seat) (view_of seat.client.stage)

abbrev pub seen_in : {E S : Type 0} → Link E S → Seat → Option Snapshot
seen_in link seat = seen_by link.is_cut link seat

abbrev pub seen_of : {E S : Type 0} → Seated E S → Option Snapshot
seen_of x = seen_in x.link x.seat

abbrev pub seen_if : {E S : Type 0} → Option (Seated E S) → Option Snapshot
seen_if None = None
seen_if (Some x) = seen_of x

-- What is seen of the connection of this number, of connections whose numbers begin with 1.
abbrev pub seen_at : {E S : Type 0} → List (Seated E S) → ℕ → Option Snapshot
seen_at xs zero = None
seen_at xs (suc place) = seen_if (slice_get xs place)

-- ---- What an event came to

-- This outcome, and the carrier did not fail.
abbrev pub done_as : Outcome → EventDone
done_as what = record { outcome = what; lost = false }

abbrev pub outcome_of : Fault → Outcome
outcome_of f = outcome.Fault f.end f.layer f.number
