-- The seat of a connection: where it stands in the pool, and its client.
use Rattle.std.specs.Prelude.{ℕ, ◌==◌, ◌||◌, Bool, true, false, Option, Some, None, is_none}
use Rattle.tds_client.specs.Session.{ClientSession, unless_idle, marked}
use Rattle.tds_packet.specs.declared.status.Reset.{Reset}
use Rattle.tds_world.specs.declared.outcome.Refusal.{Refusal}
use Rattle.tds_world.specs.declared.outcome.Refusal.TheVariants.{NotIdle, NothingToKeep}
use Rattle.tds_world.specs.declared.report.Place.{Place}
use Rattle.tds_world.specs.declared.report.Place.TheVariants.{Draining, Free, Leased}
use Rattle.tds_world.specs.Pool.{is_full}
use Rattle.tds_world.specs.declared.event.Event.{Event}
use Rattle.tds_world.specs.declared.event.Event.TheVariants as event
use Rattle.tds_play.specs.declared.link.Link.{Link}

-- What the pool has of a connection, in the words of a play. It means nothing once its connection is cut.
pub record Seat : Type 0 where
  pub place : Place
  pub client : ClientSession

-- A connection and its seat.
pub record Seated (E S : Type 0) : Type 0 where
  pub link : Link E S
  pub seat : Seat

abbrev pub seated : Place → ClientSession → Seat
seated p client = record { place = p; client = client }

-- It is lent, and its next request is to ask for this reset.
abbrev pub lent_as : ℕ → Reset → Seat → Seat
lent_as lease mark seat = seated (Leased lease) (marked seat.client mark)

-- It stands elsewhere in the pool.
abbrev pub placed_at : Place → Seat → Seat
placed_at p seat = record seat { place = p }

-- A draining connection is free once its client is idle.
abbrev pub drained_at : Bool → Place → Place
drained_at true Draining = Free
drained_at idle place = place

abbrev pub drained : Seat → Seat
drained seat = placed_at (drained_at (is_none (unless_idle seat.client.stage)) seat.place) seat

-- Where it stands after an event of its ends: a delivery to the client may end its draining.
abbrev pub placed_behind : Event → ClientSession → Place → Place
placed_behind (event.ToClient n count) s p = drained_at (is_none (unless_idle s.stage)) p
placed_behind e s p = p

abbrev pub behind_event : Event → Seat → Seat
behind_event e seat = placed_at (placed_behind e seat.client seat.place) seat

-- Why a client's connection isn't kept: it isn't idle, or it has no transaction, or one that a full
-- reset is to end.
abbrev pub unless_kept_by : Bool → Bool → Option Refusal
unless_kept_by false nothing = Some NotIdle
unless_kept_by true true = Some NothingToKeep
unless_kept_by true false = None

abbrev pub unless_kept : ClientSession → Option Refusal
unless_kept s =
    unless_kept_by (is_none (unless_idle s.stage)) (s.heard.descriptor == 0 || is_full s.heard.mark)
