-- What a delivery makes arrive: the longest front of what waits whose sizes sum to at most the
-- bytes that have come of it.
use Rattle.std.specs.Prelude.{ℕ, ◌≡◌, ◌+◌, min, List, ◌++◌, length, flat_map}
use Rattle.tds_session.specs.Answer.{Answers}
use Rattle.tds_world.specs.Arrivals.{to_server, to_client}
use Rattle.tds_world.specs.Connection.{Connection}
use Rattle.tds_world.specs.Entries.{up_bytes, down_bytes}
use Rattle.tds_world.specs.Lane.{Lane, IsLongestFront, underway}
use Rattle.tds_world.specs.Laws.{OfEachConnection}
use Rattle.tds_world.specs.World.{World}

-- Of an old lane, n more bytes were delivered, or all where fewer were underway, and it became the
-- new one: of the bytes that have come, those behind the front that arrived are a part of the rest.
pub record IsDelivered {Entry : Type 0} (bytes : Entry → List ℕ) (n : ℕ) (old new : Lane Entry)
    : Type 0 where
  pub front : List Entry
  pub longest :
      IsLongestFront bytes old.waiting (old.part + min n (underway bytes old)) front new.waiting
  pub arrived : new.arrived ≡ old.arrived ++ front
  pub part : length (flat_map bytes front) + new.part ≡ old.part + min n (underway bytes old)

-- Each delivery to a connection, either way and of any count, is such a one.
abbrev pub DeliversOn : Answers → Connection → Type 0
DeliversOn answers c =
    (n : ℕ)
    → IsDelivered up_bytes n c.to_server (to_server answers n c).to_server
    × IsDelivered down_bytes n c.to_client (to_client n c).to_client

abbrev pub DeliversExactly : Answers → World → Type 0
DeliversExactly answers w = OfEachConnection (DeliversOn answers) w
