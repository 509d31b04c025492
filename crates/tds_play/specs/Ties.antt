-- What a play keeps of its connections, whatever comes: what it counts as underway is underway at
-- the carrier.
use Rattle.std.specs.Prelude.{ℕ, suc, ◌+◌, ◌≡◌, ◌≤◌, ◌<◌, List, length, Option, Bool, true, false, min, slice_index_or}
use Rattle.tds_packet.specs.declared.kind.Direction.{Direction}
use Rattle.tds_packet.specs.declared.kind.Direction.TheVariants.{ToServer, ToClient}
use Rattle.tds_play.specs.Failures.{HasNoFailure}
use Rattle.tds_play.specs.Pipe.{BegunEvent, Pipe, AreSame, since, traffic, IsFaithful, IsOpen}
use Rattle.tds_play.specs.declared.link.Link.{Link}
use Rattle.tds_play.specs.Seats.{Seated}

-- So many bytes are underway each way, or more.
pub record Holds (up down : ℕ) (pipe : Option Pipe) : Type 0 where
  pub is_open : IsOpen pipe
  pub to_server : up + length (traffic pipe ToServer).came ≤ length (traffic pipe ToServer).handed
  pub to_client : down + length (traffic pipe ToClient).came ≤ length (traffic pipe ToClient).handed

-- A connection of the play, and what the carrier knows of it.
pub record IsTied {E S : Type 0} (link : Link E S) (pipe : Option Pipe) : Type 0 where
  pub server_reads : link.server_reader.direction ≡ ToServer
  pub client_reads : link.client_reader.direction ≡ ToClient
  pub holds : link.is_cut ≡ false → Holds link.to_server link.to_client pipe

-- What each event on the connection of this number keeps: the connection stays tied to what the carrier
-- knows of it, nothing changes at the carrier on the other ones, and it is told of no other event. Where what
-- came then is the first of what was handed over, it was so before.
pub record KeepsTies {E S : Type 0} (number : ℕ) (link : Link E S) (before after : ℕ → Option Pipe)
    (told still : List BegunEvent) : Type 0 where
  pub tied : IsTied link (after number)
  pub others : AreSame before after number
  pub begun : still ≡ told
  pub faithful : IsFaithful (after number) → IsFaithful (before number)

-- The connection of this number was opened: what it was before is forgotten.
pub record OpensTies {E S : Type 0} (number : ℕ) (link : Link E S) (before after : ℕ → Option Pipe)
    (told still : List BegunEvent) : Type 0 where
  pub tied : IsTied link (after number)
  pub others : AreSame before after number
  pub begun : still ≡ told

-- Since a carrier was told of an event nothing was asked of it.
abbrev pub IsJustTold : Bool → List BegunEvent → (ℕ → Option Pipe) → Type 0
IsJustTold is_told told pipes = (n : ℕ) → is_told ≡ true → since told n ≡ pipes n

-- An event comes to the connection of this number, of which nothing was asked since, and where no call ever failed.
pub record IsUnasked (is_told : Bool) (told : List BegunEvent) (pipes : ℕ → Option Pipe) (number : ℕ) : Type 0 where
  pub since_then : is_told ≡ true → since told number ≡ pipes number
  pub unfailed : HasNoFailure (pipes number)

-- The bytes that a connection counts as underway one way.
abbrev pub counted : {E S : Type 0} → Link E S → Direction → ℕ
counted link ToServer = link.to_server
counted link ToClient = link.to_client

-- Each connection has the number of its place.
abbrev pub AreNumbered : {E S : Type 0} → List (Seated E S) → Type 0
AreNumbered {E} {S} links =
    (i : ℕ) (d : Seated E S) → i < length links → (slice_index_or links i d).link.number ≡ suc i

-- All connections of a play, numbered from 1.
pub record AreTied {E S : Type 0} (links : List (Seated E S)) (pipes : ℕ → Option Pipe) : Type 0 where
  pub numbered : (i : ℕ) (d : Seated E S) → i < length links
      → (slice_index_or links i d).link.number ≡ suc i
  pub tied : (i : ℕ) (d : Seated E S) → i < length links
      → IsTied (slice_index_or links i d).link (pipes (suc i))

-- The connection with so many bytes underway one way.
abbrev pub with_counted : {E S : Type 0} → Link E S → Direction → ℕ → Link E S
with_counted link ToServer n = record link { to_server = n }
with_counted link ToClient n = record link { to_client = n }

-- A count of 64 bits stops at its largest number.
abbrev pub saturated : ℕ → ℕ
saturated n = min n 18446744073709551615
