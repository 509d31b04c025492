-- What a pool is: its connections, by rising numbers.
use Rattle.std.specs.Prelude.{◌≡◌, ℕ, suc, ◌+◌, ◌==◌, ◌≤◌, ◌&&◌, nat_lt, Bool, not, List, [], ◌∷◌, map, filter, length, Option, Some, None, option_map, if◌then◌else◌}
use Rattle.std.specs.List.{find}
use Rattle.slab.specs.Slab.{Slab, get, with_value}
use Rattle.tds_client.specs.Session.{ClientSession, new_session}
use Rattle.tds_numbers.specs.declared.numbers.Entry.{Entry}
use Rattle.tds_pool.specs.declared.lease.Turn.{Turn}
use Rattle.tds_pool.specs.declared.seat.Place.{Place}
use Rattle.tds_pool.specs.declared.seat.Place.TheVariants.{Free}
use Rattle.tds_pool.specs.declared.seat.Seat.{Seat}
use Rattle.tds_numbers.specs.Table.{key_of, AreBelow}

-- A pool: its name, how many connections it may have, their packet size, the last number that was used, the table of
-- numbers, and the slab that keeps the connections. What a caller speaks of are its connections.
pub record PoolState : Type 0 where
  pub name : ℕ
  pub max : ℕ
  pub size : ℕ
  pub last : ℕ
  pub entries : List Entry
  pub seats : Slab Seat

-- A connection: its number, the key of its slab, the turn of its lending now or of its next one, where it stands, and its
-- client.
pub record Connection : Type 0 where
  pub number : ℕ
  pub key : ℕ
  pub turn : Turn
  pub place : Place
  pub client : ClientSession

-- ---- Turns

-- The first lending of a connection of the pool of this name.
abbrev pub first_turn : ℕ → Turn
first_turn pool = record { pool = pool; count = 0 }

-- The lending after this one. The last count, 2^64 - 1, stays.
abbrev pub next_turn : Turn → Turn
next_turn turn = record turn { count = if nat_lt turn.count 18446744073709551615 then turn.count + 1 else turn.count }

-- Whether two of one connection are the same: of one pool, and of one count.
abbrev pub same_turn : Turn → Turn → Bool
same_turn a b = (a.pool == b.pool) && (a.count == b.count)

-- A connection of the table as the slab keeps it. Each one is there.
abbrev pub seat_or_none : Option Seat → Seat
seat_or_none None = record { number = 0; turn = first_turn 0; place = Free; client = new_session 0 }
seat_or_none (Some seat) = seat

abbrev pub shown : Slab Seat → Entry → Connection
shown seats e = record {
  number = e.number;
  key = e.key;
  turn = (seat_or_none (get seats e.key)).turn;
  place = (seat_or_none (get seats e.key)).place;
  client = (seat_or_none (get seats e.key)).client;
}

-- The connections of a pool, by rising numbers.
abbrev pub connections : PoolState → List Connection
connections p = map (shown p.seats) p.entries

-- ---- One connection of them

abbrev pub numbered : ℕ → List Connection → Option Connection
numbered number cs = find (λ (c : Connection). c.number == number) cs

-- one of them that was changed, and the others as they are
abbrev pub changed_in : ℕ → (Connection → Connection) → List Connection → List Connection
changed_in number f cs = map (λ (c : Connection). if c.number == number then f c else c) cs

-- it stands elsewhere, or its client is another
abbrev pub at_place : ℕ → Place → List Connection → List Connection
at_place number place cs = changed_in number (λ (c : Connection). record c { place = place }) cs

abbrev pub with_client : ℕ → ClientSession → List Connection → List Connection
with_client number client cs = changed_in number (λ (c : Connection). record c { client = client }) cs

-- a lending of it ends, and it stands elsewhere
abbrev pub lending_ended_at : ℕ → Place → List Connection → List Connection
lending_ended_at number place cs = changed_in number (λ (c : Connection). record c { place = place; turn = next_turn c.turn }) cs

-- it is taken out
abbrev pub taken_out : ℕ → List Connection → List Connection
taken_out number cs = filter (λ (c : Connection). not (c.number == number)) cs

-- ---- The slab

-- the number of what the slab keeps under this key
abbrev pub number_under : Slab Seat → ℕ → Option ℕ
number_under seats key = option_map (λ (seat : Seat). seat.number) (get seats key)

-- the pool with another connection under this key
abbrev pub reseated : PoolState → ℕ → Seat → PoolState
reseated p key seat = record p { seats = with_value p.seats key seat }

-- what the slab keeps under a key is shown so
abbrev pub connection_of : ℕ → ℕ → Seat → Connection
connection_of number key seat = record { number = number; key = key; turn = seat.turn; place = seat.place; client = seat.client }

-- what no call but `new` and `lease` changes
pub record SameRest (old new : PoolState) : Type 0 where
  pub name : new.name ≡ old.name
  pub max : new.max ≡ old.max
  pub size : new.size ≡ old.size
  pub last : new.last ≡ old.last

-- each key of the table has its number in the slab
abbrev pub Agree : Slab Seat → List Entry → Type 0
Agree seats [] = Unit {0}
Agree seats (e ∷ es) = (number_under seats e.key ≡ Some e.number) × Agree seats es

-- What holds of every pool: table and slab have the same connections, of numbers that were used, and there are at most `max`.
pub record IsPool (p : PoolState) : Type 0 where
  pub agree : Agree p.seats p.entries
  pub back : (key number : ℕ) → number_under p.seats key ≡ Some number → key_of p.entries number ≡ Some key
  pub used : AreBelow (suc p.last) p.entries
  pub few : length p.entries ≤ p.max
  pub one : 1 ≤ p.max
  pub most : p.max ≤ 1024
