-- What becomes of a pool's connections, call after call.
use Rattle.std.specs.Prelude.{◌≡◌, ℕ, suc, ◌<◌, IfSome, List, [], ◌∷◌, ◌++◌}
use Rattle.tds_client.specs.Session.{ClientSession}
use Rattle.tds_pool.specs.declared.lease.Turn.{Turn}
use Rattle.tds_pool.specs.declared.seat.Place.{Place}
use Rattle.tds_pool.specs.Connections.{Connection, numbered, changed_in, taken_out, next_turn}
use Rattle.tds_pool.specs.Calls.{new_connection}

-- A pool as who uses it sees it: its name, the last number that was used, and the connections.
pub record Seen : Type 0 where
  pub name : ℕ
  pub last : ℕ
  pub connections : List Connection

-- What a call can do to them.
pub data Move : Type 0 where
  -- the connection of this number stands at another place, or its client is another
  Changes : (number : ℕ) (place : Connection → Place) (client : Connection → ClientSession) → Move
  -- a lending of the connection of this number ends, and it stands at another place
  Ends : (number : ℕ) (place : Connection → Place) → Move
  -- the connection of this number is taken out
  TakesOut : (number : ℕ) → Move
  -- a new connection comes, under this key, for packets of this size; its number is the next one
  Opens : (key size : ℕ) → Move

abbrev pub moved : Move → Seen → Seen
moved (Changes number place client) p =
    record p { connections = changed_in number (λ (c : Connection). record c { place = place c; client = client c }) p.connections }
moved (Ends number place) p =
    record p { connections = changed_in number (λ (c : Connection). record c { place = place c; turn = next_turn c.turn }) p.connections }
moved (TakesOut number) p = record p { connections = taken_out number p.connections }
moved (Opens key size) p =
    record p { last = suc p.last; connections = p.connections ++ new_connection p.name (suc p.last) key size ∷ [] }

-- behind some of them, one after the other
abbrev pub behind : List Move → Seen → Seen
behind [] p = p
behind (move ∷ moves) p = behind moves (moved move p)

-- These are the connections behind some moves; no number was used by them.
pub record AreBehind (p : Seen) (cs : List Connection) : Type 0 where
  pub moves : List Move
  pub so : behind moves p ≡ record p { connections = cs }

-- A lending that has ended: its connection is out, or in a later turn.
abbrev pub IsOver : ℕ → Turn → List Connection → Type 0
IsOver number turn cs = IfSome (numbered number cs) (λ c. turn.count < c.turn.count)

-- All connections are of the pool of this name.
abbrev pub AreOf : ℕ → List Connection → Type 0
AreOf name [] = Unit {0}
AreOf name (c ∷ cs) = (c.turn.pool ≡ name) × AreOf name cs
