-- The order in which requests were asked: which of their numbers are a connection's.
use Rattle.std.specs.Prelude.{ℕ, suc, ◌≡◌, List, [], ◌∷◌, map, Bool, true, false, ◌==◌, Some}
use Rattle.std.specs.List.{AllByRecursion}
use Rattle.tds_world.specs.Connection.{Connection, records}
use Rattle.tds_world.specs.World.{World, numbered}

abbrev pub number_if : Bool → ℕ → List ℕ → List ℕ
number_if true number later = number ∷ later
number_if false number later = later

-- Of requests that were asked on these connections, of which the first has this number, the numbers
-- of those that were asked on connection n.
abbrev pub numbers_on : ℕ → ℕ → List ℕ → List ℕ
numbers_on n number [] = []
numbers_on n number (m ∷ ms) = number_if (m == n) number (numbers_on n (suc number) ms)

-- The records of connection n are just those of the requests that were asked on it, in their order.
pub record IsInOrder (n : ℕ) (asked_on : List ℕ) (c : Connection) : Type 0 where
  pub numbers : map (λ q. q.number) (records c) ≡ numbers_on n 1 asked_on
  pub conns : AllByRecursion (λ q. q.conn ≡ n) (records c)

-- It is so on each connection, and each request was asked on one of them.
pub record RequestsInOrder (w : World) : Type 0 where
  pub each : (n : ℕ) (c : Connection) → numbered w.connections n ≡ Some c → IsInOrder n w.asked_on c
  pub known : AllByRecursion (λ n. (c : Connection) × (numbered w.connections n ≡ Some c)) w.asked_on
