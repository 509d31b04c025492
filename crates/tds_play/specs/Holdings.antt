-- Leases or tickets: each one, or the connection of each, by its number.
use Rattle.std.specs.Prelude.{ℕ, zero, suc, List, length, replicate, Option, Some, None, slice_set}
use Rattle.tds_world.specs.World.{numbered}

-- One that is known: none, once it has ended.
abbrev pub conn_in : {A : Type 0} → Option (Option A) → Option A
conn_in None = None
conn_in (Some conn) = conn

-- The one with this number, or its connection, unless it is unknown or has ended.
abbrev pub conn_of : {A : Type 0} → List (Option A) → ℕ → Option A
conn_of holdings number = conn_in (numbered holdings number)

-- The one with this number has ended. An unknown one ends nothing.
abbrev pub ended_of : {A : Type 0} → List (Option A) → ℕ → List (Option A)
ended_of holdings zero = holdings
ended_of holdings (suc place) = slice_set holdings place None

-- The one with this number stands there again.
abbrev pub put_in : {A : Type 0} → List (Option A) → ℕ → A → List (Option A)
put_in holdings zero held = holdings
put_in holdings (suc place) held = slice_set holdings place (Some held)

-- All of them have ended.
abbrev pub all_ended : {A : Type 0} → List (Option A) → List (Option A)
all_ended holdings = replicate (length holdings) None
