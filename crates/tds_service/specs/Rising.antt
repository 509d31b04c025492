-- The connections of a table stand by rising numbers.
use Rattle.std.specs.Prelude.{ℕ, suc, ◌≤◌, List, [], ◌∷◌, map}
use Rattle.std.specs.Coded.{×_prop, le_prop}
use Rattle.tds_service.specs.declared.seat.Seat as seats

abbrev pub numbers_in : List seats.Seat → List ℕ
numbers_in cs = map (λ (c : seats.Seat). c.number) cs

-- these numbers are from low upward, each above the one before it, and all are below top
abbrev pub RiseFrom : ℕ → List ℕ → ℕ → Type 0
RiseFrom low [] top = low ≤ top
RiseFrom low (n ∷ ns) top = (low ≤ n) × RiseFrom (suc n) ns top

pub RiseFrom-prop : (low : ℕ) (ns : List ℕ) (top : ℕ) → IsProp (RiseFrom low ns top)
RiseFrom-prop low [] top = le_prop
RiseFrom-prop low (n ∷ ns) top = ×_prop le_prop (RiseFrom-prop (suc n) ns top)
