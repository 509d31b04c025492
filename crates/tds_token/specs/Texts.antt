-- Texts, rows and counts of columns, as they lie in bytes.
use Rattle.std.specs.Prelude.{ℕ, ℤ, ◌+◌, ◌*◌, ◌≤◌, ◌<◌, List, [], ◌∷◌, Option, IfSome, get_or}
use Rattle.std.specs.Int.{w16, w32, cast_signed, to_le_bytes, from_le_bytes}
use Rattle.std.specs.List.{flat_map}

-- The UTF-16 units that lie in these bytes, each with its low byte first (MS-TDS 2.2.5.2.3). An
-- odd byte at the end is no unit.
abbrev pub units_of : List ℕ → List ℕ
units_of [] = []
units_of (low ∷ []) = []
units_of (low ∷ high ∷ bytes) = (low + 256 * high) ∷ units_of bytes

-- The bytes of these units.
abbrev pub units_bytes : List ℕ → List ℕ
units_bytes units = flat_map (λ unit. to_le_bytes w16 unit) units

-- The signed numbers that lie in these bytes, four bytes each, the low byte first.
abbrev pub ints_of : List ℕ → List ℤ
ints_of (a ∷ b ∷ c ∷ d ∷ bytes) =
    cast_signed w32 (from_le_bytes w32 (a ∷ b ∷ c ∷ d ∷ [])) ∷ ints_of bytes
ints_of _ = []

-- How many values a row has, where that is known: 1 to 16.
abbrev pub AreColumns : Option ℕ → Type 0
AreColumns columns = IfSome columns (λ n. (1 ≤ n) × (n ≤ 16))

-- Each is a byte.
abbrev pub IsBytes : List ℕ → Type 0
IsBytes bytes = (i : ℕ) → get_or bytes i 0 < 256
