-- A table of numbers: what has a number, as a connection, by it, with the key under which a slab keeps it.
use Rattle.std.specs.Prelude.{ℕ, ◌<◌, ◌≤◌, ◌==◌, not, List, [], ◌∷◌, length, map, filter, slice_index, Option, Some, None, if◌then◌else◌}
use Rattle.tds_numbers.specs.declared.numbers.Entry.{Entry}

-- the numbers in their order, and the number and the key at a place, counted from 0
abbrev pub numbers : List Entry → List ℕ
numbers entries = map (λ (e : Entry). e.number) entries

abbrev pub number_at : List Entry → ℕ → ℕ
number_at entries place = slice_index (numbers entries) place

abbrev pub key_at : List Entry → ℕ → ℕ
key_at entries place = slice_index (map (λ (e : Entry). e.key) entries) place

-- the key that stands beside this number
abbrev pub key_of : List Entry → ℕ → Option ℕ
key_of [] number = None
key_of (e ∷ es) number = if e.number == number then Some e.key else key_of es number

-- the table without this number
abbrev pub without : ℕ → List Entry → List Entry
without number entries = filter (λ (e : Entry). not (e.number == number)) entries

-- each number is below this one
abbrev pub AreBelow : ℕ → List Entry → Type 0
AreBelow number [] = Unit {0}
AreBelow number (e ∷ es) = (e.number < number) × AreBelow number es

-- each number is above this one
abbrev pub AreAbove : ℕ → List Entry → Type 0
AreAbove number [] = Unit {0}
AreAbove number (e ∷ es) = (number < e.number) × AreAbove number es

-- each number is above the one before it
abbrev pub AreRising : List Entry → Type 0
AreRising [] = Unit {0}
AreRising (e ∷ es) = AreAbove e.number es × AreRising es

-- what holds of every table
pub record IsTable (entries : List Entry) : Type 0 where
  pub few : length entries ≤ 1024
  pub rising : AreRising entries
