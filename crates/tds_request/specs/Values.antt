-- What a batch's text and an isolation level are.
use Rattle.std.specs.Prelude.{ℕ, ◌<◌, ◌≤◌, List, length}
use Rattle.std.specs.List.{All}

-- Every unit is a number of two bytes.
abbrev pub AreUnits : List ℕ → Type 0
AreUnits units = All (λ unit. unit < 65536) units

-- The text of a batch has 1 to 2,000 UTF-16 units, whatever they are. MS-TDS 2.2.6.7.
pub record IsBatchText (units : List ℕ) : Type 0 where
  pub least : 1 ≤ length units
  pub most : length units ≤ 2000
  pub wide : AreUnits units

-- 0 no change, 1 read uncommitted, 2 read committed, 3 repeatable read, 4 serializable, 5 snapshot. MS-TDS 2.2.6.9.
abbrev pub IsIsolation : ℕ → Type 0
IsIsolation level = level ≤ 5

-- Every byte is a number of one byte.
abbrev pub AreBytes : List ℕ → Type 0
AreBytes bytes = All (λ byte. byte < 256) bytes
