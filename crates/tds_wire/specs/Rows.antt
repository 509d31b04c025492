-- Rows that are whole in a run of bytes (MS-TDS 2.2.7.19).
use Rattle.std.specs.Prelude.{◌≡◌, ℕ, ◌-◌, List, drop, length}
use Rattle.tds_wire.specs.declared.due.Due.TheVariants.{Token}
use Rattle.tds_wire.specs.declared.due.Inside.TheVariants as inside
use Rattle.tds_wire.specs.declared.shape.Shape.{Shape}
use Rattle.tds_wire.specs.declared.told.Token.{Token as AnyToken}
use Rattle.tds_wire.specs.declared.told.Told.TheVariants as told
use Rattle.tds_wire.specs.Bytes.{to_end}
use Rattle.tds_wire.specs.Reading.{Parser, Sees, next_token}
use Rattle.tds_wire.specs.Told.{added}
use Rattle.tds_wire.specs.Walking.{Walk, value_due, valued, with_due}

-- a value of this shape is so many bytes
abbrev pub Passes : Shape → ℕ → List ℕ → Type 0
Passes s n bytes = (w : Walk) → to_end (with_due w (value_due s)) bytes ≡ to_end (valued w.at.inside w) (drop n bytes)

-- the walk behind a row
abbrev pub behind_row : Walk → Walk
behind_row w = record w { at = record w.at { due = Token; kind = 0xD1; inside = inside.Row (length w.columns - 1) } }

-- the parser behind one of so many bytes
abbrev pub past_row : Parser → ℕ → Parser
past_row r n = record r { walk = behind_row r.walk; start = added r.start n }

-- a row of so many bytes: it says nothing
abbrev pub row_token : ℕ → Parser → AnyToken
row_token n r = record { kind = 0xD1; start = r.start; length = n; told = told.Other }

-- the next token is a row of so many bytes, between these two
abbrev pub IsPassed : ℕ → Parser → Parser → List ℕ → Type 0
IsPassed n r s piece = next_token r piece ≡ Sees (row_token n r) s (drop n piece)
