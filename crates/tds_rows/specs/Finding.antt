-- What a call found, as the definitions have it.
use Rattle.std.specs.Prelude.{◌≡◌, ◌≢◌, ◌+◌, ◌-◌, ◌≤◌, ◌<◌, ℕ, List, map, take, drop, get_or, length, Option, Some, None, Result, Ok, Err}
use Rattle.tds_wire.specs.declared.fault.WireFault.TheVariants as wire
use Rattle.tds_wire.specs.declared.features.Features.{Features}
use Rattle.tds_wire.specs.declared.shape.Shape.{Shape}
use Rattle.tds_wire.specs.Layout.{Read, Got, Short, Wrong}
use Rattle.tds_wire.specs.Memory.{shape_of}
use Rattle.tds_rows.specs.declared.place.Place.{Place}
use Rattle.tds_rows.specs.declared.place.Described.{Described}
use Rattle.tds_rows.specs.declared.place.RowColumn.{RowColumn}
use Rattle.tds_rows.specs.declared.place.RowFault.{RowFault}
use Rattle.tds_rows.specs.declared.place.RowFault.TheVariants as fault
use Rattle.tds_rows.specs.Columns.{metadata_at}
use Rattle.tds_rows.specs.Places.{row_placed, two_from}

-- ---- A value

-- a value of so many bytes, at this place, or the bytes end first
abbrev pub ValueFound : Read Place → List ℕ → Option (Place × ℕ) → Type 0
ValueFound read bytes (Some found) = (found.1 ≤ length bytes) × (read ≡ Got found.0 (drop found.1 bytes))
ValueFound read bytes None = read ≡ Short

-- so many bytes are passed, or the bytes end first
abbrev pub EndsAfter : {A : Type 0} → A → Read A → List ℕ → Option ℕ → Type 0
EndsAfter x read bytes (Some n) = (n ≤ length bytes) × (read ≡ Got x (drop n bytes))
EndsAfter x read bytes None = read ≡ Short

-- ---- A row

-- at this place of bytes stands this one
abbrev pub IsKind : ℕ → ℕ → List ℕ → Type 0
IsKind kind at bytes = (at < length bytes) × (get_or bytes at 0 ≡ kind)

unfoldable pub column_shapes : List RowColumn → List Shape
column_shapes columns = map (λ (c : RowColumn). shape_of c.shape) columns

-- why there is no row at this place of bytes, with room for so many places
abbrev pub NoRowAt : RowFault → ℕ → List Shape → List ℕ → ℕ → Type 0
NoRowAt fault.Short at shapes bytes room = row_placed at shapes (drop at bytes) ≡ Short
NoRowAt fault.OtherToken at shapes bytes room = row_placed at shapes (drop at bytes) ≡ Wrong wire.UnknownToken (drop (at + 1) bytes)
NoRowAt fault.NoColumns at shapes bytes room = row_placed at shapes (drop at bytes) ≡ Wrong wire.NoColumns (drop (at + 1) bytes)
NoRowAt fault.UnknownType at shapes bytes room = ⊥
NoRowAt fault.NoRoom at shapes bytes room = room < length shapes

-- the values of all columns of the row at this place, and where it ends; or why there is no such row
abbrev pub RowFound : Result ℕ RowFault → ℕ → List Shape → List ℕ → List Place → Type 0
RowFound (Ok n) at shapes bytes places = (n ≤ length bytes) × (row_placed at shapes (drop at bytes) ≡ Got (take (length shapes) places) (drop n bytes))
RowFound (Err e) at shapes bytes places = NoRowAt e at shapes bytes (length places)

-- the values of all columns, and how many bytes the row has; or why there is no such row
abbrev pub PlacesFound : Result ℕ RowFault → List Shape → List ℕ → List Place → Type 0
PlacesFound result shapes bytes places = RowFound result 0 shapes bytes places

-- ---- Columns

-- what is described, by how many columns are written
abbrev pub written : Option ℕ → List RowColumn → Option (List RowColumn)
written None columns = None
written (Some n) columns = Some (take n columns)

-- the columns that a COLMETADATA describes, and how many bytes it has; or why there is no such token
abbrev pub Describes : Result Described RowFault → Features → List ℕ → List RowColumn → Type 0
Describes (Ok d) features bytes columns =
    (rest : List ℕ) × (metadata_at features bytes ≡ Got (written d.count columns) rest) × (d.length ≡ length bytes - length rest)
Describes (Err fault.Short) features bytes columns = metadata_at features bytes ≡ Short
Describes (Err fault.OtherToken) features bytes columns = metadata_at features bytes ≡ Wrong wire.UnknownToken (drop 1 bytes)
Describes (Err fault.NoColumns) features bytes columns = ⊥
Describes (Err fault.UnknownType) features bytes columns = (rest : List ℕ) × (metadata_at features bytes ≡ Wrong wire.UnknownType rest)
Describes (Err fault.NoRoom) features bytes columns = (length columns < two_from 1 bytes) × (two_from 1 bytes ≢ 65535)
