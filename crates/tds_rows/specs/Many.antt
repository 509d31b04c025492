-- The rows that bytes have, one behind the other.
use Rattle.std.specs.Prelude.{◌≡◌, ◌≤◌, ◌<◌, ◌-◌, ◌*◌, ℕ, List, take, drop, length, Option, Some, None}
use Rattle.tds_wire.specs.declared.shape.Shape.{Shape}
use Rattle.tds_wire.specs.Layout.{Got}
use Rattle.tds_rows.specs.declared.place.Place.{Place}
use Rattle.tds_rows.specs.declared.place.RowFault.{RowFault}
use Rattle.tds_rows.specs.declared.place.RowsPlaced.{RowsPlaced}
use Rattle.tds_rows.specs.Finding.{NoRowAt}
use Rattle.tds_rows.specs.Laws.{DividesRows}
use Rattle.tds_rows.specs.Places.{rows_placed}

-- why they end here: no byte is left, or what stands here is no row that is whole, or no room is left for one
abbrev pub RowsEnd : Option RowFault → ℕ → List Shape → List ℕ → ℕ → Type 0
RowsEnd None at shapes bytes room = at ≡ length bytes
RowsEnd (Some fault) at shapes bytes room = (at < length bytes) × NoRowAt fault at shapes bytes room

-- All columns of each row have their places, row by row; so many bytes are those rows, and there they end.
pub record RowsFound (found : RowsPlaced) (shapes : List Shape) (bytes : List ℕ) (places : List Place) : Type 0 where
  pub room : found.rows * length shapes ≤ length places
  pub within : found.taken ≤ length bytes
  pub values : rows_placed found.rows shapes bytes ≡ Got (take (found.rows * length shapes) places) (drop found.taken bytes)
  pub divided : DividesRows found.rows shapes bytes (take (found.rows * length shapes) places) (drop found.taken bytes)
  pub end : RowsEnd found.stop found.taken shapes bytes (length places - found.rows * length shapes)
