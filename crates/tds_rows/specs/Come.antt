-- The values of a row that have come, before it has ended.
use Rattle.std.specs.Prelude.{◌≡◌, ◌≤◌, ◌<◌, ◌*◌, ◌&&◌, nat_lt, ℕ, Bool, List, ◌∷◌, drop, length, take, Result, Ok, Err, ◌⊎◌}
use Rattle.tds_wire.specs.declared.shape.Shape.{Shape}
use Rattle.tds_wire.specs.Layout.{Got, Short, is_null}
use Rattle.tds_rows.specs.declared.come.Come.{Come}
use Rattle.tds_rows.specs.declared.place.Place.{Place}
use Rattle.tds_rows.specs.declared.place.RowColumn.{RowColumn}
use Rattle.tds_rows.specs.declared.place.RowFault.{RowFault}
use Rattle.tds_rows.specs.declared.place.RowFault.TheVariants as fault
use Rattle.tds_rows.specs.Finding.{column_shapes}
use Rattle.tds_rows.specs.Places.{column_value_at, values_placed}

-- an NBCROW has a null bitmap, a ROW none
abbrev pub has_bits : List ℕ → Bool
has_bits nulls = nat_lt 0 (length nulls)

-- the shapes of so many columns, from this one on
abbrev pub shapes_between : List RowColumn → ℕ → ℕ → List Shape
shapes_between columns first last = drop first (column_shapes (take last columns))

-- Of bytes that begin with the value of the first column these are all values that are whole, one behind the other; of the next column, if
-- there is one, the bytes end first.
pub record HasCome (columns : List RowColumn) (first : ℕ) (nulls bytes : List ℕ) (places : List Place) (c : Come) : Type 0 where
  pub whole : values_placed (has_bits nulls) nulls first (shapes_between columns first c.next) 0 bytes ≡ Got (drop first (take c.next places)) (drop c.taken bytes)
  pub within : c.taken ≤ length bytes
  pub from : first ≤ c.next
  pub next : (s : Shape) (others : List Shape) → drop c.next (column_shapes columns) ≡ s ∷ others
      → column_value_at (has_bits nulls && is_null nulls c.next) c.taken s (drop c.taken bytes) ≡ Short

abbrev pub ValuesCome : Result Come RowFault → List RowColumn → ℕ → List ℕ → List ℕ → List Place → Type 0
ValuesCome (Ok c) columns first nulls bytes places = HasCome columns first nulls bytes places c
ValuesCome (Err fault.Short) columns first nulls bytes places = ⊥
ValuesCome (Err fault.OtherToken) columns first nulls bytes places = ⊥
ValuesCome (Err fault.NoColumns) columns first nulls bytes places = length columns < first
ValuesCome (Err fault.UnknownType) columns first nulls bytes places = ⊥
ValuesCome (Err fault.NoRoom) columns first nulls bytes places =
    (length places < length columns) ⊎ ((0 < length nulls) × (8 * length nulls < length columns))
