-- Values that are short: of a fixed size, or behind a count in one byte or two.
use Rattle.std.specs.Prelude.{◌≡◌, ◌≤◌, ◌<◌, ◌+◌, ℕ, List, All, drop, length}
use Rattle.tds_wire.specs.declared.memory.Column.{Column}
use Rattle.tds_wire.specs.declared.shape.Shape.{Shape}
use Rattle.tds_wire.specs.Layout.{Got, Short}
use Rattle.tds_rows.specs.declared.place.Place.{Place}
use Rattle.tds_rows.specs.declared.place.RowColumn.{RowColumn}
use Rattle.tds_rows.specs.Places.{value_at}

abbrev pub IsShort : Column → Type 0
IsShort column = column.form ≤ 2

abbrev pub ColumnsAreShort : List RowColumn → Type 0
ColumnsAreShort columns = All (λ (c : RowColumn). IsShort c.shape) columns

-- the value that begins at one byte ends before another
abbrev pub StandsTo : Shape → ℕ → List ℕ → Place → ℕ → Type 0
StandsTo s at bytes place end = (at ≤ end) × (end ≤ length bytes) × (value_at at s (drop at bytes) ≡ Got place (drop end bytes))

-- Of the value that begins at this byte the own ones begin at another, and are so many: it is whole where these are there.
abbrev pub OwnsBytes : Shape → ℕ → List ℕ → ℕ → ℕ → ℕ → Type 0
OwnsBytes s at bytes start count null = (at ≤ start) × (start ≤ length bytes) × (count < 65536)
    × (start + count ≤ length bytes → value_at at s (drop at bytes) ≡ Got (record { start = start; length = count; null = null }) (drop (start + count) bytes))
    × (length bytes < start + count → value_at at s (drop at bytes) ≡ Short)
