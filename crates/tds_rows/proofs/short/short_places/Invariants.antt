use Rattle.std.proofs.Common.{◌≡◌, ◌≤◌, ◌-◌, [], false, drop, take, length}
use Rattle.tds_rows.specs.Finding.{column_shapes}
use Rattle.tds_rows.specs.Places.{values_placed}
use Rattle.tds_rows.proofs.Going.{with_front}
use Rattle.tds_rows.proofs.short.short_places.Given as goal

-- so many columns' places are written, and those of the others are what is left to read
abbrev pub invariant-columns : goal.invariant-columns
invariant-columns l = record {
  done : l.done ≤ length l.bytes;
  column : l.column ≤ length l.columns;
  room : length l.places ≡ length l.fn.places;
  others : drop (length l.columns) l.places ≡ drop (length l.columns) l.fn.places;
  exact : with_front (take l.column l.places) (values_placed false [] l.column (drop l.column (column_shapes l.columns)) l.done (drop l.done l.bytes))
      ≡ values_placed false [] 0 (column_shapes l.columns) l.start (drop l.start l.bytes);
}

abbrev pub decreases-columns : goal.decreases-columns
decreases-columns l = length l.columns - l.column
