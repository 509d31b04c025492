use Rattle.std.proofs.Common.{◌≡◌, ◌≤◌, ◌-◌, ℕ, drop, take, length}
use Rattle.tds_rows.specs.Come.{shapes_between}
use Rattle.tds_rows.specs.Finding.{column_shapes}
use Rattle.tds_rows.specs.Places.{values_placed}
use Rattle.tds_rows.proofs.Going.{with_front}
use Rattle.tds_rows.proofs.come.come_from.Given as goal

-- of any columns up to one behind it those places are written, and what is left to read is the others'
abbrev pub invariant-columns : goal.invariant-columns
invariant-columns l = record {
  done : l.done ≤ length l.bytes;
  from : l.first ≤ l.column;
  column : l.column ≤ length l.columns;
  room : length l.places ≡ length l.fn.places;
  before : take l.first l.places ≡ take l.first l.fn.places;
  others : drop (length l.columns) l.places ≡ drop (length l.columns) l.fn.places;
  exact : (m : ℕ) → l.column ≤ m → m ≤ length l.columns
      → with_front (drop l.first (take l.column l.places)) (values_placed l.with_nulls l.nulls l.column (drop l.column (column_shapes (take m l.columns))) l.done (drop l.done l.bytes))
      ≡ values_placed l.with_nulls l.nulls l.first (shapes_between l.columns l.first m) 0 l.bytes;
}

abbrev pub decreases-columns : goal.decreases-columns
decreases-columns l = length l.columns - l.column
