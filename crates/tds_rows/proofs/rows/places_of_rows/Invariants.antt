use Rattle.std.proofs.Common.{◌≡◌, ◌≤◌, ◌-◌, ◌*◌, drop, take, length}
use Rattle.tds_wire.specs.Layout.{Got}
use Rattle.tds_rows.specs.Finding.{column_shapes}
use Rattle.tds_rows.specs.Laws.{DividesRows}
use Rattle.tds_rows.specs.Places.{rows_placed}
use Rattle.tds_rows.proofs.rows.places_of_rows.Given as goal

-- so many rows are passed, and the places of their values are written
abbrev pub invariant-rows : goal.invariant-rows
invariant-rows l = record {
  done : l.done ≤ length l.bytes;
  few : l.rows ≤ l.done;
  written : l.written ≡ l.rows * length l.columns;
  within : l.written ≤ length l.places;
  length : length l.places ≡ length l.fn.places;
  others : drop l.written l.places ≡ drop l.written l.fn.places;
  values : rows_placed l.rows (column_shapes l.columns) l.bytes ≡ Got (take l.written l.places) (drop l.done l.bytes);
  divided : DividesRows l.rows (column_shapes l.columns) l.bytes (take l.written l.places) (drop l.done l.bytes);
}

abbrev pub decreases-rows : goal.decreases-rows
decreases-rows l = length l.bytes - l.done
