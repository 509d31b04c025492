use Rattle.std.proofs.Common.{◌≡◌, ◌≤◌, ◌-◌, false, drop, length}
use Rattle.tds_wire.specs.Bytes.{onward, to_end}
use Rattle.tds_wire.specs.Memory.{shapes_of}
use Rattle.tds_wire.specs.Walking.{Walk, row_from}
use Rattle.tds_wire.specs.declared.due.Due.TheVariants.{Token}
use Rattle.tds_wire.proofs.WholeRows.{so_far}
use Rattle.tds_wire.proofs.rows.row_length.Given as goal

-- so many columns' values are behind, and the row goes on with the others
abbrev pub invariant-columns : goal.invariant-columns
invariant-columns l = record {
  done : l.done ≤ length l.bytes;
  column : l.column ≤ l.count;
  row : (w : Walk) → w.columns ≡ shapes_of l.memory → w.at.due ≡ Token → onward w l.bytes ≡ to_end (row_from false (so_far w l.column) l.column) (drop l.done l.bytes);
}

abbrev pub decreases-columns : goal.decreases-columns
decreases-columns l = l.count - l.column
