use Rattle.std.proofs.Common.{◌≡◌, ◌≤◌, ◌-◌, take, length}
use Rattle.tds_rows.specs.Columns.{all_described}
use Rattle.tds_rows.proofs.Loops.{behind_front}
use Rattle.tds_rows.proofs.columns.all_described.Given as goal

-- so many columns are written, and the others are what is left to read
abbrev pub invariant-columns : goal.invariant-columns
invariant-columns l = record {
  done : l.done ≤ l.count;
  room : length l.columns ≡ length l.fn.columns;
  exact : behind_front (take l.done l.columns) (all_described l.features l.size (l.count - l.done) l.rest) ≡ all_described l.features l.size l.count l.bytes;
}

abbrev pub decreases-columns : goal.decreases-columns
decreases-columns l = l.count - l.done
