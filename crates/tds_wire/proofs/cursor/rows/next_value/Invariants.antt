use Rattle.tds_wire.specs.Memory.{shapes_of}
use Rattle.std.proofs.Common.{◌≡◌, ◌-◌, length}
use Rattle.tds_wire.specs.Walking.{next_value}
use Rattle.tds_wire.proofs.cursor.rows.next_value.Given as goal

-- what is found is found among the columns that are left
abbrev pub invariant-columns : goal.invariant-columns
invariant-columns l =
    next_value l.with_nulls l.memory.nulls (shapes_of l.memory) l.first (length (shapes_of l.memory) - l.first)
    ≡ next_value l.with_nulls l.memory.nulls (shapes_of l.memory) l.column (length (shapes_of l.memory) - l.column)

abbrev pub decreases-columns : goal.decreases-columns
decreases-columns l = l.count - l.column
