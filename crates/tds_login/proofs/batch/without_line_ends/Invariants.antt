use Rattle.std.proofs.Common.{◌≡◌, ◌≤◌, ◌-◌, length}
use Rattle.tds_login.specs.LineEnds.{left_of}
use Rattle.tds_login.proofs.batch.without_line_ends.Given as goal

-- what is left of all is left of the first ones
abbrev pub invariant-loop-end : goal.invariant-loop-end
invariant-loop-end l = record {
  left : left_of l.data l.least l.end ≡ left_of l.data l.least (length l.data);
  within : l.end ≤ length l.data;
}

abbrev pub decreases-loop-end : goal.decreases-loop-end
decreases-loop-end l = l.end - l.least
