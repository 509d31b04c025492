use Rattle.std.proofs.Common.{◌≡◌, ◌-◌, drop, length}
use Rattle.tds_state.specs.Ledgers.{first_set}
use Rattle.tds_state.proofs.values.first_set.Given as goal

abbrev pub invariant-flags : goal.invariant-flags
invariant-flags l = first_set l.at (drop l.at l.flags) ≡ first_set 0 l.flags

abbrev pub decreases-flags : goal.decreases-flags
decreases-flags l = length l.flags - l.at
