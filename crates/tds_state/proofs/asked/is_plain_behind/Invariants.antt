use Rattle.std.proofs.Common.{◌≡◌, ◌-◌, drop, length}
use Rattle.tds_state.specs.Asking.{is_plain_behind}
use Rattle.tds_state.proofs.asked.is_plain_behind.Given as goal

abbrev pub invariant-letters : goal.invariant-letters
invariant-letters l = is_plain_behind (drop l.at l.name) ≡ is_plain_behind l.name

abbrev pub decreases-letters : goal.decreases-letters
decreases-letters l = length l.name - l.at
