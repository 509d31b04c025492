use Rattle.std.proofs.Common.{◌≡◌, length}
use Rattle.tds_state.specs.States.{states_listed}
use Rattle.tds_state.proofs.values.is_listed.Given as goal

abbrev pub invariant-states : goal.invariant-states
invariant-states l = (states_listed l.rest).is_whole ≡ (states_listed l.bytes).is_whole

abbrev pub decreases-states : goal.decreases-states
decreases-states l = length l.rest
