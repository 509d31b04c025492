use Rattle.std.proofs.Common.{◌≡◌, length}
use Rattle.tds_state.specs.States.{gives_value}
use Rattle.tds_state.proofs.Listing.{given_from}
use Rattle.tds_state.proofs.states.gives_value.Given as goal

-- what is found so far and what stands behind say what all say
abbrev pub invariant-states : goal.invariant-states
invariant-states l = given_from l.is l.id l.value l.rest ≡ gives_value l.bytes l.id l.value

abbrev pub decreases-states : goal.decreases-states
decreases-states l = length l.rest
