use Rattle.std.proofs.Common.{◌≡◌, ◌-◌, ◌+◌, drop, length}
use Rattle.tds_state.specs.Handles.{place_of_handle}
use Rattle.tds_state.proofs.handles.place_of_handle.Given as goal

abbrev pub invariant-places : goal.invariant-places
invariant-places l = l.at + place_of_handle l.number (drop l.at l.places) ≡ place_of_handle l.number l.places

abbrev pub decreases-places : goal.decreases-places
decreases-places l = length l.places - l.at
