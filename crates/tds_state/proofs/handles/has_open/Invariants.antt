use Rattle.std.proofs.Common.{◌≡◌, length}
use Rattle.std.specs.List.{list_any}
use Rattle.tds_state.specs.Handles.{is_open_place}
use Rattle.tds_state.proofs.handles.has_open.Given as goal

abbrev pub invariant-places : goal.invariant-places
invariant-places l = list_any is_open_place l.rest ≡ list_any is_open_place l.places

abbrev pub decreases-places : goal.decreases-places
decreases-places l = length l.rest
