-- The loop over the bytes of a text, two by two.
use Rattle.std.proofs.Common.{◌≡◌, ◌++◌, length}
use Rattle.tds_request.specs.Reading.{units_of}
use Rattle.tds_request.proofs.text.units_from.Given as goal

-- the units so far and those of what is left are those of all
abbrev pub invariant-units : goal.invariant-units
invariant-units l = l.units.items ++ units_of l.rest ≡ units_of l.bytes

abbrev pub decreases-units : goal.decreases-units
decreases-units l = length l.rest
