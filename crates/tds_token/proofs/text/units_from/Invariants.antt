use Rattle.std.proofs.Common.{◌≡◌, ◌++◌, length}
use Rattle.tds_token.specs.Texts.{units_of}
use Rattle.tds_token.proofs.text.units_from.Given as goal

abbrev pub invariant-units : goal.invariant-units
invariant-units l = l.units.items ++ units_of l.rest ≡ units_of l.bytes

abbrev pub decreases-units : goal.decreases-units
decreases-units l = length l.rest
