use Rattle.std.proofs.Common.{◌≡◌}
use Rattle.tds_wire.specs.Layout.{key_values}
use Rattle.tds_rows.proofs.keys.key_values.Given as goal

abbrev pub invariant-values : goal.invariant-values
invariant-values l = key_values l.left l.rest ≡ key_values l.count l.bytes

abbrev pub decreases-values : goal.decreases-values
decreases-values l = l.left
