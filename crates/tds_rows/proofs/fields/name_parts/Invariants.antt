use Rattle.std.proofs.Common.{◌≡◌}
use Rattle.tds_wire.specs.Layout.{name_parts}
use Rattle.tds_rows.proofs.fields.name_parts.Given as goal

abbrev pub invariant-parts : goal.invariant-parts
invariant-parts l = name_parts l.left l.rest ≡ name_parts l.count l.bytes

abbrev pub decreases-parts : goal.decreases-parts
decreases-parts l = l.left
