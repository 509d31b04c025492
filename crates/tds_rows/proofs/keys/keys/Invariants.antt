use Rattle.std.proofs.Common.{◌≡◌}
use Rattle.tds_wire.specs.Layout.{keys_at}
use Rattle.tds_rows.proofs.keys.keys.Given as goal

abbrev pub invariant-keys : goal.invariant-keys
invariant-keys l = keys_at l.left l.rest ≡ keys_at l.count l.bytes

abbrev pub decreases-keys : goal.decreases-keys
decreases-keys l = l.left
