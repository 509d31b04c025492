use Rattle.std.proofs.Common.{◌+◌, ◌≤◌, length}
use Rattle.tds_token.specs.Runs.{AreRowsTo}
use Rattle.tds_token.proofs.rows.skip_rows.Given as goal

abbrev pub invariant-rows : goal.invariant-rows
invariant-rows l = AreRowsTo l.count l.columns l.bytes l.rest × (l.count + length l.rest ≤ length l.bytes)

abbrev pub decreases-rows : goal.decreases-rows
decreases-rows l = length l.rest
