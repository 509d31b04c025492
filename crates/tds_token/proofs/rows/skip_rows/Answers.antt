use Rattle.std.proofs.Common.{arith}
use Rattle.tds_token.proofs.Runs.{at_end, none_yet}
use Rattle.tds_token.proofs.rows.skip_rows.Goals as goal

pub rows-init : goal.rows-init
rows-init c = (none_yet c.args.columns c.args.bytes.now, omega arith)

pub rows-preserved : goal.rows-preserved
rows-preserved c =
    (at_end c.rows.count c.args.columns c.args.bytes.now c.rows.rest.now c.in-Some.behind.now c.rows.invariant.0 c.in-Some.ensures.row c.in-Some.ensures.rest, omega (arith, c.rows.invariant.1, c.in-Some.ensures.shorter))
