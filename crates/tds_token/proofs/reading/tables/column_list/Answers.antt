use Rattle.std.proofs.Common.{arith}
use Rattle.tds_token.proofs.Listed.{is_listed}
use Rattle.tds_token.proofs.reading.tables.column_list.Goals as goal

pub new-requires : goal.new-requires
new-requires c =
    is_listed c.args.bytes.now c.in_ok-count.count c.in_ok-count.rest.now c.in_ok-after.after.now c.in_ok-count.ensures
    (search (arith, c.if-count-eq0.false)) (search (arith, c.if-count-gt16.false)) c.in_ok-after.ensures
