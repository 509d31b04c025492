use Rattle.std.proofs.Common.{◌<◌, arith, length, rules}
use Rattle.tds_wire.proofs.WholeTokens.{fixed_is}
use Rattle.tds_wire.proofs.cursor.whole.has_status.Goals as goal

pub returns-clause-token : goal.returns-clause-token
returns-clause-token c = λ yes.
    let few : 4 < length c.args.bytes.now = search rules in
    fixed_is 5 4 c.args.bytes.now (omega arith) (omega arith) few (c.is_status.ensures yes)
