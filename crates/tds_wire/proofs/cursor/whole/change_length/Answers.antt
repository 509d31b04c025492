use Rattle.std.proofs.Common.{rules, ◌+◌, ◌*◌}
use Rattle.tds_wire.proofs.WholeTokens.{change_is}
use Rattle.tds_wire.proofs.cursor.whole.change_length.Goals as goal

pub returns-then-count-bytes-clause-token : goal.returns-then-count-bytes-clause-token
returns-then-count-bytes-clause-token c = λ _.
    change_is (c.from.result + 256 * c.from-2.result + 3) (c.from.result + 256 * c.from-2.result) c.args.bytes.now
    (search rules) (search rules) (search rules) (search rules) (search rules) (search rules) (search rules) (search rules)
