use Rattle.std.proofs.Common.{rules, ◌+◌, ◌*◌}
use Rattle.tds_wire.proofs.WholeRows.{short_null, short_passes}
use Rattle.tds_wire.proofs.rows.short_length.Goals as goal

pub returns-then-count-eq65535-clause-value : goal.returns-then-count-eq65535-clause-value
returns-then-count-eq65535-clause-value c = λ _. short_null c.args.bytes.now (search rules) (search rules)

pub returns-then-count-bytes-clause-value : goal.returns-then-count-bytes-clause-value
returns-then-count-bytes-clause-value c = λ _.
    short_passes (c.from.result + 256 * c.from-2.result + 2) c.args.bytes.now (search rules) (search rules) (search rules) (search rules)
