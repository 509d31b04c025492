use Rattle.std.proofs.Common.{rules, arith, ◌≡◌}
use Rattle.tds_wire.proofs.WholeRows.{fixed_passes}
use Rattle.tds_wire.proofs.rows.fixed_length.Goals as goal

pub returns-then-length-bytes-clause-value : goal.returns-then-length-bytes-clause-value
returns-then-length-bytes-clause-value c = λ some.
    let e : c.from-length.result ≡ c.args.count = search rules in
    rw e (fixed_passes c.args.count c.args.bytes.now (omega (arith, some, e)) (search rules))
