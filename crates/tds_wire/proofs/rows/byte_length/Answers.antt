use Rattle.std.proofs.Common.{rules, ◌+◌}
use Rattle.tds_wire.proofs.WholeRows.{byte_passes}
use Rattle.tds_wire.proofs.rows.byte_length.Goals as goal

pub returns-then-length-bytes-clause-value : goal.returns-then-length-bytes-clause-value
returns-then-length-bytes-clause-value c = λ _. byte_passes (1 + c.from-length.result) c.args.bytes.now (search rules) (search rules)
