use Rattle.std.proofs.Common.{rules}
use Rattle.tds_wire.proofs.Heads.{lent_bytes}
use Rattle.tds_wire.proofs.head.Head.bytes.Goals as goal

pub returns : goal.returns
returns c = lent_bytes c.args.self.now c.from-count.result (search rules) (search rules)
