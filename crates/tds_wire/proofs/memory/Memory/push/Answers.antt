use Rattle.std.proofs.Common.{rules}
use Rattle.tds_wire.proofs.Memories.{pushed}
use Rattle.tds_wire.proofs.memory.Memory.push.Goals as goal

pub returns-clause-columns : goal.returns-clause-columns
returns-clause-columns c =
    pushed c.args.self.now c.from.result c.count-count.result c.of.result c.args.shape (search rules) c.count-count.ensures.count (search rules) (search rules) c.of.ensures
