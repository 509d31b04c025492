use Rattle.std.proofs.Common.{rules}
use Rattle.tds_wire.proofs.Memories.{few_columns, all_columns}
use Rattle.tds_wire.proofs.memory.Memory.count.Goals as goal

pub returns-then-self-lt4096-clause-count : goal.returns-then-self-lt4096-clause-count
returns-then-self-lt4096-clause-count c = few_columns c.args.self.now (search rules) (search rules)

pub returns-else-self-lt4096-clause-count : goal.returns-else-self-lt4096-clause-count
returns-else-self-lt4096-clause-count c = all_columns c.args.self.now (search rules) (search rules)
