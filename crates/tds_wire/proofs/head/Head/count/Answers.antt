use Rattle.std.proofs.Common.{rules}
use Rattle.tds_wire.proofs.Heads.{kept_few, kept_full}
use Rattle.tds_wire.proofs.head.Head.count.Goals as goal

pub returns-then-self-lt24-clause-count : goal.returns-then-self-lt24-clause-count
returns-then-self-lt24-clause-count c = kept_few c.args.self.now (search rules) (search rules)

pub returns-else-self-lt24-clause-count : goal.returns-else-self-lt24-clause-count
returns-else-self-lt24-clause-count c = kept_full c.args.self.now (search rules) (search rules)
