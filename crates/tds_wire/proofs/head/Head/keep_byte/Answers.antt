use Rattle.std.proofs.Common.{rules, ◌∷◌, []}
use Rattle.tds_wire.specs.Lent.{head_of}
use Rattle.tds_wire.proofs.Heads.{one_kept, none_kept}
use Rattle.tds_wire.proofs.head.Head.keep_byte.Goals as goal

pub returns-then-count-lt24 : goal.returns-then-count-lt24
returns-then-count-lt24 c =
    one_kept c.args.self.now c.from.result c.count-count.result c.args.byte (search rules) c.count-count.ensures.count (search rules) (search rules)

pub returns-else-count-lt24 : goal.returns-else-count-lt24
returns-else-count-lt24 c = none_kept (head_of c.args.self.now) (c.args.byte ∷ []) (search rules)
