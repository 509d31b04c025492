use Rattle.std.proofs.Common.{rules, ◌∙◌, ℕ, ap, get_or}
use Rattle.tds_wire.specs.declared.shape.Shape.TheVariants as shape
use Rattle.tds_wire.specs.Memory.{shapes_of}
use Rattle.tds_wire.proofs.Memories.{shapes_at}
use Rattle.tds_wire.proofs.memory.Memory.shape_at.Goals as goal

pub returns-then-column-count : goal.returns-then-column-count
returns-then-column-count c =
    c.shape.ensures
    ∙ (shapes_at c.args.self.now c.from.result c.count.result _ c.count.ensures.count (search rules) (search rules)
    ∙ ap (λ (i : ℕ). get_or (shapes_of c.args.self.now) i shape.Byte) (search rules))
