use Rattle.std.proofs.Common.{rules, arith, ◌≡◌, ◌≤◌, ◌==◌, ◌∙◌, length}
use Rattle.tds_wire.specs.declared.shape.Shape.TheVariants as shape
use Rattle.tds_rows.proofs.Passed.{fixed_got, fixed_short, lacks, marks, stands}
use Rattle.tds_rows.proofs.values.fixed_value.Goals as goal

pub returns-then-bytes-length : goal.returns-then-bytes-length
returns-then-bytes-length c = lacks (shape.Fixed c.args.count) c.args.at c.args.bytes.now (fixed_short c.args.count c.args.bytes.now (search rules))

pub returns : goal.returns
returns c =
    let n = c.from-length.result in
    let e : n ≡ c.args.count = c.from-length.ensures in
    let few : n ≤ length c.args.bytes.now = search rules in (
      few,
      rw e (stands (shape.Fixed c.args.count) c.args.at c.args.count _ c.args.bytes.now (omega (arith, e, few)) (fixed_got c.args.count c.args.bytes.now (omega (arith, e, few)))
          (omega arith) (omega arith) (c.from.ensures ∙ marks (c.args.count == 0))),
    )
