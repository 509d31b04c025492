use Rattle.std.proofs.Common.{rules, arith, ◌+◌, ◌≡◌, ◌≤◌, ◌==◌, ◌∙◌, length, get_or, ap, refl}
use Rattle.tds_wire.specs.declared.shape.Shape.TheVariants as shape
use Rattle.tds_rows.specs.Places.{null_mark}
use Rattle.tds_rows.proofs.Passed.{byte_got, byte_none, byte_short, lacks, marks, stands}
use Rattle.tds_rows.proofs.values.byte_value.Goals as goal

pub returns-then-is_empty : goal.returns-then-is_empty
returns-then-is_empty c = lacks shape.Byte c.args.at c.args.bytes.now (byte_none c.args.bytes.now (search rules))

pub returns-then-bytes-count : goal.returns-then-bytes-count
returns-then-bytes-count c = lacks shape.Byte c.args.at c.args.bytes.now (byte_short c.args.bytes.now (search rules) (search rules))

pub returns : goal.returns
returns c =
    let n = c.from-count.result in
    let few : n + 1 ≤ length c.args.bytes.now = search rules in
    let e : n ≡ get_or c.args.bytes.now 0 0 = c.from-count.ensures in (
      few,
      stands shape.Byte c.args.at (n + 1) _ c.args.bytes.now few (byte_got (n + 1) c.args.bytes.now (omega (arith, e)) few)
          refl (omega arith) (c.from.ensures ∙ (marks (n == 0) ∙ ap (λ k. null_mark (k == 0)) e)),
    )
