use Rattle.std.proofs.Common.{rules, arith, ◌+◌, ◌≡◌, ◌≤◌, ◌==◌, ◌||◌, ◌∙◌, Bool, true, false, length, ap, refl}
use Rattle.tds_wire.specs.declared.shape.Shape.TheVariants as shape
use Rattle.tds_rows.specs.Places.{four_from, null_mark}
use Rattle.tds_rows.proofs.Passed.{lacks, marks, variant_got, variant_none, variant_null, variant_short, stands}
use Rattle.tds_rows.proofs.values.long_value.Goals as goal

pub returns-then-bytes-lt4 : goal.returns-then-bytes-lt4
returns-then-bytes-lt4 c = lacks shape.Long c.args.at c.args.bytes.now (variant_none c.args.bytes.now (search rules))

pub returns-then-count-eq4294967295 : goal.returns-then-count-eq4294967295
returns-then-count-eq4294967295 c =
    let some : 4 ≤ length c.args.bytes.now = search rules in
    let e : four_from 0 c.args.bytes.now ≡ 4294967295 = search rules in
    (some, stands shape.Long c.args.at 4 _ c.args.bytes.now some (variant_null c.args.bytes.now some e) refl refl (rw e refl))

pub returns-then-bytes-count : goal.returns-then-bytes-count
returns-then-bytes-count c =
    let e : c.four_at-count.result ≡ four_from 0 c.args.bytes.now = c.four_at-count.ensures in
    let f : (four_from 0 c.args.bytes.now == 4294967295) ≡ false = search rules in
    let some : 4 ≤ length c.args.bytes.now = search rules in
    lacks shape.Long c.args.at c.args.bytes.now (variant_short c.args.bytes.now some f (omega (arith, e, c.if-bytes-count.true, some)))

-- where it isn't all ones, it is null by a count of 0
or_false : (a b : Bool) → b ≡ false → null_mark a ≡ null_mark (a || b)
or_false true b e = refl
or_false false b e = rw e refl

pub returns : goal.returns
returns c =
    let n = c.four_at-count.result in
    let e : n ≡ four_from 0 c.args.bytes.now = c.four_at-count.ensures in
    let f : (four_from 0 c.args.bytes.now == 4294967295) ≡ false = search rules in
    let some : 4 ≤ length c.args.bytes.now = search rules in
    let few : n + 4 ≤ length c.args.bytes.now = omega (arith, some, c.if-bytes-count.false) in (
      few,
      stands shape.Long c.args.at (n + 4) _ c.args.bytes.now few (variant_got (n + 4) c.args.bytes.now some f (omega (arith, e)) few) refl (omega arith)
          (c.from.ensures ∙ (marks (n == 0) ∙ (ap (λ k. null_mark (k == 0)) e ∙ or_false (four_from 0 c.args.bytes.now == 0) _ f))),
    )
