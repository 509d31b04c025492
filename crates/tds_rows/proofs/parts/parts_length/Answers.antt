use Rattle.std.proofs.Common.{rules, arith, ◌+◌, ◌≡◌, ◌≤◌, ◌==◌, ◌∙◌, ℕ, false, length, drop, ap, sym}
use Rattle.tds_rows.specs.Places.{four_from}
use Rattle.tds_rows.proofs.Passed.{part_cut, part_end, part_more, part_short, parts_zero}
use Rattle.tds_wire.specs.Layout.{parts}
use Rattle.tds_rows.proofs.parts.parts_length.Goals as goal

pub returns-then-left-lt4-clause-exact : goal.returns-then-left-lt4-clause-exact
returns-then-left-lt4-clause-exact c =
    sym c.parts.invariant.parts ∙ part_cut c.parts.most c.parts.done c.args.bytes.now (search rules) (omega (arith, c.parts.invariant.done, c.if-left-lt4.true))

pub returns-then-count-eq0-clause-exact : goal.returns-then-count-eq0-clause-exact
returns-then-count-eq0-clause-exact c =
    let few : c.parts.done + 4 ≤ length c.args.bytes.now = omega (arith, c.parts.invariant.done, c.if-left-lt4.false) in
    let e : four_from c.parts.done c.args.bytes.now ≡ 0 = search rules in
    (few, sym c.parts.invariant.parts ∙ part_end c.parts.most c.parts.done c.args.bytes.now (search rules) few e)

pub returns-then-left-count-clause-exact : goal.returns-then-left-count-clause-exact
returns-then-left-count-clause-exact c =
    let few : c.parts.done + 4 ≤ length c.args.bytes.now = omega (arith, c.parts.invariant.done, c.if-left-lt4.false) in
    let f : (four_from c.parts.done c.args.bytes.now == 0) ≡ false = search rules in
    sym c.parts.invariant.parts ∙ part_short c.parts.most c.parts.done c.args.bytes.now (search rules) few f (omega (arith, c.four_at-count.ensures, few, c.if-left-count.true))

pub parts-preserved : goal.parts-preserved
parts-preserved c =
    let few : c.parts.done + 4 ≤ length c.args.bytes.now = omega (arith, c.parts.invariant.done, c.if-left-lt4.false) in
    let f : (four_from c.parts.done c.args.bytes.now == 0) ≡ false = search rules in
    let n = c.parts.done + (c.four_at-count.result + 4) in
    let within : n ≤ length c.args.bytes.now = omega (arith, few, c.if-left-count.false) in
    record {
      done = within;
      parts = sym (part_more c.parts.most c.parts.done n c.args.bytes.now (search rules) few f (omega (arith, c.four_at-count.ensures)) within) ∙ c.parts.invariant.parts;
    }

pub returns-clause-exact : goal.returns-clause-exact
returns-clause-exact c =
    let z : c.parts.most ≡ 0 = search rules in
    sym c.parts.invariant.parts ∙ (ap (λ (k : ℕ). parts k (drop c.parts.done c.args.bytes.now)) z ∙ parts_zero (drop c.parts.done c.args.bytes.now))
