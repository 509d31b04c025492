use Rattle.std.proofs.Common.{rules, arith, ◌+◌, ◌≡◌, ◌≤◌, ◌==◌, ◌∙◌, false, length, get_or, ap, refl}
use Rattle.tds_wire.specs.declared.shape.Shape.TheVariants as shape
use Rattle.tds_rows.specs.Places.{four_from}
use Rattle.tds_rows.proofs.Passed.{lacks, pointer_absent, pointer_cut, pointer_got, pointer_none, pointer_null, pointer_short, stands}
use Rattle.tds_rows.proofs.values.pointer_value.Goals as goal

pub returns-then-is_empty : goal.returns-then-is_empty
returns-then-is_empty c = lacks shape.Pointer c.args.at c.args.bytes.now (pointer_none c.args.bytes.now (search rules))

pub returns-then-pointer-eq0 : goal.returns-then-pointer-eq0
returns-then-pointer-eq0 c =
    let some : 1 ≤ length c.args.bytes.now = search rules in
    let e : get_or c.args.bytes.now 0 0 ≡ 0 = search rules in
    (some, stands shape.Pointer c.args.at 1 _ c.args.bytes.now some (pointer_null c.args.bytes.now some e) (rw e refl) (rw e refl) (rw e refl))

pub returns-then-bytes-pointer : goal.returns-then-bytes-pointer
returns-then-bytes-pointer c =
    let e : c.from-pointer.result ≡ get_or c.args.bytes.now 0 0 = c.from-pointer.ensures in
    let f : (get_or c.args.bytes.now 0 0 == 0) ≡ false = search rules in
    lacks shape.Pointer c.args.at c.args.bytes.now (pointer_cut c.args.bytes.now f (search rules) (omega (arith, e, c.if-bytes-pointer.true)))

pub returns-then-count-eq4294967295 : goal.returns-then-count-eq4294967295
returns-then-count-eq4294967295 c =
    let p = c.from-pointer.result in
    let e : p ≡ get_or c.args.bytes.now 0 0 = c.from-pointer.ensures in
    let f : (get_or c.args.bytes.now 0 0 == 0) ≡ false = search rules in
    let some : get_or c.args.bytes.now 0 0 + 13 ≤ length c.args.bytes.now = omega (arith, e, c.if-bytes-pointer.false) in
    let g : four_from (get_or c.args.bytes.now 0 0 + 9) c.args.bytes.now ≡ 4294967295 = rw (← e) (search rules) in
    rw e (
      some,
      stands shape.Pointer c.args.at (get_or c.args.bytes.now 0 0 + 13) _ c.args.bytes.now some (pointer_absent c.args.bytes.now f some g)
          (rw f (omega arith)) (rw f (omega arith)) (rw f (rw g refl)),
    )

pub returns-then-bytes-pointer-2 : goal.returns-then-bytes-pointer-2
returns-then-bytes-pointer-2 c =
    let p = c.from-pointer.result in
    let e : p ≡ get_or c.args.bytes.now 0 0 = c.from-pointer.ensures in
    let f : (get_or c.args.bytes.now 0 0 == 0) ≡ false = search rules in
    let some : get_or c.args.bytes.now 0 0 + 13 ≤ length c.args.bytes.now = omega (arith, e, c.if-bytes-pointer.false) in
    let n : c.four_at-count.result ≡ four_from (get_or c.args.bytes.now 0 0 + 9) c.args.bytes.now = c.four_at-count.ensures ∙ ap (λ k. four_from (k + 9) c.args.bytes.now) e in
    let g : (four_from (get_or c.args.bytes.now 0 0 + 9) c.args.bytes.now == 4294967295) ≡ false = rw (← n) (search rules) in
    lacks shape.Pointer c.args.at c.args.bytes.now (pointer_short c.args.bytes.now f some g (omega (arith, e, n, some, c.if-bytes-pointer-2.true)))

pub returns : goal.returns
returns c =
    let p = c.from-pointer.result in
    let m = c.four_at-count.result in
    let e : p ≡ get_or c.args.bytes.now 0 0 = c.from-pointer.ensures in
    let f : (get_or c.args.bytes.now 0 0 == 0) ≡ false = search rules in
    let some : get_or c.args.bytes.now 0 0 + 13 ≤ length c.args.bytes.now = omega (arith, e, c.if-bytes-pointer.false) in
    let n : c.four_at-count.result ≡ four_from (get_or c.args.bytes.now 0 0 + 9) c.args.bytes.now = c.four_at-count.ensures ∙ ap (λ k. four_from (k + 9) c.args.bytes.now) e in
    let g : (four_from (get_or c.args.bytes.now 0 0 + 9) c.args.bytes.now == 4294967295) ≡ false = rw (← n) (search rules) in
    let few : p + 13 + m ≤ length c.args.bytes.now = omega (arith, e, n, some, c.if-bytes-pointer-2.false) in (
      few,
      stands shape.Pointer c.args.at (p + 13 + m) _ c.args.bytes.now few (pointer_got (p + 13 + m) c.args.bytes.now f some g (omega (arith, e, n)) few)
          (rw f (omega (arith, e))) (rw f (omega (arith, e))) (rw f (rw g refl)),
    )
