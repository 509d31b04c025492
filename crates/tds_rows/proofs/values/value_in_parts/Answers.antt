use Rattle.std.proofs.Common.{rules, arith, ◌+◌, ◌-◌, ◌≡◌, ◌≤◌, ℕ, List, true, false, length, drop, take, refl, subst}
use Rattle.std.proofs.Common.{Some}
use Rattle.std.proofs.lemmas.List.{length-drop, take_rest}
use Rattle.tds_wire.specs.declared.shape.Shape.TheVariants as shape
use Rattle.tds_wire.specs.Layout.{Short, parts}
use Rattle.tds_rows.specs.Finding.{EndsAfter}
use Rattle.tds_rows.specs.Places.{is_absent}
use Rattle.tds_rows.proofs.Passed.{lacks, parts_got, parts_none, parts_null, parts_short, stands}
use Rattle.tds_rows.proofs.values.value_in_parts.Goals as goal

pub returns-then-bytes-lt8 : goal.returns-then-bytes-lt8
returns-then-bytes-lt8 c = lacks shape.Parts c.args.at c.args.bytes.now (parts_none c.args.bytes.now (search rules))

pub returns-then-is_absent : goal.returns-then-is_absent
returns-then-is_absent c =
    let some : 8 ≤ length c.args.bytes.now = search rules in
    let e : is_absent shape.Parts c.args.bytes.now ≡ true = search rules in
    (some, stands shape.Parts c.args.at 8 _ c.args.bytes.now some (parts_null c.args.bytes.now some e) refl (rw e refl) (rw e refl))

pub returns-in_default : goal.returns-in_default
returns-in_default c =
    let some : 8 ≤ length c.args.bytes.now = search rules in
    let e : is_absent shape.Parts c.args.bytes.now ≡ false = search rules in
    let t = take_rest c.args.bytes.now 8 in
    lacks shape.Parts c.args.at c.args.bytes.now (parts_short c.args.bytes.now some e (subst (λ (xs : List ℕ). parts (length xs) xs ≡ Short) t c.in_default.ensures.exact))

pub returns : goal.returns
returns c =
    let bytes = c.args.bytes.now in
    let some : 8 ≤ length c.args.bytes.now = search rules in
    let e : is_absent shape.Parts c.args.bytes.now ≡ false = search rules in
    let t : take (length bytes - 8) (drop 8 bytes) ≡ drop 8 bytes = take_rest bytes 8 in
    let found : EndsAfter tt (parts (length (drop 8 bytes)) (drop 8 bytes)) (drop 8 bytes) (Some c.in-Some.length)
    = subst (λ (xs : List ℕ). EndsAfter tt (parts (length xs) xs) xs (Some c.in-Some.length)) t c.in-Some.ensures.exact in
    let few : c.in-Some.length + 8 ≤ length bytes = omega (arith, found.0, length-drop 8 bytes, some) in (
      few,
      stands shape.Parts c.args.at (c.in-Some.length + 8) _ bytes few (parts_got (c.in-Some.length + 8) c.in-Some.length bytes some e found.1 (omega arith))
          refl (rw e (omega arith)) (rw e refl),
    )
