use Rattle.std.proofs.Common.{rules, arith, ◌+◌, ◌≡◌, ◌==◌, ◌/◌, ◌∙◌, ℕ, false, length, drop, take, ap, sym}
use Rattle.tds_wire.specs.Layout.{Got}
use Rattle.tds_rows.specs.Finding.{column_shapes}
use Rattle.tds_rows.proofs.Going.{as_many}
use Rattle.tds_rows.proofs.Begun.{AreBytes, null_row_at, null_row_cut_at, null_row_of_none_at}
use Rattle.std.proofs.Common.{◌-◌, subst, true}
use Rattle.tds_rows.specs.Laws.{Divides}
use Rattle.tds_rows.proofs.Divided.{divided}
use Rattle.tds_rows.proofs.rows.null_row.Goals as goal

pub returns-then-is_empty-clause-exact : goal.returns-then-is_empty-clause-exact
returns-then-is_empty-clause-exact c =
    let many : length (column_shapes c.args.columns.now) ≡ length c.args.columns.now = as_many c.args.columns.now in
    let none : length c.args.columns.now ≡ 0 = search rules in
    null_row_of_none_at c.args.start (column_shapes c.args.columns.now) c.args.bytes.now c.requires.kind.0 c.requires.kind.1 (many ∙ none)

pub returns-then-bytes-behind-clause-exact : goal.returns-then-bytes-behind-clause-exact
returns-then-bytes-behind-clause-exact c =
    let many : length (column_shapes c.args.columns.now) ≡ length c.args.columns.now = as_many c.args.columns.now in
    let some : (length c.args.columns.now == 0) ≡ false = search rules in
    null_row_cut_at c.args.start (column_shapes c.args.columns.now) c.args.bytes.now c.requires.kind.0 c.requires.kind.1 (ap (λ (n : ℕ). n == 0) many ∙ some)
    (rw many (omega (arith, c.if-bytes-behind.true, c.requires.kind.0)))

pub returns-in-Some-clause-exact : goal.returns-in-Some-clause-exact
returns-in-Some-clause-exact c =
    let many : length (column_shapes c.args.columns.now) ≡ length c.args.columns.now = as_many c.args.columns.now in
    let some : (length c.args.columns.now == 0) ≡ false = search rules in
    let are : AreBytes c.args.bytes.now = λ i. omega (arith, c.type_inv.bytes i) in
    let found = c.in-Some.ensures.exact in (
      found.0,
      null_row_at c.args.start (column_shapes c.args.columns.now) ((length c.args.columns.now + 7) / 8) c.args.bytes.now c.requires.kind.1 (ap (λ (n : ℕ). n == 0) many ∙ some) are
          (ap (λ (n : ℕ). (n + 7) / 8) (sym many)) (omega (arith, c.if-bytes-behind.false, c.requires.kind.0))
          ∙ (found.1 ∙ ap (λ (n : ℕ). Got (take n c.places_from.new.places) (drop c.in-Some.end c.args.bytes.now)) (sym many)),
    )

pub returns-in-None-clause-exact : goal.returns-in-None-clause-exact
returns-in-None-clause-exact c =
    let many : length (column_shapes c.args.columns.now) ≡ length c.args.columns.now = as_many c.args.columns.now in
    let some : (length c.args.columns.now == 0) ≡ false = search rules in
    let are : AreBytes c.args.bytes.now = λ i. omega (arith, c.type_inv.bytes i) in
    null_row_at c.args.start (column_shapes c.args.columns.now) ((length c.args.columns.now + 7) / 8) c.args.bytes.now c.requires.kind.1 (ap (λ (n : ℕ). n == 0) many ∙ some) are
    (ap (λ (n : ℕ). (n + 7) / 8) (sym many)) (omega (arith, c.if-bytes-behind.false, c.requires.kind.0))
    ∙ c.in-None.ensures.exact

pub returns-in-Some-clause-divided : goal.returns-in-Some-clause-divided
returns-in-Some-clause-divided c =
    let shapes = column_shapes c.args.columns.now in
    let bytes = c.args.bytes.now in
    let n : ℕ = (length c.args.columns.now + 7) / 8 in
    let many : length (column_shapes c.args.columns.now) ≡ length c.args.columns.now = as_many c.args.columns.now in
    let at = c.args.start in
    let same : at + 1 + n - (at + 1) ≡ n = omega arith in
    let count : n ≡ (length (column_shapes c.args.columns.now) + 7) / 8 = ap (λ (m : ℕ). (m + 7) / 8) (sym many) in
    subst (λ (m : ℕ). Divides true (take m (drop (at + 1) bytes)) 0 shapes (at + 1 + m) (drop (at + 1 + m) bytes) (take (length c.args.columns.now) c.places_from.new.places) (drop c.in-Some.end bytes)) count
    (subst (λ (m : ℕ). Divides true (take m (drop (at + 1) bytes)) 0 shapes (at + 1 + n) (drop (at + 1 + n) bytes) (take (length c.args.columns.now) c.places_from.new.places) (drop c.in-Some.end bytes)) same
    (divided true (take (at + 1 + n - (at + 1)) (drop (at + 1) bytes)) 0 shapes (at + 1 + n) (drop (at + 1 + n) bytes) _ _ c.in-Some.ensures.exact.1))
