use Rattle.std.proofs.Common.{rules, ◌+◌, ◌≡◌, ◌==◌, ◌∙◌, ℕ, false, length, drop, take, ap, sym}
use Rattle.tds_wire.specs.Layout.{Got}
use Rattle.tds_rows.specs.Finding.{column_shapes}
use Rattle.tds_rows.proofs.Going.{as_many}
use Rattle.tds_rows.proofs.Begun.{row_at, row_of_none_at}
use Rattle.std.proofs.Common.{[]}
use Rattle.tds_rows.proofs.Divided.{divided}
use Rattle.tds_rows.proofs.rows.plain_row.Goals as goal

pub returns-then-is_empty-clause-exact : goal.returns-then-is_empty-clause-exact
returns-then-is_empty-clause-exact c =
    let many : length (column_shapes c.args.columns.now) ≡ length c.args.columns.now = as_many c.args.columns.now in
    let none : length c.args.columns.now ≡ 0 = search rules in
    row_of_none_at c.args.start (column_shapes c.args.columns.now) c.args.bytes.now c.requires.kind.0 c.requires.kind.1 (many ∙ none)

pub returns-in-Some-clause-exact : goal.returns-in-Some-clause-exact
returns-in-Some-clause-exact c =
    let many : length (column_shapes c.args.columns.now) ≡ length c.args.columns.now = as_many c.args.columns.now in
    let some : (length c.args.columns.now == 0) ≡ false = search rules in
    let found = c.in-Some.ensures.exact in (
      found.0,
      row_at c.args.start (column_shapes c.args.columns.now) c.args.bytes.now c.requires.kind.0 c.requires.kind.1 (ap (λ (n : ℕ). n == 0) many ∙ some)
          ∙ (found.1 ∙ ap (λ (n : ℕ). Got (take n c.places_from.new.places) (drop c.in-Some.end c.args.bytes.now)) (sym many)),
    )

pub returns-in-None-clause-exact : goal.returns-in-None-clause-exact
returns-in-None-clause-exact c =
    let many : length (column_shapes c.args.columns.now) ≡ length c.args.columns.now = as_many c.args.columns.now in
    let some : (length c.args.columns.now == 0) ≡ false = search rules in
    row_at c.args.start (column_shapes c.args.columns.now) c.args.bytes.now c.requires.kind.0 c.requires.kind.1 (ap (λ (n : ℕ). n == 0) many ∙ some) ∙ c.in-None.ensures.exact

pub returns-in-Some-clause-divided : goal.returns-in-Some-clause-divided
returns-in-Some-clause-divided c =
    divided false [] 0 (column_shapes c.args.columns.now) (c.args.start + 1) (drop (c.args.start + 1) c.args.bytes.now) _ _ c.in-Some.ensures.exact.1
