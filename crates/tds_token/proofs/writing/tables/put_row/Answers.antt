use Rattle.std.proofs.Common.{◌≡◌, ◌∷◌, [], ◌∙◌, pos, get_or, to_z, of_z, refl, rules}
use Rattle.std.specs.Int.{w32}
use Rattle.std.proofs.lemmas.Int.{to_z-of_z}
use Rattle.tds_token.specs.Layout.{IsInt, int_bytes}
use Rattle.tds_token.proofs.Growing.{piece_more, pieces_all, holds_more, holds_of_all}
use Rattle.tds_token.proofs.Keeping.{kept_append}
use Rattle.tds_token.proofs.writing.tables.put_row.Goals as goal

pub values-preserved : goal.values-preserved
values-preserved c =
    let value = get_or c.args.values.now c.values.value-index (pos 0) in
    let fits : IsInt value = search rules in
    let passed : to_z w32 (of_z w32 value) ≡ value = to_z-of_z w32 value fits in (
      piece_more int_bytes c.args.values.now c.values.value-index (to_z w32 (of_z w32 value)) (pos 0) c.args.out.now.items (209 ∷ []) c.values.out.items _ c.values-test.true passed c.values.invariant.0 c.in_ok-put_int.ensures.ok,
      holds_more IsInt c.args.values.now c.values.value-index value (pos 0) c.values-test.true refl c.values.invariant.1 fits,
    )

pub returns-in_err-put_int-clause-kept : goal.returns-in_err-put_int-clause-kept
returns-in_err-put_int-clause-kept c = kept_append _ _ _ (c.in_err-put_int.ensures.err ∙ c.values.invariant.0)

pub returns-clause-ok : goal.returns-clause-ok
returns-clause-ok c =
    pieces_all int_bytes c.args.values.now c.values.value-index c.args.out.now.items (209 ∷ []) c.values.out.items c.values-test.false c.values.invariant.0

pub returns-clause-ranged : goal.returns-clause-ranged
returns-clause-ranged c =
    holds_of_all IsInt c.args.values.now c.values.value-index c.values-test.false c.values.invariant.1

pub returns-clause-kept : goal.returns-clause-kept
returns-clause-kept c = kept_append _ _ _ c.values.invariant.0
