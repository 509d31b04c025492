use Rattle.std.proofs.Common.{◌∷◌, length}
use Rattle.std.specs.Int.{w16, to_le_bytes}
use Rattle.tds_token.specs.Layout.{RangedColumn, column_bytes}
use Rattle.tds_token.proofs.Growing.{piece_more, pieces_all, holds_more, holds_of_all}
use Rattle.tds_token.proofs.Keeping.{kept_append, kept_trans}
use Rattle.tds_token.proofs.writing.tables.put_columns.Goals as goal

pub returns-in_err-put_column-clause-kept : goal.returns-in_err-put_column-clause-kept
returns-in_err-put_column-clause-kept c =
    kept_trans _ _ _ (kept_append _ _ _ c.columns.invariant.0) c.put_column.ensures.kept

pub columns-preserved : goal.columns-preserved
columns-preserved c =
    let column = c.column-item.result in (
      piece_more column_bytes c.args.columns.now c.columns.column-index column column c.args.out.now.items (129 ∷ to_le_bytes w16 (length c.args.columns.now)) c.columns.out.items _ c.columns-test.true c.column-item.is c.columns.invariant.0 c.in_ok-put_column.ensures.ok,
      holds_more RangedColumn c.args.columns.now c.columns.column-index column column c.columns-test.true c.column-item.is c.columns.invariant.1 c.in_ok-put_column.ensures.ranged,
    )

pub returns-clause-ok : goal.returns-clause-ok
returns-clause-ok c =
    pieces_all column_bytes c.args.columns.now c.columns.column-index c.args.out.now.items (129 ∷ to_le_bytes w16 (length c.args.columns.now)) c.columns.out.items c.columns-test.false c.columns.invariant.0

pub returns-clause-ranged : goal.returns-clause-ranged
returns-clause-ranged c =
    holds_of_all RangedColumn c.args.columns.now c.columns.column-index c.columns-test.false c.columns.invariant.1

pub returns-clause-kept : goal.returns-clause-kept
returns-clause-kept c = kept_append _ _ _ c.columns.invariant.0
