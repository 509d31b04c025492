use Rattle.std.proofs.Common.{ap, sym, ◌∙◌}
use Rattle.std.proofs.lemmas.Result.{err_from_is_err_and}
use Rattle.tds_token.specs.Cursor.{Cursor}
use Rattle.tds_client.proofs.Reading.{read_token, read_fault, read_end}
use Rattle.tds_client.specs.declared.heard.Heard.{Heard}
use Rattle.tds_client.proofs.Walking.{hears_on, hears_rows, hears_fault, hears_wrong, hears_end, row_leaves}
use Rattle.tds_client.proofs.walks.hear_data.Goals as goal

pub returns-in_err-heard-in-Ok-clause-heard : goal.returns-in_err-heard-in-Ok-clause-heard
returns-in_err-heard-in-Ok-clause-heard c =
    let p = err_from_is_err_and c.from_residual.result c.from_residual.ensures.1 in
    rw (p.1, p.2) (hears_fault _ _ _ _ _ c.tokens.invariant _ _ _ (read_token _ _ _ _ _ c.next.ensures.contents c.in-Some.is c.in-Ok.is) c.in_err-heard-in-Ok.ensures)

pub tokens-preserved : goal.tokens-preserved
tokens-preserved c = hears_on _ _ _ _ _ c.tokens.invariant _ _ _ (read_token _ _ _ _ _ c.next.ensures.contents c.in-Some.is c.in-Ok.is) c.in_ok-heard-in-Ok.ensures

pub tokens-preserved-then-is_row : goal.tokens-preserved-then-is_row
tokens-preserved-then-is_row c =
    let behind = hears_on _ _ _ _ _ c.tokens.invariant _ _ _ (read_token _ _ _ _ _ c.next.ensures.contents c.in-Some.is c.in-Ok.is) c.in_ok-heard-in-Ok.ensures in
    let row = row_leaves _ _ _ _ (sym c.is_row.ensures ∙ c.if-is_row.true) c.in_ok-heard-in-Ok.ensures in
    hears_rows _ _ _ _ _ _ c.rows.result behind (ap (λ (heard : Heard). heard.done) row.0 ∙ row.1) c.rows.ensures.contents

pub returns-in-Err-clause-heard : goal.returns-in-Err-clause-heard
returns-in-Err-clause-heard c = hears_wrong _ _ _ _ _ c.tokens.invariant _ _ (read_fault _ _ _ _ _ c.next.ensures.contents c.in-Some.is c.in-Err.is)

pub returns-clause-heard : goal.returns-clause-heard
returns-clause-heard c = (hears_end _ _ _ _ _ c.tokens.invariant _ (read_end _ _ (c.next.ensures.none c.in_default.is).0)).0

pub returns-clause-columns : goal.returns-clause-columns
returns-clause-columns c =
    c.columns.ensures ∙ (ap (λ (d : Cursor). d.columns) (c.next.ensures.none c.in_default.is).1
    ∙ (hears_end _ _ _ _ _ c.tokens.invariant _ (read_end _ _ (c.next.ensures.none c.in_default.is).0)).1)
