use Rattle.std.proofs.Common.{rules, ◌≡◌, ◌-◌, ◌∙◌, ℕ, ap, sym, subst}
use Rattle.tds_wire.specs.Layout.{◌>>=◌, keys_at}
use Rattle.tds_rows.specs.Columns.{column_key}
use Rattle.tds_rows.specs.Reading.{Fails}
use Rattle.tds_rows.proofs.Loops.{fails_on, keys_on, keys_over}
use Rattle.tds_rows.proofs.keys.keys.Goals as goal

pub returns-in-Err : goal.returns-in-Err
returns-in-Err c =
    subst (Fails c.in-Err.fault) (sym (keys_on c.keys.left c.keys.rest.now c.keys-test.true) ∙ c.keys.invariant)
    (fails_on c.in-Err.fault (column_key c.keys.rest.now) (λ u rest. keys_at (c.keys.left - 1) rest) c.in-Err.ensures)

pub keys-preserved : goal.keys-preserved
keys-preserved c =
    sym (keys_on c.keys.left c.keys.rest.now c.keys-test.true ∙ ap (λ r. r >>= λ u rest. keys_at (c.keys.left - 1) rest) c.in-Ok.ensures) ∙ c.keys.invariant

pub returns : goal.returns
returns c =
    let z : c.keys.left ≡ 0 = search rules in
    sym c.keys.invariant ∙ (ap (λ (n : ℕ). keys_at n c.keys.rest.now) z ∙ keys_over c.keys.rest.now)
