use Rattle.std.proofs.Common.{rules, ◌≡◌, ◌-◌, ◌∙◌, ℕ, ap, sym, subst}
use Rattle.tds_wire.specs.Layout.{◌>>=◌, key_values}
use Rattle.tds_rows.specs.Columns.{key_value}
use Rattle.tds_rows.specs.Reading.{Fails}
use Rattle.tds_rows.proofs.Loops.{fails_on, key_values_on, key_values_over}
use Rattle.tds_rows.proofs.keys.key_values.Goals as goal

pub returns-in-Err : goal.returns-in-Err
returns-in-Err c =
    subst (Fails c.in-Err.fault) (sym (key_values_on c.values.left c.values.rest.now c.values-test.true) ∙ c.values.invariant)
    (fails_on c.in-Err.fault (key_value c.values.rest.now) (λ u rest. key_values (c.values.left - 1) rest) c.in-Err.ensures)

pub values-preserved : goal.values-preserved
values-preserved c =
    sym (key_values_on c.values.left c.values.rest.now c.values-test.true ∙ ap (λ r. r >>= λ u rest. key_values (c.values.left - 1) rest) c.in-Ok.ensures) ∙ c.values.invariant

pub returns : goal.returns
returns c =
    let z : c.values.left ≡ 0 = search rules in
    sym c.values.invariant ∙ (ap (λ (n : ℕ). key_values n c.values.rest.now) z ∙ key_values_over c.values.rest.now)
