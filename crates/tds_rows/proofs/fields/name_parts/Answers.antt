use Rattle.std.proofs.Common.{rules, ◌≡◌, ◌-◌, ◌∙◌, ℕ, ap, sym, subst}
use Rattle.tds_wire.specs.Layout.{◌>>=◌, long_name, name_parts}
use Rattle.tds_rows.specs.Reading.{Fails}
use Rattle.tds_rows.proofs.Loops.{fails_on, name_parts_on, name_parts_over}
use Rattle.tds_rows.proofs.fields.name_parts.Goals as goal

pub returns-in-Err : goal.returns-in-Err
returns-in-Err c =
    subst (Fails c.in-Err.fault) (sym (name_parts_on c.parts.left c.parts.rest.now c.parts-test.true) ∙ c.parts.invariant)
    (fails_on c.in-Err.fault (long_name c.parts.rest.now) (λ u rest. name_parts (c.parts.left - 1) rest) c.in-Err.ensures)

pub parts-preserved : goal.parts-preserved
parts-preserved c =
    sym (name_parts_on c.parts.left c.parts.rest.now c.parts-test.true ∙ ap (λ r. r >>= λ u rest. name_parts (c.parts.left - 1) rest) c.in-Ok.ensures) ∙ c.parts.invariant

pub returns : goal.returns
returns c =
    let z : c.parts.left ≡ 0 = search rules in
    sym c.parts.invariant ∙ (ap (λ (n : ℕ). name_parts n c.parts.rest.now) z ∙ name_parts_over c.parts.rest.now)
