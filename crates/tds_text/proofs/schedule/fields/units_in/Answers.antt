use Rattle.std.proofs.Common.{◌≡◌, ℕ, List, [], ◌∷◌, ◌++◌, sym, ap, ◌∙◌, append_assoc, append-nil}
use Rattle.tds_text.proofs.Utf16.{units_left, next_unit, no_unit}
use Rattle.tds_text.proofs.schedule.fields.units_in.Goals as goal

pub loop-unit-preserved : goal.loop-unit-preserved
loop-unit-preserved c =
    let step = next_unit c.loop-unit.unit-iterator c.next.new.self c.in-Some.unit c.loop-unit.invariant.text c.in-Some.ensures.steps in
    record {
      taken = rw c.in_ok-push.ensures.items
          (append_assoc c.loop-unit.units.items (c.in-Some.unit ∷ []) (units_left c.next.new.self)
          ∙ (ap (λ (left : List ℕ). c.loop-unit.units.items ++ left) (sym step.0) ∙ c.loop-unit.invariant.taken));
      text = step.1;
    }

pub returns : goal.returns
returns c =
    let none : units_left c.loop-unit.unit-iterator ≡ [] = no_unit c.loop-unit.unit-iterator c.next.new.self c.in-None.ensures.steps in
    sym (append-nil c.loop-unit.units.items) ∙ (ap (λ (left : List ℕ). c.loop-unit.units.items ++ left) (sym none) ∙ c.loop-unit.invariant.taken)
