use Rattle.std.proofs.Common.{◌≡◌, ◌∙◌, sym, true}
use Rattle.std.proofs.lemmas.Bool.{false≢true}
use Rattle.tds_state.proofs.Homes.{stays_calm}
use Rattle.tds_state.proofs.values.Values.note.Goals as goal
use Rattle.tds_state.proofs.values.Values.note.Goals.{then-self, else-self}

pub invariant_of-self : goal.invariant_of-self
invariant_of-self c calm =
    let both : (c.self.inside.is_calm ≡ true) × (c.if-is_recoverable.is_home ≡ true) = elim c.if-self.branch [
      | then-self w ↦ (w.if-self.true, sym w.self-is ∙ calm)
      | else-self w ↦ absurd (false≢true (sym w.if-self.false ∙ (sym w.self-is ∙ calm)))
    ] in
    stays_calm c.self.inside.astray c.from.result c.if-is_recoverable.is_home (c.self.invariant both.0) both.1
