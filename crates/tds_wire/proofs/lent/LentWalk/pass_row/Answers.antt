use Rattle.std.proofs.Common.{rules, refl, ◌≡◌, ◌-◌, ap, length, subst}
use Rattle.tds_wire.proofs.WholeRows.{moved_on, ready_again}
use Rattle.tds_wire.proofs.lent.LentWalk.pass_row.Goals as goal
use Rattle.tds_wire.specs.Lent.{reading_of}
use Rattle.tds_wire.specs.Reading.{Parser}
use Rattle.tds_wire.specs.Rows.{IsPassed}

pub returns-clause-ready : goal.returns-clause-ready
returns-clause-ready c = ready_again (reading_of c.args.self.now c.args.memory.now) _ _ c.requires

pub returns-clause-row : goal.returns-clause-row
returns-clause-row c =
    let r = reading_of c.args.self.now c.args.memory.now in
    let n = c.whole_row-length.result in
    let i : c.count.result - 1 ≡ length r.walk.columns - 1 = ap (λ k. k - 1) c.count.ensures.count in
    λ some. subst (λ (s : Parser). IsPassed n r s c.args.piece.now) (moved_on r (c.count.result - 1) n _ c.requires i (search rules)) (c.whole_row-length.ensures.row some r c.requires refl)
