use Rattle.std.proofs.Common.{List, ℕ, ℤ, ◌-◌, ◌<◌, ◌≡◌, ◌∷◌, [], ap, sym, ◌∙◌, arith}
use Rattle.tds_token.specs.Runs.{behind_row, rows_of}
use Rattle.tds_token.proofs.Runs.{first_is, others_are, first_and_others, no_rows}
use Rattle.tds_token.proofs.rows.Rows.take_first.Goals as goal

pub returns-then-self-eq0-clause-none : goal.returns-then-self-eq0-clause-none
returns-then-self-eq0-clause-none c =
    let empty : c.args.self.now ≡ [] = sym c.self.view_is ∙ ap (λ (count : ℕ). rows_of count c.self.inside.columns c.self.inside.bytes.now) c.if-self-eq0.true ∙ no_rows c.self.inside.columns c.self.inside.bytes.now in
    (empty, empty)

pub split_row-row-requires : goal.split_row-row-requires
split_row-row-requires c =
    let some : 0 < c.self.inside.count = grind (arith, c.if-self-eq0.false) in
    first_is c.self.inside.count c.self.inside.columns c.self.inside.bytes.now [] some c.self.invariant

pub invariant_of-self : goal.invariant_of-self
invariant_of-self c =
    let some : 0 < c.self.inside.count = grind (arith, c.if-self-eq0.false) in
    rw c.split_row-row.ensures.rest (others_are c.self.inside.count c.self.inside.columns c.self.inside.bytes.now [] some c.self.invariant)

pub returns-clause-some : goal.returns-clause-some
returns-clause-some c =
    let some : 0 < c.self.inside.count = grind (arith, c.if-self-eq0.false) in
    sym c.self.view_is ∙ first_and_others c.self.inside.count c.self.inside.columns c.self.inside.bytes.now some
    ∙ ap (λ (row : List ℤ). row ∷ rows_of (c.self.inside.count - 1) c.self.inside.columns (behind_row c.self.inside.columns c.self.inside.bytes.now)) (sym c.split_row-row.ensures.row)
    ∙ ap (λ (bytes : List ℕ). c.split_row-row.result.0 ∷ rows_of (c.self.inside.count - 1) c.self.inside.columns bytes) (sym c.split_row-row.ensures.rest)
