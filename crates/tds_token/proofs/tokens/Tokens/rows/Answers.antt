use Rattle.std.proofs.Common.{◌≡◌, Option, ℕ, subst}
use Rattle.tds_token.specs.Contents.{contents_of}
use Rattle.tds_token.specs.Cursor.{Cursor}
use Rattle.tds_token.specs.Runs.{GivesInTurn, NoRow, row_tokens, with_tokens}
use Rattle.tds_token.proofs.Runs.{contents_by_rows, no_more_rows, run_bytes, stays, turn_by}
use Rattle.tds_token.proofs.tokens.Tokens.rows.Goals as goal

pub returns-in_default-clause-in_turn : goal.returns-in_default-clause-in_turn
returns-in_default-clause-in_turn c = rw c.none.ensures (stays c.args.self.now)

pub invariant_of-self : goal.invariant_of-self
invariant_of-self c =
    (c.self.invariant.0, run_bytes c.in-Some.count c.self.inside.bytes.now c.at_front-rows.result.0 c.at_front-rows.result.1.now c.self.invariant.1 c.at_front-rows.ensures.run)

pub returns-clause-in_turn : goal.returns-clause-in_turn
returns-clause-in_turn c =
    subst (λ (first : Cursor). GivesInTurn first (row_tokens c.at_front-rows.result.0) (record { bytes = c.at_front-rows.result.1.now; columns = c.self.inside.columns })) c.self.view_is
    (turn_by c.in-Some.count c.self.inside.columns c.self.inside.bytes.now c.at_front-rows.result.0 c.at_front-rows.result.1.now c.in-Some.ensures.value c.at_front-rows.ensures.run)

pub returns-clause-contents : goal.returns-clause-contents
returns-clause-contents c =
    subst (λ (first : Cursor). contents_of first.columns first.bytes ≡ with_tokens (row_tokens c.at_front-rows.result.0) (contents_of c.self.inside.columns c.at_front-rows.result.1.now)) c.self.view_is
    (contents_by_rows c.in-Some.count c.self.inside.columns c.self.inside.bytes.now c.at_front-rows.result.0 c.at_front-rows.result.1.now c.in-Some.ensures.value c.self.invariant.0 c.self.invariant.1 c.at_front-rows.ensures.run)

pub returns-clause-all : goal.returns-clause-all
returns-clause-all c =
    subst (λ (columns : Option ℕ). NoRow columns c.at_front-rows.result.1.now) c.in-Some.ensures.value (no_more_rows c.in-Some.count c.at_front-rows.result.1.now c.at_front-rows.ensures.all)
