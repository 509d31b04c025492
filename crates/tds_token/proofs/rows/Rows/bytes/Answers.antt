use Rattle.std.proofs.Common.{ℤ, List, [], subst}
use Rattle.tds_token.specs.Runs.{IsRun}
use Rattle.tds_token.proofs.Runs.{are_run}
use Rattle.tds_token.proofs.rows.Rows.bytes.Goals as goal

pub returns : goal.returns
returns c =
    (c.self.inside.columns, subst (λ (rows : List (List ℤ)). IsRun c.self.inside.columns c.self.inside.bytes.now rows []) c.self.view_is (are_run c.self.inside.count c.self.inside.columns c.self.inside.bytes.now [] c.self.invariant))
