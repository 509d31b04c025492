use Rattle.std.proofs.Common.{List, ℤ, length, ap, ◌∙◌}
use Rattle.tds_token.proofs.Runs.{how_many}
use Rattle.tds_token.proofs.rows.Rows.len.Goals as goal

pub returns : goal.returns
returns c =
    how_many c.self.inside.count c.self.inside.columns c.self.inside.bytes.now ∙ ap (λ (rows : List (List ℤ)). length rows) c.self.view_is
