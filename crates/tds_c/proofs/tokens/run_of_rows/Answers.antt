use Rattle.std.proofs.Common.{rules, refl}
use Rattle.tds_c.proofs.Rows.{as_rows, is_run}
use Rattle.tds_c.proofs.tokens.run_of_rows.Goals as goal

pub returns : goal.returns
returns c =
    as_rows _ _ _ _ _ c.in-Some.columns (search rules)
    (is_run c.args.data.now c.args.cursor.now c.in-Some.columns c.rows-run.new.self.columns c.rows-run.new.self.bytes c.rows-run.result _ _ (search rules)
    (rw c.behind.ensures at (rw c.new-tokens.ensures at c.rows-run.ensures.in_turn)) c.rows-run.ensures.all (search rules, search rules) refl (search rules) (search rules))
