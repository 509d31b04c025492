use Rattle.std.proofs.Common.{rules}
use Rattle.tds_c.proofs.RowAt.{row_reads}
use Rattle.tds_c.proofs.tokens.row_at.Goals as goal

pub returns : goal.returns
returns c =
    row_reads c.args.data.now _ _ _ (search rules) (search rules) (search rules) (search rules) (search rules) (search rules) (search rules) (search rules) (search rules)
