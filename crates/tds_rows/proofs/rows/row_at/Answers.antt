use Rattle.std.proofs.Common.{rules}
use Rattle.tds_rows.specs.Finding.{column_shapes}
use Rattle.tds_rows.proofs.Begun.{other_at}
use Rattle.tds_rows.proofs.rows.row_at.Goals as goal

pub returns-in_default-clause-exact : goal.returns-in_default-clause-exact
returns-in_default-clause-exact c = other_at c.args.start (column_shapes c.args.columns.now) c.args.bytes.now c.requires.start (search rules) (search rules)
