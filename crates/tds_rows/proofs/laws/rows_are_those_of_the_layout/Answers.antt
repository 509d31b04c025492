use Rattle.tds_rows.proofs.Laid.{rows_laid}
use Rattle.tds_rows.proofs.laws.rows_are_those_of_the_layout.Goals as goal

pub returns : goal.returns
returns c = rows_laid
