use Rattle.tds_rows.proofs.Listed.{columns_laid}
use Rattle.tds_rows.proofs.laws.columns_are_those_of_the_layout.Goals as goal

pub returns : goal.returns
returns c = columns_laid
