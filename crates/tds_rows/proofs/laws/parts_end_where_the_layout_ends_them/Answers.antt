use Rattle.tds_rows.proofs.Ending.{value_ends, value_lacks}
use Rattle.tds_rows.proofs.laws.parts_end_where_the_layout_ends_them.Goals as goal

pub returns-clause-ends : goal.returns-clause-ends
returns-clause-ends c = value_ends

pub returns-clause-lacks : goal.returns-clause-lacks
returns-clause-lacks c = value_lacks
