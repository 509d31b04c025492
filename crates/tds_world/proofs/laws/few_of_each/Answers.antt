use Rattle.tds_world.proofs.reports.Few as few
use Rattle.tds_world.proofs.laws.few_of_each.Goals as goal

pub returns : goal.returns
returns c = few.few_of_each
