use Rattle.tds_world.proofs.plays.Few as few
use Rattle.tds_world.proofs.losses.few_of_each.Goals as goal

pub returns : goal.returns
returns c = few.few_of_each
