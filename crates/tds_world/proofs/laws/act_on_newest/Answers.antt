use Rattle.tds_world.proofs.requests.Newest as newest
use Rattle.tds_world.proofs.laws.act_on_newest.Goals as goal

pub returns : goal.returns
returns c = newest.act_on_newest
