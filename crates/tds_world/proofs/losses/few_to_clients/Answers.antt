use Rattle.tds_world.proofs.plays.Few as few
use Rattle.tds_world.proofs.losses.few_to_clients.Goals as goal

pub returns : goal.returns
returns c = few.few_to_clients
