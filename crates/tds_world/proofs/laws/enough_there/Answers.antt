use Rattle.tds_world.proofs.rest.Enough as enough
use Rattle.tds_world.proofs.laws.enough_there.Goals as goal

pub returns : goal.returns
returns c = enough.enough_there
