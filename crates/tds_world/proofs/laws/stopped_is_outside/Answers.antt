use Rattle.tds_world.proofs.requests.Stopped as stopped
use Rattle.tds_world.proofs.laws.stopped_is_outside.Goals as goal

pub returns : goal.returns
returns c = stopped.stopped_is_outside
