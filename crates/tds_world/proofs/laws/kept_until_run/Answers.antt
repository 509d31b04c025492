use Rattle.tds_world.proofs.requests.Stopped as stopped
use Rattle.tds_world.proofs.laws.kept_until_run.Goals as goal

pub returns : goal.returns
returns c = stopped.kept_until_run
