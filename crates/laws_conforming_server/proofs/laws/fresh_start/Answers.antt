use Rattle.laws_conforming_server.proofs.Runs.{runs_fresh}
use Rattle.laws_conforming_server.proofs.laws.fresh_start.Goals as goal

pub returns : goal.returns
returns g c = runs_fresh
