use Rattle.laws_conforming_server.proofs.Runs.{leaves_clean}
use Rattle.laws_conforming_server.proofs.laws.left_clean.Goals as goal

pub returns : goal.returns
returns g c = leaves_clean
