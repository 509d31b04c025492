use Rattle.laws_conforming_server.proofs.Runs.{idle_quiet}
use Rattle.laws_conforming_server.proofs.laws.idle_is_quiet.Goals as goal

pub returns : goal.returns
returns g c = idle_quiet
