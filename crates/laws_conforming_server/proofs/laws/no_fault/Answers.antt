use Rattle.laws_conforming_server.proofs.Runs.{never_faults}
use Rattle.laws_conforming_server.proofs.laws.no_fault.Goals as goal

pub returns : goal.returns
returns g c = never_faults
