use Rattle.laws_conforming_server.proofs.Runs.{goes_on}
use Rattle.laws_conforming_server.proofs.Works.{lowers}
use Rattle.laws_conforming_server.proofs.laws.never_stuck.Goals as goal

pub returns-clause-waits : goal.returns-clause-waits
returns-clause-waits g c = goes_on

pub returns-clause-lowers : goal.returns-clause-lowers
returns-clause-lowers g c = lowers
