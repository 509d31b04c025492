use Rattle.tds_relay.proofs.ends.Faulting.{is_met, is_met_on}
use Rattle.tds_relay.proofs.laws.faults_are_met.Goals as goal

pub returns-clause-application : goal.returns-clause-application
returns-clause-application c = is_met

pub returns-clause-connection : goal.returns-clause-connection
returns-clause-connection c = is_met_on
