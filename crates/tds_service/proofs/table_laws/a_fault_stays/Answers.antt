use Rattle.tds_service.proofs.Lifted.{a_fault_stays}
use Rattle.tds_service.proofs.table_laws.a_fault_stays.Goals as goal

pub returns : goal.returns
returns g c = λ max most n calls others. a_fault_stays max most n calls others
