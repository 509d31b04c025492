use Rattle.tds_service.proofs.Lifted.{idle_by_acknowledgement}
use Rattle.tds_service.proofs.table_laws.idle_by_acknowledgement.Goals as goal

pub returns : goal.returns
returns g c = λ max n calls. idle_by_acknowledgement max n calls
