use Rattle.tds_service.proofs.Lifted.{paired}
use Rattle.tds_service.proofs.table_laws.paired.Goals as goal

pub returns : goal.returns
returns g c = λ max n calls. paired max n calls
