use Rattle.tds_service.proofs.Lifted.{names_newest}
use Rattle.tds_service.proofs.table_laws.names_newest.Goals as goal

pub returns : goal.returns
returns g c = λ max n calls. names_newest max n calls
