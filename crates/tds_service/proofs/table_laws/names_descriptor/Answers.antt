use Rattle.tds_service.proofs.Lifted.{names_descriptor}
use Rattle.tds_service.proofs.table_laws.names_descriptor.Goals as goal

pub returns : goal.returns
returns g c = λ max n calls. names_descriptor max n calls
