use Rattle.tds_service.proofs.Owners.{told_to_asker}
use Rattle.tds_service.proofs.table_laws.told_to_asker.Goals as goal

pub returns : goal.returns
returns g c = λ max n calls. told_to_asker max n calls
