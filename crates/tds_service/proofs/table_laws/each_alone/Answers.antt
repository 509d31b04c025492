use Rattle.tds_service.proofs.Alone.{each_alone}
use Rattle.tds_service.proofs.table_laws.each_alone.Goals as goal

pub returns : goal.returns
returns g c = λ max n calls. each_alone max n calls
