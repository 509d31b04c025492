use Rattle.tds_service.proofs.Idle.{lends_idle}
use Rattle.tds_service.proofs.table_laws.lends_idle.Goals as goal

pub returns : goal.returns
returns g c = λ max before call. lends_idle max before call
