use Rattle.tds_service.proofs.Lifted.{one_attention}
use Rattle.tds_service.proofs.table_laws.one_attention.Goals as goal

pub returns : goal.returns
returns g c = λ max n calls. one_attention max n calls
