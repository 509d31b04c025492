use Rattle.tds_service.proofs.Lifted.{after_cancel}
use Rattle.tds_service.proofs.table_laws.after_cancel.Goals as goal

pub returns : goal.returns
returns g c = λ max n calls. after_cancel max n calls
