use Rattle.tds_service.proofs.Others.{others_stay}
use Rattle.tds_service.proofs.table_laws.others_stay.Goals as goal

pub returns : goal.returns
returns g c = λ s call n seat ne e. others_stay _ n seat s call ne e
