use Rattle.tds_service.proofs.Walks.{one_attention}
use Rattle.tds_service.proofs.laws.one_attention.Goals as goal

pub returns : goal.returns
returns g c = λ before acts. one_attention before acts
