use Rattle.tds_service.proofs.Pairing.{paired}
use Rattle.tds_service.proofs.laws.paired.Goals as goal

pub returns : goal.returns
returns g c = λ acts. paired acts
