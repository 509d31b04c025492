use Rattle.tds_ends.proofs.ServerDelivery.{serve_alike}
use Rattle.tds_ends.proofs.laws.serves_alike.Goals as goal

pub returns : goal.returns
returns g c = serve_alike
