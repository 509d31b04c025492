use Rattle.tds_ends.proofs.ClientDelivery.{listen_alike}
use Rattle.tds_ends.proofs.laws.listens_alike.Goals as goal

pub returns : goal.returns
returns c = listen_alike
