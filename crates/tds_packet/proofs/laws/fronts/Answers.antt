use Rattle.tds_packet.proofs.Prefixes.{fronts}
use Rattle.tds_packet.proofs.laws.fronts.Goals as goal

pub returns : goal.returns
returns c = λ r front more content header. fronts r front more content header
