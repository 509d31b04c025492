use Rattle.tds_ends.proofs.WholeServer.{all_served}
use Rattle.tds_ends.proofs.laws.whole_packets_are_served.Goals as goal

pub returns : goal.returns
returns g c = all_served c.one_packet.ensures c.fronts.ensures
