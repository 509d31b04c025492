use Rattle.tds_ends.proofs.WholeClient.{all_listened}
use Rattle.tds_ends.proofs.laws.whole_packets_are_heard.Goals as goal

pub returns : goal.returns
returns c = all_listened c.one_packet.ensures c.fronts.ensures
