use Rattle.tds_packet.proofs.Prefixes.{one_packet}
use Rattle.tds_packet.proofs.laws.one_packet.Goals as goal

pub returns : goal.returns
returns c = λ d s a b x y first second one other. one_packet d s a b x y first second one other
