use Rattle.tds_packet.proofs.Prefixes.{whatever_follows}
use Rattle.tds_packet.proofs.laws.whatever_follows.Goals as goal

pub returns : goal.returns
returns c = λ r packet rest content header pieces. whatever_follows r packet rest content header pieces
