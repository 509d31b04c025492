use Rattle.tds_packet.proofs.Streams.{any_stream}
use Rattle.tds_packet.proofs.laws.any_stream.Goals as goal

pub returns : goal.returns
returns c = any_stream
