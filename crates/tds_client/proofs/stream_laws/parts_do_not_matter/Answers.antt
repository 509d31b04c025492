use Rattle.tds_client.proofs.Streaming.{two_parts}
use Rattle.tds_client.proofs.stream_laws.parts_do_not_matter.Goals as goal

pub returns : goal.returns
returns c = two_parts
