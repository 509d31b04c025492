use Rattle.tds_ends.proofs.AllBytes.{nothing_read}
use Rattle.tds_ends.proofs.all_bytes.nothing_is_read.Goals as goal

pub returns : goal.returns
returns c = nothing_read
