use Rattle.tds_ends.proofs.AllHeard.{client_reads}
use Rattle.tds_ends.proofs.all_bytes.all_bytes_are_heard.Goals as goal

pub returns : goal.returns
returns c = client_reads
