use Rattle.tds_trace.proofs.Attended.{attended}
use Rattle.tds_trace.proofs.laws.attentions_in_bytes.Goals as goal

pub returns : goal.returns
returns c = attended
