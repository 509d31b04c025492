use Rattle.std.proofs.Common.{append_assoc}
use Rattle.tds_trace.specs.Lines.{setup_head}
use Rattle.tds_trace.proofs.lines.put_setup_head.Goals as goal

pub returns : goal.returns
unfolding setup_head
returns c = simp append_assoc c.write.ensures.bytes
