use Rattle.std.proofs.Common.{append_assoc}
use Rattle.tds_trace.specs.Lines.{bytes_head}
use Rattle.tds_trace.proofs.lines.call.put_bytes_head.Goals as goal

pub returns : goal.returns
unfolding bytes_head
returns c = rw append_assoc (rw c.direction_word_of-word.ensures at c.write.ensures.bytes)
