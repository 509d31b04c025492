use Rattle.std.proofs.Common.{append_assoc}
use Rattle.tds_text.specs.Lines.{connection_head}
use Rattle.tds_text.proofs.rendering.line.put_connection_head.Goals as goal

pub returns : goal.returns
unfolding connection_head
returns c = rw append_assoc (rw c.client_word_of.ensures at c.write.ensures.bytes)
