use Rattle.std.proofs.Common.{length}
use Rattle.tds_text.specs.Written.{WritesUpTo}
use Rattle.tds_text.proofs.rendering.written.write_whole.Given as goal

abbrev pub decreases-loop-rest : goal.decreases-loop-rest
decreases-loop-rest g l = length l.rest

abbrev pub invariant-loop-rest : goal.invariant-loop-rest
invariant-loop-rest g l = WritesUpTo (g.W.Write.contents l.fn.writer) (g.W.Write.contents l.writer) l.fn.text l.rest
