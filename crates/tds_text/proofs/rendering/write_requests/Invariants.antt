use Rattle.std.proofs.Common.{◌+◌, drop}
use Rattle.tds_text.specs.Lines.{request_blocks}
use Rattle.tds_text.specs.Written.{WritesUpTo}
use Rattle.tds_text.proofs.rendering.write_requests.Given as goal

abbrev pub invariant-loop-index : goal.invariant-loop-index
invariant-loop-index g l = WritesUpTo (g.W.Write.contents l.fn.writer) (g.W.Write.contents l.writer) (request_blocks 1 l.fn.requests) (request_blocks (l.index + 1) (drop l.index l.requests))
