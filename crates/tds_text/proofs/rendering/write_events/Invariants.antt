use Rattle.std.proofs.Common.{◌+◌, drop}
use Rattle.tds_text.specs.Lines.{event_lines}
use Rattle.tds_text.specs.Written.{WritesUpTo}
use Rattle.tds_text.proofs.rendering.write_events.Given as goal

abbrev pub invariant-loop-index : goal.invariant-loop-index
invariant-loop-index g l = WritesUpTo (g.W.Write.contents l.fn.writer) (g.W.Write.contents l.writer) (event_lines 1 l.fn.events) (event_lines (l.index + 1) (drop l.index l.events))
