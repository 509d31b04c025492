use Rattle.std.proofs.Common.{drop}
use Rattle.std.specs.List.{flat_map}
use Rattle.tds_text.specs.Lines.{connection_line}
use Rattle.tds_text.specs.Written.{WritesUpTo}
use Rattle.tds_text.proofs.rendering.write_connections.Given as goal

abbrev pub invariant-loop-snapshot : goal.invariant-loop-snapshot
invariant-loop-snapshot g l = WritesUpTo (g.W.Write.contents l.fn.writer) (g.W.Write.contents l.writer) (flat_map connection_line l.fn.snapshots) (flat_map connection_line (drop l.snapshot-index l.snapshots))
