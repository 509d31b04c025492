use Rattle.std.proofs.Common.{◌≡◌, ◌++◌, string_bytes, take}
use Rattle.tds_trace.specs.Lines.{snapshots_text}
use Rattle.tds_trace.proofs.lines.put_snapshots.Given as goal

abbrev pub invariant-loop-index : goal.invariant-loop-index
invariant-loop-index l = string_bytes l.text ≡ string_bytes l.fn.text ++ snapshots_text (take l.index l.snapshots)
