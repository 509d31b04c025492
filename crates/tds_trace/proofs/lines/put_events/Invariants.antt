use Rattle.std.proofs.Common.{◌≡◌, ◌+◌, ◌++◌, string_bytes, drop}
use Rattle.tds_trace.specs.Lines.{event_lines}
use Rattle.tds_trace.proofs.lines.put_events.Given as goal

abbrev pub invariant-loop-index : goal.invariant-loop-index
invariant-loop-index l =
    string_bytes l.text ++ event_lines (l.index + 1) (drop l.index l.events) l.calls
    ≡ string_bytes l.fn.text ++ event_lines 1 l.fn.events l.fn.calls
