use Rattle.std.proofs.Common.{◌≡◌, ◌++◌, string_bytes, take}
use Rattle.tds_trace.specs.Lines.{calls_of}
use Rattle.tds_trace.proofs.lines.put_calls.Given as goal

abbrev pub invariant-loop-call : goal.invariant-loop-call
invariant-loop-call l = string_bytes l.text ≡ string_bytes l.fn.text ++ calls_of l.place (take l.call-index l.calls)
