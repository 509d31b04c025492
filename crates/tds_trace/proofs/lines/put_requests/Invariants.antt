use Rattle.std.proofs.Common.{◌≡◌, ◌+◌, ◌++◌, string_bytes, drop}
use Rattle.tds_trace.specs.Lines.{request_lines}
use Rattle.tds_trace.proofs.lines.put_requests.Given as goal

abbrev pub invariant-loop-index : goal.invariant-loop-index
invariant-loop-index l =
    string_bytes l.text ++ request_lines (l.index + 1) (drop l.index l.requests)
    ≡ string_bytes l.fn.text ++ request_lines 1 l.fn.requests
