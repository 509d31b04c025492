use Rattle.std.proofs.Common.{◌≤◌, length}
use Rattle.serve_values.proofs.text.trimmed.Given as goal

abbrev pub invariant-loop : goal.invariant-loop
invariant-loop l = length l.rest ≤ length l.fn.text
