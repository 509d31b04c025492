use Rattle.std.proofs.Common.{◌≡◌, vec_len}
use Rattle.serve_values.proofs.text.units_in.Given as goal

abbrev pub invariant-loop-byte : goal.invariant-loop-byte
invariant-loop-byte l = vec_len l.units ≡ l.byte-index
