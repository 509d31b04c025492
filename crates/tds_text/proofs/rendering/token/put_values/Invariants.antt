use Rattle.std.proofs.Common.{◌≡◌, ◌++◌, string_bytes, take}
use Rattle.tds_text.specs.Tokens.{values_text}
use Rattle.tds_text.proofs.rendering.token.put_values.Given as goal

abbrev pub invariant-loop-index : goal.invariant-loop-index
invariant-loop-index l = string_bytes l.text ≡ string_bytes l.fn.text ++ values_text (take l.index l.values)
