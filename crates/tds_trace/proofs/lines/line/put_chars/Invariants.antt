use Rattle.std.proofs.Common.{◌≡◌, ◌++◌, string_bytes, take}
use Rattle.std.specs.List.{flat_map}
use Rattle.tds_trace.specs.Lines.{json_char}
use Rattle.tds_trace.proofs.lines.line.put_chars.Given as goal

abbrev pub invariant-loop-char : goal.invariant-loop-char
invariant-loop-char l = string_bytes l.text ≡ string_bytes l.fn.text ++ flat_map json_char (take l.char-index l.chars)
