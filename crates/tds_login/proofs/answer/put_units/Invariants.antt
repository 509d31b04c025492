use Rattle.std.proofs.Common.{◌≡◌, ◌++◌, take}
use Rattle.tds_login.specs.Answers.{units_of}
use Rattle.tds_login.proofs.answer.put_units.Given as goal

abbrev pub invariant-loop-byte : goal.invariant-loop-byte
invariant-loop-byte l = l.data.items ≡ l.fn.data.items ++ units_of (take l.byte-index l.text)
