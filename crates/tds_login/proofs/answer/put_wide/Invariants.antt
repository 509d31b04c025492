use Rattle.std.proofs.Common.{◌≡◌, ◌++◌, take}
use Rattle.tds_login.specs.Answers.{wide}
use Rattle.tds_login.proofs.answer.put_wide.Given as goal

abbrev pub invariant-loop-unit : goal.invariant-loop-unit
invariant-loop-unit l = l.data.items ≡ l.fn.data.items ++ wide (take l.unit-index l.units)
