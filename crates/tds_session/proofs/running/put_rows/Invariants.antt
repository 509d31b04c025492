use Rattle.std.proofs.Common.{◌≡◌, ◌++◌, ◌-◌}
use Rattle.tds_session.specs.Script.{rows_from}
use Rattle.tds_session.proofs.running.put_rows.Given as goal

abbrev pub invariant-loop-number : goal.invariant-loop-number
invariant-loop-number l = l.tokens.items ++ rows_from l.number (l.number-end - l.number) ≡ l.fn.tokens.items ++ rows_from l.first l.count
