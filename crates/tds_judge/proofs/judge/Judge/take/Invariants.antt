use Rattle.std.proofs.Common.{length, take, ◌-◌, ◌≡◌, ◌≤◌}
use Rattle.tds_judge.specs.Framing.{steps}
use Rattle.tds_judge.proofs.judge.Judge.take.Given as goal

-- so far the first bytes have been judged
abbrev pub invariant-bytes : goal.invariant-bytes
invariant-bytes l = record {
  run : (record { judge = l.self; told = l.findings.items }) ≡ steps l.direction l.time (take l.done l.bytes) (record { judge = l.fn.self; told = l.fn.findings.items });
  within : l.done ≤ length l.bytes;
}

abbrev pub decreases-bytes : goal.decreases-bytes
decreases-bytes l = length l.bytes - l.done
