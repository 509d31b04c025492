use Rattle.std.proofs.Common.{◌≡◌, ◌≤◌, ◌-◌, ℕ, List, length, take}
use Rattle.tds_judge.specs.declared.finding.Direction.TheVariants.{ToClient}
use Rattle.tds_judge.specs.declared.finding.Finding.{Finding}
use Rattle.tds_judge.specs.Framing.{run_of, steps}
use Rattle.tds_judge.specs.Rows.{IsAtRow}
use Rattle.tds_judge.proofs.judge.Judge.pass_rows.Given as goal

-- so far the first bytes have been passed
abbrev pub invariant-rows : goal.invariant-rows
invariant-rows l = record {
  done : l.done ≤ length l.run;
  at : IsAtRow (l.left - l.done) l.self;
  run : (time : ℕ) → (told : List Finding) → run_of l.self told ≡ steps ToClient time (take l.done l.run) (run_of l.fn.self told);
  same : l.done ≡ 0 → l.self ≡ l.fn.self;
}

abbrev pub decreases-rows : goal.decreases-rows
decreases-rows l = length l.run - l.done
