use Rattle.std.proofs.Common.{rules, refl}
use Rattle.tds_judge.specs.Framing.{run_of, steps}
use Rattle.tds_judge.proofs.InRuns.{takes_more}
use Rattle.tds_judge.proofs.judge.Judge.take.Goals as goal

pub bytes-init : goal.bytes-init
unfolding steps
bytes-init c = record { run = refl; within = search rules }

pub bytes-preserved : goal.bytes-preserved
bytes-preserved c = record {
  run = takes_more c.args.direction c.args.time c.bytes.done c.in-Ok.count c.args.bytes.now (run_of c.args.self.now c.args.findings.now.items) (run_of c.bytes.self c.bytes.findings.items) (run_of c.take_run.new.self c.take_run.new.findings.items) c.bytes.invariant.within c.in-Ok.ensures.ok c.bytes.invariant.run;
  within = search rules;
}
