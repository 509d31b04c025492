use Rattle.std.proofs.Common.{rules, arith, refl, ◌≡◌, ◌<◌, ◌+◌, ◌-◌, ℕ, subst}
use Rattle.tds_judge.specs.declared.finding.Direction.TheVariants.{ToClient}
use Rattle.tds_judge.specs.Framing.{run_of}
use Rattle.tds_judge.specs.Rows.{IsAtRow}
use Rattle.tds_judge.proofs.InRuns.{takes_more}
use Rattle.tds_judge.proofs.RowRuns.{no_steps}
use Rattle.tds_judge.proofs.judge.Judge.pass_rows.Goals as goal

pub rows-init : goal.rows-init
rows-init c =
    let whole : c.args.left ≡ c.args.left - 0 = omega arith in
    let at = c.if-not-is_at_row.ensures in
    record {
      done = omega arith;
      at = subst (λ (n : ℕ). IsAtRow n c.args.self.now) whole (at refl c.args.left c.requires.due c.requires.inside);
      run = λ time told. no_steps time c.args.run.now c.args.self.now c.args.self.now told refl;
      same = λ e. refl;
    }

pub rows-preserved : goal.rows-preserved
rows-preserved c =
    let some : 0 < c.pass_row-count.result = search rules in
    let rest : c.args.left - c.rows.done - c.pass_row-count.result ≡ c.args.left - (c.rows.done + c.pass_row-count.result) = omega arith in
    record {
      done = search rules;
      at = subst (λ (n : ℕ). IsAtRow n c.pass_row-count.new.self) rest c.pass_row-count.ensures.at;
      run = λ time told. takes_more ToClient time c.rows.done c.pass_row-count.result c.args.run.now (run_of c.args.self.now told) (run_of c.rows.self told) (run_of c.pass_row-count.new.self told)
          c.rows.invariant.done (c.pass_row-count.ensures.run time told) (c.rows.invariant.run time told);
      same = λ e. absurd (omega (arith, some, e));
    }

pub returns-then-not-is_at_row-clause-run : goal.returns-then-not-is_at_row-clause-run
returns-then-not-is_at_row-clause-run c = λ time told. no_steps time c.args.run.now c.args.self.now c.args.self.now told refl
