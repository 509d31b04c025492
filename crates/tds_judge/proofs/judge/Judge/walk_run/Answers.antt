use Rattle.std.proofs.Common.{◌∙◌, ap, refl, sym, arith}
use Rattle.tds_judge.proofs.SomeRuns.{all_stopped, one_step, some_over, some_to_fault, some_within}
use Rattle.tds_judge.specs.Framing.{refused_as, run_of, said, steps, stops}
use Rattle.tds_judge.specs.Runs.{failed, passed}
use Rattle.tds_judge.specs.declared.finding.Direction.TheVariants.{ToClient}
use Rattle.tds_judge.specs.declared.finding.Spot.{Spot}
use Rattle.tds_judge.specs.declared.judge.Judge.{Judge}
use Rattle.tds_judge.specs.declared.talk.Event.TheVariants as events
use Rattle.std.specs.Prelude.{Option, Some, take}
use Rattle.tds_wire.specs.Reading.{Parser}
use Rattle.tds_judge.proofs.judge.Judge.walk_run.Goals as goal

pub returns-in_default-clause-run : goal.returns-in_default-clause-run
returns-in_default-clause-run c = all_stopped ToClient c.args.time c.args.run.now c.args.self.now c.args.out.now.items c.in_default.is

pub returns-then-not-takes_runs-clause-run : goal.returns-then-not-takes_runs-clause-run
returns-then-not-takes_runs-clause-run c =
    let there : Judge = record c.args.self.now { parser = Some c.in-Some.parser } in
    c.step.ensures.run
    ∙ (one_step ToClient c.args.time c.args.run.now (run_of there c.args.out.now.items) c.requires.some
    ∙ ap (λ (w : Option Parser). steps ToClient c.args.time (take 1 c.args.run.now) (run_of (record c.args.self.now { parser = w }) c.args.out.now.items)) (sym c.in-Some.is))

pub returns-in-Inside-clause-run : goal.returns-in-Inside-clause-run
returns-in-Inside-clause-run c =
    let p = c.pass.ensures in
    ap (λ (j : Judge). run_of j c.args.out.now.items) p
    ∙ some_within c.cuts_do_not_matter.ensures c.args.time c.args.run.now c.args.self.now c.args.out.now.items c.in-Some.parser c.walk.new.self c.args.left
    c.requires.some c.requires.due c.requires.inside c.in-Some.is c.in-Inside.ensures c.requires.few

pub returns-in-Ends-clause-run : goal.returns-in-Ends-clause-run
returns-in-Ends-clause-run c =
    let p = c.end_run.ensures.run in let w = c.in-Ends.ensures in let s = c.spot_of_last-spot.ensures in
    p ∙ (ap (λ (x : Spot). said x (events.Says c.in-Ends.token) (run_of (passed ToClient c.args.left c.in-Ends.count (record c.args.self.now { parser = Some c.walk.new.self })) c.args.out.now.items)) s
    ∙ some_over c.cuts_do_not_matter.ensures c.args.time c.in-Ends.count c.args.run.now c.args.self.now c.args.out.now.items c.in-Some.parser c.walk.new.self c.args.left c.in-Ends.token
    c.requires.due c.requires.inside c.in-Some.is w.0 w.1 w.2 c.requires.few)

pub returns-in-Fails-clause-run : goal.returns-in-Fails-clause-run
returns-in-Fails-clause-run c =
    let p = c.fail_run.ensures.run in let (h, same) = c.in-Fails.ensures in let s = c.spot_of_last-spot-in-Fails.ensures in let x = c.if-not-takes_runs.ensures in
    p ∙ (ap (λ (x : Spot). stops x (refused_as c.in-Fails.refusal) (run_of (failed c.args.left c.in-Fails.count (record c.args.self.now { parser = Some c.walk.new.self })) c.args.out.now.items)) s
    ∙ some_to_fault c.cuts_do_not_matter.ensures c.args.time c.in-Fails.count c.args.run.now c.args.self.now c.args.out.now.items c.in-Some.parser c.args.left c.in-Fails.refusal h same
    c.requires.due c.requires.inside c.in-Some.is (x.whole refl) (x.counted refl) c.requires.some c.requires.few (omega arith))
