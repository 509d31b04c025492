use Rattle.std.proofs.Common.{◌≡◌, ◌∙◌, ap, refl, sym, arith}
use Rattle.tds_judge.proofs.SomeRuns.{all_stopped, is_none, one_step, some_skipped}
use Rattle.tds_judge.specs.Framing.{frame_by, run_of}
use Rattle.tds_judge.specs.declared.frame.Frame.{Frame}
use Rattle.tds_judge.specs.declared.judge.Judge.{Judge}
use Rattle.tds_judge.proofs.judge.Judge.take_some.Goals as goal

pub returns-then-has_stopped-clause-run : goal.returns-then-has_stopped-clause-run
returns-then-has_stopped-clause-run c =
    all_stopped c.args.direction c.args.time c.args.bytes.now c.args.self.now c.args.out.now.items (is_none c.args.self.now.parser (sym c.if-has_stopped.ensures))

pub returns-in-Data-Skipped-default-clause-run : goal.returns-in-Data-Skipped-default-clause-run
returns-in-Data-Skipped-default-clause-run c =
    let frame : c.frame-frame.result ≡ frame_by c.args.direction c.args.self.now = c.frame-frame.ensures in
    ap (λ (j : Judge). run_of j c.args.out.now.items) c.pass.ensures
    ∙ some_skipped c.args.self.now.parser c.args.direction c.args.time c.min-count.result c.args.bytes.now c.args.self.now c.args.out.now.items c.in-Data-Skipped-default.left
    refl (sym c.if-has_stopped.ensures)
    (ap (λ (f : Frame). f.due) (sym frame) ∙ c.in-Data-Skipped-default.is-0) (ap (λ (f : Frame). f.inside) (sym frame) ∙ c.in-Data-Skipped-default.is-1)
    (omega arith) (omega arith) (omega arith)

pub returns-in_default-clause-run : goal.returns-in_default-clause-run
returns-in_default-clause-run c = let h = c.step.ensures.run in
    h ∙ one_step c.args.direction c.args.time c.args.bytes.now (run_of c.args.self.now c.args.out.now.items) c.requires.some
