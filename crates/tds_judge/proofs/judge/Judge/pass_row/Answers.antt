use Rattle.std.proofs.Common.{rules, ◌≡◌, ◌∙◌, ◌<◌, ℕ, Option, Some, take, sym, ap}
use Rattle.tds_wire.specs.Reading.{Parser}
use Rattle.tds_judge.specs.declared.finding.Direction.TheVariants.{ToClient}
use Rattle.tds_judge.specs.declared.judge.Judge.{Judge}
use Rattle.tds_judge.specs.Framing.{run_of, steps}
use Rattle.tds_judge.proofs.RowRuns.{no_steps, row_steps}
use Rattle.tds_judge.proofs.judge.Judge.pass_row.Goals as goal

pub returns-then-count-gt0-clause-run : goal.returns-then-count-gt0-clause-run
returns-then-count-gt0-clause-run c = λ time told.
    let some : 0 < c.pass_row-count.result = search rules in
    let p = c.pass.ensures in
    ap (λ (j : Judge). run_of j told) p
    ∙ row_steps c.cuts_do_not_matter.ensures time c.pass_row-count.result c.args.run.now c.args.self.now told c.in-Some.parser c.pass_row-count.new.self c.args.left
    c.requires.at.due c.requires.at.inside c.in-Some.is c.requires.at.unended (c.pass_row-count.ensures.row some) some c.pass_row-count.ensures.within c.requires.few

pub returns-else-count-gt0-clause-run : goal.returns-else-count-gt0-clause-run
returns-else-count-gt0-clause-run c = λ time told.
    let none : c.pass_row-count.result ≡ 0 = search rules in
    let still : Judge = record c.args.self.now { parser = Some c.pass_row-count.new.self } in
    let same : still ≡ c.args.self.now =
    ap (λ (r : Parser). record c.args.self.now { parser = Some r }) (c.pass_row-count.ensures.same none)
    ∙ ap (λ (o : Option Parser). record c.args.self.now { parser = o }) (sym c.in-Some.is) in
    no_steps time c.args.run.now c.args.self.now still told same
    ∙ ap (λ (n : ℕ). steps ToClient time (take n c.args.run.now) (run_of c.args.self.now told)) (sym none)
