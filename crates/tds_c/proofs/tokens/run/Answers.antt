use Rattle.std.proofs.Common.{◌∙◌, ◌<◌, length, arith, refl, sym}
use Rattle.std.proofs.lemmas.List.{length-set}
use Rattle.tds_c.proofs.Running.{none_yet, run_on}
use Rattle.tds_c.proofs.tokens.run.Goals as goal

pub tokens-init : goal.tokens-init
tokens-init c = record { run = none_yet c.args.data.now c.args.cursor.now c.args.tokens.now; same = refl; within = omega arith }

pub tokens-preserved : goal.tokens-preserved
tokens-preserved c =
    let within : c.run_rows-read.result < length c.args.tokens.now = omega (arith, c.run_rows-read.ensures.within, c.if-read-tokens.false, c.run_rows-read.ensures.same, c.tokens.invariant.same) in
    record {
      run = run_on _ _ _ _ c.args.tokens.now _ _ _ within (rw c.in-Ok-Some.field-0-is at c.in-Ok-Some.ensures)
          (c.run_rows-read.ensures.run c.args.cursor.now c.args.tokens.now (sym c.tokens.invariant.same) c.tokens.invariant.run);
      same = length-set c.run_rows-read.new.tokens c.run_rows-read.result c.in-Ok-Some.token ∙ c.run_rows-read.ensures.same ∙ c.tokens.invariant.same;
      within = omega (arith, within);
    }

pub returns-in-Ok-None : goal.returns-in-Ok-None
returns-in-Ok-None c =
    let run = c.run_rows-read.ensures.run c.args.cursor.now c.args.tokens.now (sym c.tokens.invariant.same) c.tokens.invariant.run in
    (run.read, c.run_rows-read.new.cursor, run.given, run.written, rw c.in-Ok-None.field-0-is at c.in-Ok-None.ensures)

pub returns-in-Err : goal.returns-in-Err
returns-in-Err c =
    let run = c.run_rows-read.ensures.run c.args.cursor.now c.args.tokens.now (sym c.tokens.invariant.same) c.tokens.invariant.run in
    (run.read, c.run_rows-read.new.cursor, run.given, run.written, c.in-Err.ensures)

pub returns-then-read-tokens : goal.returns-then-read-tokens
returns-then-read-tokens c =
    let run = c.run_rows-read.ensures.run c.args.cursor.now c.args.tokens.now (sym c.tokens.invariant.same) c.tokens.invariant.run in
    (run.read, c.run_rows-read.new.cursor, run.given, run.written, (refl, c.if-read-tokens.true ∙ c.run_rows-read.ensures.same ∙ c.tokens.invariant.same))
