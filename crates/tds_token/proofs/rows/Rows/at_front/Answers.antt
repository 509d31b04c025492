use Rattle.std.proofs.Common.{List, ℕ, subst, sym}
use Rattle.tds_token.specs.Runs.{IsRun, rows_of}
use Rattle.tds_token.proofs.Runs.{cut, lengths}
use Rattle.tds_token.proofs.rows.Rows.at_front.Goals as goal

pub overflow_sub-bytes : goal.overflow_sub-bytes
overflow_sub-bytes c =
    lengths c.skip_rows-count.result.0 c.args.columns c.args.bytes.now c.skip_rows-count.result.1.now c.skip_rows-count.ensures.rows

pub invariant_of-rows : goal.invariant_of-rows
invariant_of-rows c =
    rw c.split_at.ensures.front (cut c.skip_rows-count.result.0 c.args.columns c.args.bytes.now c.skip_rows-count.result.1.now c.skip_rows-count.ensures.rows).rows

pub returns-clause-run : goal.returns-clause-run
returns-clause-run c =
    subst (λ (front : List ℕ). IsRun c.args.columns c.args.bytes.now (rows_of c.skip_rows-count.result.0 c.args.columns front) c.skip_rows-count.result.1.now) (sym c.split_at.ensures.front)
    (cut c.skip_rows-count.result.0 c.args.columns c.args.bytes.now c.skip_rows-count.result.1.now c.skip_rows-count.ensures.rows).run
