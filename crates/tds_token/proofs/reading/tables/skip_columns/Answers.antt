use Rattle.std.proofs.lemmas.Result.{err_from_is_err_and}
use Rattle.tds_token.specs.Reading.{after_of, columns_at}
use Rattle.tds_token.proofs.Skipping.{goes_on, ends, is_done}
use Rattle.tds_token.proofs.reading.tables.skip_columns.Goals as goal

pub returns-in_err-rest : goal.returns-in_err-rest
returns-in_err-rest c =
    let p = err_from_is_err_and c.from_residual.result c.from_residual.ensures.1 in
    rw (p.1, p.2) (ends c.in_err-rest.field-0.0 c.args.count c.columns.counter c.columns.rest.now (after_of (columns_at c.args.count c.args.bytes.now)) c.columns-test.true c.in_err-rest.ensures c.columns.invariant)

pub columns-preserved : goal.columns-preserved
columns-preserved c = goes_on c.args.count c.columns.counter c.columns.rest.now c.in_ok-rest.rest.now (after_of (columns_at c.args.count c.args.bytes.now)) c.columns-test.true c.in_ok-rest.ensures c.columns.invariant

pub returns : goal.returns
returns c = is_done c.args.count c.columns.counter c.columns.rest.now (after_of (columns_at c.args.count c.args.bytes.now)) c.columns-test.false c.columns.invariant
