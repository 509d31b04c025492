use Rattle.tds_c.specs.service.Table.{written_bytes}
use Rattle.tds_c.proofs.service.Acting.{cancel_stops, has_cancelled}
use Rattle.tds_c.proofs.service.asking.cancel.Goals as goal

pub returns-in-Err-clause-stops : goal.returns-in-Err-clause-stops
returns-in-Err-clause-stops c =
    cancel_stops c.args.service.now c.args.seats.now c.in-Some.index c.args.lease _ c.requires.fits c.in-Some.ensures.first _ _ c.in-Err.stop c.in-Err.ensures.refused.0 c.in-Err.ensures.refused.1

pub returns-clause-ok : goal.returns-clause-ok
returns-clause-ok c =
    has_cancelled c.args.service.now c.args.seats.now c.in-Some.index c.args.lease _ c.requires.fits c.in-Some.ensures.first c.cancelled.result c.in-Ok.how
    c.as_slice-bytes.result.now c.copy_from_slice.new.self (written_bytes c.written-written.result) c.args.out.now
    c.in-Ok.ensures.how c.cancelled.ensures.line c.cancelled.ensures.place c.cancelled.ensures.number c.cancelled.ensures.is
    c.written-written.ensures.sent c.written-written.ensures.bytes c.as_slice-bytes.ensures c.copy_from_slice.ensures.after
