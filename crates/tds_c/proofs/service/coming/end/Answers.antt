use Rattle.std.proofs.Common.{[]}
use Rattle.tds_c.proofs.service.Arrivals.{comes_at, untouched_at}
use Rattle.tds_c.proofs.service.coming.end.Goals as goal

pub returns-clause-ok : goal.returns-clause-ok
returns-clause-ok c =
    comes_at c.args.service.now c.args.seats.now c.in-Some.index c.args.number _ c.end-ended.result.seat c.settled.result _ _ [] c.lease.result
    c.requires.fits c.in-Some.ensures.first c.end-ended.ensures.hears c.end-ended.ensures.place c.end-ended.ensures.number
    c.settled.ensures.line c.settled.ensures.place c.settled.ensures.number c.lease.ensures

pub returns-clause-alone : goal.returns-clause-alone
returns-clause-alone c =
    untouched_at c.args.service.now c.args.seats.now c.in-Some.index c.args.number _ c.end-ended.result.seat c.settled.result
    c.requires.fits c.in-Some.ensures.first c.end-ended.ensures.apart c.settled.ensures.client
