use Rattle.std.proofs.Common.{[]}
use Rattle.tds_c.proofs.service.Arrivals.{comes_at, untouched_at}
use Rattle.tds_c.proofs.service.coming.hear.Goals as goal

pub returns-clause-ok : goal.returns-clause-ok
returns-clause-ok c = λ token.
    comes_at c.args.service.now c.args.seats.now c.in-Some.index c.args.number _ c.hear-heard.result.seat c.settled.result _ _ _ c.lease.result
    c.requires.fits c.in-Some.ensures.first (c.hear-heard.ensures.hears token) c.hear-heard.ensures.place c.hear-heard.ensures.number
    c.settled.ensures.line c.settled.ensures.place c.settled.ensures.number c.lease.ensures

pub returns-clause-alone : goal.returns-clause-alone
returns-clause-alone c =
    untouched_at c.args.service.now c.args.seats.now c.in-Some.index c.args.number _ c.hear-heard.result.seat c.settled.result
    c.requires.fits c.in-Some.ensures.first c.hear-heard.ensures.apart c.settled.ensures.client
