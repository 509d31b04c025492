use Rattle.std.proofs.Common.{ap, refl}
use Rattle.tds_play.proofs.Failing.{ended_as}
use Rattle.tds_play.proofs.link.Link.end_by_fault.Goals as goal

pub returns-clause-failed : goal.returns-clause-failed
returns-clause-failed g c = λ calls fails.
    let conn = c.args.self.now.number in
    ended_as calls _ c.outcome.result c.args.lost c.cut.new.self (g.C.EventCarrier.pipes c.args.carrier.now conn) (g.C.EventCarrier.pipes c.cut.new.carrier conn) refl
    (λ lost. ap (λ l. l.is_cut) c.cut.ensures.value) c.cut.ensures.failed fails
