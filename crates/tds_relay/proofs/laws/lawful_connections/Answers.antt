use Rattle.std.proofs.Common.{◌∙◌, ap, sym}
use Rattle.tds_service.specs.Service.{Service, seat_numbered}
use Rattle.tds_relay.specs.Pool.{new_pool}
use Rattle.tds_relay.specs.Fronting.{calls_along, done_on}
use Rattle.tds_relay.proofs.steps.Calling.{service_along}
use Rattle.tds_relay.proofs.ends.Fronting.{lawful_of, ready_of}
use Rattle.tds_relay.proofs.laws.lawful_connections.Goals as goal

pub returns-clause-lawful : goal.returns-clause-lawful
returns-clause-lawful c = λ sharing number events once.
    lawful_of (done_on sharing number events) (c.each_alone.ensures sharing.most number (calls_along (new_pool sharing) events)) once

pub returns-clause-ready : goal.returns-clause-ready
returns-clause-ready c = λ sharing number events seat found idle.
    ready_of (done_on sharing number events) seat.line (c.each_alone.ensures sharing.most number (calls_along (new_pool sharing) events))
    (c.line_by_history.ensures sharing.most number (calls_along (new_pool sharing) events) seat
    (ap (λ (s : Service). seat_numbered number s.seats) (sym (service_along (new_pool sharing) events)) ∙ found)) idle
