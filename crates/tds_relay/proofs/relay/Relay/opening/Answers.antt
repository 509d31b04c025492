use Rattle.tds_relay.specs.Ties.{pool_in}
use Rattle.tds_relay.proofs.seats.Linked.{all_there, seated_as}
use Rattle.tds_relay.proofs.relay.Relay.opening.Goals as goal

pub returns-clause-seated : goal.returns-clause-seated
returns-clause-seated c = λ s.
    seated_as (pool_in c.args.self.now.pool) c.args.self.now.links.items c.set_tag.new.links.items (all_there c.args.self.now.links.items c.set_tag.new.links.items c.set_tag.ensures.many c.set_tag.ensures.waits) s
