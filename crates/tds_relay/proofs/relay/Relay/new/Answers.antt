use Rattle.tds_relay.proofs.seats.Relays.{new_seated}
use Rattle.tds_relay.specs.Ties.{pool_in}
use Rattle.std.proofs.Common.{rules}
use Rattle.tds_relay.proofs.relay.Relay.new.Goals as goal

pub returns-clause-seated : goal.returns-clause-seated
returns-clause-seated c = new_seated (record { most = c.args.most; mode = c.args.mode }) (pool_in c.in_ok-pool.pool) _ c.in_ok-pool.ensures.pool (search rules)
