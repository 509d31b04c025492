use Rattle.std.proofs.Common.{rules}
use Rattle.tds_relay.proofs.spared.Held.{lost_off}
use Rattle.tds_relay.proofs.pool.Pool.lose.Goals as goal

pub returns-in-Some-clause-off : goal.returns-in-Some-clause-off
returns-in-Some-clause-off c = lost_off c.args.number c.args.self.now _ (search rules) c.in_ok-forget.ensures.clients

pub returns-in-None-clause-off : goal.returns-in-None-clause-off
returns-in-None-clause-off c = lost_off c.args.number c.args.self.now _ (search rules) c.in_ok-forget.ensures.clients
