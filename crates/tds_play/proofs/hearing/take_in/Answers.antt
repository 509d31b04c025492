use Rattle.tds_pool.specs.Cleaning.{client_at}
use Rattle.tds_pool.specs.Connections.{connections}
use Rattle.tds_play.proofs.pooled.Clients.{client_put}
use Rattle.tds_play.proofs.hearing.take_in.Goals as goal

pub returns-clause-client : goal.returns-clause-client
returns-clause-client c =
    client_put c.args.number (client_at c.args.number (connections c.take.new.self)) c.args.pool.now c.take.new.self c.in-Some.ensures.shown c.take.ensures.rest
