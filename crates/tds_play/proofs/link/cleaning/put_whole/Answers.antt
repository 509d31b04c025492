use Rattle.tds_pool.specs.Cleaning.{client_at}
use Rattle.tds_pool.specs.Connections.{connections}
use Rattle.tds_play.proofs.pooled.Clients.{client_put}
use Rattle.tds_play.proofs.link.cleaning.put_whole.Goals as goal

pub returns-in-Some-Ok-Last-clause-client : goal.returns-in-Some-Ok-Last-clause-client
returns-in-Some-Ok-Last-clause-client c =
    client_put c.args.number (client_at c.args.number (connections c.send.new.self)) c.args.pool.now c.send.new.self c.in-Some-Ok-Last.ensures.shown c.send.ensures.rest
