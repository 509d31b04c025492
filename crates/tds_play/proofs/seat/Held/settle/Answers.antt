use Rattle.tds_play.proofs.pooled.Settled.{closed_changes}
use Rattle.tds_play.proofs.seat.Held.settle.Goals as goal

pub returns-then-self-clause-pool : goal.returns-then-self-clause-pool
returns-then-self-clause-pool g c =
    closed_changes c.args.self.now.link.number c.args.self.now.link.is_cut c.args.pool.now c.lost.new.self c.if-self.true c.lost.ensures.shown c.lost.ensures.rest
