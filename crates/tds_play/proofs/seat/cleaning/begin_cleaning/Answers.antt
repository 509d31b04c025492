use Rattle.tds_pool.specs.Calls.{free_one}
use Rattle.tds_pool.specs.Connections.{connections}
use Rattle.tds_play.proofs.pooled.cleanings.Cleaned.{still_free}
use Rattle.tds_play.proofs.seat.cleaning.begin_cleaning.Goals as goal

pub returns-clause-still : goal.returns-clause-still
returns-clause-still c = λ some. (
  still_free c.in-Err.why c.args.number (free_one c.args.number (connections c.args.pool.now)) c.args.pool.now c.clean.new.self c.in_ok-cleans_not-in-Err.ensures.some c.clean.ensures.unknown c.in-Err.ensures.err,
  c.clean.ensures.rest,
)
