use Rattle.tds_world.proofs.plays.Worlds as worlds
use Rattle.tds_world.proofs.losses.plain_events.Goals as goal

pub returns : goal.returns
returns c = worlds.plain_events
