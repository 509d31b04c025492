use Rattle.tds_world.proofs.plays.Alone as alone
use Rattle.tds_world.proofs.losses.as_if_alone.Goals as goal

pub returns : goal.returns
returns c = alone.as_if_alone
