use Rattle.tds_world.proofs.alone.AsIfAlone as alone
use Rattle.tds_world.proofs.laws.as_if_alone.Goals as goal

pub returns : goal.returns
returns c = alone.alone_after
