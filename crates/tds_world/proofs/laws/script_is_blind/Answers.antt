use Rattle.tds_world.proofs.alone.Blind as alone
use Rattle.tds_world.proofs.laws.script_is_blind.Goals as goal

pub returns : goal.returns
returns c = alone.script_is_blind
