use Rattle.tds_world.proofs.flow.Quiet as quiet
use Rattle.tds_world.proofs.laws.idle_is_quiet.Goals as goal

pub returns : goal.returns
returns c = quiet.idle_is_quiet
