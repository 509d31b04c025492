use Rattle.tds_world.proofs.packets.Steps as steps
use Rattle.tds_world.proofs.laws.answers_end_once.Goals as goal

pub returns : goal.returns
returns c = steps.answers_end_once
