use Rattle.tds_world.proofs.packets.Steps as steps
use Rattle.tds_world.proofs.laws.messages_end_once.Goals as goal

pub returns : goal.returns
returns c = steps.messages_end_once
