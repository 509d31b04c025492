use Rattle.tds_world.proofs.packets.Messages as messages
use Rattle.tds_world.proofs.laws.messages_are_whole.Goals as goal

pub returns : goal.returns
returns c = messages.messages_are_whole
