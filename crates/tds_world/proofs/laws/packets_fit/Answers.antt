use Rattle.tds_world.proofs.packets.Packets as packets
use Rattle.tds_world.proofs.laws.packets_fit.Goals as goal

pub returns : goal.returns
returns c = packets.packets_fit
