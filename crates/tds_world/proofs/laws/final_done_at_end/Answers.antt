use Rattle.tds_world.proofs.packets.Dones as dones
use Rattle.tds_world.proofs.laws.final_done_at_end.Goals as goal

pub returns : goal.returns
returns c = dones.final_done_at_end
