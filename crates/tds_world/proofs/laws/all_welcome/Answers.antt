use Rattle.tds_world.proofs.packets.Welcome as welcome
use Rattle.tds_world.proofs.laws.all_welcome.Goals as goal

pub returns : goal.returns
returns c = welcome.all_welcome
