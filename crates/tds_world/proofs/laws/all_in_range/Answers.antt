use Rattle.tds_world.proofs.packets.Sessions as sessions
use Rattle.tds_world.proofs.laws.all_in_range.Goals as goal

pub returns : goal.returns
returns c = sessions.all_in_range
