use Rattle.tds_world.proofs.packets.Welcome as welcome
use Rattle.tds_world.proofs.laws.changes_are_heard.Goals as goal

pub returns : goal.returns
returns c = welcome.changes_are_heard
