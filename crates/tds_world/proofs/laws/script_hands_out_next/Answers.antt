use Rattle.tds_world.proofs.script.HandsOut as hands
use Rattle.tds_world.proofs.laws.script_hands_out_next.Goals as goal

pub returns : goal.returns
returns c = hands.script_hands_out_next
