use Rattle.tds_world.proofs.requests.LeftClean as left
use Rattle.tds_world.proofs.laws.left_clean.Goals as goal

pub returns : goal.returns
returns c = left.left_clean
