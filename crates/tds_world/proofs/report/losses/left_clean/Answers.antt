use Rattle.tds_world.proofs.plays.LeftClean as left
use Rattle.tds_world.proofs.report.losses.left_clean.Goals as goal

pub returns : goal.returns
returns c = left.left_clean_is_shown
