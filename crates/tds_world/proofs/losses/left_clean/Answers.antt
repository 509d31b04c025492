use Rattle.tds_world.specs.left_clean.LeftClean.{LeftClean}
use Rattle.tds_world.proofs.plays.Worlds as worlds
use Rattle.tds_world.proofs.requests.LeftClean as left
use Rattle.tds_world.proofs.losses.left_clean.Goals as goal

pub returns : goal.returns
returns c setup answers l clean = worlds.always_with LeftClean setup answers (left.left_clean setup answers l clean)
