use Rattle.tds_world.specs.Bounds.{BeginsOnce}
use Rattle.tds_world.proofs.plays.Worlds as worlds
use Rattle.tds_world.proofs.requests.Begins as begins
use Rattle.tds_world.proofs.losses.begins_once.Goals as goal

pub returns : goal.returns
returns c setup answers l = worlds.always_with BeginsOnce setup answers (begins.begins_once setup answers l)
