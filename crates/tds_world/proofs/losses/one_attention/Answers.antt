use Rattle.tds_world.specs.Bounds.{OneAttention}
use Rattle.tds_world.proofs.flow.Counts as counts
use Rattle.tds_world.proofs.plays.Worlds as worlds
use Rattle.tds_world.proofs.losses.one_attention.Goals as goal

pub returns : goal.returns
returns c setup answers l = worlds.always_with OneAttention setup answers (counts.one_attention setup answers l)
