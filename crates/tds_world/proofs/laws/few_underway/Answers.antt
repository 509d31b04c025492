use Rattle.tds_world.proofs.packets.Sizes as sizes
use Rattle.tds_world.proofs.laws.few_underway.Goals as goal

pub returns : goal.returns
returns c = sizes.few_are_underway
