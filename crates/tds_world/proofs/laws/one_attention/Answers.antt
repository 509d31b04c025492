use Rattle.tds_world.proofs.flow.Counts as counts
use Rattle.tds_world.proofs.laws.one_attention.Goals as goal

pub returns : goal.returns
returns c = counts.one_attention
