use Rattle.tds_ends.proofs.Kept as kept
use Rattle.tds_ends.proofs.laws.pool_is_unseen.Goals as goal

pub returns : goal.returns
returns g c = kept.pool_unseen
