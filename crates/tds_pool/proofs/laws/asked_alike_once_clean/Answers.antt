use Rattle.tds_pool.proofs.Cleanings.{alike_once_clean}
use Rattle.tds_pool.proofs.laws.asked_alike_once_clean.Goals as goal

pub returns : goal.returns
returns c = alike_once_clean
