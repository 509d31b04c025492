use Rattle.tds_pool.proofs.Promises.{were_idle}
use Rattle.tds_pool.proofs.laws.lent_were_idle.Goals as goal

pub returns : goal.returns
returns c = were_idle
