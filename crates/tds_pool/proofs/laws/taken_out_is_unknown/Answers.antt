use Rattle.tds_pool.proofs.Promises.{out_unknown}
use Rattle.tds_pool.proofs.laws.taken_out_is_unknown.Goals as goal

pub returns : goal.returns
returns c = out_unknown
