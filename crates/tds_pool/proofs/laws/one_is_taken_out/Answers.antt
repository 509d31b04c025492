use Rattle.tds_pool.proofs.Others.{taken_other}
use Rattle.tds_pool.proofs.Taken.{gone}
use Rattle.tds_pool.proofs.laws.one_is_taken_out.Goals as goal

pub returns-clause-gone : goal.returns-clause-gone
returns-clause-gone c = gone

pub returns-clause-others : goal.returns-clause-others
returns-clause-others c = taken_other
