use Rattle.tds_pool.proofs.Others.{added_here, added_other}
use Rattle.tds_pool.proofs.laws.one_is_added.Goals as goal

pub returns-clause-here : goal.returns-clause-here
returns-clause-here c = added_here

pub returns-clause-others : goal.returns-clause-others
returns-clause-others c = added_other
