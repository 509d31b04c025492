use Rattle.tds_pool.proofs.Others.{changed_here, changed_other}
use Rattle.tds_pool.proofs.laws.one_changes.Goals as goal

pub returns-clause-here : goal.returns-clause-here
returns-clause-here c = changed_here

pub returns-clause-others : goal.returns-clause-others
returns-clause-others c = changed_other
