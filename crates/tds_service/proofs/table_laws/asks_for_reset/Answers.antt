use Rattle.tds_service.proofs.Lifted.{asks_for_reset, answers_resets}
use Rattle.tds_service.proofs.Lends.{marks_reused}
use Rattle.tds_service.proofs.table_laws.asks_for_reset.Goals as goal

pub returns-clause-owed : goal.returns-clause-owed
returns-clause-owed g c = λ max n calls. asks_for_reset max n calls

pub returns-clause-answered : goal.returns-clause-answered
returns-clause-answered g c = λ max n calls. answers_resets max n calls

pub returns-clause-lent : goal.returns-clause-lent
returns-clause-lent g c = λ max calls. marks_reused max calls
