use Rattle.tds_service.proofs.Lifted.{asks_unawaited, unawaited}
use Rattle.tds_service.proofs.table_laws.unawaited.Goals as goal

pub returns-clause-faults : goal.returns-clause-faults
returns-clause-faults g c = λ max n calls. unawaited max n calls

pub returns-clause-asks : goal.returns-clause-asks
returns-clause-asks g c = λ max n calls. asks_unawaited max n calls
