use Rattle.tds_service.specs.Line.{Idle, new_line}
use Rattle.tds_service.proofs.Walks.{free, unawaited}
use Rattle.tds_service.proofs.laws.unawaited.Goals as goal

pub returns-clause-faults : goal.returns-clause-faults
returns-clause-faults g c = λ acts. unawaited 0 Idle new_line.heard acts

pub returns-clause-asks : goal.returns-clause-asks
returns-clause-asks g c = λ acts. free 0 Idle new_line.heard acts
