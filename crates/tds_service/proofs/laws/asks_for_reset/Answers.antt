use Rattle.tds_service.specs.Line.{Idle, new_line}
use Rattle.tds_service.proofs.Owing.{owed, paid}
use Rattle.tds_service.proofs.laws.asks_for_reset.Goals as goal

pub returns-clause-owed : goal.returns-clause-owed
returns-clause-owed g c = λ acts. owed 0 Idle new_line.heard acts

pub returns-clause-answered : goal.returns-clause-answered
returns-clause-answered g c = λ acts. paid 0 Idle new_line.heard acts
