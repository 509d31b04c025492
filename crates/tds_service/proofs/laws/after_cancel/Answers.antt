use Rattle.tds_service.specs.Line.{Idle, new_line}
use Rattle.tds_service.proofs.Walks.{silent}
use Rattle.tds_service.proofs.laws.after_cancel.Goals as goal

pub returns : goal.returns
returns g c = λ acts. silent 0 Idle new_line.heard acts
