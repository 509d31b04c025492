use Rattle.tds_service.specs.Line.{new_line}
use Rattle.tds_service.proofs.Naming.{names_newest}
use Rattle.tds_service.proofs.laws.names_newest.Goals as goal

pub returns : goal.returns
returns g c = λ acts. names_newest new_line acts
