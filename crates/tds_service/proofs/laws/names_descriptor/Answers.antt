use Rattle.tds_service.specs.Line.{Idle, new_line}
use Rattle.tds_service.proofs.Owing.{naming}
use Rattle.tds_service.proofs.laws.names_descriptor.Goals as goal

pub returns : goal.returns
returns g c = λ acts. naming 0 Idle new_line.heard acts
