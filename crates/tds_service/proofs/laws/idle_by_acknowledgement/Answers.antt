use Rattle.std.proofs.Common.{false, refl}
use Rattle.tds_service.specs.Line.{Idle, new_line}
use Rattle.tds_service.proofs.Acknowledging.{settles}
use Rattle.tds_service.proofs.laws.idle_by_acknowledgement.Goals as goal

pub returns : goal.returns
returns g c = λ acts. settles 0 Idle new_line.heard false acts refl
