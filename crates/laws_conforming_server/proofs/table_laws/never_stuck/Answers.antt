use Rattle.tds_service.specs.Service.{new_service, on, steps}
use Rattle.laws_conforming_server.proofs.Lifted.{goes_on_there}
use Rattle.laws_conforming_server.proofs.table_laws.never_stuck.Goals as goal

pub returns : goal.returns
returns g c = λ engine max n calls moves lawful run. goes_on_there engine moves (on n (steps (new_service max) calls)) (c.each_alone.ensures max n calls) lawful run
