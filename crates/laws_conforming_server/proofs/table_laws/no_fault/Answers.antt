use Rattle.tds_service.specs.Service.{new_service, on, steps}
use Rattle.laws_conforming_server.proofs.Lifted.{no_fault_there}
use Rattle.laws_conforming_server.proofs.table_laws.no_fault.Goals as goal

pub returns : goal.returns
returns g c = λ engine max n calls moves lawful run. no_fault_there engine moves (on n (steps (new_service max) calls)) (c.each_alone.ensures max n calls) lawful run
