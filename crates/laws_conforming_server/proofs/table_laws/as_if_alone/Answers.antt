use Rattle.tds_service.specs.Service.{new_service, on, steps}
use Rattle.laws_conforming_server.proofs.Lifted.{alone_there, beside_there}
use Rattle.laws_conforming_server.proofs.table_laws.as_if_alone.Goals as goal

pub returns-clause-begins : goal.returns-clause-begins
returns-clause-begins g c = λ engine max n calls moves r lawful first run.
    (alone_there engine moves (on n (steps (new_service max) calls)) r (c.each_alone.ensures max n calls) lawful first run).begins

pub returns-clause-whole : goal.returns-clause-whole
returns-clause-whole g c = λ engine max n calls moves r lawful first run finished.
    (alone_there engine moves (on n (steps (new_service max) calls)) r (c.each_alone.ensures max n calls) lawful first run).whole finished

pub returns-clause-beside : goal.returns-clause-beside
returns-clause-beside g c = λ engine max n calls moves lawful first run.
    beside_there engine moves (on n (steps (new_service max) calls)) (c.each_alone.ensures max n calls) lawful first run
