use Rattle.tds_service.specs.Service.{new_service, on, steps}
use Rattle.laws_conforming_server.proofs.Lifted.{own_there}
use Rattle.laws_conforming_server.proofs.table_laws.own_answers.Goals as goal

pub returns-clause-begins : goal.returns-clause-begins
returns-clause-begins g c = λ engine max n calls moves r lawful run.
    (own_there engine moves (on n (steps (new_service max) calls)) r (c.each_alone.ensures max n calls) lawful run).begins

pub returns-clause-whole : goal.returns-clause-whole
returns-clause-whole g c = λ engine max n calls moves r lawful run finished.
    (own_there engine moves (on n (steps (new_service max) calls)) r (c.each_alone.ensures max n calls) lawful run).whole finished
