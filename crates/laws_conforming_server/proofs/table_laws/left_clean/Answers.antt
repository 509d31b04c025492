use Rattle.tds_service.specs.Service.{new_service, on, steps}
use Rattle.laws_conforming_server.proofs.Cleaned.{clean_freed}
use Rattle.laws_conforming_server.proofs.Lifted.{clean_there}
use Rattle.laws_conforming_server.proofs.table_laws.left_clean.Goals as goal

pub returns-clause-freed : goal.returns-clause-freed
returns-clause-freed g c = λ engine max lease calls moves lawful run over.
    clean_freed engine max lease calls moves (λ n. c.each_alone.ensures max n calls) (λ n seat found. c.line_by_history.ensures max n calls seat found) lawful run over

pub returns-clause-idle : goal.returns-clause-idle
returns-clause-idle g c = λ engine max n calls moves lawful run. clean_there engine moves (on n (steps (new_service max) calls)) (c.each_alone.ensures max n calls) lawful run
