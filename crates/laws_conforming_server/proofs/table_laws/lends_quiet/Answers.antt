use Rattle.std.proofs.Common.{[], ◌∷◌, ◌++◌}
use Rattle.tds_service.specs.Line.{new_line}
use Rattle.tds_service.specs.Service.{new_service, on, steps}
use Rattle.laws_conforming_server.proofs.Lends.{lent_idle}
use Rattle.laws_conforming_server.proofs.Lifted.{quiet_there}
use Rattle.laws_conforming_server.proofs.table_laws.lends_quiet.Goals as goal

pub returns : goal.returns
returns g c = λ engine max lease n calls call moves lawful run lent.
    quiet_there engine moves (on n (steps (new_service max) calls)) (c.each_alone.ensures max n calls) lawful run
    (lent_idle new_line (new_service max) calls call lease n (c.asks_for_reset.ensures.lent max (calls ++ call ∷ []))
    (c.each_alone.ensures max n (calls ++ call ∷ [])) lent)
