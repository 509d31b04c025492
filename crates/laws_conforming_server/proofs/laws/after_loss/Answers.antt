use Rattle.std.proofs.Common.{◌∷◌, ◌++◌}
use Rattle.tds_service.specs.Line.{Lose}
use Rattle.laws_conforming_server.specs.Link.{new_link}
use Rattle.laws_conforming_server.specs.Answering.{answered}
use Rattle.laws_conforming_server.proofs.Losing.{finished_before, own_before_loss, told_before}
use Rattle.laws_conforming_server.proofs.Runs.{own_answer}
use Rattle.laws_conforming_server.proofs.laws.after_loss.Goals as goal

pub returns-clause-told : goal.returns-clause-told
returns-clause-told g c = told_before

pub returns-clause-finished : goal.returns-clause-finished
returns-clause-finished g c = finished_before

pub returns-clause-begins : goal.returns-clause-begins
returns-clause-begins g c = λ engine before after moves r lawful run.
    own_before_loss before after r (answered engine (new_link engine) r moves) (own_answer engine (before ++ Lose ∷ after) moves r lawful run)
