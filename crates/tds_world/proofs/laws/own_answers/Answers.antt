use Rattle.tds_world.proofs.requests.OwnAnswers as own
use Rattle.tds_world.proofs.laws.own_answers.Goals as goal

pub returns : goal.returns
returns c = own.own_answers
