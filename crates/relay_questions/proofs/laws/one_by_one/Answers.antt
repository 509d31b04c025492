use Rattle.relay_questions.proofs.Verdicts.{found_on, left_on}
use Rattle.relay_questions.proofs.laws.one_by_one.Goals as goal

pub returns-clause-found : goal.returns-clause-found
returns-clause-found c = found_on

pub returns-clause-left : goal.returns-clause-left
returns-clause-left c = left_on
