use Rattle.relay_questions.proofs.Verdicts.{otherwise_all, otherwise_only}
use Rattle.relay_questions.proofs.laws.otherwise_exactly.Goals as goal

pub returns-clause-only : goal.returns-clause-only
returns-clause-only c = otherwise_only

pub returns-clause-all : goal.returns-clause-all
returns-clause-all c = otherwise_all
