use Rattle.relay_questions.proofs.Verdicts.{tells_all, tells_only}
use Rattle.relay_questions.proofs.laws.tells_exactly.Goals as goal

pub returns-clause-only : goal.returns-clause-only
returns-clause-only c = tells_only

pub returns-clause-all : goal.returns-clause-all
returns-clause-all c = tells_all
