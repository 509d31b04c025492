use Rattle.std.proofs.Common.{refl}
use Rattle.relay_questions.specs.Requests.{unprepare_call}
use Rattle.relay_questions.proofs.text.unprepare_call.Goals as goal

pub returns-clause-is : goal.returns-clause-is
unfolding unprepare_call
returns-clause-is c = refl
