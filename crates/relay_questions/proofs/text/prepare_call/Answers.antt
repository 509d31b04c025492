use Rattle.std.proofs.Common.{refl}
use Rattle.relay_questions.specs.Requests.{prepare_call, two_bytes_each}
use Rattle.relay_questions.proofs.text.prepare_call.Goals as goal

pub returns-clause-is : goal.returns-clause-is
unfolding prepare_call two_bytes_each
returns-clause-is c = refl
