use Rattle.std.proofs.Common.{refl}
use Rattle.relay_questions.specs.Requests.{wait_text, two_bytes_each}
use Rattle.relay_questions.proofs.text.wait_text.Goals as goal

pub returns-clause-is : goal.returns-clause-is
unfolding wait_text two_bytes_each
returns-clause-is c = refl
