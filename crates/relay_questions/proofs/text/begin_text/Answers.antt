use Rattle.std.proofs.Common.{refl}
use Rattle.relay_questions.specs.Requests.{begin_text, two_bytes_each}
use Rattle.relay_questions.proofs.text.begin_text.Goals as goal

pub returns-clause-is : goal.returns-clause-is
unfolding begin_text two_bytes_each
returns-clause-is c = refl
