use Rattle.std.proofs.Common.{refl}
use Rattle.relay_questions.specs.Requests.{isolate_text, two_bytes_each}
use Rattle.relay_questions.proofs.text.isolate_text.Goals as goal

pub returns-clause-is : goal.returns-clause-is
unfolding isolate_text two_bytes_each
returns-clause-is c = refl
