use Rattle.std.proofs.Common.{refl}
use Rattle.relay_questions.specs.Requests.{make_table_text, two_bytes_each}
use Rattle.relay_questions.proofs.text.make_table_text.Goals as goal

pub returns-clause-is : goal.returns-clause-is
unfolding make_table_text two_bytes_each
returns-clause-is c = refl
