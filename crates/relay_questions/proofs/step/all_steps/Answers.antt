use Rattle.std.proofs.Common.{refl}
use Rattle.relay_questions.specs.Steps.{all_steps}
use Rattle.relay_questions.proofs.step.all_steps.Goals as goal

pub returns : goal.returns
unfolding all_steps
returns c = refl
