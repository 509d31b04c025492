use Rattle.tds_world.proofs.packets.Steps as steps
use Rattle.tds_world.proofs.laws.steps_are_of_answers.Goals as goal

pub returns : goal.returns
returns c = steps.steps_are_of_answers
