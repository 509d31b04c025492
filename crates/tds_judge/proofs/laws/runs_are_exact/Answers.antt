use Rattle.tds_judge.proofs.Breaking.{steps_break}
use Rattle.tds_judge.proofs.laws.runs_are_exact.Goals as goal

pub returns : goal.returns
returns c = steps_break
