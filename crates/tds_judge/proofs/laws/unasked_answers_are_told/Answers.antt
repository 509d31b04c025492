use Rattle.tds_judge.proofs.Lawful.{unasked_told}
use Rattle.tds_judge.proofs.laws.unasked_answers_are_told.Goals as goal

pub returns : goal.returns
returns c = unasked_told
