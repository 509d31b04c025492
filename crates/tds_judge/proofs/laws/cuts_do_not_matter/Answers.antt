use Rattle.tds_judge.proofs.Folding.{steps-append}
use Rattle.tds_judge.proofs.laws.cuts_do_not_matter.Goals as goal

pub returns : goal.returns
returns c = steps-append
