use Rattle.tds_request.proofs.Whole.{one_spelling}
use Rattle.tds_request.proofs.laws.one_spelling.Goals as goal

pub returns : goal.returns
returns c = one_spelling
