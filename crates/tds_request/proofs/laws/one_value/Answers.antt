use Rattle.tds_request.proofs.Whole.{one_value}
use Rattle.tds_request.proofs.laws.one_value.Goals as goal

pub returns : goal.returns
returns c = one_value
