use Rattle.tds_request.proofs.Whole.{spelled, wrong}
use Rattle.tds_request.proofs.laws.spelled_or_wrong.Goals as goal

pub returns-clause-spelled : goal.returns-clause-spelled
returns-clause-spelled c = spelled

pub returns-clause-wrong : goal.returns-clause-wrong
returns-clause-wrong c = wrong
