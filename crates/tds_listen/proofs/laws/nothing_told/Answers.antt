use Rattle.tds_listen.proofs.Quiet.{ends, quiet, stays}
use Rattle.tds_listen.proofs.laws.nothing_told.Goals as goal

pub returns-clause-token : goal.returns-clause-token
returns-clause-token c = quiet

pub returns-clause-stays : goal.returns-clause-stays
returns-clause-stays c = stays

pub returns-clause-ends : goal.returns-clause-ends
returns-clause-ends c = ends
