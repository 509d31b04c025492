use Rattle.tds_world.proofs.requests.Lending as lending
use Rattle.tds_world.proofs.laws.lends_idle.Goals as goal

pub returns : goal.returns
returns c = lending.lends_idle
