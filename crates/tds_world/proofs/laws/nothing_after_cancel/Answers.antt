use Rattle.tds_world.proofs.requests.Given as given
use Rattle.tds_world.proofs.laws.nothing_after_cancel.Goals as goal

pub returns : goal.returns
returns c = given.nothing_after_cancel
