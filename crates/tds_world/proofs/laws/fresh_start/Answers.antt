use Rattle.tds_world.proofs.requests.FreshStarts as fresh
use Rattle.tds_world.proofs.laws.fresh_start.Goals as goal

pub returns : goal.returns
returns c = fresh.fresh_start
