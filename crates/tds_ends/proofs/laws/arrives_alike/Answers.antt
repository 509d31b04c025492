use Rattle.tds_ends.proofs.Arriving as arriving
use Rattle.tds_ends.proofs.laws.arrives_alike.Goals as goal

pub returns : goal.returns
returns g c = arriving.arrive_alike c.spelled_is_read.ensures
