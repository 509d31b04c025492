use Rattle.tds_ends.proofs.AllArriving.{all_arrive}
use Rattle.tds_ends.proofs.laws.all_arrive.Goals as goal

pub returns : goal.returns
returns g c = all_arrive _ c.arrives_alike.ensures
