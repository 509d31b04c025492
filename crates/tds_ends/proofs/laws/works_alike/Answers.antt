use Rattle.tds_ends.proofs.Working as working
use Rattle.tds_ends.proofs.laws.works_alike.Goals as goal

pub returns : goal.returns
returns g c = working.work_alike
