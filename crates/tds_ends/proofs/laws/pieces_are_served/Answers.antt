use Rattle.tds_ends.proofs.Cutting.{serves_both}
use Rattle.tds_ends.proofs.laws.pieces_are_served.Goals as goal

pub returns : goal.returns
returns g c = serves_both
