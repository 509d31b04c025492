use Rattle.tds_wire.proofs.Cutting.{cut_found}
use Rattle.tds_wire.proofs.laws.cuts_do_not_matter.Goals as goal

pub returns : goal.returns
returns c = cut_found
