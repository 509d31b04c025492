use Rattle.tds_wire.proofs.Cutting.{laid_found}
use Rattle.tds_wire.proofs.laws.tokens_are_passed.Goals as goal

pub returns : goal.returns
returns c = laid_found
