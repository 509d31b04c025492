use Rattle.tds_ends.proofs.Cutting.{listens_both}
use Rattle.tds_ends.proofs.laws.pieces_are_heard.Goals as goal

pub returns : goal.returns
returns c = listens_both
