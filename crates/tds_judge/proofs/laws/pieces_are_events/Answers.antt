use Rattle.tds_judge.proofs.Handing.{seen_so}
use Rattle.tds_judge.proofs.laws.pieces_are_events.Goals as goal

pub returns : goal.returns
returns c = seen_so
