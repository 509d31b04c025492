use Rattle.tds_ends.proofs.Spelling as spelling
use Rattle.tds_ends.proofs.laws.spelled_once.Goals as goal

pub returns : goal.returns
returns c = spelling.spelled_once c.one_packet.ensures
