use Rattle.tds_listen.proofs.Same.{same}
use Rattle.tds_listen.proofs.laws.changes_are_the_same.Goals as goal

pub returns : goal.returns
returns c = same
