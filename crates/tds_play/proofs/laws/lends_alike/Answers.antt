use Rattle.tds_play.proofs.Lent as lent
use Rattle.tds_play.proofs.laws.lends_alike.Goals as goal

pub returns : goal.returns
returns c = lent.lends_alike
