use Rattle.tds_listen.proofs.Agree.{agree}
use Rattle.tds_listen.proofs.laws.readers_agree.Goals as goal

pub returns : goal.returns
returns c = agree c.tokens_are_passed.ensures
