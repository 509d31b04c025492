use Rattle.tds_listen.proofs.Laid.{laid}
use Rattle.tds_listen.proofs.laws.tokens_are_heard.Goals as goal

pub returns : goal.returns
returns c = laid c.tokens_are_passed.ensures
