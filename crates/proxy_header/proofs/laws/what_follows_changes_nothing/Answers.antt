use Rattle.proxy_header.proofs.Following.{wrong_stays, whole_stays}
use Rattle.proxy_header.proofs.laws.what_follows_changes_nothing.Goals as goal

pub returns-clause-wrong : goal.returns-clause-wrong
returns-clause-wrong c = wrong_stays

pub returns-clause-whole : goal.returns-clause-whole
returns-clause-whole c = whole_stays
