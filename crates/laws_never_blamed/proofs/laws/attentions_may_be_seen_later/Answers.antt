use Rattle.laws_never_blamed.proofs.Crossed.{crossed}
use Rattle.laws_never_blamed.proofs.laws.attentions_may_be_seen_later.Goals as goal

pub returns : goal.returns
returns c = crossed
