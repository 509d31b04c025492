use Rattle.tds_relay.proofs.steps.Reaching.{reached_on}
use Rattle.tds_relay.proofs.laws.any_bytes.Goals as goal

pub returns : goal.returns
returns c = λ by old new g reached. reached_on by old new g reached
