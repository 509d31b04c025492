use Rattle.tds_relay.proofs.steps.States.{held_bounded}
use Rattle.tds_relay.proofs.laws.bounds.Goals as goal

pub returns-clause-kept : goal.returns-clause-kept
returns-clause-kept c = λ a. held_bounded a.state
