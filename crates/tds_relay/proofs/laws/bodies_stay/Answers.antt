use Rattle.tds_relay.proofs.spared.Starting.{calls_left}
use Rattle.tds_relay.proofs.laws.bodies_stay.Goals as goal

pub returns : goal.returns
returns c = λ relay more key calls. calls_left relay more key calls
