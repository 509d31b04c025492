use Rattle.tds_relay.proofs.steps.Stepping.{led_on}
use Rattle.tds_relay.proofs.laws.any_calls.Goals as goal

pub returns : goal.returns
returns c = λ by sharing old new. led_on sharing by old new
