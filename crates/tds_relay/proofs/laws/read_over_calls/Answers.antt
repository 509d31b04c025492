use Rattle.tds_relay.proofs.bytes.Following.{follow_stands}
use Rattle.tds_relay.proofs.laws.read_over_calls.Goals as goal

pub returns : goal.returns
returns c = λ number calls from to r f st. follow_stands calls from to r f st
