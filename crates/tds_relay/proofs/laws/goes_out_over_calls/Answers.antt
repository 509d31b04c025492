use Rattle.tds_relay.proofs.bytes.Wires.{goes_out}
use Rattle.tds_relay.proofs.laws.goes_out_over_calls.Goals as goal

pub returns : goal.returns
returns c = goes_out
