use Rattle.tds_relay.proofs.visits.Sent.{kept}
use Rattle.tds_relay.proofs.laws.own_bytes_over_calls.Goals as goal

pub returns : goal.returns
returns c = kept
