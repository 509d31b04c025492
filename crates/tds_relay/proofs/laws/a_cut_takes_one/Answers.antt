use Rattle.tds_relay.proofs.promises.Promised.{takes_one}
use Rattle.tds_relay.proofs.laws.a_cut_takes_one.Goals as goal

pub returns : goal.returns
returns c = takes_one
