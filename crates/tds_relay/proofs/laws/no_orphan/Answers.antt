use Rattle.tds_relay.proofs.promises.Bringing.{always_sound}
use Rattle.tds_relay.proofs.laws.no_orphan.Goals as goal

pub returns : goal.returns
returns c = λ sharing events. (always_sound sharing events).cared
