use Rattle.tds_relay.proofs.ends.Modes.{mode_along}
use Rattle.tds_relay.proofs.sharing_laws.keeps_mode.Goals as goal

pub returns : goal.returns
returns c = mode_along
