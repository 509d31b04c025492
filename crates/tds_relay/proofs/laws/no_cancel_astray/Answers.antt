use Rattle.tds_relay.specs.Pool.{pool_after, new_pool}
use Rattle.tds_relay.proofs.promises.Bringing.{always_sound}
use Rattle.tds_relay.proofs.promises.Promised.{none_astray}
use Rattle.tds_relay.proofs.laws.no_cancel_astray.Goals as goal

pub returns : goal.returns
returns c = λ sharing events event. none_astray (pool_after (new_pool sharing) events) event (always_sound sharing events)
