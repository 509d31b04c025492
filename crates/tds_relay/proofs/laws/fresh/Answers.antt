use Rattle.tds_relay.specs.Pool.{pool_after, new_pool}
use Rattle.tds_relay.proofs.promises.Bringing.{always_sound}
use Rattle.tds_relay.proofs.promises.Promised.{lends_clean}
use Rattle.tds_relay.proofs.laws.fresh.Goals as goal

pub returns : goal.returns
returns c = λ sharing events. lends_clean (pool_after (new_pool sharing) events) (always_sound sharing events)
