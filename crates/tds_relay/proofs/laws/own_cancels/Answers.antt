use Rattle.tds_relay.specs.Pool.{pool_after, new_pool}
use Rattle.tds_relay.proofs.promises.Bringing.{always_sound}
use Rattle.tds_relay.proofs.promises.Owning.{owns}
use Rattle.tds_relay.proofs.laws.own_cancels.Goals as goal

pub returns : goal.returns
returns c = λ by sharing events event cause. owns by (pool_after (new_pool sharing) events) event (always_sound sharing events) cause
