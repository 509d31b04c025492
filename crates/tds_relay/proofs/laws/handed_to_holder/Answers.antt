use Rattle.tds_relay.specs.Pool.{pool_after, new_pool}
use Rattle.tds_relay.proofs.promises.Bringing.{always_sound}
use Rattle.tds_relay.proofs.promises.Promised.{handed_to_holder}
use Rattle.tds_relay.proofs.laws.handed_to_holder.Goals as goal

pub returns : goal.returns
returns c = λ sharing events number key e. handed_to_holder (pool_after (new_pool sharing) events) number key (always_sound sharing events) e
