use Rattle.tds_relay.specs.Pool.{pool_after, new_pool}
use Rattle.tds_relay.proofs.promises.Bringing.{always_sound}
use Rattle.tds_relay.proofs.promises.Saying.{says_once}
use Rattle.tds_relay.proofs.laws.never_asked_twice.Goals as goal

pub returns : goal.returns
returns c = λ sharing events event. says_once (pool_after (new_pool sharing) events) event (always_sound sharing events)
