use Rattle.tds_relay.specs.Closings.{NoKey}
use Rattle.std.proofs.Common.{refl}
use Rattle.tds_relay.proofs.spared.Shutting.{closes_opened}
use Rattle.tds_relay.proofs.relay.Relay.set_open.Goals as goal

pub returns-clause-closes : goal.returns-clause-closes
returns-clause-closes c = closes_opened NoKey c.args.number _ _ refl refl refl c.set_open.ensures.seen c.set_open.ensures.waits refl
