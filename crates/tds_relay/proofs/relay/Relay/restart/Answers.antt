use Rattle.tds_relay.specs.Closings.{NoKey}
use Rattle.std.proofs.Common.{refl}
use Rattle.tds_relay.proofs.spared.Shutting.{closes_kept, unclosed}
use Rattle.tds_relay.proofs.spared.Lasting.{last_same}
use Rattle.tds_relay.proofs.relay.Relay.restart.Goals as goal

pub returns-clause-closes : goal.returns-clause-closes
returns-clause-closes c = closes_kept NoKey _ _ refl refl refl (record { sees = c.restart.ensures.read.seen; waits = c.restart.ensures.waits }) (unclosed _ _ refl)

pub returns-clause-lasts : goal.returns-clause-lasts
returns-clause-lasts c = last_same _ _ c.restart.ensures.waits
