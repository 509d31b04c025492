use Rattle.std.proofs.Common.{[], refl}
use Rattle.tds_c.proofs.Ready.{reads_sign}
use Rattle.tds_c.proofs.wire.hearing.whole.heard_behind.Goals as goal

pub returns-in-Ok : goal.returns-in-Ok
returns-in-Ok c = reads_sign _ c.args.sign _ refl (c.in-Ok.ensures.heard [])
