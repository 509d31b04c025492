use Rattle.std.proofs.Common.{◌≡◌, length}
use Rattle.tds_state.specs.Hearing.{recovery}
use Rattle.tds_state.proofs.hearing.recovery.Given as goal

abbrev pub invariant-features : goal.invariant-features
invariant-features l = recovery l.rest ≡ recovery l.bytes

abbrev pub decreases-features : goal.decreases-features
decreases-features l = length l.rest
