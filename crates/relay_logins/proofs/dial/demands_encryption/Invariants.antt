use Rattle.std.proofs.Common.{◌≡◌, length}
use Rattle.relay_logins.specs.Prelogin.{demands_from}
use Rattle.relay_logins.proofs.dial.demands_encryption.Given as goal

-- what is left demands it just where all does
abbrev pub invariant-loop-rest : goal.invariant-loop-rest
invariant-loop-rest l = demands_from l.answer l.rest ≡ demands_from l.answer l.answer

abbrev pub decreases-loop-rest : goal.decreases-loop-rest
decreases-loop-rest l = length l.rest
