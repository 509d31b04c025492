use Rattle.std.proofs.Common.{◌≡◌, ◌++◌, length}
use Rattle.relay_logins.specs.Sending.{login_packets}
use Rattle.relay_logins.proofs.sending.put_login.Given as goal

-- with the packets of what is left, those of all have been put
abbrev pub invariant-loop-rest : goal.invariant-loop-rest
invariant-loop-rest l = l.out.items ++ login_packets l.rest ≡ l.initial.out.items ++ login_packets l.message

abbrev pub decreases-loop-rest : goal.decreases-loop-rest
decreases-loop-rest l = length l.rest
