use Rattle.std.proofs.Common.{◌≤◌, vec_len}
use Rattle.serve_sessions.specs.declared.peer.TheConstants.{MOST_WAITING}
use Rattle.serve_sessions.proofs.peer.Peer.take.Given as goal

abbrev pub invariant-loop : goal.invariant-loop
invariant-loop l = vec_len l.fn.out ≤ MOST_WAITING → vec_len l.out ≤ MOST_WAITING
