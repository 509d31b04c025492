use Rattle.std.proofs.Common.{◌+◌, ◌*◌, ◌≤◌, vec_len}
use Rattle.serve_sessions.specs.declared.peer.TheConstants.{MOST_WAITING}
use Rattle.serve_sessions.proofs.peer.Peer.work.Given as goal

-- what the steps so far have appended
abbrev pub invariant-loop : goal.invariant-loop
invariant-loop l = record {
  adds : vec_len l.out ≤ vec_len l.fn.out + 4096 * l.counter;
  bounded : vec_len l.fn.out ≤ MOST_WAITING → vec_len l.out ≤ MOST_WAITING;
}
