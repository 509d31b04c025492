-- An answer as a whole: what calls of `work` do, one after another.
use Rattle.std.specs.Prelude.{◌≡◌, ℕ, zero, suc, List, [], ◌∷◌, ◌++◌, true, false}
use Rattle.tds_session.specs.Answer.{Step}
use Rattle.tds_session.specs.Session.{SessionState}
use Rattle.tds_server.specs.Packets.{answer_packet, next_id}
use Rattle.tds_server.specs.State.{ServerState}
use Rattle.tds_server.specs.Working.{worked}

-- the server after so many calls of `work`
abbrev pub after_works : {E : Type 0} → ℕ → ServerState E → ServerState E
after_works zero s = s
after_works (suc n) s = after_works n (worked s).state

-- and the bytes that they append
abbrev pub bytes_of_works : {E : Type 0} → ℕ → ServerState E → List ℕ
bytes_of_works zero s = []
bytes_of_works (suc n) s = (worked s).packet ++ bytes_of_works n (worked s).state

-- the packets of these steps, with PacketIDs from this one upward
abbrev pub packets_from : ℕ → List Step → List ℕ
packets_from id [] = []
packets_from id (step ∷ steps) = answer_packet id step.last step.tokens ++ packets_from (next_id id) steps

-- the session after these steps
abbrev pub session_after : SessionState → List Step → SessionState
session_after session [] = session
session_after session (step ∷ steps) = session_after step.after steps
