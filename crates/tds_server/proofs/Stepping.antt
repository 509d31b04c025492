-- An answer is worked off, one step a call.
use Rattle.std.proofs.Common.{◌≡◌, ℕ, Bool, true, List, [], ◌∷◌, ◌++◌, length, ap, ◌∙◌}
use Rattle.tds_session.specs.Answer.{Step, EndsOnce}
use Rattle.tds_server.specs.Packets.{answer_packet, next_id}
use Rattle.tds_server.specs.State.{ServerState, Waiting, Answering}
use Rattle.tds_server.specs.Whole.{after_works, bytes_of_works, packets_from, session_after}
use Rattle.tds_server.specs.Working.{worked, works_in, does, phase_behind}

one_step : {E : Type 0} (s : ServerState E) (step : Step) (rest : List Step) (id : ℕ) (begun : Bool) → s.phase ≡ Answering (step ∷ rest) id begun → worked s ≡ does s step rest id
one_step s step rest id begun e = ap (λ phase. works_in s phase) e

pub bytes_are : {E : Type 0} (s : ServerState E) (steps : List Step) (id : ℕ) (begun : Bool) → EndsOnce steps → s.phase ≡ Answering steps id begun → bytes_of_works (length steps) s ≡ packets_from id steps
bytes_are s [] id begun h e = absurd h
bytes_are s (x ∷ []) id begun h e = ap (λ w. w.packet ++ []) (one_step s x [] id begun e)
bytes_are s (x ∷ y ∷ ys) id begun h e =
    rw (one_step s x (y ∷ ys) id begun e)
    (ap (λ rest. answer_packet id x.last x.tokens ++ rest)
    (bytes_are (does s x (y ∷ ys) id).state (y ∷ ys) (next_id id) true h.1 (ap (λ last. phase_behind last (y ∷ ys) id) h.0)))

pub server_is : {E : Type 0} (s : ServerState E) (steps : List Step) (id : ℕ) (begun : Bool) → EndsOnce steps → s.phase ≡ Answering steps id begun →
    after_works (length steps) s ≡ record s { session = session_after s.session steps; phase = Waiting }
server_is s [] id begun h e = absurd h
server_is s (x ∷ []) id begun h e =
    ap (λ w. w.state) (one_step s x [] id begun e)
    ∙ ap (λ last. record s { session = x.after; phase = phase_behind last [] id }) h
server_is s (x ∷ y ∷ ys) id begun h e =
    ap (λ w. after_works (length (y ∷ ys)) w.state) (one_step s x (y ∷ ys) id begun e)
    ∙ server_is (does s x (y ∷ ys) id).state (y ∷ ys) (next_id id) true h.1 (ap (λ last. phase_behind last (y ∷ ys) id) h.0)
