-- What a request is given is the message that comes behind its last packet.
use Rattle.std.proofs.Common.{◌≡◌, ◌∙◌, ◌<◌, ◌≤◌, ◌==◌, ◌||◌, ℕ, suc, Bool, true, false, List, [], ◌∷◌, ◌++◌, refl, sym, ap, subst, arith, inl, inr, eq-eqb}
use Rattle.std.specs.Prelude.{Some, Result, Ok, Err, if◌then◌else◌}
use Rattle.tds_packet.specs.declared.status.Reset.{Reset}
use Rattle.tds_packet.specs.Resets.{strongest}
use Rattle.tds_client.specs.declared.fault.ClientFault.TheVariants as faults
use Rattle.tds_client.specs.declared.heard.Heard.{Heard}
use Rattle.tds_listen.specs.declared.fault.ListenFault.{ListenFault}
use Rattle.tds_client.specs.declared.heard.FinalDone.{FinalDone}
use Rattle.tds_client.specs.declared.heard.FinalDone.TheVariants.{Awaited, Answered, Acknowledged}
use Rattle.tds_client.specs.Hearing.{with_done}
use Rattle.tds_service.specs.Parts.{Part, is_end, items_told, hear_part, heard_until}
use Rattle.tds_service.specs.Line.{Line, new_line, Act, Mark, Ask, Send, Cancel, Come, Lose, LineStage, Idle, Sending, Reading, Cancelling, Broken, reads, skips, skips_to_end, cause, left_by}
use Rattle.tds_service.specs.History.{Done, done_by, history, given, told_to}
use Rattle.tds_service.specs.Promises.{Paired, message_of, next_message, leaves_off}
use Rattle.tds_service.proofs.Tests.{same, below, above, cases}

abbrev pub line : ℕ → LineStage → Heard → Line
line n s h = record { asked = n; stage = s; heard = h }

abbrev pub with_mark : Heard → Reset → Heard
with_mark h reset = record { descriptor = h.descriptor; mark = strongest (Some reset) h.mark; done = h.done }

-- ---- Requests that are done with

abbrev pub IsPast : LineStage → ℕ → ℕ → Type 0
IsPast Idle n r = r ≤ n
IsPast (Sending begun) n r = r < n
IsPast Reading n r = r < n
IsPast Cancelling n r = r ≤ n
IsPast (Broken fault) n r = Unit {0}

past_reads : {T : Type 0} (n r : ℕ) (h : Heard) (part : Part T) (ends : Bool) (u : Heard) (result : Result Heard ListenFault) (acts : List (Act T)) → r < n
    → ((s : LineStage) (h : Heard) → IsPast s n r → given r (history (line n s h) acts) ≡ [])
    → told_to r (reads (line n Reading h) part ends u result).told ++ given r (history (reads (line n Reading h) part ends u result).line acts) ≡ []
past_reads n r h part ends u (Err fault) acts p ih = ih (Broken (cause fault)) (left_by fault u) tt
past_reads n r h part false u (Ok heard) acts p ih = rw (below n r p) (ih Reading heard p)
past_reads n r h part true u (Ok heard) acts p ih = rw (below n r p) (ih Idle (with_done heard Awaited) (omega arith))

past_skips_to_end : {T : Type 0} (n r : ℕ) (h heard : Heard) (done : FinalDone) (acts : List (Act T)) → r ≤ n
    → ((s : LineStage) (h : Heard) → IsPast s n r → given r (history (line n s h) acts) ≡ [])
    → told_to r (skips_to_end {T = T} (line n Cancelling h) heard done).told ++ given r (history (skips_to_end {T = T} (line n Cancelling h) heard done).line acts) ≡ []
past_skips_to_end n r h heard Awaited acts p ih = ih Cancelling (with_done heard Awaited) p
past_skips_to_end n r h heard Answered acts p ih = ih Cancelling (with_done heard Awaited) p
past_skips_to_end n r h heard Acknowledged acts p ih = ih Idle (with_done heard Awaited) p

past_skips : {T : Type 0} (n r : ℕ) (h : Heard) (ends : Bool) (u : Heard) (result : Result Heard ListenFault) (acts : List (Act T)) → r ≤ n
    → ((s : LineStage) (h : Heard) → IsPast s n r → given r (history (line n s h) acts) ≡ [])
    → told_to r (skips {T = T} (line n Cancelling h) ends u result).told ++ given r (history (skips {T = T} (line n Cancelling h) ends u result).line acts) ≡ []
past_skips n r h ends u (Err fault) acts p ih = ih (Broken (cause fault)) (left_by fault u) tt
past_skips n r h false u (Ok heard) acts p ih = ih Cancelling heard p
past_skips n r h true u (Ok heard) acts p ih = past_skips_to_end n r h heard heard.done acts p ih

pub past : {T : Type 0} (n r : ℕ) (s : LineStage) (h : Heard) (acts : List (Act T)) → IsPast s n r → given r (history (line n s h) acts) ≡ []
past n r s h [] p = refl
past n r Idle h (Mark reset ∷ acts) p = past n r Idle (with_mark h reset) acts p
past n r Idle h (Ask ∷ acts) p = past (suc n) r (Sending false) h acts (omega arith)
past n r Idle h (Send last ∷ acts) p = past n r Idle h acts p
past n r Idle h (Cancel ∷ acts) p = past n r Idle h acts p
past n r Idle h (Come part ∷ acts) p = past n r (Broken faults.AnswerInIdle) h acts tt
past n r Idle h (Lose ∷ acts) p = past n r (Broken faults.Lost) h acts tt
past n r (Sending begun) h (Mark reset ∷ acts) p = past n r (Sending begun) h acts p
past n r (Sending begun) h (Ask ∷ acts) p = past n r (Sending begun) h acts p
past n r (Sending begun) h (Send false ∷ acts) p = past n r (Sending true) h acts p
past n r (Sending begun) h (Send true ∷ acts) p = past n r Reading h acts p
past n r (Sending false) h (Cancel ∷ acts) p = past n r Idle h acts (omega arith)
past n r (Sending true) h (Cancel ∷ acts) p = past n r Cancelling h acts (omega arith)
past n r (Sending begun) h (Come part ∷ acts) p = past n r (Broken faults.AnswerInSending) h acts tt
past n r (Sending begun) h (Lose ∷ acts) p = past n r (Broken faults.Lost) h acts tt
past n r Reading h (Mark reset ∷ acts) p = past n r Reading h acts p
past n r Reading h (Ask ∷ acts) p = past n r Reading h acts p
past n r Reading h (Send last ∷ acts) p = past n r Reading h acts p
past n r Reading h (Cancel ∷ acts) p = past n r Cancelling h acts (omega arith)
past n r Reading h (Come part ∷ acts) p = past_reads n r h part (is_end part.close) (heard_until false h part.items) (hear_part false h part) acts p (λ s h q. past n r s h acts q)
past n r Reading h (Lose ∷ acts) p = past n r (Broken faults.Lost) h acts tt
past n r Cancelling h (Mark reset ∷ acts) p = past n r Cancelling h acts p
past n r Cancelling h (Ask ∷ acts) p = past n r Cancelling h acts p
past n r Cancelling h (Send last ∷ acts) p = past n r Cancelling h acts p
past n r Cancelling h (Cancel ∷ acts) p = past n r Cancelling h acts p
past n r Cancelling h (Come part ∷ acts) p = past_skips n r h (is_end part.close) (heard_until true h part.items) (hear_part true h part) acts p (λ s h q. past n r s h acts q)
past n r Cancelling h (Lose ∷ acts) p = past n r (Broken faults.Lost) h acts tt
past n r (Broken fault) h (Mark reset ∷ acts) p = past n r (Broken fault) h acts tt
past n r (Broken fault) h (Ask ∷ acts) p = past n r (Broken fault) h acts tt
past n r (Broken fault) h (Send last ∷ acts) p = past n r (Broken fault) h acts tt
past n r (Broken fault) h (Cancel ∷ acts) p = past n r (Broken fault) h acts tt
past n r (Broken fault) h (Come part ∷ acts) p = past n r (Broken fault) h acts tt
past n r (Broken fault) h (Lose ∷ acts) p = past n r (Broken fault) h acts tt

-- ---- Requests that have gone out, or never will

abbrev pub IsOver : LineStage → ℕ → ℕ → Type 0
IsOver Idle n r = r ≤ n
IsOver (Sending begun) n r = r < n
IsOver Reading n r = r ≤ n
IsOver Cancelling n r = r ≤ n
IsOver (Broken fault) n r = Unit {0}

over_reads : {T : Type 0} (n r : ℕ) (h : Heard) (part : Part T) (ends : Bool) (u : Heard) (result : Result Heard ListenFault) (acts : List (Act T)) → r ≤ n
    → ((s : LineStage) (h : Heard) → IsOver s n r → message_of r (history (line n s h) acts) ≡ [])
    → message_of r (done_by (Come part) (reads (line n Reading h) part ends u result) ∷ history (reads (line n Reading h) part ends u result).line acts) ≡ []
over_reads n r h part ends u (Err fault) acts p ih = ih (Broken (cause fault)) (left_by fault u) tt
over_reads n r h part false u (Ok heard) acts p ih = ih Reading heard p
over_reads n r h part true u (Ok heard) acts p ih = ih Idle (with_done heard Awaited) p

over_skips_to_end : {T : Type 0} (n r : ℕ) (h heard : Heard) (part : Part T) (done : FinalDone) (acts : List (Act T)) → r ≤ n
    → ((s : LineStage) (h : Heard) → IsOver s n r → message_of r (history (line n s h) acts) ≡ [])
    → message_of r (done_by (Come part) (skips_to_end (line n Cancelling h) heard done) ∷ history (skips_to_end {T = T} (line n Cancelling h) heard done).line acts) ≡ []
over_skips_to_end n r h heard part Awaited acts p ih = ih Cancelling (with_done heard Awaited) p
over_skips_to_end n r h heard part Answered acts p ih = ih Cancelling (with_done heard Awaited) p
over_skips_to_end n r h heard part Acknowledged acts p ih = ih Idle (with_done heard Awaited) p

over_skips : {T : Type 0} (n r : ℕ) (h : Heard) (part : Part T) (ends : Bool) (u : Heard) (result : Result Heard ListenFault) (acts : List (Act T)) → r ≤ n
    → ((s : LineStage) (h : Heard) → IsOver s n r → message_of r (history (line n s h) acts) ≡ [])
    → message_of r (done_by (Come part) (skips (line n Cancelling h) ends u result) ∷ history (skips {T = T} (line n Cancelling h) ends u result).line acts) ≡ []
over_skips n r h part ends u (Err fault) acts p ih = ih (Broken (cause fault)) (left_by fault u) tt
over_skips n r h part false u (Ok heard) acts p ih = ih Cancelling heard p
over_skips n r h part true u (Ok heard) acts p ih = over_skips_to_end n r h heard part heard.done acts p ih

pub over : {T : Type 0} (n r : ℕ) (s : LineStage) (h : Heard) (acts : List (Act T)) → IsOver s n r → message_of r (history (line n s h) acts) ≡ []
over n r s h [] p = refl
over n r Idle h (Mark reset ∷ acts) p = over n r Idle (with_mark h reset) acts p
over n r Idle h (Ask ∷ acts) p = over (suc n) r (Sending false) h acts (omega arith)
over n r Idle h (Send last ∷ acts) p = over n r Idle h acts p
over n r Idle h (Cancel ∷ acts) p = over n r Idle h acts p
over n r Idle h (Come part ∷ acts) p = over n r (Broken faults.AnswerInIdle) h acts tt
over n r Idle h (Lose ∷ acts) p = over n r (Broken faults.Lost) h acts tt
over n r (Sending begun) h (Mark reset ∷ acts) p = over n r (Sending begun) h acts p
over n r (Sending begun) h (Ask ∷ acts) p = over n r (Sending begun) h acts p
over n r (Sending begun) h (Send false ∷ acts) p = over n r (Sending true) h acts p
over n r (Sending begun) h (Send true ∷ acts) p = rw (below n r p) (over n r Reading h acts (omega arith))
over n r (Sending false) h (Cancel ∷ acts) p = over n r Idle h acts (omega arith)
over n r (Sending true) h (Cancel ∷ acts) p = over n r Cancelling h acts (omega arith)
over n r (Sending begun) h (Come part ∷ acts) p = over n r (Broken faults.AnswerInSending) h acts tt
over n r (Sending begun) h (Lose ∷ acts) p = over n r (Broken faults.Lost) h acts tt
over n r Reading h (Mark reset ∷ acts) p = over n r Reading h acts p
over n r Reading h (Ask ∷ acts) p = over n r Reading h acts p
over n r Reading h (Send last ∷ acts) p = over n r Reading h acts p
over n r Reading h (Cancel ∷ acts) p = over n r Cancelling h acts p
over n r Reading h (Come part ∷ acts) p = over_reads n r h part (is_end part.close) (heard_until false h part.items) (hear_part false h part) acts p (λ s h q. over n r s h acts q)
over n r Reading h (Lose ∷ acts) p = over n r (Broken faults.Lost) h acts tt
over n r Cancelling h (Mark reset ∷ acts) p = over n r Cancelling h acts p
over n r Cancelling h (Ask ∷ acts) p = over n r Cancelling h acts p
over n r Cancelling h (Send last ∷ acts) p = over n r Cancelling h acts p
over n r Cancelling h (Cancel ∷ acts) p = over n r Cancelling h acts p
over n r Cancelling h (Come part ∷ acts) p = over_skips n r h part (is_end part.close) (heard_until true h part.items) (hear_part true h part) acts p (λ s h q. over n r s h acts q)
over n r Cancelling h (Lose ∷ acts) p = over n r (Broken faults.Lost) h acts tt
over n r (Broken fault) h (Mark reset ∷ acts) p = over n r (Broken fault) h acts tt
over n r (Broken fault) h (Ask ∷ acts) p = over n r (Broken fault) h acts tt
over n r (Broken fault) h (Send last ∷ acts) p = over n r (Broken fault) h acts tt
over n r (Broken fault) h (Cancel ∷ acts) p = over n r (Broken fault) h acts tt
over n r (Broken fault) h (Come part ∷ acts) p = over n r (Broken fault) h acts tt
over n r (Broken fault) h (Lose ∷ acts) p = over n r (Broken fault) h acts tt

-- ---- The request whose answer is awaited

now_reads : {T : Type 0} (n : ℕ) (h : Heard) (part : Part T) (ends : Bool) (u : Heard) (result : Result Heard ListenFault) (acts : List (Act T))
    → ((h : Heard) → given n (history (line n Reading h) acts) ≡ next_message (history (line n Reading h) acts))
    → told_to n (reads (line n Reading h) part ends u result).told ++ given n (history (reads (line n Reading h) part ends u result).line acts)
    ≡ (if leaves_off (reads (line n Reading h) part ends u result).answer then []
    else (items_told part.items ++ (if ends then [] else next_message (history (reads (line n Reading h) part ends u result).line acts))))
now_reads n h part ends u (Err fault) acts ih = past n n (Broken (cause fault)) (left_by fault u) acts tt
now_reads n h part false u (Ok heard) acts ih = rw (same n) (ap (λ xs. items_told part.items ++ xs) (ih heard))
now_reads n h part true u (Ok heard) acts ih = rw (same n) (ap (λ xs. items_told part.items ++ xs) (past n n Idle (with_done heard Awaited) acts (omega arith)))

pub now : {T : Type 0} (n : ℕ) (h : Heard) (acts : List (Act T)) → given n (history (line n Reading h) acts) ≡ next_message (history (line n Reading h) acts)
now n h [] = refl
now n h (Mark reset ∷ acts) = now n h acts
now n h (Ask ∷ acts) = now n h acts
now n h (Send last ∷ acts) = now n h acts
now n h (Cancel ∷ acts) = past n n Cancelling h acts (omega arith)
now n h (Come part ∷ acts) = now_reads n h part (is_end part.close) (heard_until false h part.items) (hear_part false h part) acts (λ h. now n h acts)
now n h (Lose ∷ acts) = past n n (Broken faults.Lost) h acts tt

-- ---- Requests to come

abbrev pub IsNext : LineStage → ℕ → ℕ → Type 0
IsNext Idle n r = n < r
IsNext (Sending begun) n r = n ≤ r
IsNext Reading n r = n < r
IsNext Cancelling n r = n < r
IsNext (Broken fault) n r = Unit {0}

went : {T : Type 0} (n r : ℕ) (rest : List (Done T)) → n ≤ r → given n rest ≡ next_message rest → (n < r → given r rest ≡ message_of r rest)
    → given r rest ≡ (if ((n == r) || false) then next_message rest else message_of r rest)
went n r rest p here later = elim (cases n r p) [
  | inl e ↦ rw (eq-eqb n r e) (subst (λ (k : ℕ). given k rest ≡ next_message rest) e here)
  | inr lt ↦ rw (above n r lt) (later lt)
]

-- where it has been forgotten or stopped
left : {T : Type 0} (n r : ℕ) (rest : List (Done T)) → n ≤ r → (r ≤ n → given r rest ≡ []) → (r ≤ n → message_of r rest ≡ []) → (n < r → given r rest ≡ message_of r rest)
    → given r rest ≡ message_of r rest
left n r rest p one other later = elim (cases n r p) [
  | inl e ↦ one (omega (arith, e)) ∙ sym (other (omega (arith, e)))
  | inr lt ↦ later lt
]

next_reads : {T : Type 0} (n r : ℕ) (h : Heard) (part : Part T) (ends : Bool) (u : Heard) (result : Result Heard ListenFault) (acts : List (Act T)) → n < r
    → ((s : LineStage) (h : Heard) → IsNext s n r → given r (history (line n s h) acts) ≡ message_of r (history (line n s h) acts))
    → told_to r (reads (line n Reading h) part ends u result).told ++ given r (history (reads (line n Reading h) part ends u result).line acts)
    ≡ message_of r (done_by (Come part) (reads (line n Reading h) part ends u result) ∷ history (reads (line n Reading h) part ends u result).line acts)
next_reads n r h part ends u (Err fault) acts p ih = ih (Broken (cause fault)) (left_by fault u) tt
next_reads n r h part false u (Ok heard) acts p ih = rw (above n r p) (ih Reading heard p)
next_reads n r h part true u (Ok heard) acts p ih = rw (above n r p) (ih Idle (with_done heard Awaited) p)

next_skips_to_end : {T : Type 0} (n r : ℕ) (h heard : Heard) (part : Part T) (done : FinalDone) (acts : List (Act T)) → n < r
    → ((s : LineStage) (h : Heard) → IsNext s n r → given r (history (line n s h) acts) ≡ message_of r (history (line n s h) acts))
    → told_to r (skips_to_end {T = T} (line n Cancelling h) heard done).told ++ given r (history (skips_to_end {T = T} (line n Cancelling h) heard done).line acts)
    ≡ message_of r (done_by (Come part) (skips_to_end (line n Cancelling h) heard done) ∷ history (skips_to_end {T = T} (line n Cancelling h) heard done).line acts)
next_skips_to_end n r h heard part Awaited acts p ih = ih Cancelling (with_done heard Awaited) p
next_skips_to_end n r h heard part Answered acts p ih = ih Cancelling (with_done heard Awaited) p
next_skips_to_end n r h heard part Acknowledged acts p ih = ih Idle (with_done heard Awaited) p

next_skips : {T : Type 0} (n r : ℕ) (h : Heard) (part : Part T) (ends : Bool) (u : Heard) (result : Result Heard ListenFault) (acts : List (Act T)) → n < r
    → ((s : LineStage) (h : Heard) → IsNext s n r → given r (history (line n s h) acts) ≡ message_of r (history (line n s h) acts))
    → told_to r (skips {T = T} (line n Cancelling h) ends u result).told ++ given r (history (skips {T = T} (line n Cancelling h) ends u result).line acts)
    ≡ message_of r (done_by (Come part) (skips (line n Cancelling h) ends u result) ∷ history (skips {T = T} (line n Cancelling h) ends u result).line acts)
next_skips n r h part ends u (Err fault) acts p ih = ih (Broken (cause fault)) (left_by fault u) tt
next_skips n r h part false u (Ok heard) acts p ih = ih Cancelling heard p
next_skips n r h part true u (Ok heard) acts p ih = next_skips_to_end n r h heard part heard.done acts p ih

pub next : {T : Type 0} (n r : ℕ) (s : LineStage) (h : Heard) (acts : List (Act T)) → IsNext s n r
    → given r (history (line n s h) acts) ≡ message_of r (history (line n s h) acts)
next n r s h [] p = refl
next n r Idle h (Mark reset ∷ acts) p = next n r Idle (with_mark h reset) acts p
next n r Idle h (Ask ∷ acts) p = next (suc n) r (Sending false) h acts (omega arith)
next n r Idle h (Send last ∷ acts) p = next n r Idle h acts p
next n r Idle h (Cancel ∷ acts) p = next n r Idle h acts p
next n r Idle h (Come part ∷ acts) p = next n r (Broken faults.AnswerInIdle) h acts tt
next n r Idle h (Lose ∷ acts) p = next n r (Broken faults.Lost) h acts tt
next n r (Sending begun) h (Mark reset ∷ acts) p = next n r (Sending begun) h acts p
next n r (Sending begun) h (Ask ∷ acts) p = next n r (Sending begun) h acts p
next n r (Sending begun) h (Send false ∷ acts) p = next n r (Sending true) h acts p
next n r (Sending begun) h (Send true ∷ acts) p = went n r (history (line n Reading h) acts) p (now n h acts) (λ q. next n r Reading h acts q)
next n r (Sending false) h (Cancel ∷ acts) p =
    left n r (history (line n Idle h) acts) p (λ q. past n r Idle h acts q) (λ q. over n r Idle h acts q) (λ q. next n r Idle h acts q)
next n r (Sending true) h (Cancel ∷ acts) p =
    left n r (history (line n Cancelling h) acts) p (λ q. past n r Cancelling h acts q) (λ q. over n r Cancelling h acts q) (λ q. next n r Cancelling h acts q)
next n r (Sending begun) h (Come part ∷ acts) p = next n r (Broken faults.AnswerInSending) h acts tt
next n r (Sending begun) h (Lose ∷ acts) p = next n r (Broken faults.Lost) h acts tt
next n r Reading h (Mark reset ∷ acts) p = next n r Reading h acts p
next n r Reading h (Ask ∷ acts) p = next n r Reading h acts p
next n r Reading h (Send last ∷ acts) p = next n r Reading h acts p
next n r Reading h (Cancel ∷ acts) p = next n r Cancelling h acts p
next n r Reading h (Come part ∷ acts) p = next_reads n r h part (is_end part.close) (heard_until false h part.items) (hear_part false h part) acts p (λ s h q. next n r s h acts q)
next n r Reading h (Lose ∷ acts) p = next n r (Broken faults.Lost) h acts tt
next n r Cancelling h (Mark reset ∷ acts) p = next n r Cancelling h acts p
next n r Cancelling h (Ask ∷ acts) p = next n r Cancelling h acts p
next n r Cancelling h (Send last ∷ acts) p = next n r Cancelling h acts p
next n r Cancelling h (Cancel ∷ acts) p = next n r Cancelling h acts p
next n r Cancelling h (Come part ∷ acts) p = next_skips n r h part (is_end part.close) (heard_until true h part.items) (hear_part true h part) acts p (λ s h q. next n r s h acts q)
next n r Cancelling h (Lose ∷ acts) p = next n r (Broken faults.Lost) h acts tt
next n r (Broken fault) h (Mark reset ∷ acts) p = next n r (Broken fault) h acts tt
next n r (Broken fault) h (Ask ∷ acts) p = next n r (Broken fault) h acts tt
next n r (Broken fault) h (Send last ∷ acts) p = next n r (Broken fault) h acts tt
next n r (Broken fault) h (Cancel ∷ acts) p = next n r (Broken fault) h acts tt
next n r (Broken fault) h (Come part ∷ acts) p = next n r (Broken fault) h acts tt
next n r (Broken fault) h (Lose ∷ acts) p = next n r (Broken fault) h acts tt

-- a number 0 is of no request
none_is_zero : {T : Type 0} (s : Heard) (acts : List (Act T)) → given 0 (history (line 0 Idle s) acts) ≡ message_of 0 (history (line 0 Idle s) acts)
none_is_zero s acts = past 0 0 Idle s acts (omega arith) ∙ sym (over 0 0 Idle s acts (omega arith))

pub paired : {T : Type 0} (acts : List (Act T)) → Paired (history new_line acts)
paired acts r = elim (cases 0 r (omega arith)) [
  | inl e ↦ subst (λ (k : ℕ). given k (history new_line acts) ≡ message_of k (history new_line acts)) e (none_is_zero new_line.heard acts)
  | inr lt ↦ next 0 r Idle new_line.heard acts lt
]
