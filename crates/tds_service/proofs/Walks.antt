-- Laws that walk along a history.
use Rattle.std.proofs.Common.{refl, ◌+◌, ◌≤◌, ℕ, suc, Bool, true, false, List, [], ◌∷◌, arith}
use Rattle.std.specs.Prelude.{Result, Ok, Err}
use Rattle.tds_client.specs.declared.fault.ClientFault.TheVariants as faults
use Rattle.tds_client.specs.declared.heard.Heard.{Heard}
use Rattle.tds_listen.specs.declared.fault.ListenFault.{ListenFault}
use Rattle.tds_client.specs.declared.heard.FinalDone.{FinalDone}
use Rattle.tds_client.specs.declared.heard.FinalDone.TheVariants.{Awaited, Answered, Acknowledged}
use Rattle.tds_client.specs.Hearing.{with_done}
use Rattle.tds_service.specs.Parts.{Part, is_end, hear_part, heard_until}
use Rattle.tds_service.specs.Line.{new_line, Act, Mark, Ask, Send, Cancel, Come, Lose, LineStage, Idle, Sending, Reading, Cancelling, Broken, reads, skips, skips_to_end, cause, left_by}
use Rattle.tds_service.specs.History.{done_by, history, line_after}
use Rattle.tds_service.specs.Promises.{AsksUnawaited, FaultsUnawaited, NothingBehindCancel, attentions, acknowledgements}
use Rattle.tds_service.proofs.Pairing.{line, with_mark, past}

-- ---- What comes unawaited

abbrev pub awaits : LineStage → Bool
awaits Idle = false
awaits (Sending begun) = false
awaits Reading = true
awaits Cancelling = true
awaits (Broken fault) = false

unawaited_reads : {T : Type 0} (n : ℕ) (h : Heard) (part : Part T) (ends : Bool) (u : Heard) (result : Result Heard ListenFault) (acts : List (Act T))
    → ((s : LineStage) (h : Heard) → FaultsUnawaited (awaits s) (history (line n s h) acts))
    → FaultsUnawaited (awaits Reading) (done_by (Come part) (reads (line n Reading h) part ends u result) ∷ history (reads (line n Reading h) part ends u result).line acts)
unawaited_reads n h part ends u (Err fault) acts ih = (tt, (ih (Broken (cause fault)) (left_by fault u)))
unawaited_reads n h part false u (Ok heard) acts ih = (tt, (ih Reading heard))
unawaited_reads n h part true u (Ok heard) acts ih = (tt, (ih Idle (with_done heard Awaited)))

unawaited_skips_to_end : {T : Type 0} (n : ℕ) (h heard : Heard) (part : Part T) (done : FinalDone) (acts : List (Act T))
    → ((s : LineStage) (h : Heard) → FaultsUnawaited (awaits s) (history (line n s h) acts))
    → FaultsUnawaited (awaits Cancelling) (done_by (Come part) (skips_to_end {T = T} (line n Cancelling h) heard done) ∷ history (skips_to_end {T = T} (line n Cancelling h) heard done).line acts)
unawaited_skips_to_end n h heard part Awaited acts ih = (tt, (ih Cancelling (with_done heard Awaited)))
unawaited_skips_to_end n h heard part Answered acts ih = (tt, (ih Cancelling (with_done heard Awaited)))
unawaited_skips_to_end n h heard part Acknowledged acts ih = (tt, (ih Idle (with_done heard Awaited)))

unawaited_skips : {T : Type 0} (n : ℕ) (h : Heard) (part : Part T) (ends : Bool) (u : Heard) (result : Result Heard ListenFault) (acts : List (Act T))
    → ((s : LineStage) (h : Heard) → FaultsUnawaited (awaits s) (history (line n s h) acts))
    → FaultsUnawaited (awaits Cancelling) (done_by (Come part) (skips {T = T} (line n Cancelling h) ends u result) ∷ history (skips {T = T} (line n Cancelling h) ends u result).line acts)
unawaited_skips n h part ends u (Err fault) acts ih = (tt, (ih (Broken (cause fault)) (left_by fault u)))
unawaited_skips n h part false u (Ok heard) acts ih = (tt, (ih Cancelling heard))
unawaited_skips n h part true u (Ok heard) acts ih = unawaited_skips_to_end n h heard part heard.done acts ih

pub unawaited : {T : Type 0} (n : ℕ) (s : LineStage) (h : Heard) (acts : List (Act T)) → FaultsUnawaited (awaits s) (history (line n s h) acts)
unawaited n s h [] = tt
unawaited n Idle h (Mark reset ∷ acts) = (tt, (unawaited n Idle (with_mark h reset) acts))
unawaited n Idle h (Ask ∷ acts) = (tt, (unawaited (suc n) (Sending false) h acts))
unawaited n Idle h (Send last ∷ acts) = (tt, (unawaited n Idle h acts))
unawaited n Idle h (Cancel ∷ acts) = (tt, (unawaited n Idle h acts))
unawaited n Idle h (Come part ∷ acts) = (tt, (unawaited n (Broken faults.AnswerInIdle) h acts))
unawaited n Idle h (Lose ∷ acts) = (tt, (unawaited n (Broken faults.Lost) h acts))
unawaited n (Sending begun) h (Mark reset ∷ acts) = (tt, (unawaited n (Sending begun) h acts))
unawaited n (Sending begun) h (Ask ∷ acts) = (tt, (unawaited n (Sending begun) h acts))
unawaited n (Sending begun) h (Send false ∷ acts) = (tt, (unawaited n (Sending true) h acts))
unawaited n (Sending begun) h (Send true ∷ acts) = (tt, (unawaited n Reading h acts))
unawaited n (Sending false) h (Cancel ∷ acts) = (tt, (unawaited n Idle h acts))
unawaited n (Sending true) h (Cancel ∷ acts) = (tt, (unawaited n Cancelling h acts))
unawaited n (Sending begun) h (Come part ∷ acts) = (tt, (unawaited n (Broken faults.AnswerInSending) h acts))
unawaited n (Sending begun) h (Lose ∷ acts) = (tt, (unawaited n (Broken faults.Lost) h acts))
unawaited n Reading h (Mark reset ∷ acts) = (tt, (unawaited n Reading h acts))
unawaited n Reading h (Ask ∷ acts) = (tt, (unawaited n Reading h acts))
unawaited n Reading h (Send last ∷ acts) = (tt, (unawaited n Reading h acts))
unawaited n Reading h (Cancel ∷ acts) = (tt, (unawaited n Cancelling h acts))
unawaited n Reading h (Come part ∷ acts) = unawaited_reads n h part (is_end part.close) (heard_until false h part.items) (hear_part false h part) acts (λ s h. unawaited n s h acts)
unawaited n Reading h (Lose ∷ acts) = (tt, (unawaited n (Broken faults.Lost) h acts))
unawaited n Cancelling h (Mark reset ∷ acts) = (tt, (unawaited n Cancelling h acts))
unawaited n Cancelling h (Ask ∷ acts) = (tt, (unawaited n Cancelling h acts))
unawaited n Cancelling h (Send last ∷ acts) = (tt, (unawaited n Cancelling h acts))
unawaited n Cancelling h (Cancel ∷ acts) = (tt, (unawaited n Cancelling h acts))
unawaited n Cancelling h (Come part ∷ acts) = unawaited_skips n h part (is_end part.close) (heard_until true h part.items) (hear_part true h part) acts (λ s h. unawaited n s h acts)
unawaited n Cancelling h (Lose ∷ acts) = (tt, (unawaited n (Broken faults.Lost) h acts))
unawaited n (Broken fault) h (Mark reset ∷ acts) = (tt, (unawaited n (Broken fault) h acts))
unawaited n (Broken fault) h (Ask ∷ acts) = (tt, (unawaited n (Broken fault) h acts))
unawaited n (Broken fault) h (Send last ∷ acts) = (tt, (unawaited n (Broken fault) h acts))
unawaited n (Broken fault) h (Cancel ∷ acts) = (tt, (unawaited n (Broken fault) h acts))
unawaited n (Broken fault) h (Come part ∷ acts) = (tt, (unawaited n (Broken fault) h acts))
unawaited n (Broken fault) h (Lose ∷ acts) = (tt, (unawaited n (Broken fault) h acts))

-- ---- What is asked

free_reads : {T : Type 0} (n : ℕ) (h : Heard) (part : Part T) (ends : Bool) (u : Heard) (result : Result Heard ListenFault) (acts : List (Act T))
    → ((s : LineStage) (h : Heard) → AsksUnawaited (awaits s) (history (line n s h) acts))
    → AsksUnawaited (awaits Reading) (done_by (Come part) (reads (line n Reading h) part ends u result) ∷ history (reads (line n Reading h) part ends u result).line acts)
free_reads n h part ends u (Err fault) acts ih = (tt, (ih (Broken (cause fault)) (left_by fault u)))
free_reads n h part false u (Ok heard) acts ih = (tt, (ih Reading heard))
free_reads n h part true u (Ok heard) acts ih = (tt, (ih Idle (with_done heard Awaited)))

free_skips_to_end : {T : Type 0} (n : ℕ) (h heard : Heard) (part : Part T) (done : FinalDone) (acts : List (Act T))
    → ((s : LineStage) (h : Heard) → AsksUnawaited (awaits s) (history (line n s h) acts))
    → AsksUnawaited (awaits Cancelling) (done_by (Come part) (skips_to_end {T = T} (line n Cancelling h) heard done) ∷ history (skips_to_end {T = T} (line n Cancelling h) heard done).line acts)
free_skips_to_end n h heard part Awaited acts ih = (tt, (ih Cancelling (with_done heard Awaited)))
free_skips_to_end n h heard part Answered acts ih = (tt, (ih Cancelling (with_done heard Awaited)))
free_skips_to_end n h heard part Acknowledged acts ih = (tt, (ih Idle (with_done heard Awaited)))

free_skips : {T : Type 0} (n : ℕ) (h : Heard) (part : Part T) (ends : Bool) (u : Heard) (result : Result Heard ListenFault) (acts : List (Act T))
    → ((s : LineStage) (h : Heard) → AsksUnawaited (awaits s) (history (line n s h) acts))
    → AsksUnawaited (awaits Cancelling) (done_by (Come part) (skips {T = T} (line n Cancelling h) ends u result) ∷ history (skips {T = T} (line n Cancelling h) ends u result).line acts)
free_skips n h part ends u (Err fault) acts ih = (tt, (ih (Broken (cause fault)) (left_by fault u)))
free_skips n h part false u (Ok heard) acts ih = (tt, (ih Cancelling heard))
free_skips n h part true u (Ok heard) acts ih = free_skips_to_end n h heard part heard.done acts ih

pub free : {T : Type 0} (n : ℕ) (s : LineStage) (h : Heard) (acts : List (Act T)) → AsksUnawaited (awaits s) (history (line n s h) acts)
free n s h [] = tt
free n Idle h (Mark reset ∷ acts) = (refl, (free n Idle (with_mark h reset) acts))
free n Idle h (Ask ∷ acts) = (refl, (free (suc n) (Sending false) h acts))
free n Idle h (Send last ∷ acts) = (tt, (free n Idle h acts))
free n Idle h (Cancel ∷ acts) = (tt, (free n Idle h acts))
free n Idle h (Come part ∷ acts) = (tt, (free n (Broken faults.AnswerInIdle) h acts))
free n Idle h (Lose ∷ acts) = (tt, (free n (Broken faults.Lost) h acts))
free n (Sending begun) h (Mark reset ∷ acts) = (tt, (free n (Sending begun) h acts))
free n (Sending begun) h (Ask ∷ acts) = (tt, (free n (Sending begun) h acts))
free n (Sending begun) h (Send false ∷ acts) = (tt, (free n (Sending true) h acts))
free n (Sending begun) h (Send true ∷ acts) = (tt, (free n Reading h acts))
free n (Sending false) h (Cancel ∷ acts) = (tt, (free n Idle h acts))
free n (Sending true) h (Cancel ∷ acts) = (tt, (free n Cancelling h acts))
free n (Sending begun) h (Come part ∷ acts) = (tt, (free n (Broken faults.AnswerInSending) h acts))
free n (Sending begun) h (Lose ∷ acts) = (tt, (free n (Broken faults.Lost) h acts))
free n Reading h (Mark reset ∷ acts) = (tt, (free n Reading h acts))
free n Reading h (Ask ∷ acts) = (tt, (free n Reading h acts))
free n Reading h (Send last ∷ acts) = (tt, (free n Reading h acts))
free n Reading h (Cancel ∷ acts) = (tt, (free n Cancelling h acts))
free n Reading h (Come part ∷ acts) = free_reads n h part (is_end part.close) (heard_until false h part.items) (hear_part false h part) acts (λ s h. free n s h acts)
free n Reading h (Lose ∷ acts) = (tt, (free n (Broken faults.Lost) h acts))
free n Cancelling h (Mark reset ∷ acts) = (tt, (free n Cancelling h acts))
free n Cancelling h (Ask ∷ acts) = (tt, (free n Cancelling h acts))
free n Cancelling h (Send last ∷ acts) = (tt, (free n Cancelling h acts))
free n Cancelling h (Cancel ∷ acts) = (tt, (free n Cancelling h acts))
free n Cancelling h (Come part ∷ acts) = free_skips n h part (is_end part.close) (heard_until true h part.items) (hear_part true h part) acts (λ s h. free n s h acts)
free n Cancelling h (Lose ∷ acts) = (tt, (free n (Broken faults.Lost) h acts))
free n (Broken fault) h (Mark reset ∷ acts) = (tt, (free n (Broken fault) h acts))
free n (Broken fault) h (Ask ∷ acts) = (tt, (free n (Broken fault) h acts))
free n (Broken fault) h (Send last ∷ acts) = (tt, (free n (Broken fault) h acts))
free n (Broken fault) h (Cancel ∷ acts) = (tt, (free n (Broken fault) h acts))
free n (Broken fault) h (Come part ∷ acts) = (tt, (free n (Broken fault) h acts))
free n (Broken fault) h (Lose ∷ acts) = (tt, (free n (Broken fault) h acts))

-- ---- Behind a cancel

silent_reads : {T : Type 0} (n : ℕ) (h : Heard) (part : Part T) (ends : Bool) (u : Heard) (result : Result Heard ListenFault) (acts : List (Act T))
    → ((s : LineStage) (h : Heard) → NothingBehindCancel (history (line n s h) acts))
    → NothingBehindCancel (done_by (Come part) (reads (line n Reading h) part ends u result) ∷ history (reads (line n Reading h) part ends u result).line acts)
silent_reads n h part ends u (Err fault) acts ih = (tt, (ih (Broken (cause fault)) (left_by fault u)))
silent_reads n h part false u (Ok heard) acts ih = (tt, (ih Reading heard))
silent_reads n h part true u (Ok heard) acts ih = (tt, (ih Idle (with_done heard Awaited)))

silent_skips_to_end : {T : Type 0} (n : ℕ) (h heard : Heard) (part : Part T) (done : FinalDone) (acts : List (Act T))
    → ((s : LineStage) (h : Heard) → NothingBehindCancel (history (line n s h) acts))
    → NothingBehindCancel (done_by (Come part) (skips_to_end {T = T} (line n Cancelling h) heard done) ∷ history (skips_to_end {T = T} (line n Cancelling h) heard done).line acts)
silent_skips_to_end n h heard part Awaited acts ih = (tt, (ih Cancelling (with_done heard Awaited)))
silent_skips_to_end n h heard part Answered acts ih = (tt, (ih Cancelling (with_done heard Awaited)))
silent_skips_to_end n h heard part Acknowledged acts ih = (tt, (ih Idle (with_done heard Awaited)))

silent_skips : {T : Type 0} (n : ℕ) (h : Heard) (part : Part T) (ends : Bool) (u : Heard) (result : Result Heard ListenFault) (acts : List (Act T))
    → ((s : LineStage) (h : Heard) → NothingBehindCancel (history (line n s h) acts))
    → NothingBehindCancel (done_by (Come part) (skips {T = T} (line n Cancelling h) ends u result) ∷ history (skips {T = T} (line n Cancelling h) ends u result).line acts)
silent_skips n h part ends u (Err fault) acts ih = (tt, (ih (Broken (cause fault)) (left_by fault u)))
silent_skips n h part false u (Ok heard) acts ih = (tt, (ih Cancelling heard))
silent_skips n h part true u (Ok heard) acts ih = silent_skips_to_end n h heard part heard.done acts ih

pub silent : {T : Type 0} (n : ℕ) (s : LineStage) (h : Heard) (acts : List (Act T)) → NothingBehindCancel (history (line n s h) acts)
silent n s h [] = tt
silent n Idle h (Mark reset ∷ acts) = (tt, (silent n Idle (with_mark h reset) acts))
silent n Idle h (Ask ∷ acts) = (tt, (silent (suc n) (Sending false) h acts))
silent n Idle h (Send last ∷ acts) = (tt, (silent n Idle h acts))
silent n Idle h (Cancel ∷ acts) = (tt, (silent n Idle h acts))
silent n Idle h (Come part ∷ acts) = (tt, (silent n (Broken faults.AnswerInIdle) h acts))
silent n Idle h (Lose ∷ acts) = (tt, (silent n (Broken faults.Lost) h acts))
silent n (Sending begun) h (Mark reset ∷ acts) = (tt, (silent n (Sending begun) h acts))
silent n (Sending begun) h (Ask ∷ acts) = (tt, (silent n (Sending begun) h acts))
silent n (Sending begun) h (Send false ∷ acts) = (tt, (silent n (Sending true) h acts))
silent n (Sending begun) h (Send true ∷ acts) = (tt, (silent n Reading h acts))
silent n (Sending false) h (Cancel ∷ acts) = (past n n Idle h acts (omega arith), (silent n Idle h acts))
silent n (Sending true) h (Cancel ∷ acts) = (past n n Cancelling h acts (omega arith), (silent n Cancelling h acts))
silent n (Sending begun) h (Come part ∷ acts) = (tt, (silent n (Broken faults.AnswerInSending) h acts))
silent n (Sending begun) h (Lose ∷ acts) = (tt, (silent n (Broken faults.Lost) h acts))
silent n Reading h (Mark reset ∷ acts) = (tt, (silent n Reading h acts))
silent n Reading h (Ask ∷ acts) = (tt, (silent n Reading h acts))
silent n Reading h (Send last ∷ acts) = (tt, (silent n Reading h acts))
silent n Reading h (Cancel ∷ acts) = (past n n Cancelling h acts (omega arith), (silent n Cancelling h acts))
silent n Reading h (Come part ∷ acts) = silent_reads n h part (is_end part.close) (heard_until false h part.items) (hear_part false h part) acts (λ s h. silent n s h acts)
silent n Reading h (Lose ∷ acts) = (tt, (silent n (Broken faults.Lost) h acts))
silent n Cancelling h (Mark reset ∷ acts) = (tt, (silent n Cancelling h acts))
silent n Cancelling h (Ask ∷ acts) = (tt, (silent n Cancelling h acts))
silent n Cancelling h (Send last ∷ acts) = (tt, (silent n Cancelling h acts))
silent n Cancelling h (Cancel ∷ acts) = (tt, (silent n Cancelling h acts))
silent n Cancelling h (Come part ∷ acts) = silent_skips n h part (is_end part.close) (heard_until true h part.items) (hear_part true h part) acts (λ s h. silent n s h acts)
silent n Cancelling h (Lose ∷ acts) = (tt, (silent n (Broken faults.Lost) h acts))
silent n (Broken fault) h (Mark reset ∷ acts) = (tt, (silent n (Broken fault) h acts))
silent n (Broken fault) h (Ask ∷ acts) = (tt, (silent n (Broken fault) h acts))
silent n (Broken fault) h (Send last ∷ acts) = (tt, (silent n (Broken fault) h acts))
silent n (Broken fault) h (Cancel ∷ acts) = (tt, (silent n (Broken fault) h acts))
silent n (Broken fault) h (Come part ∷ acts) = (tt, (silent n (Broken fault) h acts))
silent n (Broken fault) h (Lose ∷ acts) = (tt, (silent n (Broken fault) h acts))

-- ---- One attention

abbrev pub out : LineStage → ℕ
out Idle = 0
out (Sending begun) = 0
out Reading = 0
out Cancelling = 1
out (Broken fault) = 1

at_most_one : (s : LineStage) → out s ≤ 1
at_most_one Idle = omega arith
at_most_one (Sending begun) = omega arith
at_most_one Reading = omega arith
at_most_one Cancelling = omega arith
at_most_one (Broken fault) = omega arith

few_reads : {T : Type 0} (n : ℕ) (h : Heard) (part : Part T) (ends : Bool) (u : Heard) (result : Result Heard ListenFault) (acts : List (Act T))
    → ((s : LineStage) (h : Heard) → attentions (history (line n s h) acts) + out s ≤ acknowledgements (history (line n s h) acts) + 1)
    → attentions (done_by (Come part) (reads (line n Reading h) part ends u result) ∷ history (reads (line n Reading h) part ends u result).line acts) + out Reading ≤ acknowledgements (done_by (Come part) (reads (line n Reading h) part ends u result) ∷ history (reads (line n Reading h) part ends u result).line acts) + 1
few_reads n h part ends u (Err fault) acts ih = omega (arith, (ih (Broken (cause fault)) (left_by fault u)))
few_reads n h part false u (Ok heard) acts ih = omega (arith, (ih Reading heard))
few_reads n h part true u (Ok heard) acts ih = omega (arith, (ih Idle (with_done heard Awaited)))

few_skips_to_end : {T : Type 0} (n : ℕ) (h heard : Heard) (part : Part T) (done : FinalDone) (acts : List (Act T))
    → ((s : LineStage) (h : Heard) → attentions (history (line n s h) acts) + out s ≤ acknowledgements (history (line n s h) acts) + 1)
    → attentions (done_by (Come part) (skips_to_end {T = T} (line n Cancelling h) heard done) ∷ history (skips_to_end {T = T} (line n Cancelling h) heard done).line acts) + out Cancelling ≤ acknowledgements (done_by (Come part) (skips_to_end {T = T} (line n Cancelling h) heard done) ∷ history (skips_to_end {T = T} (line n Cancelling h) heard done).line acts) + 1
few_skips_to_end n h heard part Awaited acts ih = omega (arith, (ih Cancelling (with_done heard Awaited)))
few_skips_to_end n h heard part Answered acts ih = omega (arith, (ih Cancelling (with_done heard Awaited)))
few_skips_to_end n h heard part Acknowledged acts ih = omega (arith, (ih Idle (with_done heard Awaited)))

few_skips : {T : Type 0} (n : ℕ) (h : Heard) (part : Part T) (ends : Bool) (u : Heard) (result : Result Heard ListenFault) (acts : List (Act T))
    → ((s : LineStage) (h : Heard) → attentions (history (line n s h) acts) + out s ≤ acknowledgements (history (line n s h) acts) + 1)
    → attentions (done_by (Come part) (skips {T = T} (line n Cancelling h) ends u result) ∷ history (skips {T = T} (line n Cancelling h) ends u result).line acts) + out Cancelling ≤ acknowledgements (done_by (Come part) (skips {T = T} (line n Cancelling h) ends u result) ∷ history (skips {T = T} (line n Cancelling h) ends u result).line acts) + 1
few_skips n h part ends u (Err fault) acts ih = omega (arith, (ih (Broken (cause fault)) (left_by fault u)))
few_skips n h part false u (Ok heard) acts ih = omega (arith, (ih Cancelling heard))
few_skips n h part true u (Ok heard) acts ih = few_skips_to_end n h heard part heard.done acts ih

pub few : {T : Type 0} (n : ℕ) (s : LineStage) (h : Heard) (acts : List (Act T)) → attentions (history (line n s h) acts) + out s ≤ acknowledgements (history (line n s h) acts) + 1
few n s h [] = omega (arith, at_most_one s)
few n Idle h (Mark reset ∷ acts) = omega (arith, (few n Idle (with_mark h reset) acts))
few n Idle h (Ask ∷ acts) = omega (arith, (few (suc n) (Sending false) h acts))
few n Idle h (Send last ∷ acts) = omega (arith, (few n Idle h acts))
few n Idle h (Cancel ∷ acts) = omega (arith, (few n Idle h acts))
few n Idle h (Come part ∷ acts) = omega (arith, (few n (Broken faults.AnswerInIdle) h acts))
few n Idle h (Lose ∷ acts) = omega (arith, (few n (Broken faults.Lost) h acts))
few n (Sending begun) h (Mark reset ∷ acts) = omega (arith, (few n (Sending begun) h acts))
few n (Sending begun) h (Ask ∷ acts) = omega (arith, (few n (Sending begun) h acts))
few n (Sending begun) h (Send false ∷ acts) = omega (arith, (few n (Sending true) h acts))
few n (Sending begun) h (Send true ∷ acts) = omega (arith, (few n Reading h acts))
few n (Sending false) h (Cancel ∷ acts) = omega (arith, (few n Idle h acts))
few n (Sending true) h (Cancel ∷ acts) = omega (arith, (few n Cancelling h acts))
few n (Sending begun) h (Come part ∷ acts) = omega (arith, (few n (Broken faults.AnswerInSending) h acts))
few n (Sending begun) h (Lose ∷ acts) = omega (arith, (few n (Broken faults.Lost) h acts))
few n Reading h (Mark reset ∷ acts) = omega (arith, (few n Reading h acts))
few n Reading h (Ask ∷ acts) = omega (arith, (few n Reading h acts))
few n Reading h (Send last ∷ acts) = omega (arith, (few n Reading h acts))
few n Reading h (Cancel ∷ acts) = omega (arith, (few n Cancelling h acts))
few n Reading h (Come part ∷ acts) = few_reads n h part (is_end part.close) (heard_until false h part.items) (hear_part false h part) acts (λ s h. few n s h acts)
few n Reading h (Lose ∷ acts) = omega (arith, (few n (Broken faults.Lost) h acts))
few n Cancelling h (Mark reset ∷ acts) = omega (arith, (few n Cancelling h acts))
few n Cancelling h (Ask ∷ acts) = omega (arith, (few n Cancelling h acts))
few n Cancelling h (Send last ∷ acts) = omega (arith, (few n Cancelling h acts))
few n Cancelling h (Cancel ∷ acts) = omega (arith, (few n Cancelling h acts))
few n Cancelling h (Come part ∷ acts) = few_skips n h part (is_end part.close) (heard_until true h part.items) (hear_part true h part) acts (λ s h. few n s h acts)
few n Cancelling h (Lose ∷ acts) = omega (arith, (few n (Broken faults.Lost) h acts))
few n (Broken fault) h (Mark reset ∷ acts) = omega (arith, (few n (Broken fault) h acts))
few n (Broken fault) h (Ask ∷ acts) = omega (arith, (few n (Broken fault) h acts))
few n (Broken fault) h (Send last ∷ acts) = omega (arith, (few n (Broken fault) h acts))
few n (Broken fault) h (Cancel ∷ acts) = omega (arith, (few n (Broken fault) h acts))
few n (Broken fault) h (Come part ∷ acts) = omega (arith, (few n (Broken fault) h acts))
few n (Broken fault) h (Lose ∷ acts) = omega (arith, (few n (Broken fault) h acts))

pub one_attention : {T : Type 0} (before acts : List (Act T)) → attentions (history (line_after new_line before) acts) ≤ acknowledgements (history (line_after new_line before) acts) + 1
one_attention before acts =
    let l = line_after new_line before in
    let h : attentions (history l acts) + out l.stage ≤ acknowledgements (history l acts) + 1 = few l.asked l.stage l.heard acts in
    omega (arith, h)
