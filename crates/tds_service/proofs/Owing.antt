-- Which reset is asked for, and which transaction is named.
use Rattle.std.proofs.Common.{◌≡◌, ◌∙◌, ℕ, suc, Bool, true, false, List, [], ◌∷◌, refl, sym, ap, subst}
use Rattle.std.specs.Prelude.{None, Result, Ok, Err}
use Rattle.tds_client.specs.declared.fault.ClientFault.{ClientFault}
use Rattle.tds_client.specs.declared.fault.ClientFault.TheVariants as faults
use Rattle.tds_client.specs.declared.heard.Heard.{Heard}
use Rattle.tds_listen.specs.declared.fault.ListenFault.{ListenFault}
use Rattle.tds_client.specs.declared.heard.FinalDone.{FinalDone}
use Rattle.tds_client.specs.declared.heard.FinalDone.TheVariants.{Awaited, Answered, Acknowledged}
use Rattle.tds_client.specs.Hearing.{with_done}
use Rattle.tds_service.specs.Parts.{Part, is_end, hear_part, heard_until}
use Rattle.tds_service.specs.Line.{Act, Mark, Ask, Send, Cancel, Come, Lose, LineStage, Idle, Sending, Reading, Cancelling, Broken, reads, skips, skips_to_end, cause, left_by}
use Rattle.tds_service.specs.History.{done_by, history}
use Rattle.tds_service.specs.Promises.{Known, known_by_items, AsksAsOwed, LeavesNoneOwed, NamesAsHeard}
use Rattle.tds_service.proofs.Pairing.{line, with_mark}
use Rattle.tds_service.proofs.Knowing.{known_of, by_part, part_heard}

owed_broken : {T : Type 0} (n : ℕ) (fault : ClientFault) (h : Heard) (k : Known) (acts : List (Act T)) → AsksAsOwed k (history (line n (Broken fault) h) acts)
owed_broken n fault h k [] = tt
owed_broken n fault h k (Mark reset ∷ acts) = (tt, owed_broken n fault h k acts)
owed_broken n fault h k (Ask ∷ acts) = (tt, owed_broken n fault h k acts)
owed_broken n fault h k (Send last ∷ acts) = (tt, owed_broken n fault h k acts)
owed_broken n fault h k (Cancel ∷ acts) = (tt, owed_broken n fault h k acts)
owed_broken n fault h k (Come part ∷ acts) = (tt, owed_broken n fault h (known_by_items k part.items) acts)
owed_broken n fault h k (Lose ∷ acts) = (tt, owed_broken n fault h k acts)

owed_reads : {T : Type 0} (n : ℕ) (h : Heard) (part : Part T) (ends : Bool) (u : Heard) (result : Result Heard ListenFault) (acts : List (Act T))
    → ((next : Heard) → result ≡ Ok next → known_of next ≡ known_by_items (known_of h) part.items)
    → ((s : LineStage) (h : Heard) → AsksAsOwed (known_of h) (history (line n s h) acts))
    → ((f : ClientFault) (h : Heard) (k : Known) → AsksAsOwed k (history (line n (Broken f) h) acts))
    → AsksAsOwed (known_of h) (done_by (Come part) (reads (line n Reading h) part ends u result) ∷ history (reads (line n Reading h) part ends u result).line acts)
owed_reads n h part ends u (Err fault) acts kn ih ib = (tt, ib (cause fault) (left_by fault u) (known_by_items (known_of h) part.items))
owed_reads n h part false u (Ok heard) acts kn ih ib = (tt, subst (λ (k : Known). AsksAsOwed k (history (line n Reading heard) acts)) (kn heard refl) (ih Reading heard))
owed_reads n h part true u (Ok heard) acts kn ih ib = (tt, subst (λ (k : Known). AsksAsOwed k (history (line n Idle (with_done heard Awaited)) acts)) (kn heard refl) (ih Idle (with_done heard Awaited)))

owed_skips_to_end : {T : Type 0} (n : ℕ) (h heard : Heard) (part : Part T) (done : FinalDone) (acts : List (Act T))
    → known_of heard ≡ known_by_items (known_of h) part.items
    → ((s : LineStage) (h : Heard) → AsksAsOwed (known_of h) (history (line n s h) acts))
    → ((f : ClientFault) (h : Heard) (k : Known) → AsksAsOwed k (history (line n (Broken f) h) acts))
    → AsksAsOwed (known_of h) (done_by (Come part) (skips_to_end {T = T} (line n Cancelling h) heard done) ∷ history (skips_to_end {T = T} (line n Cancelling h) heard done).line acts)
owed_skips_to_end n h heard part Awaited acts kn ih ib = (tt, subst (λ (k : Known). AsksAsOwed k (history (line n Cancelling (with_done heard Awaited)) acts)) (kn) (ih Cancelling (with_done heard Awaited)))
owed_skips_to_end n h heard part Answered acts kn ih ib = (tt, subst (λ (k : Known). AsksAsOwed k (history (line n Cancelling (with_done heard Awaited)) acts)) (kn) (ih Cancelling (with_done heard Awaited)))
owed_skips_to_end n h heard part Acknowledged acts kn ih ib = (tt, subst (λ (k : Known). AsksAsOwed k (history (line n Idle (with_done heard Awaited)) acts)) (kn) (ih Idle (with_done heard Awaited)))

owed_skips : {T : Type 0} (n : ℕ) (h : Heard) (part : Part T) (ends : Bool) (u : Heard) (result : Result Heard ListenFault) (acts : List (Act T))
    → ((next : Heard) → result ≡ Ok next → known_of next ≡ known_by_items (known_of h) part.items)
    → ((s : LineStage) (h : Heard) → AsksAsOwed (known_of h) (history (line n s h) acts))
    → ((f : ClientFault) (h : Heard) (k : Known) → AsksAsOwed k (history (line n (Broken f) h) acts))
    → AsksAsOwed (known_of h) (done_by (Come part) (skips {T = T} (line n Cancelling h) ends u result) ∷ history (skips {T = T} (line n Cancelling h) ends u result).line acts)
owed_skips n h part ends u (Err fault) acts kn ih ib = (tt, ib (cause fault) (left_by fault u) (known_by_items (known_of h) part.items))
owed_skips n h part false u (Ok heard) acts kn ih ib = (tt, subst (λ (k : Known). AsksAsOwed k (history (line n Cancelling heard) acts)) (kn heard refl) (ih Cancelling heard))
owed_skips n h part true u (Ok heard) acts kn ih ib = owed_skips_to_end n h heard part heard.done acts (kn heard refl) ih ib

pub owed : {T : Type 0} (n : ℕ) (s : LineStage) (h : Heard) (acts : List (Act T)) → AsksAsOwed (known_of h) (history (line n s h) acts)
owed n s h [] = tt
owed n Idle h (Mark reset ∷ acts) = (tt, owed n Idle (with_mark h reset) acts)
owed n Idle h (Ask ∷ acts) = (tt, owed (suc n) (Sending false) h acts)
owed n Idle h (Send last ∷ acts) = (tt, owed n Idle h acts)
owed n Idle h (Cancel ∷ acts) = (tt, owed n Idle h acts)
owed n Idle h (Come part ∷ acts) = (tt, owed_broken n faults.AnswerInIdle h (known_by_items (known_of h) part.items) acts)
owed n Idle h (Lose ∷ acts) = (tt, owed_broken n faults.Lost h (known_of h) acts)
owed n (Sending begun) h (Mark reset ∷ acts) = (tt, owed n (Sending begun) h acts)
owed n (Sending begun) h (Ask ∷ acts) = (tt, owed n (Sending begun) h acts)
owed n (Sending false) h (Send false ∷ acts) = ((refl, tt), owed n (Sending true) h acts)
owed n (Sending false) h (Send true ∷ acts) = ((refl, tt), owed n Reading h acts)
owed n (Sending true) h (Send false ∷ acts) = ((refl, tt), owed n (Sending true) h acts)
owed n (Sending true) h (Send true ∷ acts) = ((refl, tt), owed n Reading h acts)
owed n (Sending false) h (Cancel ∷ acts) = (tt, owed n Idle h acts)
owed n (Sending true) h (Cancel ∷ acts) = (tt, owed n Cancelling h acts)
owed n (Sending begun) h (Come part ∷ acts) = (tt, owed_broken n faults.AnswerInSending h (known_by_items (known_of h) part.items) acts)
owed n (Sending begun) h (Lose ∷ acts) = (tt, owed_broken n faults.Lost h (known_of h) acts)
owed n Reading h (Mark reset ∷ acts) = (tt, owed n Reading h acts)
owed n Reading h (Ask ∷ acts) = (tt, owed n Reading h acts)
owed n Reading h (Send last ∷ acts) = (tt, owed n Reading h acts)
owed n Reading h (Cancel ∷ acts) = (tt, owed n Cancelling h acts)
owed n Reading h (Come part ∷ acts) = owed_reads n h part (is_end part.close) (heard_until false h part.items) (hear_part false h part) acts (λ next. by_part false h next part) (λ s h. owed n s h acts) (λ f h k. owed_broken n f h k acts)
owed n Reading h (Lose ∷ acts) = (tt, owed_broken n faults.Lost h (known_of h) acts)
owed n Cancelling h (Mark reset ∷ acts) = (tt, owed n Cancelling h acts)
owed n Cancelling h (Ask ∷ acts) = (tt, owed n Cancelling h acts)
owed n Cancelling h (Send last ∷ acts) = (tt, owed n Cancelling h acts)
owed n Cancelling h (Cancel ∷ acts) = (tt, owed n Cancelling h acts)
owed n Cancelling h (Come part ∷ acts) = owed_skips n h part (is_end part.close) (heard_until true h part.items) (hear_part true h part) acts (λ next. by_part true h next part) (λ s h. owed n s h acts) (λ f h k. owed_broken n f h k acts)
owed n Cancelling h (Lose ∷ acts) = (tt, owed_broken n faults.Lost h (known_of h) acts)
owed n (Broken fault) h acts = owed_broken n fault h (known_of h) acts

naming_broken : {T : Type 0} (n : ℕ) (fault : ClientFault) (h : Heard) (k : Known) (acts : List (Act T)) → NamesAsHeard k (history (line n (Broken fault) h) acts)
naming_broken n fault h k [] = tt
naming_broken n fault h k (Mark reset ∷ acts) = (tt, naming_broken n fault h k acts)
naming_broken n fault h k (Ask ∷ acts) = (tt, naming_broken n fault h k acts)
naming_broken n fault h k (Send last ∷ acts) = (tt, naming_broken n fault h k acts)
naming_broken n fault h k (Cancel ∷ acts) = (tt, naming_broken n fault h k acts)
naming_broken n fault h k (Come part ∷ acts) = (tt, naming_broken n fault h (known_by_items k part.items) acts)
naming_broken n fault h k (Lose ∷ acts) = (tt, naming_broken n fault h k acts)

naming_reads : {T : Type 0} (n : ℕ) (h : Heard) (part : Part T) (ends : Bool) (u : Heard) (result : Result Heard ListenFault) (acts : List (Act T))
    → ((next : Heard) → result ≡ Ok next → known_of next ≡ known_by_items (known_of h) part.items)
    → ((s : LineStage) (h : Heard) → NamesAsHeard (known_of h) (history (line n s h) acts))
    → ((f : ClientFault) (h : Heard) (k : Known) → NamesAsHeard k (history (line n (Broken f) h) acts))
    → NamesAsHeard (known_of h) (done_by (Come part) (reads (line n Reading h) part ends u result) ∷ history (reads (line n Reading h) part ends u result).line acts)
naming_reads n h part ends u (Err fault) acts kn ih ib = (tt, ib (cause fault) (left_by fault u) (known_by_items (known_of h) part.items))
naming_reads n h part false u (Ok heard) acts kn ih ib = (tt, subst (λ (k : Known). NamesAsHeard k (history (line n Reading heard) acts)) (kn heard refl) (ih Reading heard))
naming_reads n h part true u (Ok heard) acts kn ih ib = (tt, subst (λ (k : Known). NamesAsHeard k (history (line n Idle (with_done heard Awaited)) acts)) (kn heard refl) (ih Idle (with_done heard Awaited)))

naming_skips_to_end : {T : Type 0} (n : ℕ) (h heard : Heard) (part : Part T) (done : FinalDone) (acts : List (Act T))
    → known_of heard ≡ known_by_items (known_of h) part.items
    → ((s : LineStage) (h : Heard) → NamesAsHeard (known_of h) (history (line n s h) acts))
    → ((f : ClientFault) (h : Heard) (k : Known) → NamesAsHeard k (history (line n (Broken f) h) acts))
    → NamesAsHeard (known_of h) (done_by (Come part) (skips_to_end {T = T} (line n Cancelling h) heard done) ∷ history (skips_to_end {T = T} (line n Cancelling h) heard done).line acts)
naming_skips_to_end n h heard part Awaited acts kn ih ib = (tt, subst (λ (k : Known). NamesAsHeard k (history (line n Cancelling (with_done heard Awaited)) acts)) (kn) (ih Cancelling (with_done heard Awaited)))
naming_skips_to_end n h heard part Answered acts kn ih ib = (tt, subst (λ (k : Known). NamesAsHeard k (history (line n Cancelling (with_done heard Awaited)) acts)) (kn) (ih Cancelling (with_done heard Awaited)))
naming_skips_to_end n h heard part Acknowledged acts kn ih ib = (tt, subst (λ (k : Known). NamesAsHeard k (history (line n Idle (with_done heard Awaited)) acts)) (kn) (ih Idle (with_done heard Awaited)))

naming_skips : {T : Type 0} (n : ℕ) (h : Heard) (part : Part T) (ends : Bool) (u : Heard) (result : Result Heard ListenFault) (acts : List (Act T))
    → ((next : Heard) → result ≡ Ok next → known_of next ≡ known_by_items (known_of h) part.items)
    → ((s : LineStage) (h : Heard) → NamesAsHeard (known_of h) (history (line n s h) acts))
    → ((f : ClientFault) (h : Heard) (k : Known) → NamesAsHeard k (history (line n (Broken f) h) acts))
    → NamesAsHeard (known_of h) (done_by (Come part) (skips {T = T} (line n Cancelling h) ends u result) ∷ history (skips {T = T} (line n Cancelling h) ends u result).line acts)
naming_skips n h part ends u (Err fault) acts kn ih ib = (tt, ib (cause fault) (left_by fault u) (known_by_items (known_of h) part.items))
naming_skips n h part false u (Ok heard) acts kn ih ib = (tt, subst (λ (k : Known). NamesAsHeard k (history (line n Cancelling heard) acts)) (kn heard refl) (ih Cancelling heard))
naming_skips n h part true u (Ok heard) acts kn ih ib = naming_skips_to_end n h heard part heard.done acts (kn heard refl) ih ib

pub naming : {T : Type 0} (n : ℕ) (s : LineStage) (h : Heard) (acts : List (Act T)) → NamesAsHeard (known_of h) (history (line n s h) acts)
naming n s h [] = tt
naming n Idle h (Mark reset ∷ acts) = (tt, naming n Idle (with_mark h reset) acts)
naming n Idle h (Ask ∷ acts) = (refl, naming (suc n) (Sending false) h acts)
naming n Idle h (Send last ∷ acts) = (tt, naming n Idle h acts)
naming n Idle h (Cancel ∷ acts) = (tt, naming n Idle h acts)
naming n Idle h (Come part ∷ acts) = (tt, naming_broken n faults.AnswerInIdle h (known_by_items (known_of h) part.items) acts)
naming n Idle h (Lose ∷ acts) = (tt, naming_broken n faults.Lost h (known_of h) acts)
naming n (Sending begun) h (Mark reset ∷ acts) = (tt, naming n (Sending begun) h acts)
naming n (Sending begun) h (Ask ∷ acts) = (tt, naming n (Sending begun) h acts)
naming n (Sending false) h (Send false ∷ acts) = (tt, naming n (Sending true) h acts)
naming n (Sending false) h (Send true ∷ acts) = (tt, naming n Reading h acts)
naming n (Sending true) h (Send false ∷ acts) = (tt, naming n (Sending true) h acts)
naming n (Sending true) h (Send true ∷ acts) = (tt, naming n Reading h acts)
naming n (Sending false) h (Cancel ∷ acts) = (tt, naming n Idle h acts)
naming n (Sending true) h (Cancel ∷ acts) = (tt, naming n Cancelling h acts)
naming n (Sending begun) h (Come part ∷ acts) = (tt, naming_broken n faults.AnswerInSending h (known_by_items (known_of h) part.items) acts)
naming n (Sending begun) h (Lose ∷ acts) = (tt, naming_broken n faults.Lost h (known_of h) acts)
naming n Reading h (Mark reset ∷ acts) = (tt, naming n Reading h acts)
naming n Reading h (Ask ∷ acts) = (tt, naming n Reading h acts)
naming n Reading h (Send last ∷ acts) = (tt, naming n Reading h acts)
naming n Reading h (Cancel ∷ acts) = (tt, naming n Cancelling h acts)
naming n Reading h (Come part ∷ acts) = naming_reads n h part (is_end part.close) (heard_until false h part.items) (hear_part false h part) acts (λ next. by_part false h next part) (λ s h. naming n s h acts) (λ f h k. naming_broken n f h k acts)
naming n Reading h (Lose ∷ acts) = (tt, naming_broken n faults.Lost h (known_of h) acts)
naming n Cancelling h (Mark reset ∷ acts) = (tt, naming n Cancelling h acts)
naming n Cancelling h (Ask ∷ acts) = (tt, naming n Cancelling h acts)
naming n Cancelling h (Send last ∷ acts) = (tt, naming n Cancelling h acts)
naming n Cancelling h (Cancel ∷ acts) = (tt, naming n Cancelling h acts)
naming n Cancelling h (Come part ∷ acts) = naming_skips n h part (is_end part.close) (heard_until true h part.items) (hear_part true h part) acts (λ next. by_part true h next part) (λ s h. naming n s h acts) (λ f h k. naming_broken n f h k acts)
naming n Cancelling h (Lose ∷ acts) = (tt, naming_broken n faults.Lost h (known_of h) acts)
naming n (Broken fault) h acts = naming_broken n fault h (known_of h) acts

paid_broken : {T : Type 0} (n : ℕ) (fault : ClientFault) (h : Heard) (k : Known) (acts : List (Act T)) → LeavesNoneOwed k (history (line n (Broken fault) h) acts)
paid_broken n fault h k [] = tt
paid_broken n fault h k (Mark reset ∷ acts) = (tt, paid_broken n fault h k acts)
paid_broken n fault h k (Ask ∷ acts) = (tt, paid_broken n fault h k acts)
paid_broken n fault h k (Send last ∷ acts) = (tt, paid_broken n fault h k acts)
paid_broken n fault h k (Cancel ∷ acts) = (tt, paid_broken n fault h k acts)
paid_broken n fault h k (Come part ∷ acts) = (tt, paid_broken n fault h (known_by_items k part.items) acts)
paid_broken n fault h k (Lose ∷ acts) = (tt, paid_broken n fault h k acts)

paid_reads : {T : Type 0} (n : ℕ) (h : Heard) (part : Part T) (ends : Bool) (u : Heard) (result : Result Heard ListenFault) (acts : List (Act T))
    → ((next : Heard) → result ≡ Ok next → known_of next ≡ known_by_items (known_of h) part.items)
    → ((next : Heard) → result ≡ Ok next → ends ≡ true → next.mark ≡ None)
    → ((s : LineStage) (h : Heard) → LeavesNoneOwed (known_of h) (history (line n s h) acts))
    → ((f : ClientFault) (h : Heard) (k : Known) → LeavesNoneOwed k (history (line n (Broken f) h) acts))
    → LeavesNoneOwed (known_of h) (done_by (Come part) (reads (line n Reading h) part ends u result) ∷ history (reads (line n Reading h) part ends u result).line acts)
paid_reads n h part ends u (Err fault) acts kn pays ih ib = (tt, ib (cause fault) (left_by fault u) (known_by_items (known_of h) part.items))
paid_reads n h part false u (Ok heard) acts kn pays ih ib = (tt, subst (λ (k : Known). LeavesNoneOwed k (history (line n Reading heard) acts)) (kn heard refl) (ih Reading heard))
paid_reads n h part true u (Ok heard) acts kn pays ih ib = (sym (ap (λ (k : Known). k.owed) (kn heard refl)) ∙ pays heard refl refl, subst (λ (k : Known). LeavesNoneOwed k (history (line n Idle (with_done heard Awaited)) acts)) (kn heard refl) (ih Idle (with_done heard Awaited)))

paid_skips_to_end : {T : Type 0} (n : ℕ) (h heard : Heard) (part : Part T) (done : FinalDone) (acts : List (Act T))
    → known_of heard ≡ known_by_items (known_of h) part.items
    → ((s : LineStage) (h : Heard) → LeavesNoneOwed (known_of h) (history (line n s h) acts))
    → ((f : ClientFault) (h : Heard) (k : Known) → LeavesNoneOwed k (history (line n (Broken f) h) acts))
    → LeavesNoneOwed (known_of h) (done_by (Come part) (skips_to_end {T = T} (line n Cancelling h) heard done) ∷ history (skips_to_end {T = T} (line n Cancelling h) heard done).line acts)
paid_skips_to_end n h heard part Awaited acts kn ih ib = (tt, subst (λ (k : Known). LeavesNoneOwed k (history (line n Cancelling (with_done heard Awaited)) acts)) (kn) (ih Cancelling (with_done heard Awaited)))
paid_skips_to_end n h heard part Answered acts kn ih ib = (tt, subst (λ (k : Known). LeavesNoneOwed k (history (line n Cancelling (with_done heard Awaited)) acts)) (kn) (ih Cancelling (with_done heard Awaited)))
paid_skips_to_end n h heard part Acknowledged acts kn ih ib = (tt, subst (λ (k : Known). LeavesNoneOwed k (history (line n Idle (with_done heard Awaited)) acts)) (kn) (ih Idle (with_done heard Awaited)))

paid_skips : {T : Type 0} (n : ℕ) (h : Heard) (part : Part T) (ends : Bool) (u : Heard) (result : Result Heard ListenFault) (acts : List (Act T))
    → ((next : Heard) → result ≡ Ok next → known_of next ≡ known_by_items (known_of h) part.items)
    → ((s : LineStage) (h : Heard) → LeavesNoneOwed (known_of h) (history (line n s h) acts))
    → ((f : ClientFault) (h : Heard) (k : Known) → LeavesNoneOwed k (history (line n (Broken f) h) acts))
    → LeavesNoneOwed (known_of h) (done_by (Come part) (skips {T = T} (line n Cancelling h) ends u result) ∷ history (skips {T = T} (line n Cancelling h) ends u result).line acts)
paid_skips n h part ends u (Err fault) acts kn ih ib = (tt, ib (cause fault) (left_by fault u) (known_by_items (known_of h) part.items))
paid_skips n h part false u (Ok heard) acts kn ih ib = (tt, subst (λ (k : Known). LeavesNoneOwed k (history (line n Cancelling heard) acts)) (kn heard refl) (ih Cancelling heard))
paid_skips n h part true u (Ok heard) acts kn ih ib = paid_skips_to_end n h heard part heard.done acts (kn heard refl) ih ib

pub paid : {T : Type 0} (n : ℕ) (s : LineStage) (h : Heard) (acts : List (Act T)) → LeavesNoneOwed (known_of h) (history (line n s h) acts)
paid n s h [] = tt
paid n Idle h (Mark reset ∷ acts) = (tt, paid n Idle (with_mark h reset) acts)
paid n Idle h (Ask ∷ acts) = (tt, paid (suc n) (Sending false) h acts)
paid n Idle h (Send last ∷ acts) = (tt, paid n Idle h acts)
paid n Idle h (Cancel ∷ acts) = (tt, paid n Idle h acts)
paid n Idle h (Come part ∷ acts) = (tt, paid_broken n faults.AnswerInIdle h (known_by_items (known_of h) part.items) acts)
paid n Idle h (Lose ∷ acts) = (tt, paid_broken n faults.Lost h (known_of h) acts)
paid n (Sending begun) h (Mark reset ∷ acts) = (tt, paid n (Sending begun) h acts)
paid n (Sending begun) h (Ask ∷ acts) = (tt, paid n (Sending begun) h acts)
paid n (Sending false) h (Send false ∷ acts) = (tt, paid n (Sending true) h acts)
paid n (Sending false) h (Send true ∷ acts) = (tt, paid n Reading h acts)
paid n (Sending true) h (Send false ∷ acts) = (tt, paid n (Sending true) h acts)
paid n (Sending true) h (Send true ∷ acts) = (tt, paid n Reading h acts)
paid n (Sending false) h (Cancel ∷ acts) = (tt, paid n Idle h acts)
paid n (Sending true) h (Cancel ∷ acts) = (tt, paid n Cancelling h acts)
paid n (Sending begun) h (Come part ∷ acts) = (tt, paid_broken n faults.AnswerInSending h (known_by_items (known_of h) part.items) acts)
paid n (Sending begun) h (Lose ∷ acts) = (tt, paid_broken n faults.Lost h (known_of h) acts)
paid n Reading h (Mark reset ∷ acts) = (tt, paid n Reading h acts)
paid n Reading h (Ask ∷ acts) = (tt, paid n Reading h acts)
paid n Reading h (Send last ∷ acts) = (tt, paid n Reading h acts)
paid n Reading h (Cancel ∷ acts) = (tt, paid n Cancelling h acts)
paid n Reading h (Come part ∷ acts) = paid_reads n h part (is_end part.close) (heard_until false h part.items) (hear_part false h part) acts (λ next. by_part false h next part) (λ next e ends. (part_heard false h next part e).paid ends refl) (λ s h. paid n s h acts) (λ f h k. paid_broken n f h k acts)
paid n Reading h (Lose ∷ acts) = (tt, paid_broken n faults.Lost h (known_of h) acts)
paid n Cancelling h (Mark reset ∷ acts) = (tt, paid n Cancelling h acts)
paid n Cancelling h (Ask ∷ acts) = (tt, paid n Cancelling h acts)
paid n Cancelling h (Send last ∷ acts) = (tt, paid n Cancelling h acts)
paid n Cancelling h (Cancel ∷ acts) = (tt, paid n Cancelling h acts)
paid n Cancelling h (Come part ∷ acts) = paid_skips n h part (is_end part.close) (heard_until true h part.items) (hear_part true h part) acts (λ next. by_part true h next part) (λ s h. paid n s h acts) (λ f h k. paid_broken n f h k acts)
paid n Cancelling h (Lose ∷ acts) = (tt, paid_broken n faults.Lost h (known_of h) acts)
paid n (Broken fault) h acts = paid_broken n fault h (known_of h) acts
