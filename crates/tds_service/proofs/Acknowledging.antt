-- A cancel is over by its acknowledgement alone.
use Rattle.std.proofs.Common.{◌≡◌, ◌∙◌, ◌||◌, ℕ, suc, Bool, true, false, List, [], ◌∷◌, refl, sym, ap}
use Rattle.std.specs.Prelude.{Result, Ok, Err, if◌then◌else◌}
use Rattle.tds_client.specs.declared.fault.ClientFault.{ClientFault}
use Rattle.tds_client.specs.declared.fault.ClientFault.TheVariants as faults
use Rattle.tds_client.specs.declared.heard.Heard.{Heard}
use Rattle.tds_listen.specs.declared.fault.ListenFault.{ListenFault}
use Rattle.tds_client.specs.declared.heard.FinalDone.{FinalDone}
use Rattle.tds_client.specs.declared.heard.FinalDone.TheVariants.{Awaited, Answered, Acknowledged}
use Rattle.tds_client.specs.declared.sign.Rules.TheVariants.{Any}
use Rattle.tds_client.specs.Acts.{is_acknowledgement}
use Rattle.tds_client.specs.Hearing.{with_done, hear_sign}
use Rattle.tds_client.proofs.Acknowledged.{is_acknowledging, by_sign}
use Rattle.tds_service.specs.Parts.{Item, Part, is_end, hear_part, hear_items, heard_until}
use Rattle.tds_service.specs.Line.{Act, Mark, Ask, Send, Cancel, Come, Lose, LineStage, Idle, Sending, Reading, Cancelling, Broken, reads, skips, skips_to_end, cause, left_by}
use Rattle.tds_service.specs.History.{history}
use Rattle.tds_service.specs.Acknowledging.{has_ack, Settles, SettlesRight, out_by}
use Rattle.tds_service.proofs.Pairing.{line, with_mark}
use Rattle.tds_service.proofs.Knowing.{ok_is, between, part_heard}

or_false : (b : Bool) → (b || false) ≡ b
or_false true = refl
or_false false = refl

or_assoc : (a b c : Bool) → ((a || b) || c) ≡ (a || (b || c))
or_assoc true b c = refl
or_assoc false b c = refl

by_items : {T : Type 0} (cancelling : Bool) (h next : Heard) (items : List (Item T)) → hear_items cancelling h items ≡ Ok next
    → is_acknowledging next.done ≡ (is_acknowledging h.done || has_ack items)
by_items cancelling h next [] e = ap (λ (x : Heard). is_acknowledging x.done) (ok_is _ next e) ∙ sym (or_false (is_acknowledging h.done))
by_items cancelling h next (item ∷ items) e =
    let b = between (hear_sign Any cancelling h item.sign) (λ next. hear_items cancelling next items) next e in
    by_items cancelling b.middle next items b.second
    ∙ (ap (λ (x : Bool). x || has_ack items) (by_sign h b.middle Any cancelling item.sign b.first)
    ∙ or_assoc (is_acknowledging h.done) (is_acknowledgement item.sign) (has_ack items))

by_part : {T : Type 0} (cancelling : Bool) (h next : Heard) (part : Part T) → hear_part cancelling h part ≡ Ok next
    → is_acknowledging next.done ≡ (is_acknowledging h.done || has_ack part.items)
by_part cancelling h next part e = by_items cancelling h next part.items (part_heard cancelling h next part e).items

-- ---- Along a history

abbrev pub attending : LineStage → Bool
attending Idle = false
attending (Sending begun) = false
attending Reading = false
attending Cancelling = true
attending (Broken fault) = false

settles_broken : {T : Type 0} (n : ℕ) (fault : ClientFault) (h : Heard) (out seen : Bool) (acts : List (Act T)) → SettlesRight out seen (history (line n (Broken fault) h) acts)
settles_broken n fault h out seen [] = tt
settles_broken n fault h out seen (Mark reset ∷ acts) = (tt, settles_broken n fault h out seen acts)
settles_broken n fault h out seen (Ask ∷ acts) = (tt, settles_broken n fault h out seen acts)
settles_broken n fault h out seen (Send last ∷ acts) = (tt, settles_broken n fault h out seen acts)
settles_broken n fault h out seen (Cancel ∷ acts) = (tt, settles_broken n fault h out seen acts)
settles_broken n fault h out seen (Come part ∷ acts) = (tt, settles_broken n fault h out (if (is_end part.close) then false else (seen || has_ack part.items)) acts)
settles_broken n fault h out seen (Lose ∷ acts) = (tt, settles_broken n fault h out seen acts)

settles_reads : {T : Type 0} (n : ℕ) (h : Heard) (seen : Bool) (part : Part T) (ends : Bool) (u : Heard) (result : Result Heard ListenFault) (acts : List (Act T))
    → ((next : Heard) → result ≡ Ok next → is_acknowledging next.done ≡ (seen || has_ack part.items))
    → ((s : LineStage) (h : Heard) (seen : Bool) → is_acknowledging h.done ≡ seen → SettlesRight (attending s) seen (history (line n s h) acts))
    → ((f : ClientFault) (h : Heard) (out seen : Bool) → SettlesRight out seen (history (line n (Broken f) h) acts))
    → Settles (attending Reading) ends (seen || has_ack part.items) (reads (line n Reading h) part ends u result).answer × SettlesRight (out_by (attending Reading) (reads (line n Reading h) part ends u result).answer) (if ends then false else (seen || has_ack part.items)) (history (reads (line n Reading h) part ends u result).line acts)
settles_reads n h seen part ends u (Err fault) acts kn ih ib = (tt, ib (cause fault) (left_by fault u) false (if ends then false else (seen || has_ack part.items)))
settles_reads n h seen part false u (Ok heard) acts kn ih ib = (refl, ih Reading heard (seen || has_ack part.items) (kn heard refl))
settles_reads n h seen part true u (Ok heard) acts kn ih ib = ((refl, refl), ih Idle (with_done heard Awaited) false refl)

settles_skips_to_end : {T : Type 0} (n : ℕ) (h heard : Heard) (seen : Bool) (part : Part T) (done : FinalDone) (acts : List (Act T))
    → is_acknowledging done ≡ (seen || has_ack part.items)
    → ((s : LineStage) (h : Heard) (seen : Bool) → is_acknowledging h.done ≡ seen → SettlesRight (attending s) seen (history (line n s h) acts))
    → ((f : ClientFault) (h : Heard) (out seen : Bool) → SettlesRight out seen (history (line n (Broken f) h) acts))
    → Settles true true (seen || has_ack part.items) (skips_to_end {T = T} (line n Cancelling h) heard done).answer × SettlesRight (out_by true (skips_to_end {T = T} (line n Cancelling h) heard done).answer) false (history (skips_to_end {T = T} (line n Cancelling h) heard done).line acts)
settles_skips_to_end n h heard seen part Awaited acts kn ih ib = (sym kn, ih Cancelling (with_done heard Awaited) false refl)
settles_skips_to_end n h heard seen part Answered acts kn ih ib = (sym kn, ih Cancelling (with_done heard Awaited) false refl)
settles_skips_to_end n h heard seen part Acknowledged acts kn ih ib = ((refl, sym kn), ih Idle (with_done heard Awaited) false refl)

settles_skips : {T : Type 0} (n : ℕ) (h : Heard) (seen : Bool) (part : Part T) (ends : Bool) (u : Heard) (result : Result Heard ListenFault) (acts : List (Act T))
    → ((next : Heard) → result ≡ Ok next → is_acknowledging next.done ≡ (seen || has_ack part.items))
    → ((s : LineStage) (h : Heard) (seen : Bool) → is_acknowledging h.done ≡ seen → SettlesRight (attending s) seen (history (line n s h) acts))
    → ((f : ClientFault) (h : Heard) (out seen : Bool) → SettlesRight out seen (history (line n (Broken f) h) acts))
    → Settles (attending Cancelling) ends (seen || has_ack part.items) (skips {T = T} (line n Cancelling h) ends u result).answer × SettlesRight (out_by (attending Cancelling) (skips {T = T} (line n Cancelling h) ends u result).answer) (if ends then false else (seen || has_ack part.items)) (history (skips {T = T} (line n Cancelling h) ends u result).line acts)
settles_skips n h seen part ends u (Err fault) acts kn ih ib = (tt, ib (cause fault) (left_by fault u) true (if ends then false else (seen || has_ack part.items)))
settles_skips n h seen part false u (Ok heard) acts kn ih ib = (refl, ih Cancelling heard (seen || has_ack part.items) (kn heard refl))
settles_skips n h seen part true u (Ok heard) acts kn ih ib = settles_skips_to_end n h heard seen part heard.done acts (kn heard refl) ih ib

pub settles : {T : Type 0} (n : ℕ) (s : LineStage) (h : Heard) (seen : Bool) (acts : List (Act T)) → is_acknowledging h.done ≡ seen → SettlesRight (attending s) seen (history (line n s h) acts)
settles n s h seen [] e = tt
settles n Idle h seen (Mark reset ∷ acts) e = (tt, settles n Idle (with_mark h reset) seen acts e)
settles n Idle h seen (Ask ∷ acts) e = (tt, settles (suc n) (Sending false) h seen acts e)
settles n Idle h seen (Send last ∷ acts) e = (tt, settles n Idle h seen acts e)
settles n Idle h seen (Cancel ∷ acts) e = (tt, settles n Idle h seen acts e)
settles n Idle h seen (Come part ∷ acts) e = (tt, settles_broken n faults.AnswerInIdle h false (if (is_end part.close) then false else (seen || has_ack part.items)) acts)
settles n Idle h seen (Lose ∷ acts) e = (tt, settles_broken n faults.Lost h false seen acts)
settles n (Sending begun) h seen (Mark reset ∷ acts) e = (tt, settles n (Sending begun) h seen acts e)
settles n (Sending begun) h seen (Ask ∷ acts) e = (tt, settles n (Sending begun) h seen acts e)
settles n (Sending begun) h seen (Send false ∷ acts) e = (tt, settles n (Sending true) h seen acts e)
settles n (Sending begun) h seen (Send true ∷ acts) e = (tt, settles n Reading h seen acts e)
settles n (Sending false) h seen (Cancel ∷ acts) e = (tt, settles n Idle h seen acts e)
settles n (Sending true) h seen (Cancel ∷ acts) e = (tt, settles n Cancelling h seen acts e)
settles n (Sending begun) h seen (Come part ∷ acts) e = (tt, settles_broken n faults.AnswerInSending h false (if (is_end part.close) then false else (seen || has_ack part.items)) acts)
settles n (Sending begun) h seen (Lose ∷ acts) e = (tt, settles_broken n faults.Lost h false seen acts)
settles n Reading h seen (Mark reset ∷ acts) e = (tt, settles n Reading h seen acts e)
settles n Reading h seen (Ask ∷ acts) e = (tt, settles n Reading h seen acts e)
settles n Reading h seen (Send last ∷ acts) e = (tt, settles n Reading h seen acts e)
settles n Reading h seen (Cancel ∷ acts) e = (tt, settles n Cancelling h seen acts e)
settles n Reading h seen (Come part ∷ acts) e = settles_reads n h seen part (is_end part.close) (heard_until false h part.items) (hear_part false h part) acts (λ next f. by_part false h next part f ∙ ap (λ (x : Bool). x || has_ack part.items) e) (λ s h seen e. settles n s h seen acts e) (λ f h out seen. settles_broken n f h out seen acts)
settles n Reading h seen (Lose ∷ acts) e = (tt, settles_broken n faults.Lost h false seen acts)
settles n Cancelling h seen (Mark reset ∷ acts) e = (tt, settles n Cancelling h seen acts e)
settles n Cancelling h seen (Ask ∷ acts) e = (tt, settles n Cancelling h seen acts e)
settles n Cancelling h seen (Send last ∷ acts) e = (tt, settles n Cancelling h seen acts e)
settles n Cancelling h seen (Cancel ∷ acts) e = (tt, settles n Cancelling h seen acts e)
settles n Cancelling h seen (Come part ∷ acts) e = settles_skips n h seen part (is_end part.close) (heard_until true h part.items) (hear_part true h part) acts (λ next f. by_part true h next part f ∙ ap (λ (x : Bool). x || has_ack part.items) e) (λ s h seen e. settles n s h seen acts e) (λ f h out seen. settles_broken n f h out seen acts)
settles n Cancelling h seen (Lose ∷ acts) e = (tt, settles_broken n faults.Lost h true seen acts)
settles n (Broken fault) h seen acts e = settles_broken n fault h false seen acts
