-- A request that isn't asked yet: what it is told, once it is, is of its own answer.
use Rattle.std.proofs.Common.{◌≡◌, ◌∙◌, ◌⊎◌, ◌<◌, ◌==◌, ℕ, suc, Bool, true, false, List, [], ◌∷◌, refl, sym, ap, subst, inl, inr, arith}
use Rattle.std.specs.Prelude.{Option, Some, None, Result, Ok, Err, if◌then◌else◌}
use Rattle.std.proofs.lemmas.Bool.Decides.{nat_tests}
use Rattle.tds_packet.specs.declared.status.Reset.{Reset}
use Rattle.tds_client.specs.declared.heard.Heard.{Heard}
use Rattle.tds_client.specs.declared.heard.FinalDone.{FinalDone}
use Rattle.tds_client.specs.declared.heard.FinalDone.TheVariants.{Awaited, Answered, Acknowledged}
use Rattle.tds_listen.specs.declared.fault.ListenFault.{ListenFault}
use Rattle.tds_service.specs.Parts.{Part, hear_part, heard_until, is_end, items_told}
use Rattle.tds_service.specs.Line.{Line, LineStage, Idle, Sending, Reading, Cancelling, Broken, Packet, OfRequest, Ignore, Attention, Act, Mark, Ask, Send, Cancel, Come, Lose, Turn, reads, skips, skips_to_end, line_turn}
use Rattle.tds_service.specs.History.{done_by}
use Rattle.laws_conforming_server.specs.Lawful.{AnyServer, IsLawful}
use Rattle.laws_conforming_server.specs.Link as links
use Rattle.laws_conforming_server.specs.Link.{Link, Move, Runs, PacketUp, ups, Asking, Comes, TakesNext, done_here, goes, here, taken}
use Rattle.laws_conforming_server.specs.Answering.{answer_now, answered}
use Rattle.laws_conforming_server.proofs.Flow.{IsWhole, IsIgnored, Flow, FlowOn}
use Rattle.laws_conforming_server.proofs.Coming.{line}
use Rattle.laws_conforming_server.proofs.Taking.{keeps_takes}
use Rattle.laws_conforming_server.proofs.Keeps.{keeps_act, keeps_speaks}
use Rattle.laws_conforming_server.proofs.Plans.{Planned, Does, Takes, Speaks, moves_by}
use Rattle.laws_conforming_server.proofs.Past.{Untold, past, own_silent, own_untold, to_other, above}
use Rattle.laws_conforming_server.proofs.Own.{OwnOf, ds_by, none_in_parts, none_told, own_now, own_waits}

-- ---- No packet that is on its way is its last one

not_chosen : {A : Type 0} (request n r : ℕ) (x : A) → request ≡ n → n < r → (if request == r then Some x else None) ≡ None
not_chosen {A} request n r x e p = ap (λ (b : Bool). if b then Some x else None) (ap (λ (k : ℕ). k == r) e ∙ above n r p)

none_in_whole : {V T : Type 0} (engine : AnyServer V T) (n r : ℕ) (wanted : Option Reset) (others : List Packet) (link : Link V T) (packets : List Packet)
    → n < r → IsWhole n wanted others link.server.reset packets → answer_now engine link r (ups link.asking packets) ≡ None
none_in_whole engine n r wanted others link [] p are = refl
none_in_whole engine n r wanted others link (OfRequest request first own false ∷ packets) p are = refl
none_in_whole engine n r wanted others link (OfRequest request first own true ∷ packets) p are =
    not_chosen request n r (engine.answers request link.server.session (if first then own else link.server.reset) link.asking.named) are.0 p
none_in_whole engine n r wanted others link (Ignore request ∷ packets) p are = refl
none_in_whole engine n r wanted others link (Attention ∷ packets) p are = refl

none_in_ignored : {V T : Type 0} (engine : AnyServer V T) (r : ℕ) (link : Link V T) (packets : List Packet)
    → IsIgnored packets → answer_now engine link r (ups link.asking packets) ≡ None
none_in_ignored engine r link [] are = refl
none_in_ignored engine r link (OfRequest request first own false ∷ packets) are = refl
none_in_ignored engine r link (OfRequest request first own true ∷ packets) are = absurd are
none_in_ignored engine r link (Ignore request ∷ packets) are = refl
none_in_ignored engine r link (Attention ∷ packets) are = refl

none_in_left : {V T : Type 0} (engine : AnyServer V T) (n r : ℕ) (wanted : Option Reset) (link : Link V T) (packets : List Packet)
    → n < r → IsWhole n wanted (Attention ∷ []) link.server.reset packets ⊎ IsIgnored packets → answer_now engine link r (ups link.asking packets) ≡ None
none_in_left engine n r wanted link packets p (inl are) = none_in_whole engine n r wanted (Attention ∷ []) link packets p are
none_in_left engine n r wanted link packets p (inr are) = none_in_ignored engine r link packets are

none_up : {V T : Type 0} (engine : AnyServer V T) (r : ℕ) (link : Link V T) (u : List PacketUp) → link.up ≡ u → answer_now engine link r u ≡ None → answer_now engine link r link.up ≡ None
none_up engine r link u e n = subst (λ (x : List PacketUp). answer_now engine link r x ≡ None) (sym e) n

-- ---- Until it is asked it is told nothing

pub record Reaches (r : ℕ) (l : Line) : Type 0 where
  pub asked : l.asked ≡ r
  pub stage : l.stage ≡ Sending false

abbrev pub StillLater : {T : Type 0} → ℕ → Act T → Turn T → Type 0
StillLater r a t = Untold r (done_by a t) × ((t.line.asked < r) ⊎ Reaches r t.line)

later_reads : {T : Type 0} (n r : ℕ) (h : Heard) (part : Part T) (ends : Bool) (u : Heard) (result : Result Heard ListenFault) → n < r
    → StillLater r (Come part) (reads (line n Reading h) part ends u result)
later_reads n r h part ends u (Err fault) p = (record { told = refl; finished = refl }, inl p)
later_reads n r h part false u (Ok heard) p = (record { told = to_other n r (items_told part.items) (above n r p); finished = refl }, inl p)
later_reads n r h part true u (Ok heard) p = (record { told = to_other n r (items_told part.items) (above n r p); finished = above n r p }, inl p)

later_skips_to_end : {T : Type 0} (n r : ℕ) (h heard : Heard) (part : Part T) (done : FinalDone) → n < r
    → StillLater r (Come part) (skips_to_end (line n Cancelling h) heard done)
later_skips_to_end n r h heard part Awaited p = (record { told = refl; finished = refl }, inl p)
later_skips_to_end n r h heard part Answered p = (record { told = refl; finished = refl }, inl p)
later_skips_to_end n r h heard part Acknowledged p = (record { told = refl; finished = refl }, inl p)

later_skips : {T : Type 0} (n r : ℕ) (h : Heard) (part : Part T) (ends : Bool) (u : Heard) (result : Result Heard ListenFault) → n < r
    → StillLater r (Come part) (skips (line n Cancelling h) ends u result)
later_skips n r h part ends u (Err fault) p = (record { told = refl; finished = refl }, inl p)
later_skips n r h part false u (Ok heard) p = (record { told = refl; finished = refl }, inl p)
later_skips n r h part true u (Ok heard) p = later_skips_to_end n r h heard part heard.done p

next_is : (n r : ℕ) → n < r → (suc n < r) ⊎ (suc n ≡ r)
next_is n r p = grind (arith, nat_tests)

reached : (n r : ℕ) (h : Heard) → (suc n < r) ⊎ (suc n ≡ r) → (suc n < r) ⊎ Reaches r (line (suc n) (Sending false) h)
reached n r h (inl p) = inl p
reached n r h (inr e) = inr (record { asked = e; stage = refl })

later_step : {T : Type 0} (n r : ℕ) (stage : LineStage) (h : Heard) (a : Act T) → n < r → StillLater r a (line_turn (line n stage h) a)
later_step n r Idle h (Mark reset) p = (record { told = refl; finished = refl }, inl p)
later_step n r Idle h Ask p = (record { told = refl; finished = refl }, reached n r h (next_is n r p))
later_step n r Idle h (Send last) p = (record { told = refl; finished = refl }, inl p)
later_step n r Idle h Cancel p = (record { told = refl; finished = refl }, inl p)
later_step n r Idle h (Come part) p = (record { told = refl; finished = refl }, inl p)
later_step n r Idle h Lose p = (record { told = refl; finished = refl }, inl p)
later_step n r (Sending begun) h (Mark reset) p = (record { told = refl; finished = refl }, inl p)
later_step n r (Sending begun) h Ask p = (record { told = refl; finished = refl }, inl p)
later_step n r (Sending begun) h (Send false) p = (record { told = refl; finished = refl }, inl p)
later_step n r (Sending begun) h (Send true) p = (record { told = refl; finished = refl }, inl p)
later_step n r (Sending false) h Cancel p = (record { told = refl; finished = refl }, inl p)
later_step n r (Sending true) h Cancel p = (record { told = refl; finished = refl }, inl p)
later_step n r (Sending begun) h (Come part) p = (record { told = refl; finished = refl }, inl p)
later_step n r (Sending begun) h Lose p = (record { told = refl; finished = refl }, inl p)
later_step n r Reading h (Mark reset) p = (record { told = refl; finished = refl }, inl p)
later_step n r Reading h Ask p = (record { told = refl; finished = refl }, inl p)
later_step n r Reading h (Send last) p = (record { told = refl; finished = refl }, inl p)
later_step n r Reading h Cancel p = (record { told = refl; finished = refl }, inl p)
later_step n r Reading h (Come part) p = later_reads n r h part (is_end part.close) (heard_until false h part.items) (hear_part false h part) p
later_step n r Reading h Lose p = (record { told = refl; finished = refl }, inl p)
later_step n r Cancelling h (Mark reset) p = (record { told = refl; finished = refl }, inl p)
later_step n r Cancelling h Ask p = (record { told = refl; finished = refl }, inl p)
later_step n r Cancelling h (Send last) p = (record { told = refl; finished = refl }, inl p)
later_step n r Cancelling h Cancel p = (record { told = refl; finished = refl }, inl p)
later_step n r Cancelling h (Come part) p = later_skips n r h part (is_end part.close) (heard_until true h part.items) (hear_part true h part) p
later_step n r Cancelling h Lose p = (record { told = refl; finished = refl }, inl p)
later_step n r (Broken fault) h (Mark reset) p = (record { told = refl; finished = refl }, inl p)
later_step n r (Broken fault) h Ask p = (record { told = refl; finished = refl }, inl p)
later_step n r (Broken fault) h (Send last) p = (record { told = refl; finished = refl }, inl p)
later_step n r (Broken fault) h Cancel p = (record { told = refl; finished = refl }, inl p)
later_step n r (Broken fault) h (Come part) p = (record { told = refl; finished = refl }, inl p)
later_step n r (Broken fault) h Lose p = (record { told = refl; finished = refl }, inl p)

-- ---- It is asked

begins_stage : {V T : Type 0} (engine : AnyServer V T) (lawful : IsLawful engine) (l : Line) (link : Link V T) (plan : List (Planned T)) (stage : LineStage) → stage ≡ Sending false
    → Flow engine l.asked stage l.heard link → Runs engine link (moves_by (line l.asked stage l.heard) plan)
    → OwnOf engine l.asked (line l.asked stage l.heard) link plan
begins_stage {V} {T} engine lawful l link plan stage e =
    subst (λ (s : LineStage). Flow engine l.asked s l.heard link → Runs engine link (moves_by (line l.asked s l.heard) plan) → OwnOf engine l.asked (line l.asked s l.heard) link plan) (sym e)
    (λ f runs. own_now engine lawful l.asked (Sending false) l.heard link plan f runs)

own_begins : {V T : Type 0} (engine : AnyServer V T) (lawful : IsLawful engine) (r : ℕ) (l : Line) (link : Link V T) (plan : List (Planned T)) → Reaches r l
    → FlowOn engine l link → Runs engine link (moves_by l plan) → OwnOf engine r l link plan
own_begins {V} {T} engine lawful r l link plan e f runs =
    subst (λ (k : ℕ). OwnOf engine k l link plan) e.asked (begins_stage engine lawful l link plan l.stage e.stage f runs)

-- behind one act, by whether it is asked then
own_behind : {V T : Type 0} (engine : AnyServer V T) (lawful : IsLawful engine) (r : ℕ) (l : Line) (link : Link V T) (plan : List (Planned T))
    → (l.asked < r) ⊎ Reaches r l → FlowOn engine l link → Runs engine link (moves_by l plan)
    → (l.asked < r → OwnOf engine r l link plan) → OwnOf engine r l link plan
own_behind engine lawful r l link plan (inl p) f runs ih = ih p
own_behind engine lawful r l link plan (inr e) f runs ih = own_begins engine lawful r l link plan e f runs

pub own_later : {V T : Type 0} (engine : AnyServer V T) (lawful : IsLawful engine) (r n : ℕ) (stage : LineStage) (h : Heard) (link : Link V T) (plan : List (Planned T))
    → Flow engine n stage h link → n < r → Runs engine link (moves_by (line n stage h) plan) → OwnOf engine r (line n stage h) link plan
own_later engine lawful r n stage h link [] f p runs = own_silent r [] [] (none_told r)
own_later engine lawful r n stage h link (Does a ∷ plan) f p runs =
    let s : StillLater r a (line_turn (line n stage h) a) = later_step n r stage h a p in
    let l : Line = (line_turn (line n stage h) a).line in
    let next = done_here link (done_by a (line_turn (line n stage h) a)) in
    let g : FlowOn engine l next = keeps_act engine n stage h link a f runs.0 in
    own_untold r (done_by a (line_turn (line n stage h) a)) (ds_by l plan) (answered engine next r (moves_by l plan)) s.0
    (own_behind engine lawful r l next plan s.1 g runs.1 (λ (q : l.asked < r). own_later engine lawful r l.asked l.stage l.heard next plan g q runs.1))
own_later engine lawful r n stage h link (Speaks ∷ plan) f p runs =
    own_later engine lawful r n stage h (goes engine link links.Speaks) plan (keeps_speaks engine n stage h link f runs.0) p runs.1
own_later engine lawful r n Idle h link (Takes ∷ plan) f p runs =
    own_waits engine n r Idle h link plan (none_up engine r link [] f.up refl)
    (own_later engine lawful r n Idle h (goes engine link links.Takes) plan (keeps_takes engine lawful n Idle h link f runs.0) p runs.1)
own_later engine lawful r n (Sending false) h link (Takes ∷ plan) f p runs =
    own_waits engine n r (Sending false) h link plan (none_up engine r link [] f.0.up refl)
    (own_later engine lawful r n (Sending false) h (goes engine link links.Takes) plan (keeps_takes engine lawful n (Sending false) h link f runs.0) p runs.1)
own_later engine lawful r n (Sending true) h link (Takes ∷ plan) f p runs =
    own_waits engine n r (Sending true) h link plan (none_up engine r link (ups link.asking f.packets) f.up (none_in_parts engine n r h.mark link f.packets f.are))
    (own_later engine lawful r n (Sending true) h (goes engine link links.Takes) plan (keeps_takes engine lawful n (Sending true) h link f runs.0) p runs.1)
own_later engine lawful r n Reading h link (Takes ∷ plan) (inl f) p runs =
    own_waits engine n r Reading h link plan (none_up engine r link (ups link.asking f.packets) f.up (none_in_whole engine n r h.mark [] link f.packets p f.are))
    (own_later engine lawful r n Reading h (goes engine link links.Takes) plan (keeps_takes engine lawful n Reading h link (inl f) runs.0) p runs.1)
own_later engine lawful r n Reading h link (Takes ∷ plan) (inr f) p runs =
    own_waits engine n r Reading h link plan (none_up engine r link [] f.up refl)
    (own_later engine lawful r n Reading h (goes engine link links.Takes) plan (keeps_takes engine lawful n Reading h link (inr f) runs.0) p runs.1)
own_later engine lawful r n Cancelling h link (Takes ∷ plan) (inl f) p runs =
    own_waits engine n r Cancelling h link plan (none_up engine r link (ups link.asking f.packets) f.up (none_in_left engine n r h.mark link f.packets p f.are))
    (own_later engine lawful r n Cancelling h (goes engine link links.Takes) plan (keeps_takes engine lawful n Cancelling h link (inl f) runs.0) p runs.1)
own_later engine lawful r n Cancelling h link (Takes ∷ plan) (inr (true, f)) p runs =
    own_waits engine n r Cancelling h link plan (none_up engine r link [] f.up refl)
    (own_later engine lawful r n Cancelling h (goes engine link links.Takes) plan (keeps_takes engine lawful n Cancelling h link (inr (true, f)) runs.0) p runs.1)
own_later engine lawful r n Cancelling h link (Takes ∷ plan) (inr (false, f)) p runs =
    own_waits engine n r Cancelling h link plan (none_up engine r link (ups link.asking (Attention ∷ [])) f.up refl)
    (own_later engine lawful r n Cancelling h (goes engine link links.Takes) plan (keeps_takes engine lawful n Cancelling h link (inr (false, f)) runs.0) p runs.1)
own_later engine lawful r n (Broken fault) h link (Takes ∷ plan) f p runs =
    own_silent r (ds_by (line n (Broken fault) h) plan) _ (past r (line n (Broken fault) h) plan tt)
