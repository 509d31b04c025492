-- Each delivery and each step of the server lowers what is left to do, and while the client waits there is one to make.
use Rattle.std.proofs.Common.{◌≡◌, ◌∙◌, ◌⊎◌, ◌+◌, ◌<◌, ◌≤◌, ℕ, suc, Bool, true, false, List, [], ◌∷◌, ◌++◌, length, refl, sym, ap, subst, inl, inr, arith}
use Rattle.std.specs.Prelude.{Option, max}
use Rattle.tds_packet.specs.declared.status.Reset.{Reset}
use Rattle.tds_client.specs.declared.heard.Heard.{Heard}
use Rattle.tds_service.specs.Parts as parts
use Rattle.tds_service.specs.Parts.{Item, Close, Part}
use Rattle.tds_service.specs.Line.{LineStage, Idle, Sending, Reading, Cancelling, Broken, Packet, OfRequest, Ignore, Attention, Act, Mark, Ask, Send, Cancel, Come, Lose}
use Rattle.tds_service.specs.History.{Done}
use Rattle.laws_conforming_server.specs.Lawful.{Session, ServerStep, Says, Ends, Breaks, AnyServer, IsAnswer}
use Rattle.laws_conforming_server.specs.Link as links
use Rattle.laws_conforming_server.specs.Link.{Link, Move, Server, Asking, PacketUp, ups, Comes, HasSome, IsEnd, IsNext, TakesNext, goes, session_behind, spoken, taken, takes, without, without_end}
use Rattle.laws_conforming_server.specs.Working.{left_at_attention, stopped, work_left, left_for, left_to_do, Brings, Delivers, Works, Waits, CanGo}
use Rattle.laws_conforming_server.proofs.Flow.{IsWhole, IsIgnored, Flow}
use Rattle.laws_conforming_server.proofs.Chains.{Cancels}
use Rattle.laws_conforming_server.proofs.Coming.{append_nothing}

-- ---- A thing is said

grows : (a b : ℕ) → b ≤ max a b
grows a b = omega arith

first_of : (a b : ℕ) → a ≤ max a b
first_of a b = omega arith

abbrev pub said_one : {V T : Type 0} → Server V T → ServerStep V T → List (ServerStep V T) → Server V T
said_one server step due = record { session = session_behind server.session step; reset = server.reset; due = due }

less_by : {V T : Type 0} (engine : AnyServer V T) (behind : Server V T → ℕ) (s : Session V) (reset : Option Reset) (step : ServerStep V T) (due : List (ServerStep V T)) (asking : Asking) (packet : Packet)
    → 2 + work_left engine behind (record { session = session_behind s step; reset = reset; due = due }) asking packet
    ≤ work_left engine behind (record { session = s; reset = reset; due = step ∷ due }) asking packet
less_by engine behind s reset step due asking (OfRequest request first own last) = omega arith
less_by engine behind s reset step due asking (Ignore request) = omega arith
less_by engine behind s reset step due asking Attention =
    grows (suc (behind (stopped engine asking s))) (2 + left_at_attention (λ x. behind (stopped engine asking x)) (session_behind s step) due)

less_for : {V T : Type 0} (engine : AnyServer V T) (up : List PacketUp) (s : Session V) (reset : Option Reset) (step : ServerStep V T) (due : List (ServerStep V T))
    → 2 + left_for engine up (record { session = session_behind s step; reset = reset; due = due })
    ≤ left_for engine up (record { session = s; reset = reset; due = step ∷ due })
less_for engine [] s reset step due = omega arith
less_for engine (next ∷ others) s reset step due = less_by engine (λ x. left_for engine others x) s reset step due next.asking next.packet

one_more : {A : Type 0} (xs : List A) (x : A) → length (xs ++ x ∷ []) ≡ suc (length xs)
one_more [] x = refl
one_more (y ∷ xs) x = ap suc (one_more xs x)

speaks_less : {V T : Type 0} (engine : AnyServer V T) (link : Link V T) (due : List (ServerStep V T)) → link.server.due ≡ due → HasSome due
    → left_to_do engine (spoken link due) < left_to_do engine link
speaks_less engine link [] e t = absurd t
speaks_less {V} {T} engine link (step ∷ due) e t =
    let s = link.server.session in
    let r = link.server.reset in
    let a : 2 + left_for engine link.up (record { session = session_behind s step; reset = r; due = due }) ≤ left_for engine link.up (record { session = s; reset = r; due = step ∷ due }) =
    less_for engine link.up s r step due in
    let b : left_for engine link.up link.server ≡ left_for engine link.up (record { session = s; reset = r; due = step ∷ due }) =
    ap (λ (d : List (ServerStep V T)). left_for engine link.up (record { session = s; reset = r; due = d })) e in
    let c : length (link.down ++ step ∷ []) ≡ suc (length link.down) = one_more link.down step in
    omega (arith, a, b, c)

-- ---- A packet is taken

attention_less : {V T : Type 0} (behind : Session V → ℕ) (s : Session V) (due : List (ServerStep V T)) → behind s < left_at_attention behind s due
attention_less behind s [] = omega arith
attention_less behind s (step ∷ due) =
    let a : suc (behind s) ≤ max (suc (behind s)) (2 + left_at_attention behind (session_behind s step) due) = first_of (suc (behind s)) (2 + left_at_attention behind (session_behind s step) due) in
    omega (arith, a)

takes_by : {V T : Type 0} (engine : AnyServer V T) (behind : Server V T → ℕ) (server : Server V T) (asking : Asking) (packet : Packet) (due : List (ServerStep V T))
    → server.due ≡ due → links.MayTake packet server.due → behind (takes engine server asking packet) < work_left engine behind server asking packet
takes_by {V} {T} engine behind server asking (OfRequest request first own last) due e m =
    subst (λ (d : List (ServerStep V T)). behind (takes engine (record { session = server.session; reset = server.reset; due = d }) asking (OfRequest request first own last))
    < work_left engine behind (record { session = server.session; reset = server.reset; due = d }) asking (OfRequest request first own last)) (sym m) (omega arith)
takes_by {V} {T} engine behind server asking (Ignore request) due e m =
    subst (λ (d : List (ServerStep V T)). behind (takes engine (record { session = server.session; reset = server.reset; due = d }) asking (Ignore request))
    < work_left engine behind (record { session = server.session; reset = server.reset; due = d }) asking (Ignore request)) (sym m) (omega arith)
takes_by {V} {T} engine behind server asking Attention due e m =
    subst (λ (d : List (ServerStep V T)). behind (stopped engine asking server.session) < left_at_attention (λ s. behind (stopped engine asking s)) server.session d) (sym e)
    (attention_less (λ (s : Session V). behind (stopped engine asking s)) server.session due)

takes_less : {V T : Type 0} (engine : AnyServer V T) (link : Link V T) (u : List PacketUp) → link.up ≡ u → TakesNext u link.server.due
    → left_to_do engine (taken engine link u) < left_to_do engine link
takes_less engine link [] e t = absurd t
takes_less {V} {T} engine link (next ∷ others) e t =
    let a : left_for engine others (takes engine link.server next.asking next.packet) < work_left engine (λ x. left_for engine others x) link.server next.asking next.packet =
    takes_by engine (λ x. left_for engine others x) link.server next.asking next.packet link.server.due refl t in
    let b : left_for engine link.up link.server ≡ work_left engine (λ x. left_for engine others x) link.server next.asking next.packet =
    ap (λ (u : List PacketUp). left_for engine u link.server) e in
    omega (arith, a, b)

-- ---- A part comes

end_less : {V T : Type 0} (close : Close) (down : List (ServerStep V T)) → Brings {T = T} [] close → IsEnd close down → length (without_end close down) < length down
end_less parts.Goes down b n = absurd b
end_less parts.Ends [] b n = absurd n
end_less parts.Ends (Says item after ∷ down) b n = absurd n
end_less parts.Ends (Ends ∷ down) b n = omega arith
end_less parts.Ends (Breaks ∷ down) b n = absurd n
end_less parts.Cut [] b n = absurd n
end_less parts.Cut (Says item after ∷ down) b n = absurd n
end_less parts.Cut (Ends ∷ down) b n = absurd n
end_less parts.Cut (Breaks ∷ down) b n = omega arith
end_less (parts.Fails refusal) down b n = absurd n

end_no_more : {V T : Type 0} (close : Close) (down : List (ServerStep V T)) → length (without_end close down) ≤ length down
end_no_more parts.Goes down = omega arith
end_no_more parts.Ends [] = omega arith
end_no_more parts.Ends (step ∷ down) = omega arith
end_no_more parts.Cut [] = omega arith
end_no_more parts.Cut (step ∷ down) = omega arith
end_no_more (parts.Fails refusal) [] = omega arith
end_no_more (parts.Fails refusal) (step ∷ down) = omega arith

no_more : {V T : Type 0} (items : List (Item T)) (close : Close) (down : List (ServerStep V T)) → length (without items close down) ≤ length down
no_more [] close down = end_no_more close down
no_more (item ∷ items) close [] = omega arith
no_more (item ∷ items) close (step ∷ down) = let a : length (without items close down) ≤ length down = no_more items close down in omega (arith, a)

part_less : {V T : Type 0} (items : List (Item T)) (close : Close) (down : List (ServerStep V T)) → Brings items close → IsNext items close down
    → length (without items close down) < length down
part_less [] close down b n = end_less close down b n
part_less (item ∷ items) close [] b n = absurd n
part_less (item ∷ items) close (Ends ∷ down) b n = absurd n
part_less (item ∷ items) close (Breaks ∷ down) b n = absurd n
part_less (item ∷ items) close (Says said after ∷ down) b n = let a : length (without items close down) ≤ length down = no_more items close down in omega (arith, a)

sent_nothing : {V T : Type 0} (link : Link V T) (sent : List Packet) → sent ≡ [] → link.up ++ ups link.asking sent ≡ link.up
sent_nothing link sent e = ap (λ (ps : List Packet). link.up ++ ups link.asking ps) e ∙ append_nothing link.up

comes_less : {V T : Type 0} (engine : AnyServer V T) (link : Link V T) (d : Done T) (a : Act T) → d.act ≡ a → links.Comes a link.down link.server.due → Delivers a → d.sent ≡ []
    → left_to_do engine (links.done_here link d) < left_to_do engine link
comes_less engine link d (Mark reset) e c w n = absurd w
comes_less engine link d Ask e c w n = absurd w
comes_less engine link d (Send last) e c w n = absurd w
comes_less engine link d Cancel e c w n = absurd w
comes_less engine link d Lose e c w n = absurd w
comes_less {V} {T} engine link d (Come part) e c w n =
    let a : length (without part.items part.close link.down) < length link.down = part_less part.items part.close link.down w c.1 in
    let b : left_for engine (link.up ++ ups link.asking d.sent) link.server ≡ left_for engine link.up link.server =
    ap (λ (u : List PacketUp). left_for engine u link.server) (sent_nothing link d.sent n) in
    let f : length (links.behind_act d.act link.down) ≡ length (without part.items part.close link.down) =
    ap (λ (x : Act T). length (links.behind_act x link.down)) e in
    omega (arith, a, b, f)

pub lowers : {V T : Type 0} (engine : AnyServer V T) (link : Link V T) (move : Move T) → links.May link move → Works move
    → left_to_do engine (goes engine link move) < left_to_do engine link
lowers engine link (links.Here d) m w = comes_less engine link d d.act refl m w.0 w.1
lowers engine link links.Takes m w = takes_less engine link link.up refl m
lowers engine link links.Speaks m w = speaks_less engine link link.server.due refl m

-- ---- While the client waits

whole_can : {V T : Type 0} (n : ℕ) (wanted reset : Option Reset) (others : List Packet) (asking : Asking) (due : List (ServerStep V T)) (packets : List Packet) → due ≡ []
    → IsWhole n wanted others reset packets → TakesNext (ups asking packets) due
whole_can n wanted reset others asking due [] e are = absurd are
whole_can n wanted reset others asking due (OfRequest request first own last ∷ packets) e are = e
whole_can n wanted reset others asking due (Ignore request ∷ packets) e are = e
whole_can n wanted reset others asking due (Attention ∷ packets) e are = tt

ignored_can : {V T : Type 0} (asking : Asking) (due : List (ServerStep V T)) (packets : List Packet) → due ≡ [] → IsIgnored packets → TakesNext (ups asking packets) due
ignored_can asking due [] e are = absurd are
ignored_can asking due (OfRequest request first own last ∷ packets) e are = e
ignored_can asking due (Ignore request ∷ packets) e are = e
ignored_can asking due (Attention ∷ packets) e are = tt

left_can : {V T : Type 0} (n : ℕ) (wanted reset : Option Reset) (asking : Asking) (due : List (ServerStep V T)) (packets : List Packet) → due ≡ []
    → IsWhole n wanted (Attention ∷ []) reset packets ⊎ IsIgnored packets → TakesNext (ups asking packets) due
left_can n wanted reset asking due packets e (inl are) = whole_can n wanted reset (Attention ∷ []) asking due packets e are
left_can n wanted reset asking due packets e (inr are) = ignored_can asking due packets e are

answer_some : {V T : Type 0} (settings : V) (mark : Option Reset) (s : Session V) (final : Bool) (down due : List (ServerStep V T)) → IsAnswer settings mark s final (down ++ due)
    → HasSome due ⊎ HasSome down
answer_some settings mark s final [] [] a = absurd a
answer_some settings mark s final [] (step ∷ due) a = inl tt
answer_some settings mark s final (step ∷ down) due a = inr tt

stop_some : {V T : Type 0} (mark : Option Reset) (s : Session V) (acked : Bool) (down due : List (ServerStep V T)) → Cancels true mark s acked (down ++ due)
    → HasSome due ⊎ HasSome down
stop_some mark s acked [] [] a = absurd a
stop_some mark s acked [] (step ∷ due) a = inl tt
stop_some mark s acked (step ∷ down) due a = inr tt

takes_next : {V T : Type 0} (link : Link V T) (u : List PacketUp) → link.up ≡ u → TakesNext u link.server.due → CanGo link
takes_next link u e t = inl (subst (λ (x : List PacketUp). TakesNext x link.server.due) (sym e) t)

pub can_go : {V T : Type 0} (engine : AnyServer V T) (n : ℕ) (stage : LineStage) (h : Heard) (link : Link V T) → Waits stage → Flow engine n stage h link → CanGo link
can_go engine n Idle h link w f = absurd w
can_go engine n (Sending begun) h link w f = absurd w
can_go engine n Reading h link w (inl f) =
    takes_next link (ups link.asking f.packets) f.up (whole_can n h.mark link.server.reset [] link.asking link.server.due f.packets f.still.due f.are)
can_go engine n Reading h link w (inr f) = inr (answer_some engine.settings h.mark f.session f.final link.down link.server.due f.answer)
can_go engine n Cancelling h link w (inl f) =
    takes_next link (ups link.asking f.packets) f.up (left_can n h.mark link.server.reset link.asking link.server.due f.packets f.still.due f.are)
can_go engine n Cancelling h link w (inr (true, f)) = inr (stop_some h.mark f.session _ link.down link.server.due f.cancels)
can_go engine n Cancelling h link w (inr (false, f)) = takes_next link (ups link.asking (Attention ∷ [])) f.up tt
can_go engine n (Broken fault) h link w f = absurd w
