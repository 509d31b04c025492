-- Where a reset is owed each request asks for it, and nothing is run before it is done.
use Rattle.std.proofs.Common.{◌≡◌, ◌∙◌, ◌⊎◌, ◌||◌, ℕ, Bool, true, false, List, [], ◌∷◌, ◌++◌, refl, sym, ap, subst, inl, inr}
use Rattle.std.specs.Prelude.{Option, Some, None, if◌then◌else◌}
use Rattle.tds_packet.specs.declared.status.Reset.{Reset}
use Rattle.tds_packet.specs.Resets.{strongest}
use Rattle.tds_client.specs.declared.fault.ClientFault.{ClientFault}
use Rattle.tds_client.specs.declared.fault.ClientFault.TheVariants as faults
use Rattle.tds_client.specs.declared.heard.Heard.{Heard}
use Rattle.tds_client.specs.Acts.{is_acknowledgement}
use Rattle.tds_service.specs.Parts.{Part}
use Rattle.tds_service.specs.Line.{Line, LineStage, Idle, Sending, Reading, Cancelling, Broken, Packet, OfRequest, Ignore, Attention, Act, Mark, Ask, Send, Cancel, Come, Lose, Turn, line_turn}
use Rattle.tds_service.specs.History.{done_by}
use Rattle.laws_conforming_server.specs.Lawful.{Session, ServerStep, Says, Ends, Breaks, AnyServer, IsLawful, IsAnswer, IsStop, UnlessAcknowledged, final_by}
use Rattle.laws_conforming_server.specs.Link as links
use Rattle.laws_conforming_server.specs.Link.{Link, Runs, Server, Asking, PacketUp, ups, Comes, HasSome, behind_act, done_here, goes, taken, takes, spoken, session_behind}
use Rattle.laws_conforming_server.specs.Starting.{owed_here, owed_by_step, owed_next, RunsAsOwed, NextAsOwed, SaidAsOwed, StartsFresh}
use Rattle.laws_conforming_server.proofs.Chains.{marks}
use Rattle.laws_conforming_server.proofs.Flow.{AreParts, IsWhole, IsIgnored, Still, Flow, FlowOn}
use Rattle.laws_conforming_server.proofs.Coming.{line, nothing_comes, read_comes, ReadsOn, ReadsOut, skip_comes, SkipsOn, SkipsOut}
use Rattle.laws_conforming_server.proofs.Taking.{keeps_takes}
use Rattle.laws_conforming_server.proofs.Keeps.{keeps_act, keeps_speaks, stays}
use Rattle.laws_conforming_server.proofs.Plans.{Planned, Does, Takes, Speaks, moves_by}
use Rattle.laws_conforming_server.proofs.Agrees.{NotBroken, sound}
use Rattle.laws_conforming_server.proofs.Lost.{Was, said_down, spoken_down, was_speaks, was_takes, with_down}

-- ---- What is due is the rest of an answer, or of what is said to an attention

abbrev pub DueAs : {V T : Type 0} → AnyServer V T → Option Reset → Session V → List (ServerStep V T) → Type 0
DueAs engine owed s due =
    ((due ≡ []) ⊎ ((acked : Bool) × IsStop s acked due)) ⊎ ((final : Bool) × IsAnswer engine.settings owed s final due)

said_answer : {V T : Type 0} (settings : V) (owed : Option Reset) (s : Session V) (final : Bool) (due : List (ServerStep V T))
    → IsAnswer settings owed s final due → SaidAsOwed settings owed s due
said_answer settings owed s final [] a = absurd a
said_answer settings None s final (Says item after ∷ due) a = tt
said_answer settings (Some reset) s final (Says item after ∷ due) a = inl a.0
said_answer settings None s final (Ends ∷ due) a = tt
said_answer settings (Some reset) s final (Ends ∷ due) a = tt
said_answer settings owed s final (Breaks ∷ due) a = absurd a

said_stop : {V T : Type 0} (settings : V) (owed : Option Reset) (s : Session V) (acked : Bool) (due : List (ServerStep V T))
    → IsStop s acked due → SaidAsOwed settings owed s due
said_stop settings owed s acked [] a = absurd a
said_stop settings None s acked (Says item after ∷ due) a = tt
said_stop settings (Some reset) s acked (Says item after ∷ due) a = inr a.0
said_stop settings None s acked (Ends ∷ due) a = tt
said_stop settings (Some reset) s acked (Ends ∷ due) a = tt
said_stop settings None s acked (Breaks ∷ due) a = tt
said_stop settings (Some reset) s acked (Breaks ∷ due) a = tt

none_said : {V : Type 0} (T : Type 0) (settings : V) (owed : Option Reset) (s : Session V) → SaidAsOwed {T = T} settings owed s []
none_said T settings None s = tt
none_said T settings (Some reset) s = tt

said : {V T : Type 0} (engine : AnyServer V T) (owed : Option Reset) (s : Session V) (due : List (ServerStep V T)) → DueAs engine owed s due → SaidAsOwed engine.settings owed s due
said {V} {T} engine owed s due (inl (inl e)) = subst (λ (d : List (ServerStep V T)). SaidAsOwed engine.settings owed s d) (sym e) (none_said T engine.settings owed s)
said engine owed s due (inl (inr (acked, a))) = said_stop engine.settings owed s acked due a
said engine owed s due (inr (final, a)) = said_answer engine.settings owed s final due a

stop_rest : {V T : Type 0} (engine : AnyServer V T) (owed : Option Reset) (s : Session V) (acked : Bool) (due : List (ServerStep V T))
    → UnlessAcknowledged acked due (IsStop s false due) → DueAs engine owed s due
stop_rest engine owed s true due a = inl (inl a)
stop_rest engine owed s false due a = inl (inr (false, a))

-- behind the next thing
due_stop : {V T : Type 0} (engine : AnyServer V T) (owed : Option Reset) (s : Session V) (acked : Bool) (step : ServerStep V T) (due : List (ServerStep V T))
    → IsStop s acked (step ∷ due) → DueAs engine (owed_by_step owed step) (session_behind s step) due
due_stop engine owed s acked (Says item after) due a = inl (inr ((acked || is_acknowledgement item.sign), a.1))
due_stop engine owed s acked Ends due a = stop_rest engine owed s acked due a
due_stop engine owed s acked Breaks due a = stop_rest engine owed s acked due a

due_answer : {V T : Type 0} (engine : AnyServer V T) (owed : Option Reset) (s : Session V) (final : Bool) (step : ServerStep V T) (due : List (ServerStep V T))
    → IsAnswer engine.settings owed s final (step ∷ due) → DueAs engine (owed_by_step owed step) (session_behind s step) due
due_answer engine owed s final (Says item after) due a = inr (final_by final item.sign, a.2)
due_answer engine owed s final Ends due a = inl (inl a.2)
due_answer engine owed s final Breaks due a = absurd a

none_more : {V T : Type 0} (step : ServerStep V T) (due : List (ServerStep V T)) → step ∷ due ≡ [] → ⊥
none_more step due e = cc

due_behind : {V T : Type 0} (engine : AnyServer V T) (owed : Option Reset) (s : Session V) (step : ServerStep V T) (due : List (ServerStep V T))
    → DueAs engine owed s (step ∷ due) → DueAs engine (owed_by_step owed step) (session_behind s step) due
due_behind engine owed s step due (inl (inl e)) = absurd (none_more step due e)
due_behind engine owed s step due (inl (inr (acked, a))) = due_stop engine owed s acked step due a
due_behind engine owed s step due (inr (final, a)) = due_answer engine owed s final step due a

abbrev pub DueOn : {V T : Type 0} → AnyServer V T → Option Reset → Link V T → Type 0
DueOn engine owed link = DueAs engine owed link.server.session link.server.due

due_spoken : {V T : Type 0} (engine : AnyServer V T) (owed : Option Reset) (link : Link V T) (due : List (ServerStep V T)) → link.server.due ≡ due → HasSome due
    → DueOn engine owed link → DueOn engine (owed_next owed due) (spoken link due)
due_spoken engine owed link [] e t d = absurd t
due_spoken {V} {T} engine owed link (step ∷ due) e t d =
    due_behind engine owed link.server.session step due (subst (λ (x : List (ServerStep V T)). DueAs engine owed link.server.session x) e d)

-- the packet that is taken
due_packet : {V T : Type 0} (engine : AnyServer V T) (lawful : IsLawful engine) (owed : Option Reset) (server : Server V T) (asking : Asking) (packet : Packet)
    → RunsAsOwed owed server packet → DueAs engine owed server.session server.due
    → DueAs engine owed (takes engine server asking packet).session (takes engine server asking packet).due
due_packet engine lawful owed server asking (OfRequest request first own false) r d = d
due_packet {V} {T} engine lawful owed server asking (OfRequest request first own true) r d =
    inr (
      false,
      subst (λ (m : Option Reset). IsAnswer engine.settings m server.session false (engine.answers request server.session (if first then own else server.reset) asking.named)) r
          (lawful.answers request server.session (if first then own else server.reset) asking.named),
    )
due_packet engine lawful owed server asking (Ignore request) r d = d
due_packet engine lawful owed server asking Attention r d = inl (inr (false, lawful.stops asking.request server.session))

due_taken : {V T : Type 0} (engine : AnyServer V T) (lawful : IsLawful engine) (owed : Option Reset) (link : Link V T) (u : List PacketUp)
    → NextAsOwed owed link.server u → DueOn engine owed link → DueOn engine owed (taken engine link u)
due_taken engine lawful owed link [] r d = d
due_taken engine lawful owed link (next ∷ others) r d = due_packet engine lawful owed link.server next.asking next.packet r d

-- ---- What is owed is what the client hasn't heard of

abbrev pub Owes : {V T : Type 0} → Option Reset → Heard → Link V T → Type 0
Owes owed h link = owed ≡ marks h.mark link.down

marks_append : {V T : Type 0} (mark : Option Reset) (xs ys : List (ServerStep V T)) → marks mark (xs ++ ys) ≡ marks (marks mark xs) ys
marks_append mark [] ys = refl
marks_append mark (x ∷ xs) ys = marks_append (owed_by_step mark x) xs ys

pub owes_still : {V T : Type 0} (owed : Option Reset) (h : Heard) (link : Link V T) → Still h link → Owes owed h link → owed ≡ h.mark
owes_still owed h link s o = o ∙ ap (marks h.mark) s.down

pub owes_spoken : {V T : Type 0} (owed : Option Reset) (h : Heard) (link : Link V T) (due : List (ServerStep V T)) → HasSome due → Owes owed h link → Owes (owed_next owed due) h (spoken link due)
owes_spoken owed h link [] t o = absurd t
owes_spoken owed h link (step ∷ due) t o = ap (λ (m : Option Reset). owed_by_step m step) o ∙ sym (marks_append h.mark link.down (step ∷ []))

pub owes_taken : {V T : Type 0} (engine : AnyServer V T) (owed : Option Reset) (h : Heard) (link : Link V T) (u : List PacketUp) → Owes owed h link → Owes owed h (taken engine link u)
owes_taken engine owed h link [] o = o
owes_taken engine owed h link (next ∷ others) o = o

abbrev pub OwesBehind : {V T : Type 0} → Option Reset → Link V T → Act T → Turn T → Type 0
OwesBehind owed link a t = owed_here owed a t.answer ≡ marks t.line.heard.mark (behind_act a link.down)

owes_read : {V T : Type 0} (engine : AnyServer V T) (owed : Option Reset) (n : ℕ) (h : Heard) (link : Link V T) (part : Part T) → Owes owed h link
    → ReadsOn engine n h link part ⊎ ReadsOut n h link part → OwesBehind owed link (Come part) (line_turn (line n Reading h) (Come part))
owes_read {V} {T} engine owed n h link part o (inl r) = subst (λ (t : Turn T). OwesBehind owed link (Come part) t) (sym r.is) (o ∙ r.owes)
owes_read {V} {T} engine owed n h link part o (inr r) =
    subst (λ (t : Turn T). OwesBehind owed link (Come part) t) (sym r.is) (o ∙ r.owes ∙ sym (ap (marks r.after.mark) r.still.still.down))

owes_skip : {V T : Type 0} (owed : Option Reset) (n : ℕ) (h : Heard) (stopped : Bool) (link : Link V T) (part : Part T) → Owes owed h link
    → SkipsOn n h stopped link part ⊎ SkipsOut n h link part → OwesBehind owed link (Come part) (line_turn (line n Cancelling h) (Come part))
owes_skip {V} {T} owed n h stopped link part o (inl r) = subst (λ (t : Turn T). OwesBehind owed link (Come part) t) (sym r.is) (o ∙ r.owes)
owes_skip {V} {T} owed n h stopped link part o (inr r) =
    subst (λ (t : Turn T). OwesBehind owed link (Come part) t) (sym r.is) (o ∙ r.owes ∙ sym (ap (marks r.after.mark) r.still.still.down))

owes_mark : {V T : Type 0} (owed : Option Reset) (h : Heard) (link : Link V T) (reset : Reset) → Still h link → Owes owed h link
    → strongest (Some reset) owed ≡ marks (strongest (Some reset) h.mark) link.down
owes_mark {V} {T} owed h link reset s o =
    ap (λ (m : Option Reset). strongest (Some reset) m) (owes_still owed h link s o) ∙ sym (ap (λ (d : List (ServerStep V T)). marks (strongest (Some reset) h.mark) d) s.down)

pub owes_act : {V T : Type 0} (engine : AnyServer V T) (owed : Option Reset) (n : ℕ) (stage : LineStage) (h : Heard) (link : Link V T) (a : Act T)
    → NotBroken stage → Flow engine n stage h link → Comes a link.down link.server.due → Owes owed h link → OwesBehind owed link a (line_turn (line n stage h) a)
owes_act engine owed n Idle h link (Mark reset) b f c o = owes_mark owed h link reset f.still o
owes_act engine owed n Idle h link Ask b f c o = o
owes_act engine owed n Idle h link (Send last) b f c o = o
owes_act engine owed n Idle h link Cancel b f c o = o
owes_act engine owed n Idle h link (Come part) b f c o = absurd (nothing_comes h link part f.still c)
owes_act engine owed n Idle h link Lose b f c o = o
owes_act engine owed n (Sending begun) h link (Mark reset) b f c o = o
owes_act engine owed n (Sending begun) h link Ask b f c o = o
owes_act engine owed n (Sending begun) h link (Send false) b f c o = o
owes_act engine owed n (Sending begun) h link (Send true) b f c o = o
owes_act engine owed n (Sending false) h link Cancel b f c o = o
owes_act engine owed n (Sending true) h link Cancel b f c o = o
owes_act engine owed n (Sending false) h link (Come part) b f c o = absurd (nothing_comes h link part f.0.still c)
owes_act engine owed n (Sending true) h link (Come part) b f c o = absurd (nothing_comes h link part f.still c)
owes_act engine owed n (Sending begun) h link Lose b f c o = o
owes_act engine owed n Reading h link (Mark reset) b f c o = o
owes_act engine owed n Reading h link Ask b f c o = o
owes_act engine owed n Reading h link (Send last) b f c o = o
owes_act engine owed n Reading h link Cancel b f c o = o
owes_act engine owed n Reading h link (Come part) b (inl f) c o = absurd (nothing_comes h link part f.still c)
owes_act engine owed n Reading h link (Come part) b (inr f) c o = owes_read engine owed n h link part o (read_comes engine n h link part f c)
owes_act engine owed n Reading h link Lose b f c o = o
owes_act engine owed n Cancelling h link (Mark reset) b f c o = o
owes_act engine owed n Cancelling h link Ask b f c o = o
owes_act engine owed n Cancelling h link (Send last) b f c o = o
owes_act engine owed n Cancelling h link Cancel b f c o = o
owes_act engine owed n Cancelling h link (Come part) b (inl f) c o = absurd (nothing_comes h link part f.still c)
owes_act engine owed n Cancelling h link (Come part) b (inr (stopped, f)) c o = owes_skip owed n h stopped link part o (skip_comes n h stopped link part f c)
owes_act engine owed n Cancelling h link Lose b f c o = o
owes_act engine owed n (Broken fault) h link a b f c o = absurd b

-- ---- A mark is set where nothing is due

due_act : {V T : Type 0} (engine : AnyServer V T) (owed : Option Reset) (n : ℕ) (stage : LineStage) (h : Heard) (link : Link V T) (a : Act T)
    → NotBroken stage → Flow engine n stage h link → DueOn engine owed link → DueOn engine (owed_here owed a (line_turn (line n stage h) a).answer) link
due_act engine owed n Idle h link (Mark reset) b f d = inl (inl f.still.due)
due_act engine owed n (Sending begun) h link (Mark reset) b f d = d
due_act engine owed n Reading h link (Mark reset) b f d = d
due_act engine owed n Cancelling h link (Mark reset) b f d = d
due_act engine owed n (Broken fault) h link (Mark reset) b f d = absurd b
due_act engine owed n stage h link Ask b f d = d
due_act engine owed n stage h link (Send last) b f d = d
due_act engine owed n stage h link Cancel b f d = d
due_act engine owed n stage h link (Come part) b f d = d
due_act engine owed n stage h link Lose b f d = d

-- ---- The packet that is taken asks for what is owed

whole_owed : {V T : Type 0} (owed : Option Reset) (n : ℕ) (h : Heard) (link : Link V T) (others packets : List Packet) → owed ≡ h.mark
    → IsWhole n h.mark others link.server.reset packets → NextAsOwed owed link.server (ups link.asking packets)
whole_owed owed n h link others [] o are = tt
whole_owed owed n h link others (OfRequest request first own false ∷ packets) o are = tt
whole_owed owed n h link others (OfRequest request first own true ∷ packets) o are = are.1 ∙ sym o
whole_owed owed n h link others (Ignore request ∷ packets) o are = tt
whole_owed owed n h link others (Attention ∷ packets) o are = tt

parts_owed : {V T : Type 0} (owed : Option Reset) (n : ℕ) (h : Heard) (link : Link V T) (packets : List Packet)
    → AreParts n h.mark link.server.reset packets → NextAsOwed owed link.server (ups link.asking packets)
parts_owed owed n h link [] are = tt
parts_owed owed n h link (OfRequest request first own false ∷ packets) are = tt
parts_owed owed n h link (OfRequest request first own true ∷ packets) are = absurd are
parts_owed owed n h link (Ignore request ∷ packets) are = tt
parts_owed owed n h link (Attention ∷ packets) are = tt

ignored_owed : {V T : Type 0} (owed : Option Reset) (link : Link V T) (packets : List Packet) → IsIgnored packets → NextAsOwed owed link.server (ups link.asking packets)
ignored_owed owed link [] are = tt
ignored_owed owed link (OfRequest request first own false ∷ packets) are = tt
ignored_owed owed link (OfRequest request first own true ∷ packets) are = absurd are
ignored_owed owed link (Ignore request ∷ packets) are = tt
ignored_owed owed link (Attention ∷ packets) are = tt

left_owed : {V T : Type 0} (owed : Option Reset) (n : ℕ) (h : Heard) (link : Link V T) (packets : List Packet) → owed ≡ h.mark
    → IsWhole n h.mark (Attention ∷ []) link.server.reset packets ⊎ IsIgnored packets → NextAsOwed owed link.server (ups link.asking packets)
left_owed owed n h link packets o (inl are) = whole_owed owed n h link (Attention ∷ []) packets o are
left_owed owed n h link packets o (inr are) = ignored_owed owed link packets are

owed_up : {V T : Type 0} (owed : Option Reset) (link : Link V T) (u : List PacketUp) → link.up ≡ u → NextAsOwed owed link.server u → NextAsOwed owed link.server link.up
owed_up owed link u e r = subst (λ (x : List PacketUp). NextAsOwed owed link.server x) (sym e) r

next_owed : {V T : Type 0} (engine : AnyServer V T) (owed : Option Reset) (n : ℕ) (stage : LineStage) (h : Heard) (link : Link V T)
    → NotBroken stage → Flow engine n stage h link → Owes owed h link → NextAsOwed owed link.server link.up
next_owed engine owed n Idle h link b f o = owed_up owed link [] f.up tt
next_owed engine owed n (Sending false) h link b f o = owed_up owed link [] f.0.up tt
next_owed engine owed n (Sending true) h link b f o = owed_up owed link (ups link.asking f.packets) f.up (parts_owed owed n h link f.packets f.are)
next_owed engine owed n Reading h link b (inl f) o = owed_up owed link (ups link.asking f.packets) f.up (whole_owed owed n h link [] f.packets (owes_still owed h link f.still o) f.are)
next_owed engine owed n Reading h link b (inr f) o = owed_up owed link [] f.up tt
next_owed engine owed n Cancelling h link b (inl f) o = owed_up owed link (ups link.asking f.packets) f.up (left_owed owed n h link f.packets (owes_still owed h link f.still o) f.are)
next_owed engine owed n Cancelling h link b (inr (true, f)) o = owed_up owed link [] f.up tt
next_owed engine owed n Cancelling h link b (inr (false, f)) o = owed_up owed link (ups link.asking (Attention ∷ [])) f.up tt
next_owed engine owed n (Broken fault) h link b f o = absurd b

-- ---- Along a run

-- behind a loss of the connection
abbrev pub Lost : {V T : Type 0} → AnyServer V T → Option Reset → ℕ → LineStage → Heard → List (ServerStep V T) → Link V T → Type 0
Lost engine owed n stage h down link = NotBroken stage × Was engine n stage h down link × Owes owed h (with_down link down) × DueOn engine owed link

owes_lost : {V T : Type 0} (engine : AnyServer V T) (owed : Option Reset) (h : Heard) (down : List (ServerStep V T)) (link : Link V T) (u : List PacketUp)
    → Owes owed h (with_down link down) → Owes owed h (with_down (taken engine link u) down)
owes_lost engine owed h down link [] o = o
owes_lost engine owed h down link (next ∷ others) o = o

owes_said : {V T : Type 0} (owed : Option Reset) (h : Heard) (down : List (ServerStep V T)) (link : Link V T) (due : List (ServerStep V T)) → HasSome due
    → Owes owed h (with_down link down) → Owes (owed_next owed due) h (with_down (spoken link due) (said_down down due))
owes_said {V} {T} owed h down link due t o =
    subst (λ (k : Link V T). Owes (owed_next owed due) h k) (sym (spoken_down link down due)) (owes_spoken owed h (with_down link down) due t o)

fresh_lost : {V T : Type 0} (engine : AnyServer V T) (lawful : IsLawful engine) (owed : Option Reset) (n : ℕ) (stage : LineStage) (h : Heard) (down : List (ServerStep V T)) (fault : ClientFault) (last : Heard) (link : Link V T) (plan : List (Planned T))
    → Lost engine owed n stage h down link → Runs engine link (moves_by (line n (Broken fault) last) plan)
    → StartsFresh engine owed link (moves_by (line n (Broken fault) last) plan)
fresh_lost engine lawful owed n stage h down fault last link [] w runs = tt
fresh_lost engine lawful owed n stage h down fault last link (Does (Mark reset) ∷ plan) w runs =
    fresh_lost engine lawful owed n stage h down fault last _ plan (w.0, stays engine n stage h (with_down link down) w.1, w.2, w.3) runs.1
fresh_lost engine lawful owed n stage h down fault last link (Does Ask ∷ plan) w runs =
    fresh_lost engine lawful owed n stage h down fault last _ plan (w.0, stays engine n stage h (with_down link down) w.1, w.2, w.3) runs.1
fresh_lost engine lawful owed n stage h down fault last link (Does (Send end) ∷ plan) w runs =
    fresh_lost engine lawful owed n stage h down fault last _ plan (w.0, stays engine n stage h (with_down link down) w.1, w.2, w.3) runs.1
fresh_lost engine lawful owed n stage h down fault last link (Does Cancel ∷ plan) w runs =
    fresh_lost engine lawful owed n stage h down fault last _ plan (w.0, stays engine n stage h (with_down link down) w.1, w.2, w.3) runs.1
fresh_lost engine lawful owed n stage h down fault last link (Does (Come part) ∷ plan) w runs =
    fresh_lost engine lawful owed n stage h down fault last _ plan (w.0, stays engine n stage h (with_down link down) w.1, w.2, w.3) runs.1
fresh_lost engine lawful owed n stage h down fault last link (Does Lose ∷ plan) w runs =
    fresh_lost engine lawful owed n stage h down fault last _ plan (w.0, stays engine n stage h (with_down link down) w.1, w.2, w.3) runs.1
fresh_lost engine lawful owed n stage h down fault last link (Takes ∷ plan) w runs =
    let r : NextAsOwed owed link.server link.up = next_owed engine owed n stage h (with_down link down) w.0 w.1 w.2 in (
      r,
      fresh_lost engine lawful owed n stage h down fault last (goes engine link links.Takes) plan
          (w.0, was_takes engine lawful n stage h down link w.1 runs.0, owes_lost engine owed h down link link.up w.2, due_taken engine lawful owed link link.up r w.3)
          runs.1,
    )
fresh_lost engine lawful owed n stage h down fault last link (Speaks ∷ plan) w runs = (
  said engine owed link.server.session link.server.due w.3,
  fresh_lost engine lawful (owed_next owed link.server.due) n stage h (said_down down link.server.due) fault last (goes engine link links.Speaks) plan (
    w.0,
    was_speaks engine n stage h down link w.1 runs.0,
    owes_said owed h down link link.server.due runs.0 w.2,
    due_spoken engine owed link link.server.due refl runs.0 w.3,
  )
      runs.1,
)

-- it is lost now
fresh_lose : {V T : Type 0} (engine : AnyServer V T) (lawful : IsLawful engine) (owed : Option Reset) (n : ℕ) (stage : LineStage) (h : Heard) (link : Link V T) (plan : List (Planned T))
    → NotBroken stage → Flow engine n stage h link → Owes owed h link → DueOn engine owed link
    → Runs engine (done_here link (done_by Lose (line_turn (line n stage h) Lose))) (moves_by (line_turn {T = T} (line n stage h) Lose).line plan)
    → StartsFresh engine owed (done_here link (done_by Lose (line_turn (line n stage h) Lose))) (moves_by (line_turn {T = T} (line n stage h) Lose).line plan)
fresh_lose engine lawful owed n Idle h link plan b f o d runs =
    fresh_lost engine lawful owed n Idle h link.down faults.Lost h _ plan (tt, stays engine n Idle h link f, o, d) runs
fresh_lose engine lawful owed n (Sending begun) h link plan b f o d runs =
    fresh_lost engine lawful owed n (Sending begun) h link.down faults.Lost h _ plan (tt, stays engine n (Sending begun) h link f, o, d) runs
fresh_lose engine lawful owed n Reading h link plan b f o d runs =
    fresh_lost engine lawful owed n Reading h link.down faults.Lost h _ plan (tt, stays engine n Reading h link f, o, d) runs
fresh_lose engine lawful owed n Cancelling h link plan b f o d runs =
    fresh_lost engine lawful owed n Cancelling h link.down faults.Lost h _ plan (tt, stays engine n Cancelling h link f, o, d) runs
fresh_lose engine lawful owed n (Broken fault) h link plan b f o d runs = absurd b

pub starts_fresh : {V T : Type 0} (engine : AnyServer V T) (lawful : IsLawful engine) (owed : Option Reset) (l : Line) (link : Link V T) (plan : List (Planned T))
    → NotBroken l.stage → FlowOn engine l link → Owes owed l.heard link → DueOn engine owed link
    → Runs engine link (moves_by l plan) → StartsFresh engine owed link (moves_by l plan)
starts_fresh engine lawful owed l link [] b f o d runs = tt
starts_fresh {V} {T} engine lawful owed l link (Does (Mark reset) ∷ plan) b f o d runs =
    starts_fresh engine lawful (owed_here {T = T} owed (Mark reset) (line_turn {T = T} l (Mark reset)).answer) (line_turn l (Mark reset)).line (goes engine link (links.Here (done_by (Mark reset) (line_turn l (Mark reset))))) plan
    (sound engine l.asked l.stage l.heard link (Mark reset) b f runs.0).2
    (keeps_act engine l.asked l.stage l.heard link (Mark reset) f runs.0)
    (owes_act engine owed l.asked l.stage l.heard link (Mark reset) b f runs.0 o)
    (due_act engine owed l.asked l.stage l.heard link (Mark reset) b f d) runs.1
starts_fresh engine lawful owed l link (Does Ask ∷ plan) b f o d runs =
    starts_fresh engine lawful owed (line_turn l Ask).line (goes engine link (links.Here (done_by Ask (line_turn l Ask)))) plan
    (sound engine l.asked l.stage l.heard link Ask b f runs.0).2
    (keeps_act engine l.asked l.stage l.heard link Ask f runs.0)
    (owes_act engine owed l.asked l.stage l.heard link Ask b f runs.0 o)
    (due_act engine owed l.asked l.stage l.heard link Ask b f d) runs.1
starts_fresh engine lawful owed l link (Does (Send last) ∷ plan) b f o d runs =
    starts_fresh engine lawful owed (line_turn l (Send last)).line (goes engine link (links.Here (done_by (Send last) (line_turn l (Send last))))) plan
    (sound engine l.asked l.stage l.heard link (Send last) b f runs.0).2
    (keeps_act engine l.asked l.stage l.heard link (Send last) f runs.0)
    (owes_act engine owed l.asked l.stage l.heard link (Send last) b f runs.0 o)
    (due_act engine owed l.asked l.stage l.heard link (Send last) b f d) runs.1
starts_fresh engine lawful owed l link (Does Cancel ∷ plan) b f o d runs =
    starts_fresh engine lawful owed (line_turn l Cancel).line (goes engine link (links.Here (done_by Cancel (line_turn l Cancel)))) plan
    (sound engine l.asked l.stage l.heard link Cancel b f runs.0).2
    (keeps_act engine l.asked l.stage l.heard link Cancel f runs.0)
    (owes_act engine owed l.asked l.stage l.heard link Cancel b f runs.0 o)
    (due_act engine owed l.asked l.stage l.heard link Cancel b f d) runs.1
starts_fresh engine lawful owed l link (Does (Come part) ∷ plan) b f o d runs =
    starts_fresh engine lawful owed (line_turn l (Come part)).line (goes engine link (links.Here (done_by (Come part) (line_turn l (Come part))))) plan
    (sound engine l.asked l.stage l.heard link (Come part) b f runs.0).2
    (keeps_act engine l.asked l.stage l.heard link (Come part) f runs.0)
    (owes_act engine owed l.asked l.stage l.heard link (Come part) b f runs.0 o)
    (due_act engine owed l.asked l.stage l.heard link (Come part) b f d) runs.1
starts_fresh engine lawful owed l link (Does Lose ∷ plan) b f o d runs = fresh_lose engine lawful owed l.asked l.stage l.heard link plan b f o d runs.1
starts_fresh engine lawful owed l link (Takes ∷ plan) b f o d runs =
    let r : NextAsOwed owed link.server link.up = next_owed engine owed l.asked l.stage l.heard link b f o in (
      r,
      starts_fresh engine lawful owed l (goes engine link links.Takes) plan b
          (keeps_takes engine lawful l.asked l.stage l.heard link f runs.0)
          (owes_taken engine owed l.heard link link.up o)
          (due_taken engine lawful owed link link.up r d) runs.1,
    )
starts_fresh engine lawful owed l link (Speaks ∷ plan) b f o d runs = (
  said engine owed link.server.session link.server.due d,
  starts_fresh engine lawful (owed_next owed link.server.due) l (goes engine link links.Speaks) plan b
      (keeps_speaks engine l.asked l.stage l.heard link f runs.0)
      (owes_spoken owed l.heard link link.server.due runs.0 o)
      (due_spoken engine owed link link.server.due refl runs.0 d) runs.1,
)
