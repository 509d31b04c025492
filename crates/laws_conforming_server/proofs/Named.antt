-- Each request runs where its header says.
use Rattle.std.proofs.Common.{◌≡◌, ◌∙◌, ◌⊎◌, ℕ, true, false, List, [], ◌∷◌, sym, ap, subst, inl, inr}
use Rattle.std.specs.Prelude.{Option}
use Rattle.tds_packet.specs.declared.status.Reset.{Reset}
use Rattle.tds_packet.specs.Resets.{header_descriptor}
use Rattle.tds_client.specs.declared.fault.ClientFault.{ClientFault}
use Rattle.tds_client.specs.declared.fault.ClientFault.TheVariants as faults
use Rattle.tds_client.specs.declared.heard.Heard.{Heard}
use Rattle.tds_service.specs.Line.{Line, LineStage, Idle, Sending, Reading, Cancelling, Broken, Packet, OfRequest, Ignore, Attention, Mark, Ask, Send, Cancel, Come, Lose, line_turn}
use Rattle.tds_service.specs.History.{done_by}
use Rattle.laws_conforming_server.specs.Lawful.{ServerStep, AnyServer, IsLawful}
use Rattle.laws_conforming_server.specs.Link as links
use Rattle.laws_conforming_server.specs.Link.{Link, Runs, PacketUp, ups, done_here, goes}
use Rattle.laws_conforming_server.specs.Agreeing.{NextInNamed, AllInNamed}
use Rattle.laws_conforming_server.proofs.Flow.{AreParts, IsWhole, IsIgnored, Still, Named, Flow, FlowOn}
use Rattle.laws_conforming_server.proofs.Coming.{line}
use Rattle.laws_conforming_server.proofs.Taking.{keeps_takes}
use Rattle.laws_conforming_server.proofs.Keeps.{keeps_act, keeps_speaks, stays}
use Rattle.laws_conforming_server.proofs.Plans.{Planned, Does, Takes, Speaks, moves_by}
use Rattle.laws_conforming_server.proofs.Agrees.{NotBroken, sound}
use Rattle.laws_conforming_server.proofs.Lost.{Was, said_down, was_speaks, was_takes, with_down}

whole_named : {V T : Type 0} (n : ℕ) (h : Heard) (link : Link V T) (others packets : List Packet) → Still h link → Named n h link
    → IsWhole n h.mark others link.server.reset packets → NextInNamed link.server (ups link.asking packets)
whole_named n h link others [] s named are = tt
whole_named n h link others (OfRequest request first own false ∷ packets) s named are = tt
whole_named n h link others (OfRequest request first own true ∷ packets) s named are = (
  named.0 ∙ sym are.0,
  named.1 ∙ ap (header_descriptor h.mark) s.transaction ∙ ap (λ (m : Option Reset). header_descriptor m link.server.session.transaction) (sym are.1),
)
whole_named n h link others (Ignore request ∷ packets) s named are = tt
whole_named n h link others (Attention ∷ packets) s named are = tt

parts_named : {V T : Type 0} (n : ℕ) (h : Heard) (link : Link V T) (packets : List Packet)
    → AreParts n h.mark link.server.reset packets → NextInNamed link.server (ups link.asking packets)
parts_named n h link [] are = tt
parts_named n h link (OfRequest request first own false ∷ packets) are = tt
parts_named n h link (OfRequest request first own true ∷ packets) are = absurd are
parts_named n h link (Ignore request ∷ packets) are = tt
parts_named n h link (Attention ∷ packets) are = tt

ignored_named : {V T : Type 0} (link : Link V T) (packets : List Packet) → IsIgnored packets → NextInNamed link.server (ups link.asking packets)
ignored_named link [] are = tt
ignored_named link (OfRequest request first own false ∷ packets) are = tt
ignored_named link (OfRequest request first own true ∷ packets) are = absurd are
ignored_named link (Ignore request ∷ packets) are = tt
ignored_named link (Attention ∷ packets) are = tt

left_named : {V T : Type 0} (n : ℕ) (h : Heard) (link : Link V T) (packets : List Packet) → Still h link → Named n h link
    → IsWhole n h.mark (Attention ∷ []) link.server.reset packets ⊎ IsIgnored packets → NextInNamed link.server (ups link.asking packets)
left_named n h link packets s named (inl are) = whole_named n h link (Attention ∷ []) packets s named are
left_named n h link packets s named (inr are) = ignored_named link packets are

named_up : {V T : Type 0} (link : Link V T) (u : List PacketUp) → link.up ≡ u → NextInNamed link.server u → NextInNamed link.server link.up
named_up link u e r = subst (λ (x : List PacketUp). NextInNamed link.server x) (sym e) r

next_named : {V T : Type 0} (engine : AnyServer V T) (n : ℕ) (stage : LineStage) (h : Heard) (link : Link V T)
    → NotBroken stage → Flow engine n stage h link → NextInNamed link.server link.up
next_named engine n Idle h link b f = named_up link [] f.up tt
next_named engine n (Sending false) h link b f = named_up link [] f.0.up tt
next_named engine n (Sending true) h link b f = named_up link (ups link.asking f.packets) f.up (parts_named n h link f.packets f.are)
next_named engine n Reading h link b (inl f) = named_up link (ups link.asking f.packets) f.up (whole_named n h link [] f.packets f.still f.named f.are)
next_named engine n Reading h link b (inr f) = named_up link [] f.up tt
next_named engine n Cancelling h link b (inl f) = named_up link (ups link.asking f.packets) f.up (left_named n h link f.packets f.still f.named f.are)
next_named engine n Cancelling h link b (inr (true, f)) = named_up link [] f.up tt
next_named engine n Cancelling h link b (inr (false, f)) = named_up link (ups link.asking (Attention ∷ [])) f.up tt
next_named engine n (Broken fault) h link b f = absurd b

-- ---- Along a run

named_lost : {V T : Type 0} (engine : AnyServer V T) (lawful : IsLawful engine) (n : ℕ) (stage : LineStage) (h : Heard) (down : List (ServerStep V T)) (fault : ClientFault) (last : Heard) (link : Link V T) (plan : List (Planned T))
    → NotBroken stage → Was engine n stage h down link → Runs engine link (moves_by (line n (Broken fault) last) plan)
    → AllInNamed engine link (moves_by (line n (Broken fault) last) plan)
named_lost engine lawful n stage h down fault last link [] b f runs = tt
named_lost engine lawful n stage h down fault last link (Does (Mark reset) ∷ plan) b f runs =
    named_lost engine lawful n stage h down fault last _ plan b (stays engine n stage h (with_down link down) f) runs.1
named_lost engine lawful n stage h down fault last link (Does Ask ∷ plan) b f runs =
    named_lost engine lawful n stage h down fault last _ plan b (stays engine n stage h (with_down link down) f) runs.1
named_lost engine lawful n stage h down fault last link (Does (Send end) ∷ plan) b f runs =
    named_lost engine lawful n stage h down fault last _ plan b (stays engine n stage h (with_down link down) f) runs.1
named_lost engine lawful n stage h down fault last link (Does Cancel ∷ plan) b f runs =
    named_lost engine lawful n stage h down fault last _ plan b (stays engine n stage h (with_down link down) f) runs.1
named_lost engine lawful n stage h down fault last link (Does (Come part) ∷ plan) b f runs =
    named_lost engine lawful n stage h down fault last _ plan b (stays engine n stage h (with_down link down) f) runs.1
named_lost engine lawful n stage h down fault last link (Does Lose ∷ plan) b f runs =
    named_lost engine lawful n stage h down fault last _ plan b (stays engine n stage h (with_down link down) f) runs.1
named_lost engine lawful n stage h down fault last link (Takes ∷ plan) b f runs = (
  next_named engine n stage h (with_down link down) b f,
  named_lost engine lawful n stage h down fault last (goes engine link links.Takes) plan b (was_takes engine lawful n stage h down link f runs.0) runs.1,
)
named_lost engine lawful n stage h down fault last link (Speaks ∷ plan) b f runs =
    named_lost engine lawful n stage h (said_down down link.server.due) fault last (goes engine link links.Speaks) plan b (was_speaks engine n stage h down link f runs.0) runs.1

-- it is lost now
named_lose : {V T : Type 0} (engine : AnyServer V T) (lawful : IsLawful engine) (n : ℕ) (stage : LineStage) (h : Heard) (link : Link V T) (plan : List (Planned T))
    → NotBroken stage → Flow engine n stage h link
    → Runs engine (done_here link (done_by Lose (line_turn (line n stage h) Lose))) (moves_by (line_turn {T = T} (line n stage h) Lose).line plan)
    → AllInNamed engine (done_here link (done_by Lose (line_turn (line n stage h) Lose))) (moves_by (line_turn {T = T} (line n stage h) Lose).line plan)
named_lose engine lawful n Idle h link plan b f runs = named_lost engine lawful n Idle h link.down faults.Lost h _ plan tt (stays engine n Idle h link f) runs
named_lose engine lawful n (Sending begun) h link plan b f runs =
    named_lost engine lawful n (Sending begun) h link.down faults.Lost h _ plan tt (stays engine n (Sending begun) h link f) runs
named_lose engine lawful n Reading h link plan b f runs = named_lost engine lawful n Reading h link.down faults.Lost h _ plan tt (stays engine n Reading h link f) runs
named_lose engine lawful n Cancelling h link plan b f runs =
    named_lost engine lawful n Cancelling h link.down faults.Lost h _ plan tt (stays engine n Cancelling h link f) runs
named_lose engine lawful n (Broken fault) h link plan b f runs = absurd b

pub all_named : {V T : Type 0} (engine : AnyServer V T) (lawful : IsLawful engine) (l : Line) (link : Link V T) (plan : List (Planned T))
    → NotBroken l.stage → FlowOn engine l link → Runs engine link (moves_by l plan) → AllInNamed engine link (moves_by l plan)
all_named engine lawful l link [] b f runs = tt
all_named engine lawful l link (Does (Mark reset) ∷ plan) b f runs =
    all_named engine lawful (line_turn l (Mark reset)).line (goes engine link (links.Here (done_by (Mark reset) (line_turn l (Mark reset))))) plan
    (sound engine l.asked l.stage l.heard link (Mark reset) b f runs.0).2
    (keeps_act engine l.asked l.stage l.heard link (Mark reset) f runs.0) runs.1
all_named engine lawful l link (Does Ask ∷ plan) b f runs =
    all_named engine lawful (line_turn l Ask).line (goes engine link (links.Here (done_by Ask (line_turn l Ask)))) plan
    (sound engine l.asked l.stage l.heard link Ask b f runs.0).2
    (keeps_act engine l.asked l.stage l.heard link Ask f runs.0) runs.1
all_named engine lawful l link (Does (Send last) ∷ plan) b f runs =
    all_named engine lawful (line_turn l (Send last)).line (goes engine link (links.Here (done_by (Send last) (line_turn l (Send last))))) plan
    (sound engine l.asked l.stage l.heard link (Send last) b f runs.0).2
    (keeps_act engine l.asked l.stage l.heard link (Send last) f runs.0) runs.1
all_named engine lawful l link (Does Cancel ∷ plan) b f runs =
    all_named engine lawful (line_turn l Cancel).line (goes engine link (links.Here (done_by Cancel (line_turn l Cancel)))) plan
    (sound engine l.asked l.stage l.heard link Cancel b f runs.0).2
    (keeps_act engine l.asked l.stage l.heard link Cancel f runs.0) runs.1
all_named engine lawful l link (Does (Come part) ∷ plan) b f runs =
    all_named engine lawful (line_turn l (Come part)).line (goes engine link (links.Here (done_by (Come part) (line_turn l (Come part))))) plan
    (sound engine l.asked l.stage l.heard link (Come part) b f runs.0).2
    (keeps_act engine l.asked l.stage l.heard link (Come part) f runs.0) runs.1
all_named engine lawful l link (Does Lose ∷ plan) b f runs = named_lose engine lawful l.asked l.stage l.heard link plan b f runs.1
all_named engine lawful l link (Takes ∷ plan) b f runs = (
  next_named engine l.asked l.stage l.heard link b f,
  all_named engine lawful l (goes engine link links.Takes) plan b (keeps_takes engine lawful l.asked l.stage l.heard link f runs.0) runs.1,
)
all_named engine lawful l link (Speaks ∷ plan) b f runs =
    all_named engine lawful l (goes engine link links.Speaks) plan b (keeps_speaks engine l.asked l.stage l.heard link f runs.0) runs.1
