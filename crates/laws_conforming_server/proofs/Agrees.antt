-- Where the line is idle all is quiet; no fault; and each request runs where its header says.
use Rattle.std.proofs.Common.{◌≡◌, ◌⊎◌, ℕ, Bool, true, false, List, [], ◌∷◌, sym, subst, inl, inr}
use Rattle.tds_client.specs.declared.heard.Heard.{Heard}
use Rattle.tds_service.specs.Parts.{Part}
use Rattle.tds_service.specs.Line as lines
use Rattle.tds_service.specs.Line.{Line, LineStage, Idle, Sending, Reading, Cancelling, Broken, Packet, OfRequest, Ignore, Attention, Act, Mark, Ask, Send, Cancel, Come, Lose, Turn, Answer, line_turn}
use Rattle.tds_service.specs.History.{done_by}
use Rattle.laws_conforming_server.specs.Lawful.{AnyServer, IsLawful}
use Rattle.laws_conforming_server.specs.Link as links
use Rattle.laws_conforming_server.specs.Link.{Link, Move, Runs, Server, Asking, PacketUp, ups, Comes, TakesNext, goes, here, link_after, taken}
use Rattle.laws_conforming_server.specs.Answering.{IsNoFault, NoFault, UnlessLost}
use Rattle.laws_conforming_server.specs.Agreeing.{IsQuiet}
use Rattle.laws_conforming_server.proofs.Flow.{Quiet, Flow, FlowOn}
use Rattle.laws_conforming_server.proofs.Coming.{line, nothing_comes, read_comes, ReadsOn, ReadsOut, skip_comes, SkipsOn, SkipsOut}
use Rattle.laws_conforming_server.proofs.Taking.{keeps_takes}
use Rattle.laws_conforming_server.proofs.Keeps.{keeps_act, keeps_speaks}
use Rattle.laws_conforming_server.proofs.Plans.{Planned, Does, Takes, Speaks, moves_by}

-- ---- Idle

pub quiet_on : {V T : Type 0} (engine : AnyServer V T) (l : Line) (link : Link V T) → l.stage ≡ Idle → FlowOn engine l link → IsQuiet l link
quiet_on engine l link e f =
    let q : Quiet l.heard link = subst (λ (s : LineStage). Flow engine l.asked s l.heard link) e f in
    record { up = q.up; down = q.still.down; due = q.still.due; transaction = q.still.transaction }

-- ---- No fault

abbrev pub NotBroken : LineStage → Type 0
NotBroken (Broken fault) = ⊥
NotBroken stage = Unit {0}

-- The client isn't broken by an act, unless that loses the connection.
abbrev pub Unbroken : {T : Type 0} → Act T → LineStage → Type 0
Unbroken (Mark reset) stage = NotBroken stage
Unbroken Ask stage = NotBroken stage
Unbroken (Send last) stage = NotBroken stage
Unbroken Cancel stage = NotBroken stage
Unbroken (Come part) stage = NotBroken stage
Unbroken Lose stage = Unit {0}

-- The answer is no fault; and where it isn't a loss, the client isn't broken.
abbrev pub Sound : {T : Type 0} → Act T → Turn T → Type 0
Sound a t = IsNoFault t.answer × UnlessLost t.answer (NotBroken t.line.stage) × Unbroken a t.line.stage

sound_read : {V T : Type 0} (engine : AnyServer V T) (n : ℕ) (h : Heard) (link : Link V T) (part : Part T)
    → ReadsOn engine n h link part ⊎ ReadsOut n h link part → Sound (Come part) (line_turn (line n Reading h) (Come part))
sound_read {V} {T} engine n h link part (inl r) = subst (λ (t : Turn T). Sound (Come part) t) (sym r.is) (tt, tt, tt)
sound_read {V} {T} engine n h link part (inr r) = subst (λ (t : Turn T). Sound (Come part) t) (sym r.is) (tt, tt, tt)

sound_skip : {V T : Type 0} (n : ℕ) (h : Heard) (stopped : Bool) (link : Link V T) (part : Part T)
    → SkipsOn n h stopped link part ⊎ SkipsOut n h link part → Sound (Come part) (line_turn (line n Cancelling h) (Come part))
sound_skip {V} {T} n h stopped link part (inl r) = subst (λ (t : Turn T). Sound (Come part) t) (sym r.is) (tt, tt, tt)
sound_skip {V} {T} n h stopped link part (inr r) = subst (λ (t : Turn T). Sound (Come part) t) (sym r.is) (tt, tt, tt)

pub sound : {V T : Type 0} (engine : AnyServer V T) (n : ℕ) (stage : LineStage) (h : Heard) (link : Link V T) (a : Act T)
    → NotBroken stage → Flow engine n stage h link → Comes a link.down link.server.due → Sound a (line_turn (line n stage h) a)
sound engine n Idle h link (Mark reset) b f c = (tt, tt, tt)
sound engine n Idle h link Ask b f c = (tt, tt, tt)
sound engine n Idle h link (Send last) b f c = (tt, tt, tt)
sound engine n Idle h link Cancel b f c = (tt, tt, tt)
sound engine n Idle h link (Come part) b f c = absurd (nothing_comes h link part f.still c)
sound engine n Idle h link Lose b f c = (tt, tt, tt)
sound engine n (Sending begun) h link (Mark reset) b f c = (tt, tt, tt)
sound engine n (Sending begun) h link Ask b f c = (tt, tt, tt)
sound engine n (Sending begun) h link (Send false) b f c = (tt, tt, tt)
sound engine n (Sending begun) h link (Send true) b f c = (tt, tt, tt)
sound engine n (Sending false) h link Cancel b f c = (tt, tt, tt)
sound engine n (Sending true) h link Cancel b f c = (tt, tt, tt)
sound engine n (Sending false) h link (Come part) b f c = absurd (nothing_comes h link part f.0.still c)
sound engine n (Sending true) h link (Come part) b f c = absurd (nothing_comes h link part f.still c)
sound engine n (Sending begun) h link Lose b f c = (tt, tt, tt)
sound engine n Reading h link (Mark reset) b f c = (tt, tt, tt)
sound engine n Reading h link Ask b f c = (tt, tt, tt)
sound engine n Reading h link (Send last) b f c = (tt, tt, tt)
sound engine n Reading h link Cancel b f c = (tt, tt, tt)
sound engine n Reading h link (Come part) b (inl f) c = absurd (nothing_comes h link part f.still c)
sound engine n Reading h link (Come part) b (inr f) c = sound_read engine n h link part (read_comes engine n h link part f c)
sound engine n Reading h link Lose b f c = (tt, tt, tt)
sound engine n Cancelling h link (Mark reset) b f c = (tt, tt, tt)
sound engine n Cancelling h link Ask b f c = (tt, tt, tt)
sound engine n Cancelling h link (Send last) b f c = (tt, tt, tt)
sound engine n Cancelling h link Cancel b f c = (tt, tt, tt)
sound engine n Cancelling h link (Come part) b (inl f) c = absurd (nothing_comes h link part f.still c)
sound engine n Cancelling h link (Come part) b (inr (stopped, f)) c = sound_skip n h stopped link part (skip_comes n h stopped link part f c)
sound engine n Cancelling h link Lose b f c = (tt, tt, tt)
sound engine n (Broken fault) h link a b f c = absurd b

-- Behind an answer that isn't a loss the rest may be looked at.
pub then_rest : (answer : Answer) (x y : Type 0) → UnlessLost answer x → (x → y) → UnlessLost answer y
then_rest (lines.Refused why) x y u f = f u
then_rest lines.Marked x y u f = f u
then_rest (lines.Asked request descriptor) x y u f = f u
then_rest lines.Sent x y u f = f u
then_rest lines.Nothing x y u f = f u
then_rest lines.Already x y u f = f u
then_rest (lines.Unsent request) x y u f = f u
then_rest (lines.Stopped request) x y u f = f u
then_rest lines.More x y u f = f u
then_rest (lines.Finished request) x y u f = f u
then_rest (lines.Acked request) x y u f = f u
then_rest (lines.Fault fault) x y u f = f u
then_rest lines.Lost x y u f = tt

pub no_fault : {V T : Type 0} (engine : AnyServer V T) (lawful : IsLawful engine) (l : Line) (link : Link V T) (plan : List (Planned T))
    → NotBroken l.stage → FlowOn engine l link → Runs engine link (moves_by l plan) → NoFault (here (moves_by l plan))
no_fault engine lawful l link [] b f runs = tt
no_fault engine lawful l link (Does a ∷ plan) b f runs =
    let s : Sound a (line_turn l a) = sound engine l.asked l.stage l.heard link a b f runs.0 in (
      s.0,
      then_rest (line_turn l a).answer (NotBroken (line_turn l a).line.stage) (NoFault (here (moves_by (line_turn l a).line plan))) s.1
          (λ (c : NotBroken (line_turn l a).line.stage). no_fault engine lawful (line_turn l a).line (goes engine link (links.Here (done_by a (line_turn l a)))) plan c
          (keeps_act engine l.asked l.stage l.heard link a f runs.0) runs.1),
    )
no_fault engine lawful l link (Takes ∷ plan) b f runs =
    no_fault engine lawful l (goes engine link links.Takes) plan b (keeps_takes engine lawful l.asked l.stage l.heard link f runs.0) runs.1
no_fault engine lawful l link (Speaks ∷ plan) b f runs =
    no_fault engine lawful l (goes engine link links.Speaks) plan b (keeps_speaks engine l.asked l.stage l.heard link f runs.0) runs.1
