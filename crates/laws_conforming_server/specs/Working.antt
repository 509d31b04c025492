-- How much is left to do on a connection where nothing more is asked, sent or cancelled.
use Rattle.std.specs.Prelude.{◌≡◌, ◌⊎◌, ◌+◌, ℕ, suc, List, [], ◌∷◌, length, None, max}
use Rattle.tds_service.specs.Parts as parts
use Rattle.tds_service.specs.Parts.{Item, Close, Part}
use Rattle.tds_service.specs.Line.{Act, Come, LineStage, Reading, Cancelling, Packet, OfRequest, Ignore, Attention}
use Rattle.laws_conforming_server.specs.Lawful.{Session, ServerStep, AnyServer}
use Rattle.laws_conforming_server.specs.Link.{Asking, Server, PacketUp, Link, Move, Here, Takes, Speaks, HasSome, TakesNext, session_behind, takes}

-- ---- A measure

-- each thing that is due is said, and comes
abbrev pub twice : {A : Type 0} → List A → ℕ
twice [] = 0
twice (x ∷ xs) = 2 + twice xs

abbrev pub all_said : {V T : Type 0} → Session V → List (ServerStep V T) → Session V
all_said s [] = s
all_said s (step ∷ due) = all_said (session_behind s step) due

-- An attention may be taken before or behind each thing that is due: the most that may be left then.
abbrev pub left_at_attention : {V T : Type 0} → (Session V → ℕ) → Session V → List (ServerStep V T) → ℕ
left_at_attention behind s [] = suc (behind s)
left_at_attention behind s (step ∷ due) = max (suc (behind s)) (2 + left_at_attention behind (session_behind s step) due)

abbrev pub stopped : {V T : Type 0} → AnyServer V T → Asking → Session V → Server V T
stopped engine asking s = record { session = s; reset = None; due = engine.stops asking.request s }

abbrev pub with_all_said : {V T : Type 0} → Server V T → Server V T
with_all_said server = record { session = all_said server.session server.due; reset = server.reset; due = [] }

abbrev pub work_left : {V T : Type 0} → AnyServer V T → (Server V T → ℕ) → Server V T → Asking → Packet → ℕ
work_left engine behind server asking (OfRequest request first reset last) =
    twice server.due + suc (behind (takes engine (with_all_said server) asking (OfRequest request first reset last)))
work_left engine behind server asking (Ignore request) = twice server.due + suc (behind (takes engine (with_all_said server) asking (Ignore request)))
work_left engine behind server asking Attention = left_at_attention (λ s. behind (stopped engine asking s)) server.session server.due

abbrev pub left_for : {V T : Type 0} → AnyServer V T → List PacketUp → Server V T → ℕ
left_for engine [] server = twice server.due
left_for engine (next ∷ others) server = work_left engine (λ s. left_for engine others s) server next.asking next.packet

abbrev pub left_to_do : {V T : Type 0} → AnyServer V T → Link V T → ℕ
left_to_do engine link = left_for engine link.up link.server + length link.down

-- ---- What lowers it

abbrev pub Brings : {T : Type 0} → List (Item T) → Close → Type 0
Brings (item ∷ items) close = Unit {0}
Brings [] parts.Goes = ⊥
Brings [] parts.Ends = Unit {0}
Brings [] parts.Cut = Unit {0}
Brings [] (parts.Fails refusal) = Unit {0}

abbrev pub Delivers : {T : Type 0} → Act T → Type 0
Delivers (Come part) = Brings part.items part.close
Delivers act = ⊥

-- A packet is taken, a thing is said, or a part comes with a token or an end; nothing goes out as one comes.
abbrev pub Works : {T : Type 0} → Move T → Type 0
Works Takes = Unit {0}
Works Speaks = Unit {0}
Works (Here d) = Delivers d.act × (d.sent ≡ [])

-- ---- Who waits

abbrev pub Waits : LineStage → Type 0
Waits Reading = Unit {0}
Waits Cancelling = Unit {0}
Waits stage = ⊥

-- There is a packet that the server may take, a thing that it may say, or something on its way to the client.
abbrev pub CanGo : {V T : Type 0} → Link V T → Type 0
CanGo link = TakesNext link.up link.server.due ⊎ (HasSome link.server.due ⊎ HasSome link.down)
