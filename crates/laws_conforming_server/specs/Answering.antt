-- What a server that keeps the rules answers to a request, and what a caller is told of it.
use Rattle.std.specs.Prelude.{◌≡◌, ℕ, ◌==◌, ◌||◌, Bool, true, false, List, [], ◌∷◌, ◌++◌, Option, Some, None, if◌then◌else◌}
use Rattle.tds_service.specs.Line.{Answer, Finished, Fault, Lost, Packet, OfRequest}
use Rattle.tds_service.specs.History.{Done}
use Rattle.laws_conforming_server.specs.Lawful.{ServerStep, AnyServer}
use Rattle.laws_conforming_server.specs.Link.{Asking, Server, PacketUp, Link, Move, Here, Takes, Speaks, goes, takes}

-- ---- The answer of a request

-- What is due where the packet that is taken is the last one of this request.
abbrev pub answer_by : {V T : Type 0} → AnyServer V T → Server V T → Asking → ℕ → Packet → Option (List (ServerStep V T))
answer_by engine server asking r (OfRequest request first reset true) =
    if request == r then Some (takes engine server asking (OfRequest request first reset true)).due else None
answer_by engine server asking r packet = None

abbrev pub answer_now : {V T : Type 0} → AnyServer V T → Link V T → ℕ → List PacketUp → Option (List (ServerStep V T))
answer_now engine link r [] = None
answer_now engine link r (next ∷ others) = answer_by engine link.server next.asking r next.packet

abbrev pub or_later : {A : Type 0} → Option A → A → A
or_later (Some now) later = now
or_later None later = later

-- Nothing, where its last packet isn't taken in this run.
abbrev pub answered : {V T : Type 0} → AnyServer V T → Link V T → ℕ → List (Move T) → List (ServerStep V T)
answered engine link r [] = []
answered engine link r (Here d ∷ moves) = answered engine (goes engine link (Here d)) r moves
answered engine link r (Takes ∷ moves) = or_later (answer_now engine link r link.up) (answered engine (goes engine link Takes) r moves)
answered engine link r (Speaks ∷ moves) = answered engine (goes engine link Speaks) r moves

-- ---- What is told of it

abbrev pub Begins : {A : Type 0} → List A → List A → Type 0
Begins {A} xs ys = (rest : List A) × (xs ++ rest ≡ ys)

abbrev pub is_finished : ℕ → Answer → Bool
is_finished r (Finished request) = request == r
is_finished r answer = false

-- Whether it was answered that this request has its whole answer.
abbrev pub finishes : {T : Type 0} → ℕ → List (Done T) → Bool
finishes r [] = false
finishes r (d ∷ ds) = is_finished r d.answer || finishes r ds

-- ---- Faults

abbrev pub IsNoFault : Answer → Type 0
IsNoFault (Fault fault) = ⊥
IsNoFault answer = Unit {0}

abbrev pub UnlessLost : Answer → Type 0 → Type 0
UnlessLost Lost others = Unit {0}
UnlessLost answer others = others

-- Nothing is answered by a fault, until the connection is lost.
abbrev pub NoFault : {T : Type 0} → List (Done T) → Type 0
NoFault [] = Unit {0}
NoFault (d ∷ ds) = IsNoFault d.answer × UnlessLost d.answer (NoFault ds)
