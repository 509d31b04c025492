-- Why applications and connections are closed, where they broke the rules.
use Rattle.std.specs.Prelude.{◌≡◌, ◌⊎◌, ◌==◌, ℕ, List, [], ◌∷◌, Option, Some, None, Err, if◌then◌else◌}
use Rattle.tds_front.specs.declared.fault.FrontFault.{FrontFault}
use Rattle.tds_front.specs.Bytes.{fed}
use Rattle.tds_listen.specs.declared.fault.ListenFault.{ListenFault}
use Rattle.tds_packet.specs.Reading as packets
use Rattle.tds_packet.specs.Reading.{fault_of}
use Rattle.tds_packet.specs.declared.fault.PacketFault.{PacketFault}
use Rattle.tds_wire.specs.declared.told.Token.{Token}
use Rattle.tds_service.specs.History.{Done}
use Rattle.tds_service.specs.Line as line
use Rattle.tds_relay.specs.declared.pool.coming.Heard.{Heard}
use Rattle.tds_relay.specs.declared.fault.Refused.{Refused}
use Rattle.tds_relay.specs.Pool.{fault_on}
use Rattle.tds_relay.specs.Core.{End, Open, Over, dones_of_part, end_at}
use Rattle.tds_relay.specs.Machine.{Machine, Step, Hands, Takes, after, after_all}

-- ---- Of an application

-- what it did that the protocol doesn't allow, where it is to be closed for that
abbrev pub why_of : Option End → Option FrontFault
why_of None = None
why_of (Some (Open front withdrawn asks)) = None
why_of (Some (Over why)) = why

abbrev pub why_at : ℕ → Machine → Option FrontFault
why_at key h = why_of (end_at h.core.ends key)

-- Its bytes do that.
abbrev pub AreWrong : FrontFault → List ℕ → Option End → Type 0
AreWrong fault bytes None = ⊥
AreWrong fault bytes (Some (Open front withdrawn asks)) = (fed front bytes).brings ≡ Err fault
AreWrong fault bytes (Some (Over why)) = ⊥

abbrev pub BreaksBy : ℕ → FrontFault → Machine → Step → Type 0
BreaksBy key fault h (Takes other bytes) = (other ≡ key) × AreWrong fault bytes (end_at h.core.ends key)
BreaksBy key fault h step = ⊥

abbrev pub BreaksAlong : ℕ → FrontFault → Machine → List Step → Type 0
BreaksAlong key fault h [] = ⊥
BreaksAlong key fault h (step ∷ steps) = BreaksBy key fault h step ⊎ BreaksAlong key fault (after h step) steps

-- What is told behind steps was told before them, or its bytes did it in one of them.
abbrev pub IsMet : ℕ → FrontFault → Machine → List Step → Type 0
IsMet key fault h steps = why_at key (after_all h steps) ≡ Some fault → (why_at key h ≡ Some fault) ⊎ BreaksAlong key fault h steps

-- ---- Of a connection

-- The service answers this of what came.
abbrev pub AnswersFault : ListenFault → List (Done Token) → Type 0
AnswersFault fault [] = ⊥
AnswersFault fault (done ∷ dones) = done.answer ≡ line.Fault fault

abbrev pub BreaksOn : ℕ → ListenFault → Machine → Step → Type 0
BreaksOn number fault h (Hands other header content part way manner) = (other ≡ number) × AnswersFault fault (dones_of_part h.core.pool other part)
BreaksOn number fault h step = ⊥

abbrev pub BreaksOnAlong : ℕ → ListenFault → Machine → List Step → Type 0
BreaksOnAlong number fault h [] = ⊥
BreaksOnAlong number fault h (step ∷ steps) = BreaksOn number fault h step ⊎ BreaksOnAlong number fault (after h step) steps

-- What is told behind steps was told before them, or a packet of that connection had it in one of them.
abbrev pub IsMetOn : ℕ → ListenFault → Machine → List Step → Type 0
IsMetOn number fault h steps = fault_on number (after_all h steps).core.pool ≡ Some fault → (fault_on number h.core.pool ≡ Some fault) ⊎ BreaksOnAlong number fault h steps

-- ---- Of a packet's header

-- A header that was refused is the last one; else that is the same as before.
abbrev pub IsHeaderOf : ℕ → packets.Reading → Option Heard → Option Refused → Option Refused → Type 0
IsHeaderOf number r (Some heard) old new = new ≡ old
IsHeaderOf number r None old new = (fault : PacketFault) × (fault_of r r.taken ≡ Some fault) × (new ≡ Some (record { number = number; fault = fault }))

-- It is the same as before; or a header that was refused on the connection of this number is the last one.
abbrev pub IsRefusedOn : ℕ → Option Refused → Option Refused → Type 0
IsRefusedOn number old new = (new ≡ old) ⊎ ((r : packets.Reading) × (fault : PacketFault) × (fault_of r r.taken ≡ Some fault) × (new ≡ Some (record { number = number; fault = fault })))

-- how that of the connection of this number was
abbrev pub header_fault_in : ℕ → Option Refused → Option PacketFault
header_fault_in number None = None
header_fault_in number (Some r) = if r.number == number then Some r.fault else None
