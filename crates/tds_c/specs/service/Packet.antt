-- What the export does by which the table hears the data of a packet in one call: token by token, each as the machine's call `Came`, and
-- then the message's end.
use Rattle.std.specs.Prelude.{◌≡◌, ◌≢◌, ◌≤◌, ◌<◌, ◌+◌, ◌++◌, ℕ, List, [], ◌∷◌, Bool, true, false, length, drop, Option, Some, None, Result, Ok, Err}
use Rattle.tds_client.specs.declared.state.Taken.{Taken}
use Rattle.tds_client.specs.declared.state.Taken.TheVariants as takes
use Rattle.tds_client.specs.Faults as client
use Rattle.tds_listen.specs.declared.fault.ListenFault.{ListenFault}
use Rattle.tds_listen.specs.declared.fault.ListenFault.TheVariants as faults
use Rattle.tds_wire.specs.declared.memory.Memory.{Memory}
use Rattle.tds_wire.specs.declared.told.Token.{Token}
use Rattle.tds_wire.specs.Faults as wire
use Rattle.tds_wire.specs.Reading.{Found, Inside, Parser, Refuses, Sees, next_token, restarted}
use Rattle.tds_service.specs.Line as line
use Rattle.tds_service.specs.Line.{Answer, LineStage, Idle, Sending, Reading as IsRead, Cancelling, Broken}
use Rattle.tds_service.specs.Parts.{Part}
use Rattle.tds_service.specs.Service.{Seat, Service, find_by, has_number, lease_in}
use Rattle.tds_service.specs.Table.{Comes, ReadsAt}
use Rattle.tds_service.specs.Ties.{end_at, part_of, taken_answer}
use Rattle.tds_walk.specs.declared.token.TdsWireToken.{TdsWireToken}
use Rattle.tds_walk.specs.declared.walk.TdsWire.{TdsWire}
use Rattle.tds_walk.specs.Rooms.{HasRead, Room}
use Rattle.tds_walk.specs.Wire.{truth}
use Rattle.tds_walk.specs.WireCalls.{reading_from}
use Rattle.tds_walk.specs.WireTokens.{AllShow}
use Rattle.tds_c.specs.declared.service.packet.Halt.{Halt}
use Rattle.tds_c.specs.declared.service.packet.Halt.TheVariants as halts
use Rattle.tds_c.specs.declared.service.packet.Without.{Without}
use Rattle.tds_c.specs.declared.service.packet.Without.TheVariants as without
use Rattle.tds_c.specs.declared.service.plain.TdsWhose.{TdsWhose}
use Rattle.tds_c.specs.service.Calls.{Fits, Held}
use Rattle.tds_c.specs.service.Hearing.{Untouched, lease_number}
use Rattle.tds_c.specs.service.Plain.{table_of}

-- ---- The numbers

abbrev pub packet_fault_number : ListenFault → ℕ
packet_fault_number (faults.Client fault) = 60 + client.fault_number fault
packet_fault_number (faults.Wire refusal) = 70 + wire.fault_number refusal.fault
packet_fault_number faults.Cut = 75
packet_fault_number faults.ResetUnanswered = 76

abbrev pub end_taken_number : Taken → ℕ
end_taken_number takes.More = 1
end_taken_number takes.Finished = 3
end_taken_number takes.Acknowledged = 4
end_taken_number takes.NoMemory = 1

abbrev pub halt_number : Halt → ℕ
halt_number halts.Full = 10
halt_number halts.Through = 0
halt_number (halts.Ended taken) = end_taken_number taken
halt_number (halts.Broken fault) = packet_fault_number fault
halt_number (halts.BrokenAtEnd fault) = packet_fault_number fault

abbrev pub unheard_number : Without → ℕ
unheard_number without.NoTable = 20
unheard_number without.NoWalk = 20
unheard_number without.Unknown = 34

abbrev pub packet_number : Result Halt Without → ℕ
packet_number (Ok halt) = halt_number halt
packet_number (Err why) = unheard_number why

-- ---- Tokens, one after the other

-- Whose connection it is: its number, the lease that holds it, where one does, and its newest request.
pub record Owner : Type 0 where
  pub number : ℕ
  pub lease : Option ℕ
  pub request : ℕ

-- The machine and the parser, before bytes that are left.
pub record Reached : Type 0 where
  pub table : Service
  pub reading : Parser
  pub rest : List ℕ

-- What the parser finds next is heard: these tokens are told, and it goes on there.
pub record Passage : Type 0 where
  pub told : List Token
  pub to : Reached

-- The machine hears this part on that connection, and answers so; these tokens are told.
abbrev pub OwnerHears : Owner → Part Token → (old new : Service) → Answer → List Token → Type 0
OwnerHears o part old new answer told = Comes old new o.number part o.lease o.request answer [] told

-- Bytes that end no token are heard by no client.
abbrev pub PassesBy : Owner → Reached → Found → Passage → Type 0
PassesBy o place (Sees token r rest) m =
    (m.to.reading ≡ r) × (m.to.rest ≡ rest) × OwnerHears o (part_of (Sees token r rest)) place.table m.to.table line.More m.told
PassesBy o place (Inside r) m = (m.told ≡ []) × (m.to ≡ record { table = place.table; reading = r; rest = [] })
PassesBy o place (Refuses refusal) m = ⊥

abbrev pub found_at : Reached → Found
found_at place = next_token place.reading place.rest

unfoldable pub InTurn : Owner → Reached → List Passage → Reached → Type 0
InTurn o first [] last = first ≡ last
InTurn o first (move ∷ others) last = PassesBy o first (found_at first) move × InTurn o move.to others last

unfoldable pub passages_told : List Passage → List Token
passages_told [] = []
passages_told (move ∷ others) = move.told ++ passages_told others

-- So far these moves were made, and what they tell stands at the front of the room.
pub record HasPassed (o : Owner) (first last : Reached) (room : Room TdsWireToken) : Type 0 where
  pub moves : List Passage
  pub in_turn : InTurn o first moves last
  pub values : List TdsWireToken
  pub shows : AllShow values (passages_told moves)
  pub written : HasRead values room

-- ---- Where it stops

-- What the machine and the parser are then.
pub record Now : Type 0 where
  pub table : Service
  pub reading : Parser

abbrev pub now_at : Reached → Now
now_at place = record { table = place.table; reading = place.reading }

-- Behind bytes that were refused it says which one.
abbrev pub SaysFault : ListenFault → Parser → Type 0
SaysFault (faults.Client fault) r = Unit {0}
SaysFault (faults.Wire refusal) r = r.refused ≡ Some refusal
SaysFault faults.Cut r = Unit {0}
SaysFault faults.ResetUnanswered r = Unit {0}

-- The client of the connection is broken by the token that comes next, or by bytes that are none.
abbrev pub BreaksThere : Owner → Service → Found → Service → ListenFault → Type 0
BreaksThere o table (Sees token r rest) new fault = OwnerHears o (part_of (Sees token r rest)) table new (line.Fault fault) []
BreaksThere o table (Inside r) new fault = ⊥
BreaksThere o table (Refuses refusal) new fault = OwnerHears o (part_of (Refuses refusal)) table new (line.Fault fault) []

-- Why it stops there, and what it leaves: the room is full, and more could be told; the data are done with; they are, and with them the
-- message is; or the client is broken by what comes next, or by the message's end.
abbrev pub PacketStops : Owner → Reached → Now → Bool → Room TdsWireToken → Halt → Type 0
PacketStops o last now ends room halts.Full =
    (last.rest ≢ []) × ReadsAt (find_by (has_number o.number) last.table.seats) × (room.count ≡ length room.before) × (now ≡ now_at last)
PacketStops o last now ends room halts.Through = (last.rest ≡ []) × (ends ≡ false) × (now ≡ now_at last)
PacketStops o last now ends room (halts.Ended taken) =
    (last.rest ≡ []) × (ends ≡ true) × OwnerHears o (end_at last.reading) last.table now.table (taken_answer o.request taken) []
    × (now.reading ≡ restarted last.reading)
PacketStops o last now ends room (halts.Broken fault) =
    BreaksThere o last.table (found_at last) now.table fault × SaysFault fault now.reading
PacketStops o last now ends room (halts.BrokenAtEnd fault) =
    (last.rest ≡ []) × (ends ≡ true) × OwnerHears o (end_at last.reading) last.table now.table (line.Fault fault) []
    × (now.reading ≡ restarted last.reading)

-- Tokens are heard one after the other, and there it stops.
abbrev pub PacketStopsBehind : Owner → Reached → List ℕ → Now → Bool → Room TdsWireToken → Halt → Type 0
PacketStopsBehind o first rest now ends room halt =
    (last : Reached) × HasPassed o first last room × (last.rest ≡ rest) × PacketStops o last now ends room halt

-- ---- A call

-- What is handed to a call, or left by it.
pub record Handed : Type 0 where
  pub held : Held
  pub walk : TdsWire
  pub memory : Memory
  pub whose : TdsWhose

pub record PacketHearing : Type 0 where
  pub before : Handed
  pub after : Handed
  pub bytes : List ℕ
  pub ends : ℕ
  pub taken : ℕ
  pub room : Room TdsWireToken

abbrev pub NothingHeard : PacketHearing → Type 0
NothingHeard h = (h.after ≡ h.before) × (h.taken ≡ 0) × (h.room.after ≡ h.room.before) × (h.room.count ≡ 0)

-- The array is too short for the table, the value is no walk's, or there is no connection of this number.
abbrev pub IsWithout : ℕ → Handed → Without → Type 0
IsWithout number s without.NoTable = length s.held.seats < s.held.service.count
IsWithout number s without.NoWalk = reading_from s.walk s.memory ≡ None
IsWithout number s without.Unknown = Fits s.held × (find_by (has_number number) (table_of s.held.service s.held.seats).seats ≡ None)

abbrev pub table_in : Handed → Service
table_in s = table_of s.held.service s.held.seats

-- It is this connection's, as the table has it.
abbrev pub OwnsSeat : Owner → Option Seat → Type 0
OwnsSeat o None = ⊥
OwnsSeat o (Some c) = (o.lease ≡ lease_in c.place) × (o.request ≡ c.line.asked)

-- The bytes that are taken lead to where it stops. The table and the walk are what they are there, and whose it was is written.
pub record HearsPacketFrom (o : Owner) (h : PacketHearing) (halt : Halt) : Type 0 where
  pub first : Parser
  pub last : Parser
  pub began : reading_from h.before.walk h.before.memory ≡ Some first
  pub stands : reading_from h.after.walk h.after.memory ≡ Some last
  pub fits : Fits h.before.held
  pub owns : OwnsSeat o (find_by (has_number o.number) (table_in h.before).seats)
  pub whose : h.after.whose ≡ record { lease = lease_number o.lease; request = o.request }
  pub others : Untouched o.number h.before.held h.after.held
  pub within : h.taken ≤ length h.bytes
  pub stops : PacketStopsBehind o (record { table = table_in h.before; reading = first; rest = h.bytes }) (drop h.taken h.bytes)
      (record { table = table_in h.after; reading = last }) (truth h.ends) h.room halt

abbrev pub HearsPacket : ℕ → PacketHearing → Result Halt Without → Type 0
HearsPacket number h (Ok halt) = (o : Owner) × (o.number ≡ number) × HearsPacketFrom o h halt
HearsPacket number h (Err why) = NothingHeard h × IsWithout number h.before why
