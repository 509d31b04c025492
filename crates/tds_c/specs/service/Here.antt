-- What one seat hears of a packet's data, wherever it stands in a table.
use Rattle.std.specs.Prelude.{◌≡◌, ◌≤◌, ℕ, List, [], Bool, false, Option, Some, None, Result, Ok, Err, length, drop}
use Rattle.tds_listen.specs.declared.fault.ListenFault.{ListenFault}
use Rattle.tds_wire.specs.declared.memory.Memory.{Memory}
use Rattle.tds_wire.specs.Reading.{Parser}
use Rattle.tds_walk.specs.declared.token.TdsWireToken.{TdsWireToken}
use Rattle.tds_walk.specs.declared.walk.TdsWire.{TdsWire}
use Rattle.tds_walk.specs.Rooms.{Room}
use Rattle.tds_walk.specs.Wire.{truth}
use Rattle.tds_walk.specs.WireCalls.{reading_from}
use Rattle.tds_service.specs.Service.{lease_in}
use Rattle.tds_c.specs.declared.service.packet.Halt.{Halt}
use Rattle.tds_c.specs.declared.service.packet.Halt.TheVariants as halts
use Rattle.tds_c.specs.declared.service.packet.walked.Pause.{Pause}
use Rattle.tds_c.specs.declared.service.packet.walked.Pause.TheVariants as pauses
use Rattle.tds_c.specs.declared.service.plain.TdsSeat.{TdsSeat}
use Rattle.tds_c.specs.declared.service.plain.TdsWhose.{TdsWhose}
use Rattle.tds_c.specs.service.ComesOn.{IsSpot, KeptOn, Spot, owner_on, table_with}
use Rattle.tds_c.specs.service.Hearing.{lease_number}
use Rattle.tds_c.specs.service.Packet.{HasPassed, Now, PacketStopsBehind, Reached, halt_number}
use Rattle.tds_c.specs.service.Plain.{place_of}

-- A seat and a parser, before bytes that are left.
pub record Start : Type 0 where
  pub seat : TdsSeat
  pub reading : Parser
  pub rest : List ℕ

abbrev pub reached : Spot → Start → Reached
reached s at = record { table = table_with s at.seat; reading = at.reading; rest = at.rest }

abbrev pub now_of : Spot → Start → Now
now_of s at = record { table = table_with s at.seat; reading = at.reading }

-- Tokens were heard one after the other, up to there, and those that are told stand at the front of the room.
pub record HasCome (first at : Start) (room : Room TdsWireToken) : Type 0 where
  pub kept : KeptOn first.seat at.seat
  pub passed : (s : Spot) → IsSpot s → first.seat.number ≡ s.number → HasPassed (owner_on s first.seat) (reached s first) (reached s at) room

-- They were, and there it stops.
pub record StopsHere (first at : Start) (ends : Bool) (room : Room TdsWireToken) (halt : Halt) : Type 0 where
  pub kept : KeptOn first.seat at.seat
  pub stops : (s : Spot) → IsSpot s → first.seat.number ≡ s.number
      → PacketStopsBehind (owner_on s first.seat) (reached s first) at.rest (now_of s at) ends room halt

-- Why no more tokens were heard: all bytes are done with, or it stops there.
abbrev pub PausesHere : Start → Start → Room TdsWireToken → Result Pause ListenFault → Type 0
PausesHere first at room (Ok pauses.Full) = StopsHere first at false room halts.Full
PausesHere first at room (Ok pauses.Through) = HasCome first at room × (at.rest ≡ [])
PausesHere first at room (Err fault) = StopsHere first at false room (halts.Broken fault)

-- ---- A call

-- What is handed to a call, or left by it.
pub record Given : Type 0 where
  pub seat : TdsSeat
  pub walk : TdsWire
  pub memory : Memory
  pub whose : TdsWhose

pub record Hearing : Type 0 where
  pub before : Given
  pub after : Given
  pub bytes : List ℕ
  pub ends : ℕ
  pub taken : ℕ
  pub room : Room TdsWireToken

-- The value is no walk's.
abbrev pub IsNothing : Hearing → ℕ → Type 0
IsNothing h n = (n ≡ 20) × (h.after ≡ h.before) × (h.taken ≡ 0) × (h.room.after ≡ h.room.before) × (h.room.count ≡ 0)

-- The bytes that are taken lead to where it stops, and whose it is is written.
pub record HearsHere (first : Start) (h : Hearing) (n : ℕ) : Type 0 where
  pub halt : Halt
  pub is : n ≡ halt_number halt
  pub next : Parser
  pub stands : reading_from h.after.walk h.after.memory ≡ Some next
  pub lease_is : h.after.whose.lease ≡ lease_number (lease_in (place_of first.seat))
  pub request_is : h.after.whose.request ≡ first.seat.asked
  pub within : h.taken ≤ length h.bytes
  pub stops : StopsHere first (record { seat = h.after.seat; reading = next; rest = drop h.taken h.bytes }) (truth h.ends) h.room halt

abbrev pub HearsBy : Option Parser → Hearing → ℕ → Type 0
HearsBy None h n = IsNothing h n
HearsBy (Some r) h n = HearsHere (record { seat = h.before.seat; reading = r; rest = h.bytes }) h n
