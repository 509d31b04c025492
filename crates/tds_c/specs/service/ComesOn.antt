-- What comes on one seat, before it is put back in the table: what its client hears of a walk's findings, one after the other.
use Rattle.std.specs.Prelude.{◌≡◌, ℕ, ◌≤◌, Bool, true, false, List, [], length, slice_set}
use Rattle.tds_listen.specs.declared.fault.ListenFault.{ListenFault}
use Rattle.tds_wire.specs.declared.told.Token.{Token}
use Rattle.tds_wire.specs.Reading.{Found, Inside, Parser, Refuses, Sees}
use Rattle.tds_service.specs.Line as line
use Rattle.tds_service.specs.Line.{Answer, LineStage}
use Rattle.tds_service.specs.Parts.{Part}
use Rattle.tds_service.specs.Service.{Service, drained, has_number, lease_in}
use Rattle.tds_service.specs.Ties.{Hears, part_of}
use Rattle.tds_c.specs.declared.service.plain.TdsSeat.{TdsSeat}
use Rattle.tds_c.specs.declared.service.plain.TdsService.{TdsService}
use Rattle.tds_c.specs.service.Clients.{apart}
use Rattle.tds_c.specs.service.Packet.{Owner}
use Rattle.tds_c.specs.service.Plain.{line_of, place_of, table_of, used}
use Rattle.tds_c.specs.service.Table.{FirstMet}

-- Its client hears a part, answers so, and these tokens are told; one that drains is put where it is then.
pub record HeardOn (part : Part Token) (c z : TdsSeat) (answer : Answer) (tokens : List Token) : Type 0 where
  pub hears : Hears part (line_of c) (line_of z) answer tokens
  pub place_is : place_of z ≡ drained (place_of c) (line_of z).stage
  pub number_is : z.number ≡ c.number
  pub apart_is : apart z.client ≡ apart c.client

-- What the parser finds next is heard on it; bytes that end no token are not.
abbrev pub MovesOn : Found → (c z : TdsSeat) → Parser → List ℕ → List Token → Type 0
MovesOn (Sees token r rest) c z reading left told = (reading ≡ r) × (left ≡ rest) × HeardOn (part_of (Sees token r rest)) c z line.More told
MovesOn (Inside r) c z reading left told = (reading ≡ r) × (left ≡ []) × (z ≡ c) × (told ≡ [])
MovesOn (Refuses refusal) c z reading left told = ⊥

-- Its client is broken by that.
abbrev pub BreaksOn : Found → (c z : TdsSeat) → ListenFault → Type 0
BreaksOn (Sees token r rest) c z fault = HeardOn (part_of (Sees token r rest)) c z (line.Fault fault) []
BreaksOn (Inside r) c z fault = ⊥
BreaksOn (Refuses refusal) c z fault = HeardOn (part_of (Refuses refusal)) c z (line.Fault fault) []

-- What stays, whatever comes.
pub record KeptOn (c z : TdsSeat) : Type 0 where
  pub number_is : z.number ≡ c.number
  pub asked_is : z.asked ≡ c.asked
  pub lease_is : lease_in (place_of z) ≡ lease_in (place_of c)
  pub apart_is : apart z.client ≡ apart c.client

abbrev pub is_reading : LineStage → Bool
is_reading line.Reading = true
is_reading _ = false

-- ---- Where it stands

-- A table's array, and the first connection of a number in it.
pub record Spot : Type 0 where
  pub service : TdsService
  pub seats : List TdsSeat
  pub index : ℕ
  pub number : ℕ

pub record IsSpot (s : Spot) : Type 0 where
  pub fits : s.service.count ≤ length s.seats
  pub met : FirstMet (has_number s.number) (used s.service s.seats) s.index

-- The table with this seat there.
abbrev pub table_with : Spot → TdsSeat → Service
table_with s c = table_of s.service (slice_set s.seats s.index c)

abbrev pub owner_on : Spot → TdsSeat → Owner
owner_on s c = record { number = s.number; lease = lease_in (place_of c); request = c.asked }
