-- Packets out of bytes, and packets of an answer taken.
use Rattle.std.specs.Prelude.{◌≡◌, ℕ, ◌<◌, ◌≤◌, ◌⊎◌, List, [], ◌∷◌, length, take, drop, Option, Some, None, Result, Ok, Err, ◌==◌, if◌then◌else◌}
use Rattle.tds_packet.specs.declared.kind.Direction.{Direction}
use Rattle.tds_packet.specs.declared.kind.Direction.TheVariants.{ToServer, ToClient}
use Rattle.tds_packet.specs.declared.header.Header.{Header}
use Rattle.tds_packet.specs.Faults.{header_fault, length_field}
use Rattle.tds_packet.specs.Layout.{bits_of, has_bit, header_bytes, kind_byte}
use Rattle.tds_packet.specs.Reading.{IsWhole}
use Rattle.tds_packet.specs.Size.{IsPacketSize}
use Rattle.tds_client.specs.declared.fault.ClientFault.{ClientFault}
use Rattle.tds_client.specs.declared.state.Taken.{Taken}
use Rattle.tds_client.specs.Session.{ClientSession}
use Rattle.tds_client.specs.Taking.{Hears, ClientMove, broken_by, taken}
use Rattle.tds_c.specs.declared.answers.Stop.{Stop}
use Rattle.tds_c.specs.declared.answers.Stop.TheVariants as stops
use Rattle.tds_c.specs.declared.client.TdsClient.{TdsClient}
use Rattle.tds_c.specs.declared.packets.TdsPacket.{TdsPacket}
use Rattle.tds_c.specs.Calls.{value_of}
use Rattle.tds_c.specs.Plain.{client_of}
use Rattle.tds_walk.specs.Rooms.{HasRead, Room}

unfoldable pub direction_from : ℕ → Option Direction
direction_from n = if n == 0 then Some ToServer else if n == 1 then Some ToClient else None

abbrev pub bytes_in : List ℕ → ℕ
bytes_in bytes = length bytes

-- So many bytes at the front as this header says are a packet. Its first eight spell the header, and the others are its data.
abbrev pub IsFront : Direction → ℕ → List ℕ → Header → List ℕ → Type 0
IsFront direction size bytes header content =
    (header.length ≤ length bytes) × (header_bytes header ≡ take 8 bytes) × (content ≡ drop 8 (take header.length bytes))
    × IsWhole (record { direction = direction; size = size; taken = take header.length bytes })

-- Why there is none: the header has a fault; or less than a packet is there, and the header, if it is, has no fault.
abbrev pub Unread : Direction → ℕ → List ℕ → Stop → Type 0
Unread direction size bytes stops.WantsBytes =
    (length bytes < 8) ⊎ ((header_fault direction size bytes ≡ None) × (length bytes < length_field bytes))
Unread direction size bytes (stops.Packet fault) = (8 ≤ length bytes) × (header_fault direction size bytes ≡ Some fault)
Unread direction size bytes _ = ⊥

-- ---- A packet as a plain value

abbrev pub ShowsPacket : TdsPacket → Header → Type 0
ShowsPacket p header = (p.length ≡ header.length) × (p.kind ≡ kind_byte header.kind) × (p.status ≡ bits_of header.status)

abbrev pub ReadsTo : Direction → ℕ → List ℕ → TdsPacket → TdsPacket → Result (Unit {0}) Stop → Type 0
ReadsTo direction size bytes old new (Ok done) =
    (header : Header) × (content : List ℕ) × IsFront direction size bytes header content × ShowsPacket new header
ReadsTo direction size bytes old new (Err stops.OutOfRange) = (¬ IsPacketSize size) × (new ≡ old)
ReadsTo direction size bytes old new (Err stops.NoClient) = Unread direction size bytes stops.NoClient × (new ≡ old)
ReadsTo direction size bytes old new (Err stops.NoRoom) = Unread direction size bytes stops.NoRoom × (new ≡ old)
ReadsTo direction size bytes old new (Err stops.WantsBytes) = Unread direction size bytes stops.WantsBytes × (new ≡ old)
ReadsTo direction size bytes old new (Err stops.NoPacket) = Unread direction size bytes stops.NoPacket × (new ≡ old)
ReadsTo direction size bytes old new (Err stops.NoPlace) = Unread direction size bytes stops.NoPlace × (new ≡ old)
ReadsTo direction size bytes old new (Err (stops.Refused refusal)) = Unread direction size bytes (stops.Refused refusal) × (new ≡ old)
ReadsTo direction size bytes old new (Err (stops.Packet fault)) = Unread direction size bytes (stops.Packet fault) × (new ≡ old)
ReadsTo direction size bytes old new (Err (stops.Token fault)) = Unread direction size bytes (stops.Token fault) × (new ≡ old)
ReadsTo direction size bytes old new (Err (stops.Client fault)) = Unread direction size bytes (stops.Client fault) × (new ≡ old)

abbrev pub Reads : Option Direction → ℕ → List ℕ → TdsPacket → TdsPacket → Result (Unit {0}) Stop → Type 0
Reads None size bytes old new result = (result ≡ Err stops.OutOfRange) × (new ≡ old)
Reads (Some direction) size bytes old new result = ReadsTo direction size bytes old new result

-- ---- Several packets in one call

-- `tds_packet_read` gives these packets one after the other, and then these bytes are left.
unfoldable pub AreFronts : Direction → ℕ → List ℕ → List TdsPacket → List ℕ → Type 0
AreFronts direction size bytes [] rest = bytes ≡ rest
AreFronts direction size bytes (p ∷ others) rest =
    (header : Header) × (content : List ℕ) × IsFront direction size bytes header content × ShowsPacket p header
    × AreFronts direction size (drop header.length bytes) others rest

-- So far these packets were read and written, and these bytes are left.
pub record HaveFronts (direction : Direction) (size : ℕ) (bytes rest : List ℕ) (room : Room TdsPacket) : Type 0 where
  pub read : List TdsPacket
  pub fronts : AreFronts direction size bytes read rest
  pub written : HasRead read room

-- Why no more were read: the room is full, or this is what `tds_packet_read` answers next.
abbrev pub EndsBefore : Direction → ℕ → List ℕ → Room TdsPacket → Result (Unit {0}) Stop → Type 0
EndsBefore direction size rest room (Ok done) = room.count ≡ length room.before
EndsBefore direction size rest room (Err stop) = Unread direction size rest stop

abbrev pub ReadsFronts : Direction → ℕ → List ℕ → Room TdsPacket → Result (Unit {0}) Stop → Type 0
ReadsFronts direction size bytes room result =
    (rest : List ℕ) × HaveFronts direction size bytes rest room × EndsBefore direction size rest room result

-- A size or a direction that is none is refused, and nothing was done.
abbrev pub IsOutOfRange : Room TdsPacket → Result (Unit {0}) Stop → Type 0
IsOutOfRange room result = (result ≡ Err stops.OutOfRange) × (room.after ≡ room.before) × (room.count ≡ 0)

abbrev pub ReadsMany : Option Direction → ℕ → List ℕ → Room TdsPacket → Result (Unit {0}) Stop → Type 0
ReadsMany None size bytes room result = IsOutOfRange room result
ReadsMany (Some direction) size bytes room result =
    (IsPacketSize size → ReadsFronts direction size bytes room result) × ((¬ IsPacketSize size) → IsOutOfRange room result)

-- ---- A packet of an answer

-- What the core makes of a packet with this header and these data.
abbrev pub taken_by : ClientSession → Header → List ℕ → Result ClientMove ClientFault
taken_by s header content = taken s (has_bit (bits_of header.status) 1) content

-- The bytes are one packet of an answer, and no more.
abbrev pub IsAnswer : ClientSession → List ℕ → Header → List ℕ → Type 0
IsAnswer s bytes header content = IsFront ToClient s.size bytes header content × (length bytes ≤ header.length)

abbrev pub TakesFrom : ClientSession → TdsClient → TdsClient → List ℕ → Result Taken Stop → Type 0
TakesFrom s old new bytes (Ok answer) =
    (header : Header) × (content : List ℕ) × (behind : ClientSession)
    × IsAnswer s bytes header content × Hears (taken_by s header content) answer behind × (new ≡ value_of behind 0)
TakesFrom s old new bytes (Err (stops.Client fault)) =
    (header : Header) × (content : List ℕ)
    × IsAnswer s bytes header content × (taken_by s header content ≡ Err fault) × (new ≡ value_of (broken_by s fault) 0)
TakesFrom s old new bytes (Err stops.NoPacket) =
    (header : Header) × (content : List ℕ) × IsFront ToClient s.size bytes header content × (header.length < length bytes) × (new ≡ old)
TakesFrom s old new bytes (Err stops.NoClient) = Unread ToClient s.size bytes stops.NoClient × (new ≡ old)
TakesFrom s old new bytes (Err stops.NoRoom) = Unread ToClient s.size bytes stops.NoRoom × (new ≡ old)
TakesFrom s old new bytes (Err stops.OutOfRange) = Unread ToClient s.size bytes stops.OutOfRange × (new ≡ old)
TakesFrom s old new bytes (Err stops.WantsBytes) = Unread ToClient s.size bytes stops.WantsBytes × (new ≡ old)
TakesFrom s old new bytes (Err stops.NoPlace) = Unread ToClient s.size bytes stops.NoPlace × (new ≡ old)
TakesFrom s old new bytes (Err (stops.Refused refusal)) = Unread ToClient s.size bytes (stops.Refused refusal) × (new ≡ old)
TakesFrom s old new bytes (Err (stops.Packet fault)) = Unread ToClient s.size bytes (stops.Packet fault) × (new ≡ old)
TakesFrom s old new bytes (Err (stops.Token fault)) = Unread ToClient s.size bytes (stops.Token fault) × (new ≡ old)

abbrev pub TakesBy : Option ClientSession → TdsClient → TdsClient → List ℕ → Result Taken Stop → Type 0
TakesBy None old new bytes result = (result ≡ Err stops.NoClient) × (new ≡ old)
TakesBy (Some s) old new bytes result = TakesFrom s old new bytes result

abbrev pub Takes : TdsClient → TdsClient → List ℕ → Result Taken Stop → Type 0
Takes old new bytes result = TakesBy (client_of old []) old new bytes result
