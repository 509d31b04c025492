-- The layout of a packet: eight bytes of header, and then the data (MS-TDS 2.2.3.1 and 2.2.3.2).
use Rattle.std.specs.Prelude.{◌≡◌, ℕ, ◌+◌, ◌/◌, ◌%◌, ◌≤◌, ◌==◌, ◌||◌, ◌&&◌, Bool, true, false, List, [], ◌∷◌, ◌++◌, length, find, Option, Some, None, if◌then◌else◌}
use Rattle.std.specs.Int.RustNames.{bit_and}
use Rattle.tds_packet.specs.declared.kind.Kind.{Kind}
use Rattle.tds_packet.specs.declared.kind.Kind.TheVariants.{Batch, Procedure, Answer, Attention, BulkLoad, Transaction}
use Rattle.tds_packet.specs.declared.kind.Direction.{Direction}
use Rattle.tds_packet.specs.declared.kind.Direction.TheVariants.{ToServer, ToClient}
use Rattle.tds_packet.specs.declared.status.Reset.{Reset}
use Rattle.tds_packet.specs.declared.status.Reset.TheVariants.{Full, KeepTransaction}
use Rattle.tds_packet.specs.declared.status.Status.{Status}
use Rattle.tds_packet.specs.declared.header.Header.{Header}

-- a status as a number
abbrev pub bits_of : Status → ℕ
bits_of s = s.0

-- the status of these bits
abbrev pub status_of : ℕ → Status
status_of bits = record { 0 = bits }

-- the byte of each type (MS-TDS 2.2.3.1.1)
abbrev pub kind_byte : Kind → ℕ
kind_byte Batch = 1
kind_byte Procedure = 3
kind_byte Answer = 4
kind_byte Attention = 6
kind_byte BulkLoad = 7
kind_byte Transaction = 14

-- the types that are read
abbrev pub kinds : List Kind
kinds = Batch ∷ Answer ∷ Attention ∷ Transaction ∷ []

-- the type that is read where this byte stands
unfoldable pub kind_of : ℕ → Option Kind
kind_of byte = find (λ kind. kind_byte kind == byte) kinds

-- calls of procedures and bulk loads are written, and not read
abbrev pub is_read : Kind → Bool
is_read Procedure = false
is_read BulkLoad = false
is_read _ = true

-- the way that each type goes: answers to the client, all else to the server
abbrev pub direction_of : Kind → Direction
direction_of Answer = ToClient
direction_of _ = ToServer

-- a number of two bytes, the higher byte first
abbrev pub two_bytes : ℕ → List ℕ
two_bytes n = n / 256 ∷ n % 256 ∷ []

-- the eight bytes of a header, in order: type, status, length, SPID, PacketID, window
abbrev pub header_bytes : Header → List ℕ
header_bytes h = kind_byte h.kind ∷ bits_of h.status ∷ (two_bytes h.length ++ (two_bytes h.spid ++ h.packet_id ∷ h.window ∷ []))

-- a status has this bit
abbrev pub has_bit : ℕ → ℕ → Bool
has_bit status bit = bit_and status bit == bit

-- the bits of a status (MS-TDS 2.2.3.1.2): 01 end of message, 02 ignore this message, 08 reset, 10 reset and keep the transaction
abbrev pub all_bits : ℕ
all_bits = 27

-- a packet to the server has those bits alone, and one to the client none or the first
unfoldable pub is_status : Direction → ℕ → Bool
is_status ToServer status = bit_and status all_bits == status
is_status ToClient status = (status == 0) || (status == 1)

-- the reset that a status asks for; none where it has neither or both bits
abbrev pub reset_of : ℕ → Option Reset
reset_of status =
    if has_bit status 8 then (if has_bit status 16 then None else Some Full)
    else (if has_bit status 16 then Some KeepTransaction else None)

-- both resets are asked for
abbrev pub has_both_resets : ℕ → Bool
has_both_resets status = has_bit status 8 && has_bit status 16

-- The bytes are laid out as a packet of this direction and packet size, of any type, with this header and these data.
pub record IsLaidOut (direction : Direction) (size : ℕ) (bytes : List ℕ) (header : Header) (content : List ℕ) : Type 0 where
  pub spelled : bytes ≡ header_bytes header ++ content
  pub counted : header.length ≡ 8 + length content
  pub fits : header.length ≤ size
  pub directed : direction_of header.kind ≡ direction
  pub status : is_status direction (bits_of header.status) ≡ true
  -- only the end of a message has no data
  pub ends : content ≡ [] → has_bit (bits_of header.status) 1 ≡ true

-- They are such a packet, of a type that is read.
pub record IsPacket (direction : Direction) (size : ℕ) (bytes : List ℕ) (header : Header) (content : List ℕ) : Type 0 where
  pub laid_out : IsLaidOut direction size bytes header content
  pub is_read : is_read header.kind ≡ true
