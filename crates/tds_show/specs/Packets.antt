-- The packet at the front of bytes (MS-TDS 2.2.3), as a client reads it.
use Rattle.std.specs.Prelude.{ℕ, ◌≤◌, ◌==◌, nat_lt, List, length, take, slice_index, slice_range, Option, Some, None, if◌then◌else◌}
use Rattle.tds_packet.specs.declared.kind.Direction.TheVariants.{ToClient}
use Rattle.tds_packet.specs.declared.fault.PacketFault.{PacketFault}
use Rattle.tds_packet.specs.Layout.{has_bit}
use Rattle.tds_packet.specs.Faults.{header_fault, length_field}
use Rattle.tds_show.specs.declared.tokens.front.Front.{Front}
use Rattle.tds_show.specs.declared.tokens.front.Front.TheVariants.{Nothing, Cut, Refused, Packet}

-- a header without a fault, in front of so many bytes that count its own
abbrev pub by_length : List ℕ → ℕ → Front
by_length head count = if nat_lt count (length_field head) then Cut else Packet (length_field head) (has_bit (slice_index head 1) 1)

abbrev pub by_fault : Option PacketFault → List ℕ → ℕ → Front
by_fault (Some fault) head count = Refused fault
by_fault None head count = by_length head count

-- after the first eight bytes
abbrev pub by_header : List ℕ → ℕ → Front
by_header head count = by_fault (header_fault ToClient 32767 head) head count

unfoldable pub front : List ℕ → Front
front bytes = if length bytes == 0 then Nothing else if nat_lt (length bytes) 8 then Cut else by_header (take 8 bytes) (length bytes)

-- a packet has a header, and no more bytes than there are
abbrev pub IsFront : Front → ℕ → Type 0
IsFront Nothing count = Unit {0}
IsFront Cut count = Unit {0}
IsFront (Refused fault) count = Unit {0}
IsFront (Packet n ends) count = (8 ≤ n) × (n ≤ count)

-- its data
abbrev pub content : ℕ → List ℕ → List ℕ
content n bytes = slice_range bytes 8 n
