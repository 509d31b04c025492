-- How a server's answer is gathered, packet by packet.
use Rattle.std.specs.Prelude.{ℕ, ◌≡◌, nat_lt, List, ◌++◌, length, drop, slice_index, true, if◌then◌else◌}
use Rattle.tds_packet.specs.Layout.{has_bit}
use Rattle.tds_packet.specs.Reading.{Reading, IsWhole, up_to_end, with_taken}

-- the packet that has come with these bytes, or what there is of it
abbrev pub packet_with : Reading → List ℕ → List ℕ
packet_with reader bytes = up_to_end reader (reader.taken ++ bytes)

-- the answer with that packet's data; where more than 65,536 bytes are known no more is kept
abbrev pub answer_with : List ℕ → Reading → List ℕ → List ℕ
answer_with answer reader bytes = if nat_lt 65536 (length answer) then answer else answer ++ drop 8 (packet_with reader bytes)

-- that packet is whole
abbrev pub HasPacket : Reading → List ℕ → Type 0
HasPacket reader bytes = IsWhole (with_taken reader (packet_with reader bytes))

-- it ends a message
abbrev pub EndsMessage : Reading → List ℕ → Type 0
EndsMessage reader bytes = HasPacket reader bytes × (has_bit (slice_index (packet_with reader bytes) 1) 1 ≡ true)
