-- A packet as both ends send it (MS-TDS 2.2.3.1): SPID and Window are 0, and the Length counts the data.
use Rattle.std.specs.Prelude.{ℕ, ◌+◌, Bool, List, ◌++◌, length, if◌then◌else◌}
use Rattle.tds_packet.specs.declared.kind.Kind.{Kind}
use Rattle.tds_packet.specs.declared.header.Header.{Header}
use Rattle.tds_packet.specs.Layout.{header_bytes, status_of}

-- end of message, or nothing
abbrev pub end_bit : Bool → ℕ
end_bit last = if last then 1 else 0

-- the header of a packet with this type, this status, this PacketID and these data
abbrev pub sent_header : Kind → ℕ → ℕ → List ℕ → Header
sent_header type status id content =
    record { kind = type; status = status_of status; length = 8 + length content; spid = 0; packet_id = id; window = 0 }

-- its bytes
abbrev pub sent_bytes : Kind → ℕ → ℕ → List ℕ → List ℕ
sent_bytes type status id content = header_bytes (sent_header type status id content) ++ content
