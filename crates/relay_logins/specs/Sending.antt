-- How a login is sent: in packets of type 16 (MS-TDS 2.2.3.1, 2.2.6.4), of 4,096 bytes at most.
use Rattle.std.specs.Prelude.{ℕ, suc, ◌+◌, ◌/◌, ◌%◌, nat_lt, List, [], ◌∷◌, ◌++◌, length, take, drop, if◌then◌else◌}

-- a packet with this status, and these bytes
abbrev pub packet : ℕ → List ℕ → List ℕ
packet status bytes = (16 ∷ status ∷ (length bytes + 8) / 256 ∷ (length bytes + 8) % 256 ∷ 0 ∷ 0 ∷ 1 ∷ 0 ∷ []) ++ bytes

-- the status of the first packet of these bytes: it ends the message where it has room for all
abbrev pub status_before : List ℕ → ℕ
status_before bytes = if nat_lt 4088 (length bytes) then 0 else 1

abbrev pub packet_of : List ℕ → List ℕ
packet_of bytes = packet (status_before bytes) (take 4088 bytes)

-- these bytes in packets, as many as are wanted, and no more than this
unfoldable pub packets_of : ℕ → List ℕ → List ℕ
packets_of (suc most) (byte ∷ bytes) = packet_of (byte ∷ bytes) ++ packets_of most (drop 4088 (byte ∷ bytes))
packets_of _ _ = []

-- these bytes in packets
abbrev pub login_packets : List ℕ → List ℕ
login_packets bytes = packets_of (length bytes) bytes
