-- A message that is put in parts, where what waits for a packet lies in the caller's memory.
use Rattle.std.specs.Prelude.{◌≡◌, ℕ, ◌+◌, ◌-◌, List, [], ◌++◌, length, take, drop}
use Rattle.tds_client.specs.declared.client.filling.Fill.{Fill}
use Rattle.tds_client.specs.declared.client.filling.Fill.TheVariants.{Kept, Packet}
use Rattle.tds_client.specs.declared.client.parts.ClientParts.{ClientParts}

-- The data of a full packet (MS-TDS 2.2.3.1.3).
abbrev pub room_of : ClientParts → ℕ
room_of p = p.size - 8

-- How many of these bytes a call takes: all, where they are kept; else those that end a packet, and one more.
abbrev pub taken_by : Fill → List ℕ → ℕ
taken_by Kept bytes = length bytes
taken_by (Packet header end) bytes = end + 1

-- What waits then.
abbrev pub kept_by : Fill → List ℕ → List ℕ → List ℕ
kept_by Kept kept bytes = kept ++ bytes
kept_by (Packet header end) kept bytes = take 1 (drop end bytes)

-- The packet that goes out, if one does: what waited and these bytes end it.
abbrev pub out_by : Fill → List ℕ → List ℕ → List ℕ
out_by Kept kept bytes = []
out_by (Packet header end) kept bytes = header ++ (kept ++ take end bytes)

-- A packet that goes out has a header of 8 bytes, and is full.
abbrev pub IsFull : ℕ → Fill → List ℕ → Type 0
IsFull room Kept kept = Unit {0}
IsFull room (Packet header end) kept = (length header ≡ 8) × (length kept + end ≡ room)
