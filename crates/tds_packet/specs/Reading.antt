-- What a reader of packets has taken, and where the packet ends.
use Rattle.std.specs.Prelude.{ℕ, nat_lt, List, [], ◌∷◌, ◌++◌, length, take, Option, None, is_some, if◌then◌else◌}
use Rattle.tds_packet.specs.declared.kind.Direction.{Direction}
use Rattle.tds_packet.specs.declared.fault.PacketFault.{PacketFault}
use Rattle.tds_packet.specs.declared.header.Header.{Header}
use Rattle.tds_packet.specs.Layout.{IsPacket}
use Rattle.tds_packet.specs.Faults.{length_field, header_fault}

-- which packets are read, and the bytes taken since the last packet was done
pub record Reading : Type 0 where
  pub direction : Direction
  pub size : ℕ
  pub taken : List ℕ

-- the same reader when these bytes are taken
abbrev pub with_taken : Reading → List ℕ → Reading
with_taken r bytes = record r { taken = bytes }

-- the fault of the header that the bytes begin with, once it is there
unfoldable pub fault_of : Reading → List ℕ → Option PacketFault
fault_of r bytes = if nat_lt (length bytes) 8 then None else header_fault r.direction r.size bytes

-- where the packet ends that the bytes begin with, as far as they tell: behind the header, if that is not there yet or has a
-- fault, and else where its length says
unfoldable pub end_of : Reading → List ℕ → ℕ
end_of r bytes = if nat_lt (length bytes) 8 then 8 else if is_some (header_fault r.direction r.size bytes) then 8 else length_field bytes

-- the bytes, up to the end of one packet
abbrev pub up_to_end : Reading → List ℕ → List ℕ
up_to_end r bytes = take (end_of r bytes) bytes

-- the bytes taken are a packet
abbrev pub IsWhole : Reading → Type 0
IsWhole r = (header : Header) × (content : List ℕ) × IsPacket r.direction r.size r.taken header content

-- what a reader takes of pieces that come one after another, from what it had taken
abbrev pub after_pieces : Reading → List ℕ → List (List ℕ) → List ℕ
after_pieces r taken [] = taken
after_pieces r taken (piece ∷ pieces) = after_pieces r (up_to_end r (taken ++ piece)) pieces

-- the pieces, joined
abbrev pub joined : List (List ℕ) → List ℕ
joined [] = []
joined (piece ∷ pieces) = piece ++ joined pieces
