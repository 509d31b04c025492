-- What is wrong with a header (MS-TDS 2.2.3.1): the first of six faults, in the order of `all_faults`.
use Rattle.std.specs.Prelude.{ℕ, ◌+◌, ◌*◌, ◌==◌, ◌&&◌, not, nat_lt, Bool, true, false, List, [], ◌∷◌, find, Option, Some, None, is_none, slice_index}
use Rattle.tds_packet.specs.declared.kind.Kind.{Kind}
use Rattle.tds_packet.specs.declared.kind.Direction.{Direction}
use Rattle.tds_packet.specs.declared.kind.Direction.TheVariants.{ToServer, ToClient}
use Rattle.tds_packet.specs.declared.fault.PacketFault.{PacketFault}
use Rattle.tds_packet.specs.declared.fault.PacketFault.TheVariants.{UnknownType, OtherDirection, ShortLength, LongLength, WrongStatus, EmptyPart}
use Rattle.tds_packet.specs.Layout.{kind_of, direction_of, has_bit, is_status}

-- whether the type goes the other way
abbrev pub is_other : Direction → Direction → Bool
is_other ToServer ToServer = false
is_other ToServer ToClient = true
is_other ToClient ToServer = true
is_other ToClient ToClient = false

abbrev pub goes_other_way : Direction → Option Kind → Bool
goes_other_way direction None = false
goes_other_way direction (Some kind) = is_other direction (direction_of kind)

-- whether a fault applies to a header with this type's byte, this status and this length
abbrev pub applies : Direction → ℕ → ℕ → ℕ → ℕ → PacketFault → Bool
applies direction size byte status length UnknownType = is_none (kind_of byte)
applies direction size byte status length OtherDirection = goes_other_way direction (kind_of byte)
applies direction size byte status length ShortLength = nat_lt length 8
applies direction size byte status length LongLength = nat_lt size length
applies direction size byte status length WrongStatus = not (is_status direction status)
applies direction size byte status length EmptyPart = (length == 8) && not (has_bit status 1)

-- in the order in which they are looked for
abbrev pub all_faults : List PacketFault
all_faults = UnknownType ∷ OtherDirection ∷ ShortLength ∷ LongLength ∷ WrongStatus ∷ EmptyPart ∷ []

-- the number of each fault
abbrev pub fault_number : PacketFault → ℕ
fault_number UnknownType = 1
fault_number OtherDirection = 2
fault_number ShortLength = 3
fault_number LongLength = 4
fault_number WrongStatus = 5
fault_number EmptyPart = 6

-- the length that a header's bytes give
abbrev pub length_field : List ℕ → ℕ
length_field bytes = 256 * slice_index bytes 2 + slice_index bytes 3

-- the first fault that applies to a header with this type's byte, this status and this length
unfoldable pub fault_at : Direction → ℕ → ℕ → ℕ → ℕ → Option PacketFault
fault_at direction size byte status length = find (applies direction size byte status length) all_faults

-- the first fault that applies to a header's eight bytes, or none
abbrev pub header_fault : Direction → ℕ → List ℕ → Option PacketFault
header_fault direction size bytes = fault_at direction size (slice_index bytes 0) (slice_index bytes 1) (length_field bytes)
