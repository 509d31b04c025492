-- A header without a fault has a length of its own eight bytes at least.
use Rattle.std.proofs.Common.{◌≡◌, refl, ℕ, ◌≤◌, nat_lt, Bool, true, false, List, [], ◌∷◌, cond, find, Option, Some, None, if◌then◌else◌, slice_index}
use Rattle.std.proofs.lemmas.Bool.{ltb-false}
use Rattle.tds_packet.specs.declared.kind.Direction.TheVariants.{ToClient}
use Rattle.tds_packet.specs.declared.fault.PacketFault.{PacketFault}
use Rattle.tds_packet.specs.declared.fault.PacketFault.TheVariants.{UnknownType, OtherDirection, ShortLength, LongLength, WrongStatus, EmptyPart}
use Rattle.tds_packet.specs.Layout.{has_bit}
use Rattle.tds_packet.specs.Faults.{applies, fault_at, header_fault, length_field}
use Rattle.tds_show.specs.declared.tokens.front.Front.TheVariants.{Cut, Packet}
use Rattle.tds_show.specs.Packets.{IsFront, by_length}

-- a fault that isn't found doesn't apply
third : (a b c : Bool) (x y z : PacketFault) (others : Option PacketFault) → cond a (Some x) (cond b (Some y) (cond c (Some z) others)) ≡ None → c ≡ false
third true b c x y z others h = cc
third false true c x y z others h = cc
third false false true x y z others h = cc
third false false false x y z others h = refl

long_enough : (head : List ℕ) → header_fault ToClient 32767 head ≡ None → 8 ≤ length_field head
unfolding fault_at
long_enough head h =
    let test : PacketFault → Bool = applies ToClient 32767 (slice_index head 0) (slice_index head 1) (length_field head) in
    ltb-false (length_field head) 8
    (third (test UnknownType) (test OtherDirection) (test ShortLength) UnknownType OtherDirection ShortLength (find test (LongLength ∷ WrongStatus ∷ EmptyPart ∷ [])) h)

within_by : (b : Bool) (head : List ℕ) (count : ℕ) → nat_lt count (length_field head) ≡ b → 8 ≤ length_field head
    → IsFront (if b then Cut else Packet (length_field head) (has_bit (slice_index head 1) 1)) count
within_by true head count e h = tt
within_by false head count e h = (h, ltb-false count (length_field head) e)

pub whole_front : (head : List ℕ) (count : ℕ) → header_fault ToClient 32767 head ≡ None → IsFront (by_length head count) count
whole_front head count h = within_by (nat_lt count (length_field head)) head count refl (long_enough head h)
