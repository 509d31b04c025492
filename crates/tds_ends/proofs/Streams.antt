-- What a reader takes of bytes that come.
use Rattle.std.proofs.Common.{◌≡◌, ◌∙◌, ◌<◌, ◌≤◌, inl, inr, ℕ, true, false, List, [], ◌∷◌, ◌++◌, length, take, min, sym, refl, None, Some, append-nil, arith, length-take, subst}
use Rattle.std.proofs.lemmas.Bool.{cases_lt}
use Rattle.std.proofs.lemmas.Bool.Decides.{nat_tests}
use Rattle.std.proofs.lemmas.List.{get_or-take}
use Rattle.std.specs.Prelude.{slice_index, nat_lt}
use Rattle.tds_packet.specs.declared.fault.PacketFault.{PacketFault}
use Rattle.tds_packet.specs.declared.header.Header.{Header}
use Rattle.tds_packet.specs.Faults.{header_fault}
use Rattle.tds_packet.specs.Layout.{IsPacket}
use Rattle.tds_packet.specs.Reading.{Reading, with_taken, fault_of, end_of, up_to_end, after_pieces, joined, IsWhole}
use Rattle.tds_packet.specs.Stream.{IsOnePacket, IsLess}

-- What the packet layer says of packets at the front, and of fronts of packets.
abbrev pub WhateverFollows : Type 0
WhateverFollows =
    (r : Reading) (packet rest content : List ℕ) (header : Header) (pieces : List (List ℕ))
    → IsPacket r.direction r.size packet header content → joined pieces ≡ packet ++ rest
    → after_pieces r [] pieces ≡ packet

abbrev pub Fronts : Type 0
Fronts =
    (r : Reading) (front more content : List ℕ) (header : Header)
    → IsPacket r.direction r.size (front ++ more) header content
    → (fault_of r front ≡ None) × (IsOnePacket r front → more ≡ [])

-- Of bytes that a packet begins, the reader takes that packet.
pub taken_is : WhateverFollows → (r : Reading) (bytes packet more : List ℕ) → bytes ≡ packet ++ more → IsOnePacket r packet → up_to_end r bytes ≡ packet
taken_is follows r bytes packet more e (header, content, is) =
    follows r packet more content header (bytes ∷ []) is (append-nil bytes ∙ e)

pub less : WhateverFollows → (r : Reading) (bytes : List ℕ) → up_to_end r bytes ≡ bytes → ¬ IsWhole (with_taken r bytes) → IsLess r bytes
less follows r bytes all not packet more e one =
    not (subst (λ (xs : List ℕ). IsWhole (with_taken r xs)) (sym (taken_is follows r bytes packet more e one) ∙ all) one)

-- A fault of what was taken is one of all the bytes.
same_at : (n : ℕ) (xs : List ℕ) (i : ℕ) → 8 ≤ n → i < 8 → slice_index (take n xs) i ≡ slice_index xs i
same_at n xs i long small = get_or-take n xs i 0 (omega (arith, long, small))

pub same_fault : (r : Reading) (n : ℕ) (xs : List ℕ) → 8 ≤ n → header_fault r.direction r.size (take n xs) ≡ header_fault r.direction r.size xs
same_fault r n xs long =
    rw (same_at n xs 0 long (omega arith), same_at n xs 1 long (omega arith), same_at n xs 2 long (omega arith), same_at n xs 3 long (omega arith)) refl

short : (r : Reading) (bytes : List ℕ) → length bytes < 8 → fault_of r bytes ≡ None
unfolding fault_of
short r bytes h = let t : nat_lt (length bytes) 8 ≡ true = grind (arith, nat_tests, h) in rw t refl

pub long : (r : Reading) (bytes : List ℕ) → 8 ≤ length bytes → fault_of r bytes ≡ header_fault r.direction r.size bytes
unfolding fault_of
long r bytes h = let t : nat_lt (length bytes) 8 ≡ false = grind (arith, nat_tests, h) in rw t refl

pub still_faulty : (r : Reading) (n : ℕ) (bytes : List ℕ) (fault : PacketFault) → fault_of r (take n bytes) ≡ Some fault → fault_of r bytes ≡ Some fault
still_faulty r n bytes fault e = elim (cases_lt (length (take n bytes)) 8) [
  | inl few ↦ let none = short r (take n bytes) few in absurd (cc)
  | inr many ↦
      let some : length (take n bytes) ≡ min n (length bytes) = length-take n bytes in
      long r bytes (omega (arith, some, many))
      ∙ sym (same_fault r n bytes (omega (arith, some, many)))
      ∙ sym (long r (take n bytes) many) ∙ e
]

pub faulty : WhateverFollows → Fronts → (r : Reading) (bytes : List ℕ) (fault : PacketFault) → fault_of r (up_to_end r bytes) ≡ Some fault → IsLess r bytes × (fault_of r bytes ≡ Some fault)
faulty follows fronts r bytes fault e = (
  λ packet more is one.
      let front : up_to_end r bytes ≡ packet = taken_is follows r bytes packet more is one in
      let none = (fronts r packet [] one.1 one.0 (rw (append-nil packet) one.2)).0 in
      let found : fault_of r packet ≡ Some fault = subst (λ (xs : List ℕ). fault_of r xs ≡ Some fault) front e in
      absurd (cc),
  still_faulty r (end_of r bytes) bytes fault e,
)
