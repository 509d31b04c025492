-- A header without a fault begins a packet.
use Rattle.std.proofs.Common.{◌≡◌, ℕ, ◌+◌, ◌*◌, ◌<◌, ◌≤◌, ◌==◌, Bool, true, false, cond, inl, inr, is_none, Option, Some, None, List, [], ◌∷◌, ◌++◌, length, slice_index, take, drop, find, refl, sym, ap, subst, ◌∙◌, arith, length-drop}
use Rattle.std.proofs.lemmas.Bool.{cases_lt}
use Rattle.std.proofs.lemmas.Bool.Decides.{nat_tests}
use Rattle.std.proofs.lemmas.List.{length-take-le, take-append-drop, get_or-take, get_or_past}
use Rattle.tds_packet.specs.declared.kind.Kind.{Kind}
use Rattle.tds_packet.specs.declared.header.Header.{Header}
use Rattle.tds_packet.specs.Layout.{kind_byte, kinds, kind_of, bits_of, header_bytes, IsPacket}
use Rattle.tds_packet.specs.Faults.{length_field, fault_at, header_fault}
use Rattle.tds_packet.specs.Reading.{Reading, IsWhole}
use Rattle.tds_packet.specs.Stream.{AreBytes}
use Rattle.tds_packet.proofs.Headers.{header_bytes-read}
use Rattle.tds_packet.proofs.Faulty.{passes, packet_of}

-- what a find answers passes its test
found_here : (p : Kind → Bool) (x k : Kind) (rest : Option Kind) (b : Bool) → p x ≡ b → cond b (Some x) rest ≡ Some k → (rest ≡ Some k → p k ≡ true) → p k ≡ true
found_here p x k rest true e h later = let same : x ≡ k = cc in cc
found_here p x k rest false e h later = later h

find_holds : (p : Kind → Bool) (ks : List Kind) (k : Kind) → find p ks ≡ Some k → p k ≡ true
find_holds p [] k h = absurd (cc)
find_holds p (x ∷ ks) k h = found_here p x k (find p ks) (p x) refl h (find_holds p ks k)

kind_byte-found : (byte : ℕ) (k : Kind) → kind_of byte ≡ Some k → kind_byte k ≡ byte
unfolding kind_of
kind_byte-found byte k h = let test = find_holds (λ kind. kind_byte kind == byte) kinds k h in grind (arith, nat_tests, test)

-- the header that the first eight bytes spell, when the type is known
abbrev header_from : List ℕ → Kind → Header
header_from bytes k = record {
  kind = k;
  status = record { 0 = slice_index bytes 1 };
  length = length_field bytes;
  spid = 256 * slice_index bytes 4 + slice_index bytes 5;
  packet_id = slice_index bytes 6;
  window = slice_index bytes 7;
}

-- the first eight of some bytes
eight_ranged : (bytes : List ℕ) → AreBytes bytes → 8 ≤ length bytes → AreBytes (take 8 bytes)
eight_ranged bytes ranged long i = elim (cases_lt i 8) [
  | inl within ↦ let same = get_or-take 8 bytes i 0 within in let all = ranged i in omega (arith, same, all)
  | inr past ↦ let none = get_or_past (take 8 bytes) i 0 (omega (arith, length-take-le 8 bytes long)) in omega (arith, none)
]

header_from-spelled : (bytes : List ℕ) (k : Kind) → AreBytes bytes → 8 ≤ length bytes → kind_byte k ≡ slice_index bytes 0 → header_bytes (header_from bytes k) ≡ take 8 bytes
header_from-spelled bytes k ranged long typed =
    let at : (i : ℕ) → i < 8 → slice_index (take 8 bytes) i ≡ slice_index bytes i = λ i h. get_or-take 8 bytes i 0 h in
    header_bytes-read (take 8 bytes) (header_from bytes k) (length-take-le 8 bytes long) (eight_ranged bytes ranged long)
    (typed ∙ sym (at 0 (omega arith))) (sym (at 1 (omega arith)))
    (omega (arith, at 2 (omega arith), at 3 (omega arith))) (omega (arith, at 4 (omega arith), at 5 (omega arith)))
    (sym (at 6 (omega arith))) (sym (at 7 (omega arith)))

by_kind : (r : Reading) → AreBytes r.taken → 8 ≤ length r.taken → header_fault r.direction r.size r.taken ≡ None → length_field r.taken ≡ length r.taken → (o : Option Kind) → kind_of (slice_index r.taken 0) ≡ o → IsWhole r
by_kind r ranged long none counted None e =
    let known = (passes r.direction r.size _ _ _ none).known in
    let unknown = ap is_none e in
    absurd (cc)
by_kind r ranged long none counted (Some k) e =
    let typed = kind_byte-found (slice_index r.taken 0) k e in
    let h = header_from r.taken k in
    let content : List ℕ = drop 8 r.taken in
    let fault : fault_at r.direction r.size (kind_byte h.kind) (bits_of h.status) h.length ≡ None = ap (λ byte. fault_at r.direction r.size byte (slice_index r.taken 1) (length_field r.taken)) typed ∙ none in
    let len : h.length ≡ 8 + length content = counted ∙ omega (arith, length-drop 8 r.taken) in
    let spelled : header_bytes h ++ content ≡ r.taken = ap (λ (xs : List ℕ). xs ++ content) (header_from-spelled r.taken k ranged long typed) ∙ take-append-drop 8 r.taken in
    (h, content, subst (λ (bytes : List ℕ). IsPacket r.direction r.size bytes h content) spelled (packet_of r.direction r.size h content fault len))

pub no_fault_is_a_packet : (r : Reading) → AreBytes r.taken → 8 ≤ length r.taken → header_fault r.direction r.size r.taken ≡ None → length_field r.taken ≡ length r.taken → IsWhole r
no_fault_is_a_packet r ranged long none counted = by_kind r ranged long none counted _ refl
