-- Packets one behind another.
use Rattle.std.proofs.Common.{◌≡◌, ℕ, ◌≤◌, Bool, true, false, if◌then◌else◌, is_none, inl, inr, ◌+◌, Option, Some, None, List, [], ◌∷◌, ◌++◌, length, refl, sym, ap, subst, ◌∙◌, arith, append_assoc, append-nil}
use Rattle.std.specs.List.{AllByRecursion}
use Rattle.std.proofs.lemmas.Bool.Decides.{nat_tests}
use Rattle.std.proofs.lemmas.Bool.{cases_lt}
use Rattle.std.proofs.lemmas.List.{get_or_append_left, get_or_past, get_or-append-add}
use Rattle.tds_packet.specs.declared.fault.PacketFault.{PacketFault}
use Rattle.tds_packet.specs.declared.header.Header.{Header}
use Rattle.tds_packet.specs.Layout.{IsPacket}
use Rattle.tds_packet.specs.Faults.{length_field, header_fault}
use Rattle.tds_packet.specs.Reading.{Reading, with_taken, up_to_end, joined}
use Rattle.tds_packet.specs.Stream.{AreBytes, IsOnePacket, IsLess, is_whole, AreRuns, packets_in, left_by}
use Rattle.tds_packet.proofs.Faulty.{spelled_packet}
use Rattle.tds_packet.proofs.Readings.{up_to_end-all}
use Rattle.tds_packet.proofs.Cutting.{ends_at_packet}
use Rattle.tds_packet.proofs.Prefixes.{one_packet}
use Rattle.tds_packet.proofs.Lawful.{no_fault_is_a_packet}

-- the test of a whole packet
whole_passes : (r : Reading) (bytes content : List ℕ) (h : Header) → IsPacket r.direction r.size bytes h content → is_whole r bytes ≡ true
unfolding is_whole
whole_passes r bytes content h p =
    let s = spelled_packet r.direction r.size bytes h content p in
    let none = s.none in
    rw none (grind (arith, nat_tests, s.long, s.counted))

no_fault : (o : Option PacketFault) → is_none o ≡ true → o ≡ None
no_fault None h = refl
no_fault (Some f) h = absurd (cc)

passes_whole : (r : Reading) (bytes : List ℕ) → AreBytes bytes → is_whole r bytes ≡ true → IsOnePacket r bytes
unfolding is_whole
passes_whole r bytes ranged test =
    let long : 8 ≤ length bytes = grind (arith, nat_tests, test) in
    let lawful : is_none (header_fault r.direction r.size bytes) ≡ true = grind (arith, nat_tests, test) in
    let counted : length_field bytes ≡ length bytes = grind (arith, nat_tests, test) in
    no_fault_is_a_packet (with_taken r bytes) ranged long (no_fault _ lawful) counted

-- the front of a list of bytes, and what is behind it
front_ranged : (a b : List ℕ) → AreBytes (a ++ b) → AreBytes a
front_ranged a b ranged i = elim (cases_lt i (length a)) [
  | inl within ↦ let same = get_or_append_left a b 0 i within in let all = ranged i in omega (arith, same, all)
  | inr past ↦ let none = get_or_past a i 0 past in omega (arith, none)
]

rest_ranged : (a b : List ℕ) → AreBytes (a ++ b) → AreBytes b
rest_ranged a b ranged i = let same = get_or-append-add a b i 0 in let all = ranged (length a + i) in omega (arith, same, all)

-- nothing taken is no packet, and goes no further than one
nothing_taken : (r : Reading) → up_to_end r [] ≡ []
nothing_taken r = up_to_end-all r [] (omega arith)

nothing_whole : (r : Reading) → is_whole r [] ≡ false
unfolding is_whole
nothing_whole r = refl

-- From what was taken, as less than a packet, these runs give these packets and leave this rest.
abbrev ReadsSo : Reading → List ℕ → List (List ℕ) → Type 0
ReadsSo r rest runs = (packets : List (List ℕ)) (taken : List ℕ) → AllByRecursion (IsOnePacket r) packets
    → up_to_end r taken ≡ taken → is_whole r taken ≡ false → AreBytes (taken ++ joined runs) → AreRuns r taken runs
    → taken ++ joined runs ≡ joined packets ++ rest
    → (packets_in r taken runs ≡ packets) × (left_by r taken runs ≡ rest)

-- no run is left: a packet that is there would have been whole
no_run : (r : Reading) (rest : List ℕ) → ReadsSo r rest []
no_run r rest [] taken all part less ranged are e = (refl, sym (append-nil taken) ∙ e)
no_run r rest (packet ∷ packets) taken all part less ranged are e =
    let p = all.0 in
    let more : List ℕ = joined packets ++ rest in
    let begins : taken ≡ packet ++ more = sym (append-nil taken) ∙ e ∙ append_assoc packet (joined packets) rest in
    let same : taken ≡ packet = sym part ∙ ap (up_to_end r) begins ∙ ends_at_packet r packet more p.1 p.0 p.2 in
    let whole : is_whole r taken ≡ true = ap (is_whole r) same ∙ whole_passes r packet p.1 p.0 p.2 in
    absurd (cc)

-- a run that ends a packet: it is the first of the stream
ends_packet : (r : Reading) (rest taken : List ℕ) (runs packets : List (List ℕ)) → IsLess r rest → ReadsSo r rest runs
    → AllByRecursion (IsOnePacket r) packets → is_whole r taken ≡ true → AreBytes (taken ++ joined runs) → AreRuns r [] runs
    → taken ++ joined runs ≡ joined packets ++ rest
    → (taken ∷ packets_in r [] runs ≡ packets) × (left_by r [] runs ≡ rest)
ends_packet r rest taken runs [] less later all whole ranged are e =
    absurd (less taken (joined runs) (sym e) (passes_whole r taken (front_ranged taken (joined runs) ranged) whole))
ends_packet r rest taken runs (packet ∷ packets) less later all whole ranged are e =
    let p = all.0 in
    let t = passes_whole r taken (front_ranged taken (joined runs) ranged) whole in
    let both = one_packet r.direction r.size taken packet (joined runs) (joined packets ++ rest) t.1 p.1 t.0 p.0 t.2 p.2 (e ∙ append_assoc packet (joined packets) rest) in
    let behind = later packets [] all.1 (nothing_taken r) (nothing_whole r) (rest_ranged taken (joined runs) ranged) are both.3 in
    let first = both.0 in
    let others = behind.0 in
    (cc, behind.1)

-- one run, by the test of what is taken with it
one_run : (r : Reading) (rest taken : List ℕ) (runs packets : List (List ℕ)) (b : Bool) → IsLess r rest → ReadsSo r rest runs
    → AllByRecursion (IsOnePacket r) packets → up_to_end r taken ≡ taken → is_whole r taken ≡ b → AreBytes (taken ++ joined runs)
    → AreRuns r (if b then [] else taken) runs → taken ++ joined runs ≡ joined packets ++ rest
    → ((if b then taken ∷ [] else []) ++ packets_in r (if b then [] else taken) runs ≡ packets) × (left_by r (if b then [] else taken) runs ≡ rest)
one_run r rest taken runs packets true less later all part test ranged are e = ends_packet r rest taken runs packets less later all test ranged are e
one_run r rest taken runs packets false less later all part test ranged are e = later packets taken all part test ranged are e

reads : (r : Reading) (rest : List ℕ) → IsLess r rest → (runs : List (List ℕ)) → ReadsSo r rest runs
reads r rest less [] = no_run r rest
reads r rest less (run ∷ runs) = λ packets taken all part test ranged are e.
    let split = append_assoc taken run (joined runs) in
    one_run r rest (taken ++ run) runs packets _ less (reads r rest less runs) all are.0 refl (subst AreBytes (sym split) ranged) are.1 (split ∙ e)

pub any_stream : (r : Reading) (packets runs : List (List ℕ)) (rest : List ℕ) → AllByRecursion (IsOnePacket r) packets → IsLess r rest → AreBytes (joined runs) → AreRuns r [] runs
    → joined runs ≡ joined packets ++ rest → (packets_in r [] runs ≡ packets) × (left_by r [] runs ≡ rest)
any_stream r packets runs rest all less ranged are e = reads r rest less runs packets [] all (nothing_taken r) (nothing_whole r) ranged are e
