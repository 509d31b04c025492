-- The requests of today are streams of their bodies.
use Rattle.std.proofs.Common.{◌≡◌, ◌∙◌, ◌≤◌, ◌<◌, ℕ, ◌+◌, ◌*◌, ◌-◌, ◌/◌, zero, Bool, true, false, cond, nat_le, List, [], ◌∷◌, ◌++◌, length, length-drop, take, drop, Option, refl, sym, ap, subst, arith, append_assoc}
use Rattle.std.proofs.lemmas.Bool.Decides.{nat_tests}
use Rattle.std.proofs.lemmas.Bool.{leb-true}
use Rattle.std.proofs.lemmas.List.{append-nil, take-append-drop, length-take-le}
use Rattle.std.proofs.lemmas.Nat.{div-mul-add}
use Rattle.std.proofs.Math.Nat.{zero-mul}
use Rattle.std.proofs.Math.Seq.{take-length}
use Rattle.std.specs.Prelude.{Result, Ok}
use Rattle.tds_packet.specs.declared.kind.Kind.{Kind}
use Rattle.tds_packet.specs.declared.status.Reset.{Reset}
use Rattle.tds_packet.specs.Reading.{joined}
use Rattle.tds_client.specs.declared.fault.ClientRefusal.{ClientRefusal}
use Rattle.tds_client.specs.declared.state.Sent.{Sent}
use Rattle.tds_client.specs.declared.state.Sent.TheVariants as sents
use Rattle.tds_client.specs.Promises.{Sends}
use Rattle.tds_client.specs.Sending.{Effect, room, sent}
use Rattle.tds_client.specs.Session.{ClientSession, Sending, with_stage}
use Rattle.tds_client.specs.Streams.{ended_by, full_packets, left_behind, packets_of}
use Rattle.tds_client.proofs.Filled.{Over, over}
use Rattle.tds_client.proofs.Parts.{by_test, last_one, more_one, part_bytes}
use Rattle.tds_client.proofs.Streaming.{Ended}

-- ---- The packets of what is left

-- what is no more than a packet's data is one packet
ended_short : (room : ℕ) (kind : Kind) (mark : Option Reset) (before : ℕ) (left : List ℕ) → 0 < room → length left ≤ room → ended_by room kind mark before left ≡ part_bytes kind mark before true left
ended_short room kind mark before left lawful few =
    let none : full_packets room (length left) ≡ 0 = ap (λ (n : ℕ). n / room) (let e : length left - 1 ≡ zero * room + (length left - 1) = omega (arith, zero-mul room) in e) ∙ div-mul-add 0 room (length left - 1) (omega (arith, few, lawful)) in
    ap (λ (m : ℕ). packets_of room kind mark before m left ++ part_bytes kind mark (before + m) true (drop (m * room) left)) none
    ∙ ap (λ (n : ℕ). part_bytes kind mark (before + 0) true (drop n left)) (zero-mul room)
    ∙ ap (λ (n : ℕ). part_bytes kind mark n true left) (let e : before + 0 ≡ before = omega arith in e)

ended_over : (room : ℕ) (kind : Kind) (mark : Option Reset) (before m : ℕ) (a b : List ℕ) → Over room kind mark before m a b
    → ended_by room kind mark before (a ++ b) ≡ packets_of room kind mark before m a ++ ended_by room kind mark (before + m) b
ended_over room kind mark before m a b o =
    let front = packets_of room kind mark before m a in
    let more = packets_of room kind mark (before + m) (full_packets room (length b)) b in
    let counted : before + full_packets room (length (a ++ b)) ≡ before + m + full_packets room (length b) = ap (λ (k : ℕ). before + k) o.count ∙ sum_back before m (full_packets room (length b)) in
    ap (λ (xs : List ℕ). xs ++ part_bytes kind mark (before + full_packets room (length (a ++ b))) true (left_behind room (a ++ b))) o.packets
    ∙ ap (λ (xs : List ℕ). (front ++ more) ++ part_bytes kind mark (before + full_packets room (length (a ++ b))) true xs) o.left
    ∙ ap (λ (k : ℕ). (front ++ more) ++ part_bytes kind mark k true (left_behind room b)) counted
    ∙ append_assoc front more _ where
      sum_back : (a b c : ℕ) → a + (b + c) ≡ a + b + c
      sum_back a b c = omega arith

one_full : (room : ℕ) (kind : Kind) (mark : Option Reset) (before : ℕ) (a : List ℕ) → length a ≡ room → packets_of room kind mark before 1 a ≡ part_bytes kind mark before false a
one_full room kind mark before a full =
    append-nil _ ∙ ap (part_bytes kind mark before false) (ap (λ (n : ℕ). take n a) (sym full) ∙ take-length a)

-- what is more begins with a full packet
ended_more : (room : ℕ) (kind : Kind) (mark : Option Reset) (before : ℕ) (left : List ℕ) → 0 < room → room < length left
    → ended_by room kind mark before left ≡ part_bytes kind mark before false (take room left) ++ ended_by room kind mark (before + 1) (drop room left)
ended_more room kind mark before left lawful many =
    let taken : length (take room left) ≡ room = length-take-le room left (omega (arith, many)) in
    let o = over room kind mark before 1 (take room left) (drop room left) lawful (omega (arith, many, length-drop room left)) (omega (arith, taken)) in
    ap (ended_by room kind mark before) (sym (take-append-drop room left)) ∙ ended_over room kind mark before 1 (take room left) (drop room left) o
    ∙ ap (λ (xs : List ℕ). xs ++ ended_by room kind mark (before + 1) (drop room left)) (one_full room kind mark before (take room left) taken)

-- ---- All calls of `send`

said_so : (x y : Effect Sent) (r : Result (Effect Sent) ClientRefusal) → r ≡ Ok x → r ≡ Ok y → x ≡ y
said_so x y r a b = cc

sends_last : (s : ClientSession) (kind : Kind) (left : List ℕ) (before : ℕ) (bytes : List ℕ) (behind : ClientSession) (b : Bool) → 0 < room s → nat_le (length left) (room s) ≡ b
    → cond b (last_one s kind left before) (more_one s kind left before) ≡ record { answer = sents.Last; session = behind; bytes = bytes } → Ended s kind left before (bytes ++ []) behind
sends_last s kind left before bytes behind true lawful test e = record {
  bytes_are = append-nil bytes ∙ sym (ap (λ (x : Effect Sent). x.bytes) e) ∙ sym (ended_short (room s) kind s.heard.mark before left lawful (leb-true _ _ test));
  behind_is = sym (ap (λ (x : Effect Sent). x.session) e);
}
sends_last s kind left before bytes behind false lawful test e = let other : sents.More ≡ sents.Last = ap (λ (x : Effect Sent). x.answer) e in absurd cc

record Goes (s : ClientSession) (kind : Kind) (left : List ℕ) (before : ℕ) (bytes : List ℕ) (middle : ClientSession) : Type 0 where
  many : room s < length left
  bytes_are : bytes ≡ part_bytes kind s.heard.mark before false (take (room s) left)
  middle_is : middle ≡ with_stage s (Sending kind (drop (room s) left) (before + 1))

sends_more : (s : ClientSession) (kind : Kind) (left : List ℕ) (before : ℕ) (bytes : List ℕ) (middle : ClientSession) (b : Bool) → nat_le (length left) (room s) ≡ b
    → cond b (last_one s kind left before) (more_one s kind left before) ≡ record { answer = sents.More; session = middle; bytes = bytes } → Goes s kind left before bytes middle
sends_more s kind left before bytes middle true test e = let other : sents.Last ≡ sents.More = ap (λ (x : Effect Sent). x.answer) e in absurd cc
sends_more s kind left before bytes middle false test e = record {
  many = grind (arith, nat_tests);
  bytes_are = sym (ap (λ (x : Effect Sent). x.bytes) e);
  middle_is = sym (ap (λ (x : Effect Sent). x.session) e);
}

pub sends_ended : (s : ClientSession) (kind : Kind) (left : List ℕ) (before : ℕ) (packets : List (List ℕ)) (behind : ClientSession) → 0 < room s → s.stage ≡ Sending kind left before → Sends s packets behind
    → Ended s kind left before (joined packets) behind
sends_ended s kind left before [] behind lawful e sends = absurd sends
sends_ended s kind left before (bytes ∷ []) behind lawful e sends =
    sends_last s kind left before bytes behind (nat_le (length left) (room s)) lawful refl (said_so _ _ (sent s) (by_test s kind left before e) sends)
sends_ended s kind left before (bytes ∷ next ∷ others) behind lawful e (middle, said, more) =
    let g = sends_more s kind left before bytes middle (nat_le (length left) (room s)) refl (said_so _ _ (sent s) (by_test s kind left before e) said) in
    let m : ClientSession = with_stage s (Sending kind (drop (room s) left) (before + 1)) in
    let rest = sends_ended m kind (drop (room s) left) (before + 1) (next ∷ others) behind lawful refl (subst (λ (c : ClientSession). Sends c (next ∷ others) behind) g.middle_is more) in
    record {
      bytes_are = ap (λ (xs : List ℕ). xs ++ joined (next ∷ others)) g.bytes_are
          ∙ ap (λ (xs : List ℕ). part_bytes kind s.heard.mark before false (take (room s) left) ++ xs) rest.bytes_are
          ∙ sym (ended_more (room s) kind s.heard.mark before left lawful g.many);
      behind_is = rest.behind_is;
    }
