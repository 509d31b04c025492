-- Packets of a message that are full.
use Rattle.std.proofs.Common.{◌≡◌, ◌∙◌, ◌≤◌, ◌<◌, ℕ, ◌+◌, ◌*◌, ◌-◌, ◌/◌, zero, suc, false, List, ◌++◌, [], ◌∷◌, length, length-append, length-drop, take, drop, Option, sym, ap, arith, append_assoc}
use Rattle.std.proofs.lemmas.List.{take-append-drop, take-append-le, drop-append-le, length-take-le}
use Rattle.std.proofs.Math.Seq.{drop-append-add, take-length}
use Rattle.std.proofs.Math.Nat.{mul-add-div_right, suc-mul, zero-mul, add-mul}
use Rattle.tds_packet.specs.declared.kind.Kind.{Kind}
use Rattle.tds_packet.specs.declared.status.Reset.{Reset}
use Rattle.tds_packet.specs.Resets.{mark_bit}
use Rattle.tds_packet.specs.Sent.{end_bit}
use Rattle.tds_client.specs.Packets.{packet_bytes}
use Rattle.tds_client.specs.Streams.{full_packets, left_behind, packets_of}

-- one packet, and the others
pub more_of : (room : ℕ) (kind : Kind) (mark : Option Reset) (before count : ℕ) (bytes : List ℕ) → 0 < count
    → packets_of room kind mark before count bytes ≡ packet_bytes kind (end_bit false + mark_bit before mark) before (take room bytes) ++ packets_of room kind mark (before + 1) (count - 1) (drop room bytes)
more_of room kind mark before zero bytes some = absurd (omega arith)
more_of room kind mark before (suc count) bytes some =
    ap (λ (n : ℕ). packet_bytes kind (end_bit false + mark_bit before mark) before (take room bytes) ++ packets_of room kind mark (before + 1) n (drop room bytes)) (let e : count ≡ suc count - 1 = omega arith in e)

-- a packet that was appended is one of those that were to be
pub one_put : (room : ℕ) (kind : Kind) (mark : Option Reset) (before count : ℕ) (bytes out new all : List ℕ) → 0 < count → out ++ packets_of room kind mark before count bytes ≡ all
    → new ≡ out ++ packet_bytes kind (end_bit false + mark_bit before mark) before (take room bytes)
    → new ++ packets_of room kind mark (before + 1) (count - 1) (drop room bytes) ≡ all
one_put room kind mark before count bytes out new all some so_far put =
    ap (λ (xs : List ℕ). xs ++ packets_of room kind mark (before + 1) (count - 1) (drop room bytes)) put
    ∙ append_assoc out _ _ ∙ ap (λ (xs : List ℕ). out ++ xs) (sym (more_of room kind mark before count bytes some)) ∙ so_far

-- and the others are all there
pub enough_left : (room count : ℕ) (bytes : List ℕ) → 0 < count → count * room ≤ length bytes → (count - 1) * room ≤ length (drop room bytes)
enough_left room zero bytes some enough = absurd (omega arith)
enough_left room (suc count) bytes some enough =
    let one : (suc count - 1) * room ≡ count * room = ap (λ (n : ℕ). n * room) (let e : suc count - 1 ≡ count = omega arith in e) in
    omega (arith, enough, one, suc-mul count room, length-drop room bytes)

-- a packet is there
pub one_left : (room count : ℕ) (bytes : List ℕ) → 0 < count → count * room ≤ length bytes → room ≤ length bytes
one_left room zero bytes some enough = absurd (omega arith)
one_left room (suc count) bytes some enough = omega (arith, enough, suc-mul count room)

-- ---- Bytes of which the first fill whole packets

-- so many bytes more fill so many packets more
pub full_more : (room m more : ℕ) → 0 < room → 0 < more → full_packets room (m * room + more) ≡ m + full_packets room more
full_more room m more lawful some =
    ap (λ (n : ℕ). n / room) (let e : m * room + more - 1 ≡ m * room + (more - 1) = omega arith in e) ∙ mul-add-div_right lawful m (more - 1)

-- the packets of both are those of the first, and then those of the others
pub packets_behind : (room : ℕ) (kind : Kind) (mark : Option Reset) (before m count all : ℕ) (a b : List ℕ) → all ≡ m + count → length a ≡ m * room
    → packets_of room kind mark before all (a ++ b) ≡ packets_of room kind mark before m a ++ packets_of room kind mark (before + m) count b
packets_behind room kind mark before zero count all [] b sum e =
    ap (λ (n : ℕ). packets_of room kind mark before n b) (let e : all ≡ count = omega (arith, sum) in e)
    ∙ ap (λ (n : ℕ). packets_of room kind mark n count b) (let e : before ≡ before + 0 = omega arith in e)
packets_behind room kind mark before zero count all (x ∷ a) b sum e = absurd (omega (arith, e, zero-mul room))
packets_behind room kind mark before (suc m) count zero a b sum e = absurd (omega (arith, sum))
packets_behind room kind mark before (suc m) count (suc all) a b sum e =
    let long : length a ≡ m * room + room = e ∙ suc-mul m room in
    let within : room ≤ length a = omega (arith, long) in
    let rest : length (drop room a) ≡ m * room = omega (arith, long, length-drop room a) in
    let one : List ℕ = packet_bytes kind (end_bit false + mark_bit before mark) before (take room a) in
    ap (λ (xs : List ℕ). packet_bytes kind (end_bit false + mark_bit before mark) before xs ++ packets_of room kind mark (before + 1) all (drop room (a ++ b))) (take-append-le room a b within)
    ∙ ap (λ (xs : List ℕ). one ++ packets_of room kind mark (before + 1) all xs) (drop-append-le room a b within)
    ∙ ap (λ (xs : List ℕ). one ++ xs)
    (packets_behind room kind mark (before + 1) m count all (drop room a) b (omega (arith, sum)) rest
    ∙ ap (λ (n : ℕ). packets_of room kind mark (before + 1) m (drop room a) ++ packets_of room kind mark n count b) (let e : before + 1 + m ≡ before + suc m = omega arith in e))
    ∙ sym (append_assoc one _ _)

-- A message of which the first bytes fill packets, and others stand behind them.
pub record Over (room : ℕ) (kind : Kind) (mark : Option Reset) (before m : ℕ) (a b : List ℕ) : Type 0 where
  pub count : full_packets room (length (a ++ b)) ≡ m + full_packets room (length b)
  pub left : left_behind room (a ++ b) ≡ left_behind room b
  pub packets : packets_of room kind mark before (full_packets room (length (a ++ b))) (a ++ b)
      ≡ packets_of room kind mark before m a ++ packets_of room kind mark (before + m) (full_packets room (length b)) b

pub over : (room : ℕ) (kind : Kind) (mark : Option Reset) (before m : ℕ) (a b : List ℕ) → 0 < room → 0 < length b → length a ≡ m * room → Over room kind mark before m a b
over room kind mark before m a b lawful some e =
    let all : length (a ++ b) ≡ m * room + length b = length-append a b ∙ omega (arith, e) in
    let counted : full_packets room (length (a ++ b)) ≡ m + full_packets room (length b) = ap (full_packets room) all ∙ full_more room m (length b) lawful some in
    let far : (m + full_packets room (length b)) * room ≡ length a + full_packets room (length b) * room = add-mul m (full_packets room (length b)) room ∙ omega (arith, e) in
    record {
      count = counted;
      left = ap (λ (n : ℕ). drop (n * room) (a ++ b)) counted ∙ ap (λ (n : ℕ). drop n (a ++ b)) far ∙ drop-append-add a b (full_packets room (length b) * room);
      packets = packets_behind room kind mark before m (full_packets room (length b)) (full_packets room (length (a ++ b))) a b counted e;
    }

-- the same, of the bytes that are kept and those that come, of which so many fill a packet
pub regrouped : (k : ℕ) (kept bytes : List ℕ) → kept ++ bytes ≡ (kept ++ take k bytes) ++ drop k bytes
regrouped k kept bytes = ap (λ (xs : List ℕ). kept ++ xs) (sym (take-append-drop k bytes)) ∙ sym (append_assoc kept (take k bytes) (drop k bytes))

pub over_at : (room : ℕ) (kind : Kind) (mark : Option Reset) (before m k : ℕ) (kept bytes : List ℕ) → 0 < room → k < length bytes → length kept + k ≡ m * room → Over room kind mark before m (kept ++ take k bytes) (drop k bytes)
over_at room kind mark before m k kept bytes lawful some e =
    over room kind mark before m (kept ++ take k bytes) (drop k bytes) lawful (omega (arith, length-drop k bytes, some))
    (length-append kept (take k bytes) ∙ omega (arith, length-take-le k bytes (omega (arith, some)), e))

abbrev pub Sum : ℕ → ℕ → ℕ → Type 0
Sum a b c = a + b + c ≡ a + (b + c)

pub sum_of : (a b c : ℕ) → Sum a b c
sum_of a b c = omega arith

-- the end of a list, as an open range lends it
pub to_end : (n : ℕ) (xs : List ℕ) → take (length xs - n) (drop n xs) ≡ drop n xs
to_end n xs = ap (λ (k : ℕ). take k (drop n xs)) (let e : length xs - n ≡ length (drop n xs) = omega (arith, length-drop n xs) in e) ∙ take-length (drop n xs)
