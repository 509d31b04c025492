-- Bytes that fill no packet, or one.
use Rattle.std.proofs.Common.{◌≡◌, ◌∙◌, ◌≤◌, ◌<◌, ℕ, ◌+◌, ◌*◌, false, List, [], ◌++◌, length, length-append, length-drop, take, drop, sym, ap, append_assoc, arith}
use Rattle.std.proofs.lemmas.List.{append-nil, length-take-le}
use Rattle.std.proofs.Math.Seq.{take-add, take-length}
use Rattle.std.proofs.Math.Nat.{zero-mul, div-eq_of_lt}
use Rattle.std.specs.Prelude.{Result, Ok}
use Rattle.tds_packet.specs.declared.kind.Kind.{Kind}
use Rattle.tds_packet.specs.Resets.{mark_bit}
use Rattle.tds_packet.specs.Sent.{end_bit}
use Rattle.tds_client.specs.declared.client.parts.ClientParts.{ClientParts}
use Rattle.tds_client.specs.declared.client.parts.StageParts.{StageParts}
use Rattle.tds_client.specs.declared.client.parts.StageParts.TheVariants as parts
use Rattle.tds_client.specs.declared.fault.ClientRefusal.{ClientRefusal}
use Rattle.tds_client.specs.Filling.{room_of}
use Rattle.tds_client.specs.Packets.{packet_bytes}
use Rattle.tds_client.specs.Parts.{session_from, stage_from}
use Rattle.tds_client.specs.Sending.{Effect, room}
use Rattle.tds_client.specs.Session.{ClientSession, Sending, with_stage}
use Rattle.tds_client.specs.Streams.{full_packets, packets_of, put, put_in, put_of}
use Rattle.tds_client.proofs.Filled.{over}

-- where all of them fit into one packet, none is full
pub none_full : (room n : ℕ) → 0 < room → n ≤ room → full_packets room n ≡ 0
none_full room n lawful fits = div-eq_of_lt (omega arith)

pub none_out : (room n : ℕ) (x : List ℕ) → n ≡ 0 → drop (n * room) x ≡ x
none_out room n x e = ap (λ (k : ℕ). drop (k * room) x) e ∙ ap (λ (k : ℕ). drop k x) (zero-mul room)

effect_is : (s : ClientSession) (kind : Kind) (l l' : List ℕ) (n n' : ℕ) (o o' : List ℕ) → l ≡ l' → n ≡ n' → o ≡ o'
    → (let e : Effect (Unit {0}) = record { answer = tt; session = with_stage s (Sending kind l n); bytes = o } in e) ≡ record { answer = tt; session = with_stage s (Sending kind l' n'); bytes = o' }
effect_is s kind l l' n n' o o' a b c = cc

pub all_kept : (s : ClientSession) (kind : Kind) (x : List ℕ) (packets : ℕ) → 0 < room s → length x ≤ room s
    → put_of s kind x packets ≡ record { answer = tt; session = with_stage s (Sending kind x packets); bytes = [] }
all_kept s kind x packets lawful fits =
    let none = none_full (room s) (length x) lawful fits in
    effect_is s kind _ _ _ _ _ _ (none_out (room s) _ x none) (ap (λ (n : ℕ). packets + n) none ∙ nothing_more packets)
    (ap (λ (n : ℕ). packets_of (room s) kind s.heard.mark packets n x) none) where
      nothing_more : (a : ℕ) → a + 0 ≡ a
      nothing_more a = omega arith

pub one_out : (s : ClientSession) (kind : Kind) (x y : List ℕ) (packets : ℕ) → 0 < room s → length x ≡ room s → 0 < length y → length y ≤ room s
    → put_of s kind (x ++ y) packets ≡ record { answer = tt; session = with_stage s (Sending kind y (packets + 1)); bytes = packet_bytes kind (end_bit false + mark_bit packets s.heard.mark) packets x }
one_out s kind x y packets lawful full some fits =
    let o = over (room s) kind s.heard.mark packets 1 x y lawful some (full ∙ one_times (room s)) in
    let none = none_full (room s) (length y) lawful fits in
    effect_is s kind _ _ _ _ _ _ (o.left ∙ none_out (room s) _ y none) (ap (λ (n : ℕ). packets + n) (o.count ∙ ap (λ (n : ℕ). 1 + n) none))
    (o.packets ∙ ap (λ (n : ℕ). packets_of (room s) kind s.heard.mark packets 1 x ++ packets_of (room s) kind s.heard.mark (packets + 1) n y) none
    ∙ append-nil _ ∙ append-nil _ ∙ ap (λ (xs : List ℕ). packet_bytes kind (end_bit false + mark_bit packets s.heard.mark) packets xs) (whole x (room s) full)) where
      one_times : (a : ℕ) → a ≡ 1 * a
      one_times a = omega arith

      whole : (x : List ℕ) (n : ℕ) → length x ≡ n → take n x ≡ x
      whole x n e = ap (λ (k : ℕ). take k x) (sym e) ∙ take-length x

-- ---- The same of parts, where they are those of a client that is sending

abbrev Done : Type 0
Done = Result (Effect (Unit {0})) ClientRefusal

abbrev done : Effect (Unit {0}) → Done
done e = Ok e

abbrev pub sending : ClientParts → Kind → ℕ → ClientParts
sending p kind packets = record { size = p.size; stage = parts.Sending kind packets; heard = p.heard; columns = p.columns }

sent_so : (p : ClientParts) (kind : Kind) (packets : ℕ) (kept more : List ℕ) → p.stage ≡ parts.Sending kind packets
    → put (session_from p kept) more ≡ done (put_of (session_from p kept) kind (kept ++ more) packets)
sent_so p kind packets kept more e = ap (λ (stage : StageParts). put_in (session_from p kept) more (stage_from stage kept)) e

pub fill_is : (p : ClientParts) (kind : Kind) (packets end : ℕ) (kept bytes header : List ℕ) → 0 < room_of p → p.stage ≡ parts.Sending kind packets → length kept + end ≡ room_of p → end < length bytes
    → header ++ (kept ++ take end bytes) ≡ packet_bytes kind (end_bit false + mark_bit packets p.heard.mark) packets (kept ++ take end bytes)
    → put (session_from p kept) (take (end + 1) bytes)
    ≡ done (record { answer = tt; session = session_from (sending p kind (packets + 1)) (take 1 (drop end bytes)); bytes = header ++ (kept ++ take end bytes) })
fill_is p kind packets end kept bytes header lawful at room over spelled =
    let s : ClientSession = session_from p kept in
    let x = kept ++ take end bytes in
    let y = take 1 (drop end bytes) in
    let same : kept ++ take (end + 1) bytes ≡ x ++ y = ap (λ (xs : List ℕ). kept ++ xs) (take-add end 1 bytes) ∙ sym (append_assoc kept (take end bytes) y) in
    let full : length x ≡ room_of p = length-append kept (take end bytes) ∙ omega (arith, length-take-le end bytes (omega (arith, over)), room) in
    let one : length y ≡ 1 = length-take-le 1 (drop end bytes) (omega (arith, length-drop end bytes, over)) in
    let out = one_out s kind x y packets lawful full (omega (arith, one)) (omega (arith, one, lawful)) in
    sent_so p kind packets kept (take (end + 1) bytes) at
    ∙ ap (λ (xs : List ℕ). done (put_of s kind xs packets)) same
    ∙ ap done out
    ∙ ap (λ (xs : List ℕ). done (record { answer = tt; session = with_stage s (Sending kind y (packets + 1)); bytes = xs })) (sym spelled)

pub keep_is : (p : ClientParts) (kind : Kind) (packets : ℕ) (kept bytes : List ℕ) → 0 < room_of p → p.stage ≡ parts.Sending kind packets → length kept + length bytes ≤ room_of p
    → put (session_from p kept) (take (length bytes) bytes) ≡ done (record { answer = tt; session = session_from p (kept ++ bytes); bytes = [] })
keep_is p kind packets kept bytes lawful at fits =
    let s : ClientSession = session_from p kept in
    let x = kept ++ bytes in
    sent_so p kind packets kept (take (length bytes) bytes) at
    ∙ ap (λ (xs : List ℕ). done (put_of s kind (kept ++ xs) packets)) (take-length bytes)
    ∙ ap done (all_kept s kind x packets lawful (omega (arith, length-append kept bytes, fits)))
    ∙ ap (λ (stage : StageParts). done (record { answer = tt; session = with_stage s (stage_from stage x); bytes = [] })) (sym at)
