-- Asking in one call: what is put waits, and then goes out.
use Rattle.std.proofs.Common.{◌≡◌, ◌∙◌, ◌≤◌, ◌<◌, ℕ, ◌+◌, ◌*◌, ◌-◌, nat_lt, Bool, inl, inr, true, List, [], ◌∷◌, ◌++◌, length, take, drop, Option, Some, None, Ok, refl, sym, ap, arith, append_assoc}
use Rattle.std.proofs.lemmas.Bool.{cases_lt, lt-ltb, le-ltb}
use Rattle.std.proofs.lemmas.List.{length-append}
use Rattle.std.proofs.Math.Seq.{drop-append_seam, take-append_seam}
use Rattle.tds_packet.specs.declared.kind.Kind.{Kind}
use Rattle.tds_packet.specs.Resets.{mark_bit}
use Rattle.tds_packet.specs.Sent.{end_bit}
use Rattle.tds_client.specs.declared.client.parts.ClientParts.{ClientParts}
use Rattle.tds_client.specs.declared.client.parts.StageParts.{StageParts}
use Rattle.tds_client.specs.declared.client.parts.StageParts.TheVariants as stages
use Rattle.tds_client.specs.declared.fault.ClientRefusal.{ClientRefusal}
use Rattle.tds_client.specs.declared.message.MessageKind.{MessageKind}
use Rattle.tds_client.specs.Packets.{packet_bytes}
use Rattle.tds_client.specs.Parts.{session_from, stage_from}
use Rattle.tds_client.specs.Sending.{Effect, refusal_of, room}
use Rattle.tds_client.specs.Session.{ClientSession, Sending, Reading, unless_idle, with_stage}
use Rattle.tds_client.specs.Streamed.{Streams}
use Rattle.tds_client.specs.Streams.{ended_by, finished, finished_of, full_packets, headers_of, left_behind, opened, packets_are, packets_of, put, put_of}
use Rattle.tds_client.proofs.Waiting.{all_kept, none_full, none_out}
use Rattle.tds_c.specs.declared.client.TdsClient.{TdsClient}
use Rattle.tds_c.specs.Asking.{Done, appended_to, ask_on, asks, but_for, is_longer, then_by}
use Rattle.tds_c.specs.Calls.{on, with_front}
use Rattle.tds_c.specs.Plain.{client_of}

-- ---- How long it is

pub how_long : (c : TdsClient) (kind : MessageKind) (body : List ℕ) (s : ClientSession) (b : Bool) → client_of c [] ≡ Some s → is_longer kind body (Some s) ≡ b → is_longer kind body (client_of c []) ≡ b
how_long c kind body s b held is = ap (is_longer kind body) held ∙ is

-- the same as a test of its body's bytes alone
pub longer_body : (size before body message : ℕ) → 512 ≤ size → before ≤ 22 → message ≡ before + body → nat_lt (size - 8 - before) body ≡ nat_lt (size - 8) message
longer_body size before body message least most sum = elim (cases_lt (size - 8) message) [
  | inl over ↦ lt-ltb (size - 8 - before) body (omega (arith, over, least, most, sum)) ∙ sym (lt-ltb (size - 8) message over)
  | inr fits ↦ le-ltb (size - 8 - before) body (omega (arith, fits, least, most, sum)) ∙ sym (le-ltb (size - 8) message fits)
]

-- ---- A message that has begun

-- such a client, but for the bytes that wait
abbrev pub waiting : ClientSession → MessageKind → List ℕ → ClientSession
waiting s kind left = with_stage s (Sending (packets_are kind) left 0)

stage_is : (p : StageParts) (left : List ℕ) (kind : Kind) → stage_from p left ≡ Sending kind left 0 → p ≡ stages.Sending kind 0
stage_is stages.Idle left kind e = absurd cc
stage_is (stages.Sending of out) left kind e = cc
stage_is stages.Reading left kind e = absurd cc
stage_is stages.Cancelling left kind e = absurd cc
stage_is (stages.Broken fault) left kind e = absurd cc

pub has_begun : (p : ClientParts) (s : ClientSession) (kind : MessageKind) (left : List ℕ) → session_from p left ≡ waiting s kind left → p.stage ≡ stages.Sending (packets_are kind) 0
has_begun p s kind left e = stage_is p.stage left (packets_are kind) (ap (λ (x : ClientSession). x.stage) e)

-- whatever waits
pub begun : (p : ClientParts) (s : ClientSession) (kind : MessageKind) (left other : List ℕ) → session_from p left ≡ waiting s kind left → session_from p other ≡ waiting s kind other
begun p s kind left other e =
    let stage = has_begun p s kind left e in
    let size : p.size ≡ s.size = ap (λ (x : ClientSession). x.size) e in
    let heard : p.heard ≡ s.heard = ap (λ (x : ClientSession). x.heard) e in
    let columns : p.columns ≡ s.columns = ap (λ (x : ClientSession). x.columns) e in
    rw (stage, size, heard, columns) refl

-- ---- What asking does

abbrev pub done_of : ClientSession → List ℕ → Done
done_of session bytes = Ok (record { answer = tt; session = session; bytes = bytes })

pub done_is : (x y : Effect (Unit {0})) → (let r : Done = Ok x in r) ≡ Ok y → x ≡ y
done_is x y e = cc

pub puts_all : (s : ClientSession) (kind : MessageKind) (body : List ℕ) → 0 < room s → length (headers_of s.heard kind ++ body) ≤ room s
    → put_of (opened s kind) (packets_are kind) (headers_of s.heard kind ++ body) 0 ≡ record { answer = tt; session = waiting s kind (headers_of s.heard kind ++ body); bytes = [] }
puts_all s kind body some fits = all_kept (opened s kind) (packets_are kind) (headers_of s.heard kind ++ body) 0 some fits

pub ask_refused : (kind : MessageKind) (body : List ℕ) (s : ClientSession) (refusal : ClientRefusal) → unless_idle s.stage ≡ Some refusal → refusal_of (ask_on kind body s) ≡ Some refusal
ask_refused kind body s refusal e =
    ap (λ (o : Option ClientRefusal). refusal_of (but_for o (then_by finished (put (opened s kind) body)))) e

pub asks_from : (c : TdsClient) (kind : MessageKind) (body : List ℕ) (s : ClientSession) → client_of c [] ≡ Some s → asks c kind body ≡ Some (ask_on kind body s)
asks_from c kind body s held = ap (on (ask_on kind body)) held

pub asked_from : (c : TdsClient) (kind : MessageKind) (body : List ℕ) (s : ClientSession) (effect : Effect (Unit {0})) → client_of c [] ≡ Some s → unless_idle s.stage ≡ None → 0 < room s → length (headers_of s.heard kind ++ body) ≤ room s
    → finished (waiting s kind (headers_of s.heard kind ++ body)) ≡ Ok effect → asks c kind body ≡ Some (Ok effect)
asked_from c kind body s effect held idle some fits ends =
    let put_all : put (opened s kind) body ≡ Ok (record { answer = tt; session = waiting s kind (headers_of s.heard kind ++ body); bytes = [] }) = ap Ok (puts_all s kind body some fits) in
    asks_from c kind body s held
    ∙ ap Some (ap (λ (o : Option ClientRefusal). but_for o (then_by finished (put (opened s kind) body))) idle ∙ ap (then_by finished) put_all ∙ ap (appended_to []) ends)

-- what no packet has whole but the last
pub one_packet : (s : ClientSession) (kind : MessageKind) (message : List ℕ) → 0 < room s → length message ≤ room s
    → ended_by (room s) (packets_are kind) s.heard.mark 0 message ≡ packet_bytes (packets_are kind) (end_bit true + mark_bit 0 s.heard.mark) 0 message
one_packet s kind message some fits =
    let none = none_full (room s) (length message) some fits in
    ap (λ (n : ℕ). packets_of (room s) (packets_are kind) s.heard.mark 0 n message ++ packet_bytes (packets_are kind) (end_bit true + mark_bit (0 + n) s.heard.mark) (0 + n) (drop (n * room s) message)) none
    ∙ ap (packet_bytes (packets_are kind) (end_bit true + mark_bit 0 s.heard.mark) 0) (none_out (room s) 0 message refl)

pub one_length : (s : ClientSession) (kind : MessageKind) (message : List ℕ) (count : ℕ) → 0 < room s → length message ≤ room s → count ≡ 8 + length message → count ≡ length (ended_by (room s) (packets_are kind) s.heard.mark 0 message)
one_length s kind message count some fits counted =
    let whole : length (packet_bytes (packets_are kind) (end_bit true + mark_bit 0 s.heard.mark) 0 message) ≡ 8 + length message = omega arith in
    counted ∙ sym whole ∙ sym (ap length (one_packet s kind message some fits))

-- ---- The packet in the buffer

-- behind the header's place stands the message
pub lent : (front message buffer new : List ℕ) (end : ℕ) → length front ≡ 8 → 8 + length message ≡ end → new ≡ with_front (front ++ message) buffer → take (end - 8) (drop 8 new) ≡ message
lent front message buffer new end eight long is =
    let behind : drop 8 new ≡ message ++ drop (length (front ++ message)) buffer =
    ap (drop 8) (is ∙ append_assoc front message _) ∙ ap (λ (n : ℕ). drop n (front ++ (message ++ drop (length (front ++ message)) buffer))) (sym eight) ∙ drop-append_seam front _ in
    ap (take (end - 8)) behind ∙ ap (λ (n : ℕ). take n (message ++ drop (length (front ++ message)) buffer)) (let e : end - 8 ≡ length message = omega (arith, long) in e) ∙ take-append_seam message _

-- and a header of as many bytes goes there
pub fronted : (front header message buffer new : List ℕ) → length front ≡ 8 → length header ≡ 8 → new ≡ with_front (front ++ message) buffer → with_front header new ≡ with_front (header ++ message) buffer
fronted front header message buffer new eight same is =
    let counted : length (front ++ message) ≡ length (header ++ message) = omega (arith, eight, same, length-append front message, length-append header message) in
    let behind : drop (length header) new ≡ message ++ drop (length (front ++ message)) buffer =
    ap (drop (length header)) (is ∙ append_assoc front message _) ∙ ap (λ (n : ℕ). drop n (front ++ (message ++ drop (length (front ++ message)) buffer))) (same ∙ sym eight) ∙ drop-append_seam front _ in
    ap (λ (xs : List ℕ). header ++ xs) (behind ∙ ap (λ (n : ℕ). message ++ drop n buffer) counted) ∙ sym (append_assoc header message _)

-- ---- In the words of a stream

but_none : (o : Option ClientRefusal) (done : Done) (effect : Effect (Unit {0})) → but_for o done ≡ Ok effect → done ≡ Ok effect
but_none None done effect e = e
but_none (Some refusal) done effect e = absurd cc

pub is_stream : (s behind : ClientSession) (kind : MessageKind) (body bytes : List ℕ) → ask_on kind body s ≡ Ok (record { answer = tt; session = behind; bytes = bytes }) → Streams (opened s kind) (body ∷ []) bytes behind
is_stream s behind kind body bytes e =
    let first = put_of (opened s kind) (packets_are kind) (headers_of s.heard kind ++ body) 0 in
    let last = finished_of first.session (packets_are kind) (left_behind (room s) (headers_of s.heard kind ++ body)) (0 + full_packets (room s) (length (headers_of s.heard kind ++ body))) in
    let both : Effect (Unit {0}) = record { answer = tt; session = last.session; bytes = first.bytes ++ last.bytes } in
    let is : both ≡ record { answer = tt; session = behind; bytes = bytes } = done_is _ _ (but_none (unless_idle s.stage) (Ok both) _ e) in
    let done : finished first.session ≡ Ok (record { answer = tt; session = behind; bytes = last.bytes }) = ap (λ (x : Effect (Unit {0})). let d : Done = Ok (record { answer = tt; session = x.session; bytes = last.bytes }) in d) is in
    (first.bytes, last.bytes, first.session, sym (ap (λ (x : Effect (Unit {0})). x.bytes) is), refl, done)

pub is_packet : (s behind : ClientSession) (kind : MessageKind) (body bytes : List ℕ) → 0 < room s → length (headers_of s.heard kind ++ body) ≤ room s → ask_on kind body s ≡ Ok (record { answer = tt; session = behind; bytes = bytes })
    → (behind ≡ with_stage s Reading) × (bytes ≡ packet_bytes (packets_are kind) (end_bit true + mark_bit 0 s.heard.mark) 0 (headers_of s.heard kind ++ body))
is_packet s behind kind body bytes some fits e =
    let message = headers_of s.heard kind ++ body in
    let put_all : put (opened s kind) body ≡ Ok (record { answer = tt; session = waiting s kind message; bytes = [] }) = ap Ok (puts_all s kind body some fits) in
    let last = finished_of (waiting s kind message) (packets_are kind) message 0 in
    let is : last ≡ record { answer = tt; session = behind; bytes = bytes } =
    done_is _ _ (sym (ap (then_by finished) put_all) ∙ but_none (unless_idle s.stage) (then_by finished (put (opened s kind) body)) _ e) in
    (sym (ap (λ (x : Effect (Unit {0})). x.session) is), sym (ap (λ (x : Effect (Unit {0})). x.bytes) is) ∙ one_packet s kind message some fits)
