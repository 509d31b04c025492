-- A seat's client is a client of the core: a request that begins there, its parts, its end, a cancel.
use Rattle.std.proofs.Common.{◌≡◌, ◌∙◌, ◌≤◌, ◌<◌, ◌+◌, ◌*◌, ◌-◌, ◌/◌, ℕ, Bool, true, false, List, [], ◌++◌, length, take, drop, refl, sym, ap, arith, append_assoc}
use Rattle.std.proofs.Math.Nat.{div-eq_of_lt, div_self, zero-mul}
use Rattle.std.proofs.Math.Seq.{take-add, take-append_seam, take-length, drop-append_seam}
use Rattle.std.proofs.lemmas.List.{append-nil, length-append, length-drop, length-take-le}
use Rattle.std.specs.Prelude.{Result, Ok}
use Rattle.tds_packet.specs.declared.kind.Kind.{Kind}
use Rattle.tds_packet.specs.Layout.{kind_byte}
use Rattle.tds_packet.specs.Resets.{header_descriptor, mark_bit}
use Rattle.tds_packet.specs.Sent.{end_bit}
use Rattle.tds_packet.specs.Size.{IsPacketSize}
use Rattle.tds_client.specs.declared.fault.ClientRefusal.{ClientRefusal}
use Rattle.tds_client.specs.declared.message.MessageKind.{MessageKind}
use Rattle.tds_client.specs.declared.message.MessageKind.TheVariants.{Batch, Procedure, BulkLoad, Transaction}
use Rattle.tds_client.specs.Packets.{packet_bytes}
use Rattle.tds_client.specs.Sending.{Effect, room}
use Rattle.tds_client.specs.Session as session
use Rattle.tds_client.specs.Session.{ClientSession, with_stage}
use Rattle.tds_client.specs.Streams.{finished, finished_in, full_packets, opened, packets_are, packets_of, put, put_in, put_of}
use Rattle.tds_service.specs.Line.{LineStage, Sending, Reading}
use Rattle.tds_c.specs.declared.service.plain.TdsSeat.{TdsSeat}
use Rattle.tds_c.specs.service.Asking.{headers_by, packet_of, with_front}
use Rattle.tds_c.specs.service.Clients.{asked_seat, sent_seat, session_of, stage_with}
use Rattle.tds_c.specs.service.Plain.{kind_at, line_of, mark_of, stage_at, stage_of}

abbrev pub Done : Type 0
Done = Result (Effect (Unit {0})) ClientRefusal

abbrev pub done : ClientSession → List ℕ → Done
done s bytes = Ok (record { answer = tt; session = s; bytes = bytes })

-- ---- A request that begins

kind_there : (kind : MessageKind) → kind_at (kind_byte (packets_are kind)) ≡ packets_are kind
unfolding kind_at
kind_there Batch = refl
kind_there Procedure = refl
kind_there BulkLoad = refl
kind_there Transaction = refl

pub opens_so : (kind : MessageKind) (c : TdsSeat)
    → session_of (asked_seat kind c) (headers_by kind (header_descriptor (mark_of c.client.mark) c.client.descriptor)) ≡ opened (session_of c []) kind
unfolding stage_at
opens_so kind c =
    let headers = headers_by kind (header_descriptor (mark_of c.client.mark) c.client.descriptor) in
    ap (λ (k : Kind). with_stage (session_of c []) (session.Sending k headers 0)) (kind_there kind)

-- ---- Bytes that fill no packet, or one

full_none : (room n : ℕ) → 0 < room → n ≤ room → full_packets room n ≡ 0
full_none room n some fits = div-eq_of_lt (omega arith)

full_one : (room : ℕ) → 0 < room → full_packets room (room + 1) ≡ 1
full_one room some = ap (λ (n : ℕ). n / room) (let e : room + 1 - 1 ≡ room = omega arith in e) ∙ div_self some

-- a client that is sending, with so many packets out and these bytes left
abbrev sending_with : ClientSession → Kind → List ℕ → ℕ → ClientSession
sending_with s kind left out = with_stage s (session.Sending kind left out)

put_none : (s : ClientSession) (kind : Kind) (x : List ℕ) (out count : ℕ) → count ≡ 0
    → done (with_stage s (session.Sending kind (drop (count * room s) x) (out + count))) (packets_of (room s) kind s.heard.mark out count x) ≡ done (sending_with s kind x out) []
put_none s kind x out count none =
    ap (λ (n : ℕ). done (sending_with s kind (drop (n * room s) x) (out + n)) (packets_of (room s) kind s.heard.mark out n x)) none
    ∙ ap (λ (n : ℕ). done (sending_with s kind (drop n x) (out + 0)) []) (zero-mul (room s))
    ∙ ap (λ (n : ℕ). done (sending_with s kind x n) []) (let e : out + 0 ≡ out = omega arith in e)

put_one : (s : ClientSession) (kind : Kind) (x y : List ℕ) (out count : ℕ) → count ≡ 1 → length x ≡ room s
    → done (sending_with s kind (drop (count * room s) (x ++ y)) (out + count)) (packets_of (room s) kind s.heard.mark out count (x ++ y))
    ≡ done (sending_with s kind y (out + 1)) (packet_bytes kind (end_bit false + mark_bit out s.heard.mark) out x)
put_one s kind x y out count one full =
    let first = λ (b : List ℕ). packet_bytes kind (end_bit false + mark_bit out s.heard.mark) out b in
    ap (λ (n : ℕ). done (sending_with s kind (drop (n * room s) (x ++ y)) (out + n)) (packets_of (room s) kind s.heard.mark out n (x ++ y))) one
    ∙ ap (λ (n : ℕ). done (sending_with s kind (drop n (x ++ y)) (out + 1)) (first (take (room s) (x ++ y)) ++ [])) (let e : 1 * room s ≡ length x = omega (arith, full) in e)
    ∙ ap (λ (n : ℕ). done (sending_with s kind (drop (length x) (x ++ y)) (out + 1)) (first (take n (x ++ y)) ++ [])) (sym full)
    ∙ ap (λ (b : List ℕ). done (sending_with s kind b (out + 1)) (first (take (length x) (x ++ y)) ++ [])) (drop-append_seam x y)
    ∙ ap (λ (b : List ℕ). done (sending_with s kind y (out + 1)) (first b ++ [])) (take-append_seam x y)
    ∙ ap (λ (b : List ℕ). done (sending_with s kind y (out + 1)) b) (append-nil (first x))

-- ---- Of a seat

-- its request is being sent
abbrev pub Sends : TdsSeat → Type 0
Sends c = (b : Bool) × ((line_of c).stage ≡ Sending b)

stage_there : (c : TdsSeat) (left : List ℕ) → Sends c → (session_of c left).stage ≡ session.Sending (kind_at c.client.kind) left c.client.packets
stage_there c left at = ap (λ (s : LineStage). stage_with s (kind_at c.client.kind) c.client.packets left) at.1

puts_so : (c : TdsSeat) (left more : List ℕ) → Sends c → put (session_of c left) more ≡ (let r : Done = Ok (put_of (session_of c left) (kind_at c.client.kind) (left ++ more) c.client.packets) in r)
puts_so c left more at = ap (λ (s : session.Stage). put_in (session_of c left) more s) (stage_there c left at)

some_room : (c : TdsSeat) → IsPacketSize c.client.size → 0 < c.client.size - 8
some_room c range = omega (arith, range.0)

-- all of these wait
pub puts_all : (c : TdsSeat) (left bytes : List ℕ) → Sends c → IsPacketSize c.client.size → length left + length bytes + 8 ≤ c.client.size
    → put (session_of c left) (take (length bytes) bytes) ≡ done (session_of c (left ++ bytes)) []
puts_all c left bytes at range fits =
    let s = session_of c left in
    let kind = kind_at c.client.kind in
    let out = c.client.packets in
    let x = left ++ bytes in
    let none = full_none (c.client.size - 8) (length x) (some_room c range) (omega (arith, fits, length-append left bytes)) in
    puts_so c left (take (length bytes) bytes) at
    ∙ ap (λ (b : List ℕ). let r : Done = Ok (put_of s kind (left ++ b) out) in r) (take-length bytes)
    ∙ put_none s kind x out (full_packets (room s) (length x)) none
    ∙ ap (λ (stage : session.Stage). done (with_stage s stage) []) (sym (stage_there c x at))

-- these fill a packet, and one waits
pub puts_one : (c : TdsSeat) (left bytes : List ℕ) (end : ℕ) → Sends c → Sends (sent_seat false c) → IsPacketSize c.client.size → length left + end + 8 ≡ c.client.size → end < length bytes
    → put (session_of c left) (take (end + 1) bytes) ≡ done (session_of (sent_seat false c) (take 1 (drop end bytes))) (packet_of c false (left ++ take end bytes))
puts_one c left bytes end at behind range full over =
    let s = session_of c left in
    let kind = kind_at c.client.kind in
    let out = c.client.packets in
    let x = left ++ take end bytes in
    let y = take 1 (drop end bytes) in
    let same : left ++ take (end + 1) bytes ≡ x ++ y = ap (λ (b : List ℕ). left ++ b) (take-add end 1 bytes) ∙ sym (append_assoc left (take end bytes) y) in
    let long : length x ≡ room s = length-append left (take end bytes) ∙ omega (arith, length-take-le end bytes (omega (arith, over)), full) in
    let one : length y ≡ 1 = length-take-le 1 (drop end bytes) (omega (arith, length-drop end bytes, over)) in
    let sum : length (x ++ y) ≡ room s + 1 = length-append x y ∙ omega (arith, long, one) in
    let count : full_packets (room s) (length (x ++ y)) ≡ 1 = ap (full_packets (room s)) sum ∙ full_one (room s) (some_room c range) in
    puts_so c left (take (end + 1) bytes) at
    ∙ ap (λ (b : List ℕ). let r : Done = Ok (put_of s kind b out) in r) same
    ∙ put_one s kind x y out (full_packets (room s) (length (x ++ y))) count long
    ∙ ap (λ (stage : session.Stage). done (with_stage s stage) (packet_of c false x)) (sym (stage_there (sent_seat false c) y behind))

-- the last packet, behind so many others
abbrev last_bytes : ClientSession → Kind → ℕ → List ℕ → List ℕ
last_bytes s kind out content = packet_bytes kind (end_bit true + mark_bit out s.heard.mark) out content

pub ends_so : (c : TdsSeat) (kept : List ℕ) → Sends c → (line_of (sent_seat true c)).stage ≡ Reading → IsPacketSize c.client.size → length kept + 8 ≤ c.client.size
    → finished (session_of c kept) ≡ done (session_of (sent_seat true c) []) (packet_of c true kept)
ends_so c kept at behind range fits =
    let s = session_of c kept in
    let kind = kind_at c.client.kind in
    let out = c.client.packets in
    let reads = with_stage s session.Reading in
    ap (λ (stage : session.Stage). finished_in s stage) (stage_there c kept at)
    ∙ ap (λ (n : ℕ). done reads (packets_of (room s) kind s.heard.mark out n kept ++ last_bytes s kind (out + n) (drop (n * room s) kept))) (full_none (c.client.size - 8) (length kept) (some_room c range) (omega (arith, fits)))
    ∙ ap (λ (n : ℕ). done reads (last_bytes s kind (out + 0) (drop n kept))) (zero-mul (room s))
    ∙ ap (λ (n : ℕ). done reads (last_bytes s kind n kept)) (let e : out + 0 ≡ out = omega arith in e)
    ∙ ap (λ (stage : LineStage). done (with_stage s (stage_with stage kind out [])) (packet_of c true kept)) (sym behind)
