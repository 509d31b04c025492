-- What is done at a client's end, as acts of the machine on the wire: one, some behind others, and the packets of a request.
use Rattle.std.proofs.Common.{◌≡◌, ◌∙◌, ◌+◌, ◌-◌, ◌*◌, ◌/◌, ◌≤◌, ◌<◌, ◌^◌, ◌==◌, ℕ, zero, suc, Bool, true, false, List, [], ◌∷◌, ◌++◌, length, take, drop, Option, refl, sym, ap, subst, arith, append_assoc, if◌then◌else◌}
use Rattle.std.proofs.lemmas.Bool.{eqb-true}
use Rattle.std.proofs.lemmas.Bool.Decides.{nat_tests}
use Rattle.std.proofs.lemmas.List.{append-nil, drop-drop, length-drop, length-take}
use Rattle.std.proofs.Math.Nat.{lt-div-mul-add, min-le_left, suc-mul, zero-mul}
use Rattle.std.proofs.Math.Seq.{take-append-add}
use Rattle.tds_packet.specs.declared.kind.Kind.{Kind}
use Rattle.tds_packet.specs.declared.status.Reset.{Reset}
use Rattle.tds_packet.specs.Resets.{mark_bit, reset_bit}
use Rattle.tds_packet.specs.Sent.{end_bit}
use Rattle.tds_client.specs.declared.heard.Heard.{Heard}
use Rattle.tds_client.specs.declared.message.MessageKind.{MessageKind}
use Rattle.tds_client.specs.declared.message.MessageKind.TheVariants.{Batch, Procedure, BulkLoad, Transaction}
use Rattle.tds_client.specs.Packets.{packet_bytes}
use Rattle.tds_client.specs.Streams.{full_packets, ended_by, left_behind, packets_are, packets_of}
use Rattle.tds_wire.specs.declared.told.Token.{Token}
use Rattle.tds_service.specs.Line as line
use Rattle.tds_service.specs.Line.{Act, Line, Packet, OfRequest, mark_on, not_begun, line_turn}
use Rattle.tds_service.specs.History.{Done, done_by, history, line_after}
use Rattle.tds_service.specs.Refusing.{packets}
use Rattle.tds_service.specs.Ties.{begun_of}
use Rattle.tds_judge.specs.declared.finding.Direction.TheVariants.{ToServer}
use Rattle.tds_judge.specs.Conversation.{Piece, Bytes, piece_seen, seen}
use Rattle.tds_judge.specs.Framing.{Run, steps}
use Rattle.tds_judge.proofs.Folding.{steps-append}
use Rattle.laws_never_blamed.specs.Seen.{Watch, watch_by}
use Rattle.laws_never_blamed.specs.Spelled.{AreOut, AreShown, IsOut, IsShown, Pen, Shown, Wire, dones, headers_of, piece_by, pieces}

-- ---- Lists joined

pub dones_both : (xs ys : List Shown) → dones (xs ++ ys) ≡ dones xs ++ dones ys
dones_both [] ys = refl
dones_both (x ∷ xs) ys = ap (λ (ds : List (Done Token)). x.done ∷ ds) (dones_both xs ys)

pub seen_both : (xs ys : List Shown) (run : Run) → seen (pieces (xs ++ ys)) run ≡ seen (pieces ys) (seen (pieces xs) run)
unfolding seen
seen_both [] ys run = refl
seen_both (x ∷ xs) ys run = seen_both xs ys (piece_seen (piece_by x.done.act x.time x.bytes) run)

after_both : (l : Line) (xs ys : List (Act Token)) → line_after l (xs ++ ys) ≡ line_after (line_after l xs) ys
after_both l [] ys = refl
after_both l (x ∷ xs) ys = after_both (line_turn l x).line xs ys

pub history_both : (l : Line) (xs ys : List (Act Token)) → history l (xs ++ ys) ≡ history l xs ++ history (line_after l xs) ys
history_both l [] ys = refl
history_both l (x ∷ xs) ys = ap (λ (ds : List (Done Token)). done_by x (line_turn l x) ∷ ds) (history_both (line_turn l x).line xs ys)

-- ---- Acts that are played from one place on the wire to another, with a piece that is handed to a judge

pub record Plays (l : Line) (w : Watch) (wire : Wire) (acts : List (Act Token)) (piece : Piece) (after : Line) (v : Watch) (behind : Wire) : Type 0 where
  pub shown : List Shown
  pub done : dones shown ≡ history l acts
  pub line_is : line_after l acts ≡ after
  pub spelled : (xs : List Shown) → AreShown v behind xs → AreShown w wire (shown ++ xs)
  pub handed : (run : Run) → seen (pieces shown) run ≡ piece_seen piece run

pub one : (l : Line) (w : Watch) (wire : Wire) (act : Act Token) (t : ℕ) (bytes : List ℕ) (behind : Wire) → IsShown w.named wire (done_by act (line_turn l act)) bytes act behind
    → Plays l w wire (act ∷ []) (piece_by act t bytes) (line_turn l act).line (watch_by (done_by act (line_turn l act)) w) behind
unfolding seen
one l w wire act t bytes behind is = record {
  shown = (record { done = done_by act (line_turn l act); time = t; bytes = bytes }) ∷ [];
  done = refl;
  line_is = refl;
  spelled = λ xs rest. (behind, is, rest);
  handed = λ run. refl;
}

-- Two such runs of packets are one.
pub both : (l m after : Line) (w v u : Watch) (wire middle behind : Wire) (first second : List (Act Token)) (t : ℕ) (front rest : List ℕ)
    → Plays l w wire first (Bytes ToServer t front) m v middle → Plays m v middle second (Bytes ToServer t rest) after u behind
    → Plays l w wire (first ++ second) (Bytes ToServer t (front ++ rest)) after u behind
both l m after w v u wire middle behind first second t front rest a b = record {
  shown = a.shown ++ b.shown;
  done =
      dones_both a.shown b.shown
      ∙ (ap (λ (ds : List (Done Token)). ds ++ dones b.shown) a.done
      ∙ (ap (λ (ds : List (Done Token)). history l first ++ ds) (b.done ∙ ap (λ (k : Line). history k second) (sym a.line_is)) ∙ sym (history_both l first second)));
  line_is = after_both l first second ∙ (ap (λ (k : Line). line_after k second) a.line_is ∙ b.line_is);
  spelled = λ xs rest.
      subst (λ (all : List Shown). AreShown w wire all) (sym (append_assoc a.shown b.shown xs)) (a.spelled (b.shown ++ xs) (b.spelled xs rest));
  handed = λ run.
      seen_both a.shown b.shown run
      ∙ (ap (seen (pieces b.shown)) (a.handed run) ∙ (b.handed (steps ToServer t front run) ∙ steps-append ToServer t front rest run));
}

-- ---- A request's packet

-- A packet's data, behind so many others, none or some: a first one begins with the headers, and a later one has the pen's kind.
abbrev pub Fits : ℕ → Pen → Kind → ℕ → Bool → List ℕ → Type 0
Fits named pen kind before true content =
    (k : MessageKind) × (rest : List ℕ) × (kind ≡ packets_are k) × (content ≡ headers_of k named ++ rest) × (named < 2 ^ 64)
Fits named pen kind before false content = (kind ≡ packets_are pen.kind) × (pen.packets ≡ before)

-- The packet is such a one, and the pen stands behind it.
record Writes (named : ℕ) (pen : Pen) (packet : Packet) (bytes : List ℕ) (kind : Kind) (before : ℕ) : Type 0 where
  behind : Pen
  out : IsOut named pen packet bytes behind
  kind_is : kind ≡ packets_are behind.kind
  packets_are : behind.packets ≡ before + 1

begun_writes : (n named : ℕ) (pen : Pen) (kind : Kind) (before : ℕ) (none : Bool) (mark : Option Reset) (last : Bool) (content : List ℕ)
    → (before == 0) ≡ none → length content < 65528 → Fits named pen kind before none content
    → Writes named pen (OfRequest n (not_begun (not_begun none)) (mark_on (not_begun none) mark) last)
    (packet_bytes kind (end_bit last + (if none then reset_bit mark else 0)) before content) kind before
begun_writes n named pen kind before true mark last content is few (k, rest, kind_is, content_is, ranged) =
    let status : ℕ = end_bit last + reset_bit mark in
    let first : before ≡ 0 = eqb-true before 0 is in
    let length_is : length (headers_of k named ++ rest) ≡ length content = ap (λ (xs : List ℕ). length xs) (sym content_is) in
    record {
      behind = record { kind = k; packets = 1 };
      out = (
        k,
        rest,
        omega (arith, few, length_is),
        ranged,
        ap (λ (x : Kind). packet_bytes x status before content) kind_is
            ∙ (ap (λ (b : ℕ). packet_bytes (packets_are k) status b content) first ∙ ap (packet_bytes (packets_are k) status 0) content_is),
        refl,
      );
      kind_is = kind_is;
      packets_are = omega (arith, first);
    }
begun_writes n named pen kind before false mark last content is few (kind_is, packets_is) = record {
  behind = record { kind = pen.kind; packets = pen.packets + 1 };
  out = (
    content,
    omega (arith, few),
    ap (λ (x : Kind). packet_bytes x (end_bit last + 0) before content) kind_is
        ∙ ap (λ (b : ℕ). packet_bytes (packets_are pen.kind) (end_bit last + 0) b content) (sym packets_is),
    refl,
  );
  kind_is = kind_is;
  packets_are = ap (λ (k : ℕ). k + 1) packets_is;
}

later : (before : ℕ) → (before + 1 == 0) ≡ false
later before = grind (arith, nat_tests)

pub behind_one : (named : ℕ) (pen : Pen) (kind : Kind) (before : ℕ) (content : List ℕ) → kind ≡ packets_are pen.kind → pen.packets ≡ before + 1
    → Fits named pen kind (before + 1) (before + 1 == 0) content
behind_one named pen kind before content kind_is packets_is =
    subst (λ (b : Bool). Fits named pen kind (before + 1) b content) (sym (later before)) (kind_is, packets_is)

-- what is first of such data is such data
headers_few : (k : MessageKind) (named : ℕ) → length (headers_of k named) ≤ 22
headers_few Batch named = omega arith
headers_few Procedure named = omega arith
headers_few BulkLoad named = omega arith
headers_few Transaction named = omega arith

pub fits_front : (named : ℕ) (pen : Pen) (kind : Kind) (before room : ℕ) (none : Bool) (content : List ℕ) → 504 ≤ room → Fits named pen kind before none content
    → Fits named pen kind before none (take room content)
fits_front named pen kind before room true content wide (k, rest, kind_is, content_is, ranged) =
    let few = headers_few k named in
    let left : ℕ = room - length (headers_of k named) in
    let split : room ≡ length (headers_of k named) + left = omega (arith, wide, few) in (
      k,
      take left rest,
      kind_is,
      ap (take room) content_is
          ∙ (ap (λ (n : ℕ). take n (headers_of k named ++ rest)) split ∙ take-append-add (headers_of k named) rest left),
      ranged,
    )
fits_front named pen kind before room false content wide fits = fits

pub fits_more : (named : ℕ) (pen : Pen) (kind : Kind) (before : ℕ) (none : Bool) (content more : List ℕ) → Fits named pen kind before none content
    → Fits named pen kind before none (content ++ more)
fits_more named pen kind before true content more (k, rest, kind_is, content_is, ranged) = (
  k,
  rest ++ more,
  kind_is,
  ap (λ (xs : List ℕ). xs ++ more) content_is ∙ append_assoc (headers_of k named) rest more,
  ranged,
)
fits_more named pen kind before false content more fits = fits

-- ---- How long they are

length-take-at-most : (n : ℕ) (xs : List ℕ) → length (take n xs) ≤ n
length-take-at-most n xs = omega (arith, length-take n xs, min-le_left n (length xs))

left_few : (room : ℕ) (bytes : List ℕ) → 504 ≤ room → room ≤ 32759 → length (left_behind room bytes) < 65528
left_few room bytes wide narrow =
    let positive : zero < room = omega (arith, wide) in
    let counted : length bytes - 1 < (length bytes - 1) / room * room + room = lt-div-mul-add positive in
    omega (arith, length-drop (full_packets room (length bytes) * room) bytes, counted, narrow)

-- ---- It is played

abbrev pub sending_at : ℕ → Heard → Bool → Line
sending_at n h begun = record { asked = n; stage = line.Sending begun; heard = h }

alone : (named : ℕ) (pen : Pen) (packet : Packet) (bytes : List ℕ) (behind : Pen) → IsOut named pen packet bytes behind → AreOut named pen (packet ∷ []) bytes behind
alone named pen packet bytes behind out = (bytes, [], behind, sym (append-nil bytes), out, (refl, refl))

mark_is : (none : Bool) (mark : Option Reset) (before : ℕ) → (before == 0) ≡ none → (if none then reset_bit mark else 0) ≡ mark_bit before mark
mark_is none mark before is = ap (λ (b : Bool). if b then reset_bit mark else 0) (sym is)

-- Packets of a request are played, and what is left of it fits behind them.
pub record Sends (l : Line) (w : Watch) (wire : Wire) (acts : List (Act Token)) (piece : Piece) (after : Line) (kind : Kind) (before : ℕ) (left : List ℕ) : Type 0 where
  pub pen : Pen
  pub plays : Plays l w wire acts piece after w (record wire { pen = pen })
  pub fits : Fits w.named pen kind before (before == 0) left

pub sends_one : (n t : ℕ) (h : Heard) (w : Watch) (wire : Wire) (kind : Kind) (before : ℕ) (last : Bool) (content left : List ℕ)
    → length content < 65528 → Fits w.named wire.pen kind before (before == 0) content
    → Sends (sending_at n h (begun_of before)) w wire (line.Send last ∷ []) (Bytes ToServer t (packet_bytes kind (end_bit last + mark_bit before h.mark) before content))
    (record { asked = n; stage = line.stage_behind last; heard = h }) kind (before + 1) left
sends_one n t h w wire kind before last content left few fits =
    let bytes : List ℕ = packet_bytes kind (end_bit last + mark_bit before h.mark) before content in
    let writes = begun_writes n w.named wire.pen kind before (before == 0) h.mark last content refl few fits in
    let behind : Wire = record wire { pen = writes.behind } in
    record {
      pen = writes.behind;
      plays = one (sending_at n h (begun_of before)) w wire (line.Send last) t bytes behind
          (alone w.named wire.pen (OfRequest n (not_begun (begun_of before)) (mark_on (begun_of before) h.mark) last) bytes writes.behind writes.out, refl, refl);
      fits = behind_one w.named writes.behind kind before left writes.kind_is writes.packets_are;
    }

pub began : (before : ℕ) → begun_of (before + 1) ≡ true
began before = ap not_begun (later before)

-- A packet that isn't the last one.
pub sends_more : (n t : ℕ) (h : Heard) (w : Watch) (wire : Wire) (kind : Kind) (room before : ℕ) (bytes : List ℕ)
    → 504 ≤ room → room ≤ 32759 → Fits w.named wire.pen kind before (before == 0) bytes
    → Sends (sending_at n h (begun_of before)) w wire (line.Send false ∷ []) (Bytes ToServer t (packet_bytes kind (end_bit false + mark_bit before h.mark) before (take room bytes)))
    (sending_at n h (begun_of (before + 1))) kind (before + 1) (drop room bytes)
sends_more n t h w wire kind room before bytes wide narrow fits =
    let few : length (take room bytes) < 65528 = omega (arith, length-take-at-most room bytes, narrow) in
    let content : List ℕ = take room bytes in
    let out : List ℕ = packet_bytes kind (end_bit false + mark_bit before h.mark) before content in
    subst (λ (b : Bool). Sends (sending_at n h (begun_of before)) w wire (line.Send false ∷ []) (Bytes ToServer t out) (sending_at n h b) kind (before + 1) (drop room bytes)) (sym (began before))
    (sends_one n t h w wire kind before false content (drop room bytes) few (fits_front w.named wire.pen kind before room (before == 0) bytes wide fits))

-- none
sends_none : (n t : ℕ) (h : Heard) (w : Watch) (wire : Wire) (kind : Kind) (room before : ℕ) (bytes : List ℕ)
    → Fits w.named wire.pen kind before (before == 0) bytes
    → Sends (sending_at n h (begun_of before)) w wire [] (Bytes ToServer t []) (sending_at n h (begun_of (before + 0))) kind (before + 0) (drop (0 * room) bytes)
unfolding seen steps
sends_none n t h w wire kind room before bytes fits =
    let same : before ≡ before + 0 = omega arith in
    record {
      pen = wire.pen;
      plays = record {
        shown = [];
        done = refl;
        line_is = ap (λ (k : ℕ). sending_at n h (begun_of k)) same;
        spelled = λ xs rest. rest;
        handed = λ run. refl;
      };
      fits = subst (λ (m : ℕ). Fits w.named wire.pen kind (before + 0) (before + 0 == 0) (drop m bytes)) (sym (zero-mul room))
          (subst (λ (k : ℕ). Fits w.named wire.pen kind k (k == 0) bytes) same fits);
    }

drops : (count room : ℕ) (bytes : List ℕ) → drop (count * room) (drop room bytes) ≡ drop (suc count * room) bytes
drops count room bytes = drop-drop _ _ bytes ∙ ap (λ (n : ℕ). drop n bytes) (let e : room + count * room ≡ suc count * room = omega (arith, suc-mul count room) in e)

-- So many full packets.
pub sends_full : (n t : ℕ) (h : Heard) (w : Watch) (wire : Wire) (kind : Kind) (room count before : ℕ) (bytes : List ℕ)
    → 504 ≤ room → room ≤ 32759 → Fits w.named wire.pen kind before (before == 0) bytes
    → Sends (sending_at n h (begun_of before)) w wire (packets count) (Bytes ToServer t (packets_of room kind h.mark before count bytes))
    (sending_at n h (begun_of (before + count))) kind (before + count) (drop (count * room) bytes)
sends_full n t h w wire kind room zero before bytes wide narrow fits = sends_none n t h w wire kind room before bytes fits
sends_full n t h w wire kind room (suc count) before bytes wide narrow fits =
    let first = sends_more n t h w wire kind room before bytes wide narrow fits in
    let middle : Wire = record wire { pen = first.pen } in
    let rest = sends_full n t h w middle kind room count (before + 1) (drop room bytes) wide narrow first.fits in
    let counted : before + 1 + count ≡ before + suc count = omega arith in
    let back : List ℕ = packets_of room kind h.mark (before + 1) count (drop room bytes) in
    let behind : Wire = record wire { pen = rest.pen } in
    let from : Plays (sending_at n h (begun_of (before + 1))) w middle (packets count) (Bytes ToServer t back) (sending_at n h (begun_of (before + suc count))) w behind =
    subst (λ (k : ℕ). Plays (sending_at n h (begun_of (before + 1))) w middle (packets count) (Bytes ToServer t back) (sending_at n h (begun_of k)) w behind) counted rest.plays in
    record {
      pen = rest.pen;
      plays = both (sending_at n h (begun_of before)) (sending_at n h (begun_of (before + 1))) (sending_at n h (begun_of (before + suc count))) w w w wire middle behind (line.Send false ∷ []) (packets count) t
          (packet_bytes kind (end_bit false + mark_bit before h.mark) before (take room bytes)) back first.plays from;
      fits = subst (λ (xs : List ℕ). Fits w.named rest.pen kind (before + suc count) (before + suc count == 0) xs) (drops count room bytes)
          (subst (λ (k : ℕ). Fits w.named rest.pen kind k (k == 0) (drop (count * room) (drop room bytes))) counted rest.fits);
    }

-- The last ones: full packets, and one that ends the message.
pub sends_last : (n t : ℕ) (h : Heard) (w : Watch) (wire : Wire) (kind : Kind) (room before : ℕ) (bytes : List ℕ)
    → 504 ≤ room → room ≤ 32759 → Fits w.named wire.pen kind before (before == 0) bytes
    → Sends (sending_at n h (begun_of before)) w wire (packets (full_packets room (length bytes)) ++ line.Send true ∷ []) (Bytes ToServer t (ended_by room kind h.mark before bytes))
    (record { asked = n; stage = line.Reading; heard = h }) kind (before + full_packets room (length bytes) + 1) []
sends_last n t h w wire kind room before bytes wide narrow fits =
    let count : ℕ = full_packets room (length bytes) in
    let left : List ℕ = left_behind room bytes in
    let full = sends_full n t h w wire kind room count before bytes wide narrow fits in
    let middle : Wire = record wire { pen = full.pen } in
    let end = sends_one n t h w middle kind (before + count) true left [] (left_few room bytes wide narrow) full.fits in
    record {
      pen = end.pen;
      plays = both (sending_at n h (begun_of before)) (sending_at n h (begun_of (before + count))) (record { asked = n; stage = line.Reading; heard = h }) w w w wire middle (record wire { pen = end.pen })
          (packets count) (line.Send true ∷ []) t (packets_of room kind h.mark before count bytes) (packet_bytes kind (end_bit true + mark_bit (before + count) h.mark) (before + count) left)
          full.plays end.plays;
      fits = end.fits;
    }
