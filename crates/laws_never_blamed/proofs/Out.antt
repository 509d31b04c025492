-- What a packet that goes out says to a judge.
use Rattle.std.proofs.Common.{◌≡◌, ◌∙◌, ◌+◌, ◌-◌, ◌*◌, ◌/◌, ◌%◌, ◌<◌, ◌≤◌, ◌==◌, ◌&&◌, ◌||◌, not, nat_lt, Bool, true, false, ℕ, List, [], ◌∷◌, ◌++◌, length, refl, ap, arith}
use Rattle.std.proofs.lemmas.Bool.{le-ltb, ne_eqb}
use Rattle.std.proofs.lemmas.Nat.{from_le_bytes-to_le_bytes_8}
use Rattle.std.specs.Prelude.{◌^◌}
use Rattle.tds_packet.specs.declared.kind.Kind.{Kind}
use Rattle.tds_packet.specs.declared.kind.Kind.TheVariants as kinds
use Rattle.tds_packet.specs.Layout.{kind_byte}
use Rattle.tds_client.specs.declared.message.MessageKind.{MessageKind}
use Rattle.tds_client.specs.declared.message.MessageKind.TheVariants.{Batch, Procedure, BulkLoad, Transaction}
use Rattle.tds_client.specs.Packets.{stop_bytes, ignore, packet_bytes}
use Rattle.tds_client.specs.Streams.{packets_are}
use Rattle.tds_request.specs.Layout.{all_headers}
use Rattle.tds_judge.specs.declared.finding.Direction.TheVariants.{ToServer}
use Rattle.tds_judge.specs.declared.finding.Spot.{Spot}
use Rattle.tds_judge.specs.declared.frame.Due.{Due}
use Rattle.tds_judge.specs.declared.frame.Due.TheVariants as due
use Rattle.tds_judge.specs.declared.frame.Frame.{Frame}
use Rattle.tds_judge.specs.declared.frame.Head.{Head}
use Rattle.tds_judge.specs.declared.frame.Inside.{Inside}
use Rattle.tds_judge.specs.declared.frame.Inside.TheVariants as inside
use Rattle.tds_judge.specs.declared.frame.Part.TheVariants as parts
use Rattle.tds_judge.specs.declared.talk.Event.{Event}
use Rattle.tds_judge.specs.declared.talk.Event.TheVariants as events
use Rattle.tds_wire.specs.Reading.{Parser}
use Rattle.tds_judge.specs.Framing.{begins, headed, opened, opened_frame, over, steps}
use Rattle.tds_judge.specs.PacketHeads.{event_of, head_of, inside_of, is_plausible, shifted}
use Rattle.tds_judge.specs.Headers.{new_heading}
use Rattle.tds_judge.specs.History.{Said, found_in, further}
use Rattle.laws_never_blamed.specs.Spelled.{headers_of}
use Rattle.laws_never_blamed.proofs.Heads.{Base, between_begins, client_begins, client_goes_on, client_head, client_spot, first_begins, head_spot, next, run_at, says, seven, spelled7, spelled_head, within_goes_on}
use Rattle.laws_never_blamed.proofs.Contents.{descriptor, descriptor_is, front, headers_end, last as last_of, names, on, prefix, rest_of, skipped, skips_all}
use Rattle.laws_never_blamed.proofs.Follows.{Follows}

-- ---- The header

kind_small : (kind : Kind) → kind_byte kind < 256
kind_small kinds.Batch = omega arith
kind_small kinds.Procedure = omega arith
kind_small kinds.Answer = omega arith
kind_small kinds.Attention = omega arith
kind_small kinds.BulkLoad = omega arith
kind_small kinds.Transaction = omega arith

abbrev pub head_for : Kind → ℕ → ℕ → ℕ → Head
head_for kind status size before = record { kind = kind_byte kind; status = status; size = size; id = (before + 1) % 256 }

-- whether a packet has to be full
abbrev pub fills : Kind → ℕ → Bool
fills kind status = not (status % 2 == 1) && ((kind_byte kind == 1) || (kind_byte kind == 3) || (kind_byte kind == 7) || (kind_byte kind == 14))

-- the number that a header's bytes spell
abbrev pub value_of : Kind → ℕ → ℕ → ℕ → ℕ
value_of kind status size before = shifted (spelled7 (kind_byte kind) status (size / 256) (size % 256) 0 0 ((before + 1) % 256)) 0

pub packet_head : (kind : Kind) (status size before : ℕ) → status < 256 → size < 65536 → head_of (value_of kind status size before) ≡ head_for kind status size before
packet_head kind status size before small few =
    let high : size / 256 < 256 = omega arith in
    let low : size % 256 < 256 = omega arith in
    let id : (before + 1) % 256 < 256 = omega arith in
    let whole : size / 256 * 256 + size % 256 ≡ size = omega arith in
    spelled_head (kind_byte kind) status (size / 256) (size % 256) 0 0 ((before + 1) % 256) 0 (kind_small kind) small high low (omega arith) (omega arith) id (omega arith)
    ∙ (let with_size : ℕ → Head = λ n. record { kind = kind_byte kind; status = status; size = n; id = (before + 1) % 256 } in ap with_size whole)

request_plain : (kind : MessageKind) (status size before : ℕ) → 8 ≤ size → is_plausible ToServer (head_for (packets_are kind) status size before) ≡ true
request_plain Batch status size before most = rw (le-ltb size 8 most) refl
request_plain Procedure status size before most = rw (le-ltb size 8 most) refl
request_plain BulkLoad status size before most = rw (le-ltb size 8 most) refl
request_plain Transaction status size before most = rw (le-ltb size 8 most) refl

-- whether it is of a bulk load
abbrev pub bulk_of : MessageKind → Bool
bulk_of Batch = false
bulk_of Procedure = false
bulk_of BulkLoad = true
bulk_of Transaction = false

request_event : (kind : MessageKind) (status size before : ℕ) → event_of (head_for (packets_are kind) status size before) ≡ events.Request status (bulk_of kind)
request_event Batch status size before = refl
request_event Procedure status size before = refl
request_event BulkLoad status size before = refl
request_event Transaction status size before = refl

request_kind : (kind : MessageKind) → (kind_byte (packets_are kind) == 18) ≡ false
request_kind Batch = refl
request_kind Procedure = refl
request_kind BulkLoad = refl
request_kind Transaction = refl

request_again : (kind : MessageKind) → ((kind_byte (packets_are kind) == kind_byte (packets_are kind)) && not (kind_byte (packets_are kind) == 6)) ≡ true
request_again Batch = refl
request_again Procedure = refl
request_again BulkLoad = refl
request_again Transaction = refl

-- ---- Where the client's direction is

-- between two messages, or before its first byte
pub data Edge (c : Frame) : Type 0 where
  Behind : (part : c.part ≡ parts.Between) → Edge c
  First : (part : c.part ≡ parts.Lost) (offset : c.offset ≡ 0) → Edge c

pub record Rests (c : Frame) : Type 0 where
  pub due : c.due ≡ due.Head 0 0
  pub edge : Edge c
  pub kind : (c.kind == 18) ≡ false

-- inside a request's message, between two of its packets, and ALL_HEADERS is over
pub record Amid (kind : MessageKind) (c : Frame) : Type 0 where
  pub due : c.due ≡ due.Head 0 0
  pub part : c.part ≡ parts.Within
  pub inside : c.inside ≡ inside.Skipped
  pub kind_is : c.kind ≡ kind_byte (packets_are kind)

-- behind a packet that ends its message or not
abbrev pub After : Bool → MessageKind → Frame → Type 0
After true kind c = Rests c
After false kind c = Amid kind c

-- What bytes say, and where the direction is behind them.
pub record Spoken (base : Base) (t : ℕ) (bytes : List ℕ) (c s : Frame) (r : Parser) (past : List Said) (said : List Event) (Then : Frame → Type 0) : Type 0 where
  pub frame : Frame
  pub behind : List Said
  pub follows : Follows said past behind
  pub is : steps ToServer t bytes (run_at base c s r past) ≡ run_at base frame s r behind
  pub so : Then frame

-- ---- The end of a packet

abbrev behind_frame : Bool → Frame → Frame
behind_frame true c = record c { due = due.Head 0 0; part = parts.Between }
behind_frame false c = record c { due = due.Head 0 0; part = parts.Within }

over_packet : (base : Base) (o t : ℕ) (last : Bool) (c s : Frame) (r : Parser) (past : List Said) → (c.status % 2 == 1) ≡ last → (c.status / 2 % 2 == 1) ≡ false → c.inside ≡ inside.Skipped
    → over (client_spot o t) (run_at base (record c { part = parts.Within }) s r past) ≡ run_at base (behind_frame last c) s r past
unfolding over
over_packet base o t true c s r past ends plain passed = rw (ends, plain, passed) refl
over_packet base o t false c s r past ends plain passed = rw ends refl

-- ---- A header

opened_more : (base : Base) (o t : ℕ) (i : Inside) (head : Head) (c s : Frame) (r : Parser) (past : List Said) → (head.size == 8) ≡ false
    → opened (client_spot o t) parts.Within i head (run_at base c s r past) ≡ run_at base (opened_frame c parts.Within i head) s r past
unfolding opened
opened_more base o t i head c s r past more = rw more refl

opened_empty : (base : Base) (o t : ℕ) (i : Inside) (head : Head) (c s : Frame) (r : Parser) (past : List Said) → (head.size == 8) ≡ true
    → opened (client_spot o t) parts.Within i head (run_at base c s r past) ≡ over (client_spot o t) (run_at base (opened_frame c parts.Within i head) s r past)
unfolding opened
opened_empty base o t i head c s r past none = rw none refl

-- a packet of a request
abbrev of_request : MessageKind → ℕ → List ℕ → ℕ → Head
of_request kind status content before = head_for (packets_are kind) status (8 + length content) before

-- its data, which nobody reads
opened_skips : (base : Base) (o t : ℕ) (last : Bool) (kind : MessageKind) (status before : ℕ) (content : List ℕ) (c s : Frame) (r : Parser) (past : List Said)
    → (status % 2 == 1) ≡ last → (status / 2 % 2 == 1) ≡ false
    → (f : Frame) × (steps ToServer t content (opened (client_spot o t) parts.Within inside.Skipped (of_request kind status content before) (run_at base c s r past)) ≡ run_at base (behind_frame last f) s r past)
    × (f.kind ≡ kind_byte (packets_are kind)) × (f.inside ≡ inside.Skipped)
unfolding steps
opened_skips base o t last kind status before [] c s r past ends plain =
    let head = of_request kind status [] before in
    let there : Frame = opened_frame c parts.Within inside.Skipped head in
    (there, opened_empty base o t inside.Skipped head c s r past refl ∙ over_packet base o t last there s r past ends plain refl, refl, refl)
opened_skips base o t last kind status before (b ∷ bytes) c s r past ends plain =
    let head = of_request kind status (b ∷ bytes) before in
    let there : Frame = opened_frame c parts.Within inside.Skipped head in
    let behind : Frame = skipped there 1 (on c.offset (b ∷ bytes)) in
    let more : (8 + length (b ∷ bytes) == 8) ≡ false = ne_eqb (8 + length (b ∷ bytes)) 8 (λ (e : 8 + length (b ∷ bytes) ≡ 8). omega (arith, e)) in
    let n : length (b ∷ bytes) ≡ 8 + length (b ∷ bytes) - 8 = omega arith in (
      behind,
      ap (steps ToServer t (b ∷ bytes)) (opened_more base o t inside.Skipped head c s r past more)
          ∙ (skips_all base t b (8 + length (b ∷ bytes) - 8) c.offset bytes there s r past n
          ∙ over_packet base (last_of c.offset b bytes) t last behind s r past ends plain refl),
      refl,
      refl,
    )

-- its data, which begin with ALL_HEADERS
opened_names : (base : Base) (o t : ℕ) (last : Bool) (kind : MessageKind) (status before named : ℕ) (body : List ℕ) (c s : Frame) (r : Parser) (past : List Said)
    → (status % 2 == 1) ≡ last → (status / 2 % 2 == 1) ≡ false → named < 2 ^ 64
    → (f : Frame) × (spot : Spot)
    × (steps ToServer t (all_headers named ++ body) (opened (client_spot o t) parts.Within (inside.Prefix new_heading) (of_request kind status (all_headers named ++ body) before) (run_at base c s r past))
    ≡ run_at base (behind_frame last f) s r (says spot (events.Names named) past))
    × (f.kind ≡ kind_byte (packets_are kind)) × (f.inside ≡ inside.Skipped)
opened_names base o t last kind status before named body c s r past ends plain ranged =
    let content : List ℕ = all_headers named ++ body in
    let head = of_request kind status content before in
    let there : Frame = opened_frame c parts.Within (inside.Prefix new_heading) head in
    let a = named % 256 in
    let b = named / 256 % 256 in
    let d = named / 65536 % 256 in
    let e = named / 16777216 % 256 in
    let f = named / 4294967296 % 256 in
    let g = named / 1099511627776 % 256 in
    let h = named / 281474976710656 % 256 in
    let i = named / 72057594037927936 % 256 in
    let size : ℕ = 8 + length content in
    let place : ℕ = on c.offset (front a b d e f g h) in
    let spot : Spot = client_spot place t in
    let behind : Frame = skipped there 1 (on (next place) (1 ∷ 0 ∷ 0 ∷ 0 ∷ body)) in
    let more : (8 + length content == 8) ≡ false = ne_eqb (8 + length content) 8 (λ (q : 8 + length content ≡ 8). omega (arith, q)) in
    let many : 18 < size - 8 = omega arith in
    let rest : length (1 ∷ 0 ∷ 0 ∷ 0 ∷ body) ≡ size - 8 - 18 = omega arith in
    let is_named : descriptor a b d e f g h i ≡ named =
    descriptor_is a b d e f g h i (omega arith) (omega arith) (omega arith) (omega arith) (omega arith) (omega arith) (omega arith) (omega arith)
    ∙ from_le_bytes-to_le_bytes_8 named ranged in (
      behind,
      spot,
      ap (steps ToServer t content) (opened_more base o t (inside.Prefix new_heading) head c s r past more)
          ∙ (names base t a b d e f g h i (size - 8) c.offset (1 ∷ 0 ∷ 0 ∷ 0 ∷ body) there s r past many
          ∙ (ap (λ (n : ℕ). steps ToServer t (1 ∷ 0 ∷ 0 ∷ 0 ∷ body) (run_at base (prefix there (size - 8 - 18) (rest_of 4 0) (next place)) s r (says spot (events.Names n) past))) is_named
          ∙ (headers_end base t (size - 8 - 18) (next place) body there s r (says spot (events.Names named) past) rest
          ∙ over_packet base (last_of (next place) 1 (0 ∷ 0 ∷ 0 ∷ body)) t last behind s r (says spot (events.Names named) past) ends plain refl))),
      refl,
      refl,
    )

after_frame : (last : Bool) (kind : MessageKind) (f : Frame) → f.kind ≡ kind_byte (packets_are kind) → f.inside ≡ inside.Skipped → After last kind (behind_frame last f)
after_frame true kind f k i = record { due = refl; edge = Behind refl; kind = ap (λ (n : ℕ). n == 18) k ∙ request_kind kind }
after_frame false kind f k i = record { due = refl; part = refl; inside = i; kind_is = k }

-- ---- A header comes

abbrev headed_frame : Kind → ℕ → ℕ → ℕ → Frame → Frame
headed_frame kind status size before c =
    record c { due = due.Head 7 (spelled7 (kind_byte kind) status (size / 256) (size % 256) 0 0 ((before + 1) % 256)); offset = next (seven c.offset) }

edge_begins : (base : Base) (t : ℕ) (kind : Kind) (status size : ℕ) (c s : Frame) (r : Parser) (past : List Said) → Edge c → status < 256 → size < 65536
    → is_plausible ToServer (head_for kind status size 0) ≡ true
    → headed (head_spot ToServer c.offset t) (value_of kind status size 0) (run_at base (headed_frame kind status size 0 c) s r past)
    ≡ begins (head_spot ToServer c.offset t) (head_for kind status size 0) (run_at base (headed_frame kind status size 0 c) s r past)
edge_begins base t kind status size c s r past (Behind part) small few plain =
    between_begins (head_spot ToServer c.offset t) (value_of kind status size 0) (head_for kind status size 0) (run_at base (headed_frame kind status size 0 c) s r past)
    (packet_head kind status size 0 small few) plain part
edge_begins base t kind status size c s r past (First part offset) small few plain =
    first_begins (head_spot ToServer c.offset t) (value_of kind status size 0) (head_for kind status size 0) (run_at base (headed_frame kind status size 0 c) s r past)
    (packet_head kind status size 0 small few) plain part (ap (λ (o : ℕ). (seven o == 7) && nat_lt 1 2) offset)

header_begins : (base : Base) (t : ℕ) (kind : Kind) (status : ℕ) (content : List ℕ) (c s : Frame) (r : Parser) (past : List Said) → Rests c → status < 256 → 8 + length content < 65536
    → is_plausible ToServer (head_for kind status (8 + length content) 0) ≡ true
    → steps ToServer t (packet_bytes kind status 0 content) (run_at base c s r past)
    ≡ steps ToServer t content (begins (head_spot ToServer c.offset t) (head_for kind status (8 + length content) 0)
    (run_at base (headed_frame kind status (8 + length content) 0 c) s r past))
header_begins base t kind status content c s r past rests small few plain =
    ap (λ (d : Due). steps ToServer t (packet_bytes kind status 0 content) (run_at base (record c { due = d }) s r past)) rests.due
    ∙ (client_head base t (kind_byte kind) status ((8 + length content) / 256) ((8 + length content) % 256) 0 0 1 0 content c s r past
    ∙ ap (steps ToServer t content) (edge_begins base t kind status (8 + length content) c s r past rests.edge small few plain))

header_goes_on : (base : Base) (t : ℕ) (kind : MessageKind) (status before : ℕ) (content : List ℕ) (c s : Frame) (r : Parser) (past : List Said) → Amid kind c → status < 256 → 8 + length content < 65536
    → steps ToServer t (packet_bytes (packets_are kind) status before content) (run_at base c s r past)
    ≡ steps ToServer t content (opened (head_spot ToServer c.offset t) parts.Within inside.Skipped (of_request kind status content before)
    (run_at base (headed_frame (packets_are kind) status (8 + length content) before c) s r
    (says (head_spot ToServer c.offset t) (events.Later status) (says (head_spot ToServer c.offset t) (events.Packet (8 + length content) (fills (packets_are kind) status)) past))))
header_goes_on base t kind status before content c s r past amid small few =
    let size : ℕ = 8 + length content in
    let head = of_request kind status content before in
    let there : Frame = headed_frame (packets_are kind) status (8 + length content) before c in
    let spot : Spot = head_spot ToServer c.offset t in
    let said : List Said = says spot (events.Later status) (says spot (events.Packet (8 + length content) (fills (packets_are kind) status)) past) in
    let same : ((head.kind == c.kind) && not (head.kind == 6)) ≡ true =
    ap (λ (n : ℕ). (kind_byte (packets_are kind) == n) && not (kind_byte (packets_are kind) == 6)) amid.kind_is ∙ request_again kind in
    ap (λ (d : Due). steps ToServer t (packet_bytes (packets_are kind) status before content) (run_at base (record c { due = d }) s r past)) amid.due
    ∙ (client_head base t (kind_byte (packets_are kind)) status ((8 + length content) / 256) ((8 + length content) % 256) 0 0 ((before + 1) % 256) 0 content c s r past
    ∙ ap (steps ToServer t content)
    (within_goes_on spot (value_of (packets_are kind) status (8 + length content) before) head (run_at base there s r past)
    (packet_head (packets_are kind) status (8 + length content) before small few) (request_plain kind status (8 + length content) before (omega arith)) amid.part
    ∙ (client_goes_on base there s r past spot.offset t head same
    ∙ ap (λ (i : Inside). opened spot parts.Within i head (run_at base there s r said)) amid.inside)))

-- ---- What goes out

abbrev pub names_of : MessageKind → ℕ → List Event
names_of Batch named = events.Names named ∷ []
names_of Procedure named = events.Names named ∷ []
names_of BulkLoad named = []
names_of Transaction named = events.Names named ∷ []

named_first : (base : Base) (t : ℕ) (last : Bool) (kind : MessageKind) (status named : ℕ) (body : List ℕ) (c s : Frame) (r : Parser) (past : List Said) → Rests c
    → status < 256 → 8 + length (all_headers named ++ body) < 65536 → (status % 2 == 1) ≡ last → (status / 2 % 2 == 1) ≡ false → named < 2 ^ 64 → inside_of (kind_byte (packets_are kind)) ≡ inside.Prefix new_heading
    → Spoken base t (packet_bytes (packets_are kind) status 0 (all_headers named ++ body)) c s r past
    (events.Packet (8 + length (all_headers named ++ body)) (fills (packets_are kind) status) ∷ events.Request status (bulk_of kind) ∷ events.Names named ∷ []) (After last kind)
named_first base t last kind status named body c s r past rests small few ends plain ranged prefix_is =
    let content : List ℕ = all_headers named ++ body in
    let head = of_request kind status content 0 in
    let there : Frame = headed_frame (packets_are kind) status (8 + length content) 0 c in
    let spot : Spot = head_spot ToServer c.offset t in
    let said : List Said = says spot (events.Request status (bulk_of kind)) (says spot (events.Packet (8 + length content) (fills (packets_are kind) status)) past) in
    let (f, place, is, kind_is, inside_is) = opened_names base spot.offset t last kind status 0 named body there s r said ends plain ranged in
    record {
      frame = behind_frame last f;
      behind = says place (events.Names named) said;
      follows = (spot, (spot, (place, refl)));
      is =
          header_begins base t (packets_are kind) status content c s r past rests small few (request_plain kind status (8 + length content) 0 (omega arith))
          ∙ (ap (steps ToServer t content)
          (client_begins base there s r past spot.offset t head (events.Request status (bulk_of kind)) (request_event kind status (8 + length content) 0)
          ∙ ap (λ (i : Inside). opened spot parts.Within i head (run_at base there s r said)) prefix_is)
          ∙ is);
      so = after_frame last kind f kind_is inside_is;
    }

bulk_first : (base : Base) (t : ℕ) (last : Bool) (status : ℕ) (content : List ℕ) (c s : Frame) (r : Parser) (past : List Said) → Rests c
    → status < 256 → 8 + length content < 65536 → (status % 2 == 1) ≡ last → (status / 2 % 2 == 1) ≡ false
    → Spoken base t (packet_bytes (packets_are BulkLoad) status 0 content) c s r past (events.Packet (8 + length content) (fills (packets_are BulkLoad) status) ∷ events.Request status true ∷ []) (After last BulkLoad)
bulk_first base t last status content c s r past rests small few ends plain =
    let head = of_request BulkLoad status content 0 in
    let there : Frame = headed_frame (packets_are BulkLoad) status (8 + length content) 0 c in
    let spot : Spot = head_spot ToServer c.offset t in
    let said : List Said = says spot (events.Request status true) (says spot (events.Packet (8 + length content) (fills (packets_are BulkLoad) status)) past) in
    let (f, is, kind_is, inside_is) = opened_skips base spot.offset t last BulkLoad status 0 content there s r said ends plain in
    record {
      frame = behind_frame last f;
      behind = said;
      follows = (spot, (spot, refl));
      is =
          header_begins base t (packets_are BulkLoad) status content c s r past rests small few (request_plain BulkLoad status (8 + length content) 0 (omega arith))
          ∙ (ap (steps ToServer t content) (client_begins base there s r past spot.offset t head (events.Request status true) (request_event BulkLoad status (8 + length content) 0))
          ∙ is);
      so = after_frame last BulkLoad f kind_is inside_is;
    }

pub request_first : (base : Base) (t : ℕ) (last : Bool) (kind : MessageKind) (status named : ℕ) (body : List ℕ) (c s : Frame) (r : Parser) (past : List Said) → Rests c
    → status < 256 → 8 + length (headers_of kind named ++ body) < 65536 → (status % 2 == 1) ≡ last → (status / 2 % 2 == 1) ≡ false → named < 2 ^ 64
    → Spoken base t (packet_bytes (packets_are kind) status 0 (headers_of kind named ++ body)) c s r past
    (events.Packet (8 + length (headers_of kind named ++ body)) (fills (packets_are kind) status) ∷ events.Request status (bulk_of kind) ∷ names_of kind named) (After last kind)
request_first base t last Batch status named body c s r past rests small few ends plain ranged = named_first base t last Batch status named body c s r past rests small few ends plain ranged refl
request_first base t last Procedure status named body c s r past rests small few ends plain ranged = named_first base t last Procedure status named body c s r past rests small few ends plain ranged refl
request_first base t last BulkLoad status named body c s r past rests small few ends plain ranged = bulk_first base t last status body c s r past rests small few ends plain
request_first base t last Transaction status named body c s r past rests small few ends plain ranged = named_first base t last Transaction status named body c s r past rests small few ends plain ranged refl

pub request_later : (base : Base) (t : ℕ) (last : Bool) (kind : MessageKind) (status before : ℕ) (content : List ℕ) (c s : Frame) (r : Parser) (past : List Said) → Amid kind c
    → status < 256 → 8 + length content < 65536 → (status % 2 == 1) ≡ last → (status / 2 % 2 == 1) ≡ false
    → Spoken base t (packet_bytes (packets_are kind) status before content) c s r past (events.Packet (8 + length content) (fills (packets_are kind) status) ∷ events.Later status ∷ []) (After last kind)
request_later base t last kind status before content c s r past amid small few ends plain =
    let there : Frame = headed_frame (packets_are kind) status (8 + length content) before c in
    let spot : Spot = head_spot ToServer c.offset t in
    let said : List Said = says spot (events.Later status) (says spot (events.Packet (8 + length content) (fills (packets_are kind) status)) past) in
    let (f, is, kind_is, inside_is) = opened_skips base spot.offset t last kind status before content there s r said ends plain in
    record {
      frame = behind_frame last f;
      behind = said;
      follows = (spot, (spot, refl));
      is = header_goes_on base t kind status before content c s r past amid small few ∙ is;
      so = after_frame last kind f kind_is inside_is;
    }

over_ignored : (base : Base) (o t : ℕ) (c s : Frame) (r : Parser) (past : List Said)
    → over (client_spot o t) (run_at base (record c { part = parts.Within; status = 3 }) s r past)
    ≡ run_at base (record c { due = due.Head 0 0; part = parts.Between; status = 3 }) s r (says (client_spot o t) events.Ignored past)
unfolding over further found_in
over_ignored base o t c s r past = refl

pub request_ignored : (base : Base) (t : ℕ) (kind : MessageKind) (before : ℕ) (c s : Frame) (r : Parser) (past : List Said) → Amid kind c
    → Spoken base t (ignore (packets_are kind) before) c s r past (events.Packet 8 false ∷ events.Later 3 ∷ events.Ignored ∷ []) Rests
unfolding steps
request_ignored base t kind before c s r past amid =
    let head = of_request kind 3 [] before in
    let there : Frame = headed_frame (packets_are kind) 3 8 before c in
    let spot : Spot = head_spot ToServer c.offset t in
    let said : List Said = says spot (events.Later 3) (says spot (events.Packet 8 false) past) in
    let open_frame : Frame = opened_frame there parts.Within inside.Skipped head in
    record {
      frame = record open_frame { due = due.Head 0 0; part = parts.Between };
      behind = says spot events.Ignored said;
      follows = (spot, (spot, (spot, refl)));
      is =
          header_goes_on base t kind 3 before [] c s r past amid (omega arith) (omega arith)
          ∙ (opened_empty base spot.offset t inside.Skipped head there s r said refl ∙ over_ignored base spot.offset t open_frame s r said);
      so = record { due = refl; edge = Behind refl; kind = request_kind kind };
    }

pub attention_out : (base : Base) (t : ℕ) (c s : Frame) (r : Parser) (past : List Said) → Rests c
    → Spoken base t stop_bytes c s r past (events.Packet 8 false ∷ events.Attention 8 1 ∷ []) Rests
unfolding steps
attention_out base t c s r past rests =
    let head = head_for kinds.Attention 1 8 0 in
    let there : Frame = headed_frame kinds.Attention 1 8 0 c in
    let spot : Spot = head_spot ToServer c.offset t in
    let said : List Said = says spot (events.Attention 8 1) (says spot (events.Packet 8 false) past) in
    let open_frame : Frame = opened_frame there parts.Within inside.Skipped head in
    record {
      frame = record open_frame { due = due.Head 0 0; part = parts.Between };
      behind = said;
      follows = (spot, (spot, refl));
      is =
          header_begins base t kinds.Attention 1 [] c s r past rests (omega arith) (omega arith) refl
          ∙ (client_begins base there s r past spot.offset t head (events.Attention 8 1) refl
          ∙ (opened_empty base spot.offset t inside.Skipped head there s r said refl
          ∙ over_packet base spot.offset t true open_frame s r said refl refl refl));
      so = record { due = refl; edge = Behind refl; kind = refl };
    }
