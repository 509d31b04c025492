-- What a packet that comes says to a judge.
use Rattle.std.proofs.Common.{◌≡◌, ◌∙◌, ◌+◌, ◌-◌, ◌*◌, ◌/◌, ◌%◌, ◌<◌, ◌≤◌, ◌==◌, ◌&&◌, not, nat_lt, Bool, true, false, ℕ, List, [], ◌∷◌, ◌++◌, length, refl, sym, ap, subst, arith}
use Rattle.std.proofs.lemmas.Bool.{le-ltb, ne_eqb}
use Rattle.tds_judge.specs.declared.finding.Direction.TheVariants.{ToClient}
use Rattle.tds_judge.specs.declared.finding.Spot.{Spot}
use Rattle.tds_judge.specs.declared.frame.Due.{Due}
use Rattle.tds_judge.specs.declared.frame.Due.TheVariants as due
use Rattle.tds_judge.specs.declared.frame.Frame.{Frame}
use Rattle.tds_judge.specs.declared.frame.Head.{Head}
use Rattle.tds_judge.specs.declared.frame.Inside.{Inside}
use Rattle.tds_judge.specs.declared.frame.Inside.TheVariants as inside
use Rattle.tds_judge.specs.declared.frame.Part.TheVariants as parts
use Rattle.tds_judge.specs.declared.talk.Event.{Event}
use Rattle.tds_judge.specs.declared.talk.Event.TheVariants as events
use Rattle.tds_wire.specs.declared.told.Token.{Token}
use Rattle.tds_wire.specs.Reading.{Parser, is_between, restarted}
use Rattle.tds_listen.specs.Hearing.{Stands, TokensHeard, tokens_in}
use Rattle.tds_judge.specs.Framing.{begins, headed, opened, opened_frame, over, steps}
use Rattle.tds_judge.specs.PacketHeads.{head_of, is_plausible, shifted}
use Rattle.tds_judge.specs.History.{Said, found_in, further}
use Rattle.tds_judge.proofs.InRuns.{Cuts}
use Rattle.laws_never_blamed.proofs.Heads.{Base, between_begins, first_begins, head_spot, next, run_at, says, server_begins, server_goes_on, server_head, server_spot, seven, spelled7, spelled_head, within_goes_on}
use Rattle.laws_never_blamed.proofs.Contents.{last as last_of, on}
use Rattle.laws_never_blamed.proofs.Follows.{Follows, follows_more}
use Rattle.laws_never_blamed.proofs.Tokens.{none, says_of, walking, walks}

-- ---- Where the server's direction is

pub data Start (s : Frame) : Type 0 where
  Behind : (part : s.part ≡ parts.Between) → Start s
  First : (part : s.part ≡ parts.Lost) (offset : s.offset ≡ 0) → Start s

-- no message comes, or one has begun
pub record Quiet (s : Frame) : Type 0 where
  pub due : s.due ≡ due.Head 0 0
  pub start : Start s

pub record Comes (s : Frame) : Type 0 where
  pub due : s.due ≡ due.Head 0 0
  pub part : s.part ≡ parts.Within
  pub inside : s.inside ≡ inside.Walked
  pub kind : s.kind ≡ 4

abbrev pub BehindAnswer : Bool → Frame → Type 0
BehindAnswer true s = Quiet s × (s.part ≡ parts.Between)
BehindAnswer false s = Comes s

abbrev pub ended_by : Bool → Parser → List Event
ended_by true r = events.Answered (is_between r) ∷ []
ended_by false r = []

-- ---- The end of a packet

abbrev answer_frame : Bool → Frame → Frame
answer_frame true s = record s { due = due.Head 0 0; part = parts.Between; inside = inside.Walked }
answer_frame false s = record s { due = due.Head 0 0; part = parts.Within; inside = inside.Walked }

over_answer : (base : Base) (o t : ℕ) (ends : Bool) (c s : Frame) (r : Parser) (past : List Said) → (s.status % 2 == 1) ≡ ends → (s.kind == 18) ≡ false
    → (behind : List Said) × Follows (ended_by ends r) past behind
    × (over (server_spot o t) (run_at base c (record s { part = parts.Within; inside = inside.Walked }) r past) ≡ run_at base c (answer_frame ends s) r behind)
unfolding over further found_in
over_answer base o t true c s r past e k = (says (server_spot o t) (events.Answered (is_between r)) past, (server_spot o t, refl), rw (e, k) refl)
over_answer base o t false c s r past e k = (past, refl, rw e refl)

opened_more : (base : Base) (o t : ℕ) (head : Head) (c s : Frame) (r : Parser) (past : List Said) → (head.size == 8) ≡ false
    → opened (server_spot o t) parts.Within inside.Walked head (run_at base c s r past) ≡ run_at base c (opened_frame s parts.Within inside.Walked head) r past
unfolding opened
opened_more base o t head c s r past more = rw more refl

opened_empty : (base : Base) (o t : ℕ) (head : Head) (c s : Frame) (r : Parser) (past : List Said) → (head.size == 8) ≡ true
    → opened (server_spot o t) parts.Within inside.Walked head (run_at base c s r past) ≡ over (server_spot o t) (run_at base c (opened_frame s parts.Within inside.Walked head) r past)
unfolding opened
opened_empty base o t head c s r past none = rw none refl

abbrev answer_head : ℕ → ℕ → ℕ → Head
answer_head status size id = record { kind = 4; status = status; size = size; id = id }

-- the data of a packet, and its end
pub record Read (base : Base) (o t : ℕ) (ends : Bool) (head : Head) (content : List ℕ) (c s : Frame) (r u : Parser) (past : List Said) (tokens : List Token) : Type 0 where
  pub frame : Frame
  pub behind : List Said
  pub follows : Follows (says_of tokens ++ ended_by ends u) past behind
  pub is : steps ToClient t content (opened (server_spot o t) parts.Within inside.Walked head (run_at base c s r past)) ≡ run_at base c (answer_frame ends frame) u behind
  pub kind : frame.kind ≡ 4

reads : (cuts : Cuts) (base : Base) (o t : ℕ) (ends : Bool) (status id : ℕ) (content : List ℕ) (c s : Frame) (r u : Parser) (past : List Said) (all : TokensHeard)
    → (status % 2 == 1) ≡ ends → tokens_in r content ≡ all → all.stop ≡ Stands u
    → Read base o t ends (answer_head status (8 + length content) id) content c s r u past all.tokens
unfolding steps
reads cuts base o t ends status id [] c s r u past all e is stop =
    let head = answer_head status 8 id in
    let there : Frame = opened_frame s parts.Within inside.Walked head in
    let nothing : all.tokens ≡ [] = ap (λ (x : TokensHeard). x.tokens) (sym is ∙ none r) in
    let stays : Stands r ≡ Stands u = ap (λ (x : TokensHeard). x.stop) (sym (none r) ∙ is) ∙ stop in
    let same : r ≡ u = cc in
    let (behind, follows, ended) = over_answer base o t ends c there u past e refl in
    record {
      frame = there;
      behind = behind;
      follows = subst (λ (xs : List Token). Follows (says_of xs ++ ended_by ends u) past behind) (sym nothing) follows;
      is =
          ap (λ (x : Parser). opened (server_spot o t) parts.Within inside.Walked head (run_at base c s x past)) same
          ∙ (opened_empty base o t head c s u past refl ∙ ended);
      kind = refl;
    }
reads cuts base o t ends status id (b ∷ bytes) c s r u past all e is stop =
    let size : ℕ = 8 + length (b ∷ bytes) in
    let head = answer_head status (8 + length (b ∷ bytes)) id in
    let there : Frame = opened_frame s parts.Within inside.Walked head in
    let more : (8 + length (b ∷ bytes) == 8) ≡ false = ne_eqb (8 + length (b ∷ bytes)) 8 (λ (q : 8 + length (b ∷ bytes) ≡ 8). omega (arith, q)) in
    let n : length (b ∷ bytes) ≡ 8 + length (b ∷ bytes) - 8 = omega arith in
    let w = walks cuts base t (8 + length (b ∷ bytes) - 8) s.offset b bytes c there r u past all is stop n in
    let (behind, follows, ended) = over_answer base (last_of s.offset b bytes) t ends c (walking there 1 (on s.offset (b ∷ bytes))) u w.behind e refl in
    record {
      frame = walking there 1 (on s.offset (b ∷ bytes));
      behind = behind;
      follows = follows_more (says_of all.tokens) (ended_by ends u) past w.behind behind w.are follows;
      is = ap (steps ToClient t (b ∷ bytes)) (opened_more base o t head c s r past more) ∙ (w.is ∙ ended);
      kind = refl;
    }

behind_answer : (ends : Bool) (s : Frame) → s.kind ≡ 4 → BehindAnswer ends (answer_frame ends s)
behind_answer true s k = (record { due = refl; start = Behind refl }, refl)
behind_answer false s k = record { due = refl; part = refl; inside = refl; kind = k }

-- ---- A packet of an answer

abbrev pub answer_bytes : ℕ → ℕ → ℕ → ℕ → ℕ → List ℕ → List ℕ
answer_bytes status size spid id window content = 4 ∷ status ∷ size / 256 ∷ size % 256 ∷ spid / 256 ∷ spid % 256 ∷ id ∷ window ∷ content

abbrev answer_value : ℕ → ℕ → ℕ → ℕ → ℕ → ℕ
answer_value status size spid id window = shifted (spelled7 4 status (size / 256) (size % 256) (spid / 256) (spid % 256) id) window

pub record Small (status size spid id window : ℕ) : Type 0 where
  pub status_few : status < 256
  pub size_few : size < 65536
  pub spid_few : spid < 65536
  pub id_few : id < 256
  pub window_few : window < 256

answer_spelled : (status size spid id window : ℕ) → Small status size spid id window → head_of (answer_value status size spid id window) ≡ answer_head status size id
answer_spelled status size spid id window small =
    let high : size / 256 < 256 = omega (arith, small.size_few) in
    let low : size % 256 < 256 = omega arith in
    let p : spid / 256 < 256 = omega (arith, small.spid_few) in
    let q : spid % 256 < 256 = omega arith in
    let whole : size / 256 * 256 + size % 256 ≡ size = omega arith in
    spelled_head 4 status (size / 256) (size % 256) (spid / 256) (spid % 256) id window (omega arith) small.status_few high low p q small.id_few small.window_few
    ∙ (let with_size : ℕ → Head = λ n. record { kind = 4; status = status; size = n; id = id } in ap with_size whole)

abbrev headed_frame : ℕ → ℕ → ℕ → ℕ → Frame → Frame
headed_frame status size spid id s =
    record s { due = due.Head 7 (spelled7 4 status (size / 256) (size % 256) (spid / 256) (spid % 256) id); offset = next (seven s.offset) }

answer_plain : (status size id : ℕ) → 8 ≤ size → is_plausible ToClient (answer_head status size id) ≡ true
answer_plain status size id most = rw (le-ltb size 8 most) refl

-- Whether it is the first of its connection is known by its number, as a judge knows it.
abbrev pub IsNumbered : Frame → ℕ → Type 0
IsNumbered s id = s.part ≡ parts.Lost → nat_lt id 2 ≡ true

start_begins : (base : Base) (t status size spid id window : ℕ) (c s : Frame) (r : Parser) (past : List Said) → Start s → IsNumbered s id → Small status size spid id window → 8 ≤ size
    → headed (head_spot ToClient s.offset t) (answer_value status size spid id window) (run_at base c (headed_frame status size spid id s) r past)
    ≡ begins (head_spot ToClient s.offset t) (answer_head status size id) (run_at base c (headed_frame status size spid id s) r past)
start_begins base t status size spid id window c s r past (Behind part) numbered small most =
    between_begins (head_spot ToClient s.offset t) (answer_value status size spid id window) (answer_head status size id) (run_at base c (headed_frame status size spid id s) r past)
    (answer_spelled status size spid id window small) (answer_plain status size id most) part
start_begins base t status size spid id window c s r past (First part offset) numbered small most =
    first_begins (head_spot ToClient s.offset t) (answer_value status size spid id window) (answer_head status size id) (run_at base c (headed_frame status size spid id s) r past)
    (answer_spelled status size spid id window small) (answer_plain status size id most) part
    (ap (λ (o : ℕ). (seven o == 7) && nat_lt id 2) offset ∙ numbered part)

pub record Told (base : Base) (t : ℕ) (ends : Bool) (bytes : List ℕ) (c s : Frame) (r u : Parser) (past : List Said) (said : List Event) : Type 0 where
  pub frame : Frame
  pub behind : List Said
  pub follows : Follows said past behind
  pub is : steps ToClient t bytes (run_at base c s r past) ≡ run_at base c frame u behind
  pub so : BehindAnswer ends frame

pub answer_begins : (cuts : Cuts) (base : Base) (t status spid id window : ℕ) (ends : Bool) (content : List ℕ) (c s : Frame) (j r u : Parser) (past : List Said) (all : TokensHeard)
    → Quiet s → IsNumbered s id → (c.kind == 18) ≡ false → Small status (8 + length content) spid id window → (status % 2 == 1) ≡ ends
    → restarted j ≡ r → tokens_in r content ≡ all → all.stop ≡ Stands u
    → Told base t ends (answer_bytes status (8 + length content) spid id window content) c s j u past
    (events.Packet (8 + length content) false ∷ events.Answer ∷ (says_of all.tokens ++ ended_by ends u))
answer_begins cuts base t status spid id window ends content c s j r u past all quiet numbered other small e anew is stop =
    let size : ℕ = 8 + length content in
    let there : Frame = headed_frame status (8 + length content) spid id s in
    let head = answer_head status (8 + length content) id in
    let spot : Spot = head_spot ToClient s.offset t in
    let said : List Said = says spot events.Answer (says spot (events.Packet (8 + length content) false) past) in
    let data_read = reads cuts base spot.offset t ends status id content c there r u said all e is stop in
    record {
      frame = answer_frame ends data_read.frame;
      behind = data_read.behind;
      follows = (spot, (spot, data_read.follows));
      is =
          ap (λ (d : Due). steps ToClient t (answer_bytes status (8 + length content) spid id window content) (run_at base c (record s { due = d }) j past)) quiet.due
          ∙ (server_head base t 4 status ((8 + length content) / 256) ((8 + length content) % 256) (spid / 256) (spid % 256) id window content c s j past
          ∙ (ap (steps ToClient t content)
          (start_begins base t status (8 + length content) spid id window c s j past quiet.start numbered small (omega arith)
          ∙ (server_begins base c there j past spot.offset t head refl other
          ∙ ap (λ (x : Parser). opened spot parts.Within inside.Walked head (run_at base c there x said)) anew))
          ∙ data_read.is));
      so = behind_answer ends data_read.frame data_read.kind;
    }

pub answer_goes_on : (cuts : Cuts) (base : Base) (t status spid id window : ℕ) (ends : Bool) (content : List ℕ) (c s : Frame) (r u : Parser) (past : List Said) (all : TokensHeard)
    → Comes s → Small status (8 + length content) spid id window → (status % 2 == 1) ≡ ends → tokens_in r content ≡ all → all.stop ≡ Stands u
    → Told base t ends (answer_bytes status (8 + length content) spid id window content) c s r u past
    (events.Packet (8 + length content) false ∷ (says_of all.tokens ++ ended_by ends u))
answer_goes_on cuts base t status spid id window ends content c s r u past all comes small e is stop =
    let there : Frame = headed_frame status (8 + length content) spid id s in
    let head = answer_head status (8 + length content) id in
    let spot : Spot = head_spot ToClient s.offset t in
    let said : List Said = says spot (events.Packet (8 + length content) false) past in
    let data_read = reads cuts base spot.offset t ends status id content c there r u said all e is stop in
    let same : ((4 == s.kind) && not (4 == 6)) ≡ true = ap (λ (n : ℕ). (4 == n) && not (4 == 6)) comes.kind in
    record {
      frame = answer_frame ends data_read.frame;
      behind = data_read.behind;
      follows = (spot, data_read.follows);
      is =
          ap (λ (d : Due). steps ToClient t (answer_bytes status (8 + length content) spid id window content) (run_at base c (record s { due = d }) r past)) comes.due
          ∙ (server_head base t 4 status ((8 + length content) / 256) ((8 + length content) % 256) (spid / 256) (spid % 256) id window content c s r past
          ∙ (ap (steps ToClient t content)
          (within_goes_on spot (answer_value status (8 + length content) spid id window) head (run_at base c there r past)
          (answer_spelled status (8 + length content) spid id window small) (answer_plain status (8 + length content) id (omega arith)) comes.part
          ∙ (server_goes_on base c there r past spot.offset t head same
          ∙ ap (λ (i : Inside). opened spot parts.Within i head (run_at base c there r said)) comes.inside))
          ∙ data_read.is));
      so = behind_answer ends data_read.frame data_read.kind;
    }
