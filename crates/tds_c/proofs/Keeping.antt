-- What waits for a packet, in the caller's memory.
use Rattle.std.proofs.Common.{◌≡◌, ◌∙◌, ℕ, ◌+◌, ◌≤◌, ◌<◌, List, [], ◌++◌, length, take, drop, Some, None, Ok, refl, sym, ap, subst, arith}
use Rattle.std.proofs.lemmas.Bool.{le-leb}
use Rattle.std.proofs.lemmas.List.{length-append, length-drop, length-take-le, take-append-drop}
use Rattle.std.specs.Prelude.{Result}
use Rattle.tds_packet.specs.declared.kind.Kind.{Kind}
use Rattle.tds_client.specs.declared.client.filling.Fill.{Fill}
use Rattle.tds_client.specs.declared.client.filling.Fill.TheVariants as fills
use Rattle.tds_client.specs.declared.client.parts.ClientParts.{ClientParts}
use Rattle.tds_client.specs.declared.client.parts.StageParts.{StageParts}
use Rattle.tds_client.specs.declared.client.parts.StageParts.TheVariants as stages
use Rattle.tds_client.specs.declared.fault.ClientRefusal.{ClientRefusal}
use Rattle.tds_client.specs.declared.message.MessageKind.{MessageKind}
use Rattle.tds_client.specs.Filling.{IsFull, kept_by, out_by, room_of, taken_by}
use Rattle.tds_client.specs.Parts.{left_of, session_from, stage_from}
use Rattle.tds_client.specs.Sending.{Effect}
use Rattle.tds_client.specs.Session.{ClientSession, Stage, Idle, Sending, Reading, Cancelling, Broken, unless_idle}
use Rattle.tds_client.specs.Streams.{finished, headers_of, opened, put, put_in, put_of}
use Rattle.tds_c.specs.declared.client.TdsClient.{TdsClient}
use Rattle.tds_c.specs.declared.streams.Putting.TheVariants.{All, Packet}
use Rattle.tds_c.specs.Calls.{with_front}
use Rattle.tds_c.specs.Plain.{client_of, plain_of}
use Rattle.tds_c.specs.Streams.{HasPut, Keep, finishes, open_on, opens, waiting_in, waits}
use Rattle.tds_c.proofs.Starting.{is_started}

-- a buffer is its own front and the rest
pub with_own : (n : ℕ) (buffer : List ℕ) → n ≤ length buffer → buffer ≡ with_front (take n buffer) buffer
with_own n buffer within = sym (ap (λ (m : ℕ). take n buffer ++ drop m buffer) (length-take-le n buffer within) ∙ take-append-drop n buffer)

pub finishes_from : (c : TdsClient) (kept : List ℕ) (s : ClientSession) → waits c kept ≡ Some s → finishes c kept ≡ Some (finished s)
finishes_from c kept s held = rw held refl

pub opens_from : (c : TdsClient) (kind : MessageKind) (s : ClientSession) → client_of c [] ≡ Some s → opens c kind ≡ Some (open_on kind s)
opens_from c kind s held = rw held refl

pub opened_from : (c : TdsClient) (kind : MessageKind) (s : ClientSession) → client_of c [] ≡ Some s → unless_idle s.stage ≡ None
    → opens c kind ≡ Some (Ok (record { answer = tt; session = opened s kind; bytes = headers_of s.heard kind }))
opened_from c kind s held idle = rw (held, idle) refl

-- ---- Putting

abbrev pub Done : Type 0
Done = Result (Effect (Unit {0})) ClientRefusal

abbrev pub done : ClientSession → List ℕ → Done
done session bytes = Ok (record { answer = tt; session = session; bytes = bytes })

is_sending : (p : StageParts) (kept left : List ℕ) (kind : Kind) (packets : ℕ) → Sending kind left packets ≡ stage_from p kept → left_of (stage_from p kept) ≡ kept
is_sending stages.Idle kept left kind packets e = absurd cc
is_sending (stages.Sending of out) kept left kind packets e = refl
is_sending stages.Reading kept left kind packets e = absurd cc
is_sending stages.Cancelling kept left kind packets e = absurd cc
is_sending (stages.Broken fault) kept left kind packets e = absurd cc

-- what a put leaves: a client of this size that is sending
pub record Leaves (s : ClientSession) (p : ClientParts) (kept : List ℕ) : Type 0 where
  pub size_is : p.size ≡ s.size
  pub left_is : left_of (stage_from p.stage kept) ≡ kept

effect_is : (x y : Effect (Unit {0})) → (let r : Done = Ok x in r) ≡ Ok y → x ≡ y
effect_is x y e = cc

leaves_in : (s : ClientSession) (more : List ℕ) (stage : Stage) (p : ClientParts) (kept bytes : List ℕ) → put_in s more stage ≡ done (session_from p kept) bytes → Leaves s p kept
leaves_in s more Idle p kept bytes e = absurd cc
leaves_in s more (Sending kind left packets) p kept bytes e =
    let same : put_of s kind (left ++ more) packets ≡ record { answer = tt; session = session_from p kept; bytes = bytes } = effect_is _ _ e in
    record {
      size_is = sym (ap (λ (x : Effect (Unit {0})). x.session.size) same);
      left_is = is_sending p.stage kept _ kind _ (ap (λ (x : Effect (Unit {0})). x.session.stage) same);
    }
leaves_in s more Reading p kept bytes e = absurd cc
leaves_in s more Cancelling p kept bytes e = absurd cc
leaves_in s more (Broken fault) p kept bytes e = absurd cc

pub put_leaves : (s : ClientSession) (more : List ℕ) (p : ClientParts) (kept bytes : List ℕ) → put s more ≡ done (session_from p kept) bytes → Leaves s p kept
put_leaves s more p kept bytes e = leaves_in s more s.stage p kept bytes e

-- what a call says that it has put
abbrev pub Put : ClientSession → Fill → ClientParts → List ℕ → List ℕ → Type 0
Put s filled p kept bytes = put s (take (taken_by filled bytes) bytes) ≡ done (session_from p (kept_by filled kept bytes)) (out_by filled kept bytes)

pub waiting_held : (old : TdsClient) (keep : Keep) (s : ClientSession) → keep.waiting ≤ length keep.before → waits old (take keep.waiting keep.before) ≡ Some s → waiting_in old keep ≡ Some s
waiting_held old keep s within held = rw (le-leb keep.waiting (length keep.before) within) held

-- the size stays
pub size_stays : (s : ClientSession) (filled : Fill) (p : ClientParts) (kept bytes : List ℕ) → Put s filled p kept bytes → p.size ≡ s.size
size_stays s filled p kept bytes said = (put_leaves s _ p _ _ said).size_is

pub keeps_all : (old : TdsClient) (s : ClientSession) (filled : Fill) (p : ClientParts) (before after bytes out : List ℕ) (waiting : ℕ) → filled ≡ fills.Kept → waiting ≤ length before → waits old (take waiting before) ≡ Some s
    → Put s filled p (take waiting before) bytes → after ≡ with_front (take waiting before ++ bytes) before
    → HasPut old (plain_of p 0) (record { before = before; after = after; waiting = waiting; waits = waiting + length bytes }) bytes (length bytes) (record { before = out; after = out; count = 0 }) All
keeps_all old s fills.Kept p before after bytes out waiting e within held said kept =
    let leaves = put_leaves s _ p (take waiting before ++ bytes) [] said in
    record {
      before = s;
      held = waiting_held old (record { before = before; after = after; waiting = waiting; waits = waiting + length bytes }) s within held;
      session = session_from p (take waiting before ++ bytes);
      packet = [];
      is = said;
      client = is_started p (take waiting before ++ bytes) _ refl;
      kept = kept ∙ ap (λ (xs : List ℕ). with_front xs before) (sym leaves.left_is);
      waits_are = omega (arith, length-take-le waiting before within, length-append (take waiting before) bytes) ∙ ap length (sym leaves.left_is);
      written = refl;
      counted = refl;
      taken_are = (refl, refl);
    }
keeps_all old s (fills.Packet header end) p before after bytes out waiting e within held said kept = absurd cc

pub fills_one : (old : TdsClient) (s : ClientSession) (filled : Fill) (p : ClientParts) (before after bytes out written header : List ℕ) (waiting end : ℕ) → filled ≡ fills.Packet header end → waiting ≤ length before
    → waits old (take waiting before) ≡ Some s → Put s filled p (take waiting before) bytes → end < length bytes → length header ≡ 8 → waiting + end + 8 ≡ s.size
    → after ≡ with_front (take 1 (drop end bytes)) before → written ≡ with_front (header ++ (take waiting before ++ take end bytes)) out
    → HasPut old (plain_of p 0) (record { before = before; after = after; waiting = waiting; waits = 1 }) bytes (end + 1) (record { before = out; after = written; count = s.size }) Packet
fills_one old s filled p before after bytes out written header waiting end e within held said over eight full kept wrote =
    let is : Put s (fills.Packet header end) p (take waiting before) bytes = subst (λ (f : Fill). Put s f p (take waiting before) bytes) e said in
    let one = take 1 (drop end bytes) in
    let packet = header ++ (take waiting before ++ take end bytes) in
    let leaves = put_leaves s _ p one packet is in
    let long : length packet ≡ s.size =
    omega (arith, length-append header (take waiting before ++ take end bytes), length-append (take waiting before) (take end bytes), length-take-le waiting before within, length-take-le end bytes (omega (arith, over)), eight, full) in
    record {
      before = s;
      held = waiting_held old (record { before = before; after = after; waiting = waiting; waits = 1 }) s within held;
      session = session_from p one;
      packet = packet;
      is = is;
      client = is_started p one _ refl;
      kept = kept ∙ ap (λ (xs : List ℕ). with_front xs before) (sym leaves.left_is);
      waits_are = sym (length-take-le 1 (drop end bytes) (omega (arith, length-drop end bytes, over))) ∙ ap length (sym leaves.left_is);
      written = wrote;
      counted = sym long;
      taken_are = (omega (arith, over), long);
    }

-- where all of them wait, there is room for them
pub kept_fits : (s : ClientSession) (filled : Fill) (p : ClientParts) (waiting : ℕ) (kept bytes : List ℕ) → filled ≡ fills.Kept → waiting ≤ length kept → Put s filled p (take waiting kept) bytes
    → length (kept_by filled (take waiting kept) bytes) ≤ room_of p → s.size ≤ length kept + 8 → waiting + length bytes ≤ length kept
kept_fits s fills.Kept p waiting kept bytes e within said fits room =
    let size = size_stays s fills.Kept p (take waiting kept) bytes said in
    omega (arith, fits, room, size, length-append (take waiting kept) bytes, length-take-le waiting kept within)
kept_fits s (fills.Packet header end) p waiting kept bytes e within said fits room = absurd cc

-- a packet that is full has all of its room
pub full_room : (room waiting end : ℕ) (filled : Fill) (header kept : List ℕ) → filled ≡ fills.Packet header end → waiting ≤ length kept → IsFull room filled (take waiting kept)
    → (length header ≡ 8) × (waiting + end ≡ room)
full_room room waiting end filled header kept e within full =
    let is : IsFull room (fills.Packet header end) (take waiting kept) = subst (λ (f : Fill). IsFull room f (take waiting kept)) e full in
    (is.0, omega (arith, is.1, length-take-le waiting kept within))
