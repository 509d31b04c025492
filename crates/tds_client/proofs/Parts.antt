-- The packets of a request, joined, are its message.
use Rattle.std.proofs.Common.{◌≡◌, ◌∙◌, ◌≤◌, ◌<◌, ℕ, ◌+◌, ◌%◌, ◌==◌, Bool, true, false, cond, nat_le, List, [], ◌∷◌, length, take, drop, length-drop, zero, suc, Option, Some, None, refl, sym, ap, subst, arith}
use Rattle.std.proofs.lemmas.Bool.Decides.{nat_tests}
use Rattle.std.proofs.lemmas.Bool.{leb-true}
use Rattle.std.proofs.lemmas.List.{take-append-drop, length-take-le}
use Rattle.std.specs.Prelude.{Result, Ok}
use Rattle.tds_packet.specs.declared.kind.Kind.{Kind}
use Rattle.tds_packet.specs.declared.kind.Direction.TheVariants.{ToServer}
use Rattle.tds_packet.specs.declared.status.Reset.{Reset}
use Rattle.tds_packet.specs.declared.status.Reset.TheVariants.{Full, KeepTransaction}
use Rattle.tds_packet.specs.Layout.{direction_of, has_bit, is_status, reset_of}
use Rattle.tds_packet.specs.Size.{IsPacketSize}
use Rattle.tds_request.specs.declared.request.RequestKind.{RequestKind}
use Rattle.tds_request.specs.declared.request.RequestKind.TheVariants as requests
use Rattle.tds_client.specs.declared.fault.ClientRefusal.{ClientRefusal}
use Rattle.tds_client.specs.declared.state.Sent.{Sent}
use Rattle.tds_client.specs.declared.state.Sent.TheVariants as sents
use Rattle.tds_client.specs.Packets.{packet_bytes}
use Rattle.tds_packet.specs.Resets.{reset_bit, mark_bit}
use Rattle.tds_packet.specs.Sent.{end_bit, sent_header}
use Rattle.tds_request.specs.Layout.{packet_kind}
use Rattle.tds_client.specs.Promises.{Sends, IsPart, AreParts}
use Rattle.tds_client.specs.Sending.{Effect, room, sent, sent_in, sent_of}
use Rattle.tds_client.specs.Session.{ClientSession, Stage, Sending, Reading, with_stage}

-- ---- The status

-- What the status of a request's packet says.
record Says (ends first : Bool) (mark : Option Reset) (bits : ℕ) : Type 0 where
  pub lawful : is_status ToServer bits ≡ true
  pub ends_is : has_bit bits 1 ≡ ends
  pub ignored : has_bit bits 2 ≡ false
  pub reset : reset_of bits ≡ cond first mark None

says : (ends first : Bool) (mark : Option Reset) → Says ends first mark (end_bit ends + cond first (reset_bit mark) 0)
unfolding is_status
says true true None = record { lawful = refl; ends_is = refl; ignored = refl; reset = refl }
says true true (Some Full) = record { lawful = refl; ends_is = refl; ignored = refl; reset = refl }
says true true (Some KeepTransaction) = record { lawful = refl; ends_is = refl; ignored = refl; reset = refl }
says true false mark = record { lawful = refl; ends_is = refl; ignored = refl; reset = refl }
says false true None = record { lawful = refl; ends_is = refl; ignored = refl; reset = refl }
says false true (Some Full) = record { lawful = refl; ends_is = refl; ignored = refl; reset = refl }
says false true (Some KeepTransaction) = record { lawful = refl; ends_is = refl; ignored = refl; reset = refl }
says false false mark = record { lawful = refl; ends_is = refl; ignored = refl; reset = refl }

pub to_server : (kind : RequestKind) → direction_of (packet_kind kind) ≡ ToServer
to_server requests.Batch = refl
to_server requests.Transaction = refl

-- ---- One packet

-- What is sent of a message fits; only the last packet may be less than full.
pub record Fills (size : ℕ) (ends : Bool) (content : List ℕ) : Type 0 where
  pub fits : 8 + length content ≤ size
  pub full : ends ≡ false → 8 + length content ≡ size

no_full : (size : ℕ) (content : List ℕ) → true ≡ false → 8 + length content ≡ size
no_full size content e = absurd cc

-- the last packet
pub fills_last : (size : ℕ) (content : List ℕ) → 8 + length content ≤ size → Fills size true content
fills_last size content fits = record { fits = fits; full = no_full size content }

abbrev pub part_bytes : Kind → Option Reset → ℕ → Bool → List ℕ → List ℕ
part_bytes kind mark before ends content = packet_bytes kind (end_bit ends + mark_bit before mark) before content

ends_where_empty : (size : ℕ) (ends : Bool) (content : List ℕ) → IsPacketSize size → Fills size ends content → content ≡ [] → ends ≡ true
ends_where_empty size true content lawful fills e = refl
ends_where_empty size false content lawful fills e =
    let full : 8 + length content ≡ size = fills.full refl in
    let none : length content ≡ 0 = ap length e in
    absurd (omega arith)

pub part : (size : ℕ) (kind : Kind) (mark : Option Reset) (before : ℕ) (ends : Bool) (content : List ℕ) → IsPacketSize size → direction_of kind ≡ ToServer → Fills size ends content
    → IsPart size kind mark before ends (part_bytes kind mark before ends content) content
part size kind mark before ends content lawful directed fills =
    let status = says ends (before == 0) mark in record {
      header = sent_header kind (end_bit ends + mark_bit before mark) ((before + 1) % 256) content;
      packet = record {
        spelled = refl;
        counted = refl;
        fits = fills.fits;
        directed = directed;
        status = status.lawful;
        ends = λ e. status.ends_is ∙ ends_where_empty size ends content lawful fills e;
      };
      kind_is = refl;
      id = refl;
      ends = status.ends_is;
      ignored = status.ignored;
      reset = status.reset;
      spid = refl;
      window = refl;
      full = fills.full;
    }

-- ---- One call

-- What one call did, by the test of what is left.
abbrev Answer : Type 0
Answer = Result (Effect Sent) ClientRefusal

abbrev pub last_one : ClientSession → Kind → List ℕ → ℕ → Effect Sent
last_one s kind left before = record { answer = sents.Last; session = with_stage s Reading; bytes = part_bytes kind s.heard.mark before true left }

abbrev pub more_one : ClientSession → Kind → List ℕ → ℕ → Effect Sent
more_one s kind left before = record {
  answer = sents.More;
  session = with_stage s (Sending kind (drop (room s) left) (before + 1));
  bytes = part_bytes kind s.heard.mark before false (take (room s) left);
}

pub by_test : (s : ClientSession) (kind : Kind) (left : List ℕ) (before : ℕ) → s.stage ≡ Sending kind left before
    → sent s ≡ Ok (cond (nat_le (length left) (room s)) (last_one s kind left before) (more_one s kind left before))
unfolding sent_of
by_test s kind left before e = ap (λ (stage : Stage). sent_in s stage) e

-- ---- All calls

-- Where a request is sent, with these many packets out and these bytes left.
pub record IsSending (s : ClientSession) (size : ℕ) (kind : Kind) (mark : Option Reset) (left : List ℕ) (before : ℕ) : Type 0 where
  pub lawful : IsPacketSize size
  pub directed : direction_of kind ≡ ToServer
  pub size_is : s.size ≡ size
  pub mark_is : s.heard.mark ≡ mark
  pub stage_is : s.stage ≡ Sending kind left before

pub room_is : (s : ClientSession) (size : ℕ) → IsPacketSize size → s.size ≡ size → 8 + room s ≡ size
room_is s size lawful e = omega (arith, e)

-- What the last call says.
record IsLast (s : ClientSession) (size : ℕ) (kind : Kind) (mark : Option Reset) (left : List ℕ) (before : ℕ) (bytes : List ℕ) (behind : ClientSession) : Type 0 where
  one : IsPart size kind mark before true bytes left
  reads : behind.stage ≡ Reading

last_is : (s : ClientSession) (size : ℕ) (kind : Kind) (mark : Option Reset) (left : List ℕ) (before : ℕ) (bytes : List ℕ) (behind : ClientSession) (b : Bool)
    → IsSending s size kind mark left before → nat_le (length left) (room s) ≡ b
    → cond b (last_one s kind left before) (more_one s kind left before) ≡ record { answer = sents.Last; session = behind; bytes = bytes }
    → IsLast s size kind mark left before bytes behind
last_is s size kind mark left before bytes behind true h test e =
    let few : length left ≤ room s = leb-true _ _ test in
    let whole = room_is s size h.lawful h.size_is in
    let same : part_bytes kind mark before true left ≡ bytes = ap (λ (m : Option Reset). part_bytes kind m before true left) (sym h.mark_is) ∙ ap (λ (x : Effect Sent). x.bytes) e in
    record {
      one = subst (λ (x : List ℕ). IsPart size kind mark before true x left) same (part size kind mark before true left h.lawful h.directed (fills_last size left (omega (arith, few, whole))));
      reads = sym (ap (λ (x : Effect Sent). x.session.stage) e);
    }
last_is s size kind mark left before bytes behind false h test e = let other : sents.More ≡ sents.Last = ap (λ (x : Effect Sent). x.answer) e in absurd cc

-- What another call says.
record IsMore (s : ClientSession) (size : ℕ) (kind : Kind) (mark : Option Reset) (left : List ℕ) (before : ℕ) (bytes : List ℕ) (behind : ClientSession) : Type 0 where
  one : IsPart size kind mark before false bytes (take (room s) left)
  goes_on : IsSending behind size kind mark (drop (room s) left) (before + 1)

more_is : (s : ClientSession) (size : ℕ) (kind : Kind) (mark : Option Reset) (left : List ℕ) (before : ℕ) (bytes : List ℕ) (behind : ClientSession) (b : Bool)
    → IsSending s size kind mark left before → nat_le (length left) (room s) ≡ b
    → cond b (last_one s kind left before) (more_one s kind left before) ≡ record { answer = sents.More; session = behind; bytes = bytes }
    → IsMore s size kind mark left before bytes behind
more_is s size kind mark left before bytes behind true h test e = let other : sents.Last ≡ sents.More = ap (λ (x : Effect Sent). x.answer) e in absurd cc
more_is s size kind mark left before bytes behind false h test e =
    let many : room s ≤ length left = grind (arith, nat_tests) in
    let whole = room_is s size h.lawful h.size_is in
    let long : length (take (room s) left) ≡ room s = length-take-le (room s) left many in
    let same : part_bytes kind mark before false (take (room s) left) ≡ bytes =
    ap (λ (m : Option Reset). part_bytes kind m before false (take (room s) left)) (sym h.mark_is) ∙ ap (λ (x : Effect Sent). x.bytes) e in
    let next : with_stage s (Sending kind (drop (room s) left) (before + 1)) ≡ behind = ap (λ (x : Effect Sent). x.session) e in
    record {
      one = subst (λ (x : List ℕ). IsPart size kind mark before false x (take (room s) left)) same
          (part size kind mark before false (take (room s) left) h.lawful h.directed (record { fits = omega (arith, long, whole); full = λ x. omega (arith, long, whole) }));
      goes_on = record {
        lawful = h.lawful;
        directed = h.directed;
        size_is = sym (ap (λ (x : ClientSession). x.size) next) ∙ h.size_is;
        mark_is = sym (ap (λ (x : ClientSession). x.heard.mark) next) ∙ h.mark_is;
        stage_is = sym (ap (λ (x : ClientSession). x.stage) next);
      };
    }

said_so : (x y : Effect Sent) (r : Answer) → r ≡ Ok x → r ≡ Ok y → x ≡ y
said_so x y r a b = cc

-- the parts, and where the client is behind them
pub record AreAll (size : ℕ) (kind : Kind) (mark : Option Reset) (before : ℕ) (packets : List (List ℕ)) (left : List ℕ) (behind : ClientSession) : Type 0 where
  pub parts : AreParts size kind mark before packets left
  pub reads : behind.stage ≡ Reading

pub are_all : (s : ClientSession) (size : ℕ) (kind : Kind) (mark : Option Reset) (left : List ℕ) (before : ℕ) (packets : List (List ℕ)) (behind : ClientSession)
    → IsSending s size kind mark left before → Sends s packets behind → AreAll size kind mark before packets left behind
are_all s size kind mark left before [] behind h sends = absurd sends
are_all s size kind mark left before (bytes ∷ []) behind h sends =
    let last = last_is s size kind mark left before bytes behind (nat_le (length left) (room s)) h refl
    (said_so _ _ (sent s) (by_test s kind left before h.stage_is) sends) in
    record { parts = last.one; reads = last.reads }
are_all s size kind mark left before (bytes ∷ next ∷ others) behind h sends =
    let more = more_is s size kind mark left before bytes sends.0 (nat_le (length left) (room s)) h refl
    (said_so _ _ (sent s) (by_test s kind left before h.stage_is) sends.1) in
    let rest = are_all sends.0 size kind mark (drop (room s) left) (before + 1) (next ∷ others) behind more.goes_on sends.2 in
    record { parts = (take (room s) left, drop (room s) left, sym (take-append-drop (room s) left), more.one, rest.parts); reads = rest.reads }

-- ---- So many calls do it

-- the packets of all calls, and the client behind them
pub record AllSent (s : ClientSession) : Type 0 where
  pub packets : List (List ℕ)
  pub behind : ClientSession
  pub sends : Sends s packets behind

one_more : (s middle behind : ClientSession) (bytes : List ℕ) (packets : List (List ℕ)) → sent s ≡ Ok (record { answer = sents.More; session = middle; bytes = bytes }) → Sends middle packets behind → AllSent s
one_more s middle behind bytes [] said sends = absurd sends
one_more s middle behind bytes (next ∷ others) said sends = record { packets = bytes ∷ next ∷ others; behind = behind; sends = (middle, said, sends) }

all_sent_by : (fuel : ℕ) (s : ClientSession) (kind : Kind) (left : List ℕ) (before : ℕ) (b : Bool) → 9 ≤ s.size → s.stage ≡ Sending kind left before → length left ≤ fuel
    → nat_le (length left) (room s) ≡ b → sent s ≡ Ok (cond b (last_one s kind left before) (more_one s kind left before)) → AllSent s
all_sent_by fuel s kind left before true large e few test said =
    record { packets = (last_one s kind left before).bytes ∷ []; behind = (last_one s kind left before).session; sends = said }
all_sent_by zero s kind left before false large e few test said = let many : room s < length left = grind (arith, nat_tests) in absurd (omega arith)
all_sent_by (suc fuel) s kind left before false large e few test said =
    let many : room s < length left = grind (arith, nat_tests) in
    let next : ClientSession = with_stage s (Sending kind (drop (room s) left) (before + 1)) in
    let less : length (drop (room s) left) ≤ fuel = omega (arith, length-drop (room s) left) in
    let rest = all_sent_by fuel next kind (drop (room s) left) (before + 1) (nat_le (length (drop (room s) left)) (room s)) large refl less refl
    (by_test next kind (drop (room s) left) (before + 1) refl) in
    one_more s next rest.behind (more_one s kind left before).bytes rest.packets said rest.sends

pub all_sent : (s : ClientSession) (kind : Kind) (left : List ℕ) (before : ℕ) → IsPacketSize s.size → s.stage ≡ Sending kind left before → AllSent s
all_sent s kind left before lawful e =
    all_sent_by (length left) s kind left before (nat_le (length left) (room s)) (omega arith) e (omega arith) refl (by_test s kind left before e)

-- ---- The request

pub starts : (s : ClientSession) (kind : RequestKind) (message : List ℕ) → IsPacketSize s.size
    → IsSending (with_stage s (Sending (packet_kind kind) message 0)) s.size (packet_kind kind) s.heard.mark message 0
starts s kind message lawful = record { lawful = lawful; directed = to_server kind; size_is = refl; mark_is = refl; stage_is = refl }
