-- An attention is out once, until it is acknowledged.
use Rattle.std.proofs.Common.{◌≡◌, ◌∙◌, ◌≤◌, ℕ, ◌+◌, ◌%◌, ◌==◌, Bool, true, false, cond, nat_le, List, [], ◌∷◌, ◌++◌, length, take, Option, Some, None, refl, sym, ap, subst, arith}
use Rattle.std.proofs.lemmas.Bool.Decides.{nat_tests}
use Rattle.std.proofs.lemmas.Bool.{leb-true}
use Rattle.std.proofs.lemmas.List.{length-take-le}
use Rattle.std.specs.Prelude.{Result, Ok, Err}
use Rattle.tds_packet.specs.declared.kind.Kind.{Kind}
use Rattle.tds_packet.specs.declared.kind.Kind.TheVariants as kinds
use Rattle.tds_packet.specs.declared.kind.Direction.TheVariants.{ToServer}
use Rattle.tds_packet.specs.declared.status.Reset.{Reset}
use Rattle.tds_packet.specs.Layout.{direction_of, is_status, IsLaidOut}
use Rattle.tds_packet.specs.Size.{IsPacketSize}
use Rattle.tds_request.specs.declared.request.Request.{Request}
use Rattle.tds_request.specs.declared.request.RequestKind.{RequestKind}
use Rattle.tds_request.specs.declared.request.RequestKind.TheVariants as requests
use Rattle.tds_request.specs.Layout.{kind_of_request, packet_kind}
use Rattle.tds_token.specs.Contents.{Contents, contents_of}
use Rattle.tds_client.specs.declared.fault.ClientFault.{ClientFault}
use Rattle.tds_client.specs.declared.fault.ClientRefusal.{ClientRefusal}
use Rattle.tds_client.specs.declared.heard.Heard.{Heard}
use Rattle.tds_client.specs.declared.message.MessageKind.{MessageKind}
use Rattle.tds_client.specs.declared.heard.FinalDone.{FinalDone}
use Rattle.tds_client.specs.declared.heard.FinalDone.TheVariants.{Awaited, Answered, Acknowledged}
use Rattle.tds_client.specs.declared.state.Sent.{Sent}
use Rattle.tds_client.specs.declared.state.Cancelled.{Cancelled}
use Rattle.tds_client.specs.declared.state.Cancelled.TheVariants as cancels
use Rattle.tds_client.specs.Calls.{Call, MarkReset, Start, Send, Cancel, Take, Lose, Stream, Turn, streamed, silent, unless_refused, effect_of, took_of, turn, after, appended, turns}
use Rattle.tds_client.specs.Hearing.{◌>>=◌, hear_packet}
use Rattle.tds_packet.specs.Sent.{sent_header}
use Rattle.tds_client.specs.Packets.{stop_bytes, ignore}
use Rattle.tds_client.specs.Promises.{Packet, IsPart, ArePackets, one_if, is_attention, attentions, acknowledgements, AtMostAttentions, AsksOnce, LeavesBy, ends_message}
use Rattle.tds_client.specs.Sending.{Effect, room, started, sent, sent_in, cancelled, cancelled_in, cancelled_sending}
use Rattle.tds_client.specs.Session.{ClientSession, Stage, Idle, Sending, Reading, Cancelling, Broken, new_session, with_stage, lost_stage, marked, unless_idle}
use Rattle.tds_client.specs.Taking.{ClientMove, taken, taken_in, taken_reading, taken_cancelling, read, skipped, skipped_to_end, goes_on, behind_message, broken_by}
use Rattle.tds_client.specs.Streams.{Step, Open, Put, Finish, full_packets, left_behind, opened, put_in, finished_in}
use Rattle.tds_client.proofs.Spelled.{KindIn, Many, one_packet, joined, counted_both, one_of, both, many, stream_none}
use Rattle.tds_client.proofs.Streaming.{left_at_most, out_at_most, stream_directed}
use Rattle.tds_client.proofs.Parts.{fills_last, part, room_is, to_server, last_one, more_one, by_test}

-- ---- A client that is called

pub record IsCalled (size : ℕ) (s : ClientSession) : Type 0 where
  pub lawful : IsPacketSize size
  pub size_is : s.size ≡ size
  pub kind : KindIn s.stage

-- An attention may be out, or nothing will come out any more.
abbrev pub out : Stage → ℕ
out Idle = 0
out (Sending kind left packets) = 0
out Reading = 0
out Cancelling = 1
out (Broken fault) = 1

pub at_most_one : (stage : Stage) → out stage ≤ 1
at_most_one Idle = omega arith
at_most_one (Sending kind left packets) = omega arith
at_most_one Reading = omega arith
at_most_one Cancelling = omega arith
at_most_one (Broken fault) = omega arith

-- What one call does.
pub record Keeps (size before : ℕ) (t : Turn) : Type 0 where
  pub size_is : t.session.size ≡ size
  pub kind : KindIn t.session.stage
  pub packets : List Packet
  pub spelled : ArePackets size t.bytes packets
  pub counted : attentions packets + before ≤ one_if t.acknowledged + out t.session.stage

pub quiet : (size before : ℕ) (next : ClientSession) → next.size ≡ size → KindIn next.stage → before ≤ out next.stage → Keeps size before (silent next)
quiet size before next size_is kind less = record { size_is = size_is; kind = kind; packets = []; spelled = refl; counted = omega (arith, less) }

-- ---- Marking and starting

stays : (size : ℕ) (s next : ClientSession) (refused : Option ClientRefusal) → IsCalled size s → next.size ≡ s.size → next.stage ≡ s.stage
    → Keeps size (out s.stage) (silent (unless_refused refused s next))
stays size s next None h size_is stage_is =
    quiet size (out s.stage) next (size_is ∙ h.size_is) (subst KindIn (sym stage_is) h.kind) (omega (arith, ap out stage_is))
stays size s next (Some refusal) h size_is stage_is = quiet size (out s.stage) s h.size_is h.kind (omega arith)

no_attention : (kind : RequestKind) → is_attention (packet_kind kind) ≡ false
no_attention requests.Batch = refl
no_attention requests.Transaction = refl

starts : (size : ℕ) (s : ClientSession) (request : Request) (stage : Stage) → IsCalled size s → s.stage ≡ stage
    → Keeps size (out stage) (silent (unless_refused (unless_idle stage) s (started s request)))
starts size s request Idle h e =
    quiet size 0 (started s request) h.size_is (to_server (kind_of_request request), no_attention (kind_of_request request)) (omega arith)
starts size s request (Sending kind left packets) h e = quiet size 0 s h.size_is h.kind (omega arith)
starts size s request Reading h e = quiet size 0 s h.size_is h.kind (omega arith)
starts size s request Cancelling h e = quiet size 1 s h.size_is h.kind (omega (arith, ap out e))
starts size s request (Broken fault) h e = quiet size 1 s h.size_is h.kind (omega (arith, ap out e))

-- ---- Sending

part_keeps : (size : ℕ) (kind : Kind) (mark : Option Reset) (before : ℕ) (ends : Bool) (bytes content : List ℕ) (next : ClientSession) → IsPart size kind mark before ends bytes content
    → is_attention kind ≡ false → next.size ≡ size → KindIn next.stage → Keeps size 0 (record { session = next; bytes = bytes; acknowledged = false })
part_keeps size kind mark before ends bytes content next p other size_is kind_is =
    let packet : Packet = record { header = p.header; content = content } in
    let none : is_attention p.header.kind ≡ false = ap is_attention p.kind_is ∙ other in
    let zero : one_if (is_attention p.header.kind) ≡ 0 = ap one_if none in
    record {
      size_is = size_is;
      kind = kind_is;
      packets = packet ∷ [];
      spelled = one_packet size bytes packet p.packet;
      counted = omega (arith, zero);
    }

sends_by : (size : ℕ) (s : ClientSession) (kind : Kind) (left : List ℕ) (before : ℕ) (b : Bool) → IsCalled size s → KindIn (Sending kind left before) → nat_le (length left) (room s) ≡ b
    → Keeps size 0 (effect_of s (Ok (cond b (last_one s kind left before) (more_one s kind left before))))
sends_by size s kind left before true h kind_is test =
    let few : length left ≤ room s = leb-true _ _ test in
    let whole = room_is s size h.lawful h.size_is in
    part_keeps size kind s.heard.mark before true _ left (last_one s kind left before).session
    (part size kind s.heard.mark before true left h.lawful kind_is.0 (fills_last size left (omega (arith, few, whole)))) kind_is.1 h.size_is tt
sends_by size s kind left before false h kind_is test =
    let many : room s ≤ length left = grind (arith, nat_tests) in
    let whole = room_is s size h.lawful h.size_is in
    let long : length (take (room s) left) ≡ room s = length-take-le (room s) left many in
    part_keeps size kind s.heard.mark before false _ (take (room s) left) (more_one s kind left before).session
    (part size kind s.heard.mark before false (take (room s) left) h.lawful kind_is.0 (record { fits = omega (arith, long, whole); full = λ x. omega (arith, long, whole) })) kind_is.1 h.size_is kind_is

sends : (size : ℕ) (s : ClientSession) (stage : Stage) → IsCalled size s → s.stage ≡ stage → Keeps size (out stage) (effect_of s (sent s))
sends size s Idle h e = subst (λ (r : Result (Effect Sent) ClientRefusal). Keeps size 0 (effect_of s r)) (sym (ap (λ (stage : Stage). sent_in s stage) e)) (quiet size 0 s h.size_is h.kind (omega arith))
sends size s (Sending kind left before) h e =
    subst (λ (r : Result (Effect Sent) ClientRefusal). Keeps size 0 (effect_of s r)) (sym (by_test s kind left before e))
    (sends_by size s kind left before (nat_le (length left) (room s)) h (subst KindIn e h.kind) refl)
sends size s Reading h e = subst (λ (r : Result (Effect Sent) ClientRefusal). Keeps size 0 (effect_of s r)) (sym (ap (λ (stage : Stage). sent_in s stage) e)) (quiet size 0 s h.size_is h.kind (omega arith))
sends size s Cancelling h e = subst (λ (r : Result (Effect Sent) ClientRefusal). Keeps size 1 (effect_of s r)) (sym (ap (λ (stage : Stage). sent_in s stage) e))
    (quiet size 1 s h.size_is h.kind (omega (arith, ap out e)))
sends size s (Broken fault) h e = subst (λ (r : Result (Effect Sent) ClientRefusal). Keeps size 1 (effect_of s r)) (sym (ap (λ (stage : Stage). sent_in s stage) e))
    (quiet size 1 s h.size_is h.kind (omega (arith, ap out e)))

-- ---- Streaming

streams_so : (size : ℕ) (next : ClientSession) (bytes : List ℕ) → Many size bytes → next.size ≡ size → KindIn next.stage → Keeps size 0 (record { session = next; bytes = bytes; acknowledged = false })
streams_so size next bytes x size_is kind_is = record { size_is = size_is; kind = kind_is; packets = x.packets; spelled = x.spelled; counted = omega (arith, x.none) }

opens : (size : ℕ) (s : ClientSession) (kind : MessageKind) (stage : Stage) → IsCalled size s → s.stage ≡ stage → Keeps size (out stage) (silent (unless_refused (unless_idle stage) s (opened s kind)))
opens size s kind Idle h e = quiet size 0 (opened s kind) h.size_is (stream_directed kind, stream_none kind) (omega arith)
opens size s kind (Sending of left packets) h e = quiet size 0 s h.size_is h.kind (omega arith)
opens size s kind Reading h e = quiet size 0 s h.size_is h.kind (omega arith)
opens size s kind Cancelling h e = quiet size 1 s h.size_is h.kind (omega (arith, ap out e))
opens size s kind (Broken fault) h e = quiet size 1 s h.size_is h.kind (omega (arith, ap out e))

puts_in : (size : ℕ) (s : ClientSession) (more : List ℕ) (stage : Stage) → IsCalled size s → s.stage ≡ stage → Keeps size (out stage) (effect_of s (put_in s more stage))
puts_in size s more Idle h e = quiet size 0 s h.size_is h.kind (omega arith)
puts_in size s more (Sending kind left before) h e =
    streams_so size _ _ (many size (room s) kind s.heard.mark before (full_packets (room s) (length (left ++ more))) (left ++ more) h.lawful (subst KindIn e h.kind) (room_is s size h.lawful h.size_is) (out_at_most (room s) (left ++ more)))
    h.size_is (subst KindIn e h.kind)
puts_in size s more Reading h e = quiet size 0 s h.size_is h.kind (omega arith)
puts_in size s more Cancelling h e = quiet size 1 s h.size_is h.kind (omega (arith, ap out e))
puts_in size s more (Broken fault) h e = quiet size 1 s h.size_is h.kind (omega (arith, ap out e))

finishes_in : (size : ℕ) (s : ClientSession) (stage : Stage) → IsCalled size s → s.stage ≡ stage → Keeps size (out stage) (effect_of s (finished_in s stage))
finishes_in size s Idle h e = quiet size 0 s h.size_is h.kind (omega arith)
finishes_in size s (Sending kind left before) h e =
    let whole = room_is s size h.lawful h.size_is in
    let full = full_packets (room s) (length left) in
    let rest = left_at_most (room s) left (omega (arith, h.lawful, whole)) in
    streams_so size _ _ (both size _ _
    (many size (room s) kind s.heard.mark before full left h.lawful (subst KindIn e h.kind) whole (out_at_most (room s) left))
    (one_of size kind s.heard.mark (before + full) true (left_behind (room s) left) h.lawful (subst KindIn e h.kind) (fills_last size (left_behind (room s) left) (omega (arith, rest, whole)))))
    h.size_is tt
finishes_in size s Reading h e = quiet size 0 s h.size_is h.kind (omega arith)
finishes_in size s Cancelling h e = quiet size 1 s h.size_is h.kind (omega (arith, ap out e))
finishes_in size s (Broken fault) h e = quiet size 1 s h.size_is h.kind (omega (arith, ap out e))

streams : (size : ℕ) (s : ClientSession) (step : Step) → IsCalled size s → Keeps size (out s.stage) (streamed s step)
streams size s (Open kind) h = opens size s kind s.stage h refl
streams size s (Put part) h = puts_in size s part s.stage h refl
streams size s Finish h = finishes_in size s s.stage h refl

-- ---- Cancelling

abbrev attention_packet : Packet
attention_packet = record { header = sent_header kinds.Attention 1 1 []; content = [] }

attention_is : (size : ℕ) → IsPacketSize size → IsLaidOut ToServer size stop_bytes attention_packet.header []
unfolding is_status
attention_is size lawful = record { spelled = refl; counted = refl; fits = omega arith; directed = refl; status = refl; ends = λ e. refl }

abbrev ignore_packet : Kind → ℕ → Packet
ignore_packet kind before = record { header = sent_header kind 3 ((before + 1) % 256) []; content = [] }

ignore_is : (size : ℕ) (kind : Kind) (before : ℕ) → IsPacketSize size → direction_of kind ≡ ToServer → IsLaidOut ToServer size (ignore kind before) (ignore_packet kind before).header []
unfolding is_status
ignore_is size kind before lawful directed = record { spelled = refl; counted = refl; fits = omega arith; directed = directed; status = refl; ends = λ e. refl }

-- What a cancel that asks appends: packets that are no attentions, and one.
record Asks (size : ℕ) (bytes : List ℕ) : Type 0 where
  others : List Packet
  spelled : ArePackets size bytes (others ++ attention_packet ∷ [])
  none : attentions others ≡ 0

asks_alone : (size : ℕ) → IsPacketSize size → Asks size stop_bytes
asks_alone size lawful = record { others = []; spelled = one_packet size stop_bytes attention_packet (attention_is size lawful); none = refl }

asks_behind : (size : ℕ) (kind : Kind) (before : ℕ) → IsPacketSize size → KindIn (Sending kind [] before) → Asks size (ignore kind before ++ stop_bytes)
asks_behind size kind before lawful kind_is = record {
  others = ignore_packet kind before ∷ [];
  spelled = joined size (ignore kind before) stop_bytes (ignore_packet kind before ∷ []) (attention_packet ∷ [])
      (one_packet size (ignore kind before) (ignore_packet kind before) (ignore_is size kind before lawful kind_is.0)) (one_packet size stop_bytes attention_packet (attention_is size lawful));
  none = omega (arith, ap one_if kind_is.1);
}

-- What each cancel does.
record Cancels (size before : ℕ) (effect : Effect Cancelled) : Type 0 where
  keeps : Keeps size before (record { session = effect.session; bytes = effect.bytes; acknowledged = false })
  asks : AsksOnce size effect effect.answer

asked : (size : ℕ) (s : ClientSession) (bytes : List ℕ) → IsCalled size s → Asks size bytes → Cancels size 0 (record { answer = cancels.Asked; session = with_stage s Cancelling; bytes = bytes })
asked size s bytes h a = record {
  keeps = record {
    size_is = h.size_is;
    kind = tt;
    packets = a.others ++ attention_packet ∷ [];
    spelled = a.spelled;
    counted = omega (arith, counted_both a.others (attention_packet ∷ []), a.none);
  };
  asks = (record { others = a.others; attention = attention_packet; spelled = a.spelled; none = a.none; one = refl }, refl);
}

cancels_sending : (size : ℕ) (s : ClientSession) (kind : Kind) (before : ℕ) (b : Bool) → IsCalled size s → KindIn (Sending kind [] before)
    → Cancels size 0 (cond b (record { answer = cancels.Unsent; session = with_stage s Idle; bytes = [] }) (record { answer = cancels.Asked; session = with_stage s Cancelling; bytes = ignore kind before ++ stop_bytes }))
cancels_sending size s kind before true h kind_is = record { keeps = quiet size 0 (with_stage s Idle) h.size_is tt (omega arith); asks = refl }
cancels_sending size s kind before false h kind_is = asked size s (ignore kind before ++ stop_bytes) h (asks_behind size kind before h.lawful kind_is)

-- A cancel is refused, or does this.
abbrev CancelsBy : ℕ → ClientSession → ℕ → Result (Effect Cancelled) ClientRefusal → Type 0
CancelsBy size s before (Ok effect) = Cancels size before effect
CancelsBy size s before (Err refusal) = Keeps size before (silent s)

cancels_in : (size : ℕ) (s : ClientSession) (stage : Stage) → IsCalled size s → s.stage ≡ stage → CancelsBy size s (out stage) (cancelled_in s stage)
unfolding cancelled_sending
cancels_in size s Idle h e = record { keeps = quiet size 0 s h.size_is h.kind (omega arith); asks = refl }
cancels_in size s (Sending kind left before) h e = cancels_sending size s kind before (before == 0) h (subst KindIn e h.kind)
cancels_in size s Reading h e = asked size s stop_bytes h (asks_alone size h.lawful)
cancels_in size s Cancelling h e = record { keeps = quiet size 1 s h.size_is h.kind (omega (arith, ap out e)); asks = refl }
cancels_in size s (Broken fault) h e = quiet size 1 s h.size_is h.kind (omega (arith, ap out e))

cancels_so : (size : ℕ) (s : ClientSession) (stage : Stage) → IsCalled size s → s.stage ≡ stage → CancelsBy size s (out stage) (cancelled s)
cancels_so size s stage h e = subst (λ (x : Stage). CancelsBy size s (out stage) (cancelled_in s x)) (sym e) (cancels_in size s stage h e)

cancels_keep : (size : ℕ) (s : ClientSession) (before : ℕ) (r : Result (Effect Cancelled) ClientRefusal) → CancelsBy size s before r → Keeps size before (effect_of s r)
cancels_keep size s before (Ok effect) c = c.keeps
cancels_keep size s before (Err refusal) c = c

-- ---- Taking

pub breaks : (size : ℕ) (s : ClientSession) (fault : ClientFault) (stage : Stage) → IsCalled size s → Keeps size (out stage) (silent (broken_by s fault))
breaks size s fault stage h = quiet size (out stage) (broken_by s fault) h.size_is tt (at_most_one stage)

reads : (size : ℕ) (s : ClientSession) (ends : Bool) (heard : Heard) (contents : Contents) → IsCalled size s → s.stage ≡ Reading → Keeps size 0 (took_of s (Ok (read s ends heard contents)))
reads size s false heard contents h e = quiet size 0 (goes_on s heard contents.columns) h.size_is h.kind (omega arith)
reads size s true heard contents h e = quiet size 0 (behind_message s Idle heard) h.size_is tt (omega arith)

skips_to_end : (size : ℕ) (s : ClientSession) (heard : Heard) (done : FinalDone) → IsCalled size s → Keeps size 1 (took_of s (Ok (skipped_to_end s heard done)))
skips_to_end size s heard Awaited h = quiet size 1 (behind_message s Cancelling heard) h.size_is tt (omega arith)
skips_to_end size s heard Answered h = quiet size 1 (behind_message s Cancelling heard) h.size_is tt (omega arith)
skips_to_end size s heard Acknowledged h = record { size_is = h.size_is; kind = tt; packets = []; spelled = refl; counted = omega arith }

skips : (size : ℕ) (s : ClientSession) (ends : Bool) (heard : Heard) (contents : Contents) → IsCalled size s → s.stage ≡ Cancelling → Keeps size 1 (took_of s (Ok (skipped s ends heard contents)))
skips size s false heard contents h e = quiet size 1 (goes_on s heard contents.columns) h.size_is h.kind (omega (arith, ap out e))
skips size s true heard contents h e = skips_to_end size s heard heard.done h

heard_keeps : (size : ℕ) (s : ClientSession) (stage : Stage) (r : Result Heard ClientFault) (f : Heard → ClientMove) → IsCalled size s → ((heard : Heard) → Keeps size (out stage) (took_of s (Ok (f heard))))
    → Keeps size (out stage) (took_of s (r >>= λ heard. Ok (f heard)))
heard_keeps size s stage (Ok heard) f h keeps = keeps heard
heard_keeps size s stage (Err fault) f h keeps = breaks size s fault stage h

takes_in : (size : ℕ) (s : ClientSession) (ends : Bool) (bytes : List ℕ) (stage : Stage) → IsCalled size s → s.stage ≡ stage → Keeps size (out stage) (took_of s (taken_in stage s ends bytes))
unfolding taken_reading taken_cancelling
takes_in size s ends bytes Idle h e = breaks size s _ Idle h
takes_in size s ends bytes (Sending kind left before) h e = breaks size s _ (Sending kind left before) h
takes_in size s ends bytes Reading h e =
    heard_keeps size s Reading (hear_packet false s.heard ends (contents_of s.columns bytes)) (λ heard. read s ends heard (contents_of s.columns bytes)) h
    (λ heard. reads size s ends heard (contents_of s.columns bytes) h e)
takes_in size s ends bytes Cancelling h e =
    heard_keeps size s Cancelling (hear_packet true s.heard ends (contents_of s.columns bytes)) (λ heard. skipped s ends heard (contents_of s.columns bytes)) h
    (λ heard. skips size s ends heard (contents_of s.columns bytes) h e)
takes_in size s ends bytes (Broken fault) h e = breaks size s fault (Broken fault) h

takes : (size : ℕ) (s : ClientSession) (ends : Bool) (bytes : List ℕ) (stage : Stage) → IsCalled size s → s.stage ≡ stage → Keeps size (out stage) (took_of s (taken s ends bytes))
takes size s ends bytes stage h e = subst (λ (x : Stage). Keeps size (out stage) (took_of s (taken_in x s ends bytes))) (sym e) (takes_in size s ends bytes stage h e)

-- ---- Losing

loses : (size : ℕ) (s : ClientSession) (stage : Stage) → IsCalled size s → Keeps size (out stage) (silent (with_stage s (lost_stage stage)))
loses size s Idle h = quiet size 0 _ h.size_is tt (omega arith)
loses size s (Sending kind left before) h = quiet size 0 _ h.size_is tt (omega arith)
loses size s Reading h = quiet size 0 _ h.size_is tt (omega arith)
loses size s Cancelling h = quiet size 1 _ h.size_is tt (omega arith)
loses size s (Broken fault) h = quiet size 1 _ h.size_is tt (omega arith)

-- ---- All calls

pub keeps : (size : ℕ) (s : ClientSession) (call : Call) → IsCalled size s → Keeps size (out s.stage) (turn s call)
keeps size s (MarkReset reset) h = stays size s (marked s reset) (unless_idle s.stage) h refl refl
keeps size s (Start request) h = starts size s request s.stage h refl
keeps size s Send h = sends size s s.stage h refl
keeps size s Cancel h = cancels_keep size s (out s.stage) (cancelled s) (cancels_so size s s.stage h refl)
keeps size s (Take packet) h = takes size s _ packet.«data».now s.stage h refl
keeps size s Lose h = loses size s s.stage h
keeps size s (Stream step) h = streams size s step h

called : (size : ℕ) (s : ClientSession) (call : Call) → IsCalled size s → IsCalled size (turn s call).session
called size s call h = let k = keeps size s call h in record { lawful = h.lawful; size_is = k.size_is; kind = k.kind }

pub new_is_called : (size : ℕ) → IsPacketSize size → IsCalled size (new_session size)
new_is_called size lawful = record { lawful = lawful; size_is = refl; kind = tt }

pub after_is_called : (size : ℕ) (s : ClientSession) (calls : List Call) → IsCalled size s → IsCalled size (after s calls)
after_is_called size s [] h = h
after_is_called size s (call ∷ calls) h = after_is_called size (turn s call).session calls (called size s call h)

-- what all of them append
record KeepAll (size : ℕ) (s : ClientSession) (calls : List Call) : Type 0 where
  packets : List Packet
  spelled : ArePackets size (appended s calls) packets
  counted : attentions packets + out s.stage ≤ acknowledgements (turns s calls) + out (after s calls).stage

keep_all : (size : ℕ) (s : ClientSession) (calls : List Call) → IsCalled size s → KeepAll size s calls
keep_all size s [] h = record { packets = []; spelled = refl; counted = omega arith }
keep_all size s (call ∷ calls) h =
    let one = keeps size s call h in
    let others = keep_all size (turn s call).session calls (called size s call h) in
    record {
      packets = one.packets ++ others.packets;
      spelled = joined size _ _ one.packets others.packets one.spelled others.spelled;
      counted = omega (arith, counted_both one.packets others.packets, one.counted, others.counted);
    }

pub never_twice : (size : ℕ) (s : ClientSession) (calls : List Call) → IsCalled size s → AtMostAttentions size (appended s calls) (acknowledgements (turns s calls) + 1)
never_twice size s calls h =
    let all = keep_all size s calls h in
    record { packets = all.packets; spelled = all.spelled; bound = omega (arith, all.counted, at_most_one (after s calls).stage) }

asks_once_by : (size : ℕ) (s : ClientSession) (before : ℕ) (effect : Effect Cancelled) (r : Result (Effect Cancelled) ClientRefusal) → r ≡ Ok effect → CancelsBy size s before r → AsksOnce size effect effect.answer
asks_once_by size s before effect (Ok x) e c = let same : x ≡ effect = cc in subst (λ (x : Effect Cancelled). AsksOnce size x x.answer) same c.asks
asks_once_by size s before effect (Err refusal) e c = absurd cc

pub asks_once : (size : ℕ) (s : ClientSession) (effect : Effect Cancelled) → IsCalled size s → cancelled s ≡ Ok effect → AsksOnce size effect effect.answer
asks_once size s effect h e = asks_once_by size s (out s.stage) effect (cancelled s) e (cancels_so size s s.stage h refl)

-- ---- The ways out of cancelling

stays_cancelling : (s : ClientSession) → s.stage ≡ Cancelling → LeavesBy false s.stage
stays_cancelling s e = subst (LeavesBy false) (sym e) refl

skips_out_to_end : (s : ClientSession) (heard : Heard) (done : FinalDone) → LeavesBy (took_of s (Ok (skipped_to_end s heard done))).acknowledged (took_of s (Ok (skipped_to_end s heard done))).session.stage
skips_out_to_end s heard Awaited = refl
skips_out_to_end s heard Answered = refl
skips_out_to_end s heard Acknowledged = refl

abbrev pub Leaves : Turn → Type 0
Leaves t = LeavesBy t.acknowledged t.session.stage

skips_out : (s : ClientSession) (ends : Bool) (contents : Contents) (r : Result Heard ClientFault) → s.stage ≡ Cancelling → Leaves (took_of s (r >>= λ heard. Ok (skipped s ends heard contents)))
skips_out s false contents (Ok heard) e = stays_cancelling s e
skips_out s true contents (Ok heard) e = skips_out_to_end s heard heard.done
skips_out s ends contents (Err fault) e = refl

takes_out : (s : ClientSession) (ends : Bool) (bytes : List ℕ) → s.stage ≡ Cancelling → Leaves (took_of s (taken_cancelling s ends bytes))
unfolding taken_cancelling
takes_out s ends bytes e = skips_out s ends (contents_of s.columns bytes) (hear_packet true s.heard ends (contents_of s.columns bytes)) e

pub way_out : (s : ClientSession) (call : Call) → s.stage ≡ Cancelling → Leaves (turn s call)
way_out s (MarkReset reset) e = subst (λ (x : Stage). Leaves (silent (unless_refused (unless_idle x) s (marked s reset)))) (sym e) (stays_cancelling s e)
way_out s (Start request) e = subst (λ (x : Stage). Leaves (silent (unless_refused (unless_idle x) s (started s request)))) (sym e) (stays_cancelling s e)
way_out s Send e = subst (λ (x : Stage). Leaves (effect_of s (sent_in s x))) (sym e) (stays_cancelling s e)
way_out s Cancel e = subst (λ (x : Stage). Leaves (effect_of s (cancelled_in s x))) (sym e) (stays_cancelling s e)
way_out s (Take packet) e = subst (λ (x : Stage). Leaves (took_of s (taken_in x s (ends_message packet) packet.«data».now))) (sym e) (takes_out s (ends_message packet) packet.«data».now e)
way_out s (Stream (Open kind)) e = subst (λ (x : Stage). Leaves (silent (unless_refused (unless_idle x) s (opened s kind)))) (sym e) (stays_cancelling s e)
way_out s (Stream (Put part)) e = subst (λ (x : Stage). Leaves (effect_of s (put_in s part x))) (sym e) (stays_cancelling s e)
way_out s (Stream Finish) e = subst (λ (x : Stage). Leaves (effect_of s (finished_in s x))) (sym e) (stays_cancelling s e)
way_out s Lose e = subst (λ (x : Stage). LeavesBy false (lost_stage x)) (sym e) refl
