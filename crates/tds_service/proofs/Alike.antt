-- The code's client does what the machine does.
use Rattle.std.proofs.Common.{◌≡◌, ◌∙◌, ◌+◌, ◌==◌, ℕ, zero, suc, Bool, true, false, List, [], ◌∷◌, ◌++◌, take, drop, refl, sym, ap, subst, arith, append_assoc}
use Rattle.std.proofs.lemmas.List.{append-nil}
use Rattle.std.proofs.lemmas.Bool.Decides.{nat_tests}
use Rattle.std.specs.Prelude.{Option, Result, Ok, Err, OnOk, if◌then◌else◌}
use Rattle.tds_packet.specs.declared.kind.Kind.{Kind}
use Rattle.tds_packet.specs.declared.status.Reset.{Reset}
use Rattle.tds_packet.specs.Resets.{reset_bit, mark_bit}
use Rattle.tds_packet.specs.Sent.{end_bit}
use Rattle.tds_wire.specs.declared.told.Token.{Token}
use Rattle.tds_client.specs.declared.fault.ClientRefusal.{ClientRefusal}
use Rattle.tds_client.specs.declared.heard.Heard.{Heard}
use Rattle.tds_client.specs.declared.state.Cancelled.{Cancelled}
use Rattle.tds_client.specs.declared.state.Cancelled.TheVariants as how
use Rattle.tds_client.specs.Packets.{packet_bytes, stop_bytes, ignore}
use Rattle.tds_client.specs.Parts.{left_of}
use Rattle.tds_client.specs.Sending as sending
use Rattle.tds_client.specs.Sending.{Effect, room, cancelled, cancelled_in, cancelled_sending}
use Rattle.tds_client.specs.Session as session
use Rattle.tds_client.specs.Session.{ClientSession, with_stage}
use Rattle.tds_client.specs.Streams.{put, put_in, finished, finished_in, finished_of, packets_of, left_behind}
use Rattle.tds_service.specs.Line as line
use Rattle.tds_service.specs.Line.{Line, Packet, OfRequest, Act, Turn, line_turn, cancels, not_begun, mark_on}
use Rattle.tds_service.specs.History.{Done, done_by, history, line_after}
use Rattle.tds_service.specs.Ties.{begun_of, stage_of, line_of, IsBytes, AreBytes, Does, DoesAll, cancel_answer, sent_in, sends, full_in}

abbrev pub okay : {A : Type 0} (E : Type 0) → A → Result A E
okay E a = Ok a

pub ok_same : {A : Type 0} (E : Type 0) (a b : A) → okay E a ≡ okay E b → a ≡ b
ok_same E a b e = cc

pub on_ok : {A E : Type 0} (r : Result A E) (P Q : Type 0) → (P → Q) → OnOk r P → OnOk r Q
on_ok (Ok x) P Q f h = f h
on_ok (Err e) P Q f h = tt

not_not : (b : Bool) → not_begun (not_begun b) ≡ b
not_not true = refl
not_not false = refl

-- ---- Acts joined

after_both : (l : Line) (xs ys : List (Act Token)) → line_after l (xs ++ ys) ≡ line_after (line_after l xs) ys
after_both l [] ys = refl
after_both l (x ∷ xs) ys = after_both (line_turn l x).line xs ys

history_both : (l : Line) (xs ys : List (Act Token)) → history l (xs ++ ys) ≡ history l xs ++ history (line_after l xs) ys
history_both l [] ys = refl
history_both l (x ∷ xs) ys = ap (λ ds. done_by x (line_turn l x) ∷ ds) (history_both (line_turn l x).line xs ys)

sent_both : (a b : List (Done Token)) → sent_in (a ++ b) ≡ sent_in a ++ sent_in b
sent_both [] b = refl
sent_both (d ∷ ds) b = ap (λ xs. d.sent ++ xs) (sent_both ds b) ∙ sym (append_assoc d.sent (sent_in ds) (sent_in b))

bytes_both : (ps qs : List Packet) (xs ys : List ℕ) → AreBytes ps xs → AreBytes qs ys → AreBytes (ps ++ qs) (xs ++ ys)
bytes_both [] qs xs ys e b = subst (λ zs. AreBytes qs (zs ++ ys)) (sym e) b
bytes_both (p ∷ ps) qs xs ys a b = (
  a.0,
  a.1 ++ ys,
  ap (λ zs. zs ++ ys) a.2 ∙ append_assoc a.0 a.1 ys,
  a.3,
  bytes_both ps qs a.1 ys a.4 b,
)

-- ---- Full packets

bit_by : (b : Bool) (mark : Option Reset) → (if b then reset_bit mark else 0) ≡ reset_bit (mark_on (not_begun b) mark)
bit_by true mark = refl
bit_by false mark = refl

began : (before : ℕ) → begun_of (before + 1) ≡ true
began before =
    let other : (before + 1 == 0) ≡ false = grind (arith, nat_tests) in
    ap not_begun other

abbrev pub sending_at : ℕ → Heard → Bool → Line
sending_at n h begun = record { asked = n; stage = line.Sending begun; heard = h }

one_bytes : (n : ℕ) (h : Heard) (kind : Kind) (before : ℕ) (last : Bool) (content : List ℕ)
    → IsBytes (OfRequest n (not_begun (begun_of before)) (mark_on (begun_of before) h.mark) last) (packet_bytes kind (end_bit last + mark_bit before h.mark) before content)
one_bytes n h kind before last content =
    (kind, before, content, not_not (before == 0), ap (λ (bit : ℕ). packet_bytes kind (end_bit last + bit) before content) (bit_by (before == 0) h.mark))

full_line : (n : ℕ) (h : Heard) (count before : ℕ) → line_after (sending_at n h (begun_of before)) (sends count) ≡ sending_at n h (begun_of (before + count))
full_line n h zero before = ap (λ (k : ℕ). sending_at n h (begun_of k)) (let e : before ≡ before + 0 = omega arith in e)
full_line n h (suc count) before =
    ap (λ (b : Bool). line_after (sending_at n h b) (sends count)) (sym (began before))
    ∙ (full_line n h count (before + 1) ∙ ap (λ (k : ℕ). sending_at n h (begun_of k)) (let e : before + 1 + count ≡ before + suc count = omega arith in e))

full_bytes : (n : ℕ) (h : Heard) (kind : Kind) (room count before : ℕ) (bytes : List ℕ)
    → AreBytes (sent_in (history (sending_at n h (begun_of before)) (sends count))) (packets_of room kind h.mark before count bytes)
full_bytes n h kind room zero before bytes = refl
full_bytes n h kind room (suc count) before bytes =
    let rest = packets_of room kind h.mark (before + 1) count (drop room bytes) in (
      packet_bytes kind (end_bit false + mark_bit before h.mark) before (take room bytes),
      rest,
      refl,
      one_bytes n h kind before false (take room bytes),
      subst (λ (b : Bool). AreBytes (sent_in (history (sending_at n h b) (sends count))) rest) (began before)
          (full_bytes n h kind room count (before + 1) (drop room bytes)),
    )

-- ---- Putting

abbrev pub line_at : ℕ → ClientSession → session.Stage → Line
line_at n s k = record { asked = n; stage = stage_of k; heard = s.heard }

-- These acts do this, and the machine takes the first of them.
abbrev pub Sends : ℕ → ClientSession → session.Stage → Bool → List (Act Token) → Effect (Unit {0}) → Type 0
Sends n s k last acts e =
    (line_of n e.session ≡ line_after (line_at n s k) acts) × AreBytes (sent_in (history (line_at n s k) acts)) e.bytes
    × ((line_turn {T = Token} (line_at n s k) (line.Send last)).answer ≡ line.Sent)

puts_in : (n : ℕ) (s : ClientSession) (more : List ℕ) (k : session.Stage) (e : Effect (Unit {0})) → put_in s more k ≡ Ok e → Sends n s k false (sends (full_in s (left_of k ++ more))) e
puts_in n s more session.Idle e h = absurd (let u : ⊥ = cc in u)
puts_in n s more (session.Sending kind left packets) e h =
    subst (λ (e : Effect (Unit {0})). Sends n s (session.Sending kind left packets) false (sends (full_in s (left ++ more))) e) (ok_same ClientRefusal _ e h) (
      sym (full_line n s.heard (full_in s (left ++ more)) packets),
      full_bytes n s.heard kind (room s) (full_in s (left ++ more)) packets (left ++ more),
      refl,
    )
puts_in n s more session.Reading e h = absurd (let u : ⊥ = cc in u)
puts_in n s more session.Cancelling e h = absurd (let u : ⊥ = cc in u)
puts_in n s more (session.Broken fault) e h = absurd (let u : ⊥ = cc in u)

finishes_by : (n : ℕ) (s : ClientSession) (kind : Kind) (left : List ℕ) (packets : ℕ)
    → Sends n s (session.Sending kind left packets) true (sends (full_in s left) ++ line.Send true ∷ []) (finished_of s kind left packets)
finishes_by n s kind left packets =
    let full = full_in s left in
    let l = sending_at n s.heard (begun_of packets) in
    let before = line_after l (sends full) in
    let last = packet_bytes kind (end_bit true + mark_bit (packets + full) s.heard.mark) (packets + full) (left_behind (room s) left) in
    let one : AreBytes (sent_in (history before (line.Send true ∷ []))) last =
    subst (λ (l : Line). AreBytes (sent_in (history l (line.Send true ∷ []))) last) (sym (full_line n s.heard full packets))
    (last, [], sym (append-nil last), one_bytes n s.heard kind (packets + full) true (left_behind (room s) left), refl) in (
      sym (after_both l (sends full) (line.Send true ∷ []) ∙ ap (λ (l : Line). (line_turn {T = Token} l (line.Send true)).line) (full_line n s.heard full packets)),
      subst (λ ps. AreBytes ps (finished_of s kind left packets).bytes)
          (sym (ap sent_in (history_both l (sends full) (line.Send true ∷ [])) ∙ sent_both (history l (sends full)) (history before (line.Send true ∷ []))))
          (bytes_both (sent_in (history l (sends full))) (sent_in (history before (line.Send true ∷ []))) (packets_of (room s) kind s.heard.mark packets full left) last
          (full_bytes n s.heard kind (room s) full packets left) one),
      refl,
    )

finishes_in : (n : ℕ) (s : ClientSession) (k : session.Stage) (e : Effect (Unit {0})) → finished_in s k ≡ Ok e → Sends n s k true (sends (full_in s (left_of k)) ++ line.Send true ∷ []) e
finishes_in n s session.Idle e h = absurd (let u : ⊥ = cc in u)
finishes_in n s (session.Sending kind left packets) e h =
    subst (λ (e : Effect (Unit {0})). Sends n s (session.Sending kind left packets) true (sends (full_in s left) ++ line.Send true ∷ []) e) (ok_same ClientRefusal _ e h)
    (finishes_by n s kind left packets)
finishes_in n s session.Reading e h = absurd (let u : ⊥ = cc in u)
finishes_in n s session.Cancelling e h = absurd (let u : ⊥ = cc in u)
finishes_in n s (session.Broken fault) e h = absurd (let u : ⊥ = cc in u)

pub puts_alike : (n : ℕ) (s next : ClientSession) (more before after : List ℕ) → sending.Does (put s more) tt next before after
    → DoesAll (sends (full_in s (left_of s.stage ++ more))) (line_of n s) (line_of n next) before after
puts_alike n s next more before after h =
    let k = puts_in n s more s.stage (record { answer = tt; session = next; bytes = h.0 }) h.1 in
    record { line_is = k.0; bytes = (h.0, h.2, k.1) }

pub puts_taken : (n : ℕ) (s next : ClientSession) (more before after : List ℕ) → sending.Does (put s more) tt next before after
    → (line_turn {T = Token} (line_of n s) (line.Send false)).answer ≡ line.Sent
puts_taken n s next more before after h = (puts_in n s more s.stage (record { answer = tt; session = next; bytes = h.0 }) h.1).2

pub finishes_alike : (n : ℕ) (s next : ClientSession) (before after : List ℕ) → sending.Does (finished s) tt next before after
    → DoesAll (sends (full_in s (left_of s.stage)) ++ line.Send true ∷ []) (line_of n s) (line_of n next) before after
finishes_alike n s next before after h =
    let k = finishes_in n s s.stage (record { answer = tt; session = next; bytes = h.0 }) h.1 in
    record { line_is = k.0; bytes = (h.0, h.2, k.1) }

pub finishes_taken : (n : ℕ) (s next : ClientSession) (before after : List ℕ) → sending.Does (finished s) tt next before after
    → (line_turn {T = Token} (line_of n s) (line.Send true)).answer ≡ line.Sent
finishes_taken n s next before after h = (finishes_in n s s.stage (record { answer = tt; session = next; bytes = h.0 }) h.1).2

-- ---- Cancelling

abbrev pub Cancels : ℕ → ClientSession → session.Stage → Effect Cancelled → Type 0
Cancels n s k e =
    let t = cancels {T = Token} (line_of n s) (stage_of k) in
    (line_of n e.session ≡ t.line) × (t.answer ≡ cancel_answer n e.answer) × AreBytes t.sent e.bytes

abbrev pub CancelsBegun : ℕ → ClientSession → Bool → Effect Cancelled → Type 0
CancelsBegun n s none e =
    let t = cancels {T = Token} (line_of n s) (line.Sending (not_begun none)) in
    (line_of n e.session ≡ t.line) × (t.answer ≡ cancel_answer n e.answer) × AreBytes t.sent e.bytes

cancels_by : (n : ℕ) (s : ClientSession) (kind : Kind) (packets : ℕ) (none : Bool)
    → CancelsBegun n s none
    (if none
    then record { answer = how.Unsent; session = with_stage s session.Idle; bytes = [] }
    else record { answer = how.Asked; session = with_stage s session.Cancelling; bytes = ignore kind packets ++ stop_bytes })
cancels_by n s kind packets true = (refl, refl, refl)
cancels_by n s kind packets false =
    (refl, refl, (ignore kind packets, stop_bytes, refl, (kind, packets, refl), (stop_bytes, [], sym (append-nil stop_bytes), refl, refl)))

cancels_in : (n : ℕ) (s : ClientSession) (k : session.Stage) (e : Effect Cancelled) → cancelled_in s k ≡ Ok e → Cancels n s k e
unfolding cancelled_sending
cancels_in n s session.Idle e h = subst (λ (e : Effect Cancelled). Cancels n s session.Idle e) (ok_same ClientRefusal _ e h) (refl, refl, refl)
cancels_in n s (session.Sending kind left packets) e h =
    subst (λ (e : Effect Cancelled). Cancels n s (session.Sending kind left packets) e) (ok_same ClientRefusal _ e h) (cancels_by n s kind packets (packets == 0))
cancels_in n s session.Reading e h =
    subst (λ (e : Effect Cancelled). Cancels n s session.Reading e) (ok_same ClientRefusal _ e h) (refl, refl, (stop_bytes, [], sym (append-nil stop_bytes), refl, refl))
cancels_in n s session.Cancelling e h = subst (λ (e : Effect Cancelled). Cancels n s session.Cancelling e) (ok_same ClientRefusal _ e h) (refl, refl, refl)
cancels_in n s (session.Broken fault) e h = absurd (let u : ⊥ = cc in u)

pub cancels_alike : (n : ℕ) (s next : ClientSession) (answer : Cancelled) (before after : List ℕ) → sending.Does (cancelled s) answer next before after
    → Does line.Cancel (line_of n s) (line_of n next) (cancel_answer n answer) before after
cancels_alike n s next answer before after h =
    let k = cancels_in n s s.stage (record { answer = answer; session = next; bytes = h.0 }) h.1 in
    record { line_is = k.0; answer_is = k.1; bytes = (h.0, h.2, k.2) }
