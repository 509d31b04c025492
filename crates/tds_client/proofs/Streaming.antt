-- Messages that are put in parts.
use Rattle.std.proofs.Common.{◌≡◌, ◌∙◌, ◌≤◌, ◌<◌, ℕ, ◌+◌, ◌*◌, ◌-◌, ◌/◌, zero, suc, true, false, List, [], ◌∷◌, ◌++◌, length, length-append, length-drop, take, drop, Option, refl, sym, ap, subst, arith, append_assoc}
use Rattle.std.proofs.lemmas.List.{append-nil, take-append-drop, length-take-le}
use Rattle.std.proofs.lemmas.Nat.{div-add-mod'}
use Rattle.std.proofs.Math.Nat.{lt-div-mul-add, zero-mul, suc-mul}
use Rattle.std.proofs.Math.Seq.{drop-append-add}
use Rattle.std.specs.Prelude.{Result, Ok}
use Rattle.tds_packet.specs.declared.kind.Kind.{Kind}
use Rattle.tds_packet.specs.declared.kind.Direction.TheVariants.{ToServer}
use Rattle.tds_packet.specs.declared.status.Reset.{Reset}
use Rattle.tds_packet.specs.Layout.{direction_of}
use Rattle.tds_packet.specs.Reading.{joined}
use Rattle.tds_packet.specs.Size.{IsPacketSize}
use Rattle.tds_packet.specs.Resets.{mark_bit}
use Rattle.tds_packet.specs.Sent.{end_bit}
use Rattle.tds_client.specs.declared.fault.ClientRefusal.{ClientRefusal}
use Rattle.tds_client.specs.declared.message.MessageKind.{MessageKind}
use Rattle.tds_client.specs.declared.message.MessageKind.TheVariants as messages
use Rattle.tds_client.specs.Packets.{packet_bytes}
use Rattle.tds_client.specs.Promises.{AreParts, IsPart}
use Rattle.tds_client.specs.Sending.{Effect, room}
use Rattle.tds_client.specs.Session.{ClientSession, Stage, Idle, Sending, Reading, Cancelling, Broken, with_stage}
use Rattle.tds_client.specs.Streamed.{Streams}
use Rattle.tds_client.specs.Streams.{ended_by, finished_in, finished_of, full_packets, left_behind, packets_are, packets_of, put, put_in, put_of}
use Rattle.tds_client.proofs.Filled.{Over, over, packets_behind}
use Rattle.tds_client.proofs.Parts.{fills_last, part}

-- ---- Bytes behind others of which the full packets are out

-- nothing of them is out
over_none : (room : ℕ) (kind : Kind) (mark : Option Reset) (before : ℕ) (b : List ℕ) → Over room kind mark before 0 [] b
over_none room kind mark before b = record {
  count = omega arith;
  left = refl;
  packets = ap (λ (n : ℕ). packets_of room kind mark n (full_packets room (length b)) b) (let e : before ≡ before + 0 = omega arith in e);
}

over_by : (room : ℕ) (kind : Kind) (mark : Option Reset) (before m : ℕ) (x b : List ℕ) → 0 < room → m ≡ full_packets room (length x) → Over room kind mark before m (take (m * room) x) (drop (m * room) x ++ b)
over_by room kind mark before zero x b lawful e =
    subst (λ (n : ℕ). Over room kind mark before 0 (take n x) (drop n x ++ b)) (sym (zero-mul room)) (over_none room kind mark before (x ++ b))
over_by room kind mark before (suc m) x b lawful e =
    let whole = div-add-mod' (length x - 1) room in
    let times : suc m * room ≡ (length x - 1) / room * room = ap (λ (n : ℕ). n * room) e in
    let out : suc m * room ≤ length x - 1 = omega (arith, whole, times) in
    let some : 0 < suc m * room = omega (arith, suc-mul m room, lawful) in
    over room kind mark before (suc m) (take (suc m * room) x) (drop (suc m * room) x ++ b) lawful
    (omega (arith, length-append (drop (suc m * room) x) b, length-drop (suc m * room) x, out, some))
    (length-take-le (suc m * room) x (omega (arith, out)))

-- the packets of these bytes are those of their front
of_front : (room : ℕ) (kind : Kind) (mark : Option Reset) (before m : ℕ) (x : List ℕ) → m * room ≤ length x → packets_of room kind mark before m (take (m * room) x) ≡ packets_of room kind mark before m x
of_front room kind mark before m x enough =
    let split = packets_behind room kind mark before m 0 m (take (m * room) x) (drop (m * room) x) (omega arith) (length-take-le (m * room) x enough) in
    sym (ap (λ (xs : List ℕ). packets_of room kind mark before m xs) (sym (take-append-drop (m * room) x)) ∙ split ∙ append-nil _)

pub out_at_most : (room : ℕ) (x : List ℕ) → full_packets room (length x) * room ≤ length x
out_at_most room x = let whole = div-add-mod' (length x - 1) room in omega (arith, whole)

-- What is out of these bytes, with what comes behind them.
record Behind (room : ℕ) (kind : Kind) (mark : Option Reset) (before : ℕ) (x b : List ℕ) : Type 0 where
  count : full_packets room (length (x ++ b)) ≡ full_packets room (length x) + full_packets room (length (left_behind room x ++ b))
  left : left_behind room (x ++ b) ≡ left_behind room (left_behind room x ++ b)
  packets : packets_of room kind mark before (full_packets room (length (x ++ b))) (x ++ b)
      ≡ packets_of room kind mark before (full_packets room (length x)) x ++ packets_of room kind mark (before + full_packets room (length x)) (full_packets room (length (left_behind room x ++ b))) (left_behind room x ++ b)

same_bytes : (n : ℕ) (x b : List ℕ) → take n x ++ (drop n x ++ b) ≡ x ++ b
same_bytes n x b = sym (append_assoc (take n x) (drop n x) b) ∙ ap (λ (xs : List ℕ). xs ++ b) (take-append-drop n x)

behind_is : (room : ℕ) (kind : Kind) (mark : Option Reset) (before : ℕ) (x b : List ℕ) → 0 < room → Behind room kind mark before x b
behind_is room kind mark before x b lawful =
    let n = full_packets room (length x) in
    let o = over_by room kind mark before n x b lawful refl in
    let same = same_bytes (n * room) x b in
    record {
      count = sym (ap (λ (xs : List ℕ). full_packets room (length xs)) same) ∙ o.count;
      left = sym (ap (left_behind room) same) ∙ o.left;
      packets = sym (ap (λ (xs : List ℕ). packets_of room kind mark before (full_packets room (length xs)) xs) same) ∙ o.packets
          ∙ ap (λ (xs : List ℕ). xs ++ packets_of room kind mark (before + n) (full_packets room (length (left_behind room x ++ b))) (left_behind room x ++ b)) (of_front room kind mark before n x (out_at_most room x));
    }

-- ---- Putting twice

pub put_twice : (s : ClientSession) (kind : Kind) (x b : List ℕ) (packets : ℕ) → 0 < room s
    → put_of s kind (x ++ b) packets ≡ record {
      answer = tt;
      session = (put_of (put_of s kind x packets).session kind (left_behind (room s) x ++ b) (packets + full_packets (room s) (length x))).session;
      bytes = (put_of s kind x packets).bytes ++ (put_of (put_of s kind x packets).session kind (left_behind (room s) x ++ b) (packets + full_packets (room s) (length x))).bytes;
    }
put_twice s kind x b packets lawful =
    let h = behind_is (room s) kind s.heard.mark packets x b lawful in
    let n : packets + full_packets (room s) (length (x ++ b)) ≡ packets + full_packets (room s) (length x) + full_packets (room s) (length (left_behind (room s) x ++ b)) =
    ap (λ (k : ℕ). packets + k) h.count ∙ sum_back packets _ _ in
    effect_is s kind _ _ _ _ _ _ h.left n h.packets where
      sum_back : (a b c : ℕ) → a + (b + c) ≡ a + b + c
      sum_back a b c = omega arith

      effect_is : (s : ClientSession) (kind : Kind) (l l' : List ℕ) (n n' : ℕ) (o o' : List ℕ) → l ≡ l' → n ≡ n' → o ≡ o'
          → (let e : Effect (Unit {0}) = record { answer = tt; session = with_stage s (Sending kind l n); bytes = o } in e) ≡ record { answer = tt; session = with_stage s (Sending kind l' n'); bytes = o' }
      effect_is s kind l l' n n' o o' a b c = cc

-- ---- What a call that is not refused does

ok_is : (x y : Effect (Unit {0})) → (let r : Result (Effect (Unit {0})) ClientRefusal = Ok x in r) ≡ Ok y → x ≡ y
ok_is x y e = cc

record Puts (s : ClientSession) (more : List ℕ) (effect : Effect (Unit {0})) : Type 0 where
  kind : Kind
  left : List ℕ
  packets : ℕ
  stage_is : s.stage ≡ Sending kind left packets
  is : put_of s kind (left ++ more) packets ≡ effect

puts_by : (s : ClientSession) (more : List ℕ) (effect : Effect (Unit {0})) (stage : Stage) → s.stage ≡ stage → put_in s more stage ≡ Ok effect → Puts s more effect
puts_by s more effect Idle e h = absurd cc
puts_by s more effect (Sending kind left packets) e h = record { kind = kind; left = left; packets = packets; stage_is = e; is = ok_is _ _ h }
puts_by s more effect Reading e h = absurd cc
puts_by s more effect Cancelling e h = absurd cc
puts_by s more effect (Broken fault) e h = absurd cc

pub room_some : (s : ClientSession) → IsPacketSize s.size → 0 < room s
room_some s lawful = omega arith

-- Two parts are put as one.
pub two_parts : (s middle behind : ClientSession) (one other first second : List ℕ) → IsPacketSize s.size
    → put s one ≡ Ok (record { answer = tt; session = middle; bytes = first }) → put middle other ≡ Ok (record { answer = tt; session = behind; bytes = second })
    → put s (one ++ other) ≡ Ok (record { answer = tt; session = behind; bytes = first ++ second })
two_parts s middle behind one other first second lawful h k =
    let p = puts_by s one (record { answer = tt; session = middle; bytes = first }) s.stage refl h in
    let x = p.left ++ one in
    let m : ClientSession = (put_of s p.kind x p.packets).session in
    let at : m ≡ middle = ap (λ (e : Effect (Unit {0})). e.session) p.is in
    let then : Effect (Unit {0}) = put_of m p.kind (left_behind (room s) x ++ other) (p.packets + full_packets (room s) (length x)) in
    let again : then ≡ record { answer = tt; session = behind; bytes = second } = ok_is _ _ (ap (λ (c : ClientSession). put c other) at ∙ k) in
    let both : put_of s p.kind (x ++ other) p.packets ≡ record { answer = tt; session = then.session; bytes = (put_of s p.kind x p.packets).bytes ++ then.bytes } = put_twice s p.kind x other p.packets (room_some s lawful) in
    let all : Effect (Unit {0}) = record { answer = tt; session = behind; bytes = first ++ second } in
    let so : (let e : Effect (Unit {0}) = record { answer = tt; session = then.session; bytes = (put_of s p.kind x p.packets).bytes ++ then.bytes } in e) ≡ all =
    joined_effect _ _ _ _ _ _ (ap (λ (e : Effect (Unit {0})). e.session) again) (ap (λ (e : Effect (Unit {0})). e.bytes) p.is) (ap (λ (e : Effect (Unit {0})). e.bytes) again) in
    ap (put_in s (one ++ other)) p.stage_is
    ∙ ap (λ (xs : List ℕ). Ok (put_of s p.kind xs p.packets)) (sym (append_assoc p.left one other))
    ∙ ap (λ (e : Effect (Unit {0})). Ok e) (both ∙ so) where
      joined_effect : (a b : ClientSession) (f g i j : List ℕ) → a ≡ b → f ≡ g → i ≡ j → (let e : Effect (Unit {0}) = record { answer = tt; session = a; bytes = f ++ i } in e) ≡ record { answer = tt; session = b; bytes = g ++ j }
      joined_effect a b f g i j x y z = cc

-- ---- The whole message

abbrev last_of : Kind → Option Reset → ℕ → List ℕ → List ℕ
last_of kind mark before content = packet_bytes kind (end_bit true + mark_bit before mark) before content

ended_twice : (room : ℕ) (kind : Kind) (mark : Option Reset) (before : ℕ) (x b : List ℕ) → 0 < room
    → ended_by room kind mark before (x ++ b) ≡ packets_of room kind mark before (full_packets room (length x)) x ++ ended_by room kind mark (before + full_packets room (length x)) (left_behind room x ++ b)
ended_twice room kind mark before x b lawful =
    let h = behind_is room kind mark before x b lawful in
    let n = full_packets room (length x) in
    let y = left_behind room x ++ b in
    let front = packets_of room kind mark before n x in
    let more = packets_of room kind mark (before + n) (full_packets room (length y)) y in
    let counted : before + full_packets room (length (x ++ b)) ≡ before + n + full_packets room (length y) = ap (λ (k : ℕ). before + k) h.count ∙ sum_back before n (full_packets room (length y)) in
    ap (λ (xs : List ℕ). xs ++ last_of kind mark (before + full_packets room (length (x ++ b))) (left_behind room (x ++ b))) h.packets
    ∙ ap (λ (xs : List ℕ). (front ++ more) ++ last_of kind mark (before + full_packets room (length (x ++ b))) xs) h.left
    ∙ ap (λ (k : ℕ). (front ++ more) ++ last_of kind mark k (left_behind room y)) counted
    ∙ append_assoc front more _ where
      sum_back : (a b c : ℕ) → a + (b + c) ≡ a + b + c
      sum_back a b c = omega arith

-- what a stream appends, and the client behind it
pub record Ended (s : ClientSession) (kind : Kind) (left : List ℕ) (before : ℕ) (bytes : List ℕ) (behind : ClientSession) : Type 0 where
  pub bytes_are : bytes ≡ ended_by (room s) kind s.heard.mark before left
  pub behind_is : behind ≡ with_stage s Reading

pub streamed : (s : ClientSession) (kind : Kind) (left : List ℕ) (before : ℕ) (parts : List (List ℕ)) (bytes : List ℕ) (behind : ClientSession) → 0 < room s → s.stage ≡ Sending kind left before
    → Streams s parts bytes behind → Ended s kind (left ++ joined parts) before bytes behind
streamed s kind left before [] bytes behind lawful e h =
    let is : finished_of s kind left before ≡ record { answer = tt; session = behind; bytes = bytes } = ok_is _ _ (sym (ap (finished_in s) e) ∙ h) in
    record {
      bytes_are = sym (ap (λ (x : Effect (Unit {0})). x.bytes) is) ∙ ap (ended_by (room s) kind s.heard.mark before) (sym (append-nil left));
      behind_is = sym (ap (λ (x : Effect (Unit {0})). x.session) is);
    }
streamed s kind left before (part ∷ parts) bytes behind lawful e (first, rest, middle, split, said, more) =
    let x = left ++ part in
    let n = full_packets (room s) (length x) in
    let is : put_of s kind x before ≡ record { answer = tt; session = middle; bytes = first } = ok_is _ _ (sym (ap (put_in s part) e) ∙ said) in
    let m : ClientSession = (put_of s kind x before).session in
    let at : m ≡ middle = ap (λ (y : Effect (Unit {0})). y.session) is in
    let others = streamed m kind (left_behind (room s) x) (before + n) parts rest behind lawful refl (subst (λ (c : ClientSession). Streams c parts rest behind) (sym at) more) in
    record {
      bytes_are = split ∙ ap (λ (xs : List ℕ). xs ++ rest) (sym (ap (λ (y : Effect (Unit {0})). y.bytes) is))
          ∙ ap (λ (xs : List ℕ). packets_of (room s) kind s.heard.mark before n x ++ xs) others.bytes_are
          ∙ sym (ended_twice (room s) kind s.heard.mark before x (joined parts) lawful)
          ∙ ap (ended_by (room s) kind s.heard.mark before) (append_assoc left part (joined parts));
      behind_is = others.behind_is;
    }

-- ---- Its packets

pub record AllParts (size : ℕ) (kind : Kind) (mark : Option Reset) (before : ℕ) (out message : List ℕ) : Type 0 where
  pub packets : List (List ℕ)
  pub joined_are : out ≡ joined packets
  pub parts : AreParts size kind mark before packets message

one_more : (size : ℕ) (kind : Kind) (mark : Option Reset) (before : ℕ) (bytes content rest message : List ℕ) (packets : List (List ℕ)) → message ≡ content ++ rest → IsPart size kind mark before false bytes content
    → AreParts size kind mark (before + 1) packets rest → AreParts size kind mark before (bytes ∷ packets) message
one_more size kind mark before bytes content rest message [] split is others = absurd others
one_more size kind mark before bytes content rest message (next ∷ packets) split is others = (content, rest, split, is, others)

spelled_by : (size room : ℕ) (kind : Kind) (mark : Option Reset) (before m : ℕ) (bytes : List ℕ) → IsPacketSize size → direction_of kind ≡ ToServer → 8 + room ≡ size → m * room ≤ length bytes → length bytes ≤ m * room + room
    → AllParts size kind mark before (packets_of room kind mark before m bytes ++ last_of kind mark (before + m) (drop (m * room) bytes)) bytes
spelled_by size room kind mark before zero bytes lawful directed whole enough most =
    let none = zero-mul room in
    let short : length bytes ≤ room = omega (arith, most, none) in
    record {
      packets = last_of kind mark before bytes ∷ [];
      joined_are = ap (λ (n : ℕ). last_of kind mark (before + 0) (drop n bytes)) none ∙ ap (λ (n : ℕ). last_of kind mark n bytes) (let e : before + 0 ≡ before = omega arith in e) ∙ sym (append-nil _);
      parts = part size kind mark before true bytes lawful directed (fills_last size bytes (omega (arith, short, whole)));
    }
spelled_by size room kind mark before (suc m) bytes lawful directed whole enough most =
    let times = suc-mul m room in
    let long : room ≤ length bytes = omega (arith, enough, times) in
    let taken : length (take room bytes) ≡ room = length-take-le room bytes long in
    let left = length-drop room bytes in
    let others = spelled_by size room kind mark (before + 1) m (drop room bytes) lawful directed whole (omega (arith, enough, times, left)) (omega (arith, most, times, left)) in
    let first : List ℕ = packet_bytes kind (end_bit false + mark_bit before mark) before (take room bytes) in
    let behind : drop (suc m * room) bytes ≡ drop (m * room) (drop room bytes) =
    ap (λ (xs : List ℕ). drop (suc m * room) xs) (sym (take-append-drop room bytes))
    ∙ ap (λ (n : ℕ). drop n (take room bytes ++ drop room bytes)) (let e : suc m * room ≡ length (take room bytes) + m * room = omega (arith, times, taken) in e)
    ∙ drop-append-add (take room bytes) (drop room bytes) (m * room) in
    record {
      packets = first ∷ others.packets;
      joined_are = append_assoc first _ _
          ∙ ap (λ (xs : List ℕ). first ++ (packets_of room kind mark (before + 1) m (drop room bytes) ++ last_of kind mark (before + suc m) xs)) behind
          ∙ ap (λ (n : ℕ). first ++ (packets_of room kind mark (before + 1) m (drop room bytes) ++ last_of kind mark n (drop (m * room) (drop room bytes)))) (let e : before + suc m ≡ before + 1 + m = omega arith in e)
          ∙ ap (λ (xs : List ℕ). first ++ xs) others.joined_are;
      parts = one_more size kind mark before first (take room bytes) (drop room bytes) bytes others.packets (sym (take-append-drop room bytes))
          (part size kind mark before false (take room bytes) lawful directed (record { fits = omega (arith, taken, whole); full = λ x. omega (arith, taken, whole) })) others.parts;
    }

pub message_parts : (size room : ℕ) (kind : Kind) (mark : Option Reset) (bytes : List ℕ) → IsPacketSize size → direction_of kind ≡ ToServer → 8 + room ≡ size → AllParts size kind mark 0 (ended_by room kind mark 0 bytes) bytes
message_parts size room kind mark bytes lawful directed whole =
    let rest = lt-div-mul-add {a = length bytes - 1} {b = room} (omega (arith, lawful, whole)) in
    spelled_by size room kind mark 0 (full_packets room (length bytes)) bytes lawful directed whole (out_at_most room bytes) (omega (arith, rest))

pub stream_directed : (kind : MessageKind) → direction_of (packets_are kind) ≡ ToServer
stream_directed messages.Batch = refl
stream_directed messages.Procedure = refl
stream_directed messages.BulkLoad = refl
stream_directed messages.Transaction = refl

pub left_at_most : (room : ℕ) (bytes : List ℕ) → 0 < room → length (left_behind room bytes) ≤ room
left_at_most room bytes lawful =
    let rest = lt-div-mul-add {a = length bytes - 1} {b = room} lawful in
    omega (arith, rest, length-drop (full_packets room (length bytes) * room) bytes)
