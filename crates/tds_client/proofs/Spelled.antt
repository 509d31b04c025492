-- Bytes that are packets, and those of a message, which are no attentions.
use Rattle.std.proofs.Common.{◌≡◌, ◌∙◌, ◌≤◌, ℕ, ◌+◌, ◌*◌, zero, suc, Bool, false, List, [], ◌∷◌, ◌++◌, length, length-drop, take, drop, Option, refl, sym, ap, subst, arith, append_assoc}
use Rattle.std.proofs.lemmas.List.{append-nil, length-take-le}
use Rattle.std.proofs.Math.Nat.{suc-mul}
use Rattle.tds_packet.specs.declared.kind.Kind.{Kind}
use Rattle.tds_packet.specs.declared.kind.Direction.TheVariants.{ToServer}
use Rattle.tds_packet.specs.declared.status.Reset.{Reset}
use Rattle.tds_packet.specs.Layout.{direction_of, IsLaidOut}
use Rattle.tds_packet.specs.Size.{IsPacketSize}
use Rattle.tds_client.specs.declared.message.MessageKind.{MessageKind}
use Rattle.tds_client.specs.declared.message.MessageKind.TheVariants as messages
use Rattle.tds_client.specs.Promises.{Packet, ArePackets, one_if, is_attention, attentions}
use Rattle.tds_client.specs.Session.{Stage, Idle, Sending, Reading, Cancelling, Broken}
use Rattle.tds_client.specs.Streams.{packets_are, packets_of}
use Rattle.tds_client.proofs.Parts.{Fills, part, part_bytes}

-- A request's packets are no attentions.
abbrev pub KindIn : Stage → Type 0
KindIn Idle = Unit {0}
KindIn (Sending kind left packets) = (direction_of kind ≡ ToServer) × (is_attention kind ≡ false)
KindIn Reading = Unit {0}
KindIn Cancelling = Unit {0}
KindIn (Broken fault) = Unit {0}

-- ---- Bytes that are packets

pub one_packet : (size : ℕ) (bytes : List ℕ) (packet : Packet) → IsLaidOut ToServer size bytes packet.header packet.content → ArePackets size bytes (packet ∷ [])
one_packet size bytes packet is = (bytes, [], sym (append-nil bytes), is, refl)

pub joined : (size : ℕ) (a b : List ℕ) (first others : List Packet) → ArePackets size a first → ArePackets size b others → ArePackets size (a ++ b) (first ++ others)
joined size a b [] others x y = subst (λ (a : List ℕ). ArePackets size (a ++ b) others) (sym x) y
joined size a b (packet ∷ first) others (front, rest, split, is, more) y =
    (front, rest ++ b, ap (λ (a : List ℕ). a ++ b) split ∙ append_assoc front rest b, is, joined size rest b first others more y)

pub counted_both : (first others : List Packet) → attentions (first ++ others) ≡ attentions first + attentions others
counted_both [] others = omega arith
counted_both (packet ∷ first) others = omega (arith, counted_both first others)

-- ---- The packets of a message

-- packets that are no attentions
pub record Many (size : ℕ) (bytes : List ℕ) : Type 0 where
  pub packets : List Packet
  pub spelled : ArePackets size bytes packets
  pub none : attentions packets ≡ 0

pub one_of : (size : ℕ) (kind : Kind) (mark : Option Reset) (before : ℕ) (ends : Bool) (content : List ℕ) → IsPacketSize size → KindIn (Sending kind [] before) → Fills size ends content
    → Many size (part_bytes kind mark before ends content)
one_of size kind mark before ends content lawful kind_is fills =
    let p = part size kind mark before ends content lawful kind_is.0 fills in
    let none : is_attention p.header.kind ≡ false = ap is_attention p.kind_is ∙ kind_is.1 in
    let zero : one_if (is_attention p.header.kind) ≡ 0 = ap one_if none in
    record {
      packets = record { header = p.header; content = content } ∷ [];
      spelled = one_packet size (part_bytes kind mark before ends content) (record { header = p.header; content = content }) p.packet;
      none = omega (arith, zero);
    }

pub both : (size : ℕ) (a b : List ℕ) → Many size a → Many size b → Many size (a ++ b)
both size a b x y = record {
  packets = x.packets ++ y.packets;
  spelled = joined size a b x.packets y.packets x.spelled y.spelled;
  none = omega (arith, counted_both x.packets y.packets, x.none, y.none);
}

pub many : (size room : ℕ) (kind : Kind) (mark : Option Reset) (before m : ℕ) (bytes : List ℕ) → IsPacketSize size → KindIn (Sending kind [] before) → 8 + room ≡ size → m * room ≤ length bytes
    → Many size (packets_of room kind mark before m bytes)
many size room kind mark before zero bytes lawful kind_is whole enough = record { packets = []; spelled = refl; none = refl }
many size room kind mark before (suc m) bytes lawful kind_is whole enough =
    let times = suc-mul m room in
    let taken : length (take room bytes) ≡ room = length-take-le room bytes (omega (arith, enough, times)) in
    both size _ _
    (one_of size kind mark before false (take room bytes) lawful kind_is (record { fits = omega (arith, taken, whole); full = λ x. omega (arith, taken, whole) }))
    (many size room kind mark (before + 1) m (drop room bytes) lawful kind_is whole (omega (arith, enough, times, length-drop room bytes)))

pub stream_none : (kind : MessageKind) → is_attention (packets_are kind) ≡ false
stream_none messages.Batch = refl
stream_none messages.Procedure = refl
stream_none messages.BulkLoad = refl
stream_none messages.Transaction = refl
