-- What a client promises, in the words of the wire and not of the machine.
use Rattle.std.specs.Prelude.{◌≡◌, ℕ, ◌+◌, ◌%◌, ◌≤◌, ◌==◌, ◌&&◌, if◌then◌else◌, Bool, true, false, List, [], ◌∷◌, ◌++◌, Option, Some, None, Ok}
use Rattle.tds_packet.specs.declared.kind.Kind.{Kind}
use Rattle.tds_packet.specs.declared.kind.Kind.TheVariants as kinds
use Rattle.tds_packet.specs.declared.kind.Direction.TheVariants.{ToServer}
use Rattle.tds_packet.specs.declared.header.Header.{Header}
use Rattle.tds_packet.specs.declared.reader.PacketRef.{PacketRef}
use Rattle.tds_packet.specs.declared.status.Reset.{Reset}
use Rattle.tds_packet.specs.Layout.{bits_of, has_bit, reset_of, IsLaidOut}
use Rattle.tds_token.specs.declared.token.Token.{Token}
use Rattle.tds_token.specs.declared.token.Token.TheVariants as tokens
use Rattle.tds_token.specs.Contents.{contents_of}
use Rattle.tds_token.specs.DoneStatus.{attention, more}
use Rattle.tds_client.specs.declared.state.Sent.TheVariants as sents
use Rattle.tds_client.specs.declared.state.Cancelled.{Cancelled}
use Rattle.tds_client.specs.declared.state.Cancelled.TheVariants as cancels
use Rattle.tds_client.specs.Session.{ClientSession, Stage, Idle, Sending, Reading, Cancelling, Broken}
use Rattle.tds_client.specs.Sending.{Effect, sent}
use Rattle.tds_client.specs.Calls.{Call, MarkReset, Start, Send, Cancel, Take, Lose, Stream, Turn}

-- ---- The message that comes

-- A packet with end of message ends its message (MS-TDS 2.2.3.1.2).
abbrev pub ends_message : PacketRef → Bool
ends_message packet = has_bit (bits_of packet.header.status) 1

-- The tokens of a message that came so far, and the columns that are known behind them.
pub record Coming : Type 0 where
  pub tokens : List Token
  pub columns : Option ℕ

abbrev pub nothing_yet : Coming
nothing_yet = record { tokens = []; columns = None }

-- One packet more.
abbrev pub with_packet : Coming → PacketRef → Coming
with_packet m packet = record {
  tokens = m.tokens ++ (contents_of m.columns packet.«data».now).tokens;
  columns = (contents_of m.columns packet.«data».now).columns;
}

-- Behind end of message the next message comes.
abbrev pub coming_behind : Coming → Call → Coming
coming_behind m (MarkReset reset) = m
coming_behind m (Start request) = m
coming_behind m Send = m
coming_behind m Cancel = m
coming_behind m (Take packet) = if ends_message packet then nothing_yet else with_packet m packet
coming_behind m Lose = m
coming_behind m (Stream step) = m

-- What came so far of the message that comes, behind these calls.
abbrev pub coming : Coming → List Call → Coming
coming m [] = m
coming m (call ∷ calls) = coming (coming_behind m call) calls

-- The final DONE: the first one whose bit 0001 is clear (MS-TDS 2.2.7.6). Its status.
abbrev pub final_done : List Token → Option ℕ
final_done [] = None
final_done (tokens.Info m ∷ others) = final_done others
final_done (tokens.Error m ∷ others) = final_done others
final_done (tokens.ReturnStatus v ∷ others) = final_done others
final_done (tokens.Columns cs ∷ others) = final_done others
final_done (tokens.Row vs ∷ others) = final_done others
final_done (tokens.Env e ∷ others) = final_done others
final_done (tokens.Done status cur_cmd rows ∷ others) = if has_bit status more then final_done others else Some status

-- Whether it has bit 0020, which acknowledges an attention.
abbrev pub status_acknowledges : Option ℕ → Bool
status_acknowledges None = false
status_acknowledges (Some status) = has_bit status attention

abbrev pub acknowledges : List Token → Bool
acknowledges tokens = status_acknowledges (final_done tokens)

-- The message that comes, with this packet of it.
abbrev pub message_with : List Call → PacketRef → List Token
message_with calls packet = (with_packet (coming nothing_yet calls) packet).tokens

-- Whether this packet ends a message whose final DONE acknowledges.
abbrev pub ends_acknowledged : List Call → PacketRef → Bool
ends_acknowledged calls packet = ends_message packet && acknowledges (message_with calls packet)

-- ---- What is appended

-- A packet, apart.
pub record Packet : Type 0 where
  pub header : Header
  pub content : List ℕ

-- The bytes are these packets to the server, one behind the other.
abbrev pub ArePackets : ℕ → List ℕ → List Packet → Type 0
ArePackets size bytes [] = bytes ≡ []
ArePackets size bytes (packet ∷ packets) =
    (front : List ℕ) × (rest : List ℕ) × (bytes ≡ front ++ rest) × IsLaidOut ToServer size front packet.header packet.content × ArePackets size rest packets

abbrev pub one_if : Bool → ℕ
one_if true = 1
one_if false = 0

abbrev pub is_attention : Kind → Bool
is_attention kinds.Batch = false
is_attention kinds.Procedure = false
is_attention kinds.Answer = false
is_attention kinds.Attention = true
is_attention kinds.BulkLoad = false
is_attention kinds.Transaction = false

-- How many of them are attentions.
abbrev pub attentions : List Packet → ℕ
attentions [] = 0
attentions (packet ∷ packets) = one_if (is_attention packet.header.kind) + attentions packets

-- How many acknowledgements were taken.
abbrev pub acknowledgements : List Turn → ℕ
acknowledgements [] = 0
acknowledgements (turn ∷ turns) = one_if turn.acknowledged + acknowledgements turns

-- These bytes are packets, and at most so many of them are attentions.
pub record AtMostAttentions (size : ℕ) (bytes : List ℕ) (most : ℕ) : Type 0 where
  pub packets : List Packet
  pub spelled : ArePackets size bytes packets
  pub bound : attentions packets ≤ most

-- One attention, behind packets that are none.
pub record EndsInAttention (size : ℕ) (bytes : List ℕ) : Type 0 where
  pub others : List Packet
  pub attention : Packet
  pub spelled : ArePackets size bytes (others ++ attention ∷ [])
  pub none : attentions others ≡ 0
  pub one : attention.header.kind ≡ kinds.Attention

-- A cancel that asks appends one attention, and the client cancels. Any other appends nothing.
abbrev pub AsksOnce : ℕ → Effect Cancelled → Cancelled → Type 0
AsksOnce size effect cancels.Nothing = effect.bytes ≡ []
AsksOnce size effect cancels.Already = effect.bytes ≡ []
AsksOnce size effect cancels.Unsent = effect.bytes ≡ []
AsksOnce size effect cancels.Asked = EndsInAttention size effect.bytes × (effect.session.stage ≡ Cancelling)

-- Out of cancelling: an acknowledgement leads to idle, a fault or a loss breaks the client, and nothing else leads out.
abbrev pub LeavesBy : Bool → Stage → Type 0
LeavesBy acknowledged Idle = acknowledged ≡ true
LeavesBy acknowledged (Sending kind left packets) = ⊥
LeavesBy acknowledged Reading = ⊥
LeavesBy acknowledged Cancelling = acknowledged ≡ false
LeavesBy acknowledged (Broken fault) = acknowledged ≡ false

-- ---- The packets of a request

-- `send` is called until it answers that this was the last packet: what each call appended, and the client behind the last one.
abbrev pub Sends : ClientSession → List (List ℕ) → ClientSession → Type 0
Sends s [] behind = ⊥
Sends s (bytes ∷ []) behind = sent s ≡ Ok (record { answer = sents.Last; session = behind; bytes = bytes })
Sends s (bytes ∷ next ∷ others) behind =
    (middle : ClientSession) × (sent s ≡ Ok (record { answer = sents.More; session = middle; bytes = bytes })) × Sends middle (next ∷ others) behind

-- One packet of a request, behind `before` others, with these data (MS-TDS 2.2.3.1). PacketIDs count from 1, modulo 256; the
-- first packet has the bit of the reset that is asked for; each is full but the last, which alone has end of message.
pub record IsPart (size : ℕ) (kind : Kind) (mark : Option Reset) (before : ℕ) (last : Bool) (bytes content : List ℕ) : Type 0 where
  pub header : Header
  pub packet : IsLaidOut ToServer size bytes header content
  pub kind_is : header.kind ≡ kind
  pub id : header.packet_id ≡ (before + 1) % 256
  pub ends : has_bit (bits_of header.status) 1 ≡ last
  pub ignored : has_bit (bits_of header.status) 2 ≡ false
  pub reset : reset_of (bits_of header.status) ≡ (if before == 0 then mark else None)
  pub spid : header.spid ≡ 0
  pub window : header.window ≡ 0
  pub full : last ≡ false → header.length ≡ size

-- The packets of a message, whose data joined are the message.
abbrev pub AreParts : ℕ → Kind → Option Reset → ℕ → List (List ℕ) → List ℕ → Type 0
AreParts size kind mark before [] message = ⊥
AreParts size kind mark before (bytes ∷ []) message = IsPart size kind mark before true bytes message
AreParts size kind mark before (bytes ∷ next ∷ others) message =
    (content : List ℕ) × (rest : List ℕ) × (message ≡ content ++ rest) × IsPart size kind mark before false bytes content × AreParts size kind mark (before + 1) (next ∷ others) rest
