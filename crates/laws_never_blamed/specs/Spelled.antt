-- Bytes of a connection of a service, as they are handed to a judge: those that go out and those that come, each with what was done.
use Rattle.std.specs.Prelude.{◌≡◌, ℕ, ◌+◌, ◌^◌, ◌<◌, Bool, true, false, List, [], ◌∷◌, ◌++◌, length, if◌then◌else◌}
use Rattle.tds_packet.specs.declared.kind.Direction.TheVariants.{ToClient}
use Rattle.tds_packet.specs.declared.header.Header.{Header}
use Rattle.tds_packet.specs.Layout.{IsPacket, bits_of, has_bit}
use Rattle.tds_packet.specs.Resets.{reset_bit}
use Rattle.tds_packet.specs.Sent.{end_bit}
use Rattle.tds_packet.specs.Stream as stream
use Rattle.tds_request.specs.Layout.{all_headers}
use Rattle.tds_client.specs.declared.message.MessageKind.{MessageKind}
use Rattle.tds_client.specs.declared.message.MessageKind.TheVariants.{Batch}
use Rattle.tds_client.specs.Packets.{stop_bytes, ignore, packet_bytes}
use Rattle.tds_client.specs.Streams.{has_headers, packets_are}
use Rattle.tds_wire.specs.declared.told.Token.{Token}
use Rattle.tds_wire.specs.Reading.{Parser, restarted}
use Rattle.tds_listen.specs.Hearing.{tokens_in}
use Rattle.tds_service.specs.Parts.{Part}
use Rattle.tds_service.specs.Packets.{ReadsTo, packet_part}
use Rattle.tds_service.specs.Line as line
use Rattle.tds_service.specs.Line.{Act, Answer, Packet, OfRequest, Ignore, Attention}
use Rattle.tds_service.specs.History.{Done}
use Rattle.laws_conforming_server.specs.Answering.{IsNoFault}
use Rattle.tds_judge.specs.declared.finding.Direction.TheVariants as ways
use Rattle.tds_judge.specs.Conversation.{Piece, Bytes, Closes}
use Rattle.tds_judge.specs.History.{Said}
use Rattle.tds_judge.specs.declared.talk.Event.TheVariants as events
use Rattle.laws_never_blamed.specs.Seen.{Eye, Watch, sees, sees_done, watch_by}

-- ---- What goes out (MS-TDS 2.2.3.1)

-- The newest request's message: its kind, and how many of its packets are out.
pub record Pen : Type 0 where
  pub kind : MessageKind
  pub packets : ℕ

-- ALL_HEADERS, which names a transaction, in front of any request but a bulk load (MS-TDS 2.2.5.3)
abbrev pub headers_of : MessageKind → ℕ → List ℕ
headers_of kind named = if has_headers kind then all_headers named else []

-- A packet of a request: the first begins its message with ALL_HEADERS, each other one goes on with it. A Length has two bytes, a
-- descriptor eight.
abbrev pub IsOfRequest : ℕ → Pen → Bool → ℕ → List ℕ → Pen → Type 0
IsOfRequest named pen true status bytes behind =
    (kind : MessageKind) × (body : List ℕ) × (8 + length (headers_of kind named ++ body) < 65536) × (named < 2 ^ 64)
    × (bytes ≡ packet_bytes (packets_are kind) status 0 (headers_of kind named ++ body)) × (behind ≡ record { kind = kind; packets = 1 })
IsOfRequest named pen false status bytes behind =
    (content : List ℕ) × (8 + length content < 65536) × (bytes ≡ packet_bytes (packets_are pen.kind) status pen.packets content)
    × (behind ≡ record { kind = pen.kind; packets = pen.packets + 1 })

abbrev pub IsOut : ℕ → Pen → Packet → List ℕ → Pen → Type 0
IsOut named pen (OfRequest request first reset last) bytes behind = IsOfRequest named pen first (end_bit last + reset_bit reset) bytes behind
IsOut named pen (Ignore request) bytes behind = (bytes ≡ ignore (packets_are pen.kind) pen.packets) × (behind ≡ pen)
IsOut named pen Attention bytes behind = (bytes ≡ stop_bytes) × (behind ≡ pen)

abbrev pub AreOut : ℕ → Pen → List Packet → List ℕ → Pen → Type 0
AreOut named pen [] bytes behind = (bytes ≡ []) × (behind ≡ pen)
AreOut named pen (packet ∷ packets) bytes behind =
    (front : List ℕ) × (rest : List ℕ) × (middle : Pen) × (bytes ≡ front ++ rest) × IsOut named pen packet front middle × AreOut named middle packets rest behind

-- ---- What comes

-- The part that is heard is a packet's, by a parser that goes on from packet to packet where nothing of it is a fault. A connection's
-- first packet has the number 0 or 1: at another one a judge takes it for the middle of a message.
pub record IsIn (r : Parser) (is_first : Bool) (part : Part Token) (answer : Answer) (bytes : List ℕ) (behind : Parser) : Type 0 where
  pub header : Header
  pub content : List ℕ
  pub size : ℕ
  pub are_bytes : stream.AreBytes bytes
  pub packet : IsPacket ToClient size bytes header content
  pub part_is : part ≡ packet_part r content (has_bit (bits_of header.status) 1)
  pub numbered : is_first ≡ true → header.packet_id < 2
  pub reads : IsNoFault answer → ReadsTo (has_bit (bits_of header.status) 1) (tokens_in r content).stop behind

-- ---- Each thing that is done, with its bytes

pub record Shown : Type 0 where
  pub done : Done Token
  pub time : ℕ
  pub bytes : List ℕ

abbrev pub dones : List Shown → List (Done Token)
dones [] = []
dones (x ∷ xs) = x.done ∷ dones xs

-- What is handed to a judge: bytes of the server where something comes, that it is closed where it is lost, else bytes that go out.
abbrev pub piece_by : Act Token → ℕ → List ℕ → Piece
piece_by (line.Come part) time bytes = Bytes ways.ToClient time bytes
piece_by line.Lose time bytes = Closes time
piece_by _ time bytes = Bytes ways.ToServer time bytes

abbrev pub pieces : List Shown → List Piece
pieces [] = []
pieces (x ∷ xs) = piece_by x.done.act x.time x.bytes ∷ pieces xs

-- where both directions are between two of them: the pen, the parser over what comes, and whether nothing came yet
pub record Wire : Type 0 where
  pub pen : Pen
  pub reading : Parser
  pub is_first : Bool

abbrev pub IsShown : ℕ → Wire → Done Token → List ℕ → Act Token → Wire → Type 0
IsShown named wire d bytes (line.Come part) behind =
    IsIn wire.reading wire.is_first part d.answer bytes behind.reading × (behind.pen ≡ wire.pen) × (behind.is_first ≡ false)
IsShown named wire d bytes line.Lose behind = behind ≡ wire
IsShown named wire d bytes _ behind =
    AreOut named wire.pen d.sent bytes behind.pen × (behind.reading ≡ wire.reading) × (behind.is_first ≡ wire.is_first)

abbrev pub AreShown : Watch → Wire → List Shown → Type 0
AreShown w wire [] = Unit {0}
AreShown w wire (x ∷ xs) = (behind : Wire) × IsShown w.named wire x.done x.bytes x.done.act behind × AreShown (watch_by x.done w) behind xs

-- ---- What is seen of them

-- Each thing that is done is seen by an eye of its own, until the connection is lost.
abbrev pub IsSeen : Answer → Watch → List Said → Done Token → (Watch → List Said → Type 0) → List Said → Type 0
IsSeen line.Lost w past d behind all = (eye : Eye) × (all ≡ sees eye past events.Closed)
IsSeen _ w past d behind all = (eye : Eye) × behind (watch_by d w) (sees_done eye w past d)

abbrev pub AreSeen : Watch → List Said → List (Done Token) → List Said → Type 0
AreSeen w past [] all = all ≡ past
AreSeen w past (d ∷ ds) all = IsSeen d.answer w past d (λ v seen. AreSeen v seen ds all) all

-- ---- From a login on

abbrev pub new_watch : Watch
new_watch = record { named = 0; begun = false }

-- nothing went out, and nothing came; the parser is before an answer
abbrev pub new_wire : Parser → Wire
new_wire r = record { pen = record { kind = Batch; packets = 0 }; reading = restarted r; is_first = true }

-- This was done on a new connection, and these bytes are handed to a judge that reads answers by this parser too.
pub record IsHanded (r : Parser) (ds : List (Done Token)) (shown : List Shown) : Type 0 where
  pub done : dones shown ≡ ds
  pub spelled : AreShown new_watch (new_wire r) shown
