-- What the machine's words are in the code: a client is a line, what goes out are its packets' bytes, and what a parser finds in a
-- piece is a part.
use Rattle.std.specs.Prelude.{◌≡◌, ℕ, ◌+◌, ◌==◌, Bool, true, List, [], ◌∷◌, ◌++◌, length, Option, Some, None, if◌then◌else◌}
use Rattle.tds_packet.specs.declared.kind.Kind.{Kind}
use Rattle.tds_packet.specs.Resets.{reset_bit, header_descriptor}
use Rattle.tds_packet.specs.Sent.{end_bit}
use Rattle.tds_wire.specs.declared.told.Token.{Token}
use Rattle.tds_wire.specs.Reading.{Parser, Found, Sees, Inside, Refuses, is_between}
use Rattle.tds_client.specs.declared.state.Cancelled.{Cancelled}
use Rattle.tds_client.specs.declared.state.Cancelled.TheVariants as how
use Rattle.tds_client.specs.declared.state.Taken.{Taken}
use Rattle.tds_client.specs.declared.state.Taken.TheVariants as takes
use Rattle.tds_client.specs.Packets as wire
use Rattle.tds_client.specs.Parts.{left_of}
use Rattle.tds_client.specs.Packets.{packet_bytes}
use Rattle.tds_client.specs.Sending.{room}
use Rattle.tds_client.specs.Session as session
use Rattle.tds_client.specs.Session.{ClientSession}
use Rattle.tds_client.specs.Streams.{full_packets}
use Rattle.tds_listen.specs.Signs.{sign_of}
use Rattle.tds_service.specs.declared.connection.Connection.{Connection}
use Rattle.tds_service.specs.Parts.{Item, Part, Goes, Ends, Cut, Fails}
use Rattle.tds_service.specs.Line as line
use Rattle.tds_service.specs.Line.{Line, LineStage, Packet, OfRequest, Ignore, Attention, Act, Answer, Told, Nobody, To, line_turn, not_begun}
use Rattle.tds_service.specs.History.{Done, history, line_after}
use Rattle.tds_service.specs.Refusing.{packets}

abbrev pub begun_of : ℕ → Bool
begun_of packets = not_begun (packets == 0)

abbrev pub stage_of : session.Stage → LineStage
stage_of session.Idle = line.Idle
stage_of (session.Sending kind left packets) = line.Sending (begun_of packets)
stage_of session.Reading = line.Reading
stage_of session.Cancelling = line.Cancelling
stage_of (session.Broken fault) = line.Broken fault

-- A client, of a connection on which so many requests were asked.
abbrev pub line_of : ℕ → ClientSession → Line
line_of asked s = record { asked = asked; stage = stage_of s.stage; heard = s.heard }

abbrev pub line_in : Connection → Line
line_in c = line_of c.asked c.client

-- ---- Bytes

-- A packet of a request, behind so many others, that asks for this reset, and ends its message or not; an end that is ignored; an
-- attention.
abbrev pub IsBytes : Packet → List ℕ → Type 0
IsBytes (OfRequest request first reset last) bytes =
    (kind : Kind) × (before : ℕ) × (content : List ℕ) × (first ≡ (before == 0)) × (bytes ≡ packet_bytes kind (end_bit last + reset_bit reset) before content)
IsBytes (Ignore request) bytes = (kind : Kind) × (before : ℕ) × (bytes ≡ wire.ignore kind before)
IsBytes Attention bytes = bytes ≡ wire.stop_bytes

abbrev pub AreBytes : List Packet → List ℕ → Type 0
AreBytes [] bytes = bytes ≡ []
AreBytes (packet ∷ packets) bytes = (front : List ℕ) × (rest : List ℕ) × (bytes ≡ front ++ rest) × IsBytes packet front × AreBytes packets rest

-- These packets are appended.
abbrev pub Appends : List Packet → List ℕ → List ℕ → Type 0
Appends packets before after = (more : List ℕ) × (after ≡ before ++ more) × AreBytes packets more

-- ---- One act

-- What the machine answers.
abbrev pub answer_to : Line → Act Token → Answer
answer_to l act = (line_turn l act).answer

-- What a call did is what the machine does.
pub record Does (act : Act Token) (old new : Line) (answer : Answer) (before after : List ℕ) : Type 0 where
  pub line_is : new ≡ (line_turn old act).line
  pub answer_is : (line_turn old act).answer ≡ answer
  pub bytes : Appends (line_turn old act).sent before after

-- A request's number, and the transaction that its header names.
abbrev pub asked_answer : Connection → ℕ → Answer
asked_answer c number = line.Asked number (header_descriptor c.client.heard.mark c.client.heard.descriptor)

abbrev pub cancel_answer : ℕ → Cancelled → Answer
cancel_answer n how.Nothing = line.Nothing
cancel_answer n how.Already = line.Already
cancel_answer n how.Unsent = line.Unsent n
cancel_answer n how.Asked = line.Stopped n

-- What goes out by a cancel (MS-TDS 2.2.1.7): an attention where a request is out. Of one that is out in part an end goes before it, of
-- the request's type and with the next number, that tells the server to ignore it (2.2.3.1.2).
abbrev pub cancel_out : session.Stage → List ℕ
cancel_out session.Idle = []
cancel_out (session.Sending kind left packets) = if packets == 0 then [] else wire.ignore kind packets ++ wire.stop_bytes
cancel_out session.Reading = wire.stop_bytes
cancel_out session.Cancelling = []
cancel_out (session.Broken fault) = []

-- ---- Packets that go out, one behind the other

abbrev pub sent_in : List (Done Token) → List Packet
sent_in [] = []
sent_in (d ∷ ds) = d.sent ++ sent_in ds

-- So many packets, none the last.
abbrev pub sends : ℕ → List (Act Token)
sends count = packets count

-- What a call did is what the machine does by these acts.
pub record DoesAll (acts : List (Act Token)) (old new : Line) (before after : List ℕ) : Type 0 where
  pub line_is : new ≡ line_after old acts
  pub bytes : Appends (sent_in (history old acts)) before after

-- As many full packets go out of what is kept and these bytes as have at least one byte behind them.
abbrev pub full_in : ClientSession → List ℕ → ℕ
full_in s bytes = full_packets (room s) (length bytes)

abbrev pub putting : Connection → List ℕ → List (Act Token)
putting c bytes = sends (full_in c.client (left_of c.client.stage ++ bytes))

abbrev pub finishing : Connection → List (Act Token)
finishing c = sends (full_in c.client (left_of c.client.stage)) ++ line.Send true ∷ []

-- ---- What comes

abbrev pub items_of : Option Token → List (Item Token)
items_of None = []
items_of (Some token) = (record { sign = sign_of token; token = token }) ∷ []

-- What the parser finds in a piece: one token at most.
abbrev pub part_of : Found → Part Token
part_of (Sees token r rest) = record { items = items_of (Some token); close = Goes }
part_of (Inside r) = record { items = []; close = Goes }
part_of (Refuses refusal) = record { items = []; close = Fails refusal }

-- Where the parser stands behind it, and what is left of the piece.
abbrev pub Stands : Found → Parser → List ℕ → Type 0
Stands (Sees token r rest) reading left = (reading ≡ r) × (left ≡ rest)
Stands (Inside r) reading left = (reading ≡ r) × (left ≡ [])
Stands (Refuses refusal) reading left = ⊥

abbrev pub end_at : Parser → Part Token
end_at r = record { items = []; close = if is_between r then Ends else Cut }

abbrev pub tokens_in : Told Token → List Token
tokens_in Nobody = []
tokens_in (To request tokens) = tokens

-- Nobody but this request is told.
abbrev pub IsTo : ℕ → Told Token → Type 0
IsTo number Nobody = Unit {0}
IsTo number (To request tokens) = request ≡ number

abbrev pub listed : Option Token → List Token
listed None = []
listed (Some token) = token ∷ []

abbrev pub taken_answer : ℕ → Taken → Answer
taken_answer n takes.More = line.More
taken_answer n takes.Finished = line.Finished n
taken_answer n takes.Acknowledged = line.Acked n
taken_answer n takes.NoMemory = line.More

-- The machine hears this part: it answers so, nothing goes out, and the request that was asked last is told these tokens.
pub record Hears (part : Part Token) (old new : Line) (answer : Answer) (tokens : List Token) : Type 0 where
  pub line_is : new ≡ (line_turn old (line.Come part)).line
  pub answer_is : (line_turn old (line.Come part)).answer ≡ answer
  pub told_is : tokens_in (line_turn old (line.Come part)).told ≡ tokens
  pub owner : IsTo old.asked (line_turn old (line.Come part)).told
  pub quiet : (line_turn old (line.Come part)).sent ≡ []
