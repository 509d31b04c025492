-- What is done at a client's end of a connection, call by call, with the bytes that a call appends and those that come, as they are handed
-- to a judge.
use Rattle.std.specs.Prelude.{◌≡◌, ℕ, suc, ◌<◌, ◌^◌, nat_le, Bool, true, false, List, [], ◌∷◌, ◌++◌, length, None, Result}
use Rattle.tds_packet.specs.declared.status.Reset.{Reset}
use Rattle.tds_packet.specs.Size.{IsPacketSize}
use Rattle.tds_request.specs.declared.request.Request.{Request}
use Rattle.tds_client.specs.declared.fault.ClientRefusal.{ClientRefusal}
use Rattle.tds_client.specs.declared.message.MessageKind.{MessageKind}
use Rattle.tds_client.specs.declared.state.Cancelled.{Cancelled}
use Rattle.tds_client.specs.declared.state.Sent.{Sent}
use Rattle.tds_client.specs.Parts.{left_of}
use Rattle.tds_client.specs.Sending.{Effect, Does, cancelled, room, sent, started}
use Rattle.tds_client.specs.Session.{ClientSession, lost, marked, new_session, unless_idle}
use Rattle.tds_client.specs.Streams.{finished, opened, put}
use Rattle.tds_wire.specs.declared.told.Token.{Token}
use Rattle.tds_wire.specs.Reading.{Parser, restarted}
use Rattle.tds_service.specs.Parts.{Part}
use Rattle.tds_service.specs.Line as line
use Rattle.tds_service.specs.Line.{Act, Line, line_turn}
use Rattle.tds_service.specs.Refusing.{packets}
use Rattle.tds_service.specs.Ties.{full_in, line_of}
use Rattle.tds_judge.specs.declared.finding.Direction.TheVariants as ways
use Rattle.tds_judge.specs.Conversation.{Piece, Bytes, Closes}
use Rattle.laws_never_blamed.specs.Spelled.{IsIn}

-- A call of tds_client that isn't refused, or a packet of an answer that comes. One that is refused, for want of memory too, does nothing.
pub data Call : Type 0 where
  Mark : (reset : Reset) → Call
  Start : (request : Request) → Call
  Send : Call
  Open : (kind : MessageKind) → Call
  Put : (part : List ℕ) → Call
  Finish : Call
  Cancel : Call
  Lose : Call
  Come : (part : Part Token) → Call

-- A client's end between two of them: how many requests were asked, the client, the parser over what comes, and whether nothing came yet.
pub record End : Type 0 where
  pub asked : ℕ
  pub client : ClientSession
  pub reading : Parser
  pub is_first : Bool

abbrev pub new_end : ℕ → Parser → End
new_end size r = record { asked = 0; client = new_session size; reading = restarted r; is_first = true }

abbrev pub line_at : End → Line
line_at e = line_of e.asked e.client

-- ---- What each of them does

-- The client does what its contract says, and appends these bytes to some others.
abbrev pub Appends : {A : Type 0} → Result (Effect A) ClientRefusal → A → End → List ℕ → End → Type 0
Appends wanted answer e bytes behind =
    (before : List ℕ) × Does wanted answer behind.client before (before ++ bytes) × (behind ≡ record e { client = behind.client })

-- The client hears of a packet what tds_service's machine does, and keeps its packet size.
pub record Hears (e : End) (part : Part Token) (behind : End) : Type 0 where
  pub line_is : line_at behind ≡ (line_turn (line_at e) (line.Come part)).line
  pub size : behind.client.size ≡ e.client.size
  pub later : behind.is_first ≡ false

abbrev pub IsDone : End → Call → List ℕ → End → Type 0
IsDone e (Mark reset) bytes behind = (unless_idle e.client.stage ≡ None) × (bytes ≡ []) × (behind ≡ record e { client = marked e.client reset })
IsDone e (Start request) bytes behind =
    (unless_idle e.client.stage ≡ None) × (bytes ≡ []) × (behind ≡ record e { asked = suc e.asked; client = started e.client request })
IsDone e Send bytes behind = (answer : Sent) × Appends (sent e.client) answer e bytes behind
IsDone e (Open kind) bytes behind =
    (unless_idle e.client.stage ≡ None) × (bytes ≡ []) × (behind ≡ record e { asked = suc e.asked; client = opened e.client kind })
IsDone e (Put part) bytes behind = Appends (put e.client part) tt e bytes behind
IsDone e Finish bytes behind = Appends (finished e.client) tt e bytes behind
IsDone e Cancel bytes behind = (answer : Cancelled) × Appends (cancelled e.client) answer e bytes behind
IsDone e Lose bytes behind = (bytes ≡ []) × (behind ≡ record e { client = lost e.client })
IsDone e (Come part) bytes behind = IsIn e.reading e.is_first part (line_turn (line_at e) (line.Come part)).answer bytes behind.reading × Hears e part behind

-- ---- All of them, one behind the other

-- one of them, when it was, its bytes, and the end behind it
pub record Called : Type 0 where
  pub call : Call
  pub time : ℕ
  pub bytes : List ℕ
  pub behind : End

-- A client's types say this: its packet size is one, and a descriptor has eight bytes.
pub record IsTyped (s : ClientSession) : Type 0 where
  pub size : IsPacketSize s.size
  pub descriptor : s.heard.descriptor < 2 ^ 64

-- These were done from this end on, each as its contract says.
abbrev pub AreCalled : End → List Called → Type 0
AreCalled e [] = Unit {0}
AreCalled e (x ∷ xs) = IsDone e x.call x.bytes x.behind × IsTyped x.behind.client × AreCalled x.behind xs

-- ---- Which acts of the machine they are, each packet one, and which pieces

abbrev pub acts_by : ClientSession → Call → List (Act Token)
acts_by s (Mark reset) = line.Mark reset ∷ []
acts_by s (Start request) = line.Ask ∷ []
acts_by s Send = line.Send (nat_le (length (left_of s.stage)) (room s)) ∷ []
acts_by s (Open kind) = line.Ask ∷ []
acts_by s (Put part) = packets (full_in s (left_of s.stage ++ part))
acts_by s Finish = packets (full_in s (left_of s.stage)) ++ line.Send true ∷ []
acts_by s Cancel = line.Cancel ∷ []
acts_by s Lose = line.Lose ∷ []
acts_by s (Come part) = line.Come part ∷ []

abbrev pub acts_of : End → List Called → List (Act Token)
acts_of e [] = []
acts_of e (x ∷ xs) = acts_by e.client x.call ++ acts_of x.behind xs

abbrev pub piece_by : Call → ℕ → List ℕ → Piece
piece_by (Come part) time bytes = Bytes ways.ToClient time bytes
piece_by Lose time bytes = Closes time
piece_by _ time bytes = Bytes ways.ToServer time bytes

abbrev pub handed : List Called → List Piece
handed [] = []
handed (x ∷ xs) = piece_by x.call x.time x.bytes ∷ handed xs
