-- What the ends of each connection of a play have read of the bytes that came there, whatever they are.
use Rattle.std.specs.Prelude.{ℕ, suc, ◌≡◌, ◌<◌, ◌⊎◌, List, [], ◌∷◌, ◌++◌, length, flat_map, Bool, true, false, Option, Some, None, if◌then◌else◌, slice_get, slice_index_or, slice_set}
use Rattle.std.specs.List.{AllByRecursion}
use Rattle.tds_ends.specs.AllBytes.{AreToldBy, ClientHasRead, ServerHasRead, new_reader}
use Rattle.tds_packet.specs.declared.kind.Direction.{Direction}
use Rattle.tds_packet.specs.declared.kind.Direction.TheVariants.{ToServer, ToClient}
use Rattle.tds_packet.specs.Reading.{Reading}
use Rattle.tds_token.specs.declared.token.Token.{Token}
use Rattle.tds_world.specs.declared.event.Event.{Event}
use Rattle.tds_world.specs.declared.event.Event.TheVariants as event
use Rattle.tds_world.specs.declared.outcome.Outcome.{Outcome}
use Rattle.tds_play.specs.declared.link.Link.{Link}
use Rattle.tds_play.specs.declared.request.Record.{Record}
use Rattle.tds_play.specs.Seats.{Seated}
use Rattle.tds_ends.specs.declared.listening.ClientStop.{ClientStop}
use Rattle.tds_ends.specs.declared.listening.ClientStop.TheVariants as client_stop
use Rattle.tds_ends.specs.declared.serving.ServerStop.{ServerStop}
use Rattle.tds_ends.specs.declared.serving.ServerStop.TheVariants as server_stop
use Rattle.tds_packet.specs.Faults.{fault_number}
use Rattle.tds_world.specs.declared.outcome.End.TheVariants.{Server, Client}
use Rattle.tds_world.specs.declared.outcome.Layer.TheVariants.{Packet, Core}
use Rattle.tds_world.specs.declared.report.RequestReport.{RequestReport}
use Rattle.tds_world.specs.World.{numbered}
use Rattle.tds_play.specs.declared.feeding.Fault.{Fault}
use Rattle.tds_play.specs.AnyBytes.{AnswersWith, AnswerInTurn, FaultsBy, IsRefused, given_on, is_delivery}
use Rattle.tds_play.specs.Listening.{told_in}
use Rattle.tds_play.specs.Pipe.{Pipe, traffic}

-- ---- A connection

-- What the callers of a connection were given, the newest request's last.
abbrev pub tokens_of : Record → List Token
tokens_of r = r.tokens.items

abbrev pub given_by : {E S : Type 0} → Link E S → List Token
given_by link = flat_map tokens_of link.past.items ++ told_in link.current

-- What its ends have read of the bytes that came: all of them, unless it is cut; and of these the callers
-- were given what they were. Its client knows these columns.
pub record IsReading {E S : Type 0} (size : ℕ) (link : Link E S) (columns : Option ℕ) (pipe : Option Pipe)
    : Type 0 where
  pub server : link.is_cut ≡ false
      → ServerHasRead (new_reader ToServer size) link.server_reader (traffic pipe ToServer).came
  pub client : link.is_cut ≡ false
      → ClientHasRead (new_reader ToClient size) link.client_reader columns
      (traffic pipe ToClient).came (given_by link)
  pub told : AreToldBy (new_reader ToClient size) (traffic pipe ToClient).came (given_by link)

-- No byte came, and nothing was read; the columns that its client knows are told beside it.
pub record ReadsNoMore {E S : Type 0} (link new : Link E S) (before after : Option Pipe) : Type 0 where
  pub came : (d : Direction) → (traffic after d).came ≡ (traffic before d).came
  pub server_reader : new.server_reader ≡ link.server_reader
  pub client_reader : new.client_reader ≡ link.client_reader
  pub given : given_by new ≡ given_by link
  pub live : new.is_cut ≡ false → link.is_cut ≡ false

-- The same of one that has its seat beside it.
abbrev pub ReadsThere : {E S : Type 0} → ℕ → Seated E S → Option Pipe → Type 0
ReadsThere size x pipe = IsReading size x.link x.seat.client.columns pipe

-- ---- An event on it

-- Whether an event delivers bytes this way.
abbrev pub delivers : Event → Direction → Bool
delivers (event.ToServer m most) ToServer = true
delivers (event.ToServer m most) ToClient = false
delivers (event.ToClient m most) ToServer = false
delivers (event.ToClient m most) ToClient = true
delivers e d = false

-- What came this way: nothing, or what a delivery brought.
abbrev pub BringsBy : Bool → Reading → Outcome → List ℕ → List ℕ → Type 0
BringsBy true r o before after = AnswersWith r o before after
BringsBy false r o before after = after ≡ before

-- The event came to this outcome, and both ends have read what it brought.
pub record ReadsOn {E S : Type 0} (size : ℕ) (e : Event) (o : Outcome) (link : Link E S) (columns : Option ℕ)
    (before after : Option Pipe) : Type 0 where
  pub reading : IsReading size link columns after
  pub brings : (d : Direction)
      → BringsBy (delivers e d) (new_reader d size) o (traffic before d).came (traffic after d).came

-- A delivery is about the connection at this place.
abbrev pub IsAbout : Event → ℕ → Type 0
IsAbout (event.ToServer n most) place = n ≡ suc place
IsAbout (event.ToClient n most) place = n ≡ suc place
IsAbout e place = Unit {0}

-- ---- All connections

-- What the deliveries came to so far, on each connection, each way.
abbrev pub Answers : Type 0
Answers = ℕ → Direction → List Outcome

-- And after one event more.
abbrev pub answers_then : Event → Outcome → Answers → Answers
answers_then e o answers = λ n d. answers n d ++ (if is_delivery e n d then o ∷ [] else [])

-- Each connection reads what came, and its deliveries answered so. One that is unknown was brought nothing.
pub record AllRead {E S : Type 0} (size : ℕ) (links : List (Seated E S)) (pipes : ℕ → Option Pipe) (answers : Answers)
    : Type 0 where
  pub reading : (i : ℕ) (x : Seated E S) → i < length links → ReadsThere size (slice_index_or links i x) (pipes (suc i))
  pub answered : (i : ℕ) (d : Direction) → i < length links
      → AnswerInTurn (new_reader d size) [] (answers (suc i) d) (traffic (pipes (suc i)) d).came
  pub refused : (n : ℕ) (d : Direction) → (n ≡ 0) ⊎ (length links < n) → AllByRecursion IsRefused (answers n d)

-- ---- What the requests are told of

-- What the callers of a connection that may be unknown were given.
abbrev pub given_at : {E S : Type 0} → Option (Seated E S) → List Token
given_at None = []
given_at (Some x) = given_by x.link

-- Of what the callers of the connection of this number were given, reports tell the first.
abbrev pub TellsGiven : {E S : Type 0} → List (Seated E S) → List RequestReport → ℕ → Type 0
TellsGiven links reports n = (more : List Token) × (given_at (numbered links n) ≡ given_on n reports ++ more)

-- ---- What comes

-- What comes one way is none of what comes the other way.
abbrev pub brought_to : Direction → Direction → List ℕ → List ℕ
brought_to ToServer ToServer bytes = bytes
brought_to ToServer ToClient bytes = []
brought_to ToClient ToServer bytes = []
brought_to ToClient ToClient bytes = bytes

-- So many bytes came one way, whatever they are, and were appended.
pub record BringsAny (d : Direction) (count : ℕ) (before after : List ℕ) (old new : Option Pipe) : Type 0 where
  pub bytes : List ℕ
  pub appended : after ≡ before ++ bytes
  pub counted : length bytes ≡ count
  pub came : (e : Direction) → (traffic new e).came ≡ (traffic old e).came ++ brought_to d e bytes

-- ---- An end that is fed

-- The fault of a play that tells why a server stopped.
abbrev pub IsServerFault : ServerStop → Fault → Type 0
IsServerFault (server_stop.Packet fault) f =
    f ≡ record { end = Server; layer = Packet; number = fault_number fault }
IsServerFault (server_stop.Server fault) f = (f.end ≡ Server) × (f.layer ≡ Core)
IsServerFault server_stop.NoMemory f = ⊥

-- And a client.
abbrev pub IsClientFault : ClientStop → Fault → Type 0
IsClientFault (client_stop.Packet fault) f =
    f ≡ record { end = Client; layer = Packet; number = fault_number fault }
IsClientFault (client_stop.Client fault) f = (f.end ≡ Client) × (f.layer ≡ Core)
IsClientFault client_stop.NoMemory f = ⊥

-- A server was fed, where these are all the bytes that came to it: its reader has read them, or it answered
-- a fault of theirs.
abbrev pub ServerIsFed : ℕ → Reading → List ℕ → Option Fault → Type 0
ServerIsFed size now bytes None = ServerHasRead (new_reader ToServer size) now bytes
ServerIsFed size now bytes (Some f) = FaultsBy (new_reader ToServer size) bytes f.end f.layer f.number

-- And a client.
abbrev pub ClientIsFed : ℕ → Reading → Option ℕ → List ℕ → List Token → Option Fault → Type 0
ClientIsFed size now columns bytes given None =
    ClientHasRead (new_reader ToClient size) now columns bytes given
ClientIsFed size now columns bytes given (Some f) =
    FaultsBy (new_reader ToClient size) bytes f.end f.layer f.number
    × AreToldBy (new_reader ToClient size) bytes given

-- The last of the records on this connection is taken away, if there is one.
abbrev pub TakesLast : List (List Record) → List (List Record) → ℕ → Option Record → Type 0
TakesLast old new conn None = new ≡ old
TakesLast old new conn (Some r) =
    (place : ℕ) × (left : List Record) × (conn ≡ suc place) × (slice_get old place ≡ Some (left ++ r ∷ []))
    × (new ≡ slice_set old place left)
