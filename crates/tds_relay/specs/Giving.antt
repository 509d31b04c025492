-- What one application is given, and by what; and what it is sent of that.
use Rattle.std.specs.Prelude.{◌≡◌, ◌≢◌, ◌⊎◌, ℕ, ◌==◌, Bool, true, false, List, [], ◌∷◌, ◌++◌, Option, Some, None, take, if◌then◌else◌}
use Rattle.tds_packet.specs.declared.header.Header.{Header}
use Rattle.tds_packet.specs.Reading.{joined}
use Rattle.tds_wire.specs.declared.features.Features.{Features}
use Rattle.tds_front.specs.Passing.{towards}
use Rattle.tds_front.specs.Serving.{Happening, Comes, Goes, Closes, ServerReply, Tokens, Ends, Acknowledges}
use Rattle.tds_front.specs.declared.stage.Stage.TheVariants as stages
use Rattle.tds_relay.specs.Behind.{events_along, passed}
use Rattle.tds_relay.specs.Cutting.{is_last_packet}
use Rattle.tds_relay.specs.Pool.{Event, Sharing, whose}
use Rattle.tds_relay.specs.Fronting.{AnswersOnce, done_on}
use Rattle.tds_relay.specs.Core as core
use Rattle.tds_relay.specs.Core.{Move, end_at, new_core}
use Rattle.tds_relay.specs.Machine.{Machine, Step, Hands, Takes, Writes, Admits, Removes, Manner, CausesStep, IsRight, MayAll, after, after_all, handed, moves_of, new_machine, owed}
use Rattle.tds_relay.specs.Promises.{Each}
use Rattle.tds_relay.specs.Ties.{Cause}
use Rattle.tds_relay.specs.Queues.{Queue, Queues, acknowledgement, queue_at}
use Rattle.tds_relay.specs.TokenParsers.{AllReadAnew}

-- ---- What it is given

-- The pieces of what is said to it once: packets, one behind the other.
abbrev pub Given : Type 0
Given = List (List ℕ)

-- this, if it is theirs
abbrev pub if_its : ℕ → Option ℕ → Option Given → List Given
if_its key None said = []
if_its key (Some other) None = []
if_its key (Some other) (Some pieces) = if other == key then pieces ∷ [] else []

-- By a packet on the connection that it is lent: that packet. By its own attention: the acknowledgement, where its end owes it that.
abbrev pub given : ℕ → Machine → Step → List Given
given key h (Hands number header content part way manner) = if_its key (whose h.core.pool number) (handed manner header content)
given key h (Takes other bytes) = if_its key (Some other) (owed bytes (end_at h.core.ends other))
given key h _ = []

abbrev pub given_all : ℕ → Machine → List Step → List Given
given_all key h [] = []
given_all key h (step ∷ steps) = given key h step ++ given_all key (after h step) steps

-- piece by piece
abbrev pub pieces_of : List Given → List (List ℕ)
pieces_of [] = []
pieces_of (said ∷ others) = said ++ pieces_of others

-- ---- What it is sent

abbrev pub bytes_at : Option Queue → List ℕ
bytes_at (Some p) = p.bytes
bytes_at o = []

abbrev pub sent : ℕ → Machine → Step → List ℕ
sent key h (Writes other count) = if other == key then take count (bytes_at (queue_at h.queues key)) else []
sent key h step = []

abbrev pub sent_all : ℕ → Machine → List Step → List ℕ
sent_all key h [] = []
sent_all key h (step ∷ steps) = sent key h step ++ sent_all key (after h step) steps

-- What it was sent, and then what waits, are a front of these bytes; all of them, unless something didn't fit.
pub record IsFrontOf (all sent : List ℕ) (o : Option Queue) : Type 0 where
  pub queue : Queue
  pub there : o ≡ Some queue
  pub rest : List ℕ
  pub front : (sent ++ queue.bytes) ++ rest ≡ all
  pub whole : queue.is_full ≡ false → rest ≡ []

-- It is there all the while.
abbrev pub StaysBy : ℕ → Step → Type 0
StaysBy key (Admits other ends queues) = key ≢ other
StaysBy key (Removes other gives way) = key ≢ other
StaysBy key step = Unit {0}

abbrev pub StaysAll : ℕ → List Step → Type 0
StaysAll key [] = Unit {0}
StaysAll key (step ∷ steps) = StaysBy key step × StaysAll key steps

-- So it is of an application, from where this waited.
abbrev pub IsKept : ℕ → Machine → List Step → Type 0
IsKept key h steps =
    (p : Queue) → StaysAll key steps → queue_at h.queues key ≡ Some p
    → IsFrontOf (p.bytes ++ joined (pieces_of (given_all key h steps))) (sent_all key h steps) (queue_at (after_all h steps).queues key)

-- ---- From where it has come

-- An application comes, behind these steps, and these are the steps since.
pub record Visit (sharing : Sharing) (key : ℕ) : Type 0 where
  pub before : List Step
  pub ends : core.EndList
  pub queues : Queues
  pub since : List Step
  pub may : MayAll (new_machine sharing) (before ++ Admits key ends queues ∷ since)
  pub stays : StaysAll key since

-- So one does in steps by which each packet on each connection is read from where the one before has left its parser, the first one by a
-- parser that has read nothing, as the relay's service was told.
pub record ReadVisit (sharing : Sharing) (key : ℕ) : Type 0 where
  pub visit : Visit sharing key
  pub most : ℕ
  pub features : Features
  pub read : AllReadAnew most features (new_machine sharing) (visit.before ++ Admits key visit.ends visit.queues ∷ visit.since)

-- where it has come
abbrev pub machine_at_visit : {sharing : Sharing} {key : ℕ} → Visit sharing key → Machine
machine_at_visit {sharing} {key} v = after_all (new_machine sharing) (v.before ++ Admits key v.ends v.queues ∷ [])

abbrev pub given_in : {sharing : Sharing} {key : ℕ} → Visit sharing key → List Given
given_in {sharing} {key} v = given_all key (machine_at_visit v) v.since

abbrev pub sent_in_visit : {sharing : Sharing} {key : ℕ} → Visit sharing key → List ℕ
sent_in_visit {sharing} {key} v = sent_all key (machine_at_visit v) v.since

-- what waits for it at last
abbrev pub waits_in : {sharing : Sharing} {key : ℕ} → Visit sharing key → Option Queue
waits_in {sharing} {key} v = queue_at (after_all (machine_at_visit v) v.since).queues key

abbrev pub moves_in : List Step → List Move
moves_in [] = []
moves_in (step ∷ steps) = moves_of step ++ moves_in steps

-- what passes between it and its end (tds_front, Passing)
abbrev pub happens_in : {sharing : Sharing} {key : ℕ} → Visit sharing key → List Happening
happens_in {sharing} {key} v = towards None stages.Quiet (passed key (machine_at_visit v).core (moves_in v.since))

-- All that is done at the pool, also before it came. Each server answers each request once at most, also behind an attention.
abbrev pub done_in : {sharing : Sharing} {key : ℕ} → Visit sharing key → List Event
done_in {sharing} {key} v = events_along (new_core sharing) (moves_in (v.before ++ Admits key v.ends v.queues ∷ v.since))

abbrev pub ServersAnswerOnce : {sharing : Sharing} {key : ℕ} → Visit sharing key → Type 0
ServersAnswerOnce {sharing} v = (number : ℕ) → AnswersOnce false (done_on sharing number (done_in v))

-- ---- Said by a server

-- They are a packet of an answer that came, which ends its message or not, as it is handed on.
pub record IsPacketOf (ends : Bool) (pieces : Given) : Type 0 where
  pub header : Header
  pub content : List ℕ
  pub manner : Manner
  pub ends_is : is_last_packet header ≡ ends
  pub right : IsRight header content manner
  pub are : handed manner header content ≡ Some pieces

-- An acknowledgement may be the end's own.
abbrev pub IsSaid : ServerReply → Given → Type 0
IsSaid Tokens pieces = IsPacketOf false pieces
IsSaid Ends pieces = IsPacketOf true pieces
IsSaid Acknowledges pieces = IsPacketOf true pieces ⊎ (pieces ≡ acknowledgement ∷ [])

-- Each that is given is what an end says, one after the other, and nothing else is.
abbrev pub AreSaid : List Happening → List Given → Type 0
AreSaid [] all = all ≡ []
AreSaid (Comes brought ∷ later) all = AreSaid later all
AreSaid (Goes reply ∷ later) [] = ⊥
AreSaid (Goes reply ∷ later) (pieces ∷ others) = IsSaid reply pieces × AreSaid later others
AreSaid (Closes ∷ later) all = AreSaid later all

-- ---- In a call

-- Steps that this causes led from one machine to the other; and what waited for each application, and behind it what they give it, is what
-- it was sent and what waits.
pub record Gives (by : Cause) (old new : Machine) : Type 0 where
  pub steps : List Step
  pub are : after_all old steps ≡ new
  pub may : MayAll old steps
  pub caused : Each (CausesStep by) steps
  pub each : (key : ℕ) → IsKept key old steps
