-- What passes an application's end, along moves: what comes of the application, what goes on of it to the connection that it holds, and what
-- is said there (tds_front, Passing).
use Rattle.std.specs.Prelude.{◌≢◌, ℕ, ◌==◌, Bool, true, false, List, [], ◌∷◌, ◌++◌, Option, Some, None, Result, Ok, Err, if◌then◌else◌}
use Rattle.tds_front.specs.declared.fault.FrontFault.{FrontFault}
use Rattle.tds_front.specs.declared.front.Fed.{Fed}
use Rattle.tds_front.specs.declared.front.Front.{Front}
use Rattle.tds_front.specs.declared.stage.Action.{Action}
use Rattle.tds_front.specs.declared.stage.Head.{Head}
use Rattle.tds_front.specs.declared.stage.Stage.{Stage}
use Rattle.tds_front.specs.Bytes.{fed}
use Rattle.tds_front.specs.Passing as passing
use Rattle.tds_front.specs.Passing.{Packet, Refuses, GoesOn, Says, judged}
use Rattle.tds_front.specs.Rules.{taken}
use Rattle.tds_front.specs.Serving.{Tokens, Ends, Acknowledges}
use Rattle.tds_wire.specs.declared.told.Token.{Token}
use Rattle.tds_service.specs.History.{Done}
use Rattle.tds_service.specs.Line as line
use Rattle.tds_service.specs.Line.{Answer}
use Rattle.tds_service.specs.Promises.{ends_message}
use Rattle.tds_relay.specs.Pool as pool
use Rattle.tds_relay.specs.Pool.{Event, Sharing, whose}
use Rattle.tds_relay.specs.Fronting.{AnswersOnce, done_on}
use Rattle.tds_relay.specs.Core.{End, Open, Over, Core, Move, Sends, Comes, Feeds, Enters, Quits, dones_of_part, end_at, events_of, moved, sent_by, EndList, MayMoveAll, moved_all, new_core}

-- ---- What passes it in one move

-- what goes out of its request goes on, the last of it or not
abbrev pub gone_on : List line.Packet → List passing.FrontEvent
gone_on [] = []
gone_on (line.OfRequest request first reset last ∷ packets) = GoesOn last ∷ gone_on packets
gone_on (packet ∷ packets) = gone_on packets

-- A packet that comes says this, which ends its message or not, by what the service answers.
abbrev pub said_by : Bool → Answer → List passing.FrontEvent
said_by ends line.More = Says (if ends then Ends else Tokens) ∷ []
said_by ends (line.Finished request) = Says Ends ∷ []
said_by ends (line.Acked request) = Says Acknowledges ∷ []
said_by ends answer = []

abbrev pub said_in : List (Done Token) → List passing.FrontEvent
said_in [] = []
said_in (d ∷ ds) = said_by (ends_message d.act) d.answer

-- the packet whose header ends with these bytes, or a fault by other bytes
abbrev pub refused_by : Result Action FrontFault → FrontFault → List passing.FrontEvent
refused_by (Ok action) fault = Refuses fault ∷ []
refused_by (Err first) fault = []

abbrev pub brought_by : Stage → Option Head → Result Fed FrontFault → List passing.FrontEvent
brought_by stage None (Ok fed) = []
brought_by stage None (Err fault) = Refuses fault ∷ []
brought_by stage (Some head) (Ok fed) = Packet head ∷ []
brought_by stage (Some head) (Err fault) = Packet head ∷ refused_by (taken stage head).does fault

abbrev pub brought : Front → List ℕ → List passing.FrontEvent
brought front bytes = brought_by front.stage (judged front.due bytes) (fed front bytes).brings

-- where its end is open
abbrev pub if_end_open : Option End → (Front → Bool → List passing.FrontEvent) → List passing.FrontEvent
if_end_open None what = []
if_end_open (Some (Open front withdrawn asks)) what = what front withdrawn
if_end_open (Some (Over why)) what = []

abbrev pub if_same : ℕ → ℕ → List passing.FrontEvent → List passing.FrontEvent
if_same key other events = if other == key then events else []

abbrev pub if_whose : ℕ → Option ℕ → List passing.FrontEvent → List passing.FrontEvent
if_whose key None events = []
if_whose key (Some other) events = if_same key other events

-- Of what it has taken back it hears nothing.
abbrev pub unless_withdrawn : Bool → List passing.FrontEvent → List passing.FrontEvent
unless_withdrawn false events = events
unless_withdrawn true events = []

abbrev pub passes : ℕ → Core → Move → List passing.FrontEvent
passes key h (Sends other action) = if_same key other (if_end_open (end_at h.ends key) (λ front withdrawn. gone_on (sent_by h.pool (pool.Does other action))))
passes key h (Comes number part way) =
    if_whose key (whose h.pool number) (if_end_open (end_at h.ends key) (λ front withdrawn. unless_withdrawn withdrawn (said_in (dones_of_part h.pool number part))))
passes key h (Feeds other bytes) = if_same key other (if_end_open (end_at h.ends key) (λ front withdrawn. brought front bytes))
passes key h move = []

-- ---- Along moves

abbrev pub passed : ℕ → Core → List Move → List passing.FrontEvent
passed key h [] = []
passed key h (move ∷ moves) = passes key h move ++ passed key (moved h move) moves

abbrev pub events_along : Core → List Move → List Event
events_along h [] = []
events_along h (move ∷ moves) = events_of h move ++ events_along (moved h move) moves

-- It is there all the while.
abbrev pub StaysIn : ℕ → Move → Type 0
StaysIn key (Enters other ends) = key ≢ other
StaysIn key (Quits other gives way) = key ≢ other
StaysIn key move = Unit {0}

abbrev pub Stays : ℕ → List Move → Type 0
Stays key [] = Unit {0}
Stays key (move ∷ moves) = StaysIn key move × Stays key moves

-- ---- An application's stay

-- It enters, behind these moves, with which these are the ends; and these are the moves since.
pub record Stay (sharing : Sharing) (key : ℕ) : Type 0 where
  pub before : List Move
  pub ends : EndList
  pub since : List Move
  pub may : MayMoveAll (new_core sharing) (before ++ Enters key ends ∷ since)
  pub stays : Stays key since

-- what passes its end then
abbrev pub passed_in : {sharing : Sharing} {key : ℕ} → Stay sharing key → List passing.FrontEvent
passed_in {sharing} {key} s = passed key (moved_all (new_core sharing) (s.before ++ Enters key s.ends ∷ [])) s.since

-- All that is done at the pool, also before it came. Each server answers each request once at most, also behind an attention.
abbrev pub done_in : {sharing : Sharing} {key : ℕ} → Stay sharing key → List Event
done_in {sharing} {key} s = events_along (new_core sharing) (s.before ++ Enters key s.ends ∷ s.since)

abbrev pub AllAnswerOnce : {sharing : Sharing} {key : ℕ} → Stay sharing key → Type 0
AllAnswerOnce {sharing} s = (number : ℕ) → AnswersOnce false (done_on sharing number (done_in s))
