-- What the export does by which a client hears the data of a packet in one call: token by token, as `tds_listen` has it.
use Rattle.std.specs.Prelude.{◌≡◌, ◌≢◌, ◌≤◌, ◌+◌, ℕ, List, [], ◌∷◌, Bool, true, false, length, drop, get_or, Option, Some, None, IsSome, Result, Ok, Err}
use Rattle.tds_client.specs.declared.heard.Heard.{Heard}
use Rattle.tds_client.specs.declared.sign.Rules.TheVariants.{Any}
use Rattle.tds_client.specs.Faults as client
use Rattle.tds_client.specs.Hearing.{hear_sign}
use Rattle.tds_client.specs.Machine.{tells}
use Rattle.tds_client.specs.Session.{ClientSession}
use Rattle.tds_listen.specs.declared.fault.ListenFault.{ListenFault}
use Rattle.tds_listen.specs.declared.fault.ListenFault.TheVariants as faults
use Rattle.tds_listen.specs.Faults.{broken_at, broken_at_end}
use Rattle.tds_listen.specs.Hearing.{Both, Move, heard_end, next_heard}
use Rattle.tds_listen.specs.Signs.{sign_of}
use Rattle.tds_wire.specs.declared.memory.Memory.{Memory}
use Rattle.tds_wire.specs.declared.told.Token.{Token}
use Rattle.tds_wire.specs.Faults as wire
use Rattle.tds_wire.specs.Reading.{Parser, restarted}
use Rattle.tds_wire.specs.Told.{added}
use Rattle.tds_wire.specs.Whole.{IsNext}
use Rattle.tds_c.specs.declared.client.TdsClient.{TdsClient}
use Rattle.tds_c.specs.declared.wire.hearing.Came.{Came}
use Rattle.tds_c.specs.declared.wire.hearing.Came.TheVariants as came
use Rattle.tds_c.specs.declared.wire.hearing.walked.Halt.{Halt}
use Rattle.tds_c.specs.declared.wire.hearing.walked.Halt.TheVariants as halts
use Rattle.tds_walk.specs.declared.token.TdsWireToken.{TdsWireToken}
use Rattle.tds_walk.specs.declared.walk.TdsWire.{TdsWire}
use Rattle.tds_c.specs.Answers.{taken_number}
use Rattle.tds_c.specs.Calls.{value_of}
use Rattle.tds_c.specs.Plain.{client_of}
use Rattle.tds_walk.specs.Rooms.{HasRead, Room}
use Rattle.tds_walk.specs.Wire.{inside_from, truth}
use Rattle.tds_walk.specs.WireCalls.{reading_from}
use Rattle.tds_walk.specs.WireTokens.{AllShow, Puts}

-- ---- The numbers

abbrev pub fault_number : ListenFault → ℕ
fault_number (faults.Client fault) = 60 + client.fault_number fault
fault_number (faults.Wire refusal) = 70 + wire.fault_number refusal.fault
fault_number faults.Cut = 75
fault_number faults.ResetUnanswered = 76

abbrev pub came_number : Came → ℕ
came_number came.NoClient = 20
came_number came.Full = 10
came_number came.Through = 0
came_number (came.Ended answer) = taken_number answer
came_number (came.Broken fault) = fault_number fault
came_number (came.BrokenAtEnd fault) = fault_number fault

-- ---- Tokens, one after the other

-- the client and the parser, before bytes that are left
pub record Place : Type 0 where
  pub session : ClientSession
  pub reading : Parser
  pub rest : List ℕ

abbrev pub behind : Move → Place
behind move = record { session = move.session; reading = move.reading; rest = move.rest }

-- `next_heard` makes these moves, one after the other, and then the client and the parser stand at `last`.
unfoldable pub HearsInTurn : Place → List Move → Place → Type 0
HearsInTurn first [] last = first ≡ last
HearsInTurn first (move ∷ others) last =
    (next_heard first.session first.reading first.rest ≡ Ok move) × HearsInTurn (behind move) others last

-- the tokens that are told of these moves
abbrev pub with_told : Option Token → List Token → List Token
with_told None others = others
with_told (Some token) others = token ∷ others

unfoldable pub told_in : List Move → List Token
told_in [] = []
told_in (move ∷ others) = with_told move.told (told_in others)

-- So far these moves were made, and what they tell stands at the front of the room.
pub record HasHeard (first last : Place) (room : Room TdsWireToken) : Type 0 where
  pub moves : List Move
  pub in_turn : HearsInTurn first moves last
  pub values : List TdsWireToken
  pub shows : AllShow values (told_in moves)
  pub written : HasRead values room

-- ---- Where it stops

-- what is handed to a call, or left by it
pub record State : Type 0 where
  pub client : TdsClient
  pub walk : TdsWire
  pub memory : Memory

-- Behind bytes that were refused it says which one.
abbrev pub TellsFault : ListenFault → Parser → Type 0
TellsFault (faults.Client fault) r = Unit {0}
TellsFault (faults.Wire refusal) r = r.refused ≡ Some refusal
TellsFault faults.Cut r = Unit {0}
TellsFault faults.ResetUnanswered r = Unit {0}

-- Why it stops there, and what it leaves: the room is full, and more could be told; the data are done with; they are, and with them the
-- message is; or the client is broken by what comes next, or by the message's end.
abbrev pub StopsAt : Place → Both → Bool → Room TdsWireToken → Came → Type 0
StopsAt last now ends room came.NoClient = ⊥
StopsAt last now ends room came.Full =
    (last.rest ≢ []) × (tells last.session.stage ≡ true) × (room.count ≡ length room.before)
    × (now ≡ record { session = last.session; reading = last.reading })
StopsAt last now ends room came.Through =
    (last.rest ≡ []) × (ends ≡ false) × (now ≡ record { session = last.session; reading = last.reading })
StopsAt last now ends room (came.Ended answer) =
    (last.rest ≡ []) × (ends ≡ true) × (heard_end last.session last.reading ≡ Ok (record { answer = answer; session = now.session }))
    × (now.reading ≡ restarted last.reading)
StopsAt last now ends room (came.Broken fault) =
    (next_heard last.session last.reading last.rest ≡ Err fault) × (now.session ≡ broken_at last.session fault)
    × TellsFault fault now.reading
StopsAt last now ends room (came.BrokenAtEnd fault) =
    (last.rest ≡ []) × (ends ≡ true) × (heard_end last.session last.reading ≡ Err fault)
    × (now.session ≡ broken_at_end last.session fault) × (now.reading ≡ restarted last.reading)

-- Tokens are heard one after the other, and there it stops.
abbrev pub StopsBehind : Place → List ℕ → Both → Bool → Room TdsWireToken → Came → Type 0
StopsBehind first rest now ends room is =
    (last : Place) × HasHeard first last room × (last.rest ≡ rest) × StopsAt last now ends room is

-- ---- A call

pub record Hearing : Type 0 where
  pub before : State
  pub after : State
  pub bytes : List ℕ
  pub ends : ℕ
  pub taken : ℕ
  pub room : Room TdsWireToken

abbrev pub NothingDone : Hearing → Came → Type 0
NothingDone h is = (is ≡ came.NoClient) × (h.after ≡ h.before) × (h.taken ≡ 0) × (h.room.after ≡ h.room.before) × (h.room.count ≡ 0)

-- The bytes that are taken lead to where it stops. The client and the walk are what they are there.
abbrev pub HearsFrom : Place → Hearing → Came → Type 0
HearsFrom first h is =
    (now : Both) × (h.after.client ≡ value_of now.session 0) × (reading_from h.after.walk h.after.memory ≡ Some now.reading)
    × (h.taken ≤ length h.bytes) × StopsBehind first (drop h.taken h.bytes) now (truth h.ends) h.room is

abbrev pub HearsBy : Option ClientSession → Option Parser → Hearing → Came → Type 0
HearsBy None r h is = NothingDone h is
HearsBy (Some s) None h is = NothingDone h is
HearsBy (Some s) (Some r) h is = HearsFrom (record { session = s; reading = r; rest = h.bytes }) h is

abbrev pub HearsAll : Hearing → Came → Type 0
HearsAll h is = HearsBy (client_of h.before.client []) (reading_from h.before.walk h.before.memory) h is

-- ---- Where the walk is read out

-- Why no more was heard: the client and the parser stand there now, or are broken by what comes next.
abbrev pub HaltsAt : Place → Both → Room TdsWireToken → Result Halt ListenFault → Type 0
HaltsAt last now room (Ok halts.Full) = StopsAt last now false room came.Full
HaltsAt last now room (Ok halts.Through) = (last.rest ≡ []) × (now ≡ record { session = last.session; reading = last.reading })
HaltsAt last now room (Err fault) = StopsAt last now false room (came.Broken fault)

abbrev pub HaltsBehind : Place → List ℕ → Both → Room TdsWireToken → Result Halt ListenFault → Type 0
HaltsBehind first rest now room result = (last : Place) × HasHeard first last room × (last.rest ≡ rest) × HaltsAt last now room result

-- ---- Between two tokens

-- The value is a walk that has passed nothing of the next token.
pub record Ready (walk : TdsWire) : Type 0 where
  pub inside : IsSome (inside_from walk.inside)
  pub due : walk.due.due ≡ 0
  pub refused : walk.refused.fault ≡ 0
  pub head : walk.head_count ≡ 0
  pub passed : walk.passed ≡ 0

-- what a client that reads has heard, and the walk's value
pub record Here : Type 0 where
  pub heard : Heard
  pub walk : TdsWire

-- A token of so many bytes, with which these begin, was heard and written: the walk is behind it.
pub record HeardHere (old new : Here) (n : ℕ) (bytes : List ℕ) (room : Room TdsWireToken) (count : ℕ) : Type 0 where
  pub token : Token
  pub next : IsNext old.walk.start n (Some token) bytes
  pub heard : hear_sign Any false old.heard (sign_of token) ≡ Ok new.heard
  pub put : Puts (Some token) room count
  pub walk : new.walk ≡ record old.walk { kind = get_or bytes 0 0; start = added old.walk.start n }
