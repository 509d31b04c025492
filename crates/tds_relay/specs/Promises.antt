-- What a pool promises, over any list of events.
use Rattle.std.specs.Prelude.{◌≡◌, ◌⊎◌, ◌<◌, ◌+◌, ℕ, ◌==◌, Bool, true, false, List, [], ◌∷◌, ◌++◌, Some, None, if◌then◌else◌}
use Rattle.tds_relay.specs.declared.pool.Hold.{Hold}
use Rattle.tds_wire.specs.declared.told.Token.{Token}
use Rattle.tds_service.specs.Line as line
use Rattle.tds_service.specs.Line.{Line, LineStage}
use Rattle.tds_service.specs.Promises.{attentions}
use Rattle.tds_service.specs.Service as calls
use Rattle.tds_service.specs.Service.{Call, Place, Leased, Cleaning, Kept, Free, Draining, Seat, Reply, Lent, is_clean, seat_numbered, on, step, steps}
use Rattle.tds_relay.specs.Pool as pool
use Rattle.tds_relay.specs.Pool.{Pool, Event, Action, find_key, find_lease, turn, whose}

abbrev pub Each : {X : Type 0} → (X → Type 0) → List X → Type 0
Each P [] = Unit {0}
Each P (x ∷ xs) = P x × Each P xs

-- What an application holds by this lease, on this connection.
pub record IsHeld (holds : List Hold) (lease number : ℕ) : Type 0 where
  pub hold : Hold
  pub found : find_lease lease holds ≡ Some hold
  pub here : hold.number ≡ number

-- A connection by this number, at this place, is an application's; or it is the relay's, whose cleaning is out; or nobody's, and then
-- its attention is out, or it is idle, with no reset owed and no transaction open.
pub record IsBeingCleaned (holds : List Hold) (lease : ℕ) (l : Line) : Type 0 where
  pub unheld : find_lease lease holds ≡ None
  pub sent : l.stage ≡ line.Reading

pub record IsClean (l : Line) : Type 0 where
  pub idle : l.stage ≡ line.Idle
  pub clean : is_clean l.heard.mark l.heard.descriptor ≡ true

abbrev pub IsCaredFor : List Hold → ℕ → Place → Line → Type 0
IsCaredFor holds number (Leased lease) l = IsHeld holds lease number
IsCaredFor holds number (Cleaning lease) l = IsBeingCleaned holds lease l
IsCaredFor holds number (Kept ticket) l = ⊥
IsCaredFor holds number Free l = IsClean l
IsCaredFor holds number Draining l = l.stage ≡ line.Cancelling

abbrev pub CaresFor : List Hold → Seat → Type 0
CaresFor holds c = IsCaredFor holds c.number c.place c.line

-- ---- Whose a connection is

-- An application holds the connection of this number, by a lease.
pub record Holds (d : Pool) (key number : ℕ) : Type 0 where
  pub hold : Hold
  pub its : find_key key d.holds ≡ Some hold
  pub seat : Seat
  pub there : seat_numbered number d.service.seats ≡ Some seat
  pub lent : seat.place ≡ Leased hold.lease

-- Something of a request is out there, and neither its whole answer has come nor was it cancelled.
abbrev pub IsOut : LineStage → Type 0
IsOut (line.Sending true) = Unit {0}
IsOut line.Reading = Unit {0}
IsOut _ = ⊥

pub record Cancels (d : Pool) (key number : ℕ) : Type 0 where
  pub held : Holds d key number
  pub out : IsOut held.seat.line.stage

-- An application cancels, or lets its connection go.
abbrev pub IsStop : Action → Type 0
IsStop pool.Asks = ⊥
IsStop (pool.Puts count) = ⊥
IsStop (pool.Ends count) = ⊥
IsStop pool.Stops = Unit {0}

abbrev pub IsOf : ℕ → Event → Type 0
IsOf key (pool.Does other action) = (other ≡ key) × IsStop action
IsOf key (pool.Leaves other gives way) = other ≡ key
IsOf key _ = ⊥

-- the attentions that go out on a connection
abbrev pub attentions_on : Pool → Event → ℕ → ℕ
attentions_on d event n = attentions (on n (steps d.service (turn d event).calls))

-- Each is of the application that holds the connection, with a request out.
abbrev pub NoneAstray : Pool → Event → Type 0
NoneAstray d event = (n : ℕ) → 0 < attentions_on d event n → (key : ℕ) × IsOf key event × Cancels d key n

-- To whom a packet is handed: the application whose lease the connection is lent by.
pub record IsHandedTo (d : Pool) (number key : ℕ) : Type 0 where
  pub hold : Hold
  pub its : find_lease hold.lease d.holds ≡ Some hold
  pub key_is : hold.key ≡ key
  pub seat : Seat
  pub there : seat_numbered number d.service.seats ≡ Some seat
  pub lent : seat.place ≡ Leased hold.lease

-- ---- What is said of a request

abbrev pub one_if : Bool → ℕ
one_if said = if said then 1 else 0

-- a call by this lease that says something of a request: that it is asked, bytes of it, its end
abbrev pub says : ℕ → Call Token → ℕ
says lease (calls.Ask other) = one_if (other == lease)
says lease (calls.Put other count) = one_if (other == lease)
says lease (calls.Finish other count) = one_if (other == lease)
says lease _ = 0

abbrev pub said_by : ℕ → List (Call Token) → ℕ
said_by lease [] = 0
said_by lease (call ∷ all) = says lease call + said_by lease all

-- What is said of a request by the lease of an application is one call, of an event that says it for this application.
abbrev pub SaysOnce : Pool → Event → Type 0
SaysOnce d event = (key : ℕ) (h : Hold) → find_key key d.holds ≡ Some h → 0 < said_by h.lease (turn d event).calls
    → (action : Action) × (event ≡ pool.Does key action) × (said_by h.lease (turn d event).calls ≡ 1)

-- ---- Who is lent one

-- A connection that somebody had before is lent only where it is clean.
abbrev pub LendsClean : Pool → Reply → Type 0
LendsClean d reply = (lease number : ℕ) → reply ≡ Lent lease number true → (c : Seat) × (seat_numbered number d.service.seats ≡ Some c) × IsClean c.line

-- These stand in the other list, in this order.
abbrev pub IsAmong : List ℕ → List ℕ → Type 0
IsAmong [] ys = Unit {0}
IsAmong (x ∷ xs) [] = ⊥
IsAmong (x ∷ xs) (y ∷ ys) = ((x ≡ y) × IsAmong xs ys) ⊎ IsAmong (x ∷ xs) ys

-- who begins to wait
abbrev pub comes_to_wait : Event → List ℕ
comes_to_wait (pool.Waits key) = key ∷ []
comes_to_wait _ = []

-- Whoever is lent one has waited longest.
abbrev pub LendsFirst : Pool → Type 0
LendsFirst d = (h : Hold) → (turn d pool.Serves).pool.holds ≡ d.holds ++ h ∷ [] → d.line ≡ h.key ∷ (turn d pool.Serves).pool.line

-- ---- One is lost

-- Whoever holds another holds it still, and it is as it was.
pub record TakesOne (d : Pool) (number : ℕ) : Type 0 where
  pub holds : (key : ℕ) (h : Hold) → find_key key d.holds ≡ Some h → (h.number == number) ≡ false → find_key key (turn d (pool.Loses number)).pool.holds ≡ Some h
  pub seats : (n : ℕ) → (n == number) ≡ false → seat_numbered n (turn d (pool.Loses number)).pool.service.seats ≡ seat_numbered n d.service.seats
