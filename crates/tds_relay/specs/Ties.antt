-- The pool of the code, as the machine's.
use Rattle.std.specs.Prelude.{◌≡◌, ◌<◌, ℕ, Bool, true, false, List, [], ◌∷◌, ◌++◌, Option, Some, None}
use Rattle.tds_wire.specs.declared.told.Token.{Token}
use Rattle.tds_wire.specs.Reading.{Parser}
use Rattle.tds_service.specs.Parts as parts
use Rattle.tds_service.specs.Parts.{Part}
use Rattle.tds_service.specs.Line.{Packet}
use Rattle.tds_service.specs.Packets.{packet_part}
use Rattle.tds_service.specs.Service as calls
use Rattle.tds_service.specs.Service.{Service, Call, AllInUse, Lent, step, service_after}
use Rattle.tds_service.specs.Table.{service_in}
use Rattle.tds_service.specs.Ties.{Appends, sent_in}
use Rattle.tds_relay.specs.declared.pool.Pool as code
use Rattle.tds_relay.specs.declared.pool.Hold.{Hold}
use Rattle.tds_relay.specs.declared.pool.Served.{Served}
use Rattle.tds_relay.specs.declared.pool.leaving.Left.{Left}
use Rattle.tds_relay.specs.Pool.{Pool, Event, Action, Sharing, Waits, Unwaits, Serves, Brings, Does, Leaves, Renews, Comes, Loses, Asks, Puts, Ends, Stops, Way, Sent, pool_after, new_pool, turn}
use Rattle.tds_relay.specs.Promises.{Cancels, Each, attentions_on}

abbrev pub pool_in : code.Pool → Pool
pool_in d = record { mode = d.mode; service = service_in d.service; holds = d.holds.items; line = d.line.items; broken = d.broken; figures = d.figures }

-- what goes out by calls, one behind the other
abbrev pub sent_along : Service → List (Call Token) → List Packet
sent_along s [] = []
sent_along s (call ∷ calls) = sent_in (step s call).dones ++ sent_along (step s call).service calls

-- These calls of the service were made, and what goes out by them was appended.
pub record Makes (all : List (Call Token)) (old new : Service) (before after : List ℕ) : Type 0 where
  pub service_is : new ≡ service_after old all
  pub bytes : Appends (sent_along old all) before after

-- What was done is the machine's turn.
pub record Turns (event : Event) (old new : Pool) (before after : List ℕ) : Type 0 where
  pub pool_is : new ≡ (turn old event).pool
  pub bytes : Appends (sent_along old.service (turn old event).calls) before after

-- The calls were made, and nobody's hold or wait has changed.
pub record Settles (all : List (Call Token)) (old new : Pool) (before after : List ℕ) : Type 0 where
  pub pool_is : new ≡ record old { service = service_after old.service all }
  pub bytes : Appends (sent_along old.service all) before after

-- It is the connection that was held, where one was.
abbrev pub IsNumberOf : Option Hold → Option Left → Type 0
IsNumberOf None None = Unit {0}
IsNumberOf None (Some left) = ⊥
IsNumberOf (Some hold) None = ⊥
IsNumberOf (Some hold) (Some left) = left.number ≡ hold.number

-- Who causes what is done: an application that says something or leaves, one that is parked, what comes on a connection, or neither.
pub data Cause : Type 0 where
  Application : (key : ℕ) → Cause
  Parking : (key : ℕ) → Cause
  Connection : (number : ℕ) → Cause
  Neither : Cause

-- who lets a connection go, and stays: one that is parked, or says something
abbrev pub parting : Bool → ℕ → Cause
parting true key = Parking key
parting false key = Application key

-- Nothing comes on a connection by it.
abbrev pub IsNoConnection : Cause → Type 0
IsNoConnection (Application key) = Unit {0}
IsNoConnection (Parking key) = Unit {0}
IsNoConnection (Connection number) = ⊥
IsNoConnection Neither = Unit {0}

-- An application's cancel is its own. What is asked for it may also go out once it is lent a connection.
abbrev pub CausesAction : Cause → ℕ → Action → Type 0
CausesAction by key Asks = Unit {0}
CausesAction by key (Puts count) = Unit {0}
CausesAction by key (Ends count) = Unit {0}
CausesAction by key Stops = by ≡ Application key

-- An application begins to wait, and keeps its connection, by what it says; or by what comes on a connection, where its request has
-- waited for that.
abbrev pub CausesRequest : Cause → ℕ → Type 0
CausesRequest (Application other) key = other ≡ key
CausesRequest (Parking other) key = ⊥
CausesRequest (Connection number) key = Unit {0}
CausesRequest Neither key = ⊥

-- It alone waits no more, and lets its connection go; what comes is its connection's. Whoever waits is lent a connection, and a connection
-- is lost, whoever caused that.
abbrev pub Causes : Cause → Event → Type 0
Causes by (Waits key) = CausesRequest by key
Causes by (Unwaits key) = by ≡ Application key
Causes by Serves = Unit {0}
Causes by (Brings gives way) = by ≡ Neither
Causes by (Does key action) = CausesAction by key action
Causes by (Leaves key gives way) = by ≡ Application key
Causes by (Renews key resumes) = CausesRequest by key
Causes by (Comes number part way) = by ≡ Connection number
Causes by (Loses number) = Unit {0}

-- Each attention that goes out is of the application that causes it, which holds the connection, with a request out.
abbrev pub Owns : Cause → Pool → Event → Type 0
Owns by d event = (n : ℕ) → 0 < attentions_on d event n → (key : ℕ) × (by ≡ Application key) × Cancels d key n

-- One pool is reached from another by events that this causes.
pub record Reaches (by : Cause) (old new : Pool) : Type 0 where
  pub events : List Event
  pub are : pool_after old events ≡ new
  pub caused : Each (Causes by) events

-- It is reached from a new one by events.
abbrev pub IsReached : Pool → Type 0
IsReached d = (sharing : Sharing) × (events : List Event) × (pool_after (new_pool sharing) events ≡ d)

-- Wherever a pool was reached from, this one is.
abbrev pub LedTo : Cause → Pool → Pool → Type 0
LedTo by old new = (from : Pool) → Reaches by from old → Reaches by from new

-- The same, whoever caused it.
abbrev pub LedOn : Pool → Pool → Type 0
LedOn old new = (by : Cause) → LedTo by old new

-- An application let its connection go first, or waits no more.
abbrev pub Leaving : ℕ → Pool → Pool → Type 0
Leaving key old new = (gives : Bool) × (way : Way) × LedOn (turn old (Leaves key gives way)).pool new

abbrev pub lost_by : Service → ℕ → Service
lost_by s number = (step {T = Token} s (calls.Lost number)).service

abbrev pub is_sent : Way → Bool
is_sent (Sent put finish) = true
is_sent _ = false

-- Whoever waits first was lent a connection; or nobody waits, or as many are in use as may be.
abbrev pub IsServed : List ℕ → Service → Type 0
IsServed [] s = Unit {0}
IsServed (key ∷ others) s = (step {T = Token} s calls.Lease).reply ≡ AllInUse

abbrev pub Serving : Pool → Option Served → Type 0
Serving d None = IsServed d.line d.service
Serving d (Some served) =
    (others : List ℕ) × (d.line ≡ served.hold.key ∷ others)
    × ((step {T = Token} d.service calls.Lease).reply ≡ Lent served.hold.lease served.hold.number served.had)

-- The part that a packet's data are, by where its connection's parser stands.
abbrev pub part_on : Option Parser → List ℕ → Bool → Part Token
part_on None bytes ends = record { items = []; close = parts.Goes }
part_on (Some r) bytes ends = packet_part r bytes ends
