-- Who holds which connection, as whoever asks is told; a connection's transaction, and an application's requests; and when it is at rest.
use Rattle.std.specs.Prelude.{◌≢◌, ◌&&◌, ℕ, List, [], not, Bool, true, false, Option, Some, None, IsSome, is_none, option_map}
use Rattle.tds_packet.specs.declared.status.Reset.{Reset}
use Rattle.tds_front.specs.declared.front.Said.{Said}
use Rattle.tds_front.specs.declared.front.Said.TheVariants as said
use Rattle.tds_front.specs.declared.stage.Stage.{Stage}
use Rattle.tds_front.specs.declared.stage.Stage.TheVariants as stages
use Rattle.tds_service.specs.Service as calls
use Rattle.tds_service.specs.Service.{Seat, is_clean, is_open, seat_numbered}
use Rattle.tds_front.specs.declared.fault.FrontFault.{FrontFault}
use Rattle.tds_relay.specs.declared.application.Application.{Application}
use Rattle.tds_relay.specs.declared.state.Asking.{Asking}
use Rattle.tds_relay.specs.declared.state.Asking.TheVariants as asking
use Rattle.tds_relay.specs.declared.state.Request.{Request}
use Rattle.tds_relay.specs.declared.state.Request.TheVariants as requests
use Rattle.tds_relay.specs.declared.state.State.{State}
use Rattle.tds_relay.specs.declared.state.State.TheVariants as states
use Rattle.tds_relay.specs.declared.pool.Hold.{Hold}
use Rattle.tds_relay.specs.declared.pool.Mode.{Mode}
use Rattle.tds_relay.specs.declared.pool.Mode.TheVariants.{Sessions, Transactions}
use Rattle.tds_relay.specs.Pool.{Pool, find_key, find_number, key_of, next}

-- the connection that an application holds
abbrev pub held_by : Pool → ℕ → Option ℕ
held_by d key = option_map (λ (h : Hold). h.number) (find_key key d.holds)

-- It holds one, at whatever stage its end is.
abbrev pub HoldsOne : Pool → ℕ → Stage → Type 0
HoldsOne d key stage = IsSome (find_key key d.holds)

-- the application that holds the connection of this number, and where it is in the service
abbrev pub holder_of_number : Pool → ℕ → Option ℕ
holder_of_number d number = key_of (find_number number d.holds)

abbrev pub seated : Pool → ℕ → Option calls.Place
seated d number = option_map (λ (c : Seat). c.place) (seat_numbered number d.service.seats)

-- whether a transaction is open there that no full reset is about to end
abbrev pub open_on : Pool → ℕ → Option Bool
open_on d number = option_map (λ (c : Seat). is_open c.line.heard.mark c.line.heard.descriptor) (seat_numbered number d.service.seats)

-- how many requests an application has begun
abbrev pub begun_in : Option Application → ℕ
begun_in None = 0
begun_in (Some application) = application.begun

-- with each that its bytes begin there is one more, up to 2^64 - 1
abbrev pub begun_more : Said → ℕ → ℕ
begun_more (said.Begin kind reset) count = next count
begun_more _ count = count

-- ---- What an application is at

-- where a request is, and what is kept of it
abbrev pub request_asking : Request → Asking
request_asking requests.Nothing = asking.Nothing
request_asking (requests.Waits w) = asking.Waits w.kind w.whole
request_asking requests.Goes = asking.Goes

abbrev pub request_held : Request → List ℕ
request_held requests.Nothing = []
request_held (requests.Waits w) = w.held.items
request_held requests.Goes = []

-- nothing more is taken of an application
abbrev pub is_state_over : State → Bool
is_state_over (states.Open o) = false
is_state_over (states.Over why) = true

-- what it did that the protocol doesn't allow, where that is why
abbrev pub state_fault : State → Option FrontFault
state_fault (states.Open o) = None
state_fault (states.Over why) = why

-- where its request is, what is kept of that, and the reset that it asks for, of which it hasn't been told
abbrev pub state_asking : State → Asking
state_asking (states.Open o) = request_asking o.request
state_asking (states.Over why) = asking.Nothing

abbrev pub state_held : State → List ℕ
state_held (states.Open o) = request_held o.request
state_held (states.Over why) = []

abbrev pub state_reset : State → Option Reset
state_reset (states.Open o) = o.reset
state_reset (states.Over why) = None

-- what it took back isn't acknowledged
abbrev pub state_withdrawn : State → Bool
state_withdrawn (states.Open o) = o.is_withdrawn
state_withdrawn (states.Over why) = false

-- one that may ask, and asks nothing
abbrev pub new_state : State
new_state = states.Open (record { request = requests.Nothing; reset = None; is_withdrawn = false })

-- with another request, where it may ask; with another reset that this asks for; and with what it took back acknowledged or not
abbrev pub with_request : Request → State → State
with_request request (states.Open o) = states.Open (record o { request = request })
with_request request (states.Over why) = states.Over why

abbrev pub with_reset : Option Reset → State → State
with_reset reset (states.Open o) = states.Open (record o { reset = reset })
with_reset reset (states.Over why) = states.Over why

abbrev pub with_withdrawn : Bool → State → State
with_withdrawn withdrawn (states.Open o) = states.Open (record o { is_withdrawn = withdrawn })
with_withdrawn withdrawn (states.Over why) = states.Over why

-- So it is of an application.
abbrev pub is_closed : Application → Bool
is_closed a = is_state_over a.state

abbrev pub own_fault : Application → Option FrontFault
own_fault a = state_fault a.state

abbrev pub own_asking : Application → Asking
own_asking a = state_asking a.state

abbrev pub own_held : Application → List ℕ
own_held a = state_held a.state

abbrev pub own_reset : Application → Option Reset
own_reset a = state_reset a.state

abbrev pub took_back : Application → Bool
took_back a = state_withdrawn a.state

-- ---- A connection's transaction

-- No transaction is open on the connection that it holds.
abbrev pub IsClosedOn : Option Hold → Pool → Type 0
IsClosedOn None d = Unit {0}
IsClosedOn (Some hold) d = open_on d hold.number ≢ Some true

abbrev pub HasNoTransaction : Pool → ℕ → Type 0
HasNoTransaction d key = IsClosedOn (find_key key d.holds) d

-- ---- At rest

-- Whether an application may be parked: by transactions.
abbrev pub is_by_transactions : Mode → Bool
is_by_transactions Sessions = false
is_by_transactions Transactions = true

-- Its end asks nothing, took nothing back that the server hasn't acknowledged, and has been told of each reset that it asked for.
abbrev pub is_done_with : Stage → Bool → Option Reset → Bool
is_done_with stages.Quiet withdrawn asks = not withdrawn && is_none asks
is_done_with _ withdrawn asks = false

-- No transaction is open on a connection, and no news of a reset is to come there.
abbrev pub is_clean_of : Option Seat → Bool
is_clean_of None = false
is_clean_of (Some c) = is_clean c.line.heard.mark c.line.heard.descriptor

abbrev pub is_clean_on : ℕ → Pool → Bool
is_clean_on number d = is_clean_of (seat_numbered number d.service.seats)

-- So it is of the connection that an application holds.
abbrev pub holds_clean : Option Hold → Pool → Bool
holds_clean None d = false
holds_clean (Some hold) d = is_clean_on hold.number d
