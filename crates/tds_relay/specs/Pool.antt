-- Who holds which connection of a service, who waits for one, and which calls of the service are
-- made. One total function.
use Rattle.std.specs.Prelude.{ℕ, suc, ◌+◌, ◌-◌, ◌^◌, min, ◌==◌, not, Bool, true, false, List, [], ◌∷◌, ◌++◌, filter, Option, Some, None, is_some, if◌then◌else◌}
use Rattle.tds_wire.specs.declared.told.Token.{Token}
use Rattle.tds_service.specs.Parts.{Part}
use Rattle.tds_listen.specs.declared.fault.ListenFault.{ListenFault}
use Rattle.tds_relay.specs.declared.pool.Figures.{Figures}
use Rattle.tds_relay.specs.declared.pool.Hold.{Hold}
use Rattle.tds_relay.specs.declared.pool.Mode.{Mode}
use Rattle.tds_relay.specs.declared.fault.Broken.{Broken}
use Rattle.tds_service.specs.Line as line
use Rattle.tds_service.specs.History.{Done}
use Rattle.tds_service.specs.Service as calls
use Rattle.tds_service.specs.Service.{Seat, Service, Call, Reply, ServiceStep, Unknown, AllInUse, NotNow, No, NoMemory, Lent, Ticket, Did, Back, Place, Leased, Cleaning, Kept, Free, Draining, step, service_after, new_service, lease_at, seat_numbered}

-- For how long an application keeps what it is lent; which one holds which connection, by which
-- lease; whose requests wait for one, the first one first; which connection was the last that broke
-- the rules, and how; and how much was asked of the server for applications.
pub record Pool : Type 0 where
  pub mode : Mode
  pub service : Service
  pub holds : List Hold
  pub line : List ℕ
  pub broken : Option Broken
  pub figures : Figures

-- How connections are shared: at most so many, and for how long each is lent.
pub record Sharing : Type 0 where
  pub most : ℕ
  pub mode : Mode

abbrev pub new_pool : Sharing → Pool
new_pool sharing = record {
  mode = sharing.mode;
  service = calls.new_service sharing.most;
  holds = [];
  line = [];
  broken = None;
  figures = record { requests = 0; cancels = 0 };
}

-- How far a cleaning came: it was sent, in so many packets; or memory was refused to its first,
-- second, third or fourth call.
pub data Way : Type 0 where
  Sent : (put finish : ℕ) → Way
  NotLent : Way
  NotAsked : Way
  NotPut : Way
  NotEnded : (put : ℕ) → Way

-- What an application does with its connection: a request is asked, goes out, ends, is cancelled.
pub data Action : Type 0 where
  Asks : Action
  Puts : (count : ℕ) → Action
  Ends : (count : ℕ) → Action
  Stops : Action

pub data Event : Type 0 where
  -- an application's request waits for a connection; waits no more
  Waits : (key : ℕ) → Event
  Unwaits : (key : ℕ) → Event
  -- whoever waits first is lent one, if there is one
  Serves : Event
  -- one comes that nobody asked for
  Brings : (gives : Bool) (way : Way) → Event
  Does : (key : ℕ) (action : Action) → Event
  -- an application lets its connection go, to which memory was given or refused; keeps it with its
  -- transaction
  Leaves : (key : ℕ) (gives : Bool) (way : Way) → Event
  Renews : (key : ℕ) (resumes : Bool) → Event
  -- a packet comes on a connection
  Comes : (number : ℕ) (part : Part Token) (way : Way) → Event
  Loses : (number : ℕ) → Event

-- What is left behind an event, and the calls of the service that were made.
pub record PoolTurn : Type 0 where
  pub pool : Pool
  pub calls : List (Call Token)

-- ---- Who holds what

abbrev pub find_key : ℕ → List Hold → Option Hold
find_key key [] = None
find_key key (h ∷ hs) = if h.key == key then Some h else find_key key hs

abbrev pub find_lease : ℕ → List Hold → Option Hold
find_lease lease [] = None
find_lease lease (h ∷ hs) = if h.lease == lease then Some h else find_lease lease hs

abbrev pub find_number : ℕ → List Hold → Option Hold
find_number number [] = None
find_number number (h ∷ hs) = if h.number == number then Some h else find_number number hs

abbrev pub without_lease : ℕ → List Hold → List Hold
without_lease lease hs = filter (λ (h : Hold). not (h.lease == lease)) hs

abbrev pub without_number : ℕ → List Hold → List Hold
without_number number hs = filter (λ (h : Hold). not (h.number == number)) hs

abbrev pub without : ℕ → List ℕ → List ℕ
without key keys = filter (λ (k : ℕ). not (k == key)) keys

abbrev pub holding : ℕ → ℕ → ℕ → Hold
holding key lease number = record { key = key; lease = lease; number = number }

abbrev pub moves : Pool → List Hold → List ℕ → List (Call Token) → PoolTurn
moves d holds line calls = record {
  pool = record d { service = service_after d.service calls; holds = holds; line = line };
  calls = calls;
}

abbrev pub pool_rests : Pool → PoolTurn
pool_rests d = moves d d.holds d.line []

-- ---- A connection that nobody holds is cleaned: by a request of the relay's own, with a reset

-- the cleaning of a connection by a lease; where a call of it is refused, the connection is closed
abbrev pub cleaning_by : ℕ → ℕ → Way → List (Call Token)
cleaning_by number lease (Sent put finish) =
    calls.Clean number ∷ calls.Ask lease ∷ calls.Put lease put ∷ calls.Finish lease finish ∷ []
cleaning_by number lease NotLent = calls.Lost number ∷ []
cleaning_by number lease NotAsked = calls.Clean number ∷ calls.Lost number ∷ []
cleaning_by number lease NotPut = calls.Clean number ∷ calls.Ask lease ∷ calls.Lost number ∷ []
cleaning_by number lease (NotEnded put) =
    calls.Clean number ∷ calls.Ask lease ∷ calls.Put lease put ∷ calls.Lost number ∷ []

abbrev pub cleaning : Service → ℕ → Way → List (Call Token)
cleaning s number way = cleaning_by number (suc s.given) way

-- whether a reply says that the connection is free now
abbrev pub is_free_at : Option Place → Bool
is_free_at None = false
is_free_at (Some place) = calls.is_free place

abbrev pub frees : Reply → Bool
frees (Back place) = is_free_at place
frees _ = false

-- A lease is given back, by which what is underway is cancelled; a connection that is free then is
-- cleaned at once. Where memory is refused to that, it is closed.
abbrev pub releasing : Service → ℕ → ℕ → Bool → Way → List (Call Token)
releasing s lease number false way = calls.Lost number ∷ []
releasing s lease number true way =
    let given = step {T = Token} s (calls.GiveBack lease) in
    calls.GiveBack lease ∷ (if frees given.reply then cleaning given.service number way else [])

-- ---- What comes

-- A request has its answer, or a cancel is acknowledged: an application's; a cleaning's, and a
-- connection that isn't clean is closed; or nobody's, and then it has drained.
abbrev pub cleaned_by : Service → ℕ → ℕ → List (Call Token)
cleaned_by s number lease =
    calls.Cleaned lease ∷
    (if frees (step {T = Token} s (calls.Cleaned lease)).reply
    then [] else calls.Lost number ∷ [])

abbrev pub settles_of : Service → ℕ → ℕ → Way → Option Hold → List (Call Token)
settles_of s number lease way (Some h) = []
settles_of s number lease way None = cleaned_by s number lease

abbrev pub settles : List Hold → Service → ℕ → Way → Option ℕ → List (Call Token)
settles holds s number way (Some lease) = settles_of s number lease way (find_lease lease holds)
settles holds s number way None = cleaning s number way

-- What was heard of a packet.
pub data Hearing : Type 0 where
  Goes : Hearing
  Settled : Hearing
  Wrong : Hearing

abbrev pub hearing_of : line.Answer → Hearing
hearing_of (line.Finished request) = Settled
hearing_of (line.Acked request) = Settled
hearing_of (line.Fault fault) = Wrong
hearing_of line.Lost = Wrong
hearing_of _ = Goes

abbrev pub hearing : List (Done Token) → Hearing
hearing [] = Goes
hearing (done ∷ dones) = hearing_of done.answer

abbrev pub comes_by : Pool → calls.Call Token → Service → ℕ → Way → Option ℕ → Hearing → PoolTurn
comes_by d call s number way lease Goes = moves d d.holds d.line (call ∷ [])
comes_by d call s number way lease Settled =
    moves d d.holds d.line (call ∷ settles d.holds s number way lease)
comes_by d call s number way lease Wrong =
    moves d (without_number number d.holds) d.line (call ∷ calls.Lost number ∷ [])

-- The connection of this number has broken the rules by that, or not.
abbrev pub broken_of : ℕ → line.Answer → Option Broken → Option Broken
broken_of number (line.Fault fault) had = Some (record { number = number; fault = fault })
broken_of number answer had = had

abbrev pub last_broken : ℕ → List (Done Token) → Option Broken → Option Broken
last_broken number [] had = had
last_broken number (done ∷ dones) had = broken_of number done.answer had

abbrev pub with_broken : ℕ → List (Done Token) → PoolTurn → PoolTurn
with_broken number dones t =
    record t { pool = record t.pool { broken = last_broken number dones t.pool.broken } }

abbrev pub packet_comes : Pool → ℕ → Part Token → Way → PoolTurn
packet_comes d number part way =
    let heard = step {T = Token} d.service (calls.Came number part) in
    with_broken number heard.dones (comes_by d (calls.Came number part) heard.service number way
    (lease_at (seat_numbered number d.service.seats)) (hearing heard.dones))

-- how it broke them
abbrev pub fault_among : ℕ → Option Broken → Option ListenFault
fault_among number None = None
fault_among number (Some b) = if b.number == number then Some b.fault else None

abbrev pub fault_on : ℕ → Pool → Option ListenFault
fault_on number d = fault_among number d.broken

-- To whom a packet that comes on a connection is handed: the application that holds it.
abbrev pub key_of : Option Hold → Option ℕ
key_of None = None
key_of (Some h) = Some h.key

abbrev pub whose_by : Option ℕ → List Hold → Option ℕ
whose_by None holds = None
whose_by (Some lease) holds = key_of (find_lease lease holds)

abbrev pub whose : Pool → ℕ → Option ℕ
whose d number = whose_by (lease_at (seat_numbered number d.service.seats)) d.holds

-- whether the news of a reset is still to come on a connection
abbrev pub owes_of : Option Seat → Bool
owes_of None = false
owes_of (Some c) = is_some c.line.heard.mark

abbrev pub owes_reset : ℕ → Pool → Bool
owes_reset number d = owes_of (seat_numbered number d.service.seats)

-- ---- What applications do

pub record Loan : Type 0 where
  pub lease : ℕ
  pub number : ℕ

abbrev pub lent_in : Reply → Option Loan
lent_in (Lent lease number had) = Some (record { lease = lease; number = number })
lent_in _ = None

abbrev pub ticket_in : Reply → Option ℕ
ticket_in (Ticket ticket) = Some ticket
ticket_in _ = None

abbrev pub serves_by : Pool → ℕ → List ℕ → Option Loan → PoolTurn
serves_by d key others None = pool_rests d
serves_by d key others (Some lent) =
    moves d (d.holds ++ holding key lent.lease lent.number ∷ []) others (calls.Lease ∷ [])

abbrev pub serves : Pool → List ℕ → PoolTurn
serves d [] = pool_rests d
serves d (key ∷ others) =
    serves_by d key others (lent_in (step {T = Token} d.service calls.Lease).reply)

abbrev pub brings_by : Pool → Service → Bool → Way → Option Loan → PoolTurn
brings_by d s gives way None = pool_rests d
brings_by d s gives way (Some lent) =
    moves d d.holds d.line (calls.Lease ∷ releasing s lent.lease lent.number gives way)

abbrev pub brings : Pool → Bool → Way → PoolTurn
brings d gives way =
    let lent = step {T = Token} d.service calls.Lease in
    brings_by d lent.service gives way (lent_in lent.reply)

abbrev pub call_of : ℕ → Action → Call Token
call_of lease Asks = calls.Ask lease
call_of lease (Puts count) = calls.Put lease count
call_of lease (Ends count) = calls.Finish lease count
call_of lease Stops = calls.Cancel lease

-- one more, as far as it is counted
abbrev pub next : ℕ → ℕ
next n = min (n + 1) (2 ^ 64 - 1)

-- A request is counted that its connection was asked, and an attention that goes out for one.
abbrev pub tallied : line.Answer → Figures → Figures
tallied (line.Asked request descriptor) f =
    record { requests = next f.requests; cancels = f.cancels }
tallied (line.Stopped request) f = record { requests = f.requests; cancels = next f.cancels }
tallied answer f = f

abbrev pub tallied_by : List (Done Token) → Figures → Figures
tallied_by [] f = f
tallied_by (done ∷ dones) f = tallied done.answer f

abbrev pub figures_behind : Action → List (Done Token) → Figures → Figures
figures_behind Asks dones f = tallied_by dones f
figures_behind (Puts count) dones f = f
figures_behind (Ends count) dones f = f
figures_behind Stops dones f = tallied_by dones f

abbrev pub with_figures : Figures → PoolTurn → PoolTurn
with_figures f t = record { pool = record t.pool { figures = f }; calls = t.calls }

abbrev pub holder_does : Pool → Action → Option Hold → PoolTurn
holder_does d action None = pool_rests d
holder_does d action (Some h) =
    with_figures
    (figures_behind action (step {T = Token} d.service (call_of h.lease action)).dones d.figures)
    (moves d d.holds d.line (call_of h.lease action ∷ []))

abbrev pub leaves : Pool → ℕ → Bool → Way → Option Hold → PoolTurn
leaves d key gives way None = moves d d.holds (without key d.line) []
leaves d key gives way (Some h) =
    moves d (without_lease h.lease d.holds) (without key d.line)
    (releasing d.service h.lease h.number gives way)

-- A connection with an open transaction is lent to the same application by another lease, with a
-- reset that keeps the transaction. Where memory is refused to that, it is closed: but no step of a
-- call that answers Ok is that (`MayDoAlone` of `specs/Core`).
abbrev pub renews_by : Pool → Hold → ℕ → Option Loan → Bool → PoolTurn
renews_by d h ticket lent false =
    moves d (without_number h.number d.holds) d.line (calls.Keep h.lease ∷ calls.Lost h.number ∷ [])
renews_by d h ticket None true =
    moves d (without_number h.number d.holds) d.line (calls.Keep h.lease ∷ calls.Lost h.number ∷ [])
renews_by d h ticket (Some lent) true =
    moves d (without_lease h.lease d.holds ++ holding h.key lent.lease lent.number ∷ []) d.line
    (calls.Keep h.lease ∷ calls.Resume ticket ∷ [])

abbrev pub keeps_by : Pool → Hold → Bool → Service → Option ℕ → PoolTurn
keeps_by d h resumes s None = pool_rests d
keeps_by d h resumes s (Some ticket) =
    renews_by d h ticket (lent_in (step {T = Token} s (calls.Resume ticket)).reply) resumes

abbrev pub renews : Pool → Bool → Option Hold → PoolTurn
renews d resumes None = pool_rests d
renews d resumes (Some h) =
    let kept = step {T = Token} d.service (calls.Keep h.lease) in
    keeps_by d h resumes kept.service (ticket_in kept.reply)

abbrev pub turn : Pool → Event → PoolTurn
turn d (Waits key) = moves d d.holds (d.line ++ key ∷ []) []
turn d (Unwaits key) = moves d d.holds (without key d.line) []
turn d Serves = serves d d.line
turn d (Brings gives way) = brings d gives way
turn d (Does key action) = holder_does d action (find_key key d.holds)
turn d (Leaves key gives way) = leaves d key gives way (find_key key d.holds)
turn d (Renews key resumes) = renews d resumes (find_key key d.holds)
turn d (Comes number part way) = packet_comes d number part way
turn d (Loses number) = moves d (without_number number d.holds) d.line (calls.Lost number ∷ [])

abbrev pub pool_after : Pool → List Event → Pool
pool_after d [] = d
pool_after d (event ∷ events) = pool_after (turn d event).pool events
