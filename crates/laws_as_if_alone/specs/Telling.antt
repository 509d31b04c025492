-- A server that tells all: where what it was asked and what it told let its session rest, that is as a reset would make it.
use Rattle.std.specs.Prelude.{◌≡◌, ℕ, Bool, true, false, List, [], ◌∷◌, ◌++◌, map, nat_lt, Option, None, if◌then◌else◌}
use Rattle.tds_packet.specs.declared.status.Reset.{Reset}
use Rattle.tds_service.specs.Line.{Packet, OfRequest, Ignore, Attention}
use Rattle.tds_service.specs.Service.{Seat, Service}
use Rattle.laws_conforming_server.specs.Lawful.{Session}
use Rattle.tds_relay.specs.declared.pool.Hold.{Hold}
use Rattle.tds_relay.specs.Pool as pool
use Rattle.tds_relay.specs.Pool.{Pool, Event, PoolTurn, Way}
use Rattle.tds_state.specs.declared.asked.Request as asked
use Rattle.tds_state.specs.Pasts.{Remark, Begins, Goes, Cancels, session_said}
use Rattle.tds_state.specs.Sessions.{session_rests}
use Rattle.laws_as_if_alone.specs.Alone.{IsAtRest}
use Rattle.laws_as_if_alone.specs.Serving.{ServerEnd, Moment, Request, Server, World, fresh, goes_out, happens, logged_in, reset_if, said, takes}

-- ---- What was asked on a connection, and what its server told there, as a tracker hears it (remarks, the newest first)

-- A request: its type, its body, what it does, and what its whole answer tells, by the session that it finds behind its reset.
pub record Spoken (V : Type 0) : Type 0 where
  pub kind : asked.Request
  pub body : List ℕ
  pub does : Request V
  pub tells : Option Reset → Session V → List Remark

pub data RoundTrip (V : Type 0) : Type 0 where
  -- a request that asks for this reset, and its answer
  Runs : Spoken V → Option Reset → RoundTrip V
  -- one that is taken back while it is being sent: it isn't run
  Drops : Spoken V → Option Reset → RoundTrip V
  -- an attention: what the newest request's answer told before, and what is told up to its acknowledgement; and the session that it leaves
  Stops : (before behind : List Remark) → Session V → RoundTrip V

-- the session that such exchanges leave, the newest first
abbrev pub session_left : {V : Type 0} → Server V → List (RoundTrip V) → Session V
session_left server [] = fresh server
session_left server (Runs spoken reset ∷ es) = (spoken.does (reset_if server reset (session_left server es))).after
session_left server (Drops spoken reset ∷ es) = session_left server es
session_left server (Stops before behind left ∷ es) = left

-- what was said in them; and up to the newest request alone, without its answer
pub record Saying : Type 0 where
  pub all : List Remark
  pub asked : List Remark

abbrev pub asked_remarks : {V : Type 0} → Spoken V → Option Reset → List Remark → List Remark
asked_remarks spoken reset past = Goes spoken.body ∷ Begins spoken.kind reset ∷ past

abbrev pub with_answer : List Remark → List Remark → Saying
with_answer told asked = record { all = told ++ asked; asked = asked }

abbrev pub ending_in : List Remark → Saying
ending_in past = record { all = past; asked = past }

-- `login` is what the login's answer told
abbrev pub saying_of : {V : Type 0} → Server V → List Remark → List (RoundTrip V) → Saying
saying_of server login [] = ending_in login
saying_of server login (Runs spoken reset ∷ es) =
    with_answer (spoken.tells reset (reset_if server reset (session_left server es))) (asked_remarks spoken reset (saying_of server login es).all)
saying_of server login (Drops spoken reset ∷ es) = ending_in (Cancels ∷ asked_remarks spoken reset (saying_of server login es).all)
saying_of server login (Stops before behind left ∷ es) = ending_in (behind ++ Cancels ∷ before ++ (saying_of server login es).asked)

-- ---- A server that tells all

-- a tracker lets the session rest (`tds_state` says, line by line, where it does)
abbrev pub lets_rest : List Remark → Bool
lets_rest past = session_rests (session_said past)

-- Of whatever may be exchanged with it since a login (`may`): where that lets the session rest, it is as the login made it, and so as a full reset
-- makes it.
pub record TellsAll {V E : Type 0} (server : Server V) (login : List Remark) (may : E → List (RoundTrip V)) : Type 0 where
  pub all : (e : E) → lets_rest (saying_of server login (may e)).all ≡ true → session_left server (may e) ≡ fresh server

-- ---- The same along a relay's moments

-- A moment, with what is asked and told in it: of the request whose last packet goes out in it, or that is taken back, and of an attention.
pub record Remarked (V : Type 0) : Type 0 where
  pub event : Event
  pub spoken : Spoken V
  pub before : List Remark
  pub behind : List Remark
  pub left : Session V

abbrev pub moment_of : {V : Type 0} → Remarked V → Moment V
moment_of t = record { event = t.event; request = t.spoken.does; left = t.left }

abbrev pub moments_of : {V : Type 0} → List (Remarked V) → List (Moment V)
moments_of {V} ts = map (λ (t : Remarked V). moment_of t) ts

-- A server's end of a connection, with what was trips there.
pub record RemarkedEnd (V : Type 0) : Type 0 where
  pub end : ServerEnd V
  pub trips : List (RoundTrip V)

abbrev pub trips_in : {V : Type 0} → Remarked V → Packet → Option Reset → List (RoundTrip V) → List (RoundTrip V)
trips_in t (OfRequest request first reset false) owed es = es
trips_in t (OfRequest request first reset true) owed es = Runs t.spoken (if first then reset else owed) ∷ es
trips_in t (Ignore request) owed es = Drops t.spoken owed ∷ es
trips_in t Attention owed es = Stops t.before t.behind t.left ∷ es

abbrev pub hears_all : {V : Type 0} → Server V → Remarked V → List Packet → RemarkedEnd V → RemarkedEnd V
hears_all server t [] told = told
hears_all server t (packet ∷ packets) told =
    hears_all server t packets (record { end = takes server (moment_of t) packet told.end; trips = trips_in t packet told.end.reset told.trips })

-- on each connection, by its number: one that logs in begins anew
abbrev pub RoundTrips : Type 0 → Type 0
RoundTrips V = ℕ → List (RoundTrip V)

abbrev pub since_login : {V : Type 0} → Service → ℕ → List (RoundTrip V) → List (RoundTrip V)
since_login s n es = if nat_lt s.last n then [] else es

abbrev pub told_before : {V : Type 0} → Server V → World V → RoundTrips V → Remarked V → ℕ → RemarkedEnd V
told_before server w x t n = record { end = said n t.event (logged_in server w.pool.service n (w.ends n)); trips = since_login w.pool.service n (x n) }

abbrev pub trips_after : {V : Type 0} → (Pool → Event → PoolTurn) → Server V → World V → RoundTrips V → Remarked V → RoundTrips V
trips_after turns server w x t = λ n. (hears_all server t (goes_out turns w.pool t.event n) (told_before server w x t n)).trips

abbrev pub all_trips_after : {V : Type 0} → (Pool → Event → PoolTurn) → Server V → World V → RoundTrips V → List (Remarked V) → RoundTrips V
all_trips_after turns server w x [] = x
all_trips_after turns server w x (t ∷ ts) = all_trips_after turns server (happens turns server w (moment_of t)) (trips_after turns server w x t) ts

abbrev pub no_trips : {V : Type 0} → RoundTrips V
no_trips = λ n. []

-- It lets its connection go, on which it asks nothing, where that rests by what was trips there.
pub record IsParkedAtRest {V E : Type 0} (key : ℕ) (server : Server V) (login : List Remark) (may : E → List (RoundTrip V)) (w : World V) (x : RoundTrips V) (event : Event) : Type 0 where
  pub gives : Bool
  pub way : Way
  pub leaves : event ≡ pool.Leaves key gives way
  pub hold : Hold
  pub seat : Seat
  pub rests : IsAtRest key w.pool hold seat
  pub unmarked : seat.line.heard.mark ≡ None
  pub since : E
  pub there : x hold.number ≡ may since
  pub told : lets_rest (saying_of server login (may since)).all ≡ true

-- So it is in each moment in which it is parked.
abbrev pub AllParkedAtRest : {V E : Type 0} → (Moment V → Bool) → (Pool → Event → PoolTurn) → ℕ → Server V → List Remark → (E → List (RoundTrip V)) → World V → RoundTrips V → List (Remarked V) → Type 0
AllParkedAtRest parks turns key server login may w x [] = Unit {0}
AllParkedAtRest parks turns key server login may w x (t ∷ ts) =
    (parks (moment_of t) ≡ true → IsParkedAtRest key server login may w x t.event)
    × AllParkedAtRest parks turns key server login may (happens turns server w (moment_of t)) (trips_after turns server w x t) ts
