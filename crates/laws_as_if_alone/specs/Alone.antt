-- An application behind a relay, beside the same one at a server of its own.
use Rattle.std.specs.Prelude.{◌≡◌, ℕ, ◌+◌, ◌==◌, Bool, true, List, [], ◌∷◌, ◌++◌, filter, is_some, length, Option, Some, None, if◌then◌else◌}
use Rattle.tds_packet.specs.declared.status.Reset.{Reset}
use Rattle.tds_packet.specs.declared.status.Reset.TheVariants.{Full, KeepTransaction}
use Rattle.tds_wire.specs.declared.told.Token.{Token}
use Rattle.tds_service.specs.Parts as parts
use Rattle.tds_service.specs.Parts.{Item, Close, Part}
use Rattle.tds_service.specs.Line as line
use Rattle.tds_service.specs.Line.{Line, LineStage}
use Rattle.tds_service.specs.Service as calls
use Rattle.tds_service.specs.Service.{Leased, Seat, seat_numbered, step}
use Rattle.laws_conforming_server.specs.Lawful.{Session}
use Rattle.tds_relay.specs.declared.pool.Hold.{Hold}
use Rattle.tds_relay.specs.Law.{IsAway}
use Rattle.tds_relay.specs.Pool as pool
use Rattle.tds_relay.specs.Pool.{Action, Pool, Event, Hearing, PoolTurn, find_key, hearing_of, ticket_in, whose}
use Rattle.tds_relay.specs.Promises.{comes_to_wait}
use Rattle.laws_as_if_alone.specs.Serving.{ServerAsk, Runs, Resets, Stops, Finds, Ends, ServerEnd, Moment, Server, World, answers_alone, but_news, happens, reset_if}

-- ---- What an application is given

-- The connection of a number, as a machine; a new one where there is none.
abbrev pub line_at : Option Seat → Line
line_at None = line.new_line
line_at (Some c) = c.line

abbrev pub line_of : Pool → ℕ → Line
line_of d number = line_at (seat_numbered number d.service.seats)

-- What is heard of a packet there; it may be a fault.
abbrev pub heard_of : Line → Part Token → Hearing
heard_of l part = hearing_of (line.line_turn l (line.Come part)).answer

abbrev pub unless_wrong : {X : Type 0} → Hearing → List X → List X → List X
unless_wrong pool.Goes right wrong = right
unless_wrong pool.Settled right wrong = right
unless_wrong pool.Wrong right wrong = wrong

-- Of an answer that it reads. Behind its own cancel what comes up to the acknowledgement isn't counted, nor a packet that is a fault.
abbrev pub given_at : LineStage → List (Item Token) → List (Item Token)
given_at line.Reading items = but_news items
given_at stage items = []

abbrev pub if_its : {X : Type 0} → ℕ → Option ℕ → List X → List X
if_its key None xs = []
if_its key (Some other) xs = if other == key then xs else []

abbrev pub given_in : ℕ → Pool → Event → List (Item Token)
given_in key d (pool.Comes number part way) =
    if_its key (whose d number) (unless_wrong (heard_of (line_of d number) part) (given_at (line_of d number).stage part.items) [])
given_in key d event = []

abbrev pub given : {V : Type 0} → (Pool → Event → PoolTurn) → ℕ → Server V → World V → List (Moment V) → List (Item Token)
given turns key server w [] = []
given turns key server w (m ∷ ms) = given_in key w.pool m.event ++ given turns key server (happens turns server w m) ms

-- What is still to come of an answer that it reads.
abbrev pub underway_by : {V : Type 0} → World V → Option Hold → List (Item Token)
underway_by w None = []
underway_by w (Some h) = given_at (line_of w.pool h.number).stage (w.ends h.number).due

abbrev pub underway : {V : Type 0} → ℕ → World V → List (Item Token)
underway key w = underway_by w (find_key key w.pool.holds)

-- ---- What it asks

-- A request, where it ends one that is being sent; a stop, where it cancels one that is out, behind what it was given so far.
abbrev pub does_at : {V : Type 0} → Moment V → ℕ → Action → LineStage → List (ServerAsk V)
does_at m count (pool.Ends packets) (line.Sending begun) = Runs m.request ∷ []
does_at m count pool.Stops (line.Sending true) = Stops count ∷ []
does_at m count pool.Stops line.Reading = Stops count ∷ []
does_at m count action stage = []

abbrev pub does_by : {V : Type 0} → Pool → Moment V → ℕ → Action → Option Hold → List (ServerAsk V)
does_by d m count action None = []
does_by d m count action (Some h) = does_at m count action (line_of d h.number).stage

-- A reset that keeps the transaction, where its connection can be kept with that; where memory is refused to it, that is closed, as in
-- no visit (`HasMemory`).
abbrev pub keeping_asks_by : {V : Type 0} → Pool → Bool → Option Hold → List (ServerAsk V)
keeping_asks_by d resumes None = []
keeping_asks_by d resumes (Some h) =
    if is_some (ticket_in (step {T = Token} d.service (calls.Keep h.lease)).reply)
    then (if resumes then Resets KeepTransaction ∷ [] else Resets Full ∷ []) else []

-- The session that its next request finds, where its cancel is acknowledged: the one at the server's end, or what the reset makes of it
-- that is owed still.
abbrev pub finds_at : {V : Type 0} → Server V → ServerEnd V → LineStage → Option Reset → List (ServerAsk V)
finds_at server e line.Idle mark = Finds (reset_if server mark e.session) ∷ []
finds_at server e stage mark = []

abbrev pub settles_at : {V : Type 0} → Server V → ServerEnd V → LineStage → Line → List (ServerAsk V)
settles_at server e line.Cancelling l = finds_at server e l.stage l.heard.mark
settles_at server e stage l = []

-- Where it lets its connection go, or that is closed: a full reset, or an end amid an answer.
abbrev pub ends_at : {V : Type 0} → ℕ → LineStage → List (ServerAsk V)
ends_at count line.Reading = Ends count ∷ []
ends_at count stage = Resets Full ∷ []

abbrev pub settles_by : {V : Type 0} → Server V → ServerEnd V → ℕ → Part Token → Line → List (ServerAsk V)
settles_by server e count part l =
    unless_wrong (heard_of l part) (settles_at server e l.stage (line.line_turn l (line.Come part)).line) (ends_at count l.stage)

abbrev pub ends_by : {V : Type 0} → Pool → ℕ → Option Hold → List (ServerAsk V)
ends_by d count None = Resets Full ∷ []
ends_by d count (Some h) = ends_at count (line_of d h.number).stage

abbrev pub asks_at : {V : Type 0} → ℕ → Server V → World V → Moment V → ℕ → Event → List (ServerAsk V)
asks_at key server w m count (pool.Does other action) = if other == key then does_by w.pool m count action (find_key key w.pool.holds) else []
asks_at key server w m count (pool.Leaves other gives way) = if other == key then ends_by w.pool count (find_key key w.pool.holds) else []
asks_at key server w m count (pool.Renews other resumes) = if other == key then keeping_asks_by w.pool resumes (find_key key w.pool.holds) else []
asks_at key server w m count (pool.Comes number part way) =
    if_its key (whose w.pool number) (settles_by server (w.ends number) count part (line_of w.pool number))
asks_at key server w m count (pool.Loses number) = if_its key (whose w.pool number) (ends_at count (line_of w.pool number).stage)
asks_at key server w m count event = []

-- How much it was given since it asked.
abbrev pub count_behind : {V : Type 0} → ℕ → List (ServerAsk V) → List (Item Token) → ℕ
count_behind count [] items = count + length items
count_behind count (ask ∷ asks) items = 0

abbrev pub all_asks : {V : Type 0} → (Pool → Event → PoolTurn) → ℕ → Server V → ℕ → World V → List (Moment V) → List (ServerAsk V)
all_asks turns key server count w [] = []
all_asks turns key server count w (m ∷ ms) =
    asks_at key server w m count m.event
    ++ all_asks turns key server (count_behind count (asks_at key server w m count m.event) (given_in key w.pool m.event)) (happens turns server w m) ms

-- ---- What is supposed

-- What comes of an answer that it reads is what the server there says next, or a fault; a message ends behind its whole answer.
abbrev pub EndsBehind : Close → List (Item Token) → Type 0
EndsBehind parts.Goes others = Unit {0}
EndsBehind parts.Ends others = others ≡ []
EndsBehind parts.Cut others = ⊥
EndsBehind (parts.Fails refusal) others = ⊥

abbrev pub IsNext : Part Token → List (Item Token) → Type 0
IsNext part due = (others : List (Item Token)) × (part.items ++ others ≡ due) × EndsBehind part.close others

abbrev pub IsNextAt : LineStage → Part Token → List (Item Token) → Type 0
IsNextAt line.Reading part due = IsNext part due
IsNextAt stage part due = Unit {0}

abbrev pub IsSaid : {V : Type 0} → ℕ → World V → Event → Type 0
IsSaid key w (pool.Comes number part way) =
    whose w.pool number ≡ Some key → (heard_of (line_of w.pool number) part ≡ pool.Wrong → ⊥)
    → IsNextAt (line_of w.pool number).stage part (w.ends number).due
IsSaid key w event = Unit {0}

-- Besides, it comes to wait only where it's away.
pub record IsOrderly {V : Type 0} (key : ℕ) (w : World V) (m : Moment V) : Type 0 where
  pub waits : comes_to_wait m.event ≡ key ∷ [] → IsAway key w.pool
  pub said : IsSaid key w m.event

-- So it is in each of these moments.
abbrev pub AllOrderly : {V : Type 0} → (Pool → Event → PoolTurn) → ℕ → Server V → World V → List (Moment V) → Type 0
AllOrderly turns key server w [] = Unit {0}
AllOrderly turns key server w (m ∷ ms) = IsOrderly key w m × AllOrderly turns key server (happens turns server w m) ms

-- ---- As if alone

-- What it was given, and what is underway to it, is what a server of its own answers to the same requests and resets, from a session on.
abbrev pub AsIfAlone : {V : Type 0} → (Pool → Event → PoolTurn) → ℕ → Server V → Session V → World V → List (Moment V) → World V → Type 0
AsIfAlone turns key server s w ms behind =
    given turns key server w ms ++ underway key behind ≡ answers_alone server [] s (all_asks turns key server 0 w ms)

-- It holds this connection and no other, doesn't wait, and nothing is asked there.
pub record IsAtRest (key : ℕ) (d : Pool) (h : Hold) (c : Seat) : Type 0 where
  pub holds : filter (λ (x : Hold). x.key == key) d.holds ≡ h ∷ []
  pub waits : filter (λ (k : ℕ). k == key) d.line ≡ []
  pub there : seat_numbered h.number d.service.seats ≡ Some c
  pub lent : c.place ≡ Leased h.lease
  pub idle : c.line.stage ≡ line.Idle

-- The session that its next request finds.
abbrev pub found_next : {V : Type 0} → Server V → World V → Hold → Seat → Session V
found_next server w h c = reset_if server c.line.heard.mark (w.ends h.number).session
