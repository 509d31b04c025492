-- Servers behind a relay: what each request does in the session that it finds, and what a server's end of a connection has still to say.
use Rattle.std.specs.Prelude.{◌≡◌, ℕ, ◌==◌, not, Bool, true, false, List, [], ◌∷◌, ◌++◌, filter, length, take, drop, nat_lt, Option, Some, None, if◌then◌else◌}
use Rattle.tds_packet.specs.declared.status.Reset.{Reset}
use Rattle.tds_token.specs.declared.env_change.EnvChange.TheVariants as changes
use Rattle.tds_client.specs.declared.sign.Sign.{Sign}
use Rattle.tds_client.specs.declared.sign.Sign.TheVariants as signs
use Rattle.tds_wire.specs.declared.told.Token.{Token}
use Rattle.tds_service.specs.Parts.{Item}
use Rattle.tds_service.specs.Line.{Packet, OfRequest, Ignore, Attention}
use Rattle.tds_service.specs.History.{Done}
use Rattle.tds_service.specs.Service.{Service, on, steps}
use Rattle.laws_conforming_server.specs.Lawful.{Session, reset_by}
use Rattle.tds_relay.specs.Pool as pool
use Rattle.tds_relay.specs.Pool.{Pool, Event, Sharing, PoolTurn, new_pool, turn}

-- What a request is answered, and the session that it leaves.
pub record Served (V : Type 0) : Type 0 where
  pub items : List (Item Token)
  pub after : Session V

-- A request is what it does in the session that it finds. Each has a function of its own: chance, time, and what others write may be in it.
abbrev pub Request : Type 0 → Type 0
Request V = Session V → Served V

-- All but the news of a reset (MS-TDS 2.2.7.9, type 18).
abbrev pub is_news : Sign → Bool
is_news (signs.Change changes.ResetDone) = true
is_news _ = false

abbrev pub but_news : List (Item Token) → List (Item Token)
but_news items = filter (λ (item : Item Token). not (is_news item.sign)) items

-- The settings behind a login and behind a reset; and where the news of a reset stands in an answer: anywhere.
pub record Server (V : Type 0) : Type 0 where
  pub settings : V
  pub with_news : Reset → List (Item Token) → List (Item Token)
  pub news_only : (reset : Reset) (items : List (Item Token)) → but_news (with_news reset items) ≡ but_news items

abbrev pub fresh : {V : Type 0} → Server V → Session V
fresh server = record { transaction = 0; settings = server.settings }

-- ---- What an application asks, and a server of its own answers

-- A request; a reset, which is done with the next one; a stop of an answer, behind so many tokens, and the session that is found then; or
-- an end amid an answer, behind so many: who comes next begins anew.
pub data ServerAsk (V : Type 0) : Type 0 where
  Runs : (request : Request V) → ServerAsk V
  Resets : (reset : Reset) → ServerAsk V
  Stops : (count : ℕ) → ServerAsk V
  Finds : (session : Session V) → ServerAsk V
  Ends : (count : ℕ) → ServerAsk V

-- What is answered by one that has this answer still to give, and is in this session.
abbrev pub answers_alone : {V : Type 0} → Server V → List (Item Token) → Session V → List (ServerAsk V) → List (Item Token)
answers_alone server answer s [] = answer
answers_alone server answer s (Runs request ∷ asks) = answer ++ answers_alone server (but_news (request s).items) (request s).after asks
answers_alone server answer s (Resets reset ∷ asks) = answer ++ answers_alone server [] (reset_by server.settings reset s) asks
answers_alone server answer s (Stops count ∷ asks) = take count answer ++ answers_alone server [] s asks
answers_alone server answer s (Finds session ∷ asks) = answer ++ answers_alone server [] session asks
answers_alone server answer s (Ends count ∷ asks) = take count answer ++ answers_alone server [] (fresh server) asks

-- ---- The server's end of a connection

-- Its session; the reset that the request which comes asks for; and what is still to be said of the answer.
pub record ServerEnd (V : Type 0) : Type 0 where
  pub session : Session V
  pub reset : Option Reset
  pub due : List (Item Token)

abbrev pub new_end : {V : Type 0} → Server V → ServerEnd V
new_end server = record { session = fresh server; reset = None; due = [] }

-- Where a reset is asked for it is done first, and told (MS-TDS 2.2.3.1.2).
abbrev pub reset_if : {V : Type 0} → Server V → Option Reset → Session V → Session V
reset_if server None s = s
reset_if server (Some reset) s = reset_by server.settings reset s

abbrev pub told_if : {V : Type 0} → Server V → Option Reset → List (Item Token) → List (Item Token)
told_if server None items = items
told_if server (Some reset) items = server.with_news reset items

abbrev pub server_serves : {V : Type 0} → Server V → Request V → Option Reset → Session V → ServerEnd V
server_serves server request reset s = record {
  session = (request (reset_if server reset s)).after;
  reset = None;
  due = told_if server reset (request (reset_if server reset s)).items;
}

-- What happens at the pool; what the request does whose last packet goes out in it, an application's or a cleaning's; and the session
-- that an attention leaves which goes out in it: any.
pub record Moment (V : Type 0) : Type 0 where
  pub event : Event
  pub request : Request V
  pub left : Session V

abbrev pub takes : {V : Type 0} → Server V → Moment V → Packet → ServerEnd V → ServerEnd V
takes server m (OfRequest request first reset false) e =
    record { session = e.session; reset = if first then reset else e.reset; due = e.due }
takes server m (OfRequest request first reset true) e = server_serves server m.request (if first then reset else e.reset) e.session
takes server m (Ignore request) e = record { session = e.session; reset = None; due = e.due }
takes server m Attention e = record { session = m.left; reset = None; due = [] }

abbrev pub takes_all : {V : Type 0} → Server V → Moment V → List Packet → ServerEnd V → ServerEnd V
takes_all server m [] e = e
takes_all server m (packet ∷ packets) e = takes_all server m packets (takes server m packet e)

-- Behind a login: one whose number wasn't given before.
abbrev pub logged_in : {V : Type 0} → Server V → Service → ℕ → ServerEnd V → ServerEnd V
logged_in server s n e = if nat_lt s.last n then new_end server else e

-- What came was said.
abbrev pub said : {V : Type 0} → ℕ → Event → ServerEnd V → ServerEnd V
said n (pool.Comes number part way) e =
    record { session = e.session; reset = e.reset; due = if number == n then drop (length part.items) e.due else e.due }
said n event e = e

-- ---- A pool, with a server's end of each connection, by its number

pub record World (V : Type 0) : Type 0 where
  pub pool : Pool
  pub ends : ℕ → ServerEnd V

abbrev pub new_world : {V : Type 0} → Server V → Sharing → World V
new_world server sharing = record { pool = new_pool sharing; ends = λ n. new_end server }

abbrev pub packets_in : List (Done Token) → List Packet
packets_in [] = []
packets_in (d ∷ ds) = d.sent ++ packets_in ds

-- What goes out on a connection. What a pool does is a parameter, so that other pools can be tried.
abbrev pub goes_out : (Pool → Event → PoolTurn) → Pool → Event → ℕ → List Packet
goes_out turns d event n = packets_in (on n (steps d.service (turns d event).calls))

abbrev pub happens : {V : Type 0} → (Pool → Event → PoolTurn) → Server V → World V → Moment V → World V
happens turns server w m = record {
  pool = (turns w.pool m.event).pool;
  ends = λ n. takes_all server m (goes_out turns w.pool m.event n) (said n m.event (logged_in server w.pool.service n (w.ends n)));
}

abbrev pub world_after : {V : Type 0} → (Pool → Event → PoolTurn) → Server V → World V → List (Moment V) → World V
world_after turns server w [] = w
world_after turns server w (m ∷ ms) = world_after turns server (happens turns server w m) ms

-- Where a relay comes by these.
abbrev pub reached : {V : Type 0} → Server V → Sharing → List (Moment V) → World V
reached server sharing ms = world_after turn server (new_world server sharing) ms
