-- What whoever asks is told of applications and connections: where they are, what they are called, and how much of them may be read.
use Rattle.std.specs.Prelude.{◌≡◌, ℕ, ◌+◌, ◌-◌, ◌*◌, ◌/◌, min, ◌||◌, Bool, true, false, is_some, List, length, Option, Some, None, option_and_then, option_map, if◌then◌else◌, vec_len, ◌≤◌}
use Rattle.slab.specs.Slab.{get}
use Rattle.tds_front.specs.declared.stage.Stage.{Stage}
use Rattle.tds_front.specs.declared.stage.Stage.TheVariants as stages
use Rattle.tds_service.specs.Service as calls
use Rattle.tds_relay.specs.declared.application.Application.{Application}
use Rattle.tds_relay.specs.declared.state.Asking.{Asking}
use Rattle.tds_relay.specs.declared.state.Asking.TheVariants as asking
use Rattle.tds_relay.specs.declared.link.Link.{Link}
use Rattle.tds_relay.specs.declared.relay.places.Counts.{Counts}
use Rattle.tds_relay.specs.declared.relay.places.Place.{Place}
use Rattle.tds_relay.specs.declared.relay.places.Place.TheVariants.{Quiet, Holding, Waiting, Opening, Asking as Asks, Cancelling, Over}
use Rattle.tds_relay.specs.declared.relay.places.PlaceOn.{PlaceOn}
use Rattle.tds_relay.specs.declared.relay.places.PlaceOn.TheVariants as on
use Rattle.tds_relay.specs.Pool.{Pool, owes_reset}
use Rattle.tds_relay.specs.News.{holds_back}
use Rattle.tds_relay.specs.Places.{held_by, holder_of_number, seated, is_closed, own_asking, own_held, own_reset}
use Rattle.tds_relay.specs.Reads.{link_at, waits_on}
use Rattle.tds_relay.specs.declared.state.TheConstants.{MOST_HELD}
use Rattle.tds_relay.specs.declared.outgoing.TheConstants.{ACKNOWLEDGED, ATTENTION, BESIDE, PIECE}
use Rattle.tds_relay.specs.declared.relay.Relay as code
use Rattle.tds_relay.specs.Ties.{pool_in}
use Rattle.tds_relay.specs.declared.outgoing.Outgoing.{Outgoing}
use Rattle.tds_relay.specs.declared.link.News.{News}

-- ---- How much is kept

-- the bytes that wait to be sent
abbrev pub waiting_in : Outgoing → ℕ
waiting_in o = vec_len o.bytes - o.sent

-- the bytes that wait for an application, and how many may: as many as a packet has, and 32 KB
abbrev pub waiting_for : Option Application → ℕ
waiting_for None = 0
waiting_for (Some a) = waiting_in a.out

abbrev pub most_for : Option Application → ℕ
most_for None = 0
most_for (Some a) = a.out.size + 32768

-- the length of the news of a reset, where this is told
abbrev pub news_length : Bool → ℕ
news_length true = 14
news_length false = 0

-- there is room for a packet so long, which isn't set anew, and for the news of a reset where this is told before it
pub record IsRoom (goes : News) (o : Outgoing) (count : ℕ) : Type 0 where
  pub whole : goes.is_cut ≡ false
  pub room : o.is_full ≡ false
  pub fits : waiting_in o + (news_length goes.is_told + count) ≤ o.size + 32768

-- ---- Where an application is

-- its cancel was handed on, and isn't acknowledged
abbrev pub has_cancelled : Stage → Bool
has_cancelled stages.Stopping = true
has_cancelled _ = false

-- Who holds no connection is waiting while its request waits, and else quiet.
abbrev pub unheld_place : Asking → Place
unheld_place asking.Nothing = Quiet
unheld_place (asking.Waits kind whole) = Waiting
unheld_place asking.Goes = Quiet

-- Who holds the connection of this number is opening while its request waits for that; cancelling while its cancel isn't acknowledged; asking
-- while its request is underway; and else holding.
abbrev pub held_place : ℕ → Bool → Asking → Place
held_place number stops asking.Nothing = if stops then Cancelling number else Holding number
held_place number stops (asking.Waits kind whole) = Opening number
held_place number stops asking.Goes = if stops then Cancelling number else Asks number

-- by what it holds; who is to be closed has no other place
abbrev pub place_with : Option ℕ → Application → Place
place_with None a = if is_closed a then Over else unheld_place (own_asking a)
place_with (Some number) a = if is_closed a then Over else held_place number (has_cancelled a.front.stage) (own_asking a)

abbrev pub told_place : Option ℕ → Option Application → Option Place
told_place held a = option_map (place_with held) a

-- ---- Where a connection is

-- whether it is logged in, if there is one
abbrev pub has_login : ℕ → List Link → Option Bool
has_login number ls = option_map (λ (l : Link). l.is_open) (link_at number ls)

-- One that nobody holds is free where it may be lent, draining while that comes to its end which was cancelled there; and else it is cleaned.
abbrev pub nobodys_place : calls.Place → PlaceOn
nobodys_place (calls.Leased lease) = on.Cleaning
nobodys_place (calls.Cleaning lease) = on.Cleaning
nobodys_place (calls.Kept ticket) = on.Cleaning
nobodys_place calls.Free = on.Free
nobodys_place calls.Draining = on.Draining

-- One that isn't logged in is opening, and then it is with whoever holds it. Nothing is told of one that isn't there.
abbrev pub connection_place : Option Bool → Option ℕ → Option calls.Place → Option PlaceOn
connection_place None held_by seat = None
connection_place (Some false) held_by seat = Some on.Opening
connection_place (Some true) (Some key) seat = Some (on.Held key)
connection_place (Some true) None seat = option_map nobodys_place seat

abbrev pub place_on : Pool → List Link → ℕ → Option PlaceOn
place_on d ls number = connection_place (has_login number ls) (holder_of_number d number) (seated d number)

-- ---- How much of an application may be read, so that all of it fits

-- What it says goes on to the connection that it holds: so much fits there behind these bytes, beside what the relay adds to a request.
abbrev pub room_behind : Option (List ℕ) → ℕ
room_behind None = PIECE
room_behind (Some waits) = (PIECE - length waits) - BESIDE

-- Or it is kept while its request waits: so much more may be, and that fits on a connection where nothing waits.
abbrev pub room_to_keep : Application → ℕ
room_to_keep a = min ((a.out.size + PIECE) - BESIDE) MOST_HELD - length (own_held a)

-- Or they are attentions: the acknowledgements of so many bytes of them fit behind what waits for it (MS-TDS 2.2.1.7, 2.2.7.6).
abbrev pub room_to_answer : Application → ℕ
room_to_answer a = ATTENTION * (((a.out.size + PIECE) - waiting_in a.out) / ACKNOWLEDGED)

-- An attention for what the server has is acknowledged there.
abbrev pub has_server : Stage → Bool
has_server stages.Quiet = false
has_server (stages.Receiving kind gone) = false
has_server (stages.Underway gone) = gone
has_server stages.Stopping = true
has_server (stages.Broken fault) = false

-- As much of it may be read as is kept and answered, and at most a piece;
abbrev pub own_room : Application → ℕ
own_room a = if has_server a.front.stage then min (room_to_keep a) PIECE else min (min (room_to_keep a) PIECE) (room_to_answer a)

-- and as fits where it goes on. Nothing of one that is to be closed, or isn't there.
abbrev pub room_with : Option (List ℕ) → Option Application → ℕ
room_with waits None = 0
room_with waits (Some a) = if is_closed a then 0 else min (room_behind waits) (own_room a)

-- what waits to be sent on the connection that it holds
abbrev pub waits_where : ℕ → code.Relay → Option (List ℕ)
waits_where key r = option_and_then (λ (number : ℕ). waits_on number r.links.items) (held_by (pool_in r.pool) key)

abbrev pub room_at : ℕ → code.Relay → ℕ
room_at key r = room_with (waits_where key r) (get r.applications key)

-- ---- How much of a connection

-- At least so much may be read of one: what fits behind what waits for who holds it, but for the news of a reset and what is set anew.
abbrev pub least_for : Option ℕ → code.Relay → ℕ
least_for None r = PIECE
least_for (Some key) r = (PIECE - waiting_for (get r.applications key)) - BESIDE

-- So much may be: nothing of one that isn't there, and a piece where nobody holds it. Its packets may be set anew, or the news of a reset may go
-- before them, where who holds it asked for one, bytes of a token were held back, or the server owes that news.
abbrev pub may_grow : Application → Link → Bool → Bool
may_grow a l owes = is_some (own_reset a) || (holds_back l.answer.known || owes)

abbrev pub room_beside : Bool → ℕ → ℕ
room_beside grows room = if grows then room - BESIDE else room

abbrev pub room_held : Link → Bool → Option Application → ℕ
room_held l owes None = PIECE
room_held l owes (Some a) = room_beside (may_grow a l owes) (PIECE - waiting_in a.out)

abbrev pub room_for : ℕ → Link → Option ℕ → code.Relay → ℕ
room_for number l None r = PIECE
room_for number l (Some key) r = room_held l (owes_reset number (pool_in r.pool)) (get r.applications key)

abbrev pub room_from : ℕ → Option Link → code.Relay → ℕ
room_from number None r = 0
room_from number (Some l) r = room_for number l (holder_of_number (pool_in r.pool) number) r

abbrev pub room_there : ℕ → code.Relay → ℕ
room_there number r = room_from number (link_at number r.links.items) r

-- ---- What whoever carries their bytes calls them, and whom he is to read again

abbrev pub name_of : Option Application → Option ℕ
name_of a = option_map (λ (it : Application). it.tag) a

-- that of a connection, once there is something
abbrev pub tag_in : Link → Option ℕ
tag_in l = l.tag

abbrev pub name_on : ℕ → List Link → Option ℕ
name_on number ls = option_and_then tag_in (link_at number ls)

-- Where more may wait for an application, the connection that it holds may be read again.
abbrev pub held_name : ℕ → code.Relay → Option ℕ
held_name key r = option_and_then (λ (number : ℕ). name_on number r.links.items) (held_by (pool_in r.pool) key)

-- Where more may wait on a connection, the application that holds it may be read again.
abbrev pub holder_name : ℕ → code.Relay → Option ℕ
holder_name number r = option_and_then (λ (key : ℕ). name_of (get r.applications key)) (holder_of_number (pool_in r.pool) number)

-- There is a connection of this number.
abbrev pub is_there : ℕ → List Link → Bool
is_there number ls = is_some (link_at number ls)

-- ---- What the relay has done, and why it has closed a connection

-- Requests and cancels are the pool's.
abbrev pub counts_in : code.Relay → Counts
counts_in r = record { requests = r.pool.figures.requests; cancels = r.pool.figures.cancels; cleanings = r.cleanings; failed = r.failed }

-- He is told the same, and packets are as long, of which the logins acknowledge the same.
pub record TellsTheSame (old new : code.Relay) : Type 0 where
  pub counts : counts_in new ≡ counts_in old
  pub why : new.refused ≡ old.refused
  pub most : new.most ≡ old.most
  pub size : new.size ≡ old.size
  pub features : new.features ≡ old.features
