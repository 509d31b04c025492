-- What a user of a relay is promised, in its own words.
use Rattle.std.specs.Prelude.{◌≡◌, true, ◌⊎◌, ℕ, false, List, [], ◌∷◌, ◌++◌, drop, take, Option, Some, None, if◌then◌else◌, ◌==◌, filter}
use Rattle.tds_packet.specs.declared.status.Reset.{Reset}
use Rattle.tds_packet.specs.declared.status.Reset.TheVariants.{Full, KeepTransaction}
use Rattle.tds_relay.specs.Machine.{after_all}
use Rattle.tds_relay.specs.Taking.{IsDeaf}
use Rattle.tds_relay.specs.Telling.{happens_to, wants}
use Rattle.tds_relay.specs.Reads.{FillsAt, waits_on}
use Rattle.tds_relay.specs.declared.link.Link.{Link}
use Rattle.tds_relay.specs.declared.application.Application.{Application}
use Rattle.tds_relay.specs.declared.pool.Hold.{Hold}
use Rattle.tds_relay.specs.declared.pool.Mode.TheVariants.{Transactions}
use Rattle.tds_front.specs.declared.front.Front.{Front}
use Rattle.tds_front.specs.declared.stage.Stage.TheVariants.{Quiet}
use Rattle.tds_relay.specs.declared.order.Order.{Order}
use Rattle.tds_relay.specs.declared.order.Order.TheVariants as orders
use Rattle.tds_relay.specs.Pool as pool
use Rattle.tds_relay.specs.Pool.{Sharing, Wrong, find_key, hearing, owes_reset, Pool, Event, turn}
use Rattle.tds_relay.specs.Places.{HasNoTransaction, open_on, is_closed}
use Rattle.tds_relay.specs.Giving.{Visit, machine_at_visit, moves_in}
use Rattle.tds_relay.specs.Core.{Core, Move, Does, LetsGo, Loses, Replaces, Comes, Quits, AsksFor, IfOpen, IsHere, Open, dones_of_part, end_at, moved, new_core}
use Rattle.tds_relay.specs.Behind.{events_along}
use Rattle.tds_relay.specs.Promises.{comes_to_wait}

-- ---- (1) What leaves

abbrev pub or_nothing : Option (List ℕ) → List ℕ
or_nothing None = []
or_nothing (Some bytes) = bytes

-- what is to be sent on the connection of this number
abbrev pub waiting_on : ℕ → List Link → List ℕ
waiting_on number ls = or_nothing (waits_on number ls)

-- ---- (2) An application keeps its session: the connection that it holds, by the lease by which it holds it

-- What its request asks for lets it be parted, and nothing of that has gone on.
abbrev pub PartsFor : (Reset → Type 0) → ℕ → Core → Type 0
PartsFor Asks key h = IfOpen IsHere (end_at h.ends key) × (Asks Full ⊎ (Asks KeepTransaction × HasNoTransaction h.pool key))

-- It holds the connection of this number.
abbrev pub HoldsThat : ℕ → ℕ → Core → Type 0
HoldsThat key number h = (hold : Hold) × (find_key key h.pool.holds ≡ Some hold) × (hold.number ≡ number)

-- The only ways in which it may hold that no more: its request asks for a reset that does so, and by one that keeps its transaction it holds
-- the same connection by another lease, where it isn't parted; it has left; or its connection is lost, or says what no server may.
abbrev pub Parts : (Reset → Type 0) → ℕ → Hold → Core → Move → Type 0
Parts Asks key hold h (Does (pool.Renews other resumes)) =
    (other ≡ key) × Asks KeepTransaction × HoldsThat key hold.number (moved h (Does (pool.Renews other resumes)))
Parts Asks key hold h (LetsGo other parks gives way) = (other ≡ key) × PartsFor Asks key h
Parts Asks key hold h (Replaces number) = (number ≡ hold.number) × PartsFor Asks key h
Parts Asks key hold h (Quits other gives way) = other ≡ key
Parts Asks key hold h (Loses number) = number ≡ hold.number
Parts Asks key hold h (Comes number part way) = (number ≡ hold.number) × (hearing (dones_of_part h.pool number part) ≡ Wrong)
Parts Asks key hold h move = ⊥

-- By what the relay has of its end.
abbrev pub KeepsSession : ℕ → Core → Move → Type 0
KeepsSession key h move =
    (hold : Hold) → find_key key h.pool.holds ≡ Some hold
    → (find_key key (moved h move).pool.holds ≡ Some hold) ⊎ Parts (λ reset. AsksFor reset (end_at h.ends key)) key hold h move

-- Connections are shared by transactions, its end asks nothing, took nothing back that the server hasn't acknowledged, and has been told of
-- each reset that it asked for; and on the connection that it holds no transaction is open, and no news of a reset is to come.
pub record Rested (h : Core) (key : ℕ) : Type 0 where
  pub mode : h.pool.mode ≡ Transactions
  pub front : Front
  pub end : end_at h.ends key ≡ Some (Open front false None)
  pub quiet : front.stage ≡ Quiet
  pub hold : Hold
  pub holds : find_key key h.pool.holds ≡ Some hold
  pub closed : open_on h.pool hold.number ≡ Some false
  pub told : owes_reset hold.number h.pool ≡ false

-- It is parked where it rested.
abbrev pub IsParked : ℕ → Core → Move → Type 0
IsParked key h (LetsGo other true gives way) = (other ≡ key) × Rested h key
IsParked key h move = ⊥

-- Or it is parked: that is all.
abbrev pub KeepsTransaction : ℕ → Core → Move → Type 0
KeepsTransaction key h move =
    (hold : Hold) → find_key key h.pool.holds ≡ Some hold
    → (find_key key (moved h move).pool.holds ≡ Some hold) ⊎ (Parts (λ reset. AsksFor reset (end_at h.ends key)) key hold h move ⊎ IsParked key h move)

-- where a visit's steps have led
abbrev pub core_behind : {sharing : Sharing} {key : ℕ} → Visit sharing key → Core
core_behind {sharing} {key} v = (after_all (machine_at_visit v) v.since).core

-- The last request that has begun by its own bytes asks for this reset, and it has neither been told of it nor taken the request back; or it
-- is to be closed.
abbrev pub HasAsked : {sharing : Sharing} {key : ℕ} → Visit sharing key → Reset → Type 0
HasAsked {sharing} {key} v reset = (wants None (happens_to v) ≡ Some reset) ⊎ IsDeaf (end_at (core_behind v).ends key)

abbrev pub KeepsOwn : {sharing : Sharing} {key : ℕ} → Visit sharing key → Move → Type 0
KeepsOwn {sharing} {key} v move =
    (hold : Hold) → find_key key (core_behind v).pool.holds ≡ Some hold
    → (find_key key (moved (core_behind v) move).pool.holds ≡ Some hold) ⊎ Parts (HasAsked v) key hold (core_behind v) move

abbrev pub KeepsOwnOrRests : {sharing : Sharing} {key : ℕ} → Visit sharing key → Move → Type 0
KeepsOwnOrRests {sharing} {key} v move =
    (hold : Hold) → find_key key (core_behind v).pool.holds ≡ Some hold
    → (find_key key (moved (core_behind v) move).pool.holds ≡ Some hold) ⊎ (Parts (HasAsked v) key hold (core_behind v) move ⊎ IsParked key (core_behind v) move)

-- ---- (3) Who is to be closed is ordered closed, once

abbrev pub closing : Option Application → List Order → List Order
closing None all = all
closing (Some a) all = if is_closed a then all else all ++ orders.Close a.tag ∷ []

-- ---- (4) What goes out on a connection, over calls

-- What becomes of what waits on a connection while it is open: a call leaves it there, with more behind it or not; or so many of its first
-- bytes are sent.
pub data Wire : Type 0 where
  Fills : (old new : List ℕ) → FillsAt (Some old) (Some new) → Wire
  Sends : (count : ℕ) → Wire

-- They follow each other, from what waits first to what waits last.
abbrev pub FollowOn : List ℕ → List Wire → List ℕ → Type 0
FollowOn waits [] last = waits ≡ last
FollowOn waits (Fills old new fills ∷ wires) last = (waits ≡ old) × FollowOn new wires last
FollowOn waits (Sends count ∷ wires) last = FollowOn (drop count waits) wires last

-- what is put there in them
abbrev pub put_in : List Wire → List ℕ
put_in [] = []
put_in (Fills old new fills ∷ wires) = fills.0 ++ put_in wires
put_in (Sends count ∷ wires) = put_in wires

-- what is sent in them
abbrev pub went_out : List ℕ → List Wire → List ℕ
went_out waits [] = []
went_out waits (Fills old new fills ∷ wires) = went_out new wires
went_out waits (Sends count ∷ wires) = take count waits ++ went_out (drop count waits) wires

-- ---- Who has nothing at the pool, and where one comes to wait

-- It holds no connection, and waits for none.
pub record IsAway (key : ℕ) (d : Pool) : Type 0 where
  pub holds : find_key key d.holds ≡ None
  pub waits : filter (λ (k : ℕ). k == key) d.line ≡ []

-- Along these events it comes to wait only where it's away.
abbrev pub WaitsAway : ℕ → Pool → List Event → Type 0
WaitsAway key d [] = Unit {0}
WaitsAway key d (event ∷ events) = (comes_to_wait event ≡ key ∷ [] → IsAway key d) × WaitsAway key (turn d event).pool events

-- What is done at the pool before an application comes, and since.
abbrev pub done_before : {sharing : Sharing} {key : ℕ} → Visit sharing key → List Event
done_before {sharing} v = events_along (new_core sharing) (moves_in v.before)

abbrev pub done_since : {sharing : Sharing} {key : ℕ} → Visit sharing key → List Event
done_since v = events_along (machine_at_visit v).core (moves_in v.since)
