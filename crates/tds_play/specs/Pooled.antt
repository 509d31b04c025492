-- The connections of a play whose clients a pool keeps: each one in its seat, and what leases and tickets
-- stand for.
use Rattle.std.specs.Prelude.{ℕ, suc, ◌≡◌, ◌≢◌, ◌⊎◌, IsSome, ◌≤◌, ◌<◌, List, [], ◌∷◌, map, length, Bool, true, false, Option, Some, None, option_map, slice_get}
use Rattle.tds_client.specs.Session.{new_session}
use Rattle.tds_pool.specs.declared.lease.Lease.{Lease}
use Rattle.tds_pool.specs.declared.lease.Ticket.{Ticket}
use Rattle.tds_pool.specs.declared.lease.Turn.{Turn}
use Rattle.tds_pool.specs.declared.seat.Place.{Place as PoolPlace}
use Rattle.tds_pool.specs.declared.seat.Place.TheVariants as pooled
use Rattle.tds_pool.specs.Calls.{all_numbers, is_held}
use Rattle.tds_pool.specs.Connections as pool
use Rattle.tds_pool.specs.declared.answers.PoolRefusal.{PoolRefusal}
use Rattle.tds_pool.specs.declared.answers.PoolRefusal.TheVariants as refusals
use Rattle.tds_pool.specs.declared.answers.GivenBack.{GivenBack}
use Rattle.tds_pool.specs.declared.answers.GivenBack.TheVariants as given
use Rattle.tds_world.specs.declared.outcome.GiveBackOutcome.{GiveBackOutcome}
use Rattle.tds_world.specs.declared.outcome.GiveBackOutcome.TheVariants as back
use Rattle.tds_world.specs.declared.outcome.Refusal.{Refusal}
use Rattle.tds_world.specs.declared.outcome.Refusal.TheVariants.{NotFree, NotIdle, NothingToKeep}
use Rattle.tds_pool.specs.Cleaning.{client_at}
use Rattle.tds_pool.specs.Connections.{PoolState, SameRest, connections, numbered, taken_out}
use Rattle.tds_world.specs.declared.report.Place.{Place}
use Rattle.tds_world.specs.declared.report.Place.TheVariants.{Draining, Free, Kept, Leased}
use Rattle.tds_world.specs.World as world
use Rattle.tds_play.specs.Seats.{Seat, Seated, seated}
use Rattle.tds_play.specs.declared.seat.Held.{Held}

-- ---- Each connection in its seat

-- Where a connection of the pool stands, in the words of a play: who holds it is the lease or the ticket
-- of this number. One that is being cleaned is free once its answer has come, as one that drains is.
abbrev pub place_by : ℕ → PoolPlace → Place
place_by holder pooled.Leased = Leased holder
place_by holder pooled.Kept = Kept holder
place_by holder pooled.Free = Free
place_by holder pooled.Draining = Draining
place_by holder pooled.Cleaning = Draining

-- The seat of a connection, as the pool has it. One that is cut is in the pool no longer, and its seat
-- means nothing.
abbrev pub seat_by : ℕ → Option pool.Connection → Seat
seat_by holder None = seated Free (new_session 0)
seat_by holder (Some c) = seated (place_by holder c.place) c.client

abbrev pub seated_in : {E S : Type 0} → Held E S → Option pool.Connection → Seated E S
seated_in h c = record { link = h.link; seat = seat_by h.holder c }

-- The connections of a play, the first of which has this number, each in the seat that the pool has for
-- its number.
abbrev pub seated_from : {E S : Type 0} → ℕ → List (Held E S) → List pool.Connection → List (Seated E S)
seated_from number [] pcs = []
seated_from number (h ∷ hs) pcs = seated_in h (numbered number pcs) ∷ seated_from (suc number) hs pcs

abbrev pub all_in : {E S : Type 0} → List (Held E S) → PoolState → List (Seated E S)
all_in hs pool = seated_from 1 hs (connections pool)

-- ---- What is in the pool

abbrev pub number_unless : Bool → ℕ → List ℕ → List ℕ
number_unless true number numbers = numbers
number_unless false number numbers = number ∷ numbers

-- The numbers of those that aren't cut, of connections of which the first has this number.
abbrev pub numbers_in : {E S : Type 0} → ℕ → List (Held E S) → List ℕ
numbers_in number [] = []
numbers_in number (h ∷ hs) = number_unless h.link.is_cut number (numbers_in (suc number) hs)

-- The pool of a play has the connections that aren't cut, by their numbers, and it has used as many
-- numbers as there are connections.
pub record ArePooled {E S : Type 0} (max size : ℕ) (hs : List (Held E S)) (pool : PoolState) : Type 0 where
  pub numbers : all_numbers (connections pool) ≡ numbers_in 1 hs
  pub last : pool.last ≡ length hs
  pub max_is : pool.max ≡ max
  pub size_is : pool.size ≡ size

-- ---- What leases and tickets stand for

-- Who holds the connection of this number, counted from 1.
abbrev pub holder_at : {E S : Type 0} → List (Held E S) → ℕ → Option ℕ
holder_at hs number = option_map (λ h. h.holder) (world.numbered hs number)

-- What a lease or ticket has of its connection besides the number: the key, and the turn.
pub record Stamp : Type 0 where
  pub key : ℕ
  pub turn : Turn

abbrev pub stamp_of : pool.Connection → Stamp
stamp_of c = record { key = c.key; turn = c.turn }

abbrev pub lease_stamp : Lease → Stamp
lease_stamp lease = record { key = lease.key; turn = lease.turn }

abbrev pub ticket_stamp : Ticket → Stamp
ticket_stamp ticket = record { key = ticket.key; turn = ticket.turn }

-- A connection of the pool has this key and this turn, and stands here.
pub record StandsAs (stamp : Stamp) (place : PoolPlace) (c : pool.Connection) : Type 0 where
  pub stamp_is : stamp_of c ≡ stamp
  pub place_is : c.place ≡ place

-- The lease or ticket of this number is for the connection of the number `conn`: one of the play, and while it
-- is in the pool it has the key and the turn of the lease or ticket, stands at its place, and is held by it. One that was
-- cut is in the pool no longer.
pub record IsKnown {E S : Type 0} (place : PoolPlace) (holder : ℕ) (stamp : Stamp) (conn : ℕ)
    (hs : List (Held E S)) (pcs : List pool.Connection) : Type 0 where
  pub first : 0 < conn
  pub last : conn ≤ length hs
  pub stands : (c : pool.Connection) → numbered conn pcs ≡ Some c → StandsAs stamp place c
  pub holds : (c : pool.Connection) → numbered conn pcs ≡ Some c → holder_at hs conn ≡ Some holder

-- All leases, or all tickets, that haven't ended: the one at place k has the number k + 1.
abbrev pub AreLeases : {E S : Type 0} → List (Option Lease) → List (Held E S) → List pool.Connection → Type 0
AreLeases leases hs pcs =
    (k : ℕ) (lease : Lease) → slice_get leases k ≡ Some (Some lease)
    → IsKnown pooled.Leased (suc k) (lease_stamp lease) lease.number hs pcs

abbrev pub AreTickets : {E S : Type 0} → List (Option Ticket) → List (Held E S) → List pool.Connection → Type 0
AreTickets tickets hs pcs =
    (k : ℕ) (ticket : Ticket) → slice_get tickets k ≡ Some (Some ticket)
    → IsKnown pooled.Kept (suc k) (ticket_stamp ticket) ticket.number hs pcs

pub record AreKnown {E S : Type 0} (leases : List (Option Lease)) (tickets : List (Option Ticket))
    (hs : List (Held E S)) (pcs : List pool.Connection) : Type 0 where
  pub leases_are : AreLeases leases hs pcs
  pub tickets_are : AreTickets tickets hs pcs

-- The connection of each lease, or ticket, by its number: none once it has ended.
abbrev pub numbers_leased : List (Option Lease) → List (Option ℕ)
numbers_leased leases = map (option_map (λ (lease : Lease). lease.number)) leases

abbrev pub numbers_kept : List (Option Ticket) → List (Option ℕ)
numbers_kept tickets = map (option_map (λ (ticket : Ticket). ticket.number)) tickets

-- ---- One connection

-- The seat of one of them, as this pool has it.
abbrev pub seat_in : {E S : Type 0} → Held E S → PoolState → Seat
seat_in h pool = seat_by h.holder (numbered h.link.number (connections pool))

-- It is in the pool exactly where it isn't cut.
pub record IsThere {E S : Type 0} (h : Held E S) (pool : PoolState) : Type 0 where
  pub is_in : h.link.is_cut ≡ false → IsSome (numbered h.link.number (connections pool))
  pub is_out : h.link.is_cut ≡ true → numbered h.link.number (connections pool) ≡ None

-- The pool has lost it.
pub record IsGone (number : ℕ) (old new : PoolState) : Type 0 where
  pub connections : pool.connections new ≡ taken_out number (pool.connections old)
  pub rest : SameRest old new

-- A connection of the pool stands where it stood, with its key and its turn, or nobody held it.
abbrev pub StaysAs : pool.Connection → pool.Connection → Type 0
StaysAs c d = ((stamp_of d ≡ stamp_of c) × (d.place ≡ c.place)) ⊎ (is_held c.place ≡ false)

-- The client of the pool's connection of this number alone may have changed.
pub record ChangesClient (number : ℕ) (old new : PoolState) : Type 0 where
  pub others : (m : ℕ) → m ≢ number → numbered m (connections new) ≡ numbered m (connections old)
  pub numbers : all_numbers (connections new) ≡ all_numbers (connections old)
  pub here : numbered number (connections new)
      ≡ option_map (λ (c : pool.Connection). record c { client = client_at number (connections new) })
      (numbered number (connections old))
  pub but : taken_out number (connections new) ≡ taken_out number (connections old)
  pub rest : SameRest old new

-- The pool's connection of this number alone may have changed, and it is still there unless it was cut.
pub record ChangesOne (number : ℕ) (is_cut : Bool) (old new : PoolState) : Type 0 where
  pub others : (m : ℕ) → m ≢ number → numbered m (connections new) ≡ numbered m (connections old)
  pub live : is_cut ≡ false → all_numbers (connections new) ≡ all_numbers (connections old)
  pub stays : (c d : pool.Connection) → numbered number (connections old) ≡ Some c
      → numbered number (connections new) ≡ Some d → StaysAs c d
  pub gone : is_cut ≡ true → connections new ≡ taken_out number (connections old)
  pub rest : SameRest old new

-- It stays in the pool unless it was cut, and the others are as they were: of a lease or ticket that ended.
pub record Spares (number : ℕ) (is_cut : Bool) (old new : PoolState) : Type 0 where
  pub others : (m : ℕ) → m ≢ number → numbered m (connections new) ≡ numbered m (connections old)
  pub live : is_cut ≡ false → all_numbers (connections new) ≡ all_numbers (connections old)
  pub gone : is_cut ≡ true
      → all_numbers (connections new) ≡ all_numbers (taken_out number (connections old))
  pub rest : SameRest old new

-- ---- What the pool answers

-- What a lease came to that was given back, in the words of a play.
abbrev pub came_back : GivenBack → GiveBackOutcome
came_back (given.Free n) = back.Free
came_back (given.Draining n) = back.Draining
came_back (given.Closed n) = back.Closed
came_back given.Unknown = back.Closed

-- Whether the connection is still in the pool.
abbrev pub rests_in : GivenBack → Bool
rests_in (given.Free n) = true
rests_in (given.Draining n) = true
rests_in (given.Closed n) = false
rests_in given.Unknown = false

-- ---- What the pool refuses

-- Why a lease isn't kept, in the words of a play.
abbrev pub keeps_not : PoolRefusal → Refusal
keeps_not refusals.NoTransaction = NothingToKeep
keeps_not why = NotIdle

-- Why a connection isn't cleaned.
abbrev pub cleans_not : PoolRefusal → Refusal
cleans_not refusals.Unknown = NotFree
cleans_not why = NotIdle

abbrev pub IsNotCleaned : Option PoolRefusal → Refusal → Type 0
IsNotCleaned None why = ⊥
IsNotCleaned (Some first) why = why ≡ cleans_not first
