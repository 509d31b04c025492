-- Who is to be written to behind a call: whoever something was put for; and what is put, piece by piece of what an application says.
use Rattle.tds_relay.specs.declared.order.Order.TheVariants as orders
use Rattle.tds_front.specs.declared.front.Said.TheVariants as said
use Rattle.std.specs.Prelude.{◌≡◌, ◌⊎◌, ℕ, true, List, ◌∷◌, ◌++◌, Option, Some, None, slice_index_or, ◌≢◌, ◌≤◌, Bool, false, [], Result, Ok, Err}
use Rattle.slab.specs.Slab.{Slab}
use Rattle.tds_relay.specs.declared.application.Application.{Application}
use Rattle.tds_relay.specs.declared.pool.coming.Heard.{Heard}
use Rattle.tds_relay.specs.declared.order.Order.{Order}
use Rattle.tds_relay.specs.Fronts.{ends_in, MovedOn}
use Rattle.tds_relay.specs.Core.{EndList, end_at, End, Open, holder, is_in}
use Rattle.tds_relay.specs.Machine.{is_said, Machine, Step, Takes, after}
use Rattle.tds_relay.specs.Queues.{HasAll, Queues, names_of, queue_at, queues_in}
use Rattle.tds_relay.specs.Taking.{IsDeaf, Tells}
use Rattle.tds_packet.specs.declared.kind.Kind.{Kind}
use Rattle.tds_packet.specs.declared.status.Reset.{Reset}
use Rattle.tds_packet.specs.declared.status.Reset.TheVariants.{Full}
use Rattle.tds_front.specs.declared.fault.FrontFault.{FrontFault}
use Rattle.tds_front.specs.declared.front.Fed.{Fed}
use Rattle.tds_front.specs.declared.front.Said.{Said}
use Rattle.tds_front.specs.Bytes.{fed}
use Rattle.tds_relay.specs.Asking.{said_of}
use Rattle.tds_relay.specs.Bodies.{Astray, BeginsBody, Body, BodyAndWaits, CancelsSaid, Closed, GoesFrom, GrowsFrom, IsClosedAsEnd, IsStill, Obeys, PutsNothing, Spared, Starts, StartsInPlace, last_of, taken_of}
use Rattle.tds_relay.specs.Cleaning.{LeavesAll}
use Rattle.tds_relay.specs.Reads.{FillsAt, StaysAt}
use Rattle.tds_relay.specs.Ties.{IsReached}

-- It is among what is to be done.
abbrev pub IsToDo : Order → List Order → Type 0
IsToDo order all = (before : List Order) × (after : List Order) × (all ≡ before ++ order ∷ after)

-- what whoever carries an application's bytes calls it
abbrev pub name_at : Queues → ℕ → Option (Option ℕ)
name_at queues key = slice_index_or (names_of queues) key None

-- Its bytes are to be written, and all fit; or it is to be closed.
abbrev pub IsWoken : ℕ → Slab Application → List Order → Type 0
IsWoken key slab all = IsDeaf (end_at (ends_in slab) key) ⊎ ((tag : ℕ) × (name_at (queues_in slab) key ≡ Some (Some tag)) × IsToDo (orders.Write tag) all × HasAll (queue_at (queues_in slab) key))

-- For each application nothing was put since this waited; or it is woken.
abbrev pub Wakes : Queues → Slab Application → List Order → Type 0
Wakes old slab all = (key : ℕ) → (queue_at (queues_in slab) key ≡ queue_at old key) ⊎ IsWoken key slab all

-- A packet by which this was heard is this application's, and is handed to it.
abbrev pub HandsTo : Option Heard → ℕ → EndList → Type 0
HandsTo None key ends = ⊥
HandsTo (Some heard) key ends = (heard.key ≡ Some key) × (is_said heard.what (end_at ends key) ≡ true)

-- Nothing was put for another by it.
abbrev pub PutsFor : Option Heard → EndList → Queues → Queues → Type 0
PutsFor heard ends old new = (key : ℕ) → (queue_at new key ≡ queue_at old key) ⊎ HandsTo heard key ends

-- ---- What is put, piece by piece of what an application says, with what waits on each connection

-- Where a request begins, it starts so. Where it asks for no reset, and nothing of it goes on,
-- nothing is put; with a full one nothing goes on yet, and what is let go for it is cancelled, and
-- cleaned once. What is put for one that keeps a transaction isn't said.
pub record BeginsFrom (Reached : Type 0) (kind : Kind) (reset : Option Reset)
    (old new : BodyAndWaits) : Type 0 where
  pub mid : Body
  pub begins : BeginsBody kind mid
  pub starts : StartsInPlace old.1 mid new.0
  pub still : reset ≡ None → IsStill mid → IsStill new.0
      → (number : ℕ) → StaysAt (old.1 number) (new.1 number)
  pub parts : reset ≡ Some Full → Spared mid new.0
  pub lets : Reached → reset ≡ Some Full → LeavesAll old.1 new.1

-- While nothing of a request goes on, nothing is put by a piece of it; of one that goes on, its
-- body says what waits on its connection, and of others nothing is said. Nor is it of what is put
-- where one has gone on and is taken back, or an attention handed on.
abbrev pub PutsSaid : Type 0 → Said → List ℕ → BodyAndWaits → BodyAndWaits → Type 0
PutsSaid Reached said.Nothing taken old new = GoesFrom old new
PutsSaid Reached (said.Begin kind reset) taken old new = BeginsFrom Reached kind reset old new
PutsSaid Reached (said.Body count) taken old new = GrowsFrom false (last_of count taken) old new
PutsSaid Reached (said.End count) taken old new = GrowsFrom true (last_of count taken) old new
PutsSaid Reached (said.Forget false) taken old new = PutsNothing old new
PutsSaid Reached said.Acknowledge taken old new = PutsNothing old new
PutsSaid Reached _ taken old new = Unit {0}

-- It is where it was, and on each connection that is there still the same waits; or its application
-- is to be closed, and wasn't.
abbrev pub RestsFrom : BodyAndWaits → BodyAndWaits → Type 0
RestsFrom old new =
    ((new.0 ≡ old.0) × ((number : ℕ) → StaysAt (old.1 number) (new.1 number)))
    ⊎ ((new.0 ≡ Closed) × (old.0 ≢ Closed)
    × ((number : ℕ) → FillsAt (old.1 number) (new.1 number)))

-- Whether bytes are against the protocol, as an end takes them.
abbrev pub is_fault : Result Fed FrontFault → Bool
is_fault (Ok fed) = false
is_fault (Err fault) = true

abbrev pub is_against : List ℕ → Option End → Bool
is_against bytes (Some (Open front withdrawn asks)) = is_fault (fed front bytes).brings
is_against bytes _ = false

-- By such bytes its application is to be closed, and what it holds is let go.
abbrev pub ClosesRefused : Type 0 → Bool → BodyAndWaits → BodyAndWaits → Type 0
ClosesRefused Reached true old new = (new.0 ≡ Closed) × (Reached → LeavesAll old.1 new.1)
ClosesRefused Reached false old new = Unit {0}

-- Bytes are taken of which this is said, and which are against the protocol, or aren't.
pub record Heeds (Reached : Type 0) (answer : Said) (refused : Bool) (taken : List ℕ)
    (old new : BodyAndWaits) : Type 0 where
  pub obeys : Obeys answer taken old.0 new.0
  pub fills : (number : ℕ) → FillsAt (old.1 number) (new.1 number)
  pub cancels : CancelsSaid answer old.0 new
  pub puts : PutsSaid Reached answer taken old new
  pub closes : ClosesRefused Reached refused old new

-- Piece by piece of what steps take of an application: as AreFollowed, with what waits; between
-- them nothing is put, or its application is to be closed, and wasn't, and then anything.
abbrev pub AreHeeded : Type 0 → ℕ → Machine → List Step → BodyAndWaits → BodyAndWaits → Type 0
AreHeeded Reached key h [] old new = RestsFrom old new
AreHeeded Reached key h (Takes other bytes ∷ steps) old new =
    (from : BodyAndWaits) × (to : BodyAndWaits)
    × RestsFrom old from × IsClosedAsEnd (end_at h.core.ends key) from.0
    × Heeds Reached (said_of bytes (end_at h.core.ends key))
    (is_against bytes (end_at h.core.ends key)) (taken_of bytes (end_at h.core.ends key)) from to
    × AreHeeded Reached key (after h (Takes other bytes)) steps to new
AreHeeded Reached key h (step ∷ steps) old new = AreHeeded Reached key (after h step) steps old new

-- An application's bytes are taken, up to these, and what it takes back of that is cancelled.
pub record HeedsAll (key : ℕ) (old : Machine) (bytes left : List ℕ) (from to : BodyAndWaits)
    (new : Machine) : Type 0 where
  pub tells : Tells key old bytes left new
  pub heeded : AreHeeded (IsReached old.core.pool) key old tells.steps from to
  pub closed : IsClosedAsEnd (end_at new.core.ends key) to.0

-- Whatever was taken before, these bytes are taken behind it, up to these.
abbrev pub HeedsOn : ℕ → List ℕ → List ℕ → BodyAndWaits → BodyAndWaits → Machine → Machine → Type 0
HeedsOn key left rest from to old new = (first : Machine) (bytes : List ℕ) (at : BodyAndWaits)
    → HeedsAll key first bytes left at from old → HeedsAll key first bytes rest at to new

-- All of them are, and then those who wait are served, among whom its application may be: unless it
-- waits, its request stays by that, or it is to be closed, and on the connection that it holds once
-- all are taken, open or not, nothing is put; nor is it on one that nobody holds, before that and behind it. What
-- waited on those up to this number waits still.
pub record HeedsServed (key last : ℕ) (old : Machine) (bytes : List ℕ) (from to : BodyAndWaits)
    (new : Machine) : Type 0 where
  pub at : Machine
  pub mid : BodyAndWaits
  pub heeds : HeedsAll key old bytes [] from mid at
  pub moves : MovedOn at.core new.core
  pub kept : new.queues ≡ at.queues
  pub starts : Starts mid.0 to.0
  pub fills : (number : ℕ) → number ≤ last → FillsAt (mid.1 number) (to.1 number)
  pub rests : is_in key at.core.pool.line ≡ false → Spared mid.0 to.0 ⊎ (mid.0 ≡ Astray)
  pub keeps : is_in key at.core.pool.line ≡ false → (number : ℕ)
      → holder at.core.pool number ≡ Some key → StaysAt (mid.1 number) (to.1 number)
  pub free : (number : ℕ) → holder at.core.pool number ≡ None
      → holder new.core.pool number ≡ None → StaysAt (mid.1 number) (to.1 number)
  pub closed : IsClosedAsEnd (end_at new.core.ends key) to.0
