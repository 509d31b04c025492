-- Which lease or ticket has which connection: a list by rising ids, beside the table by rising numbers.
use Rattle.std.specs.Prelude.{◌≡◌, ◌≢◌, ℕ, suc, ◌==◌, ◌≤◌, List, [], ◌∷◌, length, map, Option, Some, None, if◌then◌else◌}
use Rattle.std.specs.Coded.{×_prop, Π_prop, →_prop, le_prop, Coded-set, coded_option, coded_ℕ}
use Rattle.tds_service.specs.declared.seat.Seat as seats
use Rattle.tds_service.specs.declared.place.Place.{Place}
use Rattle.tds_service.specs.declared.place.Place.TheVariants as places
use Rattle.tds_service.specs.declared.index.Indexed.{Indexed}
use Rattle.tds_service.specs.Rising.{RiseFrom, RiseFrom-prop}

-- the id of the lease or the ticket that holds a connection, where one does
abbrev pub holder_in : Place → Option ℕ
holder_in (places.Leased lease) = Some lease
holder_in (places.Cleaning lease) = Some lease
holder_in (places.Kept ticket) = Some ticket
holder_in places.Free = None
holder_in places.Draining = None

-- connections, each by its number, with the id that holds it
abbrev pub holders_in : List seats.Seat → List (ℕ × Option ℕ)
holders_in cs = map (λ (c : seats.Seat). (c.number, holder_in c.place)) cs

abbrev pub ids_in : List Indexed → List ℕ
ids_in es = map (λ (e : Indexed). e.id) es

-- the numbers of their connections, in the same order
abbrev pub numbers_held : List Indexed → List ℕ
numbers_held es = map (λ (e : Indexed). e.number) es

-- the number of the connection that this id has
abbrev pub number_held : List Indexed → ℕ → Option ℕ
number_held [] id = None
number_held (e ∷ es) id = if e.id == id then Some e.number else number_held es id

-- who holds the one of this number
abbrev pub holder_of : List (ℕ × Option ℕ) → ℕ → Option ℕ
holder_of [] number = None
holder_of (h ∷ hs) number = if h.0 == number then h.1 else holder_of hs number

abbrev pub one_held : Option ℕ → ℕ → ℕ
one_held None count = count
one_held (Some id) count = suc count

-- how many of them are held
abbrev pub held_among : List (ℕ × Option ℕ) → ℕ
held_among [] = 0
held_among (h ∷ hs) = one_held h.1 (held_among hs)

-- a table of values is another one: it has this value here, and the same elsewhere
pub record PutsAt (old new : ℕ → Option ℕ) (at : ℕ) (value : Option ℕ) : Type 0 where
  pub here : new at ≡ value
  pub other : (k : ℕ) → k ≢ at → new k ≡ old k

-- The newest id was put behind the others, for the connection of this number.
pub record AddsId (old new : List Indexed) (id number : ℕ) : Type 0 where
  pub puts : PutsAt (number_held old) (number_held new) id (Some number)
  pub rises : RiseFrom 0 (ids_in new) (suc id)
  pub len : length new ≡ suc (length old)

-- This id was taken out, if it was there.
pub record ForgetsId (old new : List Indexed) (id : ℕ) : Type 0 where
  pub puts : PutsAt (number_held old) (number_held new) id None
  pub rises : (top : ℕ) → RiseFrom 0 (ids_in old) top → RiseFrom 0 (ids_in new) top
  pub len : (number : ℕ) → number_held old id ≡ Some number → suc (length new) ≡ length old

-- The one was, and the other is in its place.
abbrev pub GoesOnAs : List Indexed → List Indexed → (was id number : ℕ) → Type 0
GoesOnAs old new was id number = (between : List Indexed) × ForgetsId old between was × AddsId between new id number

abbrev pub ForgetsAny : List Indexed → List Indexed → Option ℕ → Type 0
ForgetsAny old new None = new ≡ old
ForgetsAny old new (Some id) = ForgetsId old new id

-- Ids and connections find each other: no id is missing, and none has a connection that another id holds, or none.
abbrev pub FindEachOther : List (ℕ × Option ℕ) → List Indexed → Type 0
FindEachOther hs held = ((id n : ℕ) → number_held held id ≡ Some n → holder_of hs n ≡ Some id) × ((n id : ℕ) → holder_of hs n ≡ Some id → number_held held id ≡ Some n)

-- There are as many ids as connections that are held, and room for an id of each.
abbrev pub CountsHeld : List (ℕ × Option ℕ) → List Indexed → ℕ → Type 0
CountsHeld hs held capacity = (length held ≡ held_among hs) × (length hs ≤ capacity)

-- All of that.
abbrev pub MatchesHeld : List (ℕ × Option ℕ) → List Indexed → ℕ → Type 0
MatchesHeld hs held capacity = FindEachOther hs held × CountsHeld hs held capacity

-- The list is the index of these connections, of ids up to the newest one that was given.
abbrev pub IsIndex : List (ℕ × Option ℕ) → List Indexed → ℕ → ℕ → Type 0
IsIndex hs held given capacity = RiseFrom 0 (ids_in held) (suc given) × MatchesHeld hs held capacity

same_prop : (a b : Option ℕ) → IsProp (a ≡ b)
same_prop a b = Coded-set (coded_option coded_ℕ) a b

into_prop : (f g : ℕ → Option ℕ) → IsProp ((k n : ℕ) → f k ≡ Some n → g n ≡ Some k)
into_prop f g = Π_prop (λ k. Π_prop (λ n. →_prop {A = f k ≡ Some n} (same_prop (g n) (Some k))))

counted_prop : (hs : List (ℕ × Option ℕ)) (held : List Indexed) (capacity : ℕ) → IsProp (CountsHeld hs held capacity)
counted_prop hs held capacity = ×_prop (Coded-set coded_ℕ (length held) (held_among hs)) le_prop

pub IsIndex-prop : (hs : List (ℕ × Option ℕ)) (held : List Indexed) (given capacity : ℕ) → IsProp (IsIndex hs held given capacity)
IsIndex-prop hs held given capacity =
    ×_prop (RiseFrom-prop 0 (ids_in held) (suc given)) (×_prop (×_prop (into_prop (number_held held) (holder_of hs)) (into_prop (holder_of hs) (number_held held))) (counted_prop hs held capacity))
