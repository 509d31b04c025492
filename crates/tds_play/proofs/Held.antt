-- The leases and tickets of a play and those of the model.
use Rattle.std.proofs.Common.{◌≡◌, ℕ, zero, suc, List, [], ◌∷◌, ◌++◌, map, set, Option, Some, None, option_map, refl, ap}
use Rattle.std.specs.List.{slice_get}
use Rattle.tds_play.specs.Holdings.{conn_in, conn_of, ended_of, all_ended}
use Rattle.tds_play.specs.Noted.{leases_after, tickets_after, asked_after}
use Rattle.tds_play.specs.Plays.{held_by, holdings_of}
use Rattle.tds_world.specs.Events.{notes}
use Rattle.tds_world.specs.World.{Holding, World, holding, numbered, holding_ended, ended_at, ended_numbered}
use Rattle.tds_world.specs.declared.event.Event.{Event}
use Rattle.tds_world.specs.declared.event.Event.TheVariants as event

pub get_mapped : {A B : Type 0} (f : A → B) (xs : List A) (i : ℕ) → slice_get (map f xs) i ≡ option_map f (slice_get xs i)
get_mapped f [] i = refl
get_mapped f (x ∷ xs) zero = refl
get_mapped f (x ∷ xs) (suc i) = get_mapped f xs i

-- What stands at a number of a mapped list.
numbered_mapped : {A B : Type 0} (f : A → B) (xs : List A) (n : ℕ) → numbered (map f xs) n ≡ option_map f (numbered xs n)
numbered_mapped f xs zero = refl
numbered_mapped f xs (suc n) = get_mapped f xs n

-- The connection that a lease or ticket holds.
pub conn_held : (hs : List Holding) (n : ℕ) → conn_of (holdings_of hs) n ≡ conn_in (option_map held_by (numbered hs n))
conn_held hs n = ap conn_in (numbered_mapped held_by hs n)

-- ---- One or all end

end_held : (hs : List Holding) (i : ℕ) → set (holdings_of hs) i None ≡ holdings_of (ended_at i hs)
end_held [] i = refl
end_held (h ∷ hs) zero = refl
end_held (h ∷ hs) (suc i) = ap (λ (os : List (Option ℕ)). held_by h ∷ os) (end_held hs i)

pub ended_held : (hs : List Holding) (n : ℕ) → ended_of (holdings_of hs) n ≡ holdings_of (ended_numbered n hs)
ended_held hs zero = refl
ended_held hs (suc n) = end_held hs n

pub all_held : (hs : List Holding) → all_ended (holdings_of hs) ≡ holdings_of (map holding_ended hs)
all_held [] = refl
all_held (h ∷ hs) = ap (λ (os : List (Option ℕ)). None ∷ os) (all_held hs)

-- ---- One is given

pub given_held : (hs : List Holding) (n heard : ℕ) (from : Option ℕ) → holdings_of hs ++ Some n ∷ [] ≡ holdings_of (hs ++ holding n heard from ∷ [])
given_held [] n heard from = refl
given_held (h ∷ hs) n heard from = ap (λ (os : List (Option ℕ)). held_by h ∷ os) (given_held hs n heard from)

-- One that is over at once.
over_held : (hs : List Holding) (n heard : ℕ) → holdings_of hs ++ None ∷ [] ≡ holdings_of (hs ++ holding_ended (holding n heard None) ∷ [])
over_held [] n heard = refl
over_held (h ∷ hs) n heard = ap (λ (os : List (Option ℕ)). held_by h ∷ os) (over_held hs n heard)

-- ---- What is noted of an event

pub leases_noted : (e : Event) (n heard : ℕ) (w : World) → leases_after e n (holdings_of w.leases) ≡ holdings_of (notes e n heard w).leases
leases_noted event.Lease n heard w = given_held w.leases n heard None
leases_noted (event.Resume ticket) n heard w = given_held w.leases n heard (Some ticket)
leases_noted (event.GiveBack lease) n heard w = ended_held w.leases lease
leases_noted (event.Keep lease) n heard w = ended_held w.leases lease
leases_noted (event.Clean _) n heard w = over_held w.leases n heard
leases_noted e n heard w = refl

pub tickets_noted : (e : Event) (n heard : ℕ) (w : World) → tickets_after e n (holdings_of w.tickets) ≡ holdings_of (notes e n heard w).tickets
tickets_noted (event.Resume ticket) n heard w = ended_held w.tickets ticket
tickets_noted (event.Keep lease) n heard w = given_held w.tickets n heard None
tickets_noted (event.Abandon ticket) n heard w = ended_held w.tickets ticket
tickets_noted e n heard w = refl

pub asked_noted : (e : Event) (n heard : ℕ) (w : World) → asked_after e n w.asked_on ≡ (notes e n heard w).asked_on
asked_noted event.Lease n heard w = refl
asked_noted e n heard w = refl
