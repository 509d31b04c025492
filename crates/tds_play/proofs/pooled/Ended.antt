-- Leases and tickets by their numbers, and the connection of each: what begins, ends, and stands there again.
use Rattle.std.proofs.Common.{◌≡◌, ◌∙◌, ℕ, zero, suc, List, [], ◌∷◌, map, Option, Some, None, refl, sym, ap}
use Rattle.std.specs.List.{slice_get}
use Rattle.std.specs.Prelude.{option_map, slice_set}
use Rattle.tds_play.specs.Holdings.{all_ended, conn_in, conn_of, ended_of, put_in}
use Rattle.tds_play.proofs.pooled.Slots.{numbers_set}

get_map : {A : Type 0} (f : A → ℕ) (xs : List (Option A)) (place : ℕ) → slice_get (map (option_map f) xs) place ≡ option_map (option_map f) (slice_get xs place)
get_map f [] place = refl
get_map f (x ∷ xs) zero = refl
get_map f (x ∷ xs) (suc place) = get_map f xs place

in_map : {A : Type 0} (f : A → ℕ) (o : Option (Option A)) → conn_in (option_map (option_map f) o) ≡ option_map f (conn_in o)
in_map f None = refl
in_map f (Some x) = refl

-- The connection of the one with this number.
pub numbers_of : {A : Type 0} (f : A → ℕ) (xs : List (Option A)) (number : ℕ) → conn_of (map (option_map f) xs) number ≡ option_map f (conn_of xs number)
numbers_of f xs zero = refl
numbers_of f xs (suc place) = ap conn_in (get_map f xs place) ∙ in_map f (slice_get xs place)

-- One of them ends, or stands there again, or all end.
pub numbers_ended : {A : Type 0} (f : A → ℕ) (xs : List (Option A)) (number : ℕ) → map (option_map f) (ended_of xs number) ≡ ended_of (map (option_map f) xs) number
numbers_ended f xs zero = refl
numbers_ended f xs (suc place) = numbers_set f xs place None

pub numbers_put : {A : Type 0} (f : A → ℕ) (xs : List (Option A)) (number : ℕ) (x : A) → map (option_map f) (put_in xs number x) ≡ put_in (map (option_map f) xs) number (f x)
numbers_put f xs zero x = refl
numbers_put f xs (suc place) x = numbers_set f xs place (Some x)

pub numbers_all_ended : {A : Type 0} (f : A → ℕ) (xs : List (Option A)) → map (option_map f) (all_ended xs) ≡ all_ended (map (option_map f) xs)
numbers_all_ended f [] = refl
numbers_all_ended f (x ∷ xs) = ap (λ ys. None ∷ ys) (numbers_all_ended f xs)

-- One that is known stands at the place of its number.
known_in : {A : Type 0} (o : Option (Option A)) (x : A) → conn_in o ≡ Some x → o ≡ Some (Some x)
known_in None x e = absurd (cc)
known_in (Some o) x e = ap Some e

pub known_slot : {A : Type 0} (xs : List (Option A)) (place : ℕ) (x : A) → conn_of xs (suc place) ≡ Some x → slice_get xs place ≡ Some (Some x)
known_slot xs place x known = known_in (slice_get xs place) x known

-- What was taken is put back, and all stands as it stood.
set_back : {A : Type 0} (xs : List (Option A)) (place : ℕ) (x : A) → slice_get xs place ≡ Some (Some x) → slice_set (slice_set xs place None) place (Some x) ≡ xs
set_back [] place x at = refl
set_back {A} (o ∷ xs) zero x at = let is : o ≡ Some x = cc in ap (λ (p : Option A). p ∷ xs) (sym is)
set_back (o ∷ xs) (suc place) x at = ap (λ ys. o ∷ ys) (set_back xs place x at)

pub put_back_in : {A : Type 0} (xs : List (Option A)) (number : ℕ) (x : A) → conn_of xs number ≡ Some x → put_in (ended_of xs number) number x ≡ xs
put_back_in xs zero x known = absurd (cc)
put_back_in xs (suc place) x known = set_back xs place x (known_slot xs place x known)
