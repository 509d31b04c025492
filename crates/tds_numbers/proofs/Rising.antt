-- Numbers of what stands in a list.
use Rattle.std.proofs.Common.{◌≡◌, ℕ, zero, suc, ◌<◌, List, [], ◌∷◌, length, map, get_or, refl, ap, arith}
use Rattle.std.specs.Prelude.{slice_index}

pub mapped : {A : Type 0} (f : A → ℕ) (xs : List A) → length (map f xs) ≡ length xs
mapped f [] = refl
mapped f (x ∷ xs) = ap suc (mapped f xs)

pub at_place : {A : Type 0} (f : A → ℕ) (xs : List A) (i : ℕ) (d : A) → i < length xs → slice_index (map f xs) i ≡ f (get_or xs i d)
at_place f [] i d lt = absurd (omega (arith, lt))
at_place f (x ∷ xs) zero d lt = refl
at_place f (x ∷ xs) (suc i) d lt = at_place f xs i d (omega (arith, lt))
