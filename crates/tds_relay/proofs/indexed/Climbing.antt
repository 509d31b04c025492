-- Numbers that don't fall, as one comes in and some go.
use Rattle.std.proofs.Common.{◌≡◌, ℕ, zero, suc, Bool, true, false, ◌<◌, ◌≤◌, List, [], ◌∷◌, ◌++◌, length, map, take, drop, get_or, refl, ap, arith}
use Rattle.std.specs.Prelude.{slice_index, filter, if◌then◌else◌}
use Rattle.tds_relay.specs.Sorted.{AreFrom, Climbs}

pub mapped : {A : Type 0} (f : A → ℕ) (xs : List A) → length (map f xs) ≡ length xs
mapped f [] = refl
mapped f (x ∷ xs) = ap suc (mapped f xs)

pub at_place : {A : Type 0} (f : A → ℕ) (xs : List A) (i : ℕ) (d : A) → i < length xs → slice_index (map f xs) i ≡ f (get_or xs i d)
at_place f [] i d lt = absurd (omega (arith, lt))
at_place f (x ∷ xs) zero d lt = refl
at_place f (x ∷ xs) (suc i) d lt = at_place f xs i d (omega (arith, lt))

pub from_at : (n : ℕ) (ns : List ℕ) → AreFrom n ns → (i : ℕ) → i < length ns → n ≤ slice_index ns i
from_at n [] h i lt = absurd (omega (arith, lt))
from_at n (m ∷ ns) h zero lt = h.0
from_at n (m ∷ ns) h (suc i) lt = from_at n ns h.1 i (omega (arith, lt))

pub climbs_at : (ns : List ℕ) → Climbs ns → (i j : ℕ) → i < j → j < length ns → slice_index ns i ≤ slice_index ns j
climbs_at [] up i j lt h = absurd (omega (arith, h))
climbs_at (n ∷ ns) up i zero lt h = absurd (omega (arith, lt))
climbs_at (n ∷ ns) up zero (suc j) lt h = from_at n ns up.0 j (omega (arith, h))
climbs_at (n ∷ ns) up (suc i) (suc j) lt h = climbs_at ns up.1 i j (omega (arith, lt)) (omega (arith, h))

-- ---- One more

put_from : {A : Type 0} (f : A → ℕ) (low : ℕ) (xs : List A) (i : ℕ) (x : A) → AreFrom low (map f xs) → low ≤ f x → AreFrom low (map f (take i xs ++ x ∷ drop i xs))
put_from f low [] zero x h le = (le, tt)
put_from f low [] (suc i) x h le = (le, tt)
put_from f low (y ∷ xs) zero x h le = (le, h)
put_from f low (y ∷ xs) (suc i) x h le = (h.0, put_from f low xs i x h.1 le)

all_from : (low : ℕ) (ns : List ℕ) → ((j : ℕ) → j < length ns → low ≤ slice_index ns j) → AreFrom low ns
all_from low [] h = tt
all_from low (n ∷ ns) h = (h zero (omega arith), all_from low ns (λ j lt. h (suc j) (omega (arith, lt))))

pub put_climbs : {A : Type 0} (f : A → ℕ) (xs : List A) (i : ℕ) (x : A) → Climbs (map f xs) → i ≤ length xs
    → ((j : ℕ) → j < i → slice_index (map f xs) j ≤ f x) → ((j : ℕ) → i ≤ j → j < length xs → f x ≤ slice_index (map f xs) j)
    → Climbs (map f (take i xs ++ x ∷ drop i xs))
put_climbs f [] zero x up le below above = (tt, tt)
put_climbs f [] (suc i) x up le below above = absurd (omega (arith, le))
put_climbs f (y ∷ xs) zero x up le below above =
    (all_from (f x) (map f (y ∷ xs)) (λ j lt. above j (omega arith) (let e : length (map f (y ∷ xs)) ≡ length (y ∷ xs) = mapped f (y ∷ xs) in omega (arith, e, lt))), up)
put_climbs f (y ∷ xs) (suc i) x up le below above = (
  put_from f (f y) xs i x up.0 (below zero (omega arith)),
  put_climbs f xs i x up.1 (omega (arith, le)) (λ j lt. below (suc j) (omega (arith, lt))) (λ j h lt. above (suc j) (omega (arith, h)) (omega (arith, lt))),
)

-- ---- Some less

when_kept : {A : Type 0} (b : Bool) (P : List A → Type 0) (x : A) (xs : List A) → P (x ∷ xs) → P xs → P (if b then x ∷ xs else xs)
when_kept true P x xs stays goes = stays
when_kept false P x xs stays goes = goes

kept_from : {A : Type 0} (f : A → ℕ) (p : A → Bool) (low : ℕ) (xs : List A) → AreFrom low (map f xs) → AreFrom low (map f (filter p xs))
kept_from f p low [] h = tt
kept_from {A} f p low (x ∷ xs) h = when_kept (p x) (λ (ys : List A). AreFrom low (map f ys)) x (filter p xs) (h.0, kept_from f p low xs h.1) (kept_from f p low xs h.1)

pub kept_climbs : {A : Type 0} (f : A → ℕ) (p : A → Bool) (xs : List A) → Climbs (map f xs) → Climbs (map f (filter p xs))
kept_climbs f p [] up = tt
kept_climbs {A} f p (x ∷ xs) up = when_kept (p x) (λ (ys : List A). Climbs (map f ys)) x (filter p xs) (kept_from f p (f x) xs up.0, kept_climbs f p xs up.1) (kept_climbs f p xs up.1)
