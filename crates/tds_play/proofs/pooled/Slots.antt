-- Slots of leases or tickets, one of which is filled or emptied, and who holds the connections.
use Rattle.std.proofs.Common.{◌≡◌, ◌≢◌, ◌⊎◌, inl, inr, ℕ, zero, suc, ◌<◌, ◌≤◌, List, [], ◌∷◌, ◌++◌, length, map, Option, Some, None, refl, ap, arith}
use Rattle.std.specs.List.{slice_get}
use Rattle.std.specs.Prelude.{option_map, slice_set}
use Rattle.tds_play.specs.Pooled.{holder_at}
use Rattle.tds_play.specs.declared.seat.Held.{Held}

-- ---- What a slot holds

-- A slot that holds one isn't the one that was emptied.
pub emptied : {L : Type 0} (xs : List (Option L)) (j k : ℕ) (y : L) → slice_get (slice_set xs j None) k ≡ Some (Some y) → (k ≢ j) × (slice_get xs k ≡ Some (Some y))
emptied [] j k y e = absurd (cc)
emptied (x ∷ xs) zero zero y e = absurd (cc)
emptied (x ∷ xs) zero (suc k) y e = ((λ z. let bad : ⊥ = omega (arith, z) in bad), e)
emptied (x ∷ xs) (suc j) zero y e = ((λ z. let bad : ⊥ = omega (arith, z) in bad), e)
emptied (x ∷ xs) (suc j) (suc k) y e =
    let r : (k ≢ j) × (slice_get xs k ≡ Some (Some y)) = emptied xs j k y e in
    ((λ z. r.0 (omega (arith, z))), r.1)

-- A slot that holds one is the one that was filled, or held it before.
pub filled : {L : Type 0} (xs : List (Option L)) (j k : ℕ) (x y : L) → slice_get (slice_set xs j (Some x)) k ≡ Some (Some y) → ((k ≡ j) × (y ≡ x)) ⊎ (slice_get xs k ≡ Some (Some y))
filled [] j k x y e = absurd (cc)
filled (o ∷ xs) zero zero x y e = inl (refl, cc)
filled (o ∷ xs) zero (suc k) x y e = inr e
filled (o ∷ xs) (suc j) zero x y e = inr e
filled (o ∷ xs) (suc j) (suc k) x y e = by_one (filled xs j k x y e)
  where
    by_one : ((k ≡ j) × (y ≡ x)) ⊎ (slice_get xs k ≡ Some (Some y)) → ((suc k ≡ suc j) × (y ≡ x)) ⊎ (slice_get xs k ≡ Some (Some y))
    by_one (inl t) = inl (ap suc t.0, t.1)
    by_one (inr t) = inr t

-- A slot that holds one is the new one behind all, or held it before.
pub pushed : {L : Type 0} (xs : List (Option L)) (o : Option L) (k : ℕ) (y : L) → slice_get (xs ++ o ∷ []) k ≡ Some (Some y) → ((k ≡ length xs) × (o ≡ Some y)) ⊎ (slice_get xs k ≡ Some (Some y))
pushed [] o zero y e = inl (refl, cc)
pushed [] o (suc k) y e = absurd (cc)
pushed (x ∷ xs) o zero y e = inr e
pushed (x ∷ xs) o (suc k) y e = by_one (pushed xs o k y e)
  where
    by_one : ((k ≡ length xs) × (o ≡ Some y)) ⊎ (slice_get xs k ≡ Some (Some y)) → ((suc k ≡ suc (length xs)) × (o ≡ Some y)) ⊎ (slice_get xs k ≡ Some (Some y))
    by_one (inl t) = inl (ap suc t.0, t.1)
    by_one (inr t) = inr t

-- The number of each, where one more comes, and where one ends.
pub numbers_pushed : {L : Type 0} (number : L → ℕ) (xs : List (Option L)) (o : Option L) → map (option_map number) (xs ++ o ∷ []) ≡ map (option_map number) xs ++ option_map number o ∷ []
numbers_pushed number [] o = refl
numbers_pushed number (x ∷ xs) o = ap (λ ys. option_map number x ∷ ys) (numbers_pushed number xs o)

pub numbers_set : {L : Type 0} (number : L → ℕ) (xs : List (Option L)) (j : ℕ) (o : Option L) → map (option_map number) (slice_set xs j o) ≡ slice_set (map (option_map number) xs) j (option_map number o)
numbers_set number [] j o = refl
numbers_set number (x ∷ xs) zero o = refl
numbers_set number (x ∷ xs) (suc j) o = ap (λ ys. option_map number x ∷ ys) (numbers_set number xs j o)

-- ---- Who holds a connection

-- Other connections than that of this number are held as they were, and there are as many or more.
pub record HeldBut {E S : Type 0} (number : ℕ) (old new : List (Held E S)) : Type 0 where
  pub more : length old ≤ length new
  pub others : (m : ℕ) → 0 < m → m ≤ length old → m ≢ number → holder_at new m ≡ holder_at old m

pub held_same : {E S : Type 0} (number : ℕ) (hs : List (Held E S)) → HeldBut number hs hs
held_same number hs = record { more = omega arith; others = λ m first last other. refl }

pub length_set : {E S : Type 0} (hs : List (Held E S)) (place : ℕ) (h : Held E S) → length (slice_set hs place h) ≡ length hs
length_set [] place h = refl
length_set (k ∷ hs) zero h = refl
length_set (k ∷ hs) (suc place) h = ap suc (length_set hs place h)

-- What stands at a place that was set, and what stands elsewhere.
pub get_elsewhere : {A : Type 0} (xs : List A) (place i : ℕ) (x : A) → i ≢ place → slice_get (slice_set xs place x) i ≡ slice_get xs i
get_elsewhere [] place i x other = refl
get_elsewhere (y ∷ ys) zero zero x other = absurd (other refl)
get_elsewhere (y ∷ ys) zero (suc i) x other = refl
get_elsewhere (y ∷ ys) (suc place) zero x other = refl
get_elsewhere (y ∷ ys) (suc place) (suc i) x other = get_elsewhere ys place i x (λ e. other (ap suc e))

pub set_here : {A : Type 0} (xs : List A) (i : ℕ) (x y : A) → slice_get xs i ≡ Some x → slice_get (slice_set xs i y) i ≡ Some y
set_here [] i x y at = absurd (cc)
set_here (z ∷ xs) zero x y at = refl
set_here (z ∷ xs) (suc i) x y at = set_here xs i x y at

-- One of them changes.
pub held_set : {E S : Type 0} (hs : List (Held E S)) (place : ℕ) (h : Held E S) → HeldBut (suc place) hs (slice_set hs place h)
held_set {E} {S} hs place h = record {
  more = let is : length (slice_set hs place h) ≡ length hs = length_set hs place h in omega (arith, is);
  others = by_number;
}
  where
    by_number : (m : ℕ) → 0 < m → m ≤ length hs → m ≢ suc place → holder_at (slice_set hs place h) m ≡ holder_at hs m
    by_number zero first last other = let bad : ⊥ = omega (arith, first) in absurd bad
    by_number (suc i) first last other = ap (option_map (λ (x : Held E S). x.holder)) (get_elsewhere hs place i h (λ e. other (ap suc e)))

pub holder_set : {E S : Type 0} (hs : List (Held E S)) (place : ℕ) (old new : Held E S) → slice_get hs place ≡ Some old → holder_at (slice_set hs place new) (suc place) ≡ Some new.holder
holder_set {E} {S} hs place old new at = ap (option_map (λ (x : Held E S). x.holder)) (set_here hs place old new at)

pub holder_is : {E S : Type 0} (hs : List (Held E S)) (place : ℕ) (h : Held E S) → slice_get hs place ≡ Some h → holder_at hs (suc place) ≡ Some h.holder
holder_is {E} {S} hs place h at = ap (option_map (λ (x : Held E S). x.holder)) at

-- One more comes behind all.
pub many_more : {E S : Type 0} (hs : List (Held E S)) (h : Held E S) → length (hs ++ h ∷ []) ≡ suc (length hs)
many_more [] h = refl
many_more (k ∷ hs) h = ap suc (many_more hs h)

get_more : {E S : Type 0} (hs : List (Held E S)) (h : Held E S) (i : ℕ) → i < length hs → slice_get (hs ++ h ∷ []) i ≡ slice_get hs i
get_more [] h i within = let bad : ⊥ = omega (arith, within) in absurd bad
get_more (k ∷ hs) h zero within = refl
get_more (k ∷ hs) h (suc i) within = get_more hs h i (omega (arith, within))

get_last : {E S : Type 0} (hs : List (Held E S)) (h : Held E S) → slice_get (hs ++ h ∷ []) (length hs) ≡ Some h
get_last [] h = refl
get_last (k ∷ hs) h = get_last hs h

pub held_more : {E S : Type 0} (number : ℕ) (hs : List (Held E S)) (h : Held E S) → HeldBut number hs (hs ++ h ∷ [])
held_more {E} {S} number hs h = record {
  more = let is : length (hs ++ h ∷ []) ≡ suc (length hs) = many_more hs h in omega (arith, is);
  others = by_number;
}
  where
    by_number : (m : ℕ) → 0 < m → m ≤ length hs → m ≢ number → holder_at (hs ++ h ∷ []) m ≡ holder_at hs m
    by_number zero first last other = let bad : ⊥ = omega (arith, first) in absurd bad
    by_number (suc i) first last other = ap (option_map (λ (x : Held E S). x.holder)) (get_more hs h i (omega (arith, last)))

pub holder_more : {E S : Type 0} (hs : List (Held E S)) (h : Held E S) → holder_at (hs ++ h ∷ []) (suc (length hs)) ≡ Some h.holder
holder_more {E} {S} hs h = ap (option_map (λ (x : Held E S). x.holder)) (get_last hs h)
