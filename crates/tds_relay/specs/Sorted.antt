-- Numbers that don't fall, and where a search among them ends; what stands by such ids, and what of it stands under one.
use Rattle.std.specs.Prelude.{ℕ, suc, ◌+◌, ◌-◌, ◌^◌, ◌<◌, ◌≤◌, ◌==◌, Bool, List, [], ◌∷◌, map, Option, Some, None, if◌then◌else◌}
use Rattle.tds_relay.specs.declared.index.Indexed.{Indexed}

-- each is this one or above
abbrev pub AreFrom : ℕ → List ℕ → Type 0
AreFrom low [] = Unit {0}
AreFrom low (n ∷ ns) = (low ≤ n) × AreFrom low ns

-- none is below one before it
abbrev pub Climbs : List ℕ → Type 0
Climbs [] = Unit {0}
Climbs (n ∷ ns) = AreFrom n ns × Climbs ns

-- what is below this stands in front: what is below the number, or that one too
abbrev pub bound : ℕ → Bool → ℕ
bound number past = if past then suc number else number

-- what a search by halves knows: what stands in front of low is below, and what stands from high on is not
pub record Cuts (count : ℕ) (at : ℕ → ℕ) (limit low high : ℕ) : Type 0 where
  pub within : high ≤ count
  pub ordered : low ≤ high
  pub below : (place : ℕ) → place < low → at place < limit
  pub above : (place : ℕ) → high ≤ place → place < count → limit ≤ at place

-- a search from low up to high, which may take `most` steps behind its first ones, has taken so many, and what is left does
pub record Lasts (most first steps low high : ℕ) : Type 0 where
  pub within : steps ≤ first + most
  pub few : high < low + 2 ^ (first + most - steps)

-- ---- What stands by ids

abbrev pub ids_in : {T : Type 0} → List (Indexed T) → List ℕ
ids_in {T} es = map (λ (e : Indexed T). e.id) es

-- what stands under an id, in order
abbrev pub under : {T : Type 0} → ℕ → List (Indexed T) → List T
under id [] = []
under id (e ∷ es) = if e.id == id then e.item ∷ under id es else under id es

abbrev pub first : {T : Type 0} → List T → Option T
first [] = None
first (x ∷ xs) = Some x

abbrev pub one_if : {T : Type 0} → ℕ → ℕ → T → List T
one_if id other x = if id == other then x ∷ [] else []
