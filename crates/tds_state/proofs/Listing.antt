-- Reading states one after another.
use Rattle.std.proofs.Common.{◌≡◌, ◌∙◌, ◌≤◌, ◌<◌, ℕ, zero, suc, ◌+◌, Bool, true, false, cond, List, [], ◌∷◌, length, refl, sym, ap, arith, Option, Some, None}
use Rattle.std.proofs.lemmas.List.{length-drop}
use Rattle.std.proofs.lemmas.Bool.{eq-eqb, ne_eqb}
use Rattle.std.specs.Int.{w32, from_le_bytes}
use Rattle.std.specs.Prelude.{◌==◌, nat_lt}
use Rattle.std.specs.Str.{bytes_eq}
use Rattle.tds_state.specs.declared.states.StateSpot.{StateSpot}
use Rattle.tds_state.specs.States.{Listed, behind_state, is_value, last_value, later_of, states_listed, listed_by, listed_end, listed_in, listed_with, long_spot, state_spot, spot_with, state_in, state_value}

-- ---- A state takes bytes

abbrev pub Moves : Option StateSpot → Type 0
Moves None = Unit {0}
Moves (Some spot) = 0 < spot.start

pub spot_moves : (id start n behind : ℕ) → 0 < start → Moves (spot_with id start n behind)
spot_moves id start n behind h = cases (nat_lt behind n) where
  cases : (b : Bool) → Moves (cond b None (Some (record { id = id; start = start; length = n })))
  cases true = tt
  cases false = h

long_moves : (id : ℕ) (bytes : List ℕ) → Moves (long_spot id bytes)
long_moves id [] = tt
long_moves id (a ∷ []) = tt
long_moves id (a ∷ b ∷ []) = tt
long_moves id (a ∷ b ∷ c ∷ []) = tt
long_moves id (a ∷ b ∷ c ∷ d ∷ behind) = spot_moves id 6 (from_le_bytes w32 (a ∷ b ∷ c ∷ d ∷ [])) (length behind) (omega arith)

moves : (bytes : List ℕ) → Moves (state_spot bytes)
unfolding state_spot
moves [] = tt
moves (id ∷ []) = tt
moves (id ∷ n ∷ behind) = cases (n == 255) where
  cases : (b : Bool) → Moves (cond b (long_spot id behind) (spot_with id 2 n (length behind)))
  cases true = long_moves id behind
  cases false = spot_moves id 2 n (length behind) (omega arith)

-- ---- There are no more states than bytes

by_most : (n m : ℕ) (bytes : List ℕ) (spot : Option StateSpot) → Moves spot → length bytes ≤ suc n → length bytes ≤ suc m
    → ((others : List ℕ) → length others ≤ n → length others ≤ m → listed_in n others ≡ listed_in m others)
    → listed_by (listed_in n) bytes spot ≡ listed_by (listed_in m) bytes spot
by_most n m bytes None moved a b same = refl
by_most n m bytes (Some spot) moved a b same =
    let left = length-drop (spot.start + spot.length) bytes in
    ap (listed_with (state_in spot bytes)) (same (behind_state spot bytes) (omega (arith, left, moved, a)) (omega (arith, left, moved, b)))

pub by_any_most : (n m : ℕ) (bytes : List ℕ) → length bytes ≤ n → length bytes ≤ m → listed_in n bytes ≡ listed_in m bytes
unfolding listed_in state_spot
by_any_most zero zero bytes a b = refl
by_any_most zero (suc m) [] a b = refl
by_any_most zero (suc m) (x ∷ xs) a b = absurd (omega (arith, a))
by_any_most (suc n) zero [] a b = refl
by_any_most (suc n) zero (x ∷ xs) a b = absurd (omega (arith, b))
by_any_most (suc n) (suc m) bytes a b = by_most n m bytes (state_spot bytes) (moves bytes) a b (λ others c d. by_any_most n m others c d)

-- what stands behind the first one
by_first : (n : ℕ) (bytes : List ℕ) → length bytes ≤ n → listed_in n bytes ≡ listed_by states_listed bytes (state_spot bytes)
unfolding listed_in state_spot
by_first zero [] h = refl
by_first zero (x ∷ xs) h = absurd (omega (arith, h))
by_first (suc n) bytes h = behind (state_spot bytes) (moves bytes) where
  behind : (spot : Option StateSpot) → Moves spot → listed_by (listed_in n) bytes spot ≡ listed_by states_listed bytes spot
  behind None moved = refl
  behind (Some spot) moved =
      let left = length-drop (spot.start + spot.length) bytes in
      ap (listed_with (state_in spot bytes)) (by_any_most n (length (behind_state spot bytes)) (behind_state spot bytes) (omega (arith, left, moved, h)) (omega arith))

pub first_listed : (bytes : List ℕ) → states_listed bytes ≡ listed_by states_listed bytes (state_spot bytes)
first_listed bytes = by_first (length bytes) bytes (omega arith)

-- where a state stands there, and where none does
pub listed_some : (bytes : List ℕ) (spot : StateSpot) → state_spot bytes ≡ Some spot → states_listed bytes ≡ listed_with (state_in spot bytes) (states_listed (behind_state spot bytes))
listed_some bytes spot is = first_listed bytes ∙ ap (listed_by states_listed bytes) is

pub listed_none : (bytes : List ℕ) → state_spot bytes ≡ None → states_listed bytes ≡ listed_end bytes
listed_none bytes is = first_listed bytes ∙ ap (listed_by states_listed bytes) is

-- ---- A value by its number

-- what states say behind this answer so far
abbrev pub given_by : Bool → Option (List ℕ) → List ℕ → Bool
given_by so_far None value = so_far
given_by so_far (Some own) value = bytes_eq own value

abbrev pub given_from : Bool → ℕ → List ℕ → List ℕ → Bool
given_from so_far id value bytes = given_by so_far (last_value id (states_listed bytes).states) value

pub given_first : (own : Option (List ℕ)) (value : List ℕ) → given_by false own value ≡ is_value own value
given_first None value = refl
given_first (Some own) value = refl

pub given_more : (so_far : Bool) (id : ℕ) (value bytes : List ℕ) (spot : StateSpot) → state_spot bytes ≡ Some spot
    → given_from so_far id value bytes
    ≡ given_from (cond (spot.id == id) (bytes_eq (state_value spot bytes) value) so_far) id value (behind_state spot bytes)
unfolding last_value
given_more so_far id value bytes spot is =
    ap (λ (all : Listed). given_by so_far (last_value id all.states) value) (listed_some bytes spot is)
    ∙ later (last_value id (states_listed (behind_state spot bytes)).states)
  where
    chosen : (same : Bool) → given_by so_far (cond same (Some (state_value spot bytes)) None) value ≡ cond same (bytes_eq (state_value spot bytes) value) so_far
    chosen true = refl
    chosen false = refl

    later : (own : Option (List ℕ))
        → given_by so_far (later_of own id (state_in spot bytes)) value ≡ given_by (cond (spot.id == id) (bytes_eq (state_value spot bytes) value) so_far) own value
    later None = chosen (spot.id == id)
    later (Some own) = refl

pub given_last : (so_far : Bool) (id : ℕ) (value bytes : List ℕ) → state_spot bytes ≡ None → given_from so_far id value bytes ≡ so_far
unfolding last_value
given_last so_far id value bytes is = ap (λ (all : Listed). given_by so_far (last_value id all.states) value) (listed_none bytes is)

-- the same where the state has this number, and where it hasn't
pub given_told : (so_far is : Bool) (id : ℕ) (value bytes own behind : List ℕ) (spot : StateSpot) → state_spot bytes ≡ Some spot
    → spot.id ≡ id → own ≡ state_value spot bytes → behind ≡ behind_state spot bytes → is ≡ bytes_eq own value
    → given_from is id value behind ≡ given_from so_far id value bytes
given_told so_far is id value bytes own behind spot at same own_is behind_is told =
    ap (λ (b : Bool). given_from b id value behind) (told ∙ ap (λ (xs : List ℕ). bytes_eq xs value) own_is)
    ∙ ap (λ (xs : List ℕ). given_from (bytes_eq (state_value spot bytes) value) id value xs) behind_is
    ∙ ap (λ (b : Bool). given_from (cond b (bytes_eq (state_value spot bytes) value) so_far) id value (behind_state spot bytes)) (sym (eq-eqb spot.id id same))
    ∙ sym (given_more so_far id value bytes spot at)

pub given_other : (so_far is : Bool) (id : ℕ) (value bytes behind : List ℕ) (spot : StateSpot) → state_spot bytes ≡ Some spot
    → (spot.id ≡ id → ⊥) → behind ≡ behind_state spot bytes → is ≡ so_far
    → given_from is id value behind ≡ given_from so_far id value bytes
given_other so_far is id value bytes behind spot at other behind_is told =
    ap (λ (b : Bool). given_from b id value behind) told
    ∙ ap (λ (xs : List ℕ). given_from so_far id value xs) behind_is
    ∙ ap (λ (b : Bool). given_from (cond b (bytes_eq (state_value spot bytes) value) so_far) id value (behind_state spot bytes)) (sym (ne_eqb spot.id id other))
    ∙ sym (given_more so_far id value bytes spot at)
