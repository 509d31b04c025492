-- Reading features one after another.
use Rattle.std.proofs.Common.{◌≡◌, ◌∙◌, ◌≤◌, ℕ, zero, suc, ◌+◌, Bool, true, false, cond, List, [], ◌∷◌, length, refl, sym, ap, arith, Option, Some, None}
use Rattle.std.proofs.lemmas.Bool.{eq-eqb, ne_eqb}
use Rattle.std.proofs.lemmas.List.{length-drop}
use Rattle.std.specs.Int.{w32, from_le_bytes}
use Rattle.std.specs.Prelude.{◌==◌}
use Rattle.tds_state.specs.declared.states.StateSpot.{StateSpot}
use Rattle.tds_state.specs.Hearing.{feature_at, recovery, recovery_by, recovery_in}
use Rattle.tds_state.specs.States.{behind_state, spot_with, state_value}
use Rattle.tds_state.proofs.Listing.{Moves, spot_moves}

feature_moves : (bytes : List ℕ) → Moves (feature_at bytes)
unfolding feature_at
feature_moves [] = tt
feature_moves (id ∷ []) = tt
feature_moves (id ∷ a ∷ []) = tt
feature_moves (id ∷ a ∷ b ∷ []) = tt
feature_moves (id ∷ a ∷ b ∷ c ∷ []) = tt
feature_moves (id ∷ a ∷ b ∷ c ∷ d ∷ behind) = chosen (id == 255) where
  chosen : (is_end : Bool) → Moves (cond is_end None (spot_with id 5 (from_le_bytes w32 (a ∷ b ∷ c ∷ d ∷ [])) (length behind)))
  chosen true = tt
  chosen false = spot_moves id 5 (from_le_bytes w32 (a ∷ b ∷ c ∷ d ∷ [])) (length behind) (omega arith)

by_same : (n m : ℕ) (bytes : List ℕ) (spot : Option StateSpot) → Moves spot → length bytes ≤ suc n → length bytes ≤ suc m
    → ((others : List ℕ) → length others ≤ n → length others ≤ m → recovery_in n others ≡ recovery_in m others)
    → recovery_by (recovery_in n) bytes spot ≡ recovery_by (recovery_in m) bytes spot
by_same n m bytes None moved a b same = refl
by_same n m bytes (Some spot) moved a b same =
    let left = length-drop (spot.start + spot.length) bytes in
    ap (cond (spot.id == 1) (Some (state_value spot bytes))) (same (behind_state spot bytes) (omega (arith, left, moved, a)) (omega (arith, left, moved, b)))

recovery_same : (n m : ℕ) (bytes : List ℕ) → length bytes ≤ n → length bytes ≤ m → recovery_in n bytes ≡ recovery_in m bytes
unfolding recovery_in feature_at
recovery_same zero zero bytes a b = refl
recovery_same zero (suc m) [] a b = refl
recovery_same zero (suc m) (x ∷ xs) a b = absurd (omega (arith, a))
recovery_same (suc n) zero [] a b = refl
recovery_same (suc n) zero (x ∷ xs) a b = absurd (omega (arith, b))
recovery_same (suc n) (suc m) bytes a b = by_same n m bytes (feature_at bytes) (feature_moves bytes) a b (λ others c d. recovery_same n m others c d)

by_first : (n : ℕ) (bytes : List ℕ) → length bytes ≤ n → recovery_in n bytes ≡ recovery_by recovery bytes (feature_at bytes)
unfolding recovery_in feature_at
by_first zero [] h = refl
by_first zero (x ∷ xs) h = absurd (omega (arith, h))
by_first (suc n) bytes h = behind (feature_at bytes) (feature_moves bytes) where
  behind : (spot : Option StateSpot) → Moves spot → recovery_by (recovery_in n) bytes spot ≡ recovery_by recovery bytes spot
  behind None moved = refl
  behind (Some spot) moved =
      let left = length-drop (spot.start + spot.length) bytes in
      ap (cond (spot.id == 1) (Some (state_value spot bytes))) (recovery_same n (length (behind_state spot bytes)) (behind_state spot bytes) (omega (arith, left, moved, h)) (omega arith))

first_feature : (bytes : List ℕ) → recovery bytes ≡ recovery_by recovery bytes (feature_at bytes)
first_feature bytes = by_first (length bytes) bytes (omega arith)

pub recovery_here : (bytes value : List ℕ) (spot : StateSpot) → feature_at bytes ≡ Some spot → spot.id ≡ 1 → value ≡ state_value spot bytes → recovery bytes ≡ Some value
recovery_here bytes value spot at one is =
    first_feature bytes ∙ (ap (recovery_by recovery bytes) at
    ∙ (ap (λ (b : Bool). cond b (Some (state_value spot bytes)) (recovery (behind_state spot bytes))) (eq-eqb spot.id 1 one) ∙ ap (λ (xs : List ℕ). Some xs) (sym is)))

pub recovery_behind : (bytes behind : List ℕ) (spot : StateSpot) → feature_at bytes ≡ Some spot → (spot.id ≡ 1 → ⊥) → behind ≡ behind_state spot bytes → recovery behind ≡ recovery bytes
recovery_behind bytes behind spot at other is =
    ap recovery is ∙ sym (first_feature bytes ∙ (ap (recovery_by recovery bytes) at
    ∙ ap (λ (b : Bool). cond b (Some (state_value spot bytes)) (recovery (behind_state spot bytes))) (ne_eqb spot.id 1 other)))

pub recovery_none : (bytes : List ℕ) → feature_at bytes ≡ None → recovery bytes ≡ None
recovery_none bytes at = first_feature bytes ∙ ap (recovery_by recovery bytes) at
