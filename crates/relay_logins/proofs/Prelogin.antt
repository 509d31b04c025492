-- An option of a PRELOGIN that tells nothing is passed.
use Rattle.std.proofs.Common.{◌≡◌, ◌≤◌, ◌-◌, ◌==◌, ℕ, List, [], ◌∷◌, length, take, drop, slice_index, false, arith, refl}
use Rattle.std.proofs.lemmas.List.{take_all}
use Rattle.relay_logins.specs.Prelogin.{demands_from}

pub passed : (answer rest : List ℕ) → 5 ≤ length rest → (slice_index rest 0 == 1) ≡ false → (slice_index rest 0 == 255) ≡ false
    → demands_from answer (take (length rest - 5) (drop 5 rest)) ≡ demands_from answer rest
unfolding demands_from
passed answer (a ∷ b ∷ c ∷ d ∷ e ∷ rest) long one ends = rw (one, ends, take_all (length (a ∷ b ∷ c ∷ d ∷ e ∷ rest) - 5) (drop 5 (a ∷ b ∷ c ∷ d ∷ e ∷ rest)) (omega arith)) refl
passed answer (a ∷ b ∷ c ∷ d ∷ []) long one ends = absurd (omega (arith, long))
passed answer (a ∷ b ∷ c ∷ []) long one ends = absurd (omega (arith, long))
passed answer (a ∷ b ∷ []) long one ends = absurd (omega (arith, long))
passed answer (a ∷ []) long one ends = absurd (omega (arith, long))
passed answer [] long one ends = absurd (omega (arith, long))
