-- What a vector keeps, step by step.
use Rattle.std.proofs.Common.{◌≡◌, ℕ, zero, suc, ◌≤◌, List, [], ◌∷◌, ◌++◌, length, take, refl, sym, ap, ◌∙◌, arith}
use Rattle.std.proofs.lemmas.List.{take_at, length-take}
use Rattle.tds_token.specs.Vectors.{IsKept}

pub kept_append : (old tail new : List ℕ) → new ≡ old ++ tail → IsKept old new
kept_append old tail new e = rw e (take_at old tail (length old) refl)

kept_le : (old mid : List ℕ) → IsKept old mid → length old ≤ length mid
kept_le old mid kept =
    let whole : length (take (length old) mid) ≡ length old = ap length kept in
    omega (arith, whole, length-take (length old) mid)

take_less : (i j : ℕ) (xs : List ℕ) → i ≤ j → take i (take j xs) ≡ take i xs
take_less zero j xs le = refl
take_less (suc i) zero xs le = absurd (omega arith)
take_less (suc i) (suc j) [] le = refl
take_less (suc i) (suc j) (x ∷ xs) le = ap (λ (front : List ℕ). x ∷ front) (take_less i j xs (omega arith))

pub kept_trans : (old mid new : List ℕ) → IsKept old mid → IsKept mid new → IsKept old new
kept_trans old mid new first second =
    sym (take_less (length old) (length mid) new (kept_le old mid first)) ∙ ap (take (length old)) second ∙ first
