-- The first bytes of a token.
use Rattle.std.proofs.Common.{◌≡◌, ◌∙◌, ◌≤◌, ℕ, zero, suc, ◌+◌, ◌-◌, List, [], ◌∷◌, ◌++◌, length, take, refl, sym, ap, arith, append_assoc}
use Rattle.std.proofs.lemmas.List.{take_all, length-append}
use Rattle.std.proofs.Math.Seq.{take-append-add}
use Rattle.tds_wire.specs.Reading.{kept}

-- where all fit
pub kept_all : (old bytes : List ℕ) → length old + length bytes ≤ 24 → old ++ bytes ≡ kept old bytes
kept_all old bytes few = sym (take_all 24 (old ++ bytes) (omega (arith, few, length-append old bytes)))

-- where they don't
pub kept_some : (old bytes : List ℕ) → length old ≤ 24 → old ++ take (24 - length old) bytes ≡ kept old bytes
kept_some old bytes few =
    let whole : length old + (24 - length old) ≡ 24 = omega (arith, few) in
    sym (ap (λ (n : ℕ). take n (old ++ bytes)) (sym whole) ∙ take-append-add old bytes (24 - length old))

take_front : (n : ℕ) (a b : List ℕ) → take n (take n a ++ b) ≡ take n (a ++ b)
take_front zero a b = refl
take_front (suc n) [] b = refl
take_front (suc n) (x ∷ a) b = ap (λ (xs : List ℕ). x ∷ xs) (take_front n a b)

pub kept_kept : (head more others : List ℕ) → kept (kept head more) others ≡ kept head (more ++ others)
kept_kept head more others = take_front 24 (head ++ more) others ∙ ap (take 24) (append_assoc head more others)
