-- Bytes that are kept.
use Rattle.std.proofs.Common.{◌≡◌, ◌∙◌, ◌≤◌, ℕ, zero, suc, ◌+◌, ◌-◌, cond, List, [], ◌∷◌, ◌++◌, length, take, refl, sym, ap, arith, Result, Ok, Err, is_ok}
use Rattle.std.proofs.Math.Seq.{take-append-add}
use Rattle.std.proofs.lemmas.Bool.{false≢true}
use Rattle.std.specs.Prelude.{IsOk}

pub kept_more : (most : ℕ) (xs ys : List ℕ) → length xs ≤ most → xs ++ take (most - length xs) ys ≡ take most (xs ++ ys)
kept_more most xs ys h =
    let whole : length xs + (most - length xs) ≡ most = omega (arith, h) in
    sym (ap (λ (n : ℕ). take n (xs ++ ys)) (sym whole) ∙ take-append-add xs ys (most - length xs))

pub grown : {E : Type 0} (r : Result (Unit {0}) E) (xs a b : List ℕ) → IsOk r → xs ≡ cond (is_ok r) a b → xs ≡ a
grown (Ok u) xs a b ok e = e
grown (Err e) xs a b ok is = absurd (false≢true ok)

pub take_front : (n : ℕ) (a b : List ℕ) → take n (take n a ++ b) ≡ take n (a ++ b)
take_front zero a b = refl
take_front (suc n) [] b = refl
take_front (suc n) (x ∷ a) b = ap (λ (xs : List ℕ). x ∷ xs) (take_front n a b)
