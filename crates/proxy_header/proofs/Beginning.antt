-- Bytes that begin as a header does.
use Rattle.std.proofs.Common.{◌≡◌, refl, ℕ, Bool, true, false, List, [], ◌∷◌, ◌++◌, ◌≤◌, ◌==◌, length, if◌then◌else◌, ◌<◌, arith}
use Rattle.std.proofs.lemmas.Bool.{true≢false}
use Rattle.proxy_header.specs.Header.{begin_so}

-- no bytes begin as anything does
pub nothing_begins : (ss bytes : List ℕ) → length bytes < 1 → begin_so ss bytes ≡ true
nothing_begins [] bytes none = refl
nothing_begins (s ∷ ss) [] none = refl
nothing_begins (s ∷ ss) (b ∷ bs) none = absurd (omega (arith, none))

differ_if : (same early late : Bool) → (early ≡ false → late ≡ false)
    → (if same then early else false) ≡ false → (if same then late else false) ≡ false
differ_if true early late on h = on h
differ_if false early late on h = refl

-- where bytes differ they do with more behind them
pub differ_on : (ss bytes more : List ℕ) → begin_so ss bytes ≡ false → begin_so ss (bytes ++ more) ≡ false
differ_on [] bytes more h = h
differ_on (s ∷ ss) [] more h = absurd (true≢false h)
differ_on (s ∷ ss) (b ∷ bs) more h =
    differ_if (b == s) (begin_so ss bs) (begin_so ss (bs ++ more)) (differ_on ss bs more) h

alike_if : (same early late : Bool) → (early ≡ true → late ≡ true)
    → (if same then early else false) ≡ true → (if same then late else false) ≡ true
alike_if true early late on h = on h
alike_if false early late on h = h

-- where all of it stands it does with more behind it
pub alike_on : (ss bytes more : List ℕ) → length ss ≤ length bytes → begin_so ss bytes ≡ true → begin_so ss (bytes ++ more) ≡ true
alike_on [] bytes more few h = h
alike_on (s ∷ ss) [] more few h = absurd (omega (arith, few))
alike_on (s ∷ ss) (b ∷ bs) more few h =
    alike_if (b == s) (begin_so ss bs) (begin_so ss (bs ++ more)) (alike_on ss bs more (omega (arith, few))) h
