-- Numbers and runs of bytes at the front of bytes.
use Rattle.std.proofs.Common.{◌≡◌, ◌∙◌, ◌≤◌, ◌<◌, ℕ, zero, suc, ◌+◌, List, [], ◌∷◌, length, drop, get_or, refl, sym, ap, arith}
use Rattle.std.proofs.lemmas.List.{drop-drop, length-drop, get_or-drop}
use Rattle.tds_wire.specs.Layout.{Got, Short, one, two, four, run}
use Rattle.tds_rows.specs.Places.{four_from, two_from}

pub one_got : (bytes : List ℕ) → 1 ≤ length bytes → one bytes ≡ Got (get_or bytes 0 0) (drop 1 bytes)
one_got [] h = absurd (omega (arith, h))
one_got (a ∷ bytes) h = refl

pub one_short : (bytes : List ℕ) → length bytes < 1 → one bytes ≡ Short
one_short [] h = refl
one_short (a ∷ bytes) h = absurd (omega (arith, h))

pub two_got : (bytes : List ℕ) → 2 ≤ length bytes → two bytes ≡ Got (two_from 0 bytes) (drop 2 bytes)
two_got [] h = absurd (omega (arith, h))
two_got (a ∷ []) h = absurd (omega (arith, h))
two_got (a ∷ b ∷ bytes) h = refl

pub two_short : (bytes : List ℕ) → length bytes < 2 → two bytes ≡ Short
two_short [] h = refl
two_short (a ∷ []) h = refl
two_short (a ∷ b ∷ bytes) h = absurd (omega (arith, h))

four_front : (bytes : List ℕ) → 4 ≤ length bytes → four bytes ≡ Got (four_from 0 bytes) (drop 4 bytes)
four_front [] h = absurd (omega (arith, h))
four_front (a ∷ []) h = absurd (omega (arith, h))
four_front (a ∷ b ∷ []) h = absurd (omega (arith, h))
four_front (a ∷ b ∷ c ∷ []) h = absurd (omega (arith, h))
four_front (a ∷ b ∷ c ∷ d ∷ bytes) h = refl

four_none : (bytes : List ℕ) → length bytes < 4 → four bytes ≡ Short
four_none [] h = refl
four_none (a ∷ []) h = refl
four_none (a ∷ b ∷ []) h = refl
four_none (a ∷ b ∷ c ∷ []) h = refl
four_none (a ∷ b ∷ c ∷ d ∷ bytes) h = absurd (omega (arith, h))

four_moved : (m : ℕ) (bytes : List ℕ) → four_from 0 (drop m bytes) ≡ four_from m bytes
four_moved m bytes =
    let z : m + 0 ≡ m = omega arith in
    rw (get_or-drop m bytes 0 0) (rw z (rw (get_or-drop m bytes 1 0) (rw (get_or-drop m bytes 2 0) (rw (get_or-drop m bytes 3 0) refl))))

-- behind so many others
pub four_got : (m : ℕ) (bytes : List ℕ) → m + 4 ≤ length bytes → four (drop m bytes) ≡ Got (four_from m bytes) (drop (m + 4) bytes)
four_got m bytes h =
    four_front (drop m bytes) (omega (arith, h, length-drop m bytes))
    ∙ (ap (λ (n : ℕ). Got n (drop 4 (drop m bytes))) (four_moved m bytes) ∙ ap (Got (four_from m bytes)) (drop-drop 4 m bytes))

pub four_short : (m : ℕ) (bytes : List ℕ) → length bytes < m + 4 → four (drop m bytes) ≡ Short
four_short m bytes h = four_none (drop m bytes) (omega (arith, h, length-drop m bytes))

pub run_got : (n : ℕ) (bytes : List ℕ) → n ≤ length bytes → run n bytes ≡ Got tt (drop n bytes)
unfolding run
run_got zero bytes h = refl
run_got (suc n) [] h = absurd (omega (arith, h))
run_got (suc n) (b ∷ bytes) h = run_got n bytes (omega (arith, h))

pub run_short : (n : ℕ) (bytes : List ℕ) → length bytes < n → run n bytes ≡ Short
unfolding run
run_short zero bytes h = absurd (omega (arith, h))
run_short (suc n) [] h = refl
run_short (suc n) (b ∷ bytes) h = run_short n bytes (omega (arith, h))

-- so many bytes behind others
pub run_behind : (m c n : ℕ) (bytes : List ℕ) → n ≡ m + c → n ≤ length bytes → run c (drop m bytes) ≡ Got tt (drop n bytes)
run_behind m c n bytes e h =
    run_got c (drop m bytes) (omega (arith, length-drop m bytes, e, h))
    ∙ ap (Got tt) (drop-drop c m bytes ∙ ap (λ (k : ℕ). drop k bytes) (sym e))

pub run_cut : (m c : ℕ) (bytes : List ℕ) → m ≤ length bytes → length bytes < m + c → run c (drop m bytes) ≡ Short
run_cut m c bytes l h = run_short c (drop m bytes) (omega (arith, length-drop m bytes, l, h))
