-- Bytes, one behind the other.
use Rattle.std.proofs.Common.{◌≡◌, ◌∙◌, ◌<◌, ℕ, ◌+◌, List, [], ◌∷◌, ◌++◌, length, take, get_or, refl, sym, ap}
use Rattle.std.proofs.lemmas.List.{take_more}
use Rattle.tds_judge.specs.declared.finding.Direction.{Direction}
use Rattle.tds_judge.specs.Framing.{Run, step, steps}

-- two pieces do what both do as one
pub steps-append : (d : Direction) (t : ℕ) (first second : List ℕ) (run : Run) → steps d t second (steps d t first run) ≡ steps d t (first ++ second) run
unfolding steps
steps-append d t [] second run = refl
steps-append d t (x ∷ xs) second run = steps-append d t xs second (step d t x run)

-- one byte more, of which the place is in range
pub takes_next : (d : Direction) (t n : ℕ) (xs : List ℕ) (start before after : Run) → n < length xs → after ≡ step d t (get_or xs n 0) before → before ≡ steps d t (take n xs) start
    → after ≡ steps d t (take (n + 1) xs) start
unfolding steps
takes_next d t n xs start before after more does so =
    does ∙ (ap (step d t (get_or xs n 0)) so ∙ (steps-append d t (take n xs) (get_or xs n 0 ∷ []) start ∙ ap (λ (ys : List ℕ). steps d t ys start) (sym (take_more xs n 0 more))))
