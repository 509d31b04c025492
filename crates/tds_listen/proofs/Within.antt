-- There are no more tokens than bytes.
use Rattle.std.proofs.Common.{◌≡◌, ◌∙◌, ◌≤◌, ℕ, zero, suc, List, [], ◌∷◌, length, refl, sym, ap, arith}
use Rattle.tds_wire.specs.Reading.{Parser, Found, Sees, Inside, Refuses, next_token}
use Rattle.tds_listen.specs.Hearing.{TokensHeard, Stands, led_by, no_tokens, tokens_by, tokens_in, tokens_within}
use Rattle.tds_listen.proofs.Fewer.{TakesSome, takes_some}

by_same : (found : Found) (n : ℕ) (f g : Parser → List ℕ → TokensHeard) → TakesSome (suc n) found → ((r : Parser) (rest : List ℕ) → length rest ≤ n → f r rest ≡ g r rest)
    → tokens_by found f ≡ tokens_by found g
by_same (Sees token r rest) n f g h same = ap (led_by token) (same r rest (omega (arith, h)))
by_same (Inside r) n f g h same = refl
by_same (Refuses refusal) n f g h same = refl

none_in : (most : ℕ) (r : Parser) → tokens_within most r [] ≡ no_tokens (Stands r)
unfolding tokens_within
none_in zero r = refl
none_in (suc most) r = refl

-- any count that is high enough gives the same
same : (a b : ℕ) (r : Parser) (bytes : List ℕ) → length bytes ≤ a → length bytes ≤ b → tokens_within a r bytes ≡ tokens_within b r bytes
unfolding tokens_within
same a b r [] ha hb = none_in a r ∙ sym (none_in b r)
same zero b r (x ∷ xs) ha hb = absurd (omega (arith, ha))
same (suc a) zero r (x ∷ xs) ha hb = absurd (omega (arith, hb))
same (suc a) (suc b) r (x ∷ xs) ha hb =
    by_same (next_token r (x ∷ xs)) (length xs) (λ r rest. tokens_within a r rest) (λ r rest. tokens_within b r rest) (takes_some r x xs)
    (λ r rest few. same a b r rest (omega (arith, few, ha)) (omega (arith, few, hb)))

pub step_is : (r : Parser) (x : ℕ) (xs : List ℕ) → tokens_in r (x ∷ xs) ≡ tokens_by (next_token r (x ∷ xs)) (λ next rest. tokens_in next rest)
unfolding tokens_within
step_is r x xs =
    by_same (next_token r (x ∷ xs)) (length xs) (λ next rest. tokens_within (length xs) next rest) (λ next rest. tokens_in next rest) (takes_some r x xs)
    (λ next rest few. same (length xs) (length rest) next rest few (omega arith))
