-- What is read of a file.
use Rattle.std.proofs.Common.{◌≡◌, ap, arith, List, ℕ, [], Option, Some, None, suc, ◌∙◌, subst}
use Rattle.std.specs.Prelude.{IfSome, option_map, take, length, min, ◌≤◌, ◌++◌}
use Rattle.std.proofs.lemmas.List.{length-take, take_all}
use Rattle.std.specs.Io.Take.{take_limit, take_inner, take_remaining}
use Rattle.std.specs.declared.io.traits.Take.{Take}
use Rattle.tds_play.specs.Runs.{AreLeft}

-- what was read is all, where it is less than what was asked for
all_of_front : (left : Option (List ℕ)) (n : ℕ) (bytes : List ℕ) → IfSome (option_map (take (suc n)) left) (λ front. bytes ≡ [] ++ front)
    → length bytes ≤ n → AreLeft left bytes
all_of_front None n bytes read few = tt
all_of_front (Some all) n bytes read few =
    let counted : length bytes ≡ min (suc n) (length all) = ap length read ∙ length-take (suc n) all
    in let short : length all ≤ suc n = omega (arith)
    in read ∙ take_all (suc n) all short

-- so it is of a reader of which no more is taken
pub all_of_take : {R : Type 0} (remaining : R → Option (List ℕ)) (front : Take R) (left : Option (List ℕ)) (n : ℕ) (old bytes : List ℕ)
    → take_limit front ≡ suc n → remaining (take_inner front) ≡ left → old ≡ []
    → IfSome (take_remaining remaining front) (λ taken. bytes ≡ old ++ taken) → length bytes ≤ n → AreLeft left bytes
all_of_take remaining front left n old bytes limit inner none read few =
    let all : IfSome (option_map (take (take_limit front)) (remaining (take_inner front))) (λ taken. bytes ≡ [] ++ taken)
    = subst (λ before. IfSome (take_remaining remaining front) (λ taken. bytes ≡ before ++ taken)) none read
    in let some : IfSome (option_map (take (suc n)) (remaining (take_inner front))) (λ taken. bytes ≡ [] ++ taken)
    = subst (λ k. IfSome (option_map (take k) (remaining (take_inner front))) (λ taken. bytes ≡ [] ++ taken)) limit all
    in all_of_front left n bytes (subst (λ o. IfSome (option_map (take (suc n)) o) (λ taken. bytes ≡ [] ++ taken)) inner some) few
