-- Pieces appended one behind the other.
use Rattle.std.proofs.Common.{◌≡◌, ℕ, List, ◌++◌, Result, Ok, Err, OnOk, ap, ◌∙◌, append_assoc}

pub three_pieces : {A E : Type 0} (r : Result A E) (old first second third head mid new : List ℕ)
    → head ≡ old ++ first → mid ≡ head ++ second → OnOk r (new ≡ mid ++ third) → OnOk r (new ≡ old ++ (first ++ (second ++ third)))
three_pieces (Ok x) old first second third head mid new a b c =
    c ∙ ap (λ (t : List ℕ). t ++ third) (b ∙ ap (λ (t : List ℕ). t ++ second) a) ∙ append_assoc (old ++ first) second third ∙ append_assoc old first (second ++ third)
three_pieces (Err e) old first second third head mid new a b c = tt
