-- A batch's text of units: the test and the rule agree.
use Rattle.std.proofs.Common.{◌≡◌, ◌<◌, ℕ, Bool, true, false, List, length, Option, Some, None, nat_le, refl, ap}
use Rattle.std.specs.Prelude.{◌&&◌, SomeIff}
use Rattle.std.specs.List.{All}
use Rattle.std.proofs.lemmas.Bool.{leb-true, le-leb}
use Rattle.tds_request.specs.Values.{IsBatchText}
use Rattle.tds_text.specs.Fields.{such, is_batch}

passes : (units : List ℕ) (a b : Bool) → nat_le 1 (length units) ≡ a → nat_le (length units) 2000 ≡ b → All (λ (u : ℕ). u < 65536) units
    → ¬ IsBatchText units → a && b ≡ false
passes units true true e f wide h = absurd (h (record { least = leb-true 1 (length units) e; most = leb-true (length units) 2000 f; wide = wide }))
passes units true false e f wide h = refl
passes units false b e f wide h = refl

pub such_batch : (units : List ℕ) (r : Option (List ℕ)) → All (λ (u : ℕ). u < 65536) units → SomeIff r (IsBatchText units) units → r ≡ such is_batch (Some units)
such_batch units None wide h = rw (passes units (nat_le 1 (length units)) (nat_le (length units) 2000) refl refl wide h) refl
such_batch units (Some x) wide h = rw (le-leb 1 (length units) h.0.least, le-leb (length units) 2000 h.0.most) (ap (λ (y : List ℕ). Some y) h.1)
