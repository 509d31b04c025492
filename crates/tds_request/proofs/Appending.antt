-- Two runs of bytes, appended one after the other.
use Rattle.std.proofs.Common.{◌≡◌, ℕ, ◌∙◌, ap, append_assoc, List, ◌++◌, Result, Ok, Err, OnOk, if◌then◌else◌}
use Rattle.std.specs.Result.{is_ok}
use Rattle.std.specs.declared.alloc.AllocError.{AllocError}

-- what is there behind the first run
pub front : (old reserved first headers mid : List ℕ) → reserved ≡ old → first ≡ headers → mid ≡ reserved ++ first → mid ≡ old ++ headers
front old reserved first headers mid e h m = m ∙ ap (λ (xs : List ℕ). xs ++ first) e ∙ ap (λ (xs : List ℕ). old ++ xs) h

-- and behind the second
pub appended_two : (old first mid second new : List ℕ) → mid ≡ old ++ first → new ≡ mid ++ second → new ≡ old ++ (first ++ second)
appended_two old first mid second new m e = e ∙ ap (λ (xs : List ℕ). xs ++ second) m ∙ append_assoc old first second

pub on_ok : {P : Type 0} (r : Result (Unit {0}) AllocError) → P → OnOk r P
on_ok (Ok x) p = p
on_ok (Err d) p = tt

pub on_ok_items : (r : Result (Unit {0}) AllocError) (old first mid second new : List ℕ) → mid ≡ old ++ first → new ≡ (if is_ok r then mid ++ second else mid) → OnOk r (new ≡ old ++ (first ++ second))
on_ok_items (Ok x) old first mid second new m e = appended_two old first mid second new m e
on_ok_items (Err d) old first mid second new m e = tt
