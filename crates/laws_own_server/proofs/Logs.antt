-- What is written down of the requests that were run, the newest first.
use Rattle.std.proofs.Common.{◌≡◌, ◌∙◌, ◌≤◌, ◌==◌, ℕ, suc, Bool, false, true, List, [], ◌∷◌, ◌++◌, length, ap, arith}
use Rattle.std.specs.Prelude.{if◌then◌else◌}
use Rattle.std.proofs.lemmas.Bool.Decides.{nat_tests}
use Rattle.tds_request.specs.declared.request.Request.TheVariants.{Batch}
use Rattle.laws_own_server.specs.Bench.{Asked, Log}

abbrev pub Extends : List Asked → Log → Type 0
Extends [] log = Unit {0}
Extends (x ∷ xs) log = (log (suc (length xs)) ≡ x) × Extends xs log

pub nothing_asked : Asked
nothing_asked = record { request = Batch []; begun = 0 }

abbrev pub log_of : List Asked → Log
log_of [] r = record { request = Batch []; begun = 0 }
log_of (x ∷ xs) r = if r == suc (length xs) then x else log_of xs r

lower : (ys : List Asked) (log there : Log) → ((r : ℕ) → r ≤ length ys → there r ≡ log r) → Extends ys log → Extends ys there
lower [] log there agree e = tt
lower (y ∷ ys) log there agree e = (
  agree (suc (length ys)) (omega arith) ∙ e.0,
  lower ys log there (λ r p. agree r (omega arith)) e.1,
)

below : (r n : ℕ) → r ≤ n → (r == suc n) ≡ false
below r n p = grind (arith, nat_tests)

same : (n : ℕ) → (n == n) ≡ true
same n = grind (arith, nat_tests)

pub extends_log : (known : List Asked) → Extends known (log_of known)
extends_log [] = tt
extends_log (x ∷ xs) = (
  ap (λ (b : Bool). if b then x else log_of xs (suc (length xs))) (same (suc (length xs))),
  lower xs (log_of xs) (log_of (x ∷ xs)) (λ r p. ap (λ (b : Bool). if b then x else log_of xs r) (below r (length xs) p)) (extends_log xs),
)

pub extends_rest : (xs ys : List Asked) (log : Log) → Extends (xs ++ ys) log → Extends ys log
extends_rest [] ys log e = e
extends_rest (x ∷ xs) ys log e = extends_rest xs ys log e.1
