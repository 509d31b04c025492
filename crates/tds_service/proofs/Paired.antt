-- Ids and connections that find each other.
use Rattle.std.proofs.Common.{◌≡◌, ◌∙◌, ◌==◌, ℕ, refl, sym, ap}
use Rattle.std.specs.Prelude.{Option, Some, None, if◌then◌else◌}
use Rattle.tds_service.specs.Index.{PutsAt}
use Rattle.tds_service.proofs.Ids.{either, clash, some_same, if_yes, if_no, is_same, is_other}

-- each value of the one is where the other has its place
abbrev pub Into : (ℕ → Option ℕ) → (ℕ → Option ℕ) → Type 0
Into f g = (k n : ℕ) → f k ≡ Some n → g n ≡ Some k

-- one more
pub into_more : (f f' g g' : ℕ → Option ℕ) (id n : ℕ) → Into f g → g n ≡ None → PutsAt f f' id (Some n) → PutsAt g g' n (Some id) → Into f' g'
into_more f f' g g' id n into free p q = λ k m e. either k id (g' m ≡ Some k)
    (λ same.
    let is : Some n ≡ Some m = sym p.here ∙ (ap f' (sym same) ∙ e) in
    ap g' (sym (some_same n m is)) ∙ (q.here ∙ ap Some (sym same)))
    (λ ne.
    let was : g m ≡ Some k = into k m (sym (p.other k ne) ∙ e) in
    q.other m (λ s. clash (g n) k free (ap g (sym s) ∙ was)) ∙ was)

-- one less
pub into_less : (f f' g g' : ℕ → Option ℕ) (id n : ℕ) → Into f g → g n ≡ Some id → PutsAt f f' id None → PutsAt g g' n None → Into f' g'
into_less f f' g g' id n into has p q = λ k m e. either k id (g' m ≡ Some k)
    (λ same. clash (f' id) m p.here (ap f' (sym same) ∙ e))
    (λ ne.
    let was : g m ≡ Some k = into k m (sym (p.other k ne) ∙ e) in
    q.other m (λ s. ne (some_same k id (sym was ∙ (ap g s ∙ has)))) ∙ was)

-- one of nobody's less
pub into_spare : (f g g' : ℕ → Option ℕ) (n : ℕ) → Into f g → g n ≡ None → PutsAt g g' n None → Into f g'
into_spare f g g' n into free q = λ k m e.
    let was : g m ≡ Some k = into k m e in
    q.other m (λ s. clash (g n) k free (ap g (sym s) ∙ was)) ∙ was

pub from_spare : (f g g' : ℕ → Option ℕ) (n : ℕ) → Into g f → PutsAt g g' n None → Into g' f
from_spare f g g' n into q = λ m k e. either m n (f k ≡ Some m)
    (λ same. clash (g' n) k q.here (ap g' (sym same) ∙ e))
    (λ ne. into m k (sym (q.other m ne) ∙ e))

-- between two ids it is nobody's
abbrev pub between : (ℕ → Option ℕ) → ℕ → ℕ → Option ℕ
between g n k = if k == n then None else g k

pub to_between : (g : ℕ → Option ℕ) (n : ℕ) → PutsAt g (between g n) n None
to_between g n = record {
  here = if_yes (n == n) None (g n) (is_same n n refl);
  other = λ k ne. if_no (k == n) None (g k) (is_other k n ne);
}

pub from_between : (g g' : ℕ → Option ℕ) (n : ℕ) (v : Option ℕ) → PutsAt g g' n v → PutsAt (between g n) g' n v
from_between g g' n v q = record { here = q.here; other = λ k ne. q.other k ne ∙ sym (if_no (k == n) None (g k) (is_other k n ne)) }
