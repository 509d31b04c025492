-- One connection of a list changes, is taken out, or is added: what is found by a number.
use Rattle.std.proofs.Common.{◌≡◌, ℕ, Bool, true, false, not, List, [], ◌∷◌, ◌++◌, Some, None, refl, sym, ap, ◌∙◌, cond, ⊎_elim}
use Rattle.std.proofs.Math.Dec.{eqb}
use Rattle.std.proofs.lemmas.Bool.{eq-eqb}
use Rattle.std.proofs.lemmas.Bool.Decides.{eqb_tells}
use Rattle.std.specs.Prelude.{◌≢◌, option_map}
use Rattle.tds_pool.specs.Connections.{Connection, changed_in, numbered, taken_out}
use Rattle.tds_pool.proofs.Seats.{taken, passed}

-- A connection of that number, or not.
pub by_number : (Q : Type 0) (a n : ℕ) → (a ≡ n → eqb a n ≡ true → Q) → (eqb a n ≡ false → Q) → Q
by_number Q a n same other = ⊎_elim (λ t. same t.1 (eq-eqb a n t.1)) (λ t. other t.0) (eqb_tells a n)

unlike : (a n m : ℕ) → a ≡ n → m ≢ n → eqb a m ≡ false
unlike a n m is other = ⊎_elim (λ t. let e : a ≡ m = t.1 in absurd (other (sym e ∙ is))) (λ t. t.0) (eqb_tells a m)

abbrev KeepsNumber : (Connection → Connection) → Type 0
KeepsNumber f = (c : Connection) → (f c).number ≡ c.number

either_number : (b : Bool) (f : Connection → Connection) (c : Connection) → KeepsNumber f → (cond b (f c) c).number ≡ c.number
either_number true f c keeps = keeps c
either_number false f c keeps = refl

-- The first of a list is found, or one behind it.
first_is : (c : Connection) (cs : List Connection) (n : ℕ) → eqb c.number n ≡ true → numbered n (c ∷ cs) ≡ Some c
first_is c cs n e = taken (eqb c.number n) (Some c) (numbered n cs) e

first_not : (c : Connection) (cs : List Connection) (n : ℕ) → eqb c.number n ≡ false → numbered n (c ∷ cs) ≡ numbered n cs
first_not c cs n e = passed (eqb c.number n) (Some c) (numbered n cs) e

pub changed_here : (n : ℕ) (f : Connection → Connection) (cs : List Connection) → ((c : Connection) → (f c).number ≡ c.number)
    → numbered n (changed_in n f cs) ≡ option_map f (numbered n cs)
changed_here n f [] keeps = refl
changed_here n f (c ∷ cs) keeps =
    by_number _ c.number n
    (λ is e.
    first_is (cond (eqb c.number n) (f c) c) (changed_in n f cs) n (ap (λ (m : ℕ). eqb m n) (either_number (eqb c.number n) f c keeps) ∙ e)
    ∙ ap Some (taken (eqb c.number n) (f c) c e)
    ∙ sym (ap (option_map f) (first_is c cs n e)))
    (λ e.
    first_not (cond (eqb c.number n) (f c) c) (changed_in n f cs) n (ap (λ (m : ℕ). eqb m n) (either_number (eqb c.number n) f c keeps) ∙ e)
    ∙ changed_here n f cs keeps
    ∙ sym (ap (option_map f) (first_not c cs n e)))

pub changed_other : (n m : ℕ) (f : Connection → Connection) (cs : List Connection) → ((c : Connection) → (f c).number ≡ c.number) → m ≢ n
    → numbered m (changed_in n f cs) ≡ numbered m cs
changed_other n m f [] keeps other = refl
changed_other n m f (c ∷ cs) keeps other =
    let number : (cond (eqb c.number n) (f c) c).number ≡ c.number = either_number (eqb c.number n) f c keeps in
    by_number _ c.number m
    (λ is e.
    first_is (cond (eqb c.number n) (f c) c) (changed_in n f cs) m (ap (λ (k : ℕ). eqb k m) number ∙ e)
    ∙ ap Some (passed (eqb c.number n) (f c) c (unlike c.number m n is (λ same. other (sym same))))
    ∙ sym (first_is c cs m e))
    (λ e.
    first_not (cond (eqb c.number n) (f c) c) (changed_in n f cs) m (ap (λ (k : ℕ). eqb k m) number ∙ e)
    ∙ changed_other n m f cs keeps other
    ∙ sym (first_not c cs m e))

pub taken_other : (n m : ℕ) (cs : List Connection) → m ≢ n → numbered m (taken_out n cs) ≡ numbered m cs
taken_other n m [] other = refl
taken_other n m (c ∷ cs) other =
    by_number _ c.number n
    (λ is e.
    ap (λ (b : Bool). numbered m (cond (not b) (c ∷ taken_out n cs) (taken_out n cs))) e
    ∙ taken_other n m cs other
    ∙ sym (first_not c cs m (unlike c.number n m is other)))
    (λ e.
    ap (λ (b : Bool). numbered m (cond (not b) (c ∷ taken_out n cs) (taken_out n cs))) e
    ∙ ap (λ o. cond (eqb c.number m) (Some c) o) (taken_other n m cs other))

pub added_here : (c : Connection) (cs : List Connection) → numbered c.number cs ≡ None → numbered c.number (cs ++ c ∷ []) ≡ Some c
added_here c [] none = first_is c [] c.number (eq-eqb c.number c.number refl)
added_here c (d ∷ cs) none =
    by_number _ d.number c.number
    (λ is e. let bad : Some d ≡ None = sym (first_is d cs c.number e) ∙ none in absurd (cc))
    (λ e. first_not d (cs ++ c ∷ []) c.number e ∙ added_here c cs (sym (first_not d cs c.number e) ∙ none))

pub added_other : (c : Connection) (m : ℕ) (cs : List Connection) → m ≢ c.number → numbered m (cs ++ c ∷ []) ≡ numbered m cs
added_other c m [] other = first_not c [] m (unlike c.number c.number m refl other)
added_other c m (d ∷ cs) other = ap (λ o. cond (eqb d.number m) (Some d) o) (added_other c m cs other)
