-- One connection of a pool changes, is taken out, or is added: what is found by a number, and all numbers.
use Rattle.std.proofs.Common.{◌≡◌, ◌≢◌, ◌∙◌, ℕ, Bool, true, false, not, List, [], ◌∷◌, ◌++◌, Some, None, refl, sym, ap, cond, ⊎_elim}
use Rattle.std.proofs.Math.Dec.{eqb}
use Rattle.std.proofs.lemmas.Bool.{eq-eqb}
use Rattle.std.proofs.lemmas.Bool.Decides.{eqb_tells}
use Rattle.std.specs.Prelude.{option_map}
use Rattle.tds_pool.specs.Calls.{all_numbers}
use Rattle.tds_pool.specs.Connections.{Connection, changed_in, numbered, taken_out}

-- The pool has the same under each other number.
abbrev pub SameBut : ℕ → List Connection → List Connection → Type 0
SameBut number old new = (m : ℕ) → m ≢ number → numbered m new ≡ numbered m old

abbrev pub KeepsNumber : (Connection → Connection) → Type 0
KeepsNumber f = (c : Connection) → (f c).number ≡ c.number

-- A number is this one, or not.
pub by_number : (Q : Type 0) (a n : ℕ) → (a ≡ n → eqb a n ≡ true → Q) → (a ≢ n → eqb a n ≡ false → Q) → Q
by_number Q a n same other = ⊎_elim (λ t. same t.1 (eq-eqb a n t.1)) (λ t. other t.1 t.0) (eqb_tells a n)

unlike : (a n : ℕ) → a ≢ n → eqb a n ≡ false
unlike a n other = by_number _ a n (λ is e. absurd (other is)) (λ is e. e)

-- The first one has this number, or another.
pub first_is : (c : Connection) (cs : List Connection) (n : ℕ) → c.number ≡ n → numbered n (c ∷ cs) ≡ Some c
first_is c cs n is = ap (λ (b : Bool). cond b (Some c) (numbered n cs)) (eq-eqb c.number n is)

pub first_not : (c : Connection) (cs : List Connection) (n : ℕ) → c.number ≢ n → numbered n (c ∷ cs) ≡ numbered n cs
first_not c cs n other = ap (λ (b : Bool). cond b (Some c) (numbered n cs)) (unlike c.number n other)

-- ---- A change

either_number : (b : Bool) (f : Connection → Connection) (c : Connection) → KeepsNumber f → (cond b (f c) c).number ≡ c.number
either_number true f c keeps = keeps c
either_number false f c keeps = refl

pub changed_here : (n : ℕ) (f : Connection → Connection) (cs : List Connection) → KeepsNumber f → numbered n (changed_in n f cs) ≡ option_map f (numbered n cs)
changed_here n f [] keeps = refl
changed_here n f (c ∷ cs) keeps =
    let number : (cond (eqb c.number n) (f c) c).number ≡ c.number = either_number (eqb c.number n) f c keeps in
    by_number _ c.number n
    (λ is e.
    first_is (cond (eqb c.number n) (f c) c) (changed_in n f cs) n (number ∙ is)
    ∙ ap (λ (b : Bool). Some (cond b (f c) c)) e
    ∙ sym (ap (option_map f) (first_is c cs n is)))
    (λ other e.
    first_not (cond (eqb c.number n) (f c) c) (changed_in n f cs) n (λ is. other (sym number ∙ is))
    ∙ changed_here n f cs keeps
    ∙ sym (ap (option_map f) (first_not c cs n other)))

pub changed_others : (n : ℕ) (f : Connection → Connection) (cs : List Connection) → KeepsNumber f → SameBut n cs (changed_in n f cs)
changed_others n f [] keeps m other = refl
changed_others n f (c ∷ cs) keeps m other =
    let number : (cond (eqb c.number n) (f c) c).number ≡ c.number = either_number (eqb c.number n) f c keeps in
    by_number _ c.number m
    (λ is e.
    first_is (cond (eqb c.number n) (f c) c) (changed_in n f cs) m (number ∙ is)
    ∙ ap (λ (b : Bool). Some (cond b (f c) c)) (unlike c.number n (λ same. other (sym is ∙ same)))
    ∙ sym (first_is c cs m is))
    (λ far e.
    first_not (cond (eqb c.number n) (f c) c) (changed_in n f cs) m (λ is. far (sym number ∙ is))
    ∙ changed_others n f cs keeps m other
    ∙ sym (first_not c cs m far))

pub changed_numbers : (n : ℕ) (f : Connection → Connection) (cs : List Connection) → KeepsNumber f → all_numbers (changed_in n f cs) ≡ all_numbers cs
changed_numbers n f [] keeps = refl
changed_numbers n f (c ∷ cs) keeps =
    ap (λ (m : ℕ). m ∷ all_numbers (changed_in n f cs)) (either_number (eqb c.number n) f c keeps)
    ∙ ap (λ (ms : List ℕ). c.number ∷ ms) (changed_numbers n f cs keeps)

-- ---- One that is taken out

pub taken_first : (n : ℕ) (c : Connection) (cs : List Connection) → c.number ≡ n → taken_out n (c ∷ cs) ≡ taken_out n cs
taken_first n c cs is = ap (λ (b : Bool). cond (not b) (c ∷ taken_out n cs) (taken_out n cs)) (eq-eqb c.number n is)

pub taken_later : (n : ℕ) (c : Connection) (cs : List Connection) → c.number ≢ n → taken_out n (c ∷ cs) ≡ c ∷ taken_out n cs
taken_later n c cs other = ap (λ (b : Bool). cond (not b) (c ∷ taken_out n cs) (taken_out n cs)) (unlike c.number n other)

pub taken_gone : (n : ℕ) (cs : List Connection) → numbered n (taken_out n cs) ≡ None
taken_gone n [] = refl
taken_gone n (c ∷ cs) =
    by_number _ c.number n
    (λ is e. ap (numbered n) (taken_first n c cs is) ∙ taken_gone n cs)
    (λ other e. ap (numbered n) (taken_later n c cs other) ∙ first_not c (taken_out n cs) n other ∙ taken_gone n cs)

pub taken_others : (n : ℕ) (cs : List Connection) → SameBut n cs (taken_out n cs)
taken_others n [] m other = refl
taken_others n (c ∷ cs) m other =
    by_number _ c.number n
    (λ is e. ap (numbered m) (taken_first n c cs is) ∙ taken_others n cs m other ∙ sym (first_not c cs m (λ same. other (sym same ∙ is))))
    (λ far e.
    ap (numbered m) (taken_later n c cs far)
    ∙ ap (λ o. cond (eqb c.number m) (Some c) o) (taken_others n cs m other))

-- Where there is none of this number, nothing goes.
pub taken_none : (n : ℕ) (cs : List Connection) → numbered n cs ≡ None → taken_out n cs ≡ cs
taken_none n [] none = refl
taken_none n (c ∷ cs) none =
    by_number _ c.number n
    (λ is e. let bad : Some c ≡ None = sym (first_is c cs n is) ∙ none in absurd (cc))
    (λ other e. taken_later n c cs other ∙ ap (λ xs. c ∷ xs) (taken_none n cs (sym (first_not c cs n other) ∙ none)))

-- ---- One that is added

pub added_here : (c : Connection) (cs : List Connection) → numbered c.number cs ≡ None → numbered c.number (cs ++ c ∷ []) ≡ Some c
added_here c [] none = first_is c [] c.number refl
added_here c (d ∷ cs) none =
    by_number _ d.number c.number
    (λ is e. let bad : Some d ≡ None = sym (first_is d cs c.number is) ∙ none in absurd (cc))
    (λ other e. first_not d (cs ++ c ∷ []) c.number other ∙ added_here c cs (sym (first_not d cs c.number other) ∙ none))

pub added_others : (c : Connection) (cs : List Connection) → SameBut c.number cs (cs ++ c ∷ [])
added_others c [] m other = first_not c [] m (λ same. other (sym same))
added_others c (d ∷ cs) m other = ap (λ o. cond (eqb d.number m) (Some d) o) (added_others c cs m other)

pub added_numbers : (c : Connection) (cs : List Connection) → all_numbers (cs ++ c ∷ []) ≡ all_numbers cs ++ c.number ∷ []
added_numbers c [] = refl
added_numbers c (d ∷ cs) = ap (λ (ms : List ℕ). d.number ∷ ms) (added_numbers c cs)

-- It is taken out again.
pub taken_added : (c : Connection) (cs : List Connection) → numbered c.number cs ≡ None → taken_out c.number (cs ++ c ∷ []) ≡ cs
taken_added c [] none = taken_first c.number c [] refl
taken_added c (d ∷ cs) none =
    by_number _ d.number c.number
    (λ is e. let bad : Some d ≡ None = sym (first_is d cs c.number is) ∙ none in absurd (cc))
    (λ other e. taken_later c.number d (cs ++ c ∷ []) other ∙ ap (λ xs. d ∷ xs) (taken_added c cs (sym (first_not d cs c.number other) ∙ none)))
