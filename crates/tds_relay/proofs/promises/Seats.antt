-- Lists of connections, in which one is changed.
use Rattle.std.proofs.Common.{◌≡◌, ◌==◌, ◌<◌, ◌≤◌, ℕ, Bool, true, false, List, [], ◌∷◌, ◌++◌, refl, sym, subst, arith}
use Rattle.std.specs.Prelude.{Option, Some, None, if◌then◌else◌}
use Rattle.tds_service.specs.Line.{Line}
use Rattle.tds_service.specs.Service.{Place, Seat, find_by, change_by, placed, has_number}
use Rattle.tds_relay.specs.Promises.{Each}

pub each_weaker : {X : Type 0} (P Q : X → Type 0) → ((x : X) → P x → Q x) → (xs : List X) → Each P xs → Each Q xs
each_weaker P Q f [] h = tt
each_weaker P Q f (x ∷ xs) h = (f x h.0, each_weaker P Q f xs h.1)

pub each_added : {X : Type 0} (P : X → Type 0) (x : X) (xs : List X) → Each P xs → P x → Each P (xs ++ x ∷ [])
each_added P x [] h p = (p, tt)
each_added P x (y ∷ ys) h p = (h.0, each_added P x ys h.1 p)

-- No two connections have one number.
abbrev pub Distinct : List Seat → Type 0
Distinct [] = Unit {0}
Distinct (c ∷ cs) = (find_by (has_number c.number) cs ≡ None) × Distinct cs

abbrev pub Fits : (Seat → Type 0) → ℕ → Option Place → Line → Type 0
Fits Q n None l = Unit {0}
Fits Q n (Some place) l = Q (record { number = n; place = place; line = l })

-- ---- What isn't found

none_by : (test : Seat → Bool) (d : Seat) (ds : List Seat) (b : Bool) → test d ≡ b → (if b then Some d else find_by test ds) ≡ None → (test d ≡ false) × (find_by test ds ≡ None)
none_by test d ds true e h = absurd (let u : ⊥ = cc in u)
none_by test d ds false e h = (e, h)

pub none_of : (test : Seat → Bool) (d : Seat) (ds : List Seat) → find_by test (d ∷ ds) ≡ None → (test d ≡ false) × (find_by test ds ≡ None)
none_of test d ds h = none_by test d ds (test d) refl h

-- each of them fails the test
pub each_fails : (P : Seat → Type 0) (Q : Seat → Type 0) (test : Seat → Bool) → ((d : Seat) → P d → test d ≡ false → Q d) → (cs : List Seat) → Each P cs → find_by test cs ≡ None → Each Q cs
each_fails P Q test f [] h e = tt
each_fails P Q test f (d ∷ ds) h e =
    let n = none_of test d ds e in
    (f d h.0 n.0, each_fails P Q test f ds h.1 n.1)

-- ---- What is found

found_one : (test : Seat → Bool) (c d : Seat) (ds : List Seat) (b : Bool) → test d ≡ b → (if b then Some d else find_by test ds) ≡ Some c → (P : Seat → Type 0)
    → (d ≡ c → test d ≡ true → P c) → (find_by test ds ≡ Some c → P c) → P c
found_one test c d ds true e h P here there = here (let same : d ≡ c = cc in same) e
found_one test c d ds false e h P here there = there h

-- it is one of them, and meets the test
pub each_found : (P : Seat → Type 0) (test : Seat → Bool) (c : Seat) (cs : List Seat) → Each P cs → find_by test cs ≡ Some c → P c
each_found P test c [] h e = absurd (let u : ⊥ = cc in u)
each_found P test c (d ∷ ds) h e =
    found_one test c d ds (test d) refl e P (λ same t. subst P same h.0) (λ f. each_found P test c ds h.1 f)

pub found_meets : (test : Seat → Bool) (c : Seat) (cs : List Seat) → find_by test cs ≡ Some c → test c ≡ true
found_meets test c [] e = absurd (let u : ⊥ = cc in u)
found_meets test c (d ∷ ds) e =
    let P : Seat → Type 0 = λ x. test x ≡ true in
    found_one test c d ds (test d) refl e P (λ same t. subst P same t) (λ f. found_meets test c ds f)

-- one that is found isn't that of which there is none
pub found_other : (test other : Seat → Bool) (c : Seat) (cs : List Seat) → find_by test cs ≡ Some c → find_by other cs ≡ None → other c ≡ false
found_other test other c [] e h = absurd (let u : ⊥ = cc in u)
found_other test other c (d ∷ ds) e h =
    let n = none_of other d ds h in
    let P : Seat → Type 0 = λ x. other x ≡ false in
    found_one test c d ds (test d) refl e P (λ same t. subst P same n.0) (λ f. found_other test other c ds f n.1)

-- ---- What is changed

pub flipped : (a b : ℕ) → (a == b) ≡ false → (b == a) ≡ false
flipped a b h = grind arith

changed_by : (P Q : Seat → Type 0) (test : Seat → Bool) (place : Option Place) (l : Line) (c d : Seat) (ds : List Seat) (b : Bool) → test d ≡ b
    → (if b then Some d else find_by test ds) ≡ Some c → find_by (has_number d.number) ds ≡ None → P d → Each P ds
    → ((x : Seat) → P x → (x.number == c.number) ≡ false → Q x) → Fits Q c.number place l
    → (find_by test ds ≡ Some c → Each Q (change_by test place l ds)) → Each Q (if b then placed d.number place l ds else d ∷ change_by test place l ds)
changed_by P Q test None l c d ds true e h none p ps f new ih =
    let same : d ≡ c = cc in
    each_fails P Q (has_number d.number) (λ x px other. f x px (subst (λ (y : Seat). (x.number == y.number) ≡ false) same other)) ds ps none
changed_by P Q test (Some place) l c d ds true e h none p ps f new ih =
    let same : d ≡ c = cc in (
      subst (λ (y : Seat). Q (record { number = y.number; place = place; line = l })) (sym same) new,
      each_fails P Q (has_number d.number) (λ x px other. f x px (subst (λ (y : Seat). (x.number == y.number) ≡ false) same other)) ds ps none,
    )
changed_by P Q test place l c d ds false e h none p ps f new ih =
    let other : (c.number == d.number) ≡ false = found_other test (has_number d.number) c ds h none in
    (f d p (flipped c.number d.number other), ih h)

pub each_changed : (P Q : Seat → Type 0) (test : Seat → Bool) (place : Option Place) (l : Line) (c : Seat) (cs : List Seat) → find_by test cs ≡ Some c → Distinct cs → Each P cs
    → ((x : Seat) → P x → (x.number == c.number) ≡ false → Q x) → Fits Q c.number place l → Each Q (change_by test place l cs)
each_changed P Q test place l c [] e distinct h f new = absurd (let u : ⊥ = cc in u)
each_changed P Q test place l c (d ∷ ds) e distinct h f new =
    changed_by P Q test place l c d ds (test d) refl e distinct.0 h.0 h.1 f new (λ g. each_changed P Q test place l c ds g distinct.1 h.1 f new)

-- ---- Numbers stay apart

placed_none : (n m : ℕ) (place : Option Place) (l : Line) (cs : List Seat) → (m == n) ≡ false → find_by (has_number n) cs ≡ None → find_by (has_number n) (placed m place l cs) ≡ None
placed_none n m None l cs other h = h
placed_none n m (Some place) l cs other h = rw other h

none_changed_by : (n : ℕ) (test : Seat → Bool) (place : Option Place) (l : Line) (d : Seat) (ds : List Seat) (b : Bool) → (d.number == n) ≡ false → find_by (has_number n) ds ≡ None
    → find_by (has_number n) (change_by test place l ds) ≡ None → find_by (has_number n) (if b then placed d.number place l ds else d ∷ change_by test place l ds) ≡ None
none_changed_by n test place l d ds true other h ih = placed_none n d.number place l ds other h
none_changed_by n test place l d ds false other h ih = rw other ih

pub none_changed : (n : ℕ) (test : Seat → Bool) (place : Option Place) (l : Line) (cs : List Seat) → find_by (has_number n) cs ≡ None → find_by (has_number n) (change_by test place l cs) ≡ None
none_changed n test place l [] h = refl
none_changed n test place l (d ∷ ds) h =
    let m = none_of (has_number n) d ds h in
    none_changed_by n test place l d ds (test d) m.0 m.1 (none_changed n test place l ds m.1)

placed_distinct : (m : ℕ) (place : Option Place) (l : Line) (cs : List Seat) → find_by (has_number m) cs ≡ None → Distinct cs → Distinct (placed m place l cs)
placed_distinct m None l cs h distinct = distinct
placed_distinct m (Some place) l cs h distinct = (h, distinct)

distinct_by : (test : Seat → Bool) (place : Option Place) (l : Line) (d : Seat) (ds : List Seat) (b : Bool) → find_by (has_number d.number) ds ≡ None → Distinct ds
    → Distinct (change_by test place l ds) → Distinct (if b then placed d.number place l ds else d ∷ change_by test place l ds)
distinct_by test place l d ds true h distinct ih = placed_distinct d.number place l ds h distinct
distinct_by test place l d ds false h distinct ih = (none_changed d.number test place l ds h, ih)

pub distinct_changed : (test : Seat → Bool) (place : Option Place) (l : Line) (cs : List Seat) → Distinct cs → Distinct (change_by test place l cs)
distinct_changed test place l [] distinct = tt
distinct_changed test place l (d ∷ ds) distinct =
    distinct_by test place l d ds (test d) distinct.0 distinct.1 (distinct_changed test place l ds distinct.1)

none_added : (n : ℕ) (c : Seat) (cs : List Seat) → find_by (has_number n) cs ≡ None → (c.number == n) ≡ false → find_by (has_number n) (cs ++ c ∷ []) ≡ None
none_added n c [] h other = rw other refl
none_added n c (d ∷ ds) h other =
    let m = none_of (has_number n) d ds h in
    rw m.0 (none_added n c ds m.1 other)

-- one more, with a number above all
pub distinct_added : (last : ℕ) (c : Seat) (cs : List Seat) → Distinct cs → Each (λ (d : Seat). d.number ≤ last) cs → last < c.number → Distinct (cs ++ c ∷ [])
distinct_added last c [] distinct h lt = (refl, tt)
distinct_added last c (d ∷ ds) distinct h lt =
    let le : d.number ≤ last = h.0 in
    let other : (c.number == d.number) ≡ false = grind arith in
    (none_added d.number c ds distinct.0 other, distinct_added last c ds distinct.1 h.1 lt)
