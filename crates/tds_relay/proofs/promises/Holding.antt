-- Lists of what applications hold.
use Rattle.std.proofs.Common.{◌≡◌, ◌∙◌, ◌==◌, ◌<◌, ◌≤◌, ℕ, Bool, true, false, List, [], ◌∷◌, ◌++◌, refl, sym, ap, subst, arith}
use Rattle.std.specs.Prelude.{Some, None, filter, if◌then◌else◌}
use Rattle.std.proofs.lemmas.Bool.{eqb-true, eq-eqb}
use Rattle.tds_relay.specs.declared.pool.Hold.{Hold}
use Rattle.tds_relay.specs.Pool.{find_key, find_lease}

-- Each was lent behind the one before: its lease is larger.
abbrev pub Rising : ℕ → ℕ → List Hold → Type 0
Rising low high [] = low ≤ high
Rising low high (h ∷ hs) = (low < h.lease) × Rising h.lease high hs

pub rising_more : (low high more : ℕ) (hs : List Hold) → high ≤ more → Rising low high hs → Rising low more hs
rising_more low high more [] le h = omega arith
rising_more low high more (x ∷ xs) le h = (h.0, rising_more x.lease high more xs le h.1)

rising_from : (low less high : ℕ) (hs : List Hold) → less ≤ low → Rising low high hs → Rising less high hs
rising_from low less high [] le h = omega arith
rising_from low less high (x ∷ xs) le h = let lt : low < x.lease = h.0 in (omega arith, h.1)

kept_rising : (p : Hold → Bool) (low high : ℕ) (x : Hold) (ys : List Hold) (b : Bool) → low < x.lease → Rising x.lease high ys → Rising low high (if b then x ∷ ys else ys)
kept_rising p low high x ys true lt h = (lt, h)
kept_rising p low high x ys false lt h = rising_from x.lease low high ys (omega arith) h

pub rising_filtered : (p : Hold → Bool) (low high : ℕ) (hs : List Hold) → Rising low high hs → Rising low high (filter p hs)
rising_filtered p low high [] h = h
rising_filtered p low high (x ∷ xs) h = kept_rising p low high x (filter p xs) (p x) h.0 (rising_filtered p x.lease high xs h.1)

pub rising_added : (low high : ℕ) (x : Hold) (hs : List Hold) → Rising low high hs → high < x.lease → Rising low x.lease (hs ++ x ∷ [])
rising_added low high x [] h lt = let le : low ≤ high = h in (omega arith, (let u : x.lease ≤ x.lease = omega arith in u))
rising_added low high x (y ∷ ys) h lt = (h.0, rising_added y.lease high x ys h.1 lt)

-- ---- What is found

lease_by : (l : ℕ) (h x : Hold) (xs : List Hold) (b : Bool) → (x.lease == l) ≡ b → (if b then Some x else find_lease l xs) ≡ Some h → (find_lease l xs ≡ Some h → h.lease ≡ l) → h.lease ≡ l
lease_by l h x xs true e f ih = let same : x ≡ h = cc in ap (λ (y : Hold). y.lease) (sym same) ∙ eqb-true x.lease l e
lease_by l h x xs false e f ih = ih f

pub found_lease : (l : ℕ) (h : Hold) (hs : List Hold) → find_lease l hs ≡ Some h → h.lease ≡ l
found_lease l h [] e = absurd (let u : ⊥ = cc in u)
found_lease l h (x ∷ xs) e = lease_by l h x xs (x.lease == l) refl e (λ f. found_lease l h xs f)

pub up_to : (low high : ℕ) (hs : List Hold) → Rising low high hs → low ≤ high
up_to low high [] h = h
up_to low high (x ∷ xs) h = let le = up_to x.lease high xs h.1 in let lt : low < x.lease = h.0 in omega arith

-- none has a lease that is not above the first, nor one above the last
pub none_below : (low high l : ℕ) (hs : List Hold) → Rising low high hs → l ≤ low → find_lease l hs ≡ None
none_below low high l [] h le = refl
none_below low high l (x ∷ xs) h le =
    let lt : low < x.lease = h.0 in
    let other : (x.lease == l) ≡ false = grind arith in
    rw other (none_below x.lease high l xs h.1 (omega arith))

pub none_above : (low high l : ℕ) (hs : List Hold) → Rising low high hs → high < l → find_lease l hs ≡ None
none_above low high l [] h lt = refl
none_above low high l (x ∷ xs) h lt =
    let le : x.lease ≤ high = up_to x.lease high xs h.1 in
    let other : (x.lease == l) ≡ false = grind arith in
    rw other (none_above x.lease high l xs h.1 lt)

above_by : (key low : ℕ) (h x : Hold) (xs : List Hold) (b : Bool) → low < x.lease → (if b then Some x else find_key key xs) ≡ Some h → (find_key key xs ≡ Some h → x.lease < h.lease) → low < h.lease
above_by key low h x xs true lt f ih = let same : x ≡ h = cc in subst (λ (y : Hold). low < y.lease) same lt
above_by key low h x xs false lt f ih = let more : x.lease < h.lease = ih f in omega arith

found_above : (key low high : ℕ) (h : Hold) (hs : List Hold) → Rising low high hs → find_key key hs ≡ Some h → low < h.lease
found_above key low high h [] r e = absurd (let u : ⊥ = cc in u)
found_above key low high h (x ∷ xs) r e = above_by key low h x xs (x.key == key) r.0 e (λ f. found_above key x.lease high h xs r.1 f)

by_lease : (key : ℕ) (h x : Hold) (xs : List Hold) (b : Bool) → (if b then Some x else find_key key xs) ≡ Some h → (find_key key xs ≡ Some h → x.lease < h.lease)
    → (find_key key xs ≡ Some h → find_lease h.lease xs ≡ Some h) → find_lease h.lease (x ∷ xs) ≡ Some h
by_lease key h x xs true f lt ih =
    let same : x ≡ h = cc in
    let here : (x.lease == h.lease) ≡ true = eq-eqb x.lease h.lease (ap (λ (y : Hold). y.lease) same) in
    rw here (ap (λ (y : Hold). Some y) same)
by_lease key h x xs false f lt ih =
    let more : x.lease < h.lease = lt f in
    let other : (x.lease == h.lease) ≡ false = grind arith in
    rw other (ih f)

-- what an application holds is what is held by its lease
pub found_by_lease : (key low high : ℕ) (h : Hold) (hs : List Hold) → Rising low high hs → find_key key hs ≡ Some h → find_lease h.lease hs ≡ Some h
found_by_lease key low high h [] r e = absurd (let u : ⊥ = cc in u)
found_by_lease key low high h (x ∷ xs) r e =
    by_lease key h x xs (x.key == key) e (λ f. found_above key x.lease high h xs r.1 f) (λ f. found_by_lease key x.lease high h xs r.1 f)

-- ---- One more

added_some_by : (l : ℕ) (h x y : Hold) (ys : List Hold) (b : Bool) → (if b then Some y else find_lease l ys) ≡ Some h → (find_lease l ys ≡ Some h → find_lease l (ys ++ x ∷ []) ≡ Some h)
    → (if b then Some y else find_lease l (ys ++ x ∷ [])) ≡ Some h
added_some_by l h x y ys true e ih = e
added_some_by l h x y ys false e ih = ih e

pub added_some : (l : ℕ) (h x : Hold) (hs : List Hold) → find_lease l hs ≡ Some h → find_lease l (hs ++ x ∷ []) ≡ Some h
added_some l h x [] e = absurd (let u : ⊥ = cc in u)
added_some l h x (y ∷ ys) e = added_some_by l h x y ys (y.lease == l) e (λ f. added_some l h x ys f)

none_here : (l : ℕ) (y : Hold) (ys : List Hold) (b : Bool) → (y.lease == l) ≡ b → (if b then Some y else find_lease l ys) ≡ None → ((y.lease == l) ≡ false) × (find_lease l ys ≡ None)
none_here l y ys true e h = absurd (let u : ⊥ = cc in u)
none_here l y ys false e h = (e, h)

pub added_none : (l : ℕ) (x : Hold) (hs : List Hold) → find_lease l hs ≡ None → (x.lease == l) ≡ false → find_lease l (hs ++ x ∷ []) ≡ None
added_none l x [] e other = rw other refl
added_none l x (y ∷ ys) e other =
    let n = none_here l y ys (y.lease == l) refl e in
    rw n.0 (added_none l x ys n.1 other)

pub added_new : (x : Hold) (hs : List Hold) → find_lease x.lease hs ≡ None → find_lease x.lease (hs ++ x ∷ []) ≡ Some x
added_new x [] e = let here : (x.lease == x.lease) ≡ true = eq-eqb x.lease x.lease refl in rw here refl
added_new x (y ∷ ys) e =
    let n = none_here x.lease y ys (y.lease == x.lease) refl e in
    rw n.0 (added_new x ys n.1)

-- ---- Some left out

filtered_some_by : (p : Hold → Bool) (l : ℕ) (h y : Hold) (ys : List Hold) (b : Bool) (k : Bool) → (y.lease == l) ≡ b → p y ≡ k → (if b then Some y else find_lease l ys) ≡ Some h → p h ≡ true
    → (find_lease l ys ≡ Some h → find_lease l (filter p ys) ≡ Some h) → find_lease l (if k then y ∷ filter p ys else filter p ys) ≡ Some h
filtered_some_by p l h y ys true true e q f kept ih = rw e f
filtered_some_by p l h y ys true false e q f kept ih =
    let same : y ≡ h = cc in
    absurd (let u : true ≡ false = sym kept ∙ ap p (sym same) ∙ q in let v : ⊥ = cc in v)
filtered_some_by p l h y ys false true e q f kept ih = rw e (ih f)
filtered_some_by p l h y ys false false e q f kept ih = ih f

pub filtered_some : (p : Hold → Bool) (l : ℕ) (h : Hold) (hs : List Hold) → find_lease l hs ≡ Some h → p h ≡ true → find_lease l (filter p hs) ≡ Some h
filtered_some p l h [] e kept = absurd (let u : ⊥ = cc in u)
filtered_some p l h (y ∷ ys) e kept = filtered_some_by p l h y ys (y.lease == l) (p y) refl refl e kept (λ f. filtered_some p l h ys f kept)

filtered_none_by : (p : Hold → Bool) (l : ℕ) (y : Hold) (ys : List Hold) (k : Bool) → (y.lease == l) ≡ false → find_lease l (filter p ys) ≡ None
    → find_lease l (if k then y ∷ filter p ys else filter p ys) ≡ None
filtered_none_by p l y ys true e ih = rw e ih
filtered_none_by p l y ys false e ih = ih

pub filtered_none : (p : Hold → Bool) (l : ℕ) (hs : List Hold) → find_lease l hs ≡ None → find_lease l (filter p hs) ≡ None
filtered_none p l [] e = refl
filtered_none p l (y ∷ ys) e =
    let n = none_here l y ys (y.lease == l) refl e in
    filtered_none_by p l y ys (p y) n.0 (filtered_none p l ys n.1)
