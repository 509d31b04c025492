-- What an application holds, and its places in the line, in lists that are filtered and added to.
use Rattle.std.proofs.Common.{◌≡◌, ◌∙◌, ◌==◌, ℕ, Bool, true, false, List, [], ◌∷◌, ◌++◌, refl, sym, ap, subst, inl, inr}
use Rattle.std.specs.Prelude.{Option, Some, None, ◌⊎◌, filter, if◌then◌else◌}
use Rattle.std.proofs.lemmas.Bool.{eq-eqb}
use Rattle.std.proofs.lemmas.List.Elements.{filter-append}
use Rattle.tds_relay.specs.declared.pool.Hold.{Hold}
use Rattle.tds_relay.specs.Pool.{find_key, find_lease}

abbrev pub theirs : ℕ → List Hold → List Hold
theirs key hs = filter (λ (h : Hold). h.key == key) hs

abbrev pub places : ℕ → List ℕ → List ℕ
places key line = filter (λ (k : ℕ). k == key) line

comm_by : {X : Type 0} (p q : X → Bool) (x : X) (xs : List X) (a b : Bool) → p x ≡ a → q x ≡ b → filter p (filter q xs) ≡ filter q (filter p xs)
    → filter p (if b then x ∷ filter q xs else filter q xs) ≡ filter q (if a then x ∷ filter p xs else filter p xs)
comm_by {X} p q x xs true true e f ih = rw (e, f) (ap (λ (ys : List X). x ∷ ys) ih)
comm_by p q x xs true false e f ih = rw f ih
comm_by p q x xs false true e f ih = rw e ih
comm_by p q x xs false false e f ih = ih

pub comm : {X : Type 0} (p q : X → Bool) (xs : List X) → filter p (filter q xs) ≡ filter q (filter p xs)
comm p q [] = refl
comm p q (x ∷ xs) = comm_by p q x xs (p x) (q x) refl refl (comm p q xs)

meets_by : {X : Type 0} (p : X → Bool) (x y : X) (xs ys : List X) (b : Bool) → p x ≡ b → (if b then x ∷ filter p xs else filter p xs) ≡ y ∷ ys
    → (filter p xs ≡ y ∷ ys → p y ≡ true) → p y ≡ true
meets_by {X} p x y xs ys true e h ih = let same : x ≡ y = cc in subst (λ (z : X). p z ≡ true) same e
meets_by p x y xs ys false e h ih = ih h

-- what is kept meets the test
pub meets : {X : Type 0} (p : X → Bool) (y : X) (xs ys : List X) → filter p xs ≡ y ∷ ys → p y ≡ true
meets p y [] ys e = absurd (let u : ⊥ = cc in u)
meets p y (x ∷ xs) ys e = meets_by p x y xs ys (p x) refl e (λ f. meets p y xs ys f)

-- ---- The first that it holds

abbrev head_of : List Hold → Option Hold
head_of [] = None
head_of (h ∷ hs) = Some h

head_by : (key : ℕ) (x : Hold) (xs : List Hold) (b : Bool) → find_key key xs ≡ head_of (theirs key xs)
    → (if b then Some x else find_key key xs) ≡ head_of (if b then x ∷ theirs key xs else theirs key xs)
head_by key x xs true ih = refl
head_by key x xs false ih = ih

found_head : (key : ℕ) (hs : List Hold) → find_key key hs ≡ head_of (theirs key hs)
found_head key [] = refl
found_head key (x ∷ xs) = head_by key x xs (x.key == key) (found_head key xs)

none_head : (ys : List Hold) → head_of ys ≡ None → ys ≡ []
none_head [] e = refl
none_head (y ∷ ys) e = absurd (let u : ⊥ = cc in u)

pub none_theirs : (key : ℕ) (hs : List Hold) → find_key key hs ≡ None → theirs key hs ≡ []
none_theirs key hs e = none_head (theirs key hs) (sym (found_head key hs) ∙ e)

pub theirs_none : (key : ℕ) (hs : List Hold) → theirs key hs ≡ [] → find_key key hs ≡ None
theirs_none key hs e = found_head key hs ∙ ap head_of e

pub theirs_found : (key : ℕ) (h : Hold) (hs : List Hold) → theirs key hs ≡ h ∷ [] → find_key key hs ≡ Some h
theirs_found key h hs e = found_head key hs ∙ ap head_of e

key_by : (key : ℕ) (h x : Hold) (xs : List Hold) (b : Bool) → (x.key == key) ≡ b → (if b then Some x else find_key key xs) ≡ Some h
    → (find_key key xs ≡ Some h → (h.key == key) ≡ true) → (h.key == key) ≡ true
key_by key h x xs true e f ih = let same : x ≡ h = cc in subst (λ (y : Hold). (y.key == key) ≡ true) same e
key_by key h x xs false e f ih = ih f

pub found_key : (key : ℕ) (h : Hold) (hs : List Hold) → find_key key hs ≡ Some h → (h.key == key) ≡ true
found_key key h [] e = absurd (let u : ⊥ = cc in u)
found_key key h (x ∷ xs) e = key_by key h x xs (x.key == key) refl e (λ f. found_key key h xs f)

-- ---- What is held by a lease is among what its application holds

abbrev pub Among : Hold → List Hold → Type 0
Among x [] = ⊥
Among x (y ∷ ys) = (x ≡ y) ⊎ Among x ys

among_by : (l key : ℕ) (x y : Hold) (ys : List Hold) (a b : Bool) → (y.key == key) ≡ b → (if a then Some y else find_lease l ys) ≡ Some x → (x.key == key) ≡ true
    → (find_lease l ys ≡ Some x → Among x (theirs key ys)) → Among x (if b then y ∷ theirs key ys else theirs key ys)
among_by l key x y ys true true e f k ih = inl (let same : x ≡ y = cc in same)
among_by l key x y ys true false e f k ih =
    let same : x ≡ y = cc in
    absurd (let u : true ≡ false = sym k ∙ ap (λ (z : Hold). z.key == key) same ∙ e in let v : ⊥ = cc in v)
among_by l key x y ys false true e f k ih = inr (ih f)
among_by l key x y ys false false e f k ih = ih f

pub among : (l key : ℕ) (x : Hold) (hs : List Hold) → find_lease l hs ≡ Some x → (x.key == key) ≡ true → Among x (theirs key hs)
among l key x [] e k = absurd (let u : ⊥ = cc in u)
among l key x (y ∷ ys) e k = among_by l key x y ys (y.lease == l) (y.key == key) refl e k (λ f. among l key x ys f k)

one_of : (x h : Hold) → (x ≡ h) ⊎ ⊥ → x ≡ h
one_of x h (inl same) = same
one_of x h (inr never) = absurd never

pub among_one : (x h : Hold) (hs : List Hold) → hs ≡ h ∷ [] → Among x hs → x ≡ h
among_one x h hs e a = one_of x h (subst (Among x) e a)

-- ---- Filtered and added to

kept_by : {X : Type 0} (p : X → Bool) (x : X) (b : Bool) → p x ≡ b → b ≡ true → (if b then x ∷ [] else []) ≡ x ∷ []
kept_by p x true e f = refl
kept_by p x false e f = absurd (let u : ⊥ = cc in u)

left_by : {X : Type 0} (p : X → Bool) (x : X) (b : Bool) → b ≡ false → (if b then x ∷ [] else []) ≡ []
left_by p x true f = absurd (let u : ⊥ = cc in u)
left_by p x false f = refl

pub theirs_kept : (key : ℕ) (h : Hold) (p : Hold → Bool) (hs : List Hold) → theirs key hs ≡ h ∷ [] → p h ≡ true → theirs key (filter p hs) ≡ h ∷ []
theirs_kept key h p hs e f = comm (λ (x : Hold). x.key == key) p hs ∙ ap (λ (ys : List Hold). filter p ys) e ∙ kept_by p h (p h) refl f

pub theirs_left : (key : ℕ) (h : Hold) (p : Hold → Bool) (hs : List Hold) → theirs key hs ≡ h ∷ [] → p h ≡ false → theirs key (filter p hs) ≡ []
theirs_left key h p hs e f = comm (λ (x : Hold). x.key == key) p hs ∙ ap (λ (ys : List Hold). filter p ys) e ∙ left_by p h (p h) f

pub theirs_still : (key : ℕ) (p : Hold → Bool) (hs : List Hold) → theirs key hs ≡ [] → theirs key (filter p hs) ≡ []
theirs_still key p hs e = comm (λ (x : Hold). x.key == key) p hs ∙ ap (λ (ys : List Hold). filter p ys) e

append_none : (ys : List Hold) → ys ++ [] ≡ ys
append_none [] = refl
append_none (y ∷ ys) = ap (λ (zs : List Hold). y ∷ zs) (append_none ys)

pub theirs_other : (key : ℕ) (x : Hold) (hs ys : List Hold) → theirs key hs ≡ ys → (x.key == key) ≡ false → theirs key (hs ++ x ∷ []) ≡ ys
theirs_other key x hs ys e f =
    filter-append (λ (z : Hold). z.key == key) hs (x ∷ [])
    ∙ ap (λ (zs : List Hold). theirs key hs ++ zs) (left_by (λ (z : Hold). z.key == key) x (x.key == key) f)
    ∙ append_none (theirs key hs) ∙ e

pub theirs_one : (key : ℕ) (x : Hold) (hs : List Hold) → theirs key hs ≡ [] → (x.key == key) ≡ true → theirs key (hs ++ x ∷ []) ≡ x ∷ []
theirs_one key x hs e f =
    filter-append (λ (z : Hold). z.key == key) hs (x ∷ [])
    ∙ ap (λ (zs : List Hold). theirs key hs ++ zs) (kept_by (λ (z : Hold). z.key == key) x (x.key == key) refl f)
    ∙ ap (λ (zs : List Hold). zs ++ x ∷ []) e

-- ---- The line

append_no : (ys : List ℕ) → ys ++ [] ≡ ys
append_no [] = refl
append_no (y ∷ ys) = ap (λ (zs : List ℕ). y ∷ zs) (append_no ys)

pub line_other : (key k : ℕ) (line : List ℕ) → (k == key) ≡ false → places key (line ++ k ∷ []) ≡ places key line
line_other key k line f =
    filter-append (λ (x : ℕ). x == key) line (k ∷ []) ∙ ap (λ (zs : List ℕ). places key line ++ zs) (left_by (λ (x : ℕ). x == key) k (k == key) f)
    ∙ append_no (places key line)

pub line_one : (key : ℕ) (line : List ℕ) → places key line ≡ [] → places key (line ++ key ∷ []) ≡ key ∷ []
line_one key line e =
    filter-append (λ (x : ℕ). x == key) line (key ∷ [])
    ∙ ap (λ (zs : List ℕ). places key line ++ zs) (kept_by (λ (x : ℕ). x == key) key (key == key) refl (eq-eqb key key refl))
    ∙ ap (λ (zs : List ℕ). zs ++ key ∷ []) e

-- without some it is there once at most
abbrev pub Once : ℕ → List ℕ → Type 0
Once key line = (places key line ≡ []) ⊎ (places key line ≡ key ∷ [])

once_by : (key : ℕ) (b : Bool) → ((if b then key ∷ [] else []) ≡ []) ⊎ ((if b then key ∷ [] else []) ≡ key ∷ [])
once_by key true = inr refl
once_by key false = inl refl

pub once_filtered : (key : ℕ) (p : ℕ → Bool) (line : List ℕ) → Once key line → Once key (filter p line)
once_filtered key p line (inl e) = inl (comm (λ (x : ℕ). x == key) p line ∙ ap (λ (zs : List ℕ). filter p zs) e)
once_filtered key p line (inr e) =
    let same : places key (filter p line) ≡ filter p (key ∷ []) = comm (λ (x : ℕ). x == key) p line ∙ ap (λ (zs : List ℕ). filter p zs) e in
    subst (λ (zs : List ℕ). (zs ≡ []) ⊎ (zs ≡ key ∷ [])) (sym same) (once_by key (p key))

pub none_filtered : (key : ℕ) (p : ℕ → Bool) (line : List ℕ) → places key line ≡ [] → places key (filter p line) ≡ []
none_filtered key p line e = comm (λ (x : ℕ). x == key) p line ∙ ap (λ (zs : List ℕ). filter p zs) e

first_by : (key k : ℕ) (others : List ℕ) (b : Bool) → (k == key) ≡ b → (if b then k ∷ places key others else places key others) ≡ [] → ((k == key) ≡ false) × (places key others ≡ [])
first_by key k others true e f = absurd (let u : ⊥ = cc in u)
first_by key k others false e f = (e, f)

-- who is first is another, where it doesn't wait
pub first_other : (key k : ℕ) (others : List ℕ) → places key (k ∷ others) ≡ [] → ((k == key) ≡ false) × (places key others ≡ [])
first_other key k others e = first_by key k others (k == key) refl e

behind_by : (key k : ℕ) (others : List ℕ) (b : Bool) → (k == key) ≡ b → b ≡ true → ((if b then k ∷ places key others else places key others) ≡ []) ⊎ ((if b then k ∷ places key others else places key others) ≡ key ∷ [])
    → places key others ≡ []
behind_by key k others true e t (inl f) = absurd (let u : ⊥ = cc in u)
behind_by key k others true e t (inr f) = cc
behind_by key k others false e t h = absurd (let u : ⊥ = cc in u)

-- behind it in the line it isn't once more
pub none_behind : (key k : ℕ) (others : List ℕ) → Once key (k ∷ others) → (k == key) ≡ true → places key others ≡ []
none_behind key k others once e = behind_by key k others (k == key) refl e once

other_by : (key k : ℕ) (others : List ℕ) (b : Bool) → b ≡ false → ((if b then k ∷ places key others else places key others) ≡ []) ⊎ ((if b then k ∷ places key others else places key others) ≡ key ∷ [])
    → Once key others
other_by key k others true e h = absurd (let u : ⊥ = cc in u)
other_by key k others false e h = h

pub once_behind : (key k : ℕ) (others : List ℕ) → Once key (k ∷ others) → (k == key) ≡ false → Once key others
once_behind key k others once e = other_by key k others (k == key) e once
