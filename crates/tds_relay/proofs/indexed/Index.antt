-- What stands under an id, as one is put there, and some are taken out.
use Rattle.std.proofs.Common.{◌≡◌, ◌∙◌, ℕ, zero, suc, Bool, true, false, ◌==◌, ◌<◌, ◌≤◌, List, [], ◌∷◌, ◌++◌, length, take, drop, get_or, refl, sym, ap, subst, eq-or-lt_of_le, ⊎_elim, arith}
use Rattle.std.proofs.lemmas.Bool.Decides.{nat_tests}
use Rattle.std.specs.Prelude.{◌-◌, ◌≢◌, slice_index, filter, insert, is_ok, Some, None, Result, Ok, Err, IsOk, if◌then◌else◌}
use Rattle.tds_relay.specs.declared.index.Indexed.{Indexed}
use Rattle.tds_relay.specs.Sorted.{Climbs, first, ids_in, one_if, under}
use Rattle.tds_relay.proofs.indexed.Climbing.{at_place, climbs_at, from_at}

is_same : (m n : ℕ) → m ≡ n → (m == n) ≡ true
is_same m n e = grind (arith, nat_tests, e)

is_other : (m n : ℕ) → m ≢ n → (m == n) ≡ false
is_other m n h = grind (arith, nat_tests, h)

same_number : (m n : ℕ) → (m == n) ≡ true → m ≡ n
same_number m n e = grind (arith, nat_tests)

pub yes : {A : Type 0} (b : Bool) (x y : A) → b ≡ true → (if b then x else y) ≡ x
yes true x y e = refl
yes false x y e = absurd (let u : ⊥ = cc in u)

pub no : {A : Type 0} (b : Bool) (x y : A) → b ≡ false → (if b then x else y) ≡ y
no true x y e = absurd (let u : ⊥ = cc in u)
no false x y e = refl

-- ---- Found

none_under : {T : Type 0} (id : ℕ) (es : List (Indexed T)) → ((j : ℕ) → j < length es → slice_index (ids_in es) j ≢ id) → under id es ≡ []
none_under id [] h = refl
none_under id (e ∷ es) h =
    no (e.id == id) (e.item ∷ under id es) (under id es) (is_other e.id id (h zero (omega arith)))
    ∙ none_under id es (λ j lt. h (suc j) (omega (arith, lt)))

ids_length : {T : Type 0} (es : List (Indexed T)) → length (ids_in es) ≡ length es
ids_length [] = refl
ids_length (e ∷ es) = ap suc (ids_length es)

-- the first one of an id is at the place in front of which all are below
pub found_there : {T : Type 0} (id : ℕ) (es : List (Indexed T)) (d : Indexed T) (i : ℕ) → i < length es → ((j : ℕ) → j < i → slice_index (ids_in es) j < id)
    → (get_or es i d).id ≡ id → first (under id es) ≡ Some (get_or es i d).item
found_there id [] d i lt below is = absurd (omega (arith, lt))
found_there id (e ∷ es) d zero lt below is = ap first (yes (e.id == id) (e.item ∷ under id es) (under id es) (is_same e.id id is))
found_there id (e ∷ es) d (suc i) lt below is =
    let less : e.id < id = below zero (omega arith) in
    ap first (no (e.id == id) (e.item ∷ under id es) (under id es) (is_other e.id id (λ s. absurd (omega (arith, less, s)))))
    ∙ found_there id es d i (omega (arith, lt)) (λ j h. below (suc j) (omega (arith, h))) is

-- it begins where one stands and none is before it
pub found_here : {T : Type 0} (id : ℕ) (es : List (Indexed T)) (d : Indexed T) (i : ℕ) → Climbs (ids_in es) → i < length es → slice_index (ids_in es) i ≡ id
    → (i ≢ 0 → slice_index (ids_in es) (i - 1) < id) → first (under id es) ≡ Some (get_or es i d).item
found_here {T} id es d zero up lt is before = found_there id es d zero lt (λ j h. absurd (omega (arith, h))) (sym (at_place (λ (e : Indexed T). e.id) es zero d lt) ∙ is)
found_here {T} id es d (suc i) up lt is before =
    let same : suc i - 1 ≡ i = omega arith in
    let last : slice_index (ids_in es) i < id = subst (λ (k : ℕ). slice_index (ids_in es) k < id) same (before (λ e. absurd (omega (arith, e)))) in
    let inside : i < length (ids_in es) = let l : length (ids_in es) ≡ length es = ids_length es in omega (arith, l, lt) in
    found_there id es d (suc i) lt
    (λ j h. ⊎_elim
    (λ (e : j ≡ i). subst (λ (k : ℕ). slice_index (ids_in es) k < id) (sym e) last)
    (λ (below : j < i). let le : slice_index (ids_in es) j ≤ slice_index (ids_in es) i = climbs_at (ids_in es) up j i below inside in omega (arith, le, last))
    (let less : j ≤ i = omega (arith, h) in eq-or-lt_of_le less))
    (sym (at_place (λ (e : Indexed T). e.id) es (suc i) d lt) ∙ is)

pub absent_there : {T : Type 0} (id : ℕ) (es : List (Indexed T)) (i : ℕ) → Climbs (ids_in es) → ((j : ℕ) → j < i → slice_index (ids_in es) j < id)
    → ((j : ℕ) → i ≤ j → j < length es → id ≤ slice_index (ids_in es) j) → (i < length es → slice_index (ids_in es) i ≢ id) → first (under id es) ≡ None
absent_there id [] i up below above other = refl
absent_there id (e ∷ es) zero up below above other =
    let le : id ≤ e.id = above zero (omega arith) (omega arith) in
    let ne = other (omega arith) in
    let lt : id < e.id = either_way id e.id le ne in
    ap first (none_under id (e ∷ es) (λ j h s. past id e es j up lt h s))
  where
    either_way : (m n : ℕ) → m ≤ n → n ≢ m → m < n
    either_way m n le ne = grind (arith, le, ne)

    past : {T : Type 0} (id : ℕ) (e : Indexed T) (es : List (Indexed T)) (j : ℕ) → Climbs (ids_in (e ∷ es)) → id < e.id → j < length (e ∷ es) → slice_index (ids_in (e ∷ es)) j ≡ id → ⊥
    past id e es zero up lt h s = omega (arith, lt, s)
    past id e es (suc j) up lt h s =
        let le : e.id ≤ slice_index (ids_in es) j = from_at e.id (ids_in es) up.0 j (let l : length (ids_in es) ≡ length es = ids_length es in omega (arith, l, h)) in
        omega (arith, lt, le, s)
absent_there id (e ∷ es) (suc i) up below above other =
    let less : e.id < id = below zero (omega arith) in
    ap first (no (e.id == id) (e.item ∷ under id es) (under id es) (is_other e.id id (λ s. absurd (omega (arith, less, s)))))
    ∙ absent_there id es i up.1 (λ j h. below (suc j) (omega (arith, h))) (λ j h lt. above (suc j) (omega (arith, h)) (omega (arith, lt))) (λ lt. other (omega (arith, lt)))

-- ---- One more

append_none : {T : Type 0} (xs : List T) → xs ≡ xs ++ []
append_none [] = refl
append_none {T} (x ∷ xs) = ap (λ (ys : List T). x ∷ ys) (append_none xs)

put_here : {T : Type 0} (other : ℕ) (x : Indexed T) (es : List (Indexed T)) → ((j : ℕ) → j < length es → suc x.id ≤ slice_index (ids_in es) j)
    → (b : Bool) → (x.id == other) ≡ b → (if b then x.item ∷ under other es else under other es) ≡ under other es ++ (if b then x.item ∷ [] else [])
put_here {T} other x es above true e =
    let none : under other es ≡ [] = none_under other es (λ j lt s.
    let le : suc x.id ≤ slice_index (ids_in es) j = above j lt in
    let same : x.id ≡ other = same_number x.id other e in absurd (omega (arith, le, s, same))) in
    ap (λ (hs : List T). x.item ∷ hs) none ∙ ap (λ (hs : List T). hs ++ x.item ∷ []) (sym none)
put_here other x es above false e = append_none (under other es)

put_next : {T : Type 0} (b : Bool) (h : T) (old new more : List T) → new ≡ old ++ more → (if b then h ∷ new else new) ≡ (if b then h ∷ old else old) ++ more
put_next {T} true h old new more e = ap (λ (hs : List T). h ∷ hs) e
put_next false h old new more e = e

pub put_under : {T : Type 0} (other : ℕ) (x : Indexed T) (es : List (Indexed T)) (i : ℕ) → i ≤ length es → ((j : ℕ) → i ≤ j → j < length es → suc x.id ≤ slice_index (ids_in es) j)
    → under other (take i es ++ x ∷ drop i es) ≡ under other es ++ one_if x.id other x.item
put_under other x es zero le above = put_here other x es (λ j lt. above j (omega arith) lt) (x.id == other) refl
put_under other x [] (suc i) le above = absurd (omega (arith, le))
put_under other x (e ∷ es) (suc i) le above =
    put_next (e.id == other) e.item (under other es) (under other (take i es ++ x ∷ drop i es)) (one_if x.id other x.item)
    (put_under other x es i (omega (arith, le)) (λ j h lt. above (suc j) (omega (arith, h)) (omega (arith, lt))))

-- ---- Some less

kept_next : {T : Type 0} (b c : Bool) (p : T → Bool) (h : T) (xs ys : List T) → xs ≡ filter p ys → p h ≡ c
    → (if c then (if b then h ∷ xs else xs) else xs) ≡ filter p (if b then h ∷ ys else ys)
kept_next {T} true true p h xs ys e is = ap (λ (hs : List T). h ∷ hs) e ∙ sym (yes (p h) (h ∷ filter p ys) (filter p ys) is)
kept_next true false p h xs ys e is = e ∙ sym (no (p h) (h ∷ filter p ys) (filter p ys) is)
kept_next false true p h xs ys e is = e
kept_next false false p h xs ys e is = e

under_if : {T : Type 0} (id : ℕ) (b : Bool) (e : Indexed T) (es : List (Indexed T)) → under id (if b then e ∷ es else es) ≡ (if b then (if e.id == id then e.item ∷ under id es else under id es) else under id es)
under_if id true e es = refl
under_if id false e es = refl

pub kept_under : {T : Type 0} (id : ℕ) (p : T → Bool) (es : List (Indexed T)) → under id (filter (λ (e : Indexed T). p e.item) es) ≡ filter p (under id es)
kept_under id p [] = refl
kept_under {T} id p (e ∷ es) =
    under_if id (p e.item) e (filter (λ (x : Indexed T). p x.item) es)
    ∙ kept_next (e.id == id) (p e.item) p e.item (under id (filter (λ (x : Indexed T). p x.item) es)) (under id es) (kept_under id p es) refl

-- where there is room, one is put in
pub inserted : {R E T : Type 0} (r : Result R E) (old new : List (Indexed T)) (i : ℕ) (x : Indexed T) → new ≡ (if is_ok r then insert old i x else old) → IsOk r → new ≡ insert old i x
inserted (Ok v) old new i x e ok = e
inserted (Err f) old new i x e ok = absurd (let u : ⊥ = cc in u)
