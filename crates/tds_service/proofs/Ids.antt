-- Ids and connections that find each other, as one is held, goes on to another id, and ends.
use Rattle.std.proofs.Common.{◌≡◌, ◌∙◌, ◌==◌, ◌<◌, ◌≤◌, ℕ, zero, suc, Bool, true, false, List, [], ◌∷◌, ◌++◌, length, map, get_or, refl, sym, ap, subst, arith}
use Rattle.std.proofs.lemmas.Bool.Decides.{nat_tests}
use Rattle.std.specs.Prelude.{◌≢◌, remove, Option, Some, None, IfNone, slice_index, if◌then◌else◌}
use Rattle.tds_service.specs.declared.index.Indexed.{Indexed}
use Rattle.tds_numbers.specs.Rising.{Rises}
use Rattle.tds_service.specs.Rising.{RiseFrom}
use Rattle.tds_service.specs.Index.{ids_in, number_held, numbers_held, PutsAt, AddsId, ForgetsId}

-- ---- Numbers that are alike or not

pub same_number : (m n : ℕ) → (m == n) ≡ true → m ≡ n
same_number m n e = grind (arith, nat_tests)

pub is_same : (m n : ℕ) → m ≡ n → (m == n) ≡ true
is_same m n e = grind (arith, nat_tests, e)

pub is_other : (m n : ℕ) → m ≢ n → (m == n) ≡ false
is_other m n h = grind (arith, nat_tests, h)

not_both : {A : Type 0} (b : Bool) → b ≡ true → b ≡ false → A
not_both true e f = absurd (let u : ⊥ = cc in u)
not_both false e f = absurd (let u : ⊥ = cc in u)

either_by : (m n : ℕ) (P : Type 0) (b : Bool) → (m == n) ≡ b → (m ≡ n → P) → (m ≢ n → P) → P
either_by m n P true e here there = here (same_number m n e)
either_by m n P false e here there = there (λ s. not_both (m == n) (is_same m n s) e)

pub either : (m n : ℕ) (P : Type 0) → (m ≡ n → P) → (m ≢ n → P) → P
either m n P here there = either_by m n P (m == n) refl here there

pub if_yes : (b : Bool) (x y : Option ℕ) → b ≡ true → (if b then x else y) ≡ x
if_yes true x y e = refl
if_yes false x y e = absurd (let u : ⊥ = cc in u)

pub if_no : (b : Bool) (x y : Option ℕ) → b ≡ false → (if b then x else y) ≡ y
if_no true x y e = absurd (let u : ⊥ = cc in u)
if_no false x y e = refl

pub clash : {A : Type 0} (o : Option ℕ) (n : ℕ) → o ≡ None → o ≡ Some n → A
clash o n e f = let w : None ≡ Some n = sym e ∙ f in absurd (let u : ⊥ = cc in u)

pub some_same : (a b : ℕ) → Some a ≡ Some b → a ≡ b
some_same a b e = cc

-- ---- Numbers that rise

pub below_top : (low : ℕ) (ns : List ℕ) (top : ℕ) → RiseFrom low ns top → low ≤ top
below_top low [] top h = h
below_top low (n ∷ ns) top h = let more : suc n ≤ top = below_top (suc n) ns top h.1 in omega (arith, h.0, more)

lower : (low more : ℕ) (ns : List ℕ) (top : ℕ) → low ≤ more → RiseFrom more ns top → RiseFrom low ns top
lower low more [] top le h = omega (arith, le, h)
lower low more (n ∷ ns) top le h = (omega (arith, le, h.0), h.1)

-- ---- Ids

abbrev pub numbered : List (ℕ × Option ℕ) → List ℕ
numbered hs = map (λ (h : ℕ × Option ℕ). h.0) hs

id_above : (low top : ℕ) (es : List Indexed) (d : Indexed) (j : ℕ) → RiseFrom low (ids_in es) top → j < length es → low ≤ (get_or es j d).id
id_above low top [] d j h lt = absurd (omega (arith, lt))
id_above low top (e ∷ es) d zero h lt = h.0
id_above low top (e ∷ es) d (suc j) h lt =
    let more : suc e.id ≤ (get_or es j d).id = id_above (suc e.id) top es d j h.1 (omega (arith, lt)) in
    omega (arith, h.0, more)

none_above : (low top : ℕ) (es : List Indexed) (id : ℕ) → RiseFrom low (ids_in es) top → id < low → number_held es id ≡ None
none_above low top [] id h lt = refl
none_above low top (e ∷ es) id h lt =
    let under : id < e.id = omega (arith, h.0, lt) in
    if_no (e.id == id) (Some e.number) (number_held es id) (is_other e.id id (λ s. absurd (omega (arith, under, s)))) ∙ none_above (suc e.id) top es id h.1 (omega (arith, under))

-- an id from the top upward isn't there
pub none_newer : (low top : ℕ) (es : List Indexed) (id : ℕ) → RiseFrom low (ids_in es) top → top ≤ id → number_held es id ≡ None
none_newer low top [] id h le = refl
none_newer low top (e ∷ es) id h le =
    let under : suc e.id ≤ top = below_top (suc e.id) (ids_in es) top h.1 in
    if_no (e.id == id) (Some e.number) (number_held es id) (is_other e.id id (λ s. absurd (omega (arith, under, le, s)))) ∙ none_newer (suc e.id) top es id h.1 le

pub none_absent : (es : List Indexed) (id : ℕ) → ((k : ℕ) → k < length es → slice_index (ids_in es) k ≢ id) → number_held es id ≡ None
none_absent [] id h = refl
none_absent (e ∷ es) id h =
    if_no (e.id == id) (Some e.number) (number_held es id) (is_other e.id id (h zero (omega arith)))
    ∙ none_absent es id (λ k lt. h (suc k) (omega (arith, lt)))

-- one that is there is found
pub number_there : (low top : ℕ) (es : List Indexed) (d : Indexed) (j : ℕ) → RiseFrom low (ids_in es) top → j < length es → number_held es (get_or es j d).id ≡ Some (get_or es j d).number
number_there low top [] d j h lt = absurd (omega (arith, lt))
number_there low top (e ∷ es) d zero h lt = if_yes (e.id == e.id) (Some e.number) (number_held es e.id) (is_same e.id e.id refl)
number_there low top (e ∷ es) d (suc j) h lt =
    let more : suc e.id ≤ (get_or es j d).id = id_above (suc e.id) top es d j h.1 (omega (arith, lt)) in
    if_no (e.id == (get_or es j d).id) (Some e.number) (number_held es (get_or es j d).id) (is_other e.id (get_or es j d).id (λ s. absurd (omega (arith, more, s))))
    ∙ number_there (suc e.id) top es d j h.1 (omega (arith, lt))

pub id_there : (es : List Indexed) (d : Indexed) (j : ℕ) → j < length es → slice_index (ids_in es) j ≡ (get_or es j d).id
id_there [] d j lt = absurd (omega (arith, lt))
id_there (e ∷ es) d zero lt = refl
id_there (e ∷ es) d (suc j) lt = id_there es d j (omega (arith, lt))

-- ---- An id more

push_here : (low top : ℕ) (es : List Indexed) (e : Indexed) → RiseFrom low (ids_in es) top → top ≤ e.id → number_held (es ++ e ∷ []) e.id ≡ Some e.number
push_here low top [] e h le = if_yes (e.id == e.id) (Some e.number) None (is_same e.id e.id refl)
push_here low top (x ∷ es) e h le =
    let under : suc x.id ≤ top = below_top (suc x.id) (ids_in es) top h.1 in
    if_no (x.id == e.id) (Some x.number) (number_held (es ++ e ∷ []) e.id) (is_other x.id e.id (λ s. absurd (omega (arith, under, le, s)))) ∙ push_here (suc x.id) top es e h.1 le

push_other : (es : List Indexed) (e : Indexed) (k : ℕ) → k ≢ e.id → number_held (es ++ e ∷ []) k ≡ number_held es k
push_other [] e k h = if_no (e.id == k) (Some e.number) None (is_other e.id k (λ s. h (sym s)))
push_other (x ∷ es) e k h = ap (λ (o : Option ℕ). if x.id == k then Some x.number else o) (push_other es e k h)

pub pushed : (es : List Indexed) (e : Indexed) → RiseFrom 0 (ids_in es) e.id → PutsAt (number_held es) (number_held (es ++ e ∷ [])) e.id (Some e.number)
pushed es e h = record { here = push_here 0 e.id es e h (omega arith); other = λ k ne. push_other es e k ne }

pub push_rises : (low : ℕ) (es : List Indexed) (e : Indexed) → RiseFrom low (ids_in es) e.id → RiseFrom low (ids_in (es ++ e ∷ [])) (suc e.id)
push_rises low [] e h = (h, omega arith)
push_rises low (d ∷ es) e h = (h.0, push_rises (suc d.id) es e h.1)

pub one_longer : {A : Type 0} (xs : List A) (x : A) → length (xs ++ x ∷ []) ≡ suc (length xs)
one_longer [] x = refl
one_longer (y ∷ xs) x = ap suc (one_longer xs x)

-- ---- An id less

gone_here : (low top : ℕ) (es : List Indexed) (d : Indexed) (j : ℕ) → RiseFrom low (ids_in es) top → j < length es → number_held (remove es j) (get_or es j d).id ≡ None
gone_here low top [] d j h lt = absurd (omega (arith, lt))
gone_here low top (e ∷ es) d zero h lt = none_above (suc e.id) top es e.id h.1 (omega arith)
gone_here low top (e ∷ es) d (suc j) h lt =
    let more : suc e.id ≤ (get_or es j d).id = id_above (suc e.id) top es d j h.1 (omega (arith, lt)) in
    if_no (e.id == (get_or es j d).id) (Some e.number) (number_held (remove es j) (get_or es j d).id) (is_other e.id (get_or es j d).id (λ s. absurd (omega (arith, more, s))))
    ∙ gone_here (suc e.id) top es d j h.1 (omega (arith, lt))

gone_other : (es : List Indexed) (d : Indexed) (j k : ℕ) → j < length es → k ≢ (get_or es j d).id → number_held (remove es j) k ≡ number_held es k
gone_other [] d j k lt ne = absurd (omega (arith, lt))
gone_other (e ∷ es) d zero k lt ne = sym (if_no (e.id == k) (Some e.number) (number_held es k) (is_other e.id k (λ s. ne (sym s))))
gone_other (e ∷ es) d (suc j) k lt ne = ap (λ (o : Option ℕ). if e.id == k then Some e.number else o) (gone_other es d j k (omega (arith, lt)) ne)

pub gone : (top id : ℕ) (es : List Indexed) (d : Indexed) (j : ℕ) → RiseFrom 0 (ids_in es) top → j < length es → slice_index (ids_in es) j ≡ id
    → PutsAt (number_held es) (number_held (remove es j)) id None
gone top id es d j h lt is =
    let at : (get_or es j d).id ≡ id = sym (id_there es d j lt) ∙ is in
    subst (λ (k : ℕ). PutsAt (number_held es) (number_held (remove es j)) k None) at
    (record { here = gone_here 0 top es d j h lt; other = λ k ne. gone_other es d j k lt ne })

pub gone_rises : (low top : ℕ) (es : List Indexed) (j : ℕ) → j < length es → RiseFrom low (ids_in es) top → RiseFrom low (ids_in (remove es j)) top
gone_rises low top [] j lt h = absurd (omega (arith, lt))
gone_rises low top (e ∷ es) zero lt h = lower low (suc e.id) (ids_in es) top (omega (arith, h.0)) h.1
gone_rises low top (e ∷ es) (suc j) lt h = (h.0, gone_rises (suc e.id) top es j (omega (arith, lt)) h.1)

pub one_shorter : {A : Type 0} (xs : List A) (j : ℕ) → j < length xs → suc (length (remove xs j)) ≡ length xs
one_shorter [] j lt = absurd (omega (arith, lt))
one_shorter (x ∷ xs) zero lt = refl
one_shorter (x ∷ xs) (suc j) lt = ap suc (one_shorter xs j (omega (arith, lt)))

-- ---- Finding an id

same_length : (es : List Indexed) → length (ids_in es) ≡ length es
same_length [] = refl
same_length (e ∷ es) = ap suc (same_length es)

index_above : (low top : ℕ) (es : List Indexed) (j : ℕ) → RiseFrom low (ids_in es) top → j < length es → low ≤ slice_index (ids_in es) j
index_above low top [] j h lt = absurd (omega (arith, lt))
index_above low top (e ∷ es) zero h lt = h.0
index_above low top (e ∷ es) (suc j) h lt =
    let more : suc e.id ≤ slice_index (ids_in es) j = index_above (suc e.id) top es j h.1 (omega (arith, lt)) in
    omega (arith, h.0, more)

rises_by : (low top : ℕ) (es : List Indexed) → RiseFrom low (ids_in es) top → (i j : ℕ) → i < j → j < length es → slice_index (ids_in es) i < slice_index (ids_in es) j
rises_by low top [] h i j lt inside = absurd (omega (arith, inside))
rises_by low top (e ∷ es) h i zero lt inside = absurd (omega (arith, lt))
rises_by low top (e ∷ es) h zero (suc j) lt inside =
    let more : suc e.id ≤ slice_index (ids_in es) j = index_above (suc e.id) top es j h.1 (omega (arith, inside)) in
    omega (arith, more)
rises_by low top (e ∷ es) h (suc i) (suc j) lt inside = rises_by (suc e.id) top es h.1 i j (omega (arith, lt)) (omega (arith, inside))

pub rises_ids : (low top : ℕ) (es : List Indexed) → RiseFrom low (ids_in es) top → Rises (ids_in es)
rises_ids low top es h i j lt inside = rises_by low top es h i j lt (subst (λ (n : ℕ). j < n) (same_length es) inside)

held_there : (low top : ℕ) (es : List Indexed) (j : ℕ) → RiseFrom low (ids_in es) top → j < length es → number_held es (slice_index (ids_in es) j) ≡ Some (slice_index (numbers_held es) j)
held_there low top [] j h lt = absurd (omega (arith, lt))
held_there low top (e ∷ es) zero h lt = if_yes (e.id == e.id) (Some e.number) (number_held es e.id) (is_same e.id e.id refl)
held_there low top (e ∷ es) (suc j) h lt =
    let more : suc e.id ≤ slice_index (ids_in es) j = index_above (suc e.id) top es j h.1 (omega (arith, lt)) in
    if_no (e.id == slice_index (ids_in es) j) (Some e.number) (number_held es (slice_index (ids_in es) j)) (is_other e.id (slice_index (ids_in es) j) (λ s. absurd (omega (arith, more, s))))
    ∙ held_there (suc e.id) top es j h.1 (omega (arith, lt))

-- what the index has at a place
pub held_at : (es : List Indexed) (top j id who number : ℕ) → RiseFrom 0 (ids_in es) top → j < length es → slice_index (ids_in es) j ≡ id → id ≡ who → number ≡ slice_index (numbers_held es) j
    → number_held es who ≡ Some number
held_at es top j id who number rising lt is whose number_is = ap (number_held es) (sym whose ∙ sym is) ∙ (held_there 0 top es j rising lt ∙ ap Some (sym number_is))

pub absent_ids : (id : ℕ) (es : List Indexed) (o : Option ℕ) → IfNone o ((k : ℕ) → k < length es → slice_index (ids_in es) k ≢ id) → IfNone o (number_held es id ≡ None)
absent_ids id es None h = none_absent es id h
absent_ids id es (Some k) h = tt

-- ---- What the calls do

pub forgets : (top id : ℕ) (es : List Indexed) (d : Indexed) (j : ℕ) → RiseFrom 0 (ids_in es) top → j < length es → slice_index (ids_in es) j ≡ id → ForgetsId es (remove es j) id
forgets top id es d j h lt is = record {
  puts = gone top id es d j h lt is;
  rises = λ up rising. gone_rises 0 up es j lt rising;
  len = λ n e. one_shorter es j lt;
}

pub forgets_none : (es : List Indexed) (id : ℕ) → number_held es id ≡ None → ForgetsId es es id
forgets_none es id absent = record {
  puts = record { here = absent; other = λ k ne. refl };
  rises = λ up rising. rising;
  len = λ n e. clash (number_held es id) n absent e;
}

pub adds : (es : List Indexed) (e : Indexed) → RiseFrom 0 (ids_in es) e.id → AddsId es (es ++ e ∷ []) e.id e.number
adds es e h = record { puts = pushed es e h; rises = push_rises 0 es e h; len = one_longer es e }
