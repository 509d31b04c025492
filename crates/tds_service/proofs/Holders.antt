-- Connections by their numbers, each with the id that holds it.
use Rattle.std.proofs.Common.{◌≡◌, ◌∙◌, ◌==◌, ◌<◌, ◌≤◌, ℕ, zero, suc, List, [], ◌∷◌, ◌++◌, length, get_or, refl, sym, ap, arith}
use Rattle.std.proofs.Math.ListN.{set}
use Rattle.std.specs.Prelude.{◌≢◌, remove, Option, Some, None, if◌then◌else◌}
use Rattle.tds_service.specs.Rising.{RiseFrom}
use Rattle.tds_service.specs.Index.{holder_of, one_held, held_among, PutsAt}
use Rattle.tds_service.proofs.Ids.{numbered, is_same, is_other, if_yes, if_no, below_top}

abbrev pub Holder : Type 0
Holder = ℕ × Option ℕ

at_above : (low top : ℕ) (hs : List Holder) (d : Holder) (i : ℕ) → RiseFrom low (numbered hs) top → i < length hs → low ≤ (get_or hs i d).0
at_above low top [] d i h lt = absurd (omega (arith, lt))
at_above low top (x ∷ hs) d zero h lt = h.0
at_above low top (x ∷ hs) d (suc i) h lt =
    let more : suc x.0 ≤ (get_or hs i d).0 = at_above (suc x.0) top hs d i h.1 (omega (arith, lt)) in
    omega (arith, h.0, more)

none_above : (low top : ℕ) (hs : List Holder) (n : ℕ) → RiseFrom low (numbered hs) top → n < low → holder_of hs n ≡ None
none_above low top [] n h lt = refl
none_above low top (x ∷ hs) n h lt =
    let under : n < x.0 = omega (arith, h.0, lt) in
    if_no (x.0 == n) x.1 (holder_of hs n) (is_other x.0 n (λ s. absurd (omega (arith, under, s)))) ∙ none_above (suc x.0) top hs n h.1 (omega (arith, under))

pub none_new : (low top : ℕ) (hs : List Holder) (n : ℕ) → RiseFrom low (numbered hs) top → top ≤ n → holder_of hs n ≡ None
none_new low top [] n h le = refl
none_new low top (x ∷ hs) n h le =
    let under : suc x.0 ≤ top = below_top (suc x.0) (numbered hs) top h.1 in
    if_no (x.0 == n) x.1 (holder_of hs n) (is_other x.0 n (λ s. absurd (omega (arith, under, le, s)))) ∙ none_new (suc x.0) top hs n h.1 le

-- who holds the one at a place
pub holder_at : (low top : ℕ) (hs : List Holder) (d : Holder) (i : ℕ) → RiseFrom low (numbered hs) top → i < length hs → holder_of hs (get_or hs i d).0 ≡ (get_or hs i d).1
holder_at low top [] d i h lt = absurd (omega (arith, lt))
holder_at low top (x ∷ hs) d zero h lt = if_yes (x.0 == x.0) x.1 (holder_of hs x.0) (is_same x.0 x.0 refl)
holder_at low top (x ∷ hs) d (suc i) h lt =
    let more : suc x.0 ≤ (get_or hs i d).0 = at_above (suc x.0) top hs d i h.1 (omega (arith, lt)) in
    if_no (x.0 == (get_or hs i d).0) x.1 (holder_of hs (get_or hs i d).0) (is_other x.0 (get_or hs i d).0 (λ s. absurd (omega (arith, more, s))))
    ∙ holder_at (suc x.0) top hs d i h.1 (omega (arith, lt))

-- ---- One that is changed

set_here : (low top : ℕ) (hs : List Holder) (d y : Holder) (i : ℕ) → RiseFrom low (numbered hs) top → i < length hs → y.0 ≡ (get_or hs i d).0 → holder_of (set hs i y) y.0 ≡ y.1
set_here low top [] d y i h lt is = absurd (omega (arith, lt))
set_here low top (x ∷ hs) d y zero h lt is = if_yes (y.0 == y.0) y.1 (holder_of hs y.0) (is_same y.0 y.0 refl)
set_here low top (x ∷ hs) d y (suc i) h lt is =
    let more : suc x.0 ≤ (get_or hs i d).0 = at_above (suc x.0) top hs d i h.1 (omega (arith, lt)) in
    if_no (x.0 == y.0) x.1 (holder_of (set hs i y) y.0) (is_other x.0 y.0 (λ s. absurd (omega (arith, more, s, is))))
    ∙ set_here (suc x.0) top hs d y i h.1 (omega (arith, lt)) is

set_other : (hs : List Holder) (d y : Holder) (i k : ℕ) → i < length hs → y.0 ≡ (get_or hs i d).0 → k ≢ y.0 → holder_of (set hs i y) k ≡ holder_of hs k
set_other [] d y i k lt is ne = absurd (omega (arith, lt))
set_other (x ∷ hs) d y zero k lt is ne =
    if_no (y.0 == k) y.1 (holder_of hs k) (is_other y.0 k (λ s. ne (sym s)))
    ∙ sym (if_no (x.0 == k) x.1 (holder_of hs k) (is_other x.0 k (λ s. ne (sym s ∙ sym is))))
set_other (x ∷ hs) d y (suc i) k lt is ne = ap (λ (o : Option ℕ). if x.0 == k then x.1 else o) (set_other hs d y i k (omega (arith, lt)) is ne)

pub holder_set : (top : ℕ) (hs : List Holder) (d y : Holder) (i : ℕ) → RiseFrom 0 (numbered hs) top → i < length hs → y.0 ≡ (get_or hs i d).0
    → PutsAt (holder_of hs) (holder_of (set hs i y)) y.0 y.1
holder_set top hs d y i h lt is = record { here = set_here 0 top hs d y i h lt is; other = λ k ne. set_other hs d y i k lt is ne }

-- ---- One that is taken out

taken_here : (low top : ℕ) (hs : List Holder) (d : Holder) (i : ℕ) → RiseFrom low (numbered hs) top → i < length hs → holder_of (remove hs i) (get_or hs i d).0 ≡ None
taken_here low top [] d i h lt = absurd (omega (arith, lt))
taken_here low top (x ∷ hs) d zero h lt = none_above (suc x.0) top hs x.0 h.1 (omega arith)
taken_here low top (x ∷ hs) d (suc i) h lt =
    let more : suc x.0 ≤ (get_or hs i d).0 = at_above (suc x.0) top hs d i h.1 (omega (arith, lt)) in
    if_no (x.0 == (get_or hs i d).0) x.1 (holder_of (remove hs i) (get_or hs i d).0) (is_other x.0 (get_or hs i d).0 (λ s. absurd (omega (arith, more, s))))
    ∙ taken_here (suc x.0) top hs d i h.1 (omega (arith, lt))

taken_other : (hs : List Holder) (d : Holder) (i k : ℕ) → i < length hs → k ≢ (get_or hs i d).0 → holder_of (remove hs i) k ≡ holder_of hs k
taken_other [] d i k lt ne = absurd (omega (arith, lt))
taken_other (x ∷ hs) d zero k lt ne = sym (if_no (x.0 == k) x.1 (holder_of hs k) (is_other x.0 k (λ s. ne (sym s))))
taken_other (x ∷ hs) d (suc i) k lt ne = ap (λ (o : Option ℕ). if x.0 == k then x.1 else o) (taken_other hs d i k (omega (arith, lt)) ne)

pub holder_taken : (top : ℕ) (hs : List Holder) (d : Holder) (i : ℕ) → RiseFrom 0 (numbered hs) top → i < length hs
    → PutsAt (holder_of hs) (holder_of (remove hs i)) (get_or hs i d).0 None
holder_taken top hs d i h lt = record { here = taken_here 0 top hs d i h lt; other = λ k ne. taken_other hs d i k lt ne }

-- ---- One that is added

added_here : (low top : ℕ) (hs : List Holder) (y : Holder) → RiseFrom low (numbered hs) top → top ≤ y.0 → holder_of (hs ++ y ∷ []) y.0 ≡ y.1
added_here low top [] y h le = if_yes (y.0 == y.0) y.1 None (is_same y.0 y.0 refl)
added_here low top (x ∷ hs) y h le =
    let under : suc x.0 ≤ top = below_top (suc x.0) (numbered hs) top h.1 in
    if_no (x.0 == y.0) x.1 (holder_of (hs ++ y ∷ []) y.0) (is_other x.0 y.0 (λ s. absurd (omega (arith, under, le, s)))) ∙ added_here (suc x.0) top hs y h.1 le

added_other : (hs : List Holder) (y : Holder) (k : ℕ) → k ≢ y.0 → holder_of (hs ++ y ∷ []) k ≡ holder_of hs k
added_other [] y k ne = if_no (y.0 == k) y.1 None (is_other y.0 k (λ s. ne (sym s)))
added_other (x ∷ hs) y k ne = ap (λ (o : Option ℕ). if x.0 == k then x.1 else o) (added_other hs y k ne)

pub holder_added : (top : ℕ) (hs : List Holder) (y : Holder) → RiseFrom 0 (numbered hs) top → top ≤ y.0 → PutsAt (holder_of hs) (holder_of (hs ++ y ∷ [])) y.0 y.1
holder_added top hs y h le = record { here = added_here 0 top hs y h le; other = λ k ne. added_other hs y k ne }

-- ---- How many are held

swap : (a b : Option ℕ) (n : ℕ) → one_held a (one_held b n) ≡ one_held b (one_held a n)
swap None None n = refl
swap None (Some b) n = refl
swap (Some a) None n = refl
swap (Some a) (Some b) n = refl

pub count_set : (hs : List Holder) (d y : Holder) (i : ℕ) → i < length hs → one_held (get_or hs i d).1 (held_among (set hs i y)) ≡ one_held y.1 (held_among hs)
count_set [] d y i lt = absurd (omega (arith, lt))
count_set (x ∷ hs) d y zero lt = swap x.1 y.1 (held_among hs)
count_set (x ∷ hs) d y (suc i) lt =
    swap (get_or hs i d).1 x.1 (held_among (set hs i y))
    ∙ (ap (one_held x.1) (count_set hs d y i (omega (arith, lt))) ∙ swap x.1 y.1 (held_among hs))

pub count_taken : (hs : List Holder) (d : Holder) (i : ℕ) → i < length hs → one_held (get_or hs i d).1 (held_among (remove hs i)) ≡ held_among hs
count_taken [] d i lt = absurd (omega (arith, lt))
count_taken (x ∷ hs) d zero lt = refl
count_taken (x ∷ hs) d (suc i) lt = swap (get_or hs i d).1 x.1 (held_among (remove hs i)) ∙ ap (one_held x.1) (count_taken hs d i (omega (arith, lt)))

pub count_added : (hs : List Holder) (y : Holder) → held_among (hs ++ y ∷ []) ≡ one_held y.1 (held_among hs)
count_added [] y = refl
count_added (x ∷ hs) y = ap (one_held x.1) (count_added hs y) ∙ swap x.1 y.1 (held_among hs)

few_by : (o : Option ℕ) (a b : ℕ) → a ≤ b → one_held o a ≤ suc b
few_by None a b le = omega (arith, le)
few_by (Some id) a b le = omega (arith, le)

pub few_held : (hs : List Holder) → held_among hs ≤ length hs
few_held [] = omega arith
few_held (x ∷ hs) = few_by x.1 (held_among hs) (length hs) (few_held hs)

fewer_by : (o : Option ℕ) (a b : ℕ) → a < b → one_held o a < suc b
fewer_by None a b lt = omega (arith, lt)
fewer_by (Some id) a b lt = omega (arith, lt)

free_by : (o : Option ℕ) (a b : ℕ) → o ≡ None → a ≤ b → one_held o a < suc b
free_by None a b e le = omega (arith, le)
free_by (Some id) a b e le = absurd (let u : ⊥ = cc in u)

-- fewer than all where one is free
pub fewer_held : (hs : List Holder) (d : Holder) (i : ℕ) → i < length hs → (get_or hs i d).1 ≡ None → held_among hs < length hs
fewer_held [] d i lt free = absurd (omega (arith, lt))
fewer_held (x ∷ hs) d zero lt free = free_by x.1 (held_among hs) (length hs) free (few_held hs)
fewer_held (x ∷ hs) d (suc i) lt free = fewer_by x.1 (held_among hs) (length hs) (fewer_held hs d i (omega (arith, lt)) free)
