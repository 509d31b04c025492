-- Connections by their numbers: one that a test finds, one that is changed or taken out, and one that is added.
use Rattle.std.proofs.Common.{◌≡◌, ◌∙◌, ◌==◌, ℕ, Bool, true, false, List, [], ◌∷◌, ◌++◌, refl, ap, subst, sym, arith}
use Rattle.std.proofs.lemmas.Bool.Decides.{nat_tests}
use Rattle.std.specs.Prelude.{Option, Some, None, if◌then◌else◌}
use Rattle.tds_service.specs.Line.{Line}
use Rattle.tds_service.specs.Service.{Place, Seat, seat_numbered, find_by, change_by, placed}

-- ---- Finding

pub same_number : (m n : ℕ) → (m == n) ≡ true → m ≡ n
same_number m n e = grind (arith, nat_tests)

-- each number is of one connection
abbrev pub Unique : List Seat → Type 0
Unique [] = Unit {0}
Unique (c ∷ cs) = (seat_numbered c.number cs ≡ None) × Unique cs

not_none : {A : Type 0} (x : Option Seat) (c : Seat) → x ≡ Some c → x ≡ None → A
not_none x c e f = let u : Some c ≡ None = sym e ∙ f in absurd (let v : ⊥ = cc in v)

-- of two connections of which one is found behind the other, the numbers differ
differ_by : (a b : ℕ) (t : Bool) (cs : List Seat) (d : Seat) → (a == b) ≡ t → seat_numbered a cs ≡ None → seat_numbered b cs ≡ Some d → (a == b) ≡ false
differ_by a b true cs d e none some =
    let same : a ≡ b = same_number a b e in
    not_none (seat_numbered b cs) d some (subst (λ (k : ℕ). seat_numbered k cs ≡ None) same none)
differ_by a b false cs d e none some = e

differ : (a b : ℕ) (cs : List Seat) (d : Seat) → seat_numbered a cs ≡ None → seat_numbered b cs ≡ Some d → (a == b) ≡ false
differ a b cs d none some = differ_by a b (a == b) cs d refl none some

-- what a test finds is the one of its number
is_found_by : (test : Seat → Bool) (d c : Seat) (cs : List Seat) (b : Bool) → seat_numbered c.number cs ≡ None
    → (if b then Some c else find_by test cs) ≡ Some d → (find_by test cs ≡ Some d → seat_numbered d.number cs ≡ Some d)
    → (if c.number == d.number then Some c else seat_numbered d.number cs) ≡ Some d
is_found_by test d c cs true none e ih =
    let same : c ≡ d = cc in
    subst (λ (x : Seat). (if c.number == x.number then Some c else seat_numbered x.number cs) ≡ Some x) same
    (let t : (c.number == c.number) ≡ true = grind (arith, nat_tests) in rw t refl)
is_found_by test d c cs false none e ih =
    let found : seat_numbered d.number cs ≡ Some d = ih e in
    let ne : (c.number == d.number) ≡ false = differ c.number d.number cs d none found in
    rw ne found

pub is_found : (test : Seat → Bool) (d : Seat) (cs : List Seat) → Unique cs → find_by test cs ≡ Some d → seat_numbered d.number cs ≡ Some d
is_found test d [] u e = cc
is_found test d (c ∷ cs) u e = is_found_by test d c cs (test c) u.0 e (is_found test d cs u.1)

-- ---- A connection that is changed

same_seat : (test : Seat → Bool) (c d : Seat) (cs : List Seat) (b : Bool) → b ≡ true → (if b then Some c else find_by test cs) ≡ Some d → c ≡ d
same_seat test c d cs true e f = cc
same_seat test c d cs false e f = cc

-- at another number nothing changes
placed_other : (m n : ℕ) (place : Option Place) (l : Line) (cs : List Seat) → (n == m) ≡ false → seat_numbered m (placed n place l cs) ≡ seat_numbered m cs
placed_other m n None l cs e = refl
placed_other m n (Some place) l cs e = rw e

change_other_by : (test : Seat → Bool) (m : ℕ) (d c : Seat) (place : Option Place) (l : Line) (cs : List Seat) (b : Bool) → (d.number == m) ≡ false
    → (if b then Some c else find_by test cs) ≡ Some d → (find_by test cs ≡ Some d → seat_numbered m (change_by test place l cs) ≡ seat_numbered m cs)
    → seat_numbered m (if b then placed c.number place l cs else c ∷ change_by test place l cs) ≡ (if c.number == m then Some c else seat_numbered m cs)
change_other_by test m d c place l cs true ne e ih =
    let same : c ≡ d = cc in
    let other : (c.number == m) ≡ false = ap (λ (x : Seat). x.number == m) same ∙ ne in
    rw other (placed_other m c.number place l cs other)
change_other_by test m d c place l cs false ne e ih = ap (λ (x : Option Seat). if c.number == m then Some c else x) (ih e)

pub change_other : (test : Seat → Bool) (m : ℕ) (d : Seat) (place : Option Place) (l : Line) (cs : List Seat) → (d.number == m) ≡ false → find_by test cs ≡ Some d
    → seat_numbered m (change_by test place l cs) ≡ seat_numbered m cs
change_other test m d place l [] ne e = refl
change_other test m d place l (c ∷ cs) ne e = change_other_by test m d c place l cs (test c) ne e (change_other test m d place l cs ne)

-- taken out it is gone
change_out_by : (test : Seat → Bool) (d c : Seat) (l : Line) (cs : List Seat) (b : Bool) → Unique (c ∷ cs) → (if b then Some c else find_by test cs) ≡ Some d
    → (find_by test cs ≡ Some d → seat_numbered d.number (change_by test None l cs) ≡ None)
    → seat_numbered d.number (if b then cs else c ∷ change_by test None l cs) ≡ None
change_out_by test d c l cs true u e ih = let same : c ≡ d = cc in subst (λ (x : Seat). seat_numbered x.number cs ≡ None) same u.0
change_out_by test d c l cs false u e ih =
    let ne : (c.number == d.number) ≡ false = differ c.number d.number cs d u.0 (is_found test d cs u.1 e) in
    rw ne (ih e)

pub change_out : (test : Seat → Bool) (d : Seat) (l : Line) (cs : List Seat) → Unique cs → find_by test cs ≡ Some d → seat_numbered d.number (change_by test None l cs) ≡ None
change_out test d l [] u e = refl
change_out test d l (c ∷ cs) u e = change_out_by test d c l cs (test c) u e (change_out test d l cs u.1)

-- else it is what was put
change_here_by : (test : Seat → Bool) (d c : Seat) (place : Place) (l : Line) (cs : List Seat) (b : Bool) → Unique (c ∷ cs) → (if b then Some c else find_by test cs) ≡ Some d
    → (find_by test cs ≡ Some d → seat_numbered d.number (change_by test (Some place) l cs) ≡ Some (record { number = d.number; place = place; line = l }))
    → seat_numbered d.number (if b then (record { number = c.number; place = place; line = l }) ∷ cs else c ∷ change_by test (Some place) l cs)
    ≡ Some (record { number = d.number; place = place; line = l })
change_here_by test d c place l cs true u e ih =
    let same : c ≡ d = cc in
    subst (λ (x : Seat). seat_numbered x.number ((record { number = c.number; place = place; line = l }) ∷ cs) ≡ Some (record { number = x.number; place = place; line = l })) same
    (let t : (c.number == c.number) ≡ true = grind (arith, nat_tests) in rw t refl)
change_here_by test d c place l cs false u e ih =
    let ne : (c.number == d.number) ≡ false = differ c.number d.number cs d u.0 (is_found test d cs u.1 e) in
    rw ne (ih e)

pub change_here : (test : Seat → Bool) (d : Seat) (place : Place) (l : Line) (cs : List Seat) → Unique cs → find_by test cs ≡ Some d
    → seat_numbered d.number (change_by test (Some place) l cs) ≡ Some (record { number = d.number; place = place; line = l })
change_here test d place l [] u e = cc
change_here test d place l (c ∷ cs) u e = change_here_by test d c place l cs (test c) u e (change_here test d place l cs u.1)

-- and the numbers stay of one each
placed_unique : (c : Seat) (place : Option Place) (l : Line) (cs : List Seat) → Unique (c ∷ cs) → Unique (placed c.number place l cs)
placed_unique c None l cs u = u.1
placed_unique c (Some place) l cs u = u

change_unique_by : (test : Seat → Bool) (d c : Seat) (place : Option Place) (l : Line) (cs : List Seat) (b : Bool) → Unique (c ∷ cs) → (if b then Some c else find_by test cs) ≡ Some d
    → (find_by test cs ≡ Some d → Unique (change_by test place l cs))
    → Unique (if b then placed c.number place l cs else c ∷ change_by test place l cs)
change_unique_by test d c place l cs true u e ih = placed_unique c place l cs u
change_unique_by test d c place l cs false u e ih =
    let ne : (c.number == d.number) ≡ false = differ c.number d.number cs d u.0 (is_found test d cs u.1 e) in
    let ne' : (d.number == c.number) ≡ false = grind (arith, nat_tests) in
    (change_other test c.number d place l cs ne' e ∙ u.0, ih e)

pub change_unique : (test : Seat → Bool) (d : Seat) (place : Option Place) (l : Line) (cs : List Seat) → Unique cs → find_by test cs ≡ Some d → Unique (change_by test place l cs)
change_unique test d place l [] u e = tt
change_unique test d place l (c ∷ cs) u e = change_unique_by test d c place l cs (test c) u e (change_unique test d place l cs u.1)

-- a new one
added_by : (m : ℕ) (c d : Seat) (cs : List Seat) (b : Bool) → seat_numbered m (cs ++ d ∷ []) ≡ seat_numbered m cs
    → (if b then Some c else seat_numbered m (cs ++ d ∷ [])) ≡ (if b then Some c else seat_numbered m cs)
added_by m c d cs true ih = refl
added_by m c d cs false ih = ih

pub added_other : (m : ℕ) (d : Seat) (cs : List Seat) → (d.number == m) ≡ false → seat_numbered m (cs ++ d ∷ []) ≡ seat_numbered m cs
added_other m d [] e = rw e
added_other m d (c ∷ cs) e = added_by m c d cs (c.number == m) (added_other m d cs e)

added_here_by : (d c : Seat) (cs : List Seat) (b : Bool) → (if b then Some c else seat_numbered d.number cs) ≡ None
    → (seat_numbered d.number cs ≡ None → seat_numbered d.number (cs ++ d ∷ []) ≡ Some d)
    → (if b then Some c else seat_numbered d.number (cs ++ d ∷ [])) ≡ Some d
added_here_by d c cs true h ih = cc
added_here_by d c cs false h ih = ih h

pub added_here : (d : Seat) (cs : List Seat) → seat_numbered d.number cs ≡ None → seat_numbered d.number (cs ++ d ∷ []) ≡ Some d
added_here d [] h = let e : (d.number == d.number) ≡ true = grind (arith, nat_tests) in rw e
added_here d (c ∷ cs) h = added_here_by d c cs (c.number == d.number) h (added_here d cs)

none_behind : (m : ℕ) (c : Seat) (cs : List Seat) (b : Bool) → (c.number == m) ≡ b → (if b then Some c else seat_numbered m cs) ≡ None
    → ((c.number == m) ≡ false) × (seat_numbered m cs ≡ None)
none_behind m c cs true e h = cc
none_behind m c cs false e h = (e, h)

pub added_unique : (d : Seat) (cs : List Seat) → Unique cs → seat_numbered d.number cs ≡ None → Unique (cs ++ d ∷ [])
added_unique d [] u h = (refl, tt)
added_unique d (c ∷ cs) u h =
    let k = none_behind d.number c cs (c.number == d.number) refl h in
    let ne : (c.number == d.number) ≡ false = k.0 in
    let ne' : (d.number == c.number) ≡ false = grind (arith, nat_tests) in
    (added_other c.number d cs ne' ∙ u.0, added_unique d cs u.1 k.1)
