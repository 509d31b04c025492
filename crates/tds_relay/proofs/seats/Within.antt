-- How many connections a service has: no fewer than another, each of whose numbers it has.
use Rattle.std.proofs.Common.{◌≡◌, ◌≢◌, ◌⊎◌, ◌∙◌, ◌==◌, ◌≤◌, ◌+◌, ℕ, suc, Bool, true, false, List, [], ◌∷◌, length, Option, Some, None, is_some, inl, inr, not, refl, sym, ap, subst, arith, if◌then◌else◌}
use Rattle.std.specs.Prelude.{filter}
use Rattle.std.proofs.lemmas.Bool.{cases_eq, eq-eqb, eqb-true}
use Rattle.tds_service.specs.Line.{new_line}
use Rattle.tds_service.specs.Service.{Free, Seat, Service, seat_numbered}
use Rattle.tds_relay.specs.Few.{has_seat}
use Rattle.tds_relay.specs.Promises.{one_if}
use Rattle.tds_relay.proofs.promises.Seats.{Distinct}
use Rattle.tds_relay.proofs.seats.Counting.{unequal}

-- whether one of these has this number
abbrev Has : ℕ → List Seat → Type 0
Has n cs = is_some (seat_numbered n cs) ≡ true

-- those of other numbers
abbrev others_in : ℕ → List Seat → List Seat
others_in n cs = filter (λ (c : Seat). not (c.number == n)) cs

-- ---- One is taken out

no_more_if : (b : Bool) (c : Seat) (xs cs : List Seat) → length xs ≤ length cs → length (if b then c ∷ xs else xs) ≤ suc (length cs)
no_more_if true c xs cs h = let le : length xs ≤ length cs = h in let t : suc (length xs) ≤ suc (length cs) = omega (arith, le) in t
no_more_if false c xs cs h = let le : length xs ≤ length cs = h in let t : length xs ≤ suc (length cs) = omega (arith, le) in t

no_more : (n : ℕ) (cs : List Seat) → length (others_in n cs) ≤ length cs
no_more n [] = let t : 0 ≤ 0 = omega arith in t
no_more n (c ∷ cs) = no_more_if (not (c.number == n)) c (others_in n cs) cs (no_more n cs)

fewer_if : (b : Bool) (c : Seat) (o : Option Seat) (xs cs : List Seat) → length xs ≤ length cs → (is_some o ≡ true → suc (length xs) ≤ length cs) → is_some (if b then Some c else o) ≡ true
    → suc (length (if not b then c ∷ xs else xs)) ≤ suc (length cs)
fewer_if true c o xs cs h ih e = let le : length xs ≤ length cs = h in let t : suc (length xs) ≤ suc (length cs) = omega (arith, le) in t
fewer_if false c o xs cs h ih e = let lt : suc (length xs) ≤ length cs = ih e in let t : suc (suc (length xs)) ≤ suc (length cs) = omega (arith, lt) in t

fewer : (n : ℕ) (cs : List Seat) → Has n cs → suc (length (others_in n cs)) ≤ length cs
fewer n [] e = absurd (let u : false ≡ true = e in let v : ⊥ = cc in v)
fewer n (c ∷ cs) e = fewer_if (c.number == n) c (seat_numbered n cs) (others_in n cs) cs (no_more n cs) (λ h. fewer n cs h) e

either_there : (b : Bool) (c : Seat) (o p : Option Seat) → is_some o ≡ is_some p → is_some (if b then Some c else o) ≡ is_some (if b then Some c else p)
either_there true c o p e = refl
either_there false c o p e = e

there_if : (b : Bool) (n : ℕ) (c : Seat) (xs cs : List Seat) → (b ≡ true → (c.number == n) ≡ false) → is_some (seat_numbered n xs) ≡ is_some (seat_numbered n cs)
    → is_some (seat_numbered n (if not b then c ∷ xs else xs)) ≡ is_some (if c.number == n then Some c else seat_numbered n cs)
there_if true n c xs cs f ih = let ne : (c.number == n) ≡ false = f refl in rw ne ih
there_if false n c xs cs f ih = either_there (c.number == n) c (seat_numbered n xs) (seat_numbered n cs) ih

others_there : (n m : ℕ) (cs : List Seat) → n ≢ m → is_some (seat_numbered n (others_in m cs)) ≡ is_some (seat_numbered n cs)
others_there n m [] ne = refl
others_there n m (c ∷ cs) ne =
    there_if (c.number == m) n c (others_in m cs) cs (λ t. unequal c.number n (λ same. ne (sym same ∙ eqb-true c.number m t))) (others_there n m cs ne)

-- ---- Each has its number

itself_there : (c : Seat) (cs : List Seat) → Has c.number (c ∷ cs)
itself_there c cs = let t : (c.number == c.number) ≡ true = eq-eqb c.number c.number refl in rw t refl

also_if : (b : Bool) (c : Seat) (o : Option Seat) → is_some o ≡ true → is_some (if b then Some c else o) ≡ true
also_if true c o e = refl
also_if false c o e = e

also_there : (n : ℕ) (c : Seat) (cs : List Seat) → Has n cs → Has n (c ∷ cs)
also_there n c cs e = also_if (c.number == n) c (seat_numbered n cs) e

apart : (n m : ℕ) (cs : List Seat) → seat_numbered m cs ≡ None → Has n cs → n ≢ m
apart n m cs none e = λ same.
    let u : is_some (seat_numbered m cs) ≡ true = subst (λ (k : ℕ). is_some (seat_numbered k cs) ≡ true) same e in
    let v : false ≡ true = sym (ap is_some none) ∙ u in
    let w : ⊥ = cc in w

within : (xs ys : List Seat) → Distinct xs → ((n : ℕ) → Has n xs → Has n ys) → length xs ≤ length ys
within [] ys d h = let t : 0 ≤ length ys = omega arith in t
within (c ∷ cs) ys d h =
    let lt : suc (length (others_in c.number ys)) ≤ length ys = fewer c.number ys (h c.number (itself_there c cs)) in
    let le : length cs ≤ length (others_in c.number ys) =
    within cs (others_in c.number ys) d.1 (λ n e. others_there n c.number ys (apart n c.number cs d.0 e) ∙ h n (also_there n c cs e)) in
    let t : suc (length cs) ≤ length ys = omega (arith, lt, le) in t

-- ---- In a service

abbrev a_seat : ℕ → Seat
a_seat number = record { number = number; place = Free; line = new_line }

none_some : (o : Option Seat) → is_some o ≡ false → o ≡ None
none_some None e = refl
none_some (Some c) e = absurd (let u : true ≡ false = e in let v : ⊥ = cc in v)

no_both : (b : Bool) → b ≡ true → b ≡ false → ⊥
no_both b e f = let u : true ≡ false = sym e ∙ f in let v : ⊥ = cc in v

-- the others are found behind one of this number
behind_it : (n number : ℕ) (cs : List Seat) → n ≢ number → Has n (a_seat number ∷ cs) → Has n cs
behind_it n number cs ne e =
    let t : (number == n) ≡ false = unequal number n (λ same. ne (sym same)) in
    subst (λ (b : Bool). is_some (if b then Some (a_seat number) else seat_numbered n cs) ≡ true) t e

module _ (number : ℕ) (s t : Service) (distinct : Distinct s.seats) (others : (other : ℕ) → other ≢ number → has_seat other t ≡ has_seat other s) where
  stays_by : (n : ℕ) → (n ≡ number) ⊎ (n ≢ number) → (has_seat number s ≡ true → has_seat number t ≡ true) → has_seat n s ≡ true → has_seat n t ≡ true
  stays_by n (inl same) here e = subst (λ (k : ℕ). has_seat k t ≡ true) (sym same) (here (subst (λ (k : ℕ). has_seat k s ≡ true) same e))
  stays_by n (inr ne) here e = others n ne ∙ e

  as_many : (has_seat number s ≡ true → has_seat number t ≡ true) → length s.seats ≤ length t.seats
  as_many here = within s.seats t.seats distinct (λ n e. stays_by n (cases_eq n number) here e)

  lost_by_one : (n : ℕ) → (n ≡ number) ⊎ (n ≢ number) → has_seat n s ≡ true → Has n (a_seat number ∷ t.seats)
  lost_by_one n (inl same) e = subst (λ (k : ℕ). Has k (a_seat number ∷ t.seats)) (sym same) (itself_there (a_seat number) t.seats)
  lost_by_one n (inr ne) e = also_there n (a_seat number) t.seats (others n ne ∙ e)

  more_by_one : (n : ℕ) → (n ≡ number) ⊎ (n ≢ number) → has_seat number t ≡ true → Has n (a_seat number ∷ s.seats) → has_seat n t ≡ true
  more_by_one n (inl same) is e = subst (λ (k : ℕ). has_seat k t ≡ true) (sym same) is
  more_by_one n (inr ne) is e = others n ne ∙ behind_it n number s.seats ne e

  seats_by : (was is : Bool) → has_seat number s ≡ was → has_seat number t ≡ is → length s.seats + one_if is ≤ length t.seats + one_if was
  seats_by true true e f =
      let le : length s.seats ≤ length t.seats = as_many (λ h. f) in
      let sum : length s.seats + 1 ≤ length t.seats + 1 = omega (arith, le) in sum
  seats_by false false e f =
      let le : length s.seats ≤ length t.seats = as_many (λ h. absurd (no_both (has_seat number s) h e)) in
      let sum : length s.seats + 0 ≤ length t.seats + 0 = omega (arith, le) in sum
  seats_by true false e f =
      let le : length s.seats ≤ suc (length t.seats) = within s.seats (a_seat number ∷ t.seats) distinct (λ n h. lost_by_one n (cases_eq n number) h) in
      let sum : length s.seats + 0 ≤ length t.seats + 1 = omega (arith, le) in sum
  seats_by false true e f =
      let le : suc (length s.seats) ≤ length t.seats =
      within (a_seat number ∷ s.seats) t.seats (none_some (seat_numbered number s.seats) e, distinct) (λ n h. more_by_one n (cases_eq n number) f h) in
      let sum : length s.seats + 1 ≤ length t.seats + 0 = omega (arith, le) in sum

  -- but for this one as many are there
  pub seats_but : length s.seats + one_if (has_seat number t) ≤ length t.seats + one_if (has_seat number s)
  seats_but = seats_by (has_seat number s) (has_seat number t) refl refl

pub seats_same : (s t : Service) → Distinct s.seats → ((n : ℕ) → has_seat n t ≡ has_seat n s) → length s.seats ≤ length t.seats
seats_same s t distinct same = within s.seats t.seats distinct (λ n e. same n ∙ e)

-- ---- Beside a relay's

pub with_one : (a b : ℕ) (x y : Bool) → x ≡ y → a ≤ b → a + one_if x ≤ b + one_if y
with_one a b x y e h =
    let le : a ≤ b = h in
    let k : ℕ = one_if y in
    let t : a + k ≤ b + k = omega (arith, le) in
    subst (λ (z : Bool). a + one_if z ≤ b + one_if y) (sym e) t

pub turned_by : (a b c : ℕ) (was is there : Bool) → a + one_if was ≤ b + one_if there → b + one_if is ≤ c + one_if was → a + one_if is ≤ c + one_if there
turned_by a b c was is there h k =
    let x : ℕ = one_if was in
    let y : ℕ = one_if is in
    let z : ℕ = one_if there in
    let u : a + x ≤ b + z = h in
    let v : b + y ≤ c + x = k in
    let t : a + y ≤ c + z = omega (arith, u, v) in t
