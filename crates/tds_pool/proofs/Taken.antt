-- A connection that is taken out of a pool, and a new one.
use Rattle.std.proofs.Common.{◌≡◌, ℕ, suc, Bool, true, false, not, ◌<◌, ◌≤◌, List, [], ◌∷◌, ◌++◌, length, map, Some, None, refl, sym, ap, ◌∙◌, cond, ⊎_elim, arith}
use Rattle.std.proofs.Math.Dec.{eqb}
use Rattle.std.proofs.lemmas.Bool.{eq-eqb}
use Rattle.std.proofs.lemmas.Bool.Decides.{nat_tests, eqb_tells}
use Rattle.std.specs.Prelude.{◌≢◌, option_map}
use Rattle.slab.specs.Slab.{Slab, get, Updates}
use Rattle.tds_numbers.specs.declared.numbers.Entry.{Entry}
use Rattle.tds_pool.specs.declared.seat.Seat.{Seat}
use Rattle.tds_pool.specs.Connections.{PoolState, Connection, shown, connections, numbered, taken_out, number_under, connection_of, seat_or_none, Agree, IsPool}
use Rattle.tds_numbers.specs.Table.{key_of, without, AreBelow}
use Rattle.tds_pool.proofs.Seats.{some_same, agree_of, taken, passed}

-- ---- Taking out

when_without : (b : Bool) (P : List Entry → Type 0) (x : Entry) (xs : List Entry) → P (x ∷ xs) → P xs → P (cond (not b) (x ∷ xs) xs)
when_without true P x xs stays goes = goes
when_without false P x xs stays goes = stays

shorter : (n : ℕ) (es : List Entry) → length (without n es) ≤ length es
shorter n [] = omega arith
shorter n (e ∷ es) = when_without (eqb e.number n) (λ xs. length xs ≤ suc (length es)) e (without n es) (omega (arith, shorter n es)) (omega (arith, shorter n es))

-- another number keeps its key
key_without : (n m : ℕ) (es : List Entry) → m ≢ n → key_of (without n es) m ≡ key_of es m
key_without n m [] other = refl
key_without n m (e ∷ es) other = ⊎_elim
    (λ t. let is : e.number ≡ n = t.1 in
    dropped (eqb e.number n) t.0 ∙ key_without n m es other
    ∙ sym (passed (eqb e.number m) (Some e.key) (key_of es m) (unlike e.number n m is other)))
    (λ t. stays (eqb e.number n) t.0 ∙ ap (λ o. cond (eqb e.number m) (Some e.key) o) (key_without n m es other))
    (eqb_tells e.number n)
  where
    unlike : (a n m : ℕ) → a ≡ n → m ≢ n → eqb a m ≡ false
    unlike a n m is other = ⊎_elim (λ t. let e : a ≡ m = t.1 in absurd (other (sym e ∙ is))) (λ t. t.0) (eqb_tells a m)

    dropped : (b : Bool) → b ≡ true → key_of (cond (not b) (e ∷ without n es) (without n es)) m ≡ key_of (without n es) m
    dropped true h = refl
    dropped false h = absurd (cc)

    stays : (b : Bool) → b ≡ false → key_of (cond (not b) (e ∷ without n es) (without n es)) m ≡ cond (eqb e.number m) (Some e.key) (key_of (without n es) m)
    stays true h = absurd (cc)
    stays false h = refl

below_without : (m n : ℕ) (es : List Entry) → AreBelow m es → AreBelow m (without n es)
below_without m n [] h = tt
below_without m n (e ∷ es) h = when_without (eqb e.number n) (AreBelow m) e (without n es) (h.0, below_without m n es h.1) (below_without m n es h.1)

module _ (p : PoolState) (pool : IsPool p) (t : Slab Seat) (key n : ℕ) (u : Updates p.seats t key None) (here : key_of p.entries n ≡ Some key) where
  -- what stands under another number has another key
  other_key : (e : Entry) → number_under p.seats e.key ≡ Some e.number → eqb e.number n ≡ false → e.key ≢ key
  other_key e is differs same =
      let its : number_under p.seats key ≡ Some n = agree_of p.seats n key p.entries pool.agree here in
      let mine : number_under p.seats key ≡ Some e.number = rw same at is in
      let number : e.number ≡ n = some_same e.number n (sym mine ∙ its) in
      absurd (wrong (eq-eqb e.number n number) differs)
    where
      wrong : {b : Bool} → b ≡ true → b ≡ false → ⊥
      wrong yes_it no_it = absurd (cc)

  get_other : (e : Entry) → number_under p.seats e.key ≡ Some e.number → eqb e.number n ≡ false → get t e.key ≡ get p.seats e.key
  get_other e is differs = u.others e.key (other_key e is differs)

  agree_without : (es : List Entry) → Agree p.seats es → Agree t (without n es)
  agree_without [] is = tt
  agree_without (e ∷ es) is = by (eqb e.number n) refl (agree_without es is.1) where
    by : (b : Bool) → eqb e.number n ≡ b → Agree t (without n es) → Agree t (cond (not b) (e ∷ without n es) (without n es))
    by true h rest = rest
    by false h rest = (ap (option_map (λ (s : Seat). s.number)) (get_other e is.0 h) ∙ is.0, rest)

  shown_without : (es : List Entry) → Agree p.seats es → map (shown t) (without n es) ≡ taken_out n (map (shown p.seats) es)
  shown_without [] is = refl
  shown_without (e ∷ es) is = by (eqb e.number n) refl (shown_without es is.1) where
    by : (b : Bool) → eqb e.number n ≡ b → map (shown t) (without n es) ≡ taken_out n (map (shown p.seats) es) → map (shown t) (cond (not b) (e ∷ without n es) (without n es)) ≡ cond (not b) (shown p.seats e ∷ taken_out n (map (shown p.seats) es)) (taken_out n (map (shown p.seats) es))
    by true h rest = rest
    by false h rest =
        ap (λ o. record { number = e.number; key = e.key; turn = (seat_or_none o).turn; place = (seat_or_none o).place; client = (seat_or_none o).client } ∷ map (shown t) (without n es)) (get_other e is.0 h)
        ∙ ap (λ cs. shown p.seats e ∷ cs) rest

  back_without : (k m : ℕ) → number_under t k ≡ Some m → key_of (without n p.entries) m ≡ Some k
  back_without k m is = ⊎_elim
      (λ x. let same : k ≡ key = x.1 in
      let gone : number_under t k ≡ None = rw same (ap (option_map (λ (s : Seat). s.number)) u.changed) in
      absurd (nothing m (sym gone ∙ is)))
      (λ x. let was : number_under p.seats k ≡ Some m = sym (ap (option_map (λ (s : Seat). s.number)) (u.others k x.1)) ∙ is in
      let its : key_of p.entries m ≡ Some k = pool.back k m was in
      key_without n m p.entries (λ e. x.1 (some_same k key (sym its ∙ ap (key_of p.entries) e ∙ here))) ∙ its)
      (eqb_tells k key)
    where
      nothing : (m : ℕ) → None ≡ Some m → ⊥
      nothing m h = absurd (cc)

  pub pool_without : IsPool (record p { entries = without n p.entries; seats = t })
  pool_without = record {
    agree = agree_without p.entries pool.agree;
    back = back_without;
    used = below_without (suc p.last) n p.entries pool.used;
    few = omega (arith, shorter n p.entries, pool.few);
    one = pool.one;
    most = pool.most;
  }

  pub connections_without : map (shown t) (without n p.entries) ≡ taken_out n (connections p)
  connections_without = shown_without p.entries pool.agree

-- ---- A new one

key_push : (es : List Entry) (e : Entry) (m k : ℕ) → key_of es m ≡ Some k → key_of (es ++ e ∷ []) m ≡ Some k
key_push [] e m k h = absurd (cc)
key_push (x ∷ es) e m k h = by (eqb x.number m) h (λ rest. key_push es e m k rest) where
  by : (b : Bool) → cond b (Some x.key) (key_of es m) ≡ Some k → (key_of es m ≡ Some k → key_of (es ++ e ∷ []) m ≡ Some k) → cond b (Some x.key) (key_of (es ++ e ∷ []) m) ≡ Some k
  by true h rest = h
  by false h rest = rest h

key_last : (es : List Entry) (e : Entry) → AreBelow e.number es → key_of (es ++ e ∷ []) e.number ≡ Some e.key
key_last [] e below = taken (eqb e.number e.number) (Some e.key) None (eq-eqb e.number e.number refl)
key_last (x ∷ es) e below = passed (eqb x.number e.number) (Some x.key) (key_of (es ++ e ∷ []) e.number) (apart x.number e.number below.0) ∙ key_last es e below.1 where
  apart : (a b : ℕ) → a < b → eqb a b ≡ false
  apart a b lt = grind (arith, nat_tests)

below_push : (n m : ℕ) (es : List Entry) (e : Entry) → AreBelow n es → n ≤ m → e.number < m → AreBelow m (es ++ e ∷ [])
below_push n m [] e h le lt = (lt, tt)
below_push n m (x ∷ es) e h le lt = (omega (arith, h.0, le), below_push n m es e h.1 le lt)

more : (es : List Entry) (e : Entry) → length (es ++ e ∷ []) ≡ suc (length es)
more [] e = refl
more (x ∷ es) e = ap suc (more es e)

module _ (p : PoolState) (pool : IsPool p) (t : Slab Seat) (key : ℕ) (new : Seat) (u : Updates p.seats t key (Some new)) (vacant : get p.seats key ≡ None) (next : new.number ≡ suc p.last) (room : length p.entries < p.max) where
  abbrev added : Entry
  added = record { number = new.number; key = key }

  kept_key : (e : Entry) → number_under p.seats e.key ≡ Some e.number → get t e.key ≡ get p.seats e.key
  kept_key e is = u.others e.key (λ same. nothing e.number (sym (ap (option_map (λ (s : Seat). s.number)) vacant) ∙ ap (number_under p.seats) (sym same) ∙ is)) where
    nothing : (m : ℕ) → None ≡ Some m → ⊥
    nothing m h = absurd (cc)

  under_new : number_under t key ≡ Some new.number
  under_new = ap (option_map (λ (s : Seat). s.number)) u.changed

  agree_more : (es : List Entry) → Agree p.seats es → Agree t (es ++ added ∷ [])
  agree_more [] is = (under_new, tt)
  agree_more (e ∷ es) is = (ap (option_map (λ (s : Seat). s.number)) (kept_key e is.0) ∙ is.0, agree_more es is.1)

  shown_more : (es : List Entry) → Agree p.seats es → map (shown t) (es ++ added ∷ []) ≡ map (shown p.seats) es ++ connection_of new.number key new ∷ []
  shown_more [] is = ap (λ o. record { number = new.number; key = key; turn = (seat_or_none o).turn; place = (seat_or_none o).place; client = (seat_or_none o).client } ∷ []) u.changed
  shown_more (e ∷ es) is =
      ap (λ o. record { number = e.number; key = e.key; turn = (seat_or_none o).turn; place = (seat_or_none o).place; client = (seat_or_none o).client } ∷ map (shown t) (es ++ added ∷ [])) (kept_key e is.0)
      ∙ ap (λ cs. shown p.seats e ∷ cs) (shown_more es is.1)

  pub below_next : AreBelow new.number p.entries
  below_next = rw next pool.used

  back_more : (k m : ℕ) → number_under t k ≡ Some m → key_of (p.entries ++ added ∷ []) m ≡ Some k
  back_more k m is = ⊎_elim
      (λ x. let same : k ≡ key = x.1 in
      let its : number_under t key ≡ Some m = rw same at is in
      let number : new.number ≡ m = some_same new.number m (sym under_new ∙ its) in
      rw (same, ← number) (key_last p.entries added below_next))
      (λ x. key_push p.entries added m k (pool.back k m (sym (ap (option_map (λ (s : Seat). s.number)) (u.others k x.1)) ∙ is)))
      (eqb_tells k key)

  pub pool_more : IsPool (record p { last = new.number; entries = p.entries ++ added ∷ []; seats = t })
  pool_more = record {
    agree = agree_more p.entries pool.agree;
    back = back_more;
    used = below_push (suc p.last) (suc new.number) p.entries added pool.used (omega (arith, next)) (omega arith);
    few = omega (arith, room, more p.entries added);
    one = pool.one;
    most = pool.most;
  }

  pub connections_more : map (shown t) (p.entries ++ added ∷ []) ≡ connections p ++ connection_of new.number key new ∷ []
  connections_more = shown_more p.entries pool.agree

-- ---- What was taken out

pub gone : (n : ℕ) (cs : List Connection) → numbered n (taken_out n cs) ≡ None
gone n [] = refl
gone n (c ∷ cs) = by (eqb c.number n) refl (gone n cs) where
  by : (b : Bool) → eqb c.number n ≡ b → numbered n (taken_out n cs) ≡ None → numbered n (cond (not b) (c ∷ taken_out n cs) (taken_out n cs)) ≡ None
  by true e rest = rest
  by false e rest = passed (eqb c.number n) (Some c) (numbered n (taken_out n cs)) e ∙ rest
