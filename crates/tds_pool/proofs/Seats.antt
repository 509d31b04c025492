-- The slab of a pool, and what is shown of it.
use Rattle.std.proofs.Common.{◌≡◌, ℕ, zero, suc, Bool, true, false, not, ◌<◌, List, [], ◌∷◌, length, map, Option, Some, None, refl, sym, ap, subst, ◌∙◌, cond, ⊎_elim, arith}
use Rattle.std.proofs.Math.Dec.{eqb}
use Rattle.std.proofs.lemmas.Bool.{eq-eqb}
use Rattle.std.proofs.lemmas.Bool.Decides.{eqb_tells}
use Rattle.std.proofs.lemmas.List.{get_or-set_same, get_or-set_other}
use Rattle.std.specs.Prelude.{slice_index_or, ◌≢◌, option_map, ◌==◌, ◌&&◌, IfNone, IfSome, IsSome, is_some, drop}
use Rattle.slab.specs.Slab.{Slab, get, with_value, Updates}
use Rattle.tds_numbers.specs.declared.numbers.Entry.{Entry}
use Rattle.tds_pool.specs.declared.seat.Seat.{Seat}
use Rattle.tds_pool.specs.declared.lease.Turn.{Turn}
use Rattle.tds_pool.specs.declared.seat.Place.{Place}
use Rattle.tds_pool.specs.Calls.{only, standing}
use Rattle.tds_pool.specs.Connections.{PoolState, Connection, shown, connections, numbered, changed_in, taken_out, with_client, number_under, connection_of, seat_or_none, reseated, Agree, IsPool}
use Rattle.tds_client.specs.Session.{ClientSession}
use Rattle.tds_pool.specs.Lends.{with_client_under, with_client_numbered, key_or_zero}
use Rattle.tds_numbers.specs.Table.{key_of, key_at, number_at}

pub some_same : {A : Type 0} (a b : A) → Some a ≡ Some b → a ≡ b
some_same a b h = ap (seen a) h where
  seen : {A : Type 0} → A → Option A → A
  seen a None = a
  seen a (Some x) = x

-- ---- What a write changes

within : {T : Type 0} (xs : List (Option T)) (k : ℕ) (v : T) → slice_index_or xs k None ≡ Some v → k < length xs
within [] k v h = absurd (cc)
within (x ∷ xs) zero v h = omega arith
within (x ∷ xs) (suc k) v h = omega (arith, within xs k v h)

pub written : (s : Slab Seat) (key : ℕ) (old new : Seat) → get s key ≡ Some old → Updates s (with_value s key new) key (Some new)
written s key old new h = record {
  changed = get_or-set_same s.slots key (Some new) None (within s.slots key old h);
  others = λ other ne. get_or-set_other s.slots key other (Some new) None ne;
}

number_kept : (s t : Slab Seat) (key : ℕ) (old new : Seat) → Updates s t key (Some new) → get s key ≡ Some old → new.number ≡ old.number → (k : ℕ) → number_under t k ≡ number_under s k
number_kept s t key old new u h same k = ⊎_elim
    (λ e. let is : k ≡ key = e.1 in rw is (rw u.changed (rw h (ap Some same))))
    (λ e. rw (u.others k e.1) refl)
    (eqb_tells k key)

agree_kept : (s t : Slab Seat) (es : List Entry) → ((k : ℕ) → number_under t k ≡ number_under s k) → Agree s es → Agree t es
agree_kept s t [] same h = tt
agree_kept s t (e ∷ es) same h = (same e.key ∙ h.0, agree_kept s t es same h.1)

pub pool_reseated : (p : PoolState) (key : ℕ) (old new : Seat) → IsPool p → get p.seats key ≡ Some old → new.number ≡ old.number → IsPool (reseated p key new)
pool_reseated p key old new pool h same =
    let kept = number_kept p.seats (with_value p.seats key new) key old new (written p.seats key old new h) h same in record {
      agree = agree_kept p.seats (with_value p.seats key new) p.entries kept pool.agree;
      back = λ k n is. pool.back k n (sym (kept k) ∙ is);
      used = pool.used;
      few = pool.few;
      one = pool.one;
      most = pool.most;
    }

-- ---- A connection by its number, and by its key

-- a test that holds, and one that fails
pub taken : {A : Type 0} (b : Bool) (x y : A) → b ≡ true → cond b x y ≡ x
taken true x y h = refl
taken false x y h = absurd (cc)

pub passed : {A : Type 0} (b : Bool) (x y : A) → b ≡ false → cond b x y ≡ y
passed true x y h = absurd (cc)
passed false x y h = refl

-- the connection that is shown where the table has this key beside the number
abbrev entry_of : ℕ → ℕ → Entry
entry_of number key = record { number = number; key = key }

pub numbered_is : (s : Slab Seat) (n : ℕ) (es : List Entry) → numbered n (map (shown s) es) ≡ option_map (λ k. shown s (entry_of n k)) (key_of es n)
numbered_is s n [] = refl
numbered_is s n (e ∷ es) = ⊎_elim
    (λ t. let is : e.number ≡ n = t.1 in
    taken (eqb e.number n) (Some (shown s e)) (numbered n (map (shown s) es)) t.0
    ∙ ap (λ m. Some (shown s (entry_of m e.key))) is
    ∙ sym (ap (option_map (λ k. shown s (entry_of n k))) (taken (eqb e.number n) (Some e.key) (key_of es n) t.0)))
    (λ t. passed (eqb e.number n) (Some (shown s e)) (numbered n (map (shown s) es)) t.0
    ∙ numbered_is s n es
    ∙ sym (ap (option_map (λ k. shown s (entry_of n k))) (passed (eqb e.number n) (Some e.key) (key_of es n) t.0)))
    (eqb_tells e.number n)

-- the slab has the number of each key of the table
pub agree_of : (s : Slab Seat) (n k : ℕ) (es : List Entry) → Agree s es → key_of es n ≡ Some k → number_under s k ≡ Some n
agree_of s n k [] h is = absurd (cc)
agree_of s n k (e ∷ es) h is = ⊎_elim
    (λ t. let same : e.key ≡ k = some_same e.key k (sym (taken (eqb e.number n) (Some e.key) (key_of es n) t.0) ∙ is) in
    let number : e.number ≡ n = t.1 in
    rw (← same, ← number) h.0)
    (λ t. agree_of s n k es h.1 (sym (passed (eqb e.number n) (Some e.key) (key_of es n) t.0) ∙ is))
    (eqb_tells e.number n)

module _ (p : PoolState) (pool : IsPool p) where
  pub numbered_here : (key : ℕ) (seat : Seat) → get p.seats key ≡ Some seat → numbered seat.number (connections p) ≡ Some (connection_of seat.number key seat)
  numbered_here key seat h =
      let under : number_under p.seats key ≡ Some seat.number = ap (option_map (λ (s : Seat). s.number)) h in
      numbered_is p.seats seat.number p.entries
      ∙ ap (option_map (λ k. shown p.seats (entry_of seat.number k))) (pool.back key seat.number under)
      ∙ ap (λ o. Some (connection_of seat.number key (seat_or_none o))) h

  pub held_found : (key : ℕ) (seat : Seat) → get p.seats key ≡ Some seat → (test : Turn → Place → Bool)
      → standing test key seat.number (connections p) ≡ cond (test seat.turn seat.place) (Some (connection_of seat.number key seat)) None
  held_found key seat h test =
      ap (only (λ (c : Connection). (c.key == key) && test c.turn c.place)) (numbered_here key seat h)
      ∙ ap (λ b. cond (b && test seat.turn seat.place) (Some (connection_of seat.number key seat)) None) (eq-eqb key key refl)

  pub held_unknown : (key number : ℕ) → (number_under p.seats key ≡ Some number → ⊥) → (test : Turn → Place → Bool)
      → standing test key number (connections p) ≡ None
  held_unknown key number wrong test = ap (only (λ (c : Connection). (c.key == key) && test c.turn c.place)) (numbered_is p.seats number p.entries) ∙ nobody (key_of p.entries number) refl where
    nobody : (o : Option ℕ) → key_of p.entries number ≡ o → only (λ (c : Connection). (c.key == key) && test c.turn c.place) (option_map (λ k. shown p.seats (entry_of number k)) o) ≡ None
    nobody None is = refl
    nobody (Some k) is = ⊎_elim
        (λ t. let same : k ≡ key = t.1 in let under : number_under p.seats k ≡ Some number = agree_of p.seats number k p.entries pool.agree is in absurd (wrong (rw same at under)))
        (λ t. ap (λ b. cond (b && test (shown p.seats (entry_of number k)).turn (shown p.seats (entry_of number k)).place) (Some (shown p.seats (entry_of number k))) None) t.0)
        (eqb_tells k key)

-- ---- The connections behind a write

-- what was under the key is shown as f makes of it, and the others as they were
module _ (p : PoolState) (pool : IsPool p) (t : Slab Seat) (key : ℕ) (old new : Seat) (u : Updates p.seats t key (Some new)) (h : get p.seats key ≡ Some old) (f : Connection → Connection) (is_f : f (connection_of old.number key old) ≡ connection_of old.number key new) where
  entry_reseated : (e : Entry) → number_under p.seats e.key ≡ Some e.number → shown t e ≡ cond (eqb e.number old.number) (f (shown p.seats e)) (shown p.seats e)
  entry_reseated e is = ⊎_elim
      (λ (x : (eqb e.key key ≡ true) × (e.key ≡ key)).
      let same : e.key ≡ key = x.1 in
      let there : get t e.key ≡ Some new = rw same u.changed in
      let was : get p.seats e.key ≡ Some old = rw same h in
      let number : e.number ≡ old.number = some_same e.number old.number (sym is ∙ ap (option_map (λ (s : Seat). s.number)) was) in
      let now : shown t e ≡ connection_of old.number key new = ap (λ o. connection_of e.number e.key (seat_or_none o)) there ∙ moved e.number e.key new number same in
      let before : shown p.seats e ≡ connection_of old.number key old = ap (λ o. connection_of e.number e.key (seat_or_none o)) was ∙ moved e.number e.key old number same in
      now ∙ sym (taken (eqb e.number old.number) (f (shown p.seats e)) (shown p.seats e) (eq-eqb e.number old.number number) ∙ ap f before ∙ is_f))
      (λ (x : (eqb e.key key ≡ false) × (e.key ≢ key)).
      ap (λ o. connection_of e.number e.key (seat_or_none o)) (u.others e.key x.1)
      ∙ sym (passed (eqb e.number old.number) (f (shown p.seats e)) (shown p.seats e) (unlike e is x.1)))
      (eqb_tells e.key key)
    where
      moved : (n k : ℕ) (seat : Seat) → n ≡ old.number → k ≡ key → connection_of n k seat ≡ connection_of old.number key seat
      moved n k seat a b = ap (λ m. connection_of m k seat) a ∙ ap (λ m. connection_of old.number m seat) b

      unlike : (e : Entry) → number_under p.seats e.key ≡ Some e.number → e.key ≢ key → eqb e.number old.number ≡ false
      unlike e is other = ⊎_elim
          (λ (x : (eqb e.number old.number ≡ true) × (e.number ≡ old.number)).
          let number : e.number ≡ old.number = x.1 in
          let mine : number_under p.seats e.key ≡ Some old.number = rw number at is in
          let its : number_under p.seats key ≡ Some old.number = ap (option_map (λ (s : Seat). s.number)) h in
          absurd (other (some_same e.key key (sym (pool.back e.key old.number mine) ∙ pool.back key old.number its))))
          (λ x. x.0)
          (eqb_tells e.number old.number)

  all_reseated : (es : List Entry) → Agree p.seats es → map (shown t) es ≡ changed_in old.number f (map (shown p.seats) es)
  all_reseated [] is = refl
  all_reseated (e ∷ es) is = ap (λ c. c ∷ map (shown t) es) (entry_reseated e is.0) ∙ ap (λ cs. cond (eqb e.number old.number) (f (shown p.seats e)) (shown p.seats e) ∷ cs) (all_reseated es is.1)

  connections_moved : map (shown t) p.entries ≡ changed_in old.number f (connections p)
  connections_moved = all_reseated p.entries pool.agree

-- the same of a write under a key
pub connections_reseated : (p : PoolState) → IsPool p → (key : ℕ) (old new : Seat) → get p.seats key ≡ Some old → (f : Connection → Connection) → f (connection_of old.number key old) ≡ connection_of old.number key new
    → connections (reseated p key new) ≡ changed_in old.number f (connections p)
connections_reseated p pool key old new h f is_f = connections_moved p pool (with_value p.seats key new) key old new (written p.seats key old new h) h f is_f

-- what stands at a place of the table is under its key
pub agree_at : (s : Slab Seat) (es : List Entry) → Agree s es → (i : ℕ) → i < length es → number_under s (key_at es i) ≡ Some (number_at es i)
agree_at s [] h i lt = absurd (omega (arith, lt))
agree_at s (e ∷ es) h zero lt = h.0
agree_at s (e ∷ es) h (suc i) lt = agree_at s es h.1 i (omega (arith, lt))

-- ---- What the calls ask

pub none_under : (s : Slab Seat) (key number : ℕ) → get s key ≡ None → number_under s key ≡ Some number → ⊥
none_under s key number h is = nothing (sym (ap (option_map (λ (x : Seat). x.number)) h) ∙ is) where
  nothing : None ≡ Some number → ⊥
  nothing e = absurd (cc)

pub other_under : (s : Slab Seat) (key number : ℕ) (seat : Seat) → get s key ≡ Some seat → seat.number ≢ number → number_under s key ≡ Some number → ⊥
other_under s key number seat h other is = other (some_same seat.number number (sym (ap (option_map (λ (x : Seat). x.number)) h) ∙ is))

module _ (p : PoolState) (pool : IsPool p) where
  pub standing_found : (key number : ℕ) (seat : Seat) → get p.seats key ≡ Some seat → seat.number ≡ number → (test : Turn → Place → Bool) → test seat.turn seat.place ≡ true → standing test key number (connections p) ≡ Some (connection_of number key seat)
  standing_found key number seat h is test good =
      subst (λ n. standing test key n (connections p) ≡ Some (connection_of n key seat)) is
      (held_found p pool key seat h test ∙ taken (test seat.turn seat.place) (Some (connection_of seat.number key seat)) None good)

  pub standing_elsewhere : (key number : ℕ) (seat : Seat) → get p.seats key ≡ Some seat → seat.number ≡ number → (test : Turn → Place → Bool) → test seat.turn seat.place ≡ false → standing test key number (connections p) ≡ None
  standing_elsewhere key number seat h is test bad =
      subst (λ n. standing test key n (connections p) ≡ None) is
      (held_found p pool key seat h test ∙ passed (test seat.turn seat.place) (Some (connection_of seat.number key seat)) None bad)

  -- at a place of the table
  pub none_at : (i : ℕ) → i < length p.entries → get p.seats (key_at p.entries i) ≡ None → ⊥
  none_at i lt h = none_under p.seats (key_at p.entries i) (number_at p.entries i) h (agree_at p.seats p.entries pool.agree i lt)

  pub number_here : (i : ℕ) (seat : Seat) → i < length p.entries → get p.seats (key_at p.entries i) ≡ Some seat → seat.number ≡ number_at p.entries i
  number_here i seat lt h = some_same seat.number (number_at p.entries i) (sym (ap (option_map (λ (x : Seat). x.number)) h) ∙ agree_at p.seats p.entries pool.agree i lt)

  pub key_here : (i : ℕ) → i < length p.entries → key_of p.entries (number_at p.entries i) ≡ Some (key_at p.entries i)
  key_here i lt = pool.back (key_at p.entries i) (number_at p.entries i) (agree_at p.seats p.entries pool.agree i lt)

-- a number that the table lacks is not shown
pub absent_shown : (p : PoolState) (n : ℕ) (o : Option ℕ) → IfNone o (key_of p.entries n ≡ None) → IfNone o (numbered n (connections p) ≡ None)
absent_shown p n None h = numbered_is p.seats n p.entries ∙ ap (option_map (λ k. shown p.seats (entry_of n k))) h
absent_shown p n (Some i) h = tt

pub found_shown : (p : PoolState) (n : ℕ) (o : Option ℕ) → IfSome o (λ i. (i < length p.entries) × (number_at p.entries i ≡ n) × (key_of p.entries n ≡ Some (key_at p.entries i)))
    → IfSome o (λ i. (i < length p.entries) × (number_at p.entries i ≡ n) × (is_some (numbered n (connections p)) ≡ true))
found_shown p n None h = tt
found_shown p n (Some i) h = (h.0, h.1, ap is_some (numbered_is p.seats n p.entries ∙ ap (option_map (λ k. shown p.seats (entry_of n k))) h.2))

none_taken : (n : ℕ) (cs : List Connection) → numbered n cs ≡ None → taken_out n cs ≡ cs
none_taken n [] h = refl
none_taken n (c ∷ cs) h = by (eqb c.number n) h (none_taken n cs) where
  by : (b : Bool) → cond b (Some c) (numbered n cs) ≡ None → (numbered n cs ≡ None → taken_out n cs ≡ cs) → cond (not b) (c ∷ taken_out n cs) (taken_out n cs) ≡ c ∷ cs
  by true e rest = absurd (cc)
  by false e rest = ap (λ ds. c ∷ ds) (rest e)

pub absent_taken : (p : PoolState) (n : ℕ) (o : Option ℕ) → IfNone o (key_of p.entries n ≡ None) → IfNone o (taken_out n (connections p) ≡ connections p)
absent_taken p n None h = none_taken n (connections p) (absent_shown p n None h)
absent_taken p n (Some i) h = tt

-- the connections from a place on
drop_shown : (s : Slab Seat) (es : List Entry) (i : ℕ) → i < length es → drop i (map (shown s) es) ≡ shown s (entry_of (number_at es i) (key_at es i)) ∷ drop (suc i) (map (shown s) es)
drop_shown s [] i lt = absurd (omega (arith, lt))
drop_shown s (e ∷ es) zero lt = refl
drop_shown s (e ∷ es) (suc i) lt = drop_shown s es i (omega (arith, lt))

pub next_shown : (p : PoolState) → IsPool p → (i : ℕ) (seat : Seat) → i < length p.entries → get p.seats (key_at p.entries i) ≡ Some seat
    → drop i (connections p) ≡ connection_of seat.number (key_at p.entries i) seat ∷ drop (suc i) (connections p)
next_shown p pool i seat lt h =
    drop_shown p.seats p.entries i lt
    ∙ ap (λ o. connection_of (number_at p.entries i) (key_at p.entries i) (seat_or_none o) ∷ drop (suc i) (connections p)) h
    ∙ ap (λ n. connection_of n (key_at p.entries i) seat ∷ drop (suc i) (connections p)) (sym (number_here p pool i seat lt h))

-- a client that is written under a key
pub writes_under : (p : PoolState) → IsPool p → (key number : ℕ) (seat : Seat) → get p.seats key ≡ Some seat → seat.number ≡ number → (client : ClientSession)
    → connections (with_client_under p key client) ≡ with_client number client (connections p)
writes_under p pool key number seat h is client =
    ap (λ o. connections (reseated p key (record (seat_or_none o) { client = client }))) h
    ∙ connections_reseated p pool key seat (record seat { client = client }) h (λ c. record c { client = client }) refl
    ∙ ap (λ n. with_client n client (connections p)) is

-- ---- The client of a number

pub seat_under : (s : Slab Seat) (k n : ℕ) → number_under s k ≡ Some n → (seat : Seat) × (get s k ≡ Some seat) × (seat.number ≡ n)
seat_under s k n h = by (get s k) refl h where
  by : (o : Option Seat) → get s k ≡ o → option_map (λ (x : Seat). x.number) o ≡ Some n → (seat : Seat) × (get s k ≡ Some seat) × (seat.number ≡ n)
  by None e i = absurd (cc)
  by (Some seat) e i = (seat, e, some_same seat.number n i)

module _ (p : PoolState) (pool : IsPool p) (n k : ℕ) (is : key_of p.entries n ≡ Some k) where
  pub client_numbered : option_map (λ (seat : Seat). seat.client) (get p.seats k) ≡ option_map (λ (c : Connection). c.client) (numbered n (connections p))
  client_numbered =
      let u = seat_under p.seats k n (agree_of p.seats n k p.entries pool.agree is) in
      let it : numbered n (connections p) ≡ Some (connection_of n k u.0) = numbered_is p.seats n p.entries ∙ ap (option_map (λ j. shown p.seats (entry_of n j))) is ∙ ap (λ o. Some (connection_of n k (seat_or_none o))) u.1 in
      ap (option_map (λ (seat : Seat). seat.client)) u.1 ∙ sym (ap (option_map (λ (c : Connection). c.client)) it)

  pub writes_numbered : (client : ClientSession) → connections (with_client_numbered p n client) ≡ with_client n client (connections p)
  writes_numbered client =
      let u = seat_under p.seats k n (agree_of p.seats n k p.entries pool.agree is) in
      ap (λ o. connections (with_client_under p (key_or_zero o) client)) is ∙ writes_under p pool k n u.0 u.1 u.2 client

pub absent_writes : (p : PoolState) (n : ℕ) → key_of p.entries n ≡ None → IsSome (numbered n (connections p)) → ⊥
absent_writes p n is some =
    let none : numbered n (connections p) ≡ None = absent_shown p n None is in
    let wrong : IsSome {T = Connection} None = rw none at some in
    absurd (cc)

-- ---- More room in the slab

pub pool_grown : (p : PoolState) (n : ℕ) → IsPool p → IsPool (record p { seats = record p.seats { capacity = n } })
pool_grown p n pool = record {
  agree = agree_kept p.seats (record p.seats { capacity = n }) p.entries (λ k. refl) pool.agree;
  back = λ k m is. pool.back k m is;
  used = pool.used;
  few = pool.few;
  one = pool.one;
  most = pool.most;
}
