-- Nothing is put in front of what an application asks that is lent a connection.
use Rattle.std.proofs.Common.{◌≡◌, ◌≢◌, ◌⊎◌, ◌∙◌, ◌==◌, ◌++◌, ◌≤◌, ℕ, Bool, true, false, List, [], ◌∷◌, Option, Some, None, inl, inr, refl, sym, ap, subst, arith, if◌then◌else◌}
use Rattle.std.specs.Prelude.{Result, Ok, Err, OnOk, IsSome, ◌<◌}
use Rattle.std.proofs.lemmas.Bool.{cases_eq, eq-eqb, eqb-true}
use Rattle.slab.specs.Slab.{Slab, get}
use Rattle.tds_service.specs.declared.service.Service as services
use Rattle.tds_service.specs.Table.{client_of}
use Rattle.tds_relay.specs.declared.application.Application.{Application}
use Rattle.tds_relay.specs.declared.link.Link.{Link}
use Rattle.tds_relay.specs.declared.pool.Hold.{Hold}
use Rattle.tds_relay.specs.declared.pool.Pool as pools
use Rattle.tds_relay.specs.declared.pool.Served.{Served}
use Rattle.tds_relay.specs.declared.relay.Relay as code
use Rattle.tds_relay.specs.declared.state.Asking.{Asking}
use Rattle.tds_relay.specs.declared.state.Asking.TheVariants as asking
use Rattle.tds_relay.specs.Apart.{Alone}
use Rattle.tds_relay.specs.Asking.{IsTakenBack}
use Rattle.tds_relay.specs.Bodies.{Astray, Body, Closed, Closes, Goes, GoesFrom, Going, IsStill, Starts, Stays, Strays, body_by, body_in, body_of, going, going_by, going_of, standing_in}
use Rattle.tds_relay.specs.Core.{End, end_at, holder, is_in}
use Rattle.tds_relay.specs.Fronts.{MovedOn, core_in, ends_in, machine_in}
use Rattle.tds_relay.specs.Machine.{IsLedTo}
use Rattle.tds_relay.specs.Queues.{queues_in}
use Rattle.tds_relay.specs.Lent as lent
use Rattle.tds_relay.specs.Lent.{AsksBehind, IsAskedOn, KeepsToItsOwn, KeepsWaits, LendsBehind, LendsInLine, MayBeLent}
use Rattle.tds_relay.specs.Places.{is_closed, own_asking, own_held}
use Rattle.tds_relay.specs.Pool.{Serves, Sharing, find_key, find_number, key_of}
use Rattle.tds_relay.specs.Reads.{Opens, StaysAt, carried_there, open_at, waits_on}
use Rattle.tds_relay.specs.Sparing as sparing
use Rattle.tds_relay.specs.Sparing.{AllGo, AllHold, AllRest, IsKept, OthersRest, Rests, StartsBehind, StartsThere}
use Rattle.tds_relay.specs.Ties.{IsReached, LedOn, Neither, Serving, Turns, pool_in}
use Rattle.tds_relay.specs.Waiting.{GoesOrWaits}
use Rattle.tds_relay.proofs.held.Fewer.{who_held}
use Rattle.tds_relay.proofs.held.Numbers.{Apart, apart_at, its_holder}
use Rattle.tds_relay.proofs.lending.Dialled.{above, above_too}
use Rattle.tds_relay.proofs.lending.Resting.{held_rest, reached_on_does, reached_serves, rests_both}
use Rattle.tds_relay.proofs.spared.Filling.{added_found, last_found, lent_holds, unserved_holds, waits_queued}
use Rattle.tds_relay.proofs.spared.Opening.{on_last, served_above}
use Rattle.tds_relay.proofs.spared.Starting.{not_kept}
use Rattle.tds_relay.proofs.visits.Unheld.{first_waits, unheld_behind}

-- ---- One after the other

closed_behind : (w : Option (List ℕ)) {c : Body} → StartsBehind w Closed c → c ≡ Closed
closed_behind w sparing.Stays = refl
closed_behind w sparing.Closes = refl

astray_behind : (w : Option (List ℕ)) {a : Body} → StartsBehind w a Astray → a ≡ Astray
astray_behind w sparing.Stays = refl

closed_then : (w : Option (List ℕ)) (b c : Body) → b ≡ Closed → StartsBehind w b c ⊎ (b ≡ Astray) → c ≡ Closed
closed_then w b c shut (inl s) = closed_behind w (subst (λ (x : Body). StartsBehind w x c) shut s)
closed_then w b c shut (inr astray) = absurd (let u : Closed ≡ Astray = sym shut ∙ astray in let v : ⊥ = cc in v)

astray_then : (w : Option (List ℕ)) (a c : Body) → c ≡ Astray → StartsBehind w a c ⊎ (a ≡ Astray) → a ≡ Astray
astray_then w a c astray (inl s) = astray_behind w (subst (λ (x : Body). StartsBehind w a x) astray s)
astray_then w a c astray (inr e) = e

rest_start : (w : Option (List ℕ)) (a b c : Body) → Rests a b → StartsBehind w b c ⊎ (b ≡ Astray) → StartsBehind w a c ⊎ (a ≡ Astray)
rest_start w a b c (inl (inl same)) h = subst (λ (x : Body). StartsBehind w x c ⊎ (x ≡ Astray)) same h
rest_start w a b c (inl (inr shut)) h = inl (subst (λ (x : Body). StartsBehind w a x) (sym (closed_then w b c shut h)) sparing.Closes)
rest_start w a b c (inr astray) h = inr astray

rest_still : (w now : Option (List ℕ)) (a b c : Body) → Rests a b → AsksBehind w now b c → IsStill a → IsStill c → StaysAt w now
rest_still w now a b c (inl (inl same)) h was is = h.still (subst IsStill (sym same) was) is
rest_still w now a b c (inl (inr shut)) h was is = absurd (subst IsStill (closed_then w b c shut h.starts) is)
rest_still w now a b c (inr astray) h was is = absurd (subst IsStill astray was)

-- it stayed before that
pub rest_asks : (w now : Option (List ℕ)) (a b c : Body) → Rests a b → AsksBehind w now b c → AsksBehind w now a c
rest_asks w now a b c rest h = record { starts = rest_start w a b c rest h.starts; still = rest_still w now a b c rest h }

start_rest : (w : Option (List ℕ)) (a c d : Body) → StartsBehind w a c ⊎ (a ≡ Astray) → Rests c d → StartsBehind w a d ⊎ (a ≡ Astray)
start_rest w a c d h (inl (inl same)) = subst (λ (x : Body). StartsBehind w a x ⊎ (a ≡ Astray)) (sym same) h
start_rest w a c d h (inl (inr shut)) = inl (subst (λ (x : Body). StartsBehind w a x) (sym shut) sparing.Closes)
start_rest w a c d h (inr astray) = inr (astray_then w a c astray h)

still_rest : (w now : Option (List ℕ)) (a c d : Body) → AsksBehind w now a c → Rests c d → IsStill a → IsStill d → StaysAt w now
still_rest w now a c d h (inl (inl same)) was is = h.still was (subst IsStill same is)
still_rest w now a c d h (inl (inr shut)) was is = absurd (subst IsStill shut is)
still_rest w now a c d h (inr astray) was is = absurd (subst IsStill (astray_then w a c astray h.starts) was)

-- it stays behind it
pub asks_rest : (w now : Option (List ℕ)) (a c d : Body) → AsksBehind w now a c → Rests c d → AsksBehind w now a d
asks_rest w now a c d h rest = record { starts = start_rest w a c d h.starts rest; still = still_rest w now a c d h rest }

none_start : (v : Option (List ℕ)) {a c : Body} → StartsBehind None a c → StartsBehind v a c
none_start v sparing.Stays = sparing.Stays
none_start v sparing.Closes = sparing.Closes
none_start v (sparing.Goes was out from is puts) = absurd (let u : None ≡ Some was = is in let v : ⊥ = cc in v)

none_starts : (v : Option (List ℕ)) (a c : Body) → StartsBehind None a c ⊎ (a ≡ Astray) → StartsBehind v a c ⊎ (a ≡ Astray)
none_starts v a c (inl s) = inl (none_start v s)
none_starts v a c (inr e) = inr e

none_stays : (v now : Option (List ℕ)) → StaysAt None now → StaysAt v now
none_stays v None h = tt
none_stays v (Some x) h = absurd (let u : None ≡ Some x = h in let w : ⊥ = cc in w)

-- the same waited before that, or the connection was there no more
pub asks_from : (v w now : Option (List ℕ)) (a c : Body) → (w ≡ None) ⊎ (w ≡ v) → AsksBehind w now a c → AsksBehind v now a c
asks_from v w now a c (inl none) h =
    let k = subst (λ (o : Option (List ℕ)). AsksBehind o now a c) none h in
    record { starts = none_starts v a c k.starts; still = λ was is. none_stays v now (k.still was is) }
asks_from v w now a c (inr same) h = subst (λ (o : Option (List ℕ)). AsksBehind o now a c) same h

-- or it waits behind it
pub asks_to : (w now later : Option (List ℕ)) (a c : Body) → (later ≡ None) ⊎ (later ≡ now) → AsksBehind w now a c → AsksBehind w later a c
asks_to w now later a c (inl none) h = record { starts = h.starts; still = λ was is. subst (λ (o : Option (List ℕ)). StaysAt w o) (sym none) tt }
asks_to w now later a c (inr same) h = subst (λ (o : Option (List ℕ)). AsksBehind w o a c) (sym same) h

-- ---- Where it is asked

shut_stays : {A : Type 0} (o p : Option A) → o ≡ None → StaysAt o p → p ≡ None
shut_stays o None e h = refl
shut_stays o (Some x) e h = absurd (let u : None ≡ Some x = sym e ∙ h in let v : ⊥ = cc in v)

stays_there : {A : Type 0} (o : Option A) → StaysAt o o
stays_there None = tt
stays_there (Some x) = refl

-- it stays behind it
asked_on : (number key : ℕ) (mid new : code.Relay) → Rests (body_of key mid) (body_of key new) → (body_of key mid ≡ Astray → ⊥) → end_at (ends_in new.applications) key ≡ end_at (ends_in mid.applications) key
    → StaysAt (open_at number mid.links.items) (open_at number new.links.items) → IsAskedOn number key mid → IsAskedOn number key new
asked_on number key mid new (inl (inl same)) not ends opens h = λ kept. elim (h (subst IsKept same kept)) [
  | inl back ↦ inl (subst (λ (o : Option End). IsTakenBack o) (sym ends) back)
  | inr shut ↦ inr (shut_stays (open_at number mid.links.items) (open_at number new.links.items) shut opens)
]
asked_on number key mid new (inl (inr shut)) not ends opens h = λ kept. absurd (subst IsKept shut kept)
asked_on number key mid new (inr astray) not ends opens h = absurd (not astray)

-- it stayed before that
pub asked_first : (number key : ℕ) (w : Option (List ℕ)) (a b : Body) (new : code.Relay) → Rests a b → StartsBehind w b (body_of key new) ⊎ (b ≡ Astray) → (IsStill b → IsAskedOn number key new) → IsStill a → IsAskedOn number key new
asked_first number key w a b new (inl (inl same)) starts h was = h (subst IsStill (sym same) was)
asked_first number key w a b new (inl (inr shut)) starts h was = λ kept. absurd (subst IsKept (closed_then w b (body_of key new) shut starts) kept)
asked_first number key w a b new (inr astray) starts h was = absurd (subst IsStill astray was)

-- ---- Of who holds none

abbrev pub Stands : Body → Type 0
Stands (Going number client waits) = ⊥
Stands _ = Unit {0}

stands_if : (over : Bool) (x : Asking) (held : List ℕ) → Stands (if over then Closed else body_by x held Astray)
stands_if true x held = tt
stands_if false asking.Nothing held = tt
stands_if false (asking.Waits kind whole) held = tt
stands_if false asking.Goes held = tt

stands_in : (o : Option Application) → Stands (body_in o Astray)
stands_in None = tt
stands_in (Some a) = stands_if (is_closed a) (own_asking a) (own_held a)

stood : {a b : Body} → Starts a b → Stands b → Rests a b
stood Stays h = inl (inl refl)
stood Closes h = inl (inr refl)
stood Strays h = inr refl
stood (Goes waits out from puts) h = absurd h

pub unheld_stands : (key : ℕ) (b : code.Relay) → find_key key b.pool.holds.items ≡ None → Stands (body_of key b)
unheld_stands key b none = subst (λ (o : Option Hold). Stands (body_in (get b.applications key) (going b.pool.service b.links.items o))) (sym none) (stands_in (get b.applications key))

pub unheld_rests : (key : ℕ) (a b : code.Relay) → find_key key b.pool.holds.items ≡ None → Starts (body_of key a) (body_of key b) → Rests (body_of key a) (body_of key b)
unheld_rests key a b none s = stood s (unheld_stands key b none)

-- ---- Where one is lent

going_same : (s : services.Service) (ls ms : List Link) (o : Option Hold) → ((n : ℕ) → waits_on n ms ≡ waits_on n ls) → going s ms o ≡ going s ls o
going_same s ls ms None w = refl
going_same s ls ms (Some h) w = ap (going_by h.number (client_of h.lease s)) (w h.number)

body_same : (key : ℕ) (a b : code.Relay) → b.pool ≡ a.pool → b.applications ≡ a.applications → ((n : ℕ) → waits_on n b.links.items ≡ waits_on n a.links.items) → body_of key b ≡ body_of key a
body_same key a b pool apps w =
    ap (λ (s : Slab Application). body_in (get s key) (going_of key b)) apps
    ∙ ap (body_in (get a.applications key))
    (ap (λ (d : pools.Pool). going d.service b.links.items (find_key key d.holds.items)) pool ∙ going_same a.pool.service a.links.items b.links.items (find_key key a.pool.holds.items) w)

pub lent_asks : {A E : Type 0} (r : Result A E) (hold : Hold) (a b c : code.Relay) → b.pool ≡ a.pool → b.applications ≡ a.applications → ((n : ℕ) → waits_on n b.links.items ≡ waits_on n a.links.items)
    → find_key hold.key a.pool.holds.items ≡ Some hold → OnOk r (StartsThere hold.key b c) → OnOk r (GoesFrom (standing_in hold.key b) (standing_in hold.key c))
    → OnOk r (AsksBehind (waits_on hold.number a.links.items) (waits_on hold.number c.links.items) (body_of hold.key a) (body_of hold.key c))
lent_asks (Ok x) hold a b c pool apps w its behind puts =
    let here : find_key hold.key b.pool.holds.items ≡ Some hold = subst (λ (d : pools.Pool). find_key hold.key d.holds.items ≡ Some hold) (sym pool) its in
    let now : AsksBehind (waits_on hold.number b.links.items) (waits_on hold.number c.links.items) (body_of hold.key b) (body_of hold.key c) =
    record { starts = inl (behind hold here); still = λ was is. puts.still was is hold.number } in
    asks_from (waits_on hold.number a.links.items) (waits_on hold.number b.links.items) (waits_on hold.number c.links.items) (body_of hold.key a) (body_of hold.key c) (inr (w hold.number))
    (rest_asks (waits_on hold.number b.links.items) (waits_on hold.number c.links.items) (body_of hold.key a) (body_of hold.key b) (body_of hold.key c) (inl (inl (body_same hold.key a b pool apps w))) now)
lent_asks (Err e) hold a b c pool apps w its behind puts = tt

held_is : (o : Option Hold) (key : ℕ) → key_of o ≡ Some key → (h : Hold) × (o ≡ Some h) × (h.key ≡ key)
held_is None key e = absurd (let u : None ≡ Some key = e in let v : ⊥ = cc in v)
held_is (Some h) key e = (h, refl, let u : Some h.key ≡ Some key = e in cc)

pub unheld : (o : Option Hold) → key_of o ≡ None → o ≡ None
unheld None e = refl
unheld (Some h) e = absurd (let u : Some h.key ≡ None = e in let v : ⊥ = cc in v)

last_here : (b : Bool) (n : ℕ) (h x : Hold) → (x.number == n) ≡ b → (if b then Some x else None) ≡ Some h → (x ≡ h) × (x.number ≡ n)
last_here true n h x is e = ((let u : Some x ≡ Some h = e in cc), eqb-true x.number n is)
last_here false n h x is e = absurd (let u : None ≡ Some h = e in let v : ⊥ = cc in v)

last_if : (b : Bool) (n : ℕ) (h x y : Hold) (ys : List Hold) → (if b then Some y else find_number n (ys ++ x ∷ [])) ≡ Some h
    → (find_number n (ys ++ x ∷ []) ≡ Some h → (find_number n ys ≡ Some h) ⊎ ((find_number n ys ≡ None) × (x ≡ h) × (x.number ≡ n)))
    → ((if b then Some y else find_number n ys) ≡ Some h) ⊎ (((if b then Some y else find_number n ys) ≡ None) × (x ≡ h) × (x.number ≡ n))
last_if true n h x y ys e later = inl e
last_if false n h x y ys e later = later e

lent_found : (n : ℕ) (h x : Hold) (hs : List Hold) → find_number n (hs ++ x ∷ []) ≡ Some h → (find_number n hs ≡ Some h) ⊎ ((find_number n hs ≡ None) × (x ≡ h) × (x.number ≡ n))
lent_found n h x [] e = let y = last_here (x.number == n) n h x refl e in inr (refl, y.0, y.1)
lent_found n h x (y ∷ ys) e = last_if (y.number == n) n h x y ys e (λ f. lent_found n h x ys f)

key_if : (b : Bool) (key : ℕ) (x y : Hold) (ys : List Hold) → (if b then Some y else find_key key ys) ≡ None → (find_key key ys ≡ None → find_key key (ys ++ x ∷ []) ≡ Some x)
    → (if b then Some y else find_key key (ys ++ x ∷ [])) ≡ Some x
key_if true key x y ys e later = absurd (let u : Some y ≡ None = e in let v : ⊥ = cc in v)
key_if false key x y ys e later = later e

key_last : (key : ℕ) (x : Hold) (hs : List Hold) → find_key key hs ≡ None → x.key ≡ key → find_key key (hs ++ x ∷ []) ≡ Some x
key_last key x [] none is = let here : (x.key == key) ≡ true = eq-eqb x.key key is in rw here refl
key_last key x (y ∷ ys) none is = key_if (y.key == key) key x y ys none (λ f. key_last key x ys f is)

free_keeps : (number : ℕ) (line : List ℕ) (had : List Hold) (old : List Link) (holds : List Hold) (new : List Link) → find_number number had ≡ None → find_number number holds ≡ None → MayBeLent number line had old holds new
    → KeepsWaits number old new
free_keeps number line had old holds new none free (lent.OfWaiting h is waits) = absurd (let u : None ≡ Some h = sym none ∙ is in let v : ⊥ = cc in v)
free_keeps number line had old holds new none free (lent.Keeps same kept) = kept
free_keeps number line had old holds new none free (lent.Lends e some) = absurd (let u : false ≡ true = subst (λ (o : Option Hold). IsSome o) free some in let v : ⊥ = cc in v)

own_found : (A : Type 0) (o p : Option Hold) (h : Hold) → (p ≡ o) ⊎ ((p ≡ None) × A) → p ≡ Some h → o ≡ Some h
own_found A o p h (inl same) is = sym same ∙ is
own_found A o p h (inr gone) is = absurd (let u : None ≡ Some h = sym gone.0 ∙ is in let v : ⊥ = cc in v)

abbrev at_pool : code.Relay → pools.Pool → code.Relay
at_pool r d = record r { pool = d }

module _ (start mid new : code.Relay) (after : pools.Pool) (served : Served) (reached : IsReached (pool_in start.pool)) (none : find_key served.hold.key mid.pool.holds.items ≡ None) (waited : is_in served.hold.key start.pool.line.items ≡ true)
    (more : after.holds.items ≡ mid.pool.holds.items ++ served.hold ∷ []) (fresh : served.had ≡ false → start.pool.service.last < served.hold.number) (going : AllGo start mid) (rests : AllRest mid (at_pool mid after)) (fills : LendsInLine start mid)
    (own : KeepsToItsOwn served.hold.key after.holds.items mid.links.items new.pool.holds.items new.links.items) (others : OthersRest served.hold.key (at_pool mid after) new)
    (asks : served.had ≡ true → find_key served.hold.key after.holds.items ≡ Some served.hold
    → AsksBehind (waits_on served.hold.number mid.links.items) (waits_on served.hold.number new.links.items) (body_of served.hold.key (at_pool mid after)) (body_of served.hold.key new))
    (so : LendsBehind start mid) (later : IsReached (pool_in new.pool)) (placed : served.had ≡ true → GoesOrWaits served.hold.key new) (alone : Alone served.hold.key (core_in (at_pool mid after)) (core_in new)) (opens : Opens mid.links.items new.links.items) where
  abbrev Lends : ℕ → ℕ → Type 0
  Lends number key =
      (is_in key start.pool.line.items ≡ true) × AsksBehind (waits_on number start.links.items) (waits_on number new.links.items) (body_of key start) (body_of key new)
      × (IsStill (body_of key start) → IsAskedOn number key new)

  its_number : (n : ℕ) (h : Hold) → h.key ≡ served.hold.key → (find_number n mid.pool.holds.items ≡ Some h) ⊎ ((find_number n mid.pool.holds.items ≡ None) × (served.hold ≡ h) × (served.hold.number ≡ n)) → served.hold.number ≡ n
  its_number n h is (inl found) = absurd (who_held n served.hold.key mid.pool.holds.items (ap key_of found ∙ ap (λ (k : ℕ). Some k) is) none)
  its_number n h is (inr x) = x.2

  asked_now : (number : ℕ) → served.hold.number ≡ number → GoesOrWaits served.hold.key new → IsAskedOn number served.hold.key new
  asked_now number at (inl un) = λ kept. absurd (not_kept (body_of served.hold.key new) kept un)
  asked_now number at (inr (sparing.Drains back)) = λ kept. inl back
  asked_now number at (inr (sparing.Opens hold its closed)) = λ kept.
      let h = held_is (find_number hold.number new.pool.holds.items) served.hold.key (its_holder served.hold.key hold new.pool.holds.items (apart_at (pool_in new.pool) later) its) in
      let here : find_number hold.number after.holds.items ≡ Some h.0 =
      own_found (carried_there hold.number new.links.items ≡ None) (find_number hold.number after.holds.items) (find_number hold.number new.pool.holds.items) h.0 (own.own hold.number) h.1 in
      let same : served.hold.number ≡ hold.number = its_number hold.number h.0 h.2 (lent_found hold.number h.0 served.hold mid.pool.holds.items (ap (find_number hold.number) (sym more) ∙ here)) in
      inr (subst (λ (n : ℕ). open_at n new.links.items ≡ None) (sym same ∙ at) closed)

  -- it was lent before
  lent_before : (number key : ℕ) (h : Hold) → number ≤ start.pool.service.last → holder (pool_in start.pool) number ≡ None → find_number number mid.pool.holds.items ≡ Some h → h.key ≡ key → (h.key ≡ served.hold.key) ⊎ (h.key ≢ served.hold.key)
      → Lends number key
  lent_before number key h le free found is (inl same) = absurd (who_held number served.hold.key mid.pool.holds.items (ap key_of found ∙ ap (λ (k : ℕ). Some k) same) none)
  lent_before number key h le free found is (inr differs) =
      let here : find_number number after.holds.items ≡ Some h = ap (find_number number) more ∙ added_found number h served.hold mid.pool.holds.items found in
      let y = own.others number (λ e. differs (let u : Some h.key ≡ Some served.hold.key = ap key_of (sym here) ∙ e in cc)) in
      let z = so number key le free (ap key_of found ∙ ap (λ (k : ℕ). Some k) is) in
      let stays : Rests (body_of key mid) (body_of key new) =
      rests_both (body_of key mid) (body_of key (at_pool mid after)) (body_of key new) (rests.rest key) (others.rest key (λ e. differs (is ∙ e))) in (
        z.0,
        asks_rest (waits_on number start.links.items) (waits_on number new.links.items) (body_of key start) (body_of key mid) (body_of key new)
            (asks_to (waits_on number start.links.items) (waits_on number mid.links.items) (waits_on number new.links.items) (body_of key start) (body_of key mid) (waits_queued number mid.links.items new.links.items (inr y.1)) z.1) stays,
        λ was. asked_on number key mid new stays (λ astray. subst IsStill (astray_then (waits_on number start.links.items) (body_of key start) (body_of key mid) astray z.1.starts) was) (alone.ends key (λ e. differs (is ∙ e)))
            (opens.opens number) (z.2 was),
      )

  -- it is lent now
  lent_now : (b : Bool) (number key : ℕ) → number ≤ start.pool.service.last → holder (pool_in start.pool) number ≡ None → find_number number mid.pool.holds.items ≡ None → served.hold.number ≡ number → served.hold.key ≡ key → served.had ≡ b
      → Lends number key
  lent_now false number key le free off at is had = absurd (above start.pool.service.last number served.hold.number (fresh had) le at)
  lent_now true number key le free off at is had =
      let k : ℕ = served.hold.key in
      let its : find_key k after.holds.items ≡ Some served.hold = ap (find_key k) more ∙ key_last k served.hold mid.pool.holds.items none refl in
      let began : Rests (body_of k start) (body_of k (at_pool mid after)) =
      rests_both (body_of k start) (body_of k mid) (body_of k (at_pool mid after)) (unheld_rests k start mid none (going.go reached k)) (rests.rest k) in
      let there : AsksBehind (waits_on number mid.links.items) (waits_on number new.links.items) (body_of k (at_pool mid after)) (body_of k new) =
      subst (λ (n : ℕ). AsksBehind (waits_on n mid.links.items) (waits_on n new.links.items) (body_of k (at_pool mid after)) (body_of k new)) at (asks had its) in
      let kept = free_keeps number start.pool.line.items start.pool.holds.items start.links.items mid.pool.holds.items mid.links.items (unheld (find_number number start.pool.holds.items) free) off (fills number) in
      subst (λ (j : ℕ). Lends number j) is (
        waited,
        asks_from (waits_on number start.links.items) (waits_on number mid.links.items) (waits_on number new.links.items) (body_of k start) (body_of k new) (waits_queued number start.links.items mid.links.items kept)
            (rest_asks (waits_on number mid.links.items) (waits_on number new.links.items) (body_of k start) (body_of k (at_pool mid after)) (body_of k new) began there),
        λ was. asked_now number at (placed had),
      )

  lent_either : (number key : ℕ) (h : Hold) → number ≤ start.pool.service.last → holder (pool_in start.pool) number ≡ None → h.key ≡ key
      → (find_number number mid.pool.holds.items ≡ Some h) ⊎ ((find_number number mid.pool.holds.items ≡ None) × (served.hold ≡ h) × (served.hold.number ≡ number)) → Lends number key
  lent_either number key h le free is (inl found) = lent_before number key h le free found is (cases_eq h.key served.hold.key)
  lent_either number key h le free is (inr x) = lent_now served.had number key le free x.0 x.2 (ap (λ (g : Hold). g.key) x.1 ∙ is) refl

  pub lends_so : LendsBehind start new
  lends_so number key le free is =
      let h = held_is (find_number number new.pool.holds.items) key is in
      let here : find_number number after.holds.items ≡ Some h.0 =
      own_found (carried_there number new.links.items ≡ None) (find_number number after.holds.items) (find_number number new.pool.holds.items) h.0 (own.own number) h.1 in
      lent_either number key h.0 le free h.2 (lent_found number h.0 served.hold mid.pool.holds.items (ap (find_number number) (sym more) ∙ here))

-- those who wait are served, one behind the other
pub lends_first : (r : code.Relay) → LendsBehind r r
lends_first r = λ number key le free is. absurd (let u : None ≡ Some key = sym free ∙ is in let v : ⊥ = cc in v)

pub lent_front : (start mid new : code.Relay) (after : pools.Pool) (o : Option Served) (served : Served) (sharing : Sharing) → IsReached (pool_in start.pool) → IsLedTo sharing (machine_in start) → LedOn (pool_in start.pool) (pool_in mid.pool)
    → MovedOn (core_in start) (core_in mid) → Turns Serves (pool_in mid.pool) (pool_in after) [] [] → Serving (pool_in mid.pool) o → o ≡ Some served → is_in served.hold.key start.pool.line.items ≡ true → AllHold mid.pool after → AllGo start mid
    → LendsInLine start mid
    → (holder (pool_in after) served.hold.number ≡ Some served.hold.key → KeepsToItsOwn served.hold.key after.holds.items mid.links.items new.pool.holds.items new.links.items)
    → OthersRest served.hold.key (at_pool mid after) new
    → (served.had ≡ true → find_key served.hold.key after.holds.items ≡ Some served.hold
    → AsksBehind (waits_on served.hold.number mid.links.items) (waits_on served.hold.number new.links.items) (body_of served.hold.key (at_pool mid after)) (body_of served.hold.key new))
    → LendsBehind start mid → LedOn (pool_in after) (pool_in new.pool) → (served.had ≡ true → GoesOrWaits served.hold.key new) → Alone served.hold.key (core_in (at_pool mid after)) (core_in new) → Opens mid.links.items new.links.items
    → LendsBehind start new
lent_front start mid new after o served sharing reached led goes moved t serving is waited holds going fills own others asks so on placed alone opens =
    let s : Serving (pool_in mid.pool) (Some served) = subst (Serving (pool_in mid.pool)) is serving in
    let here : IsReached (pool_in mid.pool) = reached_on_does (pool_in start.pool) (pool_in mid.pool) goes reached in
    let next : IsReached (pool_in after) = reached_serves (pool_in mid.pool) (pool_in after) [] [] t here in
    let none : find_key served.hold.key mid.pool.holds.items ≡ None =
    unheld_behind sharing served.hold.key (core_in start) (core_in mid) (queues_in start.applications) (moved Neither) led (first_waits served.hold.key served.hold.key mid.pool.line.items s.0 s.1 refl) in
    let more : after.holds.items ≡ mid.pool.holds.items ++ served.hold ∷ [] = lent_holds (pool_in mid.pool) (pool_in after) served s.0 t.pool_is s.1 s.2 in
    let found : find_number served.hold.number after.holds.items ≡ Some served.hold =
    ap (find_number served.hold.number) more ∙ last_found served.hold mid.pool.holds.items (subst Apart more (apart_at (pool_in after) next)) in
    let rests : AllRest mid (at_pool mid after) = held_rest mid (at_pool mid after) (holds.hold here) (λ n. refl) (λ k goes. inl refl) in
    lends_so start mid new after served reached none waited more
    (λ had. above_too start.pool.service.last mid.pool.service.last served.hold.number (on_last (pool_in start.pool) (pool_in mid.pool) goes) (served_above served (pool_in mid.pool) (pool_in after) [] [] t s had)) going rests fills (own (ap key_of found)) others
    asks so (reached_on_does (pool_in after) (pool_in new.pool) on next) placed alone opens

-- nobody is
pub lent_none : (start mid : code.Relay) (after : pools.Pool) (o : Option Served) → IsReached (pool_in mid.pool) → Turns Serves (pool_in mid.pool) (pool_in after) [] [] → Serving (pool_in mid.pool) o → o ≡ None → AllHold mid.pool after
    → LendsBehind start mid → LendsBehind start (at_pool mid after)
lent_none start mid after o here t serving is holds so = λ number key le free now.
    let same : after.holds.items ≡ mid.pool.holds.items = unserved_holds (pool_in mid.pool) (pool_in after) t.pool_is (subst (Serving (pool_in mid.pool)) is serving) in
    let z = so number key le free (ap (λ (hs : List Hold). key_of (find_number number hs)) (sym same) ∙ now) in
    let rests : AllRest mid (at_pool mid after) = held_rest mid (at_pool mid after) (holds.hold here) (λ n. refl) (λ k goes. inl refl) in (
      z.0,
      asks_rest (waits_on number start.links.items) (waits_on number mid.links.items) (body_of key start) (body_of key mid) (body_of key (at_pool mid after)) z.1 (rests.rest key),
      λ was. asked_on number key mid (at_pool mid after) (rests.rest key) (λ astray. subst IsStill (astray_then (waits_on number start.links.items) (body_of key start) (body_of key mid) astray z.1.starts) was) refl (stays_there (open_at number mid.links.items)) (z.2 was),
    )

-- ---- Behind what a call does first

-- what nobody held nobody holds, and the same waits there, or it is there no more
abbrev pub FreeStays : code.Relay → code.Relay → Type 0
FreeStays old mid = (number : ℕ) → holder (pool_in old.pool) number ≡ None → (holder (pool_in mid.pool) number ≡ None) × KeepsWaits number old.links.items mid.links.items

pub unheld_led : (sharing : Sharing) (key : ℕ) (r : code.Relay) → IsLedTo sharing (machine_in r) → is_in key r.pool.line.items ≡ true → find_key key r.pool.holds.items ≡ None
unheld_led sharing key r led waits = unheld_behind sharing key (core_in r) (core_in r) (queues_in r.applications) (λ from h. h) led waits

pub front_first : (sharing : Sharing) (old mid new : code.Relay) → IsReached (pool_in old.pool) → IsLedTo sharing (machine_in mid) → old.pool.service.last ≤ mid.pool.service.last → FreeStays old mid
    → ((key : ℕ) → is_in key mid.pool.line.items ≡ true → is_in key old.pool.line.items ≡ true) → AllGo old mid → LendsBehind mid new → LendsBehind old new
front_first sharing old mid new reached led rises free before going so = λ number key le off is.
    let f = free number off in
    let low : number ≤ old.pool.service.last = le in
    let z = so number key (let u : number ≤ mid.pool.service.last = omega (arith, low, rises) in u) f.0 is in
    let stays : Rests (body_of key old) (body_of key mid) = unheld_rests key old mid (unheld_led sharing key mid led z.0) (going.go reached key) in (
      before key z.0,
      asks_from (waits_on number old.links.items) (waits_on number mid.links.items) (waits_on number new.links.items) (body_of key old) (body_of key new) (waits_queued number old.links.items mid.links.items f.1)
          (rest_asks (waits_on number mid.links.items) (waits_on number new.links.items) (body_of key old) (body_of key mid) (body_of key new) stays z.1),
      asked_first number key (waits_on number mid.links.items) (body_of key old) (body_of key mid) new stays z.1.starts z.2,
    )

pub front_on : {A E : Type 0} (r : Result A E) (sharing : Sharing) (old mid new : code.Relay) → IsReached (pool_in old.pool) → IsLedTo sharing (machine_in mid) → old.pool.service.last ≤ mid.pool.service.last → FreeStays old mid
    → ((key : ℕ) → is_in key mid.pool.line.items ≡ true → is_in key old.pool.line.items ≡ true) → AllGo old mid → OnOk r (LendsBehind mid new) → OnOk r (LendsBehind old new)
front_on (Ok x) sharing old mid new reached led rises free before going so = front_first sharing old mid new reached led rises free before going so
front_on (Err e) sharing old mid new reached led rises free before going so = tt
