-- On which connections something is put.
use Rattle.std.proofs.Common.{◌≡◌, ◌≢◌, ◌⊎◌, ◌∙◌, ◌==◌, ◌++◌, ℕ, Bool, true, false, List, [], ◌∷◌, Option, Some, None, inl, inr, refl, sym, ap, subst, option_map, if◌then◌else◌}
use Rattle.std.specs.Prelude.{Result, Ok, Err, OnOk, IsSome}
use Rattle.std.proofs.lemmas.Bool.{cases_eq, eq-eqb}
use Rattle.tds_wire.specs.declared.told.Token.{Token}
use Rattle.tds_service.specs.Service as calls
use Rattle.tds_service.specs.Service.{AllInUse, Lent, Reply, step}
use Rattle.tds_relay.specs.declared.pool.Pool as pools
use Rattle.tds_relay.specs.declared.pool.Hold.{Hold}
use Rattle.tds_relay.specs.declared.pool.Served.{Served}
use Rattle.tds_relay.specs.declared.link.Answer.{Answer}
use Rattle.tds_relay.specs.declared.link.Link.{Link}
use Rattle.tds_relay.specs.declared.relay.Relay as code
use Rattle.tds_relay.specs.Pool.{Pool, Serves, find_number, key_of, lent_in, serves, serves_by, turn, without_number}
use Rattle.tds_relay.specs.Lent.{FirstKeeps, KeepsAnswers, HoldsOrGone, IsLetGo, IsOnItsOwn, IsWithHolder, KeepsToItsOwn, KeepsWaits, LendsInLine, MayForget, MayBeLent, OthersKeep, OthersKeepAt, PutsOnly}
use Rattle.tds_relay.specs.Lent as filling
use Rattle.tds_relay.specs.Core.{holder, is_in}
use Rattle.tds_relay.specs.Reads.{Carried, StaysAt, answer_at, answer_on, carried_by, carried_there, link_at, queue_on, reader_at, reader_of, waits_on}
use Rattle.tds_relay.specs.Queues.{Queue, queue_in}
use Rattle.tds_relay.specs.Ties.{IsReached, IsServed, Serving, Turns, pool_in}
use Rattle.tds_relay.specs.Closings.{NoKey}
use Rattle.tds_relay.specs.Promises.{Each}
use Rattle.tds_relay.proofs.held.Fewer.{none_left, same_left}
use Rattle.tds_relay.proofs.held.Numbers.{Apart, apart_at}
use Rattle.tds_relay.proofs.spared.Held.{holder_is}
use Rattle.tds_relay.proofs.steps.Placed.{differs_by}

-- ---- What waits, of that

bytes_of : (o : Option Link) → option_map (λ (c : Carried). c.0.bytes) (option_map carried_by o) ≡ option_map (λ (l : Link). (queue_in l.out).bytes) o
bytes_of None = refl
bytes_of (Some l) = refl

pub unqueued : (o : Option Link) → option_map reader_of o ≡ None → option_map carried_by o ≡ None
unqueued None e = refl
unqueued (Some l) e = absurd (let u : ⊥ = cc in u)

pub waits_queued : (number : ℕ) (ls ms : List Link) → KeepsWaits number ls ms → (waits_on number ms ≡ None) ⊎ (waits_on number ms ≡ waits_on number ls)
waits_queued number ls ms (inl none) = inl (sym (bytes_of (link_at number ms)) ∙ ap (option_map (λ (c : Carried). c.0.bytes)) none)
waits_queued number ls ms (inr same) = inr (sym (bytes_of (link_at number ms)) ∙ ap (option_map (λ (c : Carried). c.0.bytes)) same ∙ bytes_of (link_at number ls))

-- It carries the same where the same waits, and the same is known.
carried_of : (o p : Option Link) → option_map (λ (l : Link). queue_in l.out) p ≡ option_map (λ (l : Link). queue_in l.out) o → StaysAt (option_map answer_on o) (option_map answer_on p)
    → option_map carried_by p ≡ option_map carried_by o
carried_of None None w k = refl
carried_of None (Some m) w k = absurd (let u : ⊥ = cc in u)
carried_of (Some l) None w k = absurd (let u : ⊥ = cc in u)
carried_of (Some l) (Some m) w k =
    let queue : queue_in m.out ≡ queue_in l.out = (let u : Some (queue_in m.out) ≡ Some (queue_in l.out) = w in cc) in
    let known : m.answer ≡ l.answer = (let u : Some l.answer ≡ Some m.answer = k in cc) in
    ap (λ (p : Queue). let c : Carried = (p, m.answer) in Some c) queue ∙ ap (λ (a : Answer). let c : Carried = (queue_in l.out, a) in Some c) known

pub carried : (number : ℕ) (ls ms : List Link) → queue_on number ms ≡ queue_on number ls → StaysAt (answer_at number ls) (answer_at number ms) → carried_there number ms ≡ carried_there number ls
carried number ls ms w k = carried_of (link_at number ls) (link_at number ms) w k

known_same : (o p : Option Answer) → p ≡ o → StaysAt o p
known_same o None e = tt
known_same o (Some a) e = sym e

pub carried_same : (number : ℕ) (ls ms : List Link) → queue_on number ms ≡ queue_on number ls → answer_at number ms ≡ answer_at number ls → carried_there number ms ≡ carried_there number ls
carried_same number ls ms w k = carried number ls ms w (known_same (answer_at number ls) (answer_at number ms) k)

-- ---- What one application does

pub own_same : (key : ℕ) (had : List Hold) (old : List Link) (holds : List Hold) (new : List Link) → holds ≡ had → ((number : ℕ) → carried_there number new ≡ carried_there number old) → KeepsToItsOwn key had old holds new
own_same key had old holds new e w = record {
  others = λ number differs. (ap (find_number number) e, w number);
  own = λ number. inl (ap (find_number number) e);
}

pub own_refl : (key : ℕ) (had : List Hold) (old : List Link) → KeepsToItsOwn key had old had old
own_refl key had old = own_same key had old had old refl (λ number. refl)

nobody : (o : Option Hold) (key : ℕ) → o ≡ None → key_of o ≢ Some key
nobody o key none e = let u : None ≡ Some key = ap key_of (sym none) ∙ e in let v : ⊥ = cc in v

own_then : (key number : ℕ) (a b c : List Hold) (y z : List Link) → KeepsToItsOwn key b y c z
    → (find_number number b ≡ find_number number a) ⊎ ((find_number number b ≡ None) × (carried_there number y ≡ None))
    → (find_number number c ≡ find_number number b) ⊎ ((find_number number c ≡ None) × (carried_there number z ≡ None))
    → (find_number number c ≡ find_number number a) ⊎ ((find_number number c ≡ None) × (carried_there number z ≡ None))
own_then key number a b c y z k (inl f) (inl g) = inl (g ∙ f)
own_then key number a b c y z k (inl f) (inr g) = inr g
own_then key number a b c y z k (inr f) g =
    let x = k.others number (nobody (find_number number b) key f.0) in
    inr (x.0 ∙ f.0, x.1 ∙ f.1)

pub own_both : (key : ℕ) (a b c : List Hold) (x y z : List Link) → KeepsToItsOwn key a x b y → KeepsToItsOwn key b y c z → KeepsToItsOwn key a x c z
own_both key a b c x y z h k = record {
  others = λ number differs.
      let one = h.others number differs in
      let two = k.others number (λ e. differs (ap key_of (sym one.0) ∙ e)) in (
        two.0 ∙ one.0,
        two.1 ∙ one.1,
      );
  own = λ number. own_then key number a b c y z k (h.own number) (k.own number);
}

-- something is put on what it holds
pub own_put : (key number : ℕ) (had : List Hold) (old : List Link) (holds : List Hold) (new : List Link) → holds ≡ had → key_of (find_number number had) ≡ Some key
    → ((other : ℕ) → other ≢ number → carried_there other new ≡ carried_there other old) → KeepsToItsOwn key had old holds new
own_put key number had old holds new e its w = record {
  others = λ n differs. (ap (find_number n) e, w n (λ same. differs (subst (λ (k : ℕ). key_of (find_number k had) ≡ Some key) (sym same) its)));
  own = λ n. inl (ap (find_number n) e);
}

-- or that is lost
lost_here : (number n : ℕ) (had holds : List Hold) (new : List Link) → holds ≡ without_number number had → carried_there number new ≡ None → (n ≡ number) ⊎ (n ≢ number)
    → (find_number n holds ≡ find_number n had) ⊎ ((find_number n holds ≡ None) × (carried_there n new ≡ None))
lost_here number n had holds new e gone (inl same) =
    inr (ap (find_number n) e ∙ subst (λ (k : ℕ). find_number k (without_number number had) ≡ None) (sym same) (none_left number had), ap (λ (k : ℕ). carried_there k new) same ∙ gone)
lost_here number n had holds new e gone (inr differs) = inl (ap (find_number n) e ∙ same_left number n had (λ s. differs (sym s)))

pub own_lost : (key number : ℕ) (had : List Hold) (old : List Link) (holds : List Hold) (new : List Link) → holds ≡ without_number number had → carried_there number new ≡ None
    → key_of (find_number number had) ≡ Some key → ((other : ℕ) → other ≢ number → carried_there other new ≡ carried_there other old) → KeepsToItsOwn key had old holds new
own_lost key number had old holds new e gone its w = record {
  others = λ n differs.
      let off : n ≢ number = λ same. differs (subst (λ (k : ℕ). key_of (find_number k had) ≡ Some key) (sym same) its) in (
        ap (find_number n) e ∙ same_left number n had (λ s. off (sym s)),
        w n off,
      );
  own = λ n. lost_here number n had holds new e gone (cases_eq n number);
}

pub own_lost_on : {A E : Type 0} (r : Result A E) (key number : ℕ) (had : List Hold) (old : List Link) (holds : List Hold) (new : List Link) → OnOk r (holds ≡ without_number number had)
    → OnOk r (reader_at number new ≡ None) → OnOk r ((other : ℕ) → other ≢ number → queue_on other new ≡ queue_on other old) → OnOk r (KeepsAnswers old new) → key_of (find_number number had) ≡ Some key
    → OnOk r (KeepsToItsOwn key had old holds new)
own_lost_on (Ok x) key number had old holds new e gone w k its =
    own_lost key number had old holds new e (unqueued (link_at number new) gone) its (λ other differs. carried other old new (w other differs) (k.keeps other))
own_lost_on (Err x) key number had old holds new e gone w k its = tt

pub own_on : {A E : Type 0} (r : Result A E) (key : ℕ) (a b c : List Hold) (x y z : List Link) → KeepsToItsOwn key a x b y → OnOk r (KeepsToItsOwn key b y c z) → OnOk r (KeepsToItsOwn key a x c z)
own_on (Ok v) key a b c x y z h k = own_both key a b c x y z h k
own_on (Err v) key a b c x y z h k = tt

-- its application is closed
pub own_end : {A E : Type 0} (r : Result A E) (key : ℕ) (old new : code.Relay) → new.pool ≡ old.pool → OnOk r (new.links.items ≡ old.links.items) → OnOk r (IsOnItsOwn key old new)
own_end (Ok v) key old new at links =
    own_same key old.pool.holds.items old.links.items new.pool.holds.items new.links.items (ap (λ (d : pools.Pool). d.holds.items) at) (λ number. ap (carried_there number) links)
own_end (Err v) key old new at links = tt

-- one more connection is there
pub pushed_link : (n : ℕ) (l : Link) (ls : List Link) → l.number ≢ n → link_at n (ls ++ l ∷ []) ≡ link_at n ls
pushed_link n l [] differs = let other : (l.number == n) ≡ false = differs_by (l.number == n) l.number n refl differs in rw other refl
pushed_link n l (x ∷ xs) differs = ap (λ (o : Option Link). if x.number == n then Some x else o) (pushed_link n l xs differs)

pub own_pushed : (key number : ℕ) (had : List Hold) (old new : List Link) (l : Link) → key_of (find_number number had) ≡ Some key → l.number ≡ number → new ≡ old ++ l ∷ [] → KeepsToItsOwn key had old had new
own_pushed key number had old new l its is e =
    own_put key number had old had new refl its (λ n differs. ap (carried_there n) e ∙ ap (option_map carried_by) (pushed_link n l old (λ s. differs (sym s ∙ is))))

-- ---- Whoever has waited longest is lent one

pub lent_holds : (d e : Pool) (served : Served) (others : List ℕ) → e ≡ (turn d Serves).pool → d.line ≡ served.hold.key ∷ others
    → (step {T = Token} d.service calls.Lease).reply ≡ Lent served.hold.lease served.hold.number served.had → e.holds ≡ d.holds ++ served.hold ∷ []
lent_holds d e served others is line reply =
    ap (λ (x : Pool). x.holds) is ∙ ap (λ (ks : List ℕ). (serves d ks).pool.holds) line ∙ ap (λ (r : Reply). (serves_by d served.hold.key others (lent_in r)).pool.holds) reply

added_if : (b : Bool) (n : ℕ) (h x y : Hold) (ys : List Hold) → (if b then Some y else find_number n ys) ≡ Some h → (find_number n ys ≡ Some h → find_number n (ys ++ x ∷ []) ≡ Some h)
    → (if b then Some y else find_number n (ys ++ x ∷ [])) ≡ Some h
added_if true n h x y ys e later = e
added_if false n h x y ys e later = later e

pub added_found : (n : ℕ) (h x : Hold) (hs : List Hold) → find_number n hs ≡ Some h → find_number n (hs ++ x ∷ []) ≡ Some h
added_found n h x [] e = absurd (let u : ⊥ = cc in u)
added_found n h x (y ∷ ys) e = added_if (y.number == n) n h x y ys e (λ f. added_found n h x ys f)

none_if : (b : Bool) (n : ℕ) (x y : Hold) (ys : List Hold) (o : Option Hold) → (if b then Some y else find_number n ys) ≡ None → (find_number n ys ≡ None → find_number n (ys ++ x ∷ []) ≡ o)
    → (if b then Some y else find_number n (ys ++ x ∷ [])) ≡ o
none_if true n x y ys o e later = absurd (let u : ⊥ = cc in u)
none_if false n x y ys o e later = later e

added_none : (n : ℕ) (x : Hold) (hs : List Hold) → find_number n hs ≡ None → find_number n (hs ++ x ∷ []) ≡ (if x.number == n then Some x else None)
added_none n x [] e = refl
added_none n x (y ∷ ys) e = none_if (y.number == n) n x y ys (if x.number == n then Some x else None) e (λ f. added_none n x ys f)

moved : (number : ℕ) (a b c : List Link) → KeepsWaits number a b → carried_there number c ≡ carried_there number b → KeepsWaits number a c
moved number a b c (inl none) w = inl (w ∙ none)
moved number a b c (inr same) w = inr (w ∙ same)

some_now : (o p : Option Hold) (h : Hold) → p ≡ o → o ≡ Some h → IsSome p
some_now o p h same is = subst (λ (q : Option Hold). IsSome q) (sym (same ∙ is)) refl

module _ (number : ℕ) (line : List ℕ) (h0 hm he hn : List Hold) (l0 lm ln : List Link) (x : Hold) (more : he ≡ hm ++ x ∷ []) (waited : is_in x.key line ≡ true) (own : KeepsToItsOwn x.key he lm hn ln) where
  -- somebody holds it now
  now_held : (h : Hold) → find_number number h0 ≡ None → find_number number he ≡ Some h
      → (find_number number hn ≡ find_number number he) ⊎ ((find_number number hn ≡ None) × (carried_there number ln ≡ None)) → MayBeLent number line h0 l0 hn ln
  now_held h none is (inl same) = filling.Lends none (some_now (find_number number he) (find_number number hn) h same is)
  now_held h none is (inr gone) = filling.Keeps (gone.0 ∙ sym none) (inl gone.1)

  was_lent : (o : Option Hold) → find_number number hm ≡ o → IsSome o → find_number number h0 ≡ None → MayBeLent number line h0 l0 hn ln
  was_lent None is some none = absurd (let u : false ≡ true = some in let v : ⊥ = cc in v)
  was_lent (Some h) is some none = now_held h none (ap (find_number number) more ∙ added_found number h x hm is) (own.own number)

  keeps_other : (h : Hold) → find_number number hm ≡ find_number number h0 → KeepsWaits number l0 lm → find_number number hm ≡ Some h → (h.key ≡ x.key) ⊎ (h.key ≢ x.key) → MayBeLent number line h0 l0 hn ln
  keeps_other h f kept is (inl same) = filling.OfWaiting h (sym f ∙ is) (subst (λ (k : ℕ). is_in k line ≡ true) (sym same) waited)
  keeps_other h f kept is (inr differs) =
      let here : find_number number he ≡ Some h = ap (find_number number) more ∙ added_found number h x hm is in
      let y = own.others number (λ e. differs (let u : Some h.key ≡ Some x.key = ap key_of (sym here) ∙ e in cc)) in
      filling.Keeps (y.0 ∙ here ∙ sym is ∙ f) (moved number l0 lm ln kept y.1)

  keeps_free : (b : Bool) → (x.number == number) ≡ b → find_number number hm ≡ find_number number h0 → KeepsWaits number l0 lm → find_number number hm ≡ None → MayBeLent number line h0 l0 hn ln
  keeps_free true e f kept is =
      now_held x (sym f ∙ is) (ap (find_number number) more ∙ added_none number x hm is ∙ ap (λ (b : Bool). if b then Some x else None) e) (own.own number)
  keeps_free false e f kept is =
      let here : find_number number he ≡ None = ap (find_number number) more ∙ added_none number x hm is ∙ ap (λ (b : Bool). if b then Some x else None) e in
      let y = own.others number (nobody (find_number number he) x.key here) in
      filling.Keeps (y.0 ∙ here ∙ sym is ∙ f) (moved number l0 lm ln kept y.1)

  keeps_by : (o : Option Hold) → find_number number hm ≡ o → find_number number hm ≡ find_number number h0 → KeepsWaits number l0 lm → MayBeLent number line h0 l0 hn ln
  keeps_by None is f kept = keeps_free (x.number == number) refl f kept is
  keeps_by (Some h) is f kept = keeps_other h f kept is (cases_eq h.key x.key)

  pub may_lend : MayBeLent number line h0 l0 hm lm → MayBeLent number line h0 l0 hn ln
  may_lend (filling.OfWaiting h is i) = filling.OfWaiting h is i
  may_lend (filling.Keeps f kept) = keeps_by (find_number number hm) refl f kept
  may_lend (filling.Lends none some) = was_lent (find_number number hm) refl some none

pub lends_refl : (r : code.Relay) → LendsInLine r r
lends_refl r = λ number. filling.Keeps refl (inr refl)

unserved_by : (d : Pool) (line : List ℕ) → IsServed line d.service → (serves d line).pool.holds ≡ d.holds
unserved_by d [] s = refl
unserved_by d (key ∷ others) s = ap (λ (r : Reply). (serves_by d key others (lent_in r)).pool.holds) s

pub unserved_holds : (d e : Pool) → e ≡ (turn d Serves).pool → IsServed d.line d.service → e.holds ≡ d.holds
unserved_holds d e is s = ap (λ (x : Pool). x.holds) is ∙ unserved_by d d.line s

pub each_last : (P : Hold → Type 0) (x : Hold) (hs : List Hold) → Each P (hs ++ x ∷ []) → P x
each_last P x [] e = e.0
each_last P x (y ∷ ys) e = each_last P x ys e.1

pub last_found : (x : Hold) (hs : List Hold) → Apart (hs ++ x ∷ []) → find_number x.number (hs ++ x ∷ []) ≡ Some x
last_found x [] apart = let here : (x.number == x.number) ≡ true = eq-eqb x.number x.number refl in rw here refl
last_found x (y ∷ ys) apart =
    let other : (y.number == x.number) ≡ false = differs_by (y.number == x.number) y.number x.number refl (λ s. each_last (λ (z : Hold). z.number ≢ y.number) x ys apart.0 (sym s)) in
    rw other (last_found x ys apart.1)

pub lends_more : (start mid new : code.Relay) (after : pools.Pool) (o : Option Served) (served : Served) → IsReached (pool_in after) → Turns Serves (pool_in mid.pool) (pool_in after) [] []
    → Serving (pool_in mid.pool) o → o ≡ Some served → is_in served.hold.key start.pool.line.items ≡ true
    → (holder (pool_in after) served.hold.number ≡ Some served.hold.key → KeepsToItsOwn served.hold.key after.holds.items mid.links.items new.pool.holds.items new.links.items)
    → LendsInLine start mid → LendsInLine start new
lends_more start mid new after o served reached t serving is waited own lends = λ number.
    let s : Serving (pool_in mid.pool) (Some served) = subst (Serving (pool_in mid.pool)) is serving in
    let more : after.holds.items ≡ mid.pool.holds.items ++ served.hold ∷ [] = lent_holds (pool_in mid.pool) (pool_in after) served s.0 t.pool_is s.1 s.2 in
    let found : find_number served.hold.number after.holds.items ≡ Some served.hold =
    ap (find_number served.hold.number) more ∙ last_found served.hold mid.pool.holds.items (subst Apart more (apart_at (pool_in after) reached)) in
    may_lend number start.pool.line.items start.pool.holds.items mid.pool.holds.items after.holds.items new.pool.holds.items start.links.items mid.links.items new.links.items served.hold more waited
    (own (ap key_of found)) (lends number)

pub lends_nothing : (start mid : code.Relay) (after : pools.Pool) (o : Option Served) → Turns Serves (pool_in mid.pool) (pool_in after) [] [] → Serving (pool_in mid.pool) o → o ≡ None → LendsInLine start mid
    → (number : ℕ) → MayBeLent number start.pool.line.items start.pool.holds.items start.links.items after.holds.items mid.links.items
lends_nothing start mid after o t serving is lends = λ number.
    let same : after.holds.items ≡ mid.pool.holds.items = unserved_holds (pool_in mid.pool) (pool_in after) t.pool_is (subst (Serving (pool_in mid.pool)) is serving) in
    subst (λ (hs : List Hold). MayBeLent number start.pool.line.items start.pool.holds.items start.links.items hs mid.links.items) (sym same) (lends number)

-- ---- Behind what a call does first

abbrev pub WaitedBefore : code.Relay → code.Relay → Type 0
WaitedBefore old mid = (key : ℕ) → is_in key mid.pool.line.items ≡ true → is_in key old.pool.line.items ≡ true

pub key_some : (o : Option Hold) → IsSome o → IsSome (key_of o)
key_some None s = s
key_some (Some h) s = refl

module _ (number : ℕ) (old mid new : code.Relay) (before : (key : ℕ) → key_of (find_number number old.pool.holds.items) ≡ Some key → is_in key mid.pool.line.items ≡ true → is_in key old.pool.line.items ≡ true) (f : find_number number mid.pool.holds.items ≡ find_number number old.pool.holds.items) (w : carried_there number mid.links.items ≡ carried_there number old.links.items) where
  kept_on : KeepsWaits number mid.links.items new.links.items → KeepsWaits number old.links.items new.links.items
  kept_on (inl none) = inl none
  kept_on (inr same) = inr (same ∙ w)

  pub held_line : (key : ℕ) → is_in key old.pool.line.items ≡ false → key_of (find_number number old.pool.holds.items) ≡ Some key
      → MayBeLent number mid.pool.line.items mid.pool.holds.items mid.links.items new.pool.holds.items new.links.items → KeepsWaits number old.links.items new.links.items
  held_line key waits its (filling.OfWaiting h is i) =
      let one : h.key ≡ key = (let u : Some h.key ≡ Some key = ap key_of (sym is ∙ f) ∙ its in cc) in
      let there : is_in key old.pool.line.items ≡ true = before key its (subst (λ (k : ℕ). is_in k mid.pool.line.items ≡ true) one i) in
      absurd (let u : true ≡ false = sym there ∙ waits in let v : ⊥ = cc in v)
  held_line key waits its (filling.Keeps e kept) = kept_on kept
  held_line key waits its (filling.Lends none some) = absurd (let u : None ≡ Some key = ap key_of (sym none ∙ f) ∙ its in let v : ⊥ = cc in v)

  pub free_line : key_of (find_number number old.pool.holds.items) ≡ None
      → MayBeLent number mid.pool.line.items mid.pool.holds.items mid.links.items new.pool.holds.items new.links.items
      → KeepsWaits number old.links.items new.links.items ⊎ IsSome (key_of (find_number number new.pool.holds.items))
  free_line none (filling.OfWaiting h is i) = absurd (let u : Some h.key ≡ None = ap key_of (sym is ∙ f) ∙ none in let v : ⊥ = cc in v)
  free_line none (filling.Keeps e kept) = inl (kept_on kept)
  free_line none (filling.Lends empty some) = inr (key_some (find_number number new.pool.holds.items) some)

held_first : (But : ℕ → Type 0) (number key : ℕ) (old mid new : code.Relay) → WaitedBefore old mid
    → But number ⊎ ((find_number number mid.pool.holds.items ≡ find_number number old.pool.holds.items) × (carried_there number mid.links.items ≡ carried_there number old.links.items))
    → is_in key old.pool.line.items ≡ false → key_of (find_number number old.pool.holds.items) ≡ Some key
    → MayBeLent number mid.pool.line.items mid.pool.holds.items mid.links.items new.pool.holds.items new.links.items → But number ⊎ KeepsWaits number old.links.items new.links.items
held_first But number key old mid new before (inl b) waits its l = inl b
held_first But number key old mid new before (inr k) waits its l = inr (held_line number old mid new (λ j is. before j) k.0 k.1 key waits its l)

free_first : (But : ℕ → Type 0) (number : ℕ) (old mid new : code.Relay) → WaitedBefore old mid
    → But number ⊎ ((find_number number mid.pool.holds.items ≡ find_number number old.pool.holds.items) × (carried_there number mid.links.items ≡ carried_there number old.links.items))
    → key_of (find_number number old.pool.holds.items) ≡ None
    → MayBeLent number mid.pool.line.items mid.pool.holds.items mid.links.items new.pool.holds.items new.links.items
    → But number ⊎ (KeepsWaits number old.links.items new.links.items ⊎ IsSome (key_of (find_number number new.pool.holds.items)))
free_first But number old mid new before (inl b) none l = inl b
free_first But number old mid new before (inr k) none l = inr (free_line number old mid new (λ j is. before j) k.0 k.1 none l)

pub puts_line : (But : ℕ → Type 0) (old mid new : code.Relay) → IsReached (pool_in old.pool) → WaitedBefore old mid → FirstKeeps But old mid → LendsInLine mid new → PutsOnly But old new
puts_line But old mid new reached before first lends = record {
  held = λ key at waits e. held_first But at.0 key old mid new before (first at.0) waits (holder_is old.pool key at reached e) (lends at.0);
  free = λ number none. free_first But number old mid new before (first number) none (lends number);
}

pub puts_on : {A E : Type 0} (r : Result A E) (But : ℕ → Type 0) (old mid new : code.Relay) → IsReached (pool_in old.pool) → WaitedBefore old mid → FirstKeeps But old mid → OnOk r (LendsInLine mid new) → OnOk r (PutsOnly But old new)
puts_on (Ok x) But old mid new reached before first lends = puts_line But old mid new reached before first lends
puts_on (Err x) But old mid new reached before first lends = tt

-- ---- What it does first

first_is : (key j : ℕ) (But : Type 0) → (j ≡ key) ⊎ (j ≢ key) → (Some j ≢ Some key → But) → (Some j ≡ Some key) ⊎ But
first_is key j But (inl same) k = inl (ap (λ (n : ℕ). Some n) same)
first_is key j But (inr differs) k = inr (k (λ e. differs (let u : Some j ≡ Some key = e in cc)))

first_by : (key : ℕ) (o : Option ℕ) (But : Type 0) → (o ≢ Some key → But) → (o ≡ Some key) ⊎ But
first_by key None But k = inr (k (λ e. let u : None ≡ Some key = e in let v : ⊥ = cc in v))
first_by key (Some j) But k = first_is key j But (cases_eq j key) k

-- one application does something on its own
pub first_own : (key : ℕ) (old mid : code.Relay) → OthersKeepAt key old mid → FirstKeeps (λ (n : ℕ). holder (pool_in old.pool) n ≡ Some key) old mid
first_own key old mid k = λ number.
    first_by key (key_of (find_number number old.pool.holds.items))
    ((find_number number mid.pool.holds.items ≡ find_number number old.pool.holds.items) × (carried_there number mid.links.items ≡ carried_there number old.links.items)) (k number)

-- a connection is lost
first_off : (number n : ℕ) (old mid : code.Relay) → mid.pool.holds.items ≡ without_number number old.pool.holds.items
    → ((other : ℕ) → other ≢ number → carried_there other mid.links.items ≡ carried_there other old.links.items) → (n ≡ number) ⊎ (n ≢ number)
    → (n ≡ number) ⊎ ((find_number n mid.pool.holds.items ≡ find_number n old.pool.holds.items) × (carried_there n mid.links.items ≡ carried_there n old.links.items))
first_off number n old mid e w (inl same) = inl same
first_off number n old mid e w (inr differs) = inr (ap (find_number n) e ∙ same_left number n old.pool.holds.items (λ s. differs (sym s)), w n differs)

pub first_lost : (number : ℕ) (old mid : code.Relay) → mid.pool.holds.items ≡ without_number number old.pool.holds.items
    → ((other : ℕ) → other ≢ number → carried_there other mid.links.items ≡ carried_there other old.links.items) → FirstKeeps (λ (n : ℕ). n ≡ number) old mid
first_lost number old mid e w = λ n. first_off number n old mid e w (cases_eq n number)

-- nothing
pub first_none : (old mid : code.Relay) → mid.pool.holds.items ≡ old.pool.holds.items → ((n : ℕ) → carried_there n mid.links.items ≡ carried_there n old.links.items) → FirstKeeps NoKey old mid
first_none old mid e w = λ n. inr (ap (find_number n) e, w n)

-- ---- Between relays

pub own_first : (key : ℕ) (old mid : code.Relay) → mid.pool.holds.items ≡ old.pool.holds.items → ((number : ℕ) → carried_there number mid.links.items ≡ carried_there number old.links.items) → IsOnItsOwn key old mid
own_first key old mid e w = own_same key old.pool.holds.items old.links.items mid.pool.holds.items mid.links.items e w

pub own_behind : {A E : Type 0} (r : Result A E) (key : ℕ) (a b c : code.Relay) → IsOnItsOwn key a b → OnOk r (IsOnItsOwn key b c) → OnOk r (IsOnItsOwn key a c)
own_behind r key a b c h k = own_on r key a.pool.holds.items b.pool.holds.items c.pool.holds.items a.links.items b.links.items c.links.items h k

holder_or : (key number : ℕ) (old mid : code.Relay) (n : ℕ) → holder (pool_in old.pool) number ≡ Some key
    → (holder (pool_in old.pool) n ≡ Some key) ⊎ ((find_number n mid.pool.holds.items ≡ find_number n old.pool.holds.items) × (carried_there n mid.links.items ≡ carried_there n old.links.items))
    → IsWithHolder number old n ⊎ ((find_number n mid.pool.holds.items ≡ find_number n old.pool.holds.items) × (carried_there n mid.links.items ≡ carried_there n old.links.items))
holder_or key number old mid n is (inl its) = inl (subst (λ (o : Option ℕ). IsSome o) (sym is) refl, its ∙ sym is)
holder_or key number old mid n is (inr k) = inr k

with_holder : (key number : ℕ) (old mid : code.Relay) → holder (pool_in old.pool) number ≡ Some key → IsOnItsOwn key old mid → FirstKeeps (IsWithHolder number old) old mid
with_holder key number old mid is own = λ n. holder_or key number old mid n is (first_own key old mid own.others n)

pub first_holder : {A E : Type 0} (r : Result A E) (key number : ℕ) (old mid : code.Relay) → holder (pool_in old.pool) number ≡ Some key → OnOk r (IsOnItsOwn key old mid) → OnOk r (FirstKeeps (IsWithHolder number old) old mid)
first_holder (Ok x) key number old mid is own = with_holder key number old mid is own
first_holder (Err x) key number old mid is own = tt

pub first_refl : (But : ℕ → Type 0) (r : code.Relay) → FirstKeeps But r r
first_refl But r = λ n. inr (refl, refl)

then_by : (number n : ℕ) (a b c : code.Relay) → b.pool ≡ a.pool → ((m : ℕ) → carried_there m b.links.items ≡ carried_there m a.links.items)
    → IsWithHolder number b n ⊎ ((find_number n c.pool.holds.items ≡ find_number n b.pool.holds.items) × (carried_there n c.links.items ≡ carried_there n b.links.items))
    → IsWithHolder number a n ⊎ ((find_number n c.pool.holds.items ≡ find_number n a.pool.holds.items) × (carried_there n c.links.items ≡ carried_there n a.links.items))
then_by number n a b c at w (inl with) =
    inl (subst (λ (d : pools.Pool). IsSome (holder (pool_in d) number) × (holder (pool_in d) n ≡ holder (pool_in d) number)) at with)
then_by number n a b c at w (inr k) = inr (k.0 ∙ ap (λ (d : pools.Pool). find_number n d.holds.items) at, k.1 ∙ w n)

pub first_then : (number : ℕ) (a b c : code.Relay) → b.pool ≡ a.pool → ((m : ℕ) → carried_there m b.links.items ≡ carried_there m a.links.items) → FirstKeeps (IsWithHolder number b) b c → FirstKeeps (IsWithHolder number a) a c
first_then number a b c at w first = λ n. then_by number n a b c at w (first n)

pub puts_nothing : (But : ℕ → Type 0) (r : code.Relay) → PutsOnly But r r
puts_nothing But r = record { held = λ key at waits e. inr (inr refl); free = λ number none. inr (inl (inr refl)) }
