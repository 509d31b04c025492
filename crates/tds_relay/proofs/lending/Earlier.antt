-- What is held by a lease that was given before was held before; and no message begins anew there.
use Rattle.std.proofs.Common.{◌≡◌, ◌≢◌, ◌⊎◌, ◌∙◌, ◌==◌, ◌<◌, ◌≤◌, ◌++◌, ℕ, suc, not, Bool, true, false, List, [], ◌∷◌, length, Option, Some, None, inl, inr, refl, sym, ap, subst, arith, option_map, if◌then◌else◌}
use Rattle.std.specs.Prelude.{Result, Ok, Err, OnOk, filter, nat_lt}
use Rattle.std.proofs.lemmas.Bool.{eqb-true}
use Rattle.tds_wire.specs.declared.told.Token.{Token}
use Rattle.tds_service.specs.Service as calls
use Rattle.tds_service.specs.Service.{Call, Seat, Service, find_by, has_ticket, is_idle, is_lendable, lease_at, seat_numbered, step}
use Rattle.tds_relay.specs.declared.link.Link.{Link}
use Rattle.tds_relay.specs.declared.pool.Hold.{Hold}
use Rattle.tds_relay.specs.declared.pool.Pool as pools
use Rattle.tds_relay.specs.declared.pool.Served.{Served}
use Rattle.tds_relay.specs.declared.pool.leaving.Renewed.TheVariants as renewals
use Rattle.tds_relay.specs.declared.relay.Relay as code
use Rattle.tds_relay.specs.Fronting.{calls_along}
use Rattle.tds_relay.specs.Lent.{AnewIfLent, KeepsAnswers}
use Rattle.tds_relay.specs.Pool as pool
use Rattle.tds_relay.specs.Pool.{Action, Event, Hearing, Loan, Pool, Way, brings_by, comes_by, find_key, find_number, hearing, holder_does, holding, keeps_by, leaves, lent_in, pool_after, renews, renews_by, serves, serves_by, ticket_in, turn, without_lease}
use Rattle.tds_relay.specs.Reads.{StaysAt, answer_at, answer_on}
use Rattle.tds_relay.specs.Sparing.{IsRenewed}
use Rattle.tds_relay.specs.Ties.{Cause, IsReached, LedOn, LedTo, Neither, Serving, Turns, pool_in}
use Rattle.tds_relay.proofs.held.Fewer.{added_number, kept_number, last_each}
use Rattle.tds_relay.proofs.held.Numbers.{Apart, apart_at}
use Rattle.tds_relay.proofs.lending.Leases.{goes_given}
use Rattle.tds_relay.proofs.promises.Tidy.{Tidy, all_rise, step_rises}
use Rattle.tds_relay.proofs.spared.Begun.{at_next}
use Rattle.tds_relay.proofs.spared.Filling.{last_found, lent_holds, pushed_link}
use Rattle.tds_relay.proofs.spared.Held.{sound_at}
use Rattle.tds_relay.proofs.steps.Calling.{service_along}
use Rattle.tds_relay.proofs.steps.Reaching.{reached_next, reached_turn}
use Rattle.tds_relay.proofs.steps.Staying.{at_refl}

-- ---- A lease that is given is behind those that were

at_most : (k m n : ℕ) → k ≤ m → m ≤ n → k ≤ n
at_most k m n h g = omega arith

behind : (given lease : ℕ) → lease ≡ suc given → given < lease
behind given lease e = omega (arith, e)

opened_lease : (s : Service) (room : Bool) (loan : Loan) → lent_in (calls.opens {T = Token} s room).reply ≡ Some loan → loan.lease ≡ suc s.given
opened_lease s false loan e = absurd (let u : ⊥ = cc in u)
opened_lease s true loan e =
    let one : Loan = record { lease = suc s.given; number = suc s.last } in
    let same : one ≡ loan = cc in
    ap (λ (l : Loan). l.lease) (sym same)

lent_lease : (s : Service) (o : Option Seat) (loan : Loan) → lent_in (calls.lends {T = Token} s o).reply ≡ Some loan → loan.lease ≡ suc s.given
lent_lease s None loan e = opened_lease s (nat_lt (length s.seats) s.max) loan e
lent_lease s (Some c) loan e =
    let one : Loan = record { lease = suc s.given; number = c.number } in
    let same : one ≡ loan = cc in
    ap (λ (l : Loan). l.lease) (sym same)

resumed_if : (s : Service) (ticket : ℕ) (c : Seat) (b : Bool) (loan : Loan) → is_idle c.line.stage ≡ b → lent_in (calls.resumes {T = Token} s (has_ticket ticket) (Some c)).reply ≡ Some loan → loan.lease ≡ suc s.given
resumed_if s ticket c true loan is e =
    let one : Loan = record { lease = suc s.given; number = c.number } in
    let done : lent_in (calls.resumes {T = Token} s (has_ticket ticket) (Some c)).reply ≡ Some one = rw is refl in
    let same : one ≡ loan = (let u : Some one ≡ Some loan = sym done ∙ e in cc) in
    ap (λ (l : Loan). l.lease) (sym same)
resumed_if s ticket c false loan is e =
    let done : lent_in (calls.resumes {T = Token} s (has_ticket ticket) (Some c)).reply ≡ None = rw is refl in
    absurd (let u : None ≡ Some loan = sym done ∙ e in let v : ⊥ = cc in v)

resumed_by : (s : Service) (ticket : ℕ) (o : Option Seat) (loan : Loan) → lent_in (calls.resumes {T = Token} s (has_ticket ticket) o).reply ≡ Some loan → loan.lease ≡ suc s.given
resumed_by s ticket None loan e = absurd (let u : ⊥ = cc in u)
resumed_by s ticket (Some c) loan e = resumed_if s ticket c (is_idle c.line.stage) loan refl e

resumed_later : (d : Pool) (lease ticket : ℕ) (loan : Loan) → Tidy d.service → lent_in (step {T = Token} (step {T = Token} d.service (calls.Keep lease)).service (calls.Resume ticket)).reply ≡ Some loan → d.service.given < loan.lease
resumed_later d lease ticket loan tidy e =
    let s = (step {T = Token} d.service (calls.Keep lease)).service in
    let rises : d.service.given ≤ s.given = (step_rises d.service (calls.Keep lease) tidy).rises in
    let one : loan.lease ≡ suc s.given = resumed_by s ticket (find_by (has_ticket ticket) s.seats) loan e in
    let u : d.service.given < loan.lease = omega (arith, rises, one) in u

-- one that is kept by another lease
pub relent_later : (d : Pool) (t : Service) (lease ticket again number : ℕ) (had : Bool) → IsReached d → t ≡ (step {T = Token} d.service (calls.Keep lease)).service
    → (step {T = Token} t (calls.Resume ticket)).reply ≡ calls.Lent again number had → d.service.given < again
relent_later d t lease ticket again number had reached is reply =
    let loan : Loan = record { lease = again; number = number } in
    let lent : lent_in (step {T = Token} t (calls.Resume ticket)).reply ≡ Some loan = ap lent_in reply in
    resumed_later d lease ticket loan (sound_at d reached).tidy (subst (λ (s : Service). lent_in (step {T = Token} s (calls.Resume ticket)).reply ≡ Some loan) is lent)

-- ---- Behind an event

module _ (d : Pool) (n : ℕ) (h : Hold) (apart : Apart d.holds) (tidy : Tidy d.service) (before : h.lease ≤ d.service.given) where
  -- it was held, where it is among these
  abbrev Was : List Hold → Type 0
  Was hs = find_number n hs ≡ Some h → find_number n d.holds ≡ Some h

  was_last : (x : Hold) (hs : List Hold) → d.service.given < x.lease → Was hs → (find_number n hs ≡ Some h) ⊎ (h ≡ x) → find_number n d.holds ≡ Some h
  was_last x hs lt was (inl found) = was found
  was_last x hs lt was (inr same) =
      let one : h.lease ≡ x.lease = ap (λ (y : Hold). y.lease) same in
      let two : d.service.given < x.lease = lt in
      let three : h.lease ≤ d.service.given = before in
      absurd (let u : ⊥ = omega (arith, one, two, three) in u)

  was_added : (x : Hold) (hs : List Hold) → d.service.given < x.lease → Was hs → Was (hs ++ x ∷ [])
  was_added x hs lt was e = was_last x hs lt was (added_number n h x hs e)

  was_kept : (p : Hold → Bool) → Was (filter p d.holds)
  was_kept p e = kept_number p n h d.holds apart e

  serves_by_was : (k : ℕ) (others : List ℕ) (o : Option Loan) → lent_in (step {T = Token} d.service calls.Lease).reply ≡ o → Was (serves_by d k others o).pool.holds
  serves_by_was k others None is e = e
  serves_by_was k others (Some loan) is e =
      was_added (holding k loan.lease loan.number) d.holds (behind d.service.given loan.lease (lent_lease d.service (find_by is_lendable d.service.seats) loan is)) (λ f. f) e

  serves_was : (waiting : List ℕ) → Was (serves d waiting).pool.holds
  serves_was [] e = e
  serves_was (k ∷ others) e = serves_by_was k others (lent_in (step {T = Token} d.service calls.Lease).reply) refl e

  brings_was : (s : Service) (gives : Bool) (way : Way) (o : Option Loan) → Was (brings_by d s gives way o).pool.holds
  brings_was s gives way None e = e
  brings_was s gives way (Some loan) e = e

  does_was : (action : Action) (o : Option Hold) → Was (holder_does d action o).pool.holds
  does_was action None e = e
  does_was action (Some g) e = e

  leaves_was : (key : ℕ) (gives : Bool) (way : Way) (o : Option Hold) → Was (leaves d key gives way o).pool.holds
  leaves_was key gives way None e = e
  leaves_was key gives way (Some g) e = was_kept (λ (y : Hold). not (y.lease == g.lease)) e

  renews_by_was : (g : Hold) (ticket : ℕ) (o : Option Loan) (resumes : Bool) → lent_in (step {T = Token} (step {T = Token} d.service (calls.Keep g.lease)).service (calls.Resume ticket)).reply ≡ o
      → Was (renews_by d g ticket o resumes).pool.holds
  renews_by_was g ticket o false is e = was_kept (λ (y : Hold). not (y.number == g.number)) e
  renews_by_was g ticket None true is e = was_kept (λ (y : Hold). not (y.number == g.number)) e
  renews_by_was g ticket (Some loan) true is e =
      was_added (holding g.key loan.lease loan.number) (without_lease g.lease d.holds) (resumed_later d g.lease ticket loan tidy is) (was_kept (λ (y : Hold). not (y.lease == g.lease))) e

  keeps_by_was : (g : Hold) (resumes : Bool) (o : Option ℕ) → Was (keeps_by d g resumes (step {T = Token} d.service (calls.Keep g.lease)).service o).pool.holds
  keeps_by_was g resumes None e = e
  keeps_by_was g resumes (Some ticket) e =
      renews_by_was g ticket (lent_in (step {T = Token} (step {T = Token} d.service (calls.Keep g.lease)).service (calls.Resume ticket)).reply) resumes refl e

  renews_was : (resumes : Bool) (o : Option Hold) → Was (renews d resumes o).pool.holds
  renews_was resumes None e = e
  renews_was resumes (Some g) e = keeps_by_was g resumes (ticket_in (step {T = Token} d.service (calls.Keep g.lease)).reply) e

  comes_was : (call : Call Token) (s : Service) (m : ℕ) (way : Way) (lease : Option ℕ) (x : Hearing) → Was (comes_by d call s m way lease x).pool.holds
  comes_was call s m way lease pool.Goes e = e
  comes_was call s m way lease pool.Settled e = e
  comes_was call s m way lease pool.Wrong e = was_kept (λ (y : Hold). not (y.number == m)) e

  pub turn_was : (event : Event) → Was (turn d event).pool.holds
  turn_was (pool.Waits key) e = e
  turn_was (pool.Unwaits key) e = e
  turn_was pool.Serves e = serves_was d.line e
  turn_was (pool.Brings gives way) e =
      let lent = step {T = Token} d.service calls.Lease in
      brings_was lent.service gives way (lent_in lent.reply) e
  turn_was (pool.Does key action) e = does_was action (find_key key d.holds) e
  turn_was (pool.Leaves key gives way) e = leaves_was key gives way (find_key key d.holds) e
  turn_was (pool.Renews key resumes) e = renews_was resumes (find_key key d.holds) e
  turn_was (pool.Comes m part way) e =
      let heard = step {T = Token} d.service (calls.Came m part) in
      comes_was (calls.Came m part) heard.service m way (lease_at (seat_numbered m d.service.seats)) (hearing heard.dones) e
  turn_was (pool.Loses m) e = was_kept (λ (y : Hold). not (y.number == m)) e

given_next : (d : Pool) (event : Event) → Tidy d.service → d.service.given ≤ (turn d event).pool.service.given
given_next d event tidy = subst (λ (s : Service). d.service.given ≤ s.given) (sym (service_along d (event ∷ []))) (all_rise d.service (calls_along d (event ∷ [])) tidy).rises

given_turn : (d e : Pool) (event : Event) → IsReached d → e ≡ (turn d event).pool → d.service.given ≤ e.service.given
given_turn d e event reached is = subst (λ (x : Pool). d.service.given ≤ x.service.given) (sym is) (given_next d event (sound_at d reached).tidy)

held_along : (d : Pool) (events : List Event) (n : ℕ) (h : Hold) → IsReached d → h.lease ≤ d.service.given → find_number n (pool_after d events).holds ≡ Some h → find_number n d.holds ≡ Some h
held_along d [] n h reached le e = e
held_along d (event ∷ events) n h reached le e =
    let tidy = (sound_at d reached).tidy in
    let less : h.lease ≤ (turn d event).pool.service.given = at_most h.lease d.service.given (turn d event).pool.service.given le (given_next d event tidy) in
    turn_was d n h (apart_at d reached) tidy le event (held_along (turn d event).pool events n h (reached_next d event reached) less e)

pub held_led : (by : Cause) (d e : Pool) (n : ℕ) (h : Hold) → IsReached d → LedTo by d e → h.lease ≤ d.service.given → find_number n e.holds ≡ Some h → find_number n d.holds ≡ Some h
held_led by d e n h reached goes le found =
    let r = goes d (record { events = []; are = refl; caused = tt }) in
    held_along d r.events n h reached le (ap (λ (x : Pool). find_number n x.holds) r.are ∙ found)

-- ---- No message begins anew there

stays_same : {A : Type 0} (o p : Option A) → p ≡ o → StaysAt o p
stays_same {A} o p e = subst (λ (x : Option A). StaysAt o x) (sym e) (at_refl o)

pub anew_refl : (r : code.Relay) → AnewIfLent r r
anew_refl r = λ n h found le. at_refl (answer_at n r.links.items)

pub anew_kept : {A E : Type 0} (r : Result A E) (a b : code.Relay) → OnOk r (KeepsAnswers a.links.items b.links.items) → OnOk r (AnewIfLent a b)
anew_kept (Ok x) a b k = λ n h found le. k.keeps n
anew_kept (Err e) a b k = tt

-- one behind the other
pub anew_both : (by more : Cause) (a b c : code.Relay) → IsReached (pool_in a.pool) → IsReached (pool_in b.pool) → LedTo by (pool_in a.pool) (pool_in b.pool) → LedTo more (pool_in b.pool) (pool_in c.pool)
    → AnewIfLent a b → AnewIfLent b c → AnewIfLent a c
anew_both by more a b c first next one two h k = λ n g found le.
    let less : g.lease ≤ (pool_in b.pool).service.given = at_most g.lease (pool_in a.pool).service.given (pool_in b.pool).service.given le (goes_given by (pool_in a.pool) (pool_in b.pool) first one) in
    at_next (answer_at n a.links.items) (answer_at n b.links.items) (answer_at n c.links.items) (h n g (held_led more (pool_in b.pool) (pool_in c.pool) n g next two less found) le) (k n g found less)

pub anew_on : {A E : Type 0} (r : Result A E) (by more : Cause) (a b c : code.Relay) → IsReached (pool_in a.pool) → IsReached (pool_in b.pool) → LedTo by (pool_in a.pool) (pool_in b.pool) → OnOk r (LedTo more (pool_in b.pool) (pool_in c.pool))
    → AnewIfLent a b → OnOk r (AnewIfLent b c) → OnOk r (AnewIfLent a c)
anew_on (Ok x) by more a b c first next one two h k = anew_both by more a b c first next one two h k
anew_on (Err e) by more a b c first next one two h k = tt

-- the one that is renewed is held by a lease given behind those
module _ (key : ℕ) (a m c : code.Relay) (b : pools.Pool) (hold : Hold) (before after : List ℕ) (by : Cause) (reached : IsReached (pool_in a.pool)) (turns : Turns (pool.Renews key true) (pool_in a.pool) (pool_in b) before after)
    (later : a.pool.service.given < hold.lease) (is : IsRenewed (renewals.Kept hold) key a.pool b) (same : m.pool ≡ b) (others : (n : ℕ) → n ≢ hold.number → answer_at n m.links.items ≡ answer_at n a.links.items) where
  led : IsReached (pool_in b)
  led = reached_turn (pool_in a.pool) (pool_in b) (pool.Renews key true) before after turns reached

  off : (n : ℕ) (h : Hold) → find_number n b.holds.items ≡ Some h → h.lease ≤ a.pool.service.given → n ≢ hold.number
  off n h at le = λ e.
      let apart : Apart (without_lease is.0.lease a.pool.holds.items ++ hold ∷ []) = subst Apart is.3 (apart_at (pool_in b) led) in
      let one : find_number hold.number (without_lease is.0.lease a.pool.holds.items ++ hold ∷ []) ≡ Some hold = last_found hold (without_lease is.0.lease a.pool.holds.items) apart in
      let two : find_number hold.number (without_lease is.0.lease a.pool.holds.items ++ hold ∷ []) ≡ Some h = subst (λ (k : ℕ). find_number k (without_lease is.0.lease a.pool.holds.items ++ hold ∷ []) ≡ Some h) e (ap (find_number n) (sym is.3) ∙ at) in
      let it : h ≡ hold = (let u : Some h ≡ Some hold = sym two ∙ one in cc) in
      let lease : h.lease ≡ hold.lease = ap (λ (y : Hold). y.lease) it in
      let lt : a.pool.service.given < hold.lease = later in
      let less : h.lease ≤ a.pool.service.given = le in
      let u : ⊥ = omega (arith, lease, lt, less) in u

  relent : LedTo by (pool_in m.pool) (pool_in c.pool) → KeepsAnswers m.links.items c.links.items → AnewIfLent a c
  relent goes k = λ n h found le.
      let two : LedTo by (pool_in b) (pool_in c.pool) = subst (λ (d : pools.Pool). LedTo by (pool_in d) (pool_in c.pool)) same goes in
      let rises : a.pool.service.given ≤ b.service.given = given_turn (pool_in a.pool) (pool_in b) (pool.Renews key true) reached turns.pool_is in
      let at : find_number n b.holds.items ≡ Some h = held_led by (pool_in b) (pool_in c.pool) n h led two (at_most h.lease a.pool.service.given b.service.given le rises) found in
      at_next (answer_at n a.links.items) (answer_at n m.links.items) (answer_at n c.links.items) (stays_same (answer_at n a.links.items) (answer_at n m.links.items) (others n (off n h at le))) (k.keeps n)

  pub relent_anew : {A E : Type 0} (r : Result A E) → OnOk r (LedTo by (pool_in m.pool) (pool_in c.pool)) → OnOk r (KeepsAnswers m.links.items c.links.items) → OnOk r (AnewIfLent a c)
  relent_anew (Ok x) goes k = relent goes k
  relent_anew (Err e) goes k = tt

-- ---- Those who wait are lent one

other_if : (b : Bool) (n : ℕ) (h x y : Hold) (ys : List Hold) → (y.number == n) ≡ b → x.number ≢ y.number → (if b then Some y else find_number n ys) ≡ Some h → (find_number n ys ≡ Some h → x.number ≢ n) → x.number ≢ n
other_if true n h x y ys is differs e later = λ same. differs (same ∙ sym (eqb-true y.number n is))
other_if false n h x y ys is differs e later = later e

last_other : (n : ℕ) (h x : Hold) (hs : List Hold) → Apart (hs ++ x ∷ []) → find_number n hs ≡ Some h → x.number ≢ n
last_other n h x [] apart e = absurd (let u : ⊥ = cc in u)
last_other n h x (y ∷ ys) apart e = other_if (y.number == n) n h x y ys refl (last_each (λ (z : Hold). z.number ≢ y.number) x ys apart.0) e (λ f. last_other n h x ys apart.1 f)

pub served_anew : (a b c : code.Relay) (e : pools.Pool) (served : Served) (before after : List ℕ) → IsReached (pool_in a.pool) → LedOn (pool_in a.pool) (pool_in b.pool) → IsReached (pool_in b.pool) → IsReached (pool_in e)
    → Turns pool.Serves (pool_in b.pool) (pool_in e) before after → Serving (pool_in b.pool) (Some served) → LedOn (pool_in e) (pool_in c.pool)
    → ((n : ℕ) → n ≢ served.hold.number → StaysAt (answer_at n b.links.items) (answer_at n c.links.items)) → AnewIfLent a b → AnewIfLent a c
served_anew a b c e served before after first one mid next t serving two others h = λ n g found le.
    let less : g.lease ≤ b.pool.service.given = at_most g.lease a.pool.service.given b.pool.service.given le (goes_given Neither (pool_in a.pool) (pool_in b.pool) first (one Neither)) in
    let rises : b.pool.service.given ≤ e.service.given = given_turn (pool_in b.pool) (pool_in e) pool.Serves mid t.pool_is in
    let at : find_number n e.holds.items ≡ Some g = held_led Neither (pool_in e) (pool_in c.pool) n g next (two Neither) (at_most g.lease b.pool.service.given e.service.given less rises) found in
    let was : find_number n b.pool.holds.items ≡ Some g =
    turn_was (pool_in b.pool) n g (apart_at (pool_in b.pool) mid) (sound_at (pool_in b.pool) mid).tidy less pool.Serves (ap (λ (x : Pool). find_number n x.holds) (sym t.pool_is) ∙ at) in
    let more : e.holds.items ≡ b.pool.holds.items ++ served.hold ∷ [] = lent_holds (pool_in b.pool) (pool_in e) served serving.0 t.pool_is serving.1 serving.2 in
    let off : served.hold.number ≢ n = last_other n g served.hold b.pool.holds.items (subst Apart more (apart_at (pool_in e) next)) was in
    at_next (answer_at n a.links.items) (answer_at n b.links.items) (answer_at n c.links.items) (h n g was le) (others n (λ same. off (sym same)))

-- on others than that one
pub lent_elsewhere : {A E : Type 0} (r : Result A E) (number : ℕ) (ls ms ns : List Link) → ((n : ℕ) → n ≢ number → answer_at n ms ≡ answer_at n ls) → OnOk r (KeepsAnswers ms ns)
    → OnOk r ((n : ℕ) → n ≢ number → StaysAt (answer_at n ls) (answer_at n ns))
lent_elsewhere (Ok x) number ls ms ns same k = λ n differs. at_next (answer_at n ls) (answer_at n ms) (answer_at n ns) (stays_same (answer_at n ls) (answer_at n ms) (same n differs)) (k.keeps n)
lent_elsewhere (Err e) number ls ms ns same k = tt

pub pushed_elsewhere : (number : ℕ) (ls ms : List Link) (l : Link) → ms ≡ ls ++ l ∷ [] → l.number ≡ number → (n : ℕ) → n ≢ number → StaysAt (answer_at n ls) (answer_at n ms)
pushed_elsewhere number ls ms l e is = λ n differs.
    stays_same (answer_at n ls) (answer_at n ms) (ap (answer_at n) e ∙ ap (option_map answer_on) (pushed_link n l ls (λ same. differs (sym same ∙ is))))
