-- Each connection that is held is lent by the lease that its hold names, behind any event.
use Rattle.std.proofs.Common.{◌≡◌, ◌∙◌, ◌==◌, ◌<◌, ℕ, suc, Bool, true, false, not, List, [], ◌∷◌, refl, sym, ap, subst, arith, inl, inr}
use Rattle.std.specs.Prelude.{Option, Some, None, ◌⊎◌, filter, if◌then◌else◌}
use Rattle.std.proofs.lemmas.Bool.{eqb-true, eq-eqb}
use Rattle.tds_wire.specs.declared.told.Token.{Token}
use Rattle.tds_service.specs.Parts.{Part}
use Rattle.tds_service.specs.Service as calls
use Rattle.tds_service.specs.Service.{Service, Call, Reply, ServiceStep, Place, Leased, Cleaning, Kept, Free, Draining, Seat, find_by, change_by, has_lease, has_ticket, has_number, is_lendable, is_idle, may_keep, clean_place, drained, rests, rests_cleaned, does, nothing, acts_unless, lease_at, seat_numbered, step, service_after}
use Rattle.tds_service.proofs.Tests.{above}
use Rattle.tds_relay.specs.declared.pool.Hold.{Hold}
use Rattle.tds_relay.specs.Pool as pool
use Rattle.tds_relay.specs.Pool.{Pool, Event, Action, Way, PoolTurn, Hearing, find_key, find_lease, without_lease, without_number, holding, moves, cleaning, cleaning_by, releasing, frees, lent_in, ticket_in, turn}
use Rattle.tds_relay.specs.Promises.{Each}
use Rattle.tds_relay.proofs.promises.Seats.{each_added, each_weaker}
use Rattle.tds_relay.proofs.promises.Tidy.{step_rises}
use Rattle.tds_relay.proofs.promises.Holding.{Rising, found_by_lease, none_above}
use Rattle.tds_relay.proofs.promises.Caring.{Sound}
use Rattle.tds_relay.proofs.promises.Bringing.{Brought, brought}
use Rattle.tds_relay.proofs.held.Sitting.{Lets, LetsAll, Sits, all_sit, lent_sits, resumed_sits}

filtered_by : {X : Type 0} (P Q : X → Type 0) (p : X → Bool) (x : X) (xs : List X) (b : Bool) → p x ≡ b → P x → ((y : X) → P y → p y ≡ true → Q y) → Each Q (filter p xs) → Each Q (if b then x ∷ filter p xs else filter p xs)
filtered_by P Q p x xs true e h f rest = (f x h e, rest)
filtered_by P Q p x xs false e h f rest = rest

each_filtered : {X : Type 0} (P Q : X → Type 0) (p : X → Bool) (xs : List X) → Each P xs → ((y : X) → P y → p y ≡ true → Q y) → Each Q (filter p xs)
each_filtered P Q p [] h f = tt
each_filtered P Q p (x ∷ xs) h f = filtered_by P Q p x xs (p x) refl h.0 f (each_filtered P Q p xs h.1 f)

not_true : (b : Bool) → not b ≡ true → b ≡ false
not_true true e = absurd (let u : ⊥ = cc in u)
not_true false e = refl

-- each is the one that is found by its lease
each_above : (low high : ℕ) (hs : List Hold) → Rising low high hs → Each (λ (x : Hold). low < x.lease) hs
each_above low high [] r = tt
each_above low high (h ∷ hs) r =
    let lt : low < h.lease = r.0 in
    (lt, each_weaker (λ (x : Hold). h.lease < x.lease) (λ (x : Hold). low < x.lease) (λ x more. (let m : h.lease < x.lease = more in omega arith)) hs (each_above h.lease high hs r.1))

pub both_each : (P Q : Hold → Type 0) (hs : List Hold) → Each P hs → Each Q hs → Each (λ (x : Hold). P x × Q x) hs
both_each P Q [] h k = tt
both_each P Q (x ∷ xs) h k = ((h.0, k.0), both_each P Q xs h.1 k.1)

pub each_found_by : (low high : ℕ) (hs : List Hold) → Rising low high hs → Each (λ (x : Hold). find_lease x.lease hs ≡ Some x) hs
each_found_by low high [] r = tt
each_found_by low high (h ∷ hs) r =
    let here : (h.lease == h.lease) ≡ true = eq-eqb h.lease h.lease refl in (
      rw here refl,
      each_weaker (λ (x : Hold). (h.lease < x.lease) × (find_lease x.lease hs ≡ Some x)) (λ (x : Hold). find_lease x.lease (h ∷ hs) ≡ Some x)
          (λ x k. (let ne : (h.lease == x.lease) ≡ false = above h.lease x.lease k.0 in rw ne k.1)) hs
          (both_each (λ (x : Hold). h.lease < x.lease) (λ (x : Hold). find_lease x.lease hs ≡ Some x) hs (each_above h.lease high hs r.1) (each_found_by h.lease high hs r.1)),
    )

abbrev pub AllSit : Pool → Type 0
AllSit d = Each (λ (x : Hold). Sits d.service x) d.holds

cleaning_lets : (lease number other : ℕ) (way : Way) → LetsAll lease (cleaning_by number other way)
cleaning_lets lease number other (pool.Sent put finish) = (tt, (tt, (tt, (tt, tt))))
cleaning_lets lease number other pool.NotLent = (tt, tt)
cleaning_lets lease number other pool.NotAsked = (tt, (tt, tt))
cleaning_lets lease number other pool.NotPut = (tt, (tt, (tt, tt)))
cleaning_lets lease number other (pool.NotEnded put) = (tt, (tt, (tt, (tt, tt))))

if_lets : (lease : ℕ) (b : Bool) (xs ys : List (Call Token)) → LetsAll lease xs → LetsAll lease ys → LetsAll lease (if b then xs else ys)
if_lets lease true xs ys h k = h
if_lets lease false xs ys h k = k

releasing_lets : (s : Service) (lease other number : ℕ) (gives : Bool) (way : Way) → (lease == other) ≡ false → LetsAll lease (releasing s other number gives way)
releasing_lets s lease other number false way e = (tt, tt)
releasing_lets s lease other number true way e =
    let given = step {T = Token} s (calls.GiveBack other) in
    (e, if_lets lease (frees given.reply) (cleaning given.service number way) [] (cleaning_lets lease number (suc given.service.given) way) tt)

module _ (d : Pool) (sound : Sound d) (sit : AllSit d) where
  abbrev P : PoolTurn → Type 0
  P t = AllSit t.pool

  kept_all : (waiting : List ℕ) (all : List (Call Token)) → ((x : Hold) → find_lease x.lease d.holds ≡ Some x → LetsAll x.lease all) → P (moves d d.holds waiting all)
  kept_all waiting all lets =
      each_weaker (λ (x : Hold). Sits d.service x × (find_lease x.lease d.holds ≡ Some x)) (λ (x : Hold). Sits (service_after d.service all) x)
      (λ x h. all_sit d.service x all sound.tidy (lets x h.1) h.0) d.holds
      (both_each (λ (x : Hold). Sits d.service x) (λ (x : Hold). find_lease x.lease d.holds ≡ Some x) d.holds sit (each_found_by 0 d.service.given d.holds sound.rising))

  kept_some : (p : Hold → Bool) (all : List (Call Token)) → ((x : Hold) → find_lease x.lease d.holds ≡ Some x → p x ≡ true → LetsAll x.lease all)
      → Each (λ (x : Hold). Sits (service_after d.service all) x) (filter p d.holds)
  kept_some p all lets =
      each_filtered (λ (x : Hold). Sits d.service x × (find_lease x.lease d.holds ≡ Some x)) (λ (x : Hold). Sits (service_after d.service all) x) p d.holds
      (both_each (λ (x : Hold). Sits d.service x) (λ (x : Hold). find_lease x.lease d.holds ≡ Some x) d.holds sit (each_found_by 0 d.service.given d.holds sound.rising))
      (λ x h kept. all_sit d.service x all sound.tidy (lets x h.1 kept) h.0)

  serves_by_sits : (k : ℕ) (others : List ℕ) (o : Option pool.Loan) → lent_in (step {T = Token} d.service calls.Lease).reply ≡ o → P (pool.serves_by d k others o)
  serves_by_sits k others None e = sit
  serves_by_sits k others (Some loan) e =
      each_added (λ (x : Hold). Sits (step {T = Token} d.service calls.Lease).service x) (holding k loan.lease loan.number) d.holds
      (kept_all others (calls.Lease ∷ []) (λ x found. (tt, tt))) (lent_sits d.service sound.tidy k loan e)

  serves_sits : (waiting : List ℕ) → P (pool.serves d waiting)
  serves_sits [] = sit
  serves_sits (k ∷ others) = serves_by_sits k others (lent_in (step {T = Token} d.service calls.Lease).reply) refl

  new_lease_by : (x : Hold) (b : Bool) → (x.lease == suc d.service.given) ≡ b → find_lease x.lease d.holds ≡ Some x → b ≡ false
  new_lease_by x true e found =
      let is : x.lease ≡ suc d.service.given = eqb-true x.lease (suc d.service.given) e in
      let none : find_lease (suc d.service.given) d.holds ≡ None = none_above 0 d.service.given (suc d.service.given) d.holds sound.rising (omega arith) in
      let some : find_lease (suc d.service.given) d.holds ≡ Some x = subst (λ (k : ℕ). find_lease k d.holds ≡ Some x) is found in
      absurd (let u : None ≡ Some x = sym none ∙ some in let v : ⊥ = cc in v)
  new_lease_by x false e found = refl

  new_lease : (x : Hold) → find_lease x.lease d.holds ≡ Some x → (x.lease == suc d.service.given) ≡ false
  new_lease x found = let b : (x.lease == suc d.service.given) ≡ false = new_lease_by x (x.lease == suc d.service.given) refl found in b

  brings_sits : (gives : Bool) (way : Way) → (lent_in (step {T = Token} d.service calls.Lease).reply ≡ None) ⊎ Brought d → P (pool.brings d gives way)
  brings_sits gives way (inl none) =
      let s = (step {T = Token} d.service calls.Lease).service in
      subst (λ (o : Option pool.Loan). P (pool.brings_by d s gives way o)) (sym none) sit
  brings_sits gives way (inr b) =
      let s = (step {T = Token} d.service calls.Lease).service in
      let all : List (Call Token) = releasing s (suc d.service.given) b.number gives way in
      let t : P (moves d d.holds d.line (calls.Lease ∷ all)) =
      kept_all d.line (calls.Lease ∷ all) (λ x found. (tt, releasing_lets s x.lease (suc d.service.given) b.number gives way (new_lease x found))) in
      subst (λ (o : Option pool.Loan). P (pool.brings_by d s gives way o)) (sym b.lent) t

  action_lets : (lease other : ℕ) (action : Action) → Lets lease (pool.call_of other action)
  action_lets lease other pool.Asks = tt
  action_lets lease other (pool.Puts count) = tt
  action_lets lease other (pool.Ends count) = tt
  action_lets lease other pool.Stops = tt

  does_sit : (action : Action) (o : Option Hold) → P (pool.holder_does d action o)
  does_sit action None = sit
  does_sit action (Some h) = kept_all d.line (pool.call_of h.lease action ∷ []) (λ x found. (action_lets x.lease h.lease action, tt))

  leaves_sit : (key : ℕ) (gives : Bool) (way : Way) (o : Option Hold) → P (pool.leaves d key gives way o)
  leaves_sit key gives way None = sit
  leaves_sit key gives way (Some h) =
      kept_some (λ (y : Hold). not (y.lease == h.lease)) (releasing d.service h.lease h.number gives way)
      (λ x found kept. releasing_lets d.service x.lease h.lease h.number gives way (not_true (x.lease == h.lease) kept))

  other_lease_by : (h x : Hold) (b : Bool) → (x.lease == h.lease) ≡ b → find_lease h.lease d.holds ≡ Some h → find_lease x.lease d.holds ≡ Some x → not (x.number == h.number) ≡ true → b ≡ false
  other_lease_by h x true e held found kept =
      let is : x.lease ≡ h.lease = eqb-true x.lease h.lease e in
      let its : find_lease h.lease d.holds ≡ Some x = subst (λ (k : ℕ). find_lease k d.holds ≡ Some x) is found in
      let same : x ≡ h = (let u : Some x ≡ Some h = sym its ∙ held in cc) in
      let number : (x.number == h.number) ≡ true = eq-eqb x.number h.number (ap (λ (y : Hold). y.number) same) in
      let u : true ≡ false = sym number ∙ not_true (x.number == h.number) kept in
      absurd (let v : ⊥ = cc in v)
  other_lease_by h x false e held found kept = refl

  other_lease : (h x : Hold) → find_lease h.lease d.holds ≡ Some h → find_lease x.lease d.holds ≡ Some x → not (x.number == h.number) ≡ true → (x.lease == h.lease) ≡ false
  other_lease h x held found kept = let b : (x.lease == h.lease) ≡ false = other_lease_by h x (x.lease == h.lease) refl held found kept in b

  closed_sits : (h : Hold) → find_lease h.lease d.holds ≡ Some h → P (moves d (without_number h.number d.holds) d.line (calls.Keep h.lease ∷ calls.Lost h.number ∷ []))
  closed_sits h held =
      kept_some (λ (y : Hold). not (y.number == h.number)) (calls.Keep h.lease ∷ calls.Lost h.number ∷ []) (λ x found kept. (other_lease h x held found kept, (tt, tt)))

  renews_by_sits : (h : Hold) (ticket : ℕ) (o : Option pool.Loan) (resumes : Bool) → find_lease h.lease d.holds ≡ Some h
      → lent_in (step {T = Token} (step {T = Token} d.service (calls.Keep h.lease)).service (calls.Resume ticket)).reply ≡ o → P (pool.renews_by d h ticket o resumes)
  renews_by_sits h ticket o false held e = closed_sits h held
  renews_by_sits h ticket None true held e = closed_sits h held
  renews_by_sits h ticket (Some loan) true held e =
      let s = (step {T = Token} d.service (calls.Keep h.lease)).service in
      each_added (λ (x : Hold). Sits (step {T = Token} s (calls.Resume ticket)).service x) (holding h.key loan.lease loan.number) (without_lease h.lease d.holds)
      (kept_some (λ (y : Hold). not (y.lease == h.lease)) (calls.Keep h.lease ∷ calls.Resume ticket ∷ []) (λ x found kept. (not_true (x.lease == h.lease) kept, (tt, tt))))
      (resumed_sits s (step_rises d.service (calls.Keep h.lease) sound.tidy).tidy h.key ticket loan e)

  keeps_by_sits : (h : Hold) (resumes : Bool) (o : Option ℕ) → find_lease h.lease d.holds ≡ Some h → P (pool.keeps_by d h resumes (step {T = Token} d.service (calls.Keep h.lease)).service o)
  keeps_by_sits h resumes None held = sit
  keeps_by_sits h resumes (Some ticket) held =
      renews_by_sits h ticket (lent_in (step {T = Token} (step {T = Token} d.service (calls.Keep h.lease)).service (calls.Resume ticket)).reply) resumes held refl

  renews_sit : (key : ℕ) (resumes : Bool) (o : Option Hold) → find_key key d.holds ≡ o → P (pool.renews d resumes o)
  renews_sit key resumes None e = sit
  renews_sit key resumes (Some h) e =
      keeps_by_sits h resumes (ticket_in (step {T = Token} d.service (calls.Keep h.lease)).reply) (found_by_lease key 0 d.service.given h d.holds sound.rising e)

  settles_of_lets : (lease : ℕ) (s : Service) (m l : ℕ) (way : Way) (o : Option Hold) → LetsAll lease (pool.settles_of s m l way o)
  settles_of_lets lease s m l way (Some h) = tt
  settles_of_lets lease s m l way None = (tt, if_lets lease (frees (step {T = Token} s (calls.Cleaned l)).reply) [] (calls.Lost m ∷ []) tt (tt, tt))

  settles_lets : (lease : ℕ) (s : Service) (m : ℕ) (way : Way) (o : Option ℕ) → LetsAll lease (pool.settles d.holds s m way o)
  settles_lets lease s m way (Some l) = settles_of_lets lease s m l way (find_lease l d.holds)
  settles_lets lease s m way None = cleaning_lets lease m (suc s.given) way

  comes_sit : (m : ℕ) (part : Part Token) (s : Service) (way : Way) (o : Option ℕ) (hearing : Hearing) → P (pool.comes_by d (calls.Came m part) s m way o hearing)
  comes_sit m part s way o pool.Goes = kept_all d.line (calls.Came m part ∷ []) (λ x found. (tt, tt))
  comes_sit m part s way o pool.Settled =
      kept_all d.line (calls.Came m part ∷ pool.settles d.holds s m way o) (λ x found. (tt, settles_lets x.lease s m way o))
  comes_sit m part s way o pool.Wrong = kept_some (λ (y : Hold). not (y.number == m)) (calls.Came m part ∷ calls.Lost m ∷ []) (λ x found kept. (tt, (tt, tt)))

  pub turn_sits : (event : Event) → P (turn d event)
  turn_sits (pool.Waits key) = sit
  turn_sits (pool.Unwaits key) = sit
  turn_sits pool.Serves = serves_sits d.line
  turn_sits (pool.Brings gives way) = brings_sits gives way (brought d sound)
  turn_sits (pool.Does key action) = does_sit action (find_key key d.holds)
  turn_sits (pool.Leaves key gives way) = leaves_sit key gives way (find_key key d.holds)
  turn_sits (pool.Renews key resumes) = renews_sit key resumes (find_key key d.holds) refl
  turn_sits (pool.Comes m part way) =
      let heard = step {T = Token} d.service (calls.Came m part) in
      comes_sit m part heard.service way (lease_at (seat_numbered m d.service.seats)) (pool.hearing heard.dones)
  turn_sits (pool.Loses m) = kept_some (λ (y : Hold). not (y.number == m)) (calls.Lost m ∷ []) (λ x found kept. (tt, tt))

each_key_by : (P : Hold → Type 0) (key : ℕ) (h x : Hold) (xs : List Hold) (b : Bool) → P x → (if b then Some x else find_key key xs) ≡ Some h → (find_key key xs ≡ Some h → P h) → P h
each_key_by P key h x xs true p e f = let same : x ≡ h = cc in subst P same p
each_key_by P key h x xs false p e f = f e

pub each_key : (P : Hold → Type 0) (key : ℕ) (h : Hold) (hs : List Hold) → Each P hs → find_key key hs ≡ Some h → P h
each_key P key h [] k e = absurd (let u : ⊥ = cc in u)
each_key P key h (x ∷ xs) k e = each_key_by P key h x xs (x.key == key) k.0 e (λ f. each_key P key h xs k.1 f)
