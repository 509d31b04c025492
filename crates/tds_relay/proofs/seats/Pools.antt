-- Connections that a pool's service has, behind what is done at the pool, beside those of a relay.
use Rattle.std.proofs.Common.{◌≡◌, ◌≢◌, ◌∙◌, ◌≤◌, ℕ, Bool, true, false, List, [], ◌∷◌, ◌++◌, Option, Some, None, inl, inr, refl, sym, ap, subst, length, arith}
use Rattle.std.proofs.lemmas.Bool.{cases_eq}
use Rattle.tds_wire.specs.declared.told.Token.{Token}
use Rattle.tds_service.specs.Service as calls
use Rattle.tds_service.specs.Service.{Service, Reply, step}
use Rattle.tds_relay.specs.declared.pool.Hold.{Hold}
use Rattle.tds_relay.specs.declared.pool.Served.{Served}
use Rattle.tds_relay.specs.declared.link.Link.{Link}
use Rattle.tds_relay.specs.Pool as pool
use Rattle.tds_relay.specs.Pool.{Action, Pool, Event, pool_after, find_key, lent_in, new_pool, turn}
use Rattle.tds_relay.specs.Few.{AreSeated, AreSeatedBut, AreSeatedOff, KeepsSeats, SeatIs, SeatStays, has_seat}
use Rattle.tds_relay.specs.Told.{is_there}
use Rattle.tds_relay.specs.Ties.{LedOn, IsReached, IsServed, Neither, Serving, Turns}
use Rattle.tds_relay.proofs.seats.Counting.{Keeps, all_same, lost_stays, step_same}
use Rattle.tds_relay.proofs.bytes.Walking.{led_tidy}
use Rattle.tds_relay.specs.TokenParsers.{IsLed}
use Rattle.tds_relay.proofs.spared.Aside.{led_at}
use Rattle.tds_relay.proofs.promises.Seats.{Distinct}
use Rattle.tds_relay.proofs.seats.Within.{seats_but, seats_same, turned_by, with_one}
use Rattle.tds_relay.proofs.seats.Leased.{Lends, lease_lends}
use Rattle.tds_relay.proofs.spared.Held.{sound_at}
use Rattle.tds_relay.proofs.steps.Reaching.{reached_on}

-- ---- Reached

after_both : (d : Pool) (xs ys : List Event) → pool_after d (xs ++ ys) ≡ pool_after (pool_after d xs) ys
after_both d [] ys = refl
after_both d (x ∷ xs) ys = after_both (turn d x).pool xs ys

pub turned : (event : Event) (d e : Pool) (before after : List ℕ) → Turns event d e before after → IsReached d → IsReached e
turned event d e before after t r = (
  r.0,
  r.1 ++ event ∷ [],
  after_both (new_pool r.0) r.1 (event ∷ []) ∙ ap (λ (x : Pool). (turn x event).pool) r.2 ∙ sym t.pool_is,
)

pub gone_on : (d e : Pool) → LedOn d e → IsReached d → IsReached e
gone_on d e g r = reached_on Neither d e (g Neither) r

-- ---- With the relay's

apart_in : (d : Pool) → IsReached d → Distinct d.service.seats
apart_in d reached = (led_tidy d.service (led_at d reached)).distinct

pub off_of : (number : ℕ) (d : Pool) (ls : List Link) → AreSeated d ls → AreSeatedOff number d ls
off_of number d ls s = record {
  reached = s.reached;
  others = λ n ne. s.each n;
  few = with_one (length ls) (length d.service.seats) (has_seat number d.service) (is_there number ls) (s.each number) s.few;
}

-- the service's others stay
off_turned : (number : ℕ) (d e : Pool) (ls : List Link) → (IsReached d → IsReached e) → ((other : ℕ) → other ≢ number → has_seat other e.service ≡ has_seat other d.service) → AreSeatedOff number d ls
    → AreSeatedOff number e ls
off_turned number d e ls led others s = record {
  reached = led s.reached;
  others = λ n ne. others n ne ∙ s.others n ne;
  few =
      turned_by (length ls) (length d.service.seats) (length e.service.seats) (has_seat number d.service) (has_seat number e.service) (is_there number ls) s.few
      (seats_but number d.service e.service (apart_in d s.reached) others);
}

never : {P : Type 0} → false ≡ true → P
never e = absurd (let u : ⊥ = cc in u)

pub seated_on : (d e : Pool) (ls : List Link) → (IsReached d → IsReached e) → KeepsSeats d.service e.service → AreSeated d ls → AreSeated e ls
seated_on d e ls led keeps s = record {
  reached = led s.reached;
  each = λ n. keeps n ∙ s.each n;
  few =
      let a : ℕ = length ls in
      let b : ℕ = length d.service.seats in
      let c : ℕ = length e.service.seats in
      let had : a ≤ b = s.few in
      let more : b ≤ c = seats_same d.service e.service (apart_in d s.reached) keeps in
      let t : a ≤ c = omega (arith, had, more) in t;
}

pub seated_stays : (number : ℕ) (d e : Pool) (ls : List Link) → (IsReached d → IsReached e) → SeatStays true number d.service e.service → AreSeated d ls → AreSeated e ls
seated_stays number d e ls led k s = seated_on d e ls led (all_same number d.service e.service k) s

pub seated_out : (number : ℕ) (d e : Pool) (ls : List Link) → (IsReached d → IsReached e) → SeatStays false number d.service e.service → AreSeated d ls → AreSeatedBut number false e ls
seated_out number d e ls led k s = record { off = off_turned number d e ls led k.others (off_of number d ls s); here = k.here; new = λ e. never e }

pub seated_is : (has : Bool) (number : ℕ) (d e : Pool) (ls : List Link) → (IsReached d → IsReached e) → SeatIs has number d.service e.service → is_there number ls ≡ false → AreSeated d ls → AreSeatedBut number has e ls
seated_is has number d e ls led k new s = record { off = off_turned number d e ls led k.others (off_of number d ls s); here = k.here; new = λ is. new }

-- ---- What an application does with its own

action_call : (lease : ℕ) (action : Action) → Keeps (pool.call_of lease action)
action_call lease pool.Asks = tt
action_call lease (pool.Puts count) = tt
action_call lease (pool.Ends count) = tt
action_call lease pool.Stops = tt

does_keep : (d : Pool) (action : Action) (o : Option Hold) → KeepsSeats d.service (pool.holder_does d action o).pool.service
does_keep d action None = λ n. refl
does_keep d action (Some h) = λ n. step_same d.service n (pool.call_of h.lease action) (action_call h.lease action)

pub action_keeps : (key : ℕ) (action : Action) (d e : Pool) (before after : List ℕ) → Turns (pool.Does key action) d e before after → KeepsSeats d.service e.service
action_keeps key action d e before after t = subst (λ (x : Pool). KeepsSeats d.service x.service) (sym t.pool_is) (does_keep d action (find_key key d.holds))

pub action_seated : (key : ℕ) (action : Action) (d e : Pool) (before after : List ℕ) (ls : List Link) → Turns (pool.Does key action) d e before after → AreSeated d ls → AreSeated e ls
action_seated key action d e before after ls t s = seated_on d e ls (turned (pool.Does key action) d e before after t) (action_keeps key action d e before after t) s

pub pool_keeps : (d e : Pool) → e ≡ d → KeepsSeats d.service e.service
pool_keeps d e same = λ n. ap (λ (x : Pool). has_seat n x.service) same

pub both_keep : (s t u : Service) → KeepsSeats s t → KeepsSeats t u → KeepsSeats s u
both_keep s t u h k = λ n. k n ∙ h n

-- ---- One is lost

pub lost_at : (number : ℕ) (d e : Pool) (before after : List ℕ) → IsLed d.service → Turns (pool.Loses number) d e before after → SeatStays false number d.service e.service
lost_at number d e before after led t =
    subst (λ (x : Pool). SeatStays false number d.service x.service) (sym t.pool_is) (lost_stays d.service (led_tidy d.service led).distinct number)

pub lost_seated : (number : ℕ) (d e : Pool) (before after : List ℕ) (ls : List Link) → Turns (pool.Loses number) d e before after → AreSeatedOff number d ls → AreSeatedBut number false e ls
lost_seated number d e before after ls t s =
    let k : SeatStays false number d.service e.service = lost_at number d e before after (led_at d s.reached) t in
    record { off = off_turned number d e ls (turned (pool.Loses number) d e before after t) k.others s; here = k.here; new = λ is. never is }

-- ---- One is lent

pub serves_at : (d : Pool) (line : List ℕ) (key : ℕ) (others : List ℕ) (lease number : ℕ) (had : Bool) → line ≡ key ∷ others → (step {T = Token} d.service calls.Lease).reply ≡ calls.Lent lease number had
    → (pool.serves d line).pool.service ≡ (step {T = Token} d.service calls.Lease).service
serves_at d line key others lease number had e reply =
    ap (λ (xs : List ℕ). (pool.serves d xs).pool.service) e
    ∙ ap (λ (r : Reply). (pool.serves_by d key others (lent_in r)).pool.service) reply

lends_on : (had : Bool) (number : ℕ) (s t : Service) → Lends had number s t → had ≡ true → KeepsSeats s t
lends_on had number s t k was = λ n. elim (cases_eq n number) [
  | inl is ↦ subst (λ (m : ℕ). has_seat m t ≡ has_seat m s) (sym is) (k.here ∙ sym (k.was was))
  | inr ne ↦ k.others n ne
]

module _ (d e : Pool) (served : Served) (before after : List ℕ) (ls : List Link) (t : Turns pool.Serves d e before after) (serving : Serving d (Some served)) (s : AreSeated d ls) where
  served_lends : Lends served.had served.hold.number d.service e.service
  served_lends =
      let lent = lease_lends d.service (sound_at d s.reached).tidy served.hold.lease served.hold.number served.had serving.2 in
      let is : e.service ≡ (step {T = Token} d.service calls.Lease).service =
      ap (λ (x : Pool). x.service) t.pool_is ∙ serves_at d d.line served.hold.key serving.0 served.hold.lease served.hold.number served.had serving.1 serving.2 in
      subst (λ (x : Service). Lends served.had served.hold.number d.service x) (sym is) lent

  pub served_again : served.had ≡ true → AreSeated e ls
  served_again was = seated_on d e ls (turned pool.Serves d e before after t) (lends_on served.had served.hold.number d.service e.service served_lends was) s

  pub served_new : served.had ≡ false → AreSeatedBut served.hold.number true e ls
  served_new was =
      let number : ℕ = served.hold.number in
      let k = served_lends in
      record {
        off = off_turned number d e ls (turned pool.Serves d e before after t) k.others (off_of number d ls s);
        here = k.here;
        new = λ is. sym (s.each number) ∙ k.fresh was;
      }

-- nobody is
serves_none : (d : Pool) (line : List ℕ) → ((key : ℕ) (others : List ℕ) → line ≡ key ∷ others → (step {T = Token} d.service calls.Lease).reply ≡ calls.AllInUse) → (pool.serves d line).pool.service ≡ d.service
serves_none d [] none = refl
serves_none d (key ∷ others) none = ap (λ (r : Reply). (pool.serves_by d key others (lent_in r)).pool.service) (none key others refl)

refused : (line : List ℕ) (s : Service) → (key : ℕ) (others : List ℕ) → line ≡ key ∷ others → IsServed line s → (step {T = Token} s calls.Lease).reply ≡ calls.AllInUse
refused line s key others e h = subst (λ (xs : List ℕ). IsServed xs s) e h

pub unserved : (d e : Pool) (before after : List ℕ) (ls : List Link) → Turns pool.Serves d e before after → Serving d None → AreSeated d ls → AreSeated e ls
unserved d e before after ls t none s =
    let is : e.service ≡ d.service = ap (λ (x : Pool). x.service) t.pool_is ∙ serves_none d d.line (λ key others e. refused d.line d.service key others e none) in
    seated_on d e ls (turned pool.Serves d e before after t) (λ n. ap (has_seat n) is) s
