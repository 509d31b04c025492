-- Which connections are ordered opened: none but new ones, each once.
use Rattle.std.proofs.Common.{◌≡◌, ◌∙◌, ◌<◌, ◌≤◌, ◌+◌, ℕ, suc, Bool, true, false, List, [], ◌∷◌, ◌++◌, length, Option, Some, None, refl, sym, ap, subst, arith, append_assoc, append-nil, length-append}
use Rattle.std.specs.Prelude.{Result, Ok, Err, OnOk, nat_lt}
use Rattle.tds_wire.specs.declared.told.Token.{Token}
use Rattle.tds_service.specs.Service as calls
use Rattle.tds_service.specs.Service.{Call, Reply, Seat, Service, find_by, is_lendable, step, service_after}
use Rattle.tds_relay.specs.declared.pool.Served.{Served}
use Rattle.tds_relay.specs.declared.link.Link.{Link}
use Rattle.tds_relay.specs.declared.order.Order.{Order}
use Rattle.tds_relay.specs.declared.order.Order.TheVariants as orders
use Rattle.tds_relay.specs.declared.relay.Relay as code
use Rattle.tds_relay.specs.Reads.{LinksStay}
use Rattle.tds_relay.specs.Pool as pool
use Rattle.tds_relay.specs.Pool.{Pool, Event, lent_in, pool_after, releasing}
use Rattle.tds_relay.specs.Fronting.{calls_along}
use Rattle.tds_relay.specs.Ordering.{GrowsByOrders, OpensAbove, OpensNew, Rise, opens_if, opens_in}
use Rattle.tds_relay.specs.Cleaning.{IsLentBy}
use Rattle.tds_relay.specs.Ties.{Cause, LedTo, LedOn, IsReached, Leaving, Neither, Reaches, Serving, Turns, pool_in}
use Rattle.tds_relay.proofs.bytes.Walking.{Leaves, step_leaves}
use Rattle.tds_relay.proofs.promises.Seats.{each_found}
use Rattle.tds_relay.proofs.promises.Tidy.{Tidy, UpTo}
use Rattle.tds_relay.proofs.seats.Pools.{serves_at}
use Rattle.tds_relay.proofs.spared.Held.{sound_at}
use Rattle.tds_relay.proofs.steps.Calling.{service_along}
use Rattle.tds_relay.proofs.steps.Reaching.{reaches_left}

-- ---- Orders

pub opens_both_in : (all more : List Order) → opens_in (all ++ more) ≡ opens_in all ++ opens_in more
opens_both_in [] more = refl
opens_both_in (orders.Open number ∷ all) more = ap (λ (ns : List ℕ). number ∷ ns) (opens_both_in all more)
opens_both_in (orders.Write tag ∷ all) more = opens_both_in all more
opens_both_in (orders.Close tag ∷ all) more = opens_both_in all more

-- another order is put behind them
pub opens_pushed : (order : Order) (old new : List Order) → new ≡ old ++ order ∷ [] → opens_in (order ∷ []) ≡ [] → opens_in new ≡ opens_in old
opens_pushed order old new are none = ap opens_in are ∙ opens_both_in old (order ∷ []) ∙ ap (λ (ns : List ℕ). opens_in old ++ ns) none ∙ append-nil (opens_in old)

pub opens_one : (number : ℕ) (old new : List Order) → new ≡ old ++ orders.Open number ∷ [] → opens_in new ≡ opens_in old ++ number ∷ []
opens_one number old new are = ap opens_in are ∙ opens_both_in old (orders.Open number ∷ [])

-- ---- Numbers that rise

rise_lower : (low mid high : ℕ) (ns : List ℕ) → low ≤ mid → Rise mid high ns → Rise low high ns
rise_lower low mid high [] le h = let more : mid ≤ high = h in omega (arith, le, more)
rise_lower low mid high (n ∷ ns) le h = let lt : mid < n = h.0 in ((let u : low < n = omega (arith, le, lt) in u), h.1)

rise_both : (low mid high : ℕ) (xs ys : List ℕ) → Rise low mid xs → Rise mid high ys → Rise low high (xs ++ ys)
rise_both low mid high [] ys h k = rise_lower low mid high ys h k
rise_both low mid high (x ∷ xs) ys h k = (h.0, rise_both x mid high xs ys h.1 k)

rise_on : (low mid high : ℕ) (ns : List ℕ) → Rise low mid ns → mid ≤ high → Rise low high ns
rise_on low mid high [] h le = let less : low ≤ mid = h in omega (arith, less, le)
rise_on low mid high (n ∷ ns) h le = (h.0, rise_on n mid high ns h.1 le)

-- ---- How many numbers were given

pub all_last : (s : Service) (all : List (Call Token)) → s.last ≤ (service_after s all).last
all_last s [] = omega arith
all_last s (call ∷ all) =
    let one : Leaves 0 s (step s call).service = step_leaves 0 s call (omega arith) in
    let two : (step s call).service.last ≤ (service_after (step s call).service all).last = all_last (step s call).service all in
    let three : s.last ≤ (step s call).service.last = one.rises in
    omega (arith, two, three)

along_last : (d : Pool) (events : List Event) → d.service.last ≤ (pool_after d events).service.last
along_last d events = subst (λ (s : Service). d.service.last ≤ s.last) (sym (service_along d events)) (all_last d.service (calls_along d events))

reaches_last : (by : Cause) (d e : Pool) → Reaches by d e → d.service.last ≤ e.service.last
reaches_last by d e r = subst (λ (x : Pool). d.service.last ≤ x.service.last) r.are (along_last d r.events)

pub goes_last : (by : Cause) (d e : Pool) → LedTo by d e → d.service.last ≤ e.service.last
goes_last by d e g = reaches_last by d e (g d (record { events = []; are = refl; caused = tt }))

pub on_last : (d e : Pool) → LedOn d e → d.service.last ≤ e.service.last
on_last d e g = goes_last Neither d e (g Neither)

pub left_last : (key : ℕ) (d e : Pool) → Leaving key d e → d.service.last ≤ e.service.last
left_last key d e l = reaches_last _ d e (reaches_left key d d e l (record { events = []; are = refl; caused = tt }))

pub turn_last : (event : Event) (d e : Pool) (before after : List ℕ) → Turns event d e before after → d.service.last ≤ e.service.last
turn_last event d e before after t = subst (λ (x : Pool). d.service.last ≤ x.service.last) (sym t.pool_is) (along_last d (event ∷ []))

-- ---- Call behind call

pub opens_none : (r : code.Relay) → OpensNew r r
opens_none r = record { more = []; are = sym (append-nil (opens_in r.orders.items)); rise = (let le : r.pool.service.last ≤ r.pool.service.last = omega arith in le) }

pub opens_same : (a b : code.Relay) → opens_in b.orders.items ≡ opens_in a.orders.items → a.pool.service.last ≤ b.pool.service.last → OpensNew a b
opens_same a b same le = record { more = []; are = same ∙ sym (append-nil (opens_in a.orders.items)); rise = le }

pub opens_new_both : (a b c : code.Relay) → OpensNew a b → OpensNew b c → OpensNew a c
opens_new_both a b c h k = record {
  more = h.more ++ k.more;
  are = k.are ∙ ap (λ (ns : List ℕ). ns ++ k.more) h.are ∙ append_assoc (opens_in a.orders.items) h.more k.more;
  rise = rise_both a.pool.service.last b.pool.service.last c.pool.service.last h.more k.more h.rise k.rise;
}

pub opens_new_on : {A E : Type 0} (r : Result A E) (a b c : code.Relay) → OpensNew a b → OnOk r (OpensNew b c) → OnOk r (OpensNew a c)
opens_new_on (Ok x) a b c h k = opens_new_both a b c h k
opens_new_on (Err e) a b c h k = tt

-- none before, and above a number that was given
pub opens_above : (number : ℕ) (a b c : code.Relay) → opens_in b.orders.items ≡ opens_in a.orders.items → number ≤ b.pool.service.last → OpensNew b c → OpensAbove number a c
opens_above number a b c same le k =
    record { more = k.more; are = k.are ∙ ap (λ (ns : List ℕ). ns ++ k.more) same; rise = rise_lower number b.pool.service.last c.pool.service.last k.more le k.rise }

-- ---- One is lent

opened_last : (s : Service) (room : Bool) (lease number : ℕ) → (calls.opens {T = Token} s room).reply ≡ calls.Lent lease number false → Rise s.last (calls.opens {T = Token} s room).service.last (number ∷ [])
opened_last s false lease number e = absurd (let u : ⊥ = cc in u)
opened_last s true lease number e =
    let is : suc s.last ≡ number = cc in
    ((let u : s.last < number = omega (arith, is) in u), (let u : number ≤ suc s.last = omega (arith, is) in u))

lent_last : (s : Service) (o : Option Seat) (lease number : ℕ) → (calls.lends {T = Token} s o).reply ≡ calls.Lent lease number false → Rise s.last (calls.lends {T = Token} s o).service.last (number ∷ [])
lent_last s None lease number e = opened_last s (nat_lt (length s.seats) s.max) lease number e
lent_last s (Some c) lease number e = absurd (let u : ⊥ = cc in u)

module _ (served : Served) (d e : Pool) (before after : List ℕ) (t : Turns pool.Serves d e before after) (serving : Serving d (Some served)) where
  served_rise : (had : Bool) → served.had ≡ had → Rise d.service.last e.service.last (opens_if had served.hold.number)
  served_rise true is = turn_last pool.Serves d e before after t
  served_rise false is =
      let reply : (step {T = Token} d.service calls.Lease).reply ≡ calls.Lent served.hold.lease served.hold.number false = serving.2 ∙ ap (λ (b : Bool). calls.Lent served.hold.lease served.hold.number b) is in
      let same : e.service ≡ (step {T = Token} d.service calls.Lease).service =
      ap (λ (x : Pool). x.service) t.pool_is ∙ serves_at d d.line served.hold.key serving.0 served.hold.lease served.hold.number served.had serving.1 serving.2 in
      subst (λ (s : Service). Rise d.service.last s.last (served.hold.number ∷ [])) (sym same) (lent_last d.service (find_by is_lendable d.service.seats) served.hold.lease served.hold.number reply)

-- a new one's number is above those that were given
pub served_above : (served : Served) (d e : Pool) (before after : List ℕ) → Turns pool.Serves d e before after → Serving d (Some served) → served.had ≡ false → d.service.last < served.hold.number
served_above served d e before after t serving is = (served_rise served d e before after t serving false is).0

-- by the order of a call that goes on behind it
pub lent_opens : (served : Served) (a b : code.Relay) (e : Pool) (before after : List ℕ) → Turns pool.Serves (pool_in a.pool) e before after → Serving (pool_in a.pool) (Some served)
    → opens_in b.orders.items ≡ opens_in a.orders.items ++ opens_if served.had served.hold.number → e.service.last ≤ b.pool.service.last → OpensNew a b
lent_opens served a b e before after t serving are le = record {
  more = opens_if served.had served.hold.number;
  are = are;
  rise = rise_on a.pool.service.last e.service.last b.pool.service.last (opens_if served.had served.hold.number) (served_rise served (pool_in a.pool) e before after t serving served.had refl) le;
}

-- ---- How many are there

more_there : (a b x y : ℕ) → y ≡ x → b ≤ a → b + x ≤ a + y
more_there a b x y same few = omega (arith, same, few)

pub grows_few : (a b : code.Relay) → opens_in b.orders.items ≡ opens_in a.orders.items → length b.links.items ≤ length a.links.items → GrowsByOrders a b
grows_few a b same few = more_there (length a.links.items) (length b.links.items) (length (opens_in a.orders.items)) (length (opens_in b.orders.items)) (ap (length {A = ℕ}) same) few

pub grows_stays : (a b : code.Relay) → opens_in b.orders.items ≡ opens_in a.orders.items → LinksStay a.links.items b.links.items → GrowsByOrders a b
grows_stays a b same stays = grows_few a b same stays.few

both_there : (a b c x y z : ℕ) → b + x ≤ a + y → c + y ≤ b + z → c + x ≤ a + z
both_there a b c x y z h k = omega (arith, h, k)

pub grows_both : (a b c : code.Relay) → GrowsByOrders a b → GrowsByOrders b c → GrowsByOrders a c
grows_both a b c h k =
    both_there (length a.links.items) (length b.links.items) (length c.links.items) (length (opens_in a.orders.items)) (length (opens_in b.orders.items)) (length (opens_in c.orders.items)) h k

pub grows_refl : (r : code.Relay) → GrowsByOrders r r
grows_refl r = more_there (length r.links.items) (length r.links.items) (length (opens_in r.orders.items)) (length (opens_in r.orders.items)) refl (omega arith)

pub grows_on : {A E : Type 0} (r : Result A E) (a b c : code.Relay) → GrowsByOrders a b → OnOk r (GrowsByOrders b c) → OnOk r (GrowsByOrders a c)
grows_on (Ok x) a b c h k = grows_both a b c h k
grows_on (Err e) a b c h k = tt

pub grows_behind : {A E : Type 0} (r : Result A E) (a b c : code.Relay) → GrowsByOrders a b → opens_in c.orders.items ≡ opens_in b.orders.items → OnOk r (LinksStay b.links.items c.links.items) → OnOk r (GrowsByOrders a c)
grows_behind (Ok x) a b c h same stays = grows_both a b c h (grows_stays b c same stays)
grows_behind (Err e) a b c h same stays = tt

one_there : (a b x y : ℕ) → b ≡ suc a → y ≡ suc x → b + x ≤ a + y
one_there a b x y e f = omega (arith, e, f)

one_longer : {T : Type 0} (x : T) (xs ys : List T) → ys ≡ xs ++ x ∷ [] → length ys ≡ suc (length xs)
one_longer {T} x xs ys e = let l : length (xs ++ x ∷ []) ≡ length xs + 1 = length-append xs (x ∷ []) in let m : length ys ≡ length (xs ++ x ∷ []) = ap (length {A = T}) e in omega (arith, l, m)

pub grows_pushed : (number : ℕ) (l : Link) (a b : code.Relay) → b.links.items ≡ a.links.items ++ l ∷ [] → opens_in b.orders.items ≡ opens_in a.orders.items ++ number ∷ [] → GrowsByOrders a b
grows_pushed number l a b more opens =
    one_there (length a.links.items) (length b.links.items) (length (opens_in a.orders.items)) (length (opens_in b.orders.items)) (one_longer l a.links.items b.links.items more)
    (one_longer number (opens_in a.orders.items) (opens_in b.orders.items) opens)

brought_there : (a b c n x y z : ℕ) → n ≡ suc a → b ≤ n → y ≡ x → c + y ≤ b + z → c + x ≤ suc (a + z)
brought_there a b c n x y z e f g h = omega (arith, e, f, g, h)

-- one is brought
pub grows_brought : (l : Link) (ls : List Link) (a b c : code.Relay) → ls ≡ a.links.items ++ l ∷ [] → length b.links.items ≤ length ls → opens_in b.orders.items ≡ opens_in a.orders.items → GrowsByOrders b c
    → length c.links.items + length (opens_in a.orders.items) ≤ suc (length a.links.items + length (opens_in c.orders.items))
grows_brought l ls a b c pushed few same grows =
    brought_there (length a.links.items) (length b.links.items) (length c.links.items) (length ls) (length (opens_in a.orders.items)) (length (opens_in b.orders.items)) (length (opens_in c.orders.items))
    (one_longer l a.links.items ls pushed) few (ap (length {A = ℕ}) same) grows

pub many_on : (a b c d : ℕ) → b ≤ a → c ≡ b → d ≤ c → d ≤ a
many_on a b c d h e k = omega (arith, h, e, k)

-- ---- What is brought has a number that was given

opened_low : (s : Service) (b : Bool) (lease number : ℕ) (had : Bool) → (calls.opens {T = Token} s b).reply ≡ calls.Lent lease number had → number ≤ (calls.opens {T = Token} s b).service.last
opened_low s false lease number had e = absurd (let u : calls.AllInUse ≡ calls.Lent lease number had = e in let v : ⊥ = cc in v)
opened_low s true lease number had e =
    let is : suc s.last ≡ number = (let u : calls.Lent (suc s.given) (suc s.last) false ≡ calls.Lent lease number had = e in cc) in
    (let u : number ≤ suc s.last = omega (arith, is) in u)

lent_low : (s : Service) (o : Option Seat) (lease number : ℕ) (had : Bool) → Tidy s → find_by is_lendable s.seats ≡ o → (calls.lends {T = Token} s o).reply ≡ calls.Lent lease number had
    → number ≤ (calls.lends {T = Token} s o).service.last
lent_low s None lease number had tidy e reply = opened_low s (nat_lt (length s.seats) s.max) lease number had reply
lent_low s (Some c) lease number had tidy e reply =
    let is : c.number ≡ number = (let u : calls.Lent (suc s.given) c.number true ≡ calls.Lent lease number had = reply in cc) in
    subst (λ (n : ℕ). n ≤ s.last) is (each_found (UpTo s.last) is_lendable c s.seats tidy.upto e)

pub brought_low : (d e : Pool) (gives : Bool) (way : pool.Way) (number : ℕ) (before after : List ℕ) → IsReached d → IsLentBy number d.service → Turns (pool.Brings gives way) d e before after → number ≤ e.service.last
brought_low d e gives way number before after reached lent t =
    let s : Service = (step {T = Token} d.service calls.Lease).service in
    let low : number ≤ s.last = lent_low d.service (find_by is_lendable d.service.seats) lent.0 number lent.1 (sound_at d reached).tidy refl lent.2 in
    let is : e.service ≡ service_after s (releasing s lent.0 number gives way) =
    ap (λ (x : Pool). x.service) t.pool_is ∙ ap (λ (r : Reply). (pool.brings_by d s gives way (lent_in r)).pool.service) lent.2 in
    let rises : s.last ≤ (service_after s (releasing s lent.0 number gives way)).last = all_last s (releasing s lent.0 number gives way) in
    subst (λ (x : Service). number ≤ x.last) (sym is) (omega (arith, low, rises))
