-- Connections that were there before, open or yet to be opened, along what is done.
use Rattle.std.proofs.Common.{◌≡◌, ◌≢◌, ◌∙◌, ◌==◌, ◌≤◌, ◌<◌, ◌++◌, ℕ, zero, suc, Bool, true, false, List, [], ◌∷◌, Option, Some, None, inl, inr, refl, sym, ap, subst, arith, option_map, slice_index_or, slice_set, if◌then◌else◌}
use Rattle.std.specs.Prelude.{Result, Ok, Err, OnOk}
use Rattle.tds_packet.specs.Reading.{Reading}
use Rattle.tds_relay.specs.declared.link.Answer.{Answer}
use Rattle.tds_relay.specs.declared.link.Link.{Link}
use Rattle.tds_relay.specs.declared.pool.Served.{Served}
use Rattle.tds_relay.specs.declared.relay.Relay as code
use Rattle.tds_relay.specs.Lent.{Any, GivenStay, HearsAny, HearsGiven, KeepsGiven, OpensGiven, StaysCalled, ElseThanHeard, seen_in}
use Rattle.tds_relay.specs.Pool.{Pool, Serves}
use Rattle.tds_relay.specs.Ties.{Serving, Turns, pool_in}
use Rattle.tds_relay.specs.Queues.{Queue, queue_in}
use Rattle.tds_relay.specs.Reads.{FillsAt, Fullness, LinksStay, MayBegin, Seen, StaysAt, answer_at, bytes_on, fullness_at, link_at, open_at, open_of, opened_seen, place_of, seen_at, seen_of, waits_on}
use Rattle.tds_relay.proofs.spared.Filling.{pushed_link}
use Rattle.tds_relay.proofs.spared.Opening.{served_above}
use Rattle.tds_relay.proofs.steps.Beginning.{begin_both, begin_refl, other_answer}
use Rattle.tds_relay.proofs.steps.Fullness.{full_both, full_by, full_written}
use Rattle.tds_relay.proofs.steps.Naming.{IsAlike}
use Rattle.tds_relay.proofs.steps.Placed.{IsAt, differs_by, is_at, is_open_at, other_seen}
use Rattle.tds_relay.proofs.steps.Staying.{at_both, at_refl, fills_both, fills_refl, fills_same, fills_written, stays_both}

-- ---- What they are called

-- it is seen as it was
pub called_so : (o p : Option Seen) → StaysAt o p → StaysCalled o p
called_so o None h = tt
called_so o (Some s) h = subst (λ (x : Option Seen). StaysCalled x (Some s)) (sym h) (refl, refl)

called_refl : (o : Option Seen) → StaysCalled o o
called_refl None = tt
called_refl (Some s) = (refl, refl)

called_both : (o p q : Option Seen) → StaysCalled o p → StaysCalled p q → StaysCalled o q
called_both o p None h k = tt
called_both o None (Some s) h k = absurd k
called_both None (Some r) (Some s) h k = absurd h
called_both (Some o) (Some r) (Some s) h k = (k.0 ∙ h.0, k.1 ∙ h.1)

-- one is written back
either_called : (b : Bool) (l m : Link) (o p : Option Link) → IsAlike l m → StaysCalled (option_map seen_of o) (option_map seen_of p)
    → StaysCalled (option_map seen_of (if b then Some l else o)) (option_map seen_of (if b then Some m else p))
either_called true l m o p alike rest = alike
either_called false l m o p alike rest = rest

written_called : (ls : List Link) (i : ℕ) (d m : Link) → m.number ≡ (slice_index_or ls i d).number → IsAlike (slice_index_or ls i d) m → (n : ℕ) → StaysCalled (seen_at n ls) (seen_at n (slice_set ls i m))
written_called [] i d m number alike n = tt
written_called (x ∷ xs) zero d m number alike n =
    subst (λ (k : ℕ). StaysCalled (seen_at n (x ∷ xs)) (option_map seen_of (if k == n then Some m else link_at n xs))) (sym number)
    (either_called (x.number == n) x m (link_at n xs) (link_at n xs) alike (called_refl (seen_at n xs)))
written_called (x ∷ xs) (suc i) d m number alike n =
    either_called (x.number == n) x x (link_at n xs) (link_at n (slice_set xs i m)) (refl, refl) (written_called xs i d m number alike n)

-- ---- Which are open

closed_if : (b : Bool) (r s : Reading) → (let o : Option Reading = if b then Some r else None in o) ≡ None → (let o : Option Reading = if b then Some s else None in o) ≡ None
closed_if true r s e = absurd (let u : Some r ≡ None = e in let v : ⊥ = cc in v)
closed_if false r s e = refl

-- what isn't open isn't so behind it
pub shut_on : (o p : Option Seen) → StaysCalled o p → open_of o ≡ None → open_of p ≡ None
shut_on o None h e = refl
shut_on None (Some s) h e = absurd h
shut_on (Some r) (Some s) h e = ap (λ (b : Bool). let o : Option Reading = if b then Some s.0 else None in o) h.0 ∙ closed_if r.1 r.0 s.0 e

-- ---- Call behind call

pub given_stays : (last : ℕ) (ls ms : List Link) → LinksStay ls ms → GivenStay last Any (seen_in ls) ls ms
given_stays last ls ms stays = record {
  called = λ n le. called_so (seen_at n ls) (seen_at n ms) (stays.seen n (seen_at n ls) (at_refl (seen_at n ls)));
  seen = λ n le any. stays.seen n (seen_at n ls) (at_refl (seen_at n ls));
  begins = λ n le any. stays.begins n;
  fills = λ n le. stays.fills n;
  fullness = λ n le. stays.fullness n;
}

pub given_both : (last : ℕ) (These : ℕ → Type 0) (was : ℕ → Option Seen) (ls ms ns : List Link) → GivenStay last These was ls ms → GivenStay last Any (seen_in ms) ms ns → GivenStay last These was ls ns
given_both last These was ls ms ns h k = record {
  called = λ n le. called_both (was n) (seen_at n ms) (seen_at n ns) (h.called n le) (k.called n le);
  seen = λ n le these. at_both (was n) (seen_at n ms) (seen_at n ns) (h.seen n le these) (k.seen n le tt);
  begins = λ n le these. begin_both (answer_at n ls) (answer_at n ms) (answer_at n ns) (h.begins n le these) (k.begins n le tt);
  fills = λ n le. fills_both (waits_on n ls) (waits_on n ms) (waits_on n ns) (h.fills n le) (k.fills n le);
  fullness = λ n le. full_both (fullness_at n ls) (fullness_at n ms) (fullness_at n ns) (h.fullness n le) (k.fullness n le);
}

less_too : (n low high : ℕ) → n ≤ low → low ≤ high → n ≤ high
less_too n low high h k = omega (arith, h, k)

given_lower : (low high : ℕ) (These : ℕ → Type 0) (was : ℕ → Option Seen) (ls ms : List Link) → low ≤ high → GivenStay high These was ls ms → GivenStay low These was ls ms
given_lower low high These was ls ms rises h = record {
  called = λ n le. h.called n (less_too n low high le rises);
  seen = λ n le these. h.seen n (less_too n low high le rises) these;
  begins = λ n le these. h.begins n (less_too n low high le rises) these;
  fills = λ n le. h.fills n (less_too n low high le rises);
  fullness = λ n le. h.fullness n (less_too n low high le rises);
}

pub given_stays_on : {A E : Type 0} (r : Result A E) (last : ℕ) (ls ms ns : List Link) → LinksStay ls ms → OnOk r (LinksStay ms ns) → OnOk r (GivenStay last Any (seen_in ls) ls ns)
given_stays_on (Ok x) last ls ms ns h k = given_stays last ls ns (stays_both ls ms ns h k)
given_stays_on (Err e) last ls ms ns h k = tt

-- up to a number that was given
pub given_behind : (number : ℕ) (ls : List Link) (b c : code.Relay) → LinksStay ls b.links.items → number ≤ b.pool.service.last → KeepsGiven b c → GivenStay number Any (seen_in ls) ls c.links.items
given_behind number ls b c h low k =
    given_both number Any (seen_in ls) ls b.links.items c.links.items (given_stays number ls b.links.items h)
    (given_lower number b.pool.service.last Any (seen_in b.links.items) b.links.items c.links.items low k)

-- and then those who wait are served
pub given_then : (a b c : code.Relay) → LinksStay a.links.items b.links.items → a.pool.service.last ≤ b.pool.service.last → KeepsGiven b c → KeepsGiven a c
given_then a b c h rises k = given_behind a.pool.service.last a.links.items b c h rises k

pub given_served : {A E : Type 0} (r : Result A E) (a b c : code.Relay) → LinksStay a.links.items b.links.items → a.pool.service.last ≤ b.pool.service.last → OnOk r (KeepsGiven b c) → OnOk r (KeepsGiven a c)
given_served (Ok x) a b c h rises k = given_then a b c h rises k
given_served (Err e) a b c h rises k = tt

-- one is lent
pub above_too : (low mid number : ℕ) → low ≤ mid → mid < number → low < number
above_too low mid number h k = omega (arith, h, k)

pub given_lent : (served : Served) (start mid new : code.Relay) (e : Pool) (before after : List ℕ) → Turns Serves (pool_in mid.pool) e before after → Serving (pool_in mid.pool) (Some served) → start.pool.service.last ≤ mid.pool.service.last
    → KeepsGiven start mid → ((last : ℕ) → (served.had ≡ false → last < served.hold.number) → GivenStay last Any (seen_in mid.links.items) mid.links.items new.links.items) → KeepsGiven start new
given_lent served start mid new e before after t serving rises h k =
    let last : ℕ = start.pool.service.last in
    given_both last Any (seen_in start.links.items) start.links.items mid.links.items new.links.items h
    (k last (λ is. above_too last mid.pool.service.last served.hold.number rises (served_above served (pool_in mid.pool) e before after t serving is)))

pub given_refl : (r : code.Relay) → LinksStay r.links.items r.links.items → KeepsGiven r r
given_refl r h = given_stays r.pool.service.last r.links.items r.links.items h

-- ---- Bytes come on one

unheard_on : (number last : ℕ) (ls ms : List Link) → HearsAny number ls ms → (n : ℕ) → ElseThanHeard number ls n → ElseThanHeard number ms n
unheard_on number last ls ms h n (inl differs) = inl differs
unheard_on number last ls ms h n (inr none) =
    inr (shut_on (seen_at number ls) (seen_at number ms) ((h number).called number (omega arith)) none)

hears_both : (number : ℕ) (ls ms ns : List Link) → HearsAny number ls ms → HearsAny number ms ns → HearsAny number ls ns
hears_both number ls ms ns h k = λ last.
    let a = h last in
    let b = k last in
    record {
      called = λ n le. called_both (seen_at n ls) (seen_at n ms) (seen_at n ns) (a.called n le) (b.called n le);
      seen = λ n le these. at_both (seen_at n ls) (seen_at n ms) (seen_at n ns) (a.seen n le these) (b.seen n le (unheard_on number last ls ms h n these));
      begins = λ n le these. begin_both (answer_at n ls) (answer_at n ms) (answer_at n ns) (a.begins n le these) (b.begins n le (unheard_on number last ls ms h n these));
      fills = λ n le. fills_both (waits_on n ls) (waits_on n ms) (waits_on n ns) (a.fills n le) (b.fills n le);
      fullness = λ n le. full_both (fullness_at n ls) (fullness_at n ms) (fullness_at n ns) (a.fullness n le) (b.fullness n le);
    }

pub hears_stays : (number : ℕ) (ls ms : List Link) → LinksStay ls ms → HearsAny number ls ms
hears_stays number ls ms h = λ last.
    let k = given_stays last ls ms h in
    record { called = k.called; seen = λ n le these. k.seen n le tt; begins = λ n le these. k.begins n le tt; fills = k.fills; fullness = k.fullness }

-- one packet is heard
pub hears_next : (number : ℕ) (ls ms ns os : List Link) → HearsAny number ls ms → HearsAny number ms ns → LinksStay ns os → HearsAny number ls os
hears_next number ls ms ns os h k l = hears_both number ls ns os (hears_both number ls ms ns h k) (hears_stays number ns os l)

pub hears_served : {A E : Type 0} (r : Result A E) (number : ℕ) (a b c : code.Relay) → HearsAny number a.links.items b.links.items → a.pool.service.last ≤ b.pool.service.last → OnOk r (KeepsGiven b c) → OnOk r (HearsGiven number a c)
hears_served (Ok x) number a b c h rises k =
    let last : ℕ = a.pool.service.last in
    given_both last (ElseThanHeard number a.links.items) (seen_in a.links.items) a.links.items b.links.items c.links.items (h last)
    (given_lower last b.pool.service.last Any (seen_in b.links.items) b.links.items c.links.items rises k)
hears_served (Err e) number a b c h rises k = tt

module _ (number : ℕ) (ls : List Link) (place : ℕ) (d m : Link) (is : place_of number ls ≡ Some place) (is_open_there : (slice_index_or ls place d).is_open ≡ true) (same : m.number ≡ (slice_index_or ls place d).number) where
  at : IsAt number ls place
  at = is_at number ls place is

  apart_at : (n : ℕ) → n ≢ number → ((slice_index_or ls place d).number == n) ≡ false
  apart_at n differs = ap (λ (k : ℕ). k == n) (at.named d) ∙ differs_by (number == n) number n refl (λ e. differs (sym e))

  none_open : open_at number ls ≡ None → ⊥
  none_open none = let u : None ≡ Some (slice_index_or ls place d).reader = sym none ∙ is_open_at number ls (slice_index_or ls place d) (at.found d) is_open_there in let v : ⊥ = cc in v

  seen_by : (n : ℕ) → ElseThanHeard number ls n → StaysAt (seen_at n ls) (seen_at n (slice_set ls place m))
  seen_by n (inl differs) = subst (λ (o : Option Seen). StaysAt (seen_at n ls) o) (sym (other_seen ls place d m n same (apart_at n differs))) (at_refl (seen_at n ls))
  seen_by n (inr none) = absurd (none_open none)

  begins_by : (n : ℕ) → ElseThanHeard number ls n → MayBegin (answer_at n ls) (answer_at n (slice_set ls place m))
  begins_by n (inl differs) = subst (λ (o : Option Answer). MayBegin (answer_at n ls) o) (sym (other_answer ls place d m n same (apart_at n differs))) (begin_refl (answer_at n ls))
  begins_by n (inr none) = absurd (none_open none)

  pub hears_written : m.is_open ≡ (slice_index_or ls place d).is_open → m.tag ≡ (slice_index_or ls place d).tag → queue_in m.out ≡ queue_in (slice_index_or ls place d).out → HearsAny number ls (slice_set ls place m)
  hears_written is_open tag queue = λ last. record {
    called = λ n le. written_called ls place d m same (is_open, tag) n;
    seen = λ n le these. seen_by n these;
    begins = λ n le these. begins_by n these;
    fills = λ n le. fills_written ls place d m same (fills_same (bytes_on (slice_index_or ls place d)) (bytes_on m) (ap (λ (p : Queue). p.bytes) queue)) n;
    fullness = λ n le. full_written ls place d m same (ap full_by queue) n;
  }

-- ---- One is put behind them

pub above : (last n number : ℕ) → last < number → n ≤ last → number ≢ n
above last n number lt le = λ e. let u : ⊥ = omega (arith, lt, le, e) in u

pub given_pushed : (last : ℕ) (ls : List Link) (l : Link) → last < l.number → GivenStay last Any (seen_in ls) ls (ls ++ l ∷ [])
given_pushed last ls l lt =
    let same : (n : ℕ) → n ≤ last → link_at n ls ≡ link_at n (ls ++ l ∷ []) = λ n le. sym (pushed_link n l ls (above last n l.number lt le)) in
    record {
      called = λ n le. subst (λ (o : Option Link). StaysCalled (seen_at n ls) (option_map seen_of o)) (same n le) (called_refl (seen_at n ls));
      seen = λ n le any. subst (λ (o : Option Link). StaysAt (seen_at n ls) (option_map seen_of o)) (same n le) (at_refl (seen_at n ls));
      begins = λ n le any. subst (λ (o : Option Link). MayBegin (answer_at n ls) (option_map (λ (x : Link). x.answer) o)) (same n le) (begin_refl (answer_at n ls));
      fills = λ n le. subst (λ (o : Option Link). FillsAt (waits_on n ls) (option_map bytes_on o)) (same n le) (fills_refl (waits_on n ls));
      fullness = λ n le. subst (λ (o : Option Link). StaysAt (fullness_at n ls) (option_map (λ (x : Link). let f : Fullness = ((queue_in x.out).size, (queue_in x.out).is_full) in f) o)) (same n le) (at_refl (fullness_at n ls));
    }

pub given_by_push : (last number : ℕ) (ls ms : List Link) (l : Link) → ms ≡ ls ++ l ∷ [] → l.number ≡ number → last < number → GivenStay last Any (seen_in ls) ls ms
given_by_push last number ls ms l pushed is lt =
    subst (λ (xs : List Link). GivenStay last Any (seen_in ls) ls xs) (sym pushed) (given_pushed last ls l (subst (λ (n : ℕ). last < n) (sym is) lt))

-- ---- One is opened

pub given_opened : {A E : Type 0} (r : Result A E) (number : ℕ) (a b c d : code.Relay) → ((other : ℕ) → seen_at other b.links.items ≡ opened_seen number other a.links.items)
    → ((other : ℕ) → waits_on other b.links.items ≡ waits_on other a.links.items) → ((other : ℕ) → answer_at other b.links.items ≡ answer_at other a.links.items)
    → ((other : ℕ) → fullness_at other b.links.items ≡ fullness_at other a.links.items) → LinksStay b.links.items c.links.items → a.pool.service.last ≤ c.pool.service.last → OnOk r (KeepsGiven c d) → OnOk r (OpensGiven number a d)
given_opened (Ok x) number a b c d seen waits answers full h rises k =
    let last : ℕ = a.pool.service.last in
    let both : GivenStay last Any (seen_in b.links.items) b.links.items d.links.items =
    given_both last Any (seen_in b.links.items) b.links.items c.links.items d.links.items (given_stays last b.links.items c.links.items h)
    (given_lower last c.pool.service.last Any (seen_in c.links.items) c.links.items d.links.items rises k) in
    record {
      called = λ n le. subst (λ (o : Option Seen). StaysCalled o (seen_at n d.links.items)) (seen n) (both.called n le);
      seen = λ n le any. subst (λ (o : Option Seen). StaysAt o (seen_at n d.links.items)) (seen n) (both.seen n le tt);
      begins = λ n le any. subst (λ (o : Option Answer). MayBegin o (answer_at n d.links.items)) (answers n) (both.begins n le tt);
      fills = λ n le. subst (λ (o : Option (List ℕ)). FillsAt o (waits_on n d.links.items)) (waits n) (both.fills n le);
      fullness = λ n le. subst (λ (o : Option Fullness). StaysAt o (fullness_at n d.links.items)) (full n) (both.fullness n le);
    }
given_opened (Err e) number a b c d seen waits answers full h rises k = tt
