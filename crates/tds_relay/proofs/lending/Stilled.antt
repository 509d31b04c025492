-- Connections that aren't open, on which nothing is put.
use Rattle.std.proofs.Common.{◌≡◌, ◌≢◌, ◌⊎◌, ◌∙◌, ◌≤◌, ◌<◌, ◌++◌, ℕ, false, List, [], ◌∷◌, Option, Some, None, inl, inr, refl, sym, ap, subst, arith, append-nil, option_map}
use Rattle.std.proofs.lemmas.Bool.{cases_eq}
use Rattle.std.specs.Prelude.{Result, Ok, Err, OnOk}
use Rattle.tds_relay.specs.declared.link.Link.{Link}
use Rattle.tds_relay.specs.declared.pool.Served.{Served}
use Rattle.tds_relay.specs.declared.pool.coming.Heard.{Heard}
use Rattle.tds_relay.specs.declared.pool.coming.What.TheVariants as whats
use Rattle.tds_relay.specs.declared.relay.Relay as code
use Rattle.tds_relay.specs.Lent.{Any, HearsAny, KeepsGiven, ShutElse, ShutGiven, ShutRest, ShutStay}
use Rattle.tds_relay.specs.Handing.{heard_key}
use Rattle.tds_relay.specs.Machine.{Machine}
use Rattle.tds_relay.specs.Reasons.{HearsNothing, IsHeardAs, IsIdle}
use Rattle.tds_relay.specs.Waiting.{RestsElse}
use Rattle.tds_relay.specs.Pool.{Pool, Serves}
use Rattle.tds_relay.specs.Reads.{FillsBy, LinksStay, bytes_on, link_at, open_at, seen_at, waits_on}
use Rattle.tds_relay.specs.Sending.{NamedWaiting, sending_at, sending_of}
use Rattle.tds_relay.specs.Ties.{Serving, Turns, pool_in}
use Rattle.tds_relay.proofs.lending.Dialled.{above, above_too, called_so, shut_on}
use Rattle.tds_relay.proofs.spared.Filling.{pushed_link, waits_queued}
use Rattle.tds_relay.proofs.spared.Opening.{served_above}
use Rattle.tds_relay.proofs.spared.Only.{none_key}
use Rattle.tds_relay.proofs.steps.Placed.{is_open_at}
use Rattle.tds_relay.proofs.steps.Staying.{at_refl}

-- ---- Call behind call

abbrev Waits : ℕ → List Link → List Link → Type 0
Waits n ls ms = (waits_on n ms ≡ None) ⊎ (waits_on n ms ≡ waits_on n ls)

waits_both : (n : ℕ) (ls ms ns : List Link) → Waits n ls ms → Waits n ms ns → Waits n ls ns
waits_both n ls ms ns h (inl none) = inl none
waits_both n ls ms ns (inl none) (inr same) = inl (same ∙ none)
waits_both n ls ms ns (inr was) (inr same) = inr (same ∙ was)

pub still_refl : (These : ℕ → Type 0) (ls : List Link) → ShutStay These ls ls
still_refl These ls = record { stays = λ n these none. inr refl }

pub still_same : (These : ℕ → Type 0) (ls ms : List Link) → ((n : ℕ) → These n → waits_on n ms ≡ waits_on n ls) → ShutStay These ls ms
still_same These ls ms same = record { stays = λ n these none. inr (same n these) }

pub still_links : (These : ℕ → Type 0) (ls ms : List Link) → ms ≡ ls → ShutStay These ls ms
still_links These ls ms e = still_same These ls ms (λ n these. ap (waits_on n) e)

still_rest : (These : ℕ → Type 0) (ls ms : List Link) → ShutRest ls ms → ShutStay These ls ms
still_rest These ls ms h = record { stays = λ n these none. waits_queued n ls ms (inr (h.rest n none)) }

shut_stays : (ls ms : List Link) → LinksStay ls ms → (n : ℕ) → open_at n ls ≡ None → open_at n ms ≡ None
shut_stays ls ms h n none = shut_on (seen_at n ls) (seen_at n ms) (called_so (seen_at n ls) (seen_at n ms) (h.seen n (seen_at n ls) (at_refl (seen_at n ls)))) none

still_by : (These : ℕ → Type 0) (ls ms ns : List Link) → ((n : ℕ) → These n → open_at n ls ≡ None → open_at n ms ≡ None) → ShutStay These ls ms → ShutStay These ms ns → ShutStay These ls ns
still_by These ls ms ns shut h k = record { stays = λ n these none. waits_both n ls ms ns (h.stays n these none) (k.stays n these (shut n these none)) }

pub still_both : (These : ℕ → Type 0) (ls ms ns : List Link) → LinksStay ls ms → ShutStay These ls ms → ShutStay These ms ns → ShutStay These ls ns
still_both These ls ms ns stays h k = still_by These ls ms ns (λ n these none. shut_stays ls ms stays n none) h k

pub still_on : {A E : Type 0} (r : Result A E) (These : ℕ → Type 0) (ls ms ns : List Link) → LinksStay ls ms → ShutStay These ls ms → OnOk r (ShutStay These ms ns) → OnOk r (ShutStay These ls ns)
still_on (Ok x) These ls ms ns stays h k = still_both These ls ms ns stays h k
still_on (Err e) These ls ms ns stays h k = tt

pub still_then : {A E : Type 0} (r : Result A E) (These : ℕ → Type 0) (ls ms ns : List Link) → ShutStay These ls ms → OnOk r (ns ≡ ms) → OnOk r (ShutStay These ls ns)
still_then (Ok x) These ls ms ns h e = subst (λ (xs : List Link). ShutStay These ls xs) (sym e) h
still_then (Err x) These ls ms ns h e = tt

-- this one is closed
pub still_off : {A E : Type 0} (r : Result A E) (number : ℕ) (ls ms : List Link) → OnOk r ((other : ℕ) → other ≢ number → waits_on other ms ≡ waits_on other ls) → OnOk r (ShutElse number ls ms)
still_off (Ok x) number ls ms same = still_same (λ (other : ℕ). other ≢ number) ls ms same
still_off (Err x) number ls ms same = tt

-- what goes out by it is sent
pub sent_still : (number : ℕ) (ls ms ns : List Link) → ms ≡ ls → ((other : ℕ) → other ≢ number → waits_on other ns ≡ waits_on other ms) → ShutElse number ls ns
sent_still number ls ms ns e same = still_same (λ (other : ℕ). other ≢ number) ls ns (λ n differs. same n differs ∙ ap (waits_on n) e)

pub rests_all : (heard : Option Heard) (number : ℕ) (ls ms : List Link) → ((other : ℕ) → other ≢ number → waits_on other ms ≡ waits_on other ls) → RestsElse heard number ls ms
rests_all heard number ls ms same = record { same = λ not. same; still = still_same (λ (other : ℕ). other ≢ number) ls ms same }

pub rests_still : {A E : Type 0} (r : Result A E) (heard : Heard) (number : ℕ) (ls ms : List Link) → heard.what ≡ whats.Acknowledged → OnOk r (ShutElse number ls ms) → OnOk r (RestsElse (Some heard) number ls ms)
rests_still (Ok x) heard number ls ms is h = record { same = λ not. absurd (not is); still = h }
rests_still (Err x) heard number ls ms is h = tt

-- what was kept is asked
pub still_asked : {A E : Type 0} (r : Result A E) (These : ℕ → Type 0) (ls ms ns : List Link) → LinksStay ls ms → ((n : ℕ) → waits_on n ms ≡ waits_on n ls) → OnOk r (ShutRest ms ns) → OnOk r (ShutStay These ls ns)
still_asked (Ok x) These ls ms ns stays same h = still_both These ls ms ns stays (still_same These ls ms (λ n these. same n)) (still_rest These ms ns h)
still_asked (Err e) These ls ms ns stays same h = tt

-- ---- Bytes come

waiting_of : (o p : Option Link) → option_map sending_of p ≡ option_map sending_of o → option_map bytes_on p ≡ option_map bytes_on o
waiting_of None None e = refl
waiting_of None (Some m) e = absurd (let u : ⊥ = cc in u)
waiting_of (Some l) None e = absurd (let u : ⊥ = cc in u)
waiting_of (Some l) (Some m) e = (let u : Some (sending_of m) ≡ Some (sending_of l) = e in let v : sending_of m ≡ sending_of l = cc in ap (λ (s : NamedWaiting). Some s.1) v)

pub still_heard : (These : ℕ → Type 0) (ls ms : List Link) → ((n : ℕ) → sending_at n ms ≡ sending_at n ls) → ShutStay These ls ms
still_heard These ls ms same = still_same These ls ms (λ n these. waiting_of (link_at n ls) (link_at n ms) (same n))

shut_hears : (number : ℕ) (ls ms : List Link) → HearsAny number ls ms → (n : ℕ) → open_at n ls ≡ None → open_at n ms ≡ None
shut_hears number ls ms h n none = shut_on (seen_at n ls) (seen_at n ms) ((h n).called n (let le : n ≤ n = omega arith in le)) none

never_open : (number : ℕ) (left : List ℕ) (o : Option Heard) (a : code.Relay) (new : Machine) → IsHeardAs number left o a new → open_at number a.links.items ≢ None
never_open number left o a new heard none =
    let there : open_at number a.links.items ≡ Some heard.link.reader = is_open_at number a.links.items heard.link heard.there heard.is_open in
    let u : None ≡ Some heard.link.reader = sym none ∙ there in
    let v : ⊥ = cc in v

nothing_more : (out : List ℕ) (x y : Option (List ℕ)) → out ≡ [] → FillsBy out x y → (y ≡ None) ⊎ (y ≡ x)
nothing_more out x None none f = inl refl
nothing_more out None (Some new) none f = absurd f
nothing_more out (Some old) (Some new) none f = inr (ap Some (f ∙ ap (λ (xs : List ℕ). old ++ xs) none ∙ append-nil old))

-- where the connection isn't open, nothing was heard of the packet, and nothing is put there by it
module _ (number : ℕ) (left : List ℕ) (o : Option Heard) (ls : List Link) (a b c : code.Relay) (new : Machine) (before : HearsAny number ls a.links.items) (by : HearsAny number a.links.items b.links.items) (h : ShutStay Any ls a.links.items) (k : ShutStay Any a.links.items b.links.items) (hears : (HearsNothing o × IsIdle a b) ⊎ IsHeardAs number left o a new) (others : RestsElse o number b.links.items c.links.items) (fills : heard_key o ≡ None → FillsBy b.outbox.items (waits_on number b.links.items) (waits_on number c.links.items)) where
  rests_itself : (HearsNothing o × IsIdle a b) ⊎ IsHeardAs number left o a new → open_at number a.links.items ≡ None → Waits number b.links.items c.links.items
  rests_itself (inl none) shut = nothing_more b.outbox.items (waits_on number b.links.items) (waits_on number c.links.items) none.1.1 (fills (none_key o none.0))
  rests_itself (inr heard) shut = absurd (never_open number left o a new heard shut)

  rests_on : (n : ℕ) → (n ≡ number) ⊎ (n ≢ number) → open_at n a.links.items ≡ None → open_at n b.links.items ≡ None → Waits n b.links.items c.links.items
  rests_on n (inl same) shut next = subst (λ (m : ℕ). Waits m b.links.items c.links.items) (sym same) (rests_itself hears (subst (λ (m : ℕ). open_at m a.links.items ≡ None) same shut))
  rests_on n (inr differs) shut next = others.still.stays n differs next

  pub still_next : ShutStay Any ls c.links.items
  still_next = record {
    stays = λ n any none.
        let shut = shut_hears number ls a.links.items before n none in
        let next = shut_hears number a.links.items b.links.items by n shut in
        waits_both n ls a.links.items c.links.items (h.stays n any none)
        (waits_both n a.links.items b.links.items c.links.items (k.stays n any shut) (rests_on n (cases_eq n number) shut next));
  }

pub still_served : {A E : Type 0} (r : Result A E) (number : ℕ) (a b c : code.Relay) → HearsAny number a.links.items b.links.items → ShutStay Any a.links.items b.links.items → a.pool.service.last ≤ b.pool.service.last → OnOk r (ShutGiven b c)
    → OnOk r (ShutGiven a c)
still_served (Ok x) number a b c hears h rises k = record {
  stays = λ n le none.
      let low : n ≤ a.pool.service.last = le in
      let up : n ≤ b.pool.service.last = omega (arith, low, rises) in
      waits_both n a.links.items b.links.items c.links.items (h.stays n tt none) (k.stays n up (shut_hears number a.links.items b.links.items hears n none));
}
still_served (Err e) number a b c hears h rises k = tt

-- ---- One is lent

pub still_pushed : (last number : ℕ) (ls ms : List Link) (l : Link) → ms ≡ ls ++ l ∷ [] → l.number ≡ number → last < number → ShutStay (λ (n : ℕ). n ≤ last) ls ms
still_pushed last number ls ms l pushed is lt =
    still_same (λ (n : ℕ). n ≤ last) ls ms
    (λ n le. ap (waits_on n) pushed ∙ ap (option_map bytes_on) (pushed_link n l ls (λ e. above last n number lt le (sym is ∙ e))))

pub still_lent : (served : Served) (start mid new : code.Relay) (e : Pool) (before after : List ℕ) → Turns Serves (pool_in mid.pool) e before after → Serving (pool_in mid.pool) (Some served) → start.pool.service.last ≤ mid.pool.service.last
    → KeepsGiven start mid → ShutGiven start mid → ((last : ℕ) → (served.had ≡ false → last < served.hold.number) → ShutStay (λ (n : ℕ). n ≤ last) mid.links.items new.links.items) → ShutGiven start new
still_lent served start mid new e before after t serving rises given h k =
    let low : served.had ≡ false → start.pool.service.last < served.hold.number = λ is.
    above_too start.pool.service.last mid.pool.service.last served.hold.number rises (served_above served (pool_in mid.pool) e before after t serving is) in
    still_by (λ (n : ℕ). n ≤ start.pool.service.last) start.links.items mid.links.items new.links.items
    (λ n le none. shut_on (seen_at n start.links.items) (seen_at n mid.links.items) (given.called n le) none) h (k start.pool.service.last low)
