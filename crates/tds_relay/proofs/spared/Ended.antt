-- The same of single steps that give or close.
use Rattle.std.proofs.Common.{◌≡◌, ◌≢◌, ◌⊎◌, ◌∙◌, ℕ, zero, suc, Bool, true, false, List, [], ◌∷◌, ◌++◌, Option, Some, None, inl, inr, refl, sym, ap, subst, option_map, slice_index_or, if◌then◌else◌}
use Rattle.std.specs.Prelude.{Result, Ok, Err, OnOk}
use Rattle.std.proofs.lemmas.Bool.{cases_eq}
use Rattle.std.proofs.lemmas.List.{get_or-set_other}
use Rattle.std.proofs.Math.ListN.{get_or-map}
use Rattle.slab.specs.Slab.{Slab, get}
use Rattle.tds_relay.specs.declared.application.Application.{Application}
use Rattle.tds_relay.specs.declared.link.Link.{Link}
use Rattle.tds_relay.specs.declared.order.Order.{Order}
use Rattle.tds_relay.specs.declared.order.Order.TheVariants as orders
use Rattle.tds_relay.specs.declared.relay.Relay as code
use Rattle.tds_relay.specs.Closings.{AConnection, AnApplication, ClosesOnce, ClosesOnly, IsDue, IsToWriteAll, Itself, OfApplication, OfConnection, Register, IsOneCalled, Named, is_shut, name_in_register, name_with, open_name, register_in, times_closed}
use Rattle.tds_relay.specs.Fronts.{own_end, ends_in}
use Rattle.tds_relay.specs.Core.{End, EndList, Open, Over, change_end, end_at}
use Rattle.tds_relay.specs.Ordering.{IsOrdered, StayOrdered}
use Rattle.tds_relay.specs.Queues.{HasAll, Queue, Queues, names_in, names_of, queue_at, queue_of, queues_in}
use Rattle.tds_relay.specs.Reads.{HoldsOnLinks, seen_at, without_link}
use Rattle.tds_relay.specs.Sending.{IsWritten, NamedWaiting, called_at, name_in, sending_at, sending_of}
use Rattle.tds_relay.specs.Taking.{IsDeaf}
use Rattle.tds_relay.specs.Waking.{IsWoken}
use Rattle.tds_relay.proofs.spared.Once.{once_as, ordered_once, same_named, were_named}
use Rattle.tds_relay.proofs.spared.Ordered.{ordered_same}
use Rattle.tds_relay.proofs.spared.Sending.{ordered_last, ordered_or_last, taken_link}
use Rattle.tds_relay.proofs.spared.Waits.{left_link}
use Rattle.tds_relay.proofs.spared.Shutting.{end_is, same_names, shut_stays}
use Rattle.tds_relay.specs.Places.{is_closed, own_fault, own_reset, took_back}

-- ---- What is put for an application

woken_by : (o : Option End) (name : Option (Option ℕ)) (tag : ℕ) (queue : Option Queue) (all : List Order) → name ≡ Some (Some tag) → HasAll queue → IsOrdered (orders.Write tag) all → IsToWriteAll (name_with o name) queue all
woken_by None name tag queue all is has w = tt
woken_by (Some (Open front withdrawn asks)) name tag queue all is has w = subst (λ (n : Option (Option ℕ)). IsToWriteAll (name_with (Some (Open front withdrawn asks)) n) queue all) (sym is) (has, w)
woken_by (Some (Over why)) name tag queue all is has w = tt

deaf_name : (o : Option End) (name : Option (Option ℕ)) (queue : Option Queue) (all : List Order) → IsDeaf o → IsToWriteAll (name_with o name) queue all
deaf_name None name queue all deaf = tt
deaf_name (Some (Open front withdrawn asks)) name queue all deaf = absurd deaf
deaf_name (Some (Over why)) name queue all deaf = tt

pub woken_writes : (key : ℕ) (s : Slab Application) (all : List Order) → IsWoken key s all → IsToWriteAll (name_with (end_at (ends_in s) key) (slice_index_or (names_of (queues_in s)) key None)) (queue_at (queues_in s) key) all
woken_writes key s all (inl deaf) = deaf_name (end_at (ends_in s) key) (slice_index_or (names_of (queues_in s)) key None) (queue_at (queues_in s) key) all deaf
woken_writes key s all (inr w) = woken_by (end_at (ends_in s) key) (slice_index_or (names_of (queues_in s)) key None) w.0 (queue_at (queues_in s) key) all w.1 w.3 (record { before = w.2.0; behind = w.2.1; are = w.2.2 })

given_writes : (key other : ℕ) (a b c : Queues) (Woken : ℕ → Type 0) → ((k : ℕ) → k ≢ key → queue_at b k ≡ queue_at a k) → Woken key → (other ≡ key) ⊎ (other ≢ key)
    → (queue_at c other ≡ queue_at b other) ⊎ Woken other → (queue_at c other ≡ queue_at a other) ⊎ Woken other
given_writes key other a b c Woken others w is (inr u) = inr u
given_writes key other a b c Woken others w (inl same) (inl e) = inr (subst Woken (sym same) w)
given_writes key other a b c Woken others w (inr differs) (inl e) = inl (e ∙ others other differs)

given_due : (May : ℕ → Type 0) (tag : ℕ) (a b c : Register) → ((key : ℕ) → open_name key b ≡ open_name key a) → b.links ≡ a.links → IsDue May tag b c → IsDue May tag a c
given_due May tag a b c names links (OfApplication key may was gone) = OfApplication key may (sym (names key) ∙ was) gone
given_due May tag a b c names links (OfConnection number was gone) = OfConnection number (ap (called_at number) (sym links) ∙ was) gone

given_was : (May : ℕ → Type 0) (tag : ℕ) (a b c : Register) → ((key : ℕ) → open_name key b ≡ open_name key a) → b.links ≡ a.links → b.orders ≡ a.orders → IsOrdered (orders.Close tag) b.orders ⊎ IsDue May tag b c
    → IsOrdered (orders.Close tag) a.orders ⊎ IsDue May tag a c
given_was May tag a b c names links are (inl o) = inl (subst (IsOrdered (orders.Close tag)) are o)
given_was May tag a b c names links are (inr d) = inr (given_due May tag a b c names links d)

-- and it is woken behind that
pub closes_given : (May : ℕ → Type 0) (key : ℕ) (a b c : Register) → b.ends ≡ a.ends → names_of b.queues ≡ names_of a.queues → ((k : ℕ) → k ≢ key → queue_at b.queues k ≡ queue_at a.queues k) → b.kept ≡ a.kept → b.links ≡ a.links
    → b.orders ≡ a.orders → ClosesOnly May b c → IsToWriteAll (open_name key c) (queue_at c.queues key) c.orders → ClosesOnly May a c
closes_given May key a b c ends names others told links are h w =
    let same : (k : ℕ) → open_name k b ≡ open_name k a =
    λ k. ap (λ (es : EndList). name_with (end_at es k) (slice_index_or (names_of b.queues) k None)) ends
    ∙ ap (λ (ns : List (Option (Option ℕ))). name_with (end_at a.ends k) (slice_index_or ns k None)) names in
    record {
      ordered = subst (λ (xs : List Order). StayOrdered xs c.orders) are h.ordered;
      told = h.told ∙ told;
      closes = λ k tag e. h.closes k tag (same k ∙ e);
      opens = λ number e. subst (λ (ls : List Link). (is_shut (seen_at number ls) ≡ true) ⊎ IsOrdered (orders.Open number) c.orders) links (h.opens number e);
      cuts = λ number tag e. h.cuts number tag (ap (called_at number) links ∙ e);
      due = λ tag o. given_was May tag a b c same links are (h.due tag o);
      once = λ tag one. once_as tag b c a c (same_named b a (λ k. sym (same k)) (λ number. ap (called_at number) (sym links))) (λ x. refl) (sym are) refl (h.once tag) one;
      writes = λ k. given_writes key k a.queues b.queues c.queues (λ (n : ℕ). IsToWriteAll (open_name n c) (queue_at c.queues n) c.orders) others w (cases_eq k key) (h.writes k);
      writes_on = λ number. subst (λ (ls : List Link). (sending_at number c.links ≡ sending_at number ls) ⊎ IsWritten (sending_at number c.links) c.orders) links (h.writes_on number);
      were_open = λ k tag e. sym (same k) ∙ h.were_open k tag e;
      were_called = λ number tag e. ap (called_at number) (sym links) ∙ h.were_called number tag e;
    }

pub closes_given_on : {A E : Type 0} (r : Result A E) (May : ℕ → Type 0) (key : ℕ) (a b c : Register) → b.ends ≡ a.ends → names_of b.queues ≡ names_of a.queues → ((k : ℕ) → k ≢ key → queue_at b.queues k ≡ queue_at a.queues k)
    → b.kept ≡ a.kept → b.links ≡ a.links → b.orders ≡ a.orders → OnOk r (ClosesOnly May b c) → OnOk r (IsToWriteAll (open_name key c) (queue_at c.queues key) c.orders) → OnOk r (ClosesOnly May a c)
closes_given_on (Ok x) May key a b c ends names others told links are h w = closes_given May key a b c ends names others told links are h w
closes_given_on (Err e) May key a b c ends names others told links are h w = tt

-- ---- A connection is taken out

abbrev pub cutting : Option ℕ → List Order → List Order
cutting None all = all
cutting (Some tag) all = all ++ orders.Close tag ∷ []

left_sends : (number other : ℕ) (ls : List Link) → (other ≡ number) ⊎ (other ≢ number) → (sending_at other (without_link number ls) ≡ sending_at other ls) ⊎ (sending_at other (without_link number ls) ≡ None)
left_sends number other ls (inl same) = inr (subst (λ (n : ℕ). sending_at n (without_link number ls) ≡ None) (sym same) (ap (option_map sending_of) (taken_link number ls)))
left_sends number other ls (inr differs) = inl (ap (option_map sending_of) (left_link number other ls differs))

cut_called : (o p : Option NamedWaiting) (tag : ℕ) → (p ≡ o) ⊎ (p ≡ None) → name_in p ≡ Some tag → name_in o ≡ Some tag
cut_called o p tag (inl same) e = ap name_in (sym same) ∙ e
cut_called o p tag (inr none) e = absurd (let u : None ≡ Some tag = ap name_in (sym none) ∙ e in let v : ⊥ = cc in v)

cut_sends : (o p : Option NamedWaiting) (all : List Order) → (p ≡ o) ⊎ (p ≡ None) → (p ≡ o) ⊎ IsWritten p all
cut_sends o p all (inl same) = inl same
cut_sends o p all (inr none) = inr (subst (λ (s : Option NamedWaiting). IsWritten s all) (sym none) tt)

cut_ordered : (o : Option ℕ) (tag : ℕ) (a b : List Order) → b ≡ cutting o a → o ≡ Some tag → IsOrdered (orders.Close tag) b
cut_ordered None tag a b are e = absurd (let v : ⊥ = cc in v)
cut_ordered (Some t) tag a b are e =
    let same : t ≡ tag = cc in
    ordered_last (orders.Close tag) a b (are ∙ ap (λ (n : ℕ). a ++ orders.Close n ∷ []) same)

cuts_one : (number other tag : ℕ) (ls : List Link) (a b : List Order) → b ≡ cutting (called_at number ls) a → called_at other ls ≡ Some tag → (other ≡ number) ⊎ (other ≢ number)
    → (called_at other (without_link number ls) ≡ Some tag) ⊎ IsOrdered (orders.Close tag) b
cuts_one number other tag ls a b are e (inl same) = inr (cut_ordered (called_at number ls) tag a b are (ap (λ (n : ℕ). called_at n ls) (sym same) ∙ e))
cuts_one number other tag ls a b are e (inr differs) = inl (ap (λ (o : Option Link). name_in (option_map sending_of o)) (left_link number other ls differs) ∙ e)

cut_last : (t tag : ℕ) (a : List Order) → IsOrdered (orders.Close tag) a ⊎ (orders.Close tag ≡ orders.Close t) → IsOrdered (orders.Close tag) a ⊎ (Some t ≡ Some tag)
cut_last t tag a (inl o) = inl o
cut_last t tag a (inr e) = inr (let same : tag ≡ t = cc in ap (λ (n : ℕ). Some n) (sym same))

cut_or : (o : Option ℕ) (tag : ℕ) (a b : List Order) → b ≡ cutting o a → IsOrdered (orders.Close tag) b → IsOrdered (orders.Close tag) a ⊎ (o ≡ Some tag)
cut_or None tag a b are x = inl (subst (IsOrdered (orders.Close tag)) are x)
cut_or (Some t) tag a b are x = cut_last t tag a (ordered_or_last (orders.Close tag) (orders.Close t) a b are x)

cut_due : (May : ℕ → Type 0) (number tag : ℕ) (a b : Register) → b.links ≡ without_link number a.links → IsOrdered (orders.Close tag) a.orders ⊎ (called_at number a.links ≡ Some tag)
    → IsOrdered (orders.Close tag) a.orders ⊎ IsDue May tag a b
cut_due May number tag a b links (inl o) = inl o
cut_due May number tag a b links (inr e) = inr (OfConnection number e (ap (called_at number) links ∙ ap (λ (o : Option Link). name_in (option_map sending_of o)) (taken_link number a.links)))

cut_stays : (o : Option ℕ) (a b : List Order) → b ≡ cutting o a → StayOrdered a b
cut_stays None a b are = ordered_same a b are
cut_stays (Some t) a b are = (orders.Close t ∷ [], are)

cut_once : (o : Option ℕ) (number tag : ℕ) (a b : Register) → called_at number a.links ≡ o → b.orders ≡ cutting o a.orders → called_at number b.links ≡ None
    → ((x : Named) → name_in_register x b ≡ Some tag → name_in_register x a ≡ Some tag) → IsOneCalled tag a → ClosesOnce tag a b
cut_once None number tag a b is are gone were one = inl (ap (times_closed tag) are)
cut_once (Some t) number tag a b is are gone were one = ordered_once tag t (AConnection number) a b are is gone were one

pub closes_removed : (May : ℕ → Type 0) (number : ℕ) (a b : Register) → b.ends ≡ a.ends → b.queues ≡ a.queues → b.kept ≡ a.kept → b.links ≡ without_link number a.links → HoldsOnLinks a.links b.links
    → b.orders ≡ cutting (called_at number a.links) a.orders → ClosesOnly May a b
closes_removed May number a b ends queues told links sees are =
    let by : (other : ℕ) → (sending_at other b.links ≡ sending_at other a.links) ⊎ (sending_at other b.links ≡ None) =
    λ other. subst (λ (ls : List Link). (sending_at other ls ≡ sending_at other a.links) ⊎ (sending_at other ls ≡ None)) (sym links) (left_sends number other a.links (cases_eq other number)) in
    record {
      ordered = cut_stays (called_at number a.links) a.orders b.orders are;
      told = told;
      closes = λ key tag e. inl (same_names a b ends queues key ∙ e);
      opens = λ other e. inl (shut_stays a.links b.links sees other e);
      cuts = λ other tag e. subst (λ (ls : List Link). (called_at other ls ≡ Some tag) ⊎ IsOrdered (orders.Close tag) b.orders) (sym links) (cuts_one number other tag a.links a.orders b.orders are e (cases_eq other number));
      due = λ tag o. cut_due May number tag a b links (cut_or (called_at number a.links) tag a.orders b.orders are o);
      once = λ tag one.
          cut_once (called_at number a.links) number tag a b refl are (ap (called_at number) links ∙ ap (λ (o : Option Link). name_in (option_map sending_of o)) (taken_link number a.links))
          (were_named a b tag (λ key e. sym (same_names a b ends queues key) ∙ e) (λ other e. cut_called (sending_at other a.links) (sending_at other b.links) tag (by other) e)) one;
      writes = λ key. inl (ap (λ (ps : Queues). queue_at ps key) queues);
      writes_on = λ other. cut_sends (sending_at other a.links) (sending_at other b.links) b.orders (by other);
      were_open = λ key tag e. sym (same_names a b ends queues key) ∙ e;
      were_called = λ other tag e. cut_called (sending_at other a.links) (sending_at other b.links) tag (by other) e;
    }

-- ---- An application is closed

over_in : (by : End → End) → ((e : End) (n : Option (Option ℕ)) → name_with (Some (by e)) n ≡ None) → (key : ℕ) (es : EndList) (n : Option (Option ℕ)) → (end_at es key ≡ None → ⊥) → name_with (end_at (change_end key by es) key) n ≡ None
over_in by over key [] n there = absurd (there refl)
over_in by over zero (None ∷ es) n there = absurd (there refl)
over_in by over zero (Some e ∷ es) n there = over e n
over_in by over (suc key) (e ∷ es) n there = over_in by over key es n there

ended_name : (key other : ℕ) (by : End → End) (old b : Register) → b.ends ≡ change_end key by old.ends → b.queues ≡ old.queues → other ≢ key → open_name other b ≡ open_name other old
ended_name key other by old b ends queues differs =
    ap (λ (es : EndList). name_with (end_at es other) (slice_index_or (names_of b.queues) other None)) ends
    ∙ ap (λ (o : Option End). name_with o (slice_index_or (names_of b.queues) other None)) (get_or-set_other old.ends key other (option_map by (end_at old.ends key)) None differs)
    ∙ ap (λ (ps : Queues). name_with (end_at old.ends other) (slice_index_or (names_of ps) other None)) queues

ended_closes : (key other tag named : ℕ) (old b : Register) (all : List Order) → b.orders ≡ all ++ orders.Close named ∷ [] → open_name key old ≡ Some named → ((k : ℕ) → k ≢ key → open_name k b ≡ open_name k old)
    → (other ≡ key) ⊎ (other ≢ key) → open_name other old ≡ Some tag → (open_name other b ≡ Some tag) ⊎ (Itself key other × IsOrdered (orders.Close tag) b.orders)
ended_closes key other tag named old b all are its others (inr differs) e = inl (others other differs ∙ e)
ended_closes key other tag named old b all are its others (inl same) e =
    let is : Some named ≡ Some tag = sym its ∙ ap (λ (k : ℕ). open_name k old) (sym same) ∙ e in
    let one : named ≡ tag = cc in
    inr (same, ordered_last (orders.Close tag) all b.orders (are ∙ ap (λ (n : ℕ). all ++ orders.Close n ∷ []) one))

ended_due : (key tag named : ℕ) (old b : Register) → open_name key old ≡ Some named → open_name key b ≡ None → IsOrdered (orders.Close tag) old.orders ⊎ (orders.Close tag ≡ orders.Close named)
    → IsOrdered (orders.Close tag) old.orders ⊎ IsDue (Itself key) tag old b
ended_due key tag named old b its gone (inl o) = inl o
ended_due key tag named old b its gone (inr e) =
    let one : tag ≡ named = cc in
    inr (OfApplication key refl (its ∙ ap (λ (n : ℕ). Some n) (sym one)) gone)

ended_open : (key other tag : ℕ) (old b : Register) → open_name key b ≡ None → ((k : ℕ) → k ≢ key → open_name k b ≡ open_name k old) → (other ≡ key) ⊎ (other ≢ key) → open_name other b ≡ Some tag → open_name other old ≡ Some tag
ended_open key other tag old b gone others (inl same) e = absurd (let u : None ≡ Some tag = sym gone ∙ ap (λ (k : ℕ). open_name k b) (sym same) ∙ e in let v : ⊥ = cc in v)
ended_open key other tag old b gone others (inr differs) e = sym (others other differs) ∙ e

-- it is ordered closed, where it wasn't to be closed before
pub closes_ended : (key named : ℕ) (by : End → End) (old b : Register) → ((e : End) (n : Option (Option ℕ)) → name_with (Some (by e)) n ≡ None) → b.ends ≡ change_end key by old.ends → b.queues ≡ old.queues
    → open_name key old ≡ Some named → (end_at old.ends key ≡ None → ⊥) → b.orders ≡ old.orders ++ orders.Close named ∷ [] → b.kept ≡ old.kept → b.links ≡ old.links → ClosesOnly (Itself key) old b
closes_ended key named by old b over ends queues its there are told links =
    let gone : open_name key b ≡ None = ap (λ (es : EndList). name_with (end_at es key) (slice_index_or (names_of b.queues) key None)) ends ∙ over_in by over key old.ends (slice_index_or (names_of b.queues) key None) there in
    let others : (k : ℕ) → k ≢ key → open_name k b ≡ open_name k old = λ k differs. ended_name key k by old b ends queues differs in
    record {
      ordered = (orders.Close named ∷ [], are);
      told = told;
      closes = λ other tag e. ended_closes key other tag named old b old.orders are its others (cases_eq other key) e;
      opens = λ number e. inl (ap (λ (ls : List Link). is_shut (seen_at number ls)) (sym links) ∙ e);
      cuts = λ number tag e. inl (ap (called_at number) links ∙ e);
      due = λ tag o. ended_due key tag named old b its gone (ordered_or_last (orders.Close tag) (orders.Close named) old.orders b.orders are o);
      once = λ tag one.
          ordered_once tag named (AnApplication key) old b are its gone
          (were_named old b tag (λ k e. ended_open key k tag old b gone others (cases_eq k key) e) (λ number e. ap (called_at number) (sym links) ∙ e)) one;
      writes = λ k. inl (ap (λ (ps : Queues). queue_at ps k) queues);
      writes_on = λ number. inl (ap (sending_at number) links);
      were_open = λ k tag e. ended_open key k tag old b gone others (cases_eq k key) e;
      were_called = λ number tag e. ap (called_at number) (sym links) ∙ e;
    }

abbrev name_of : Option Application → Option (Option ℕ)
name_of o = option_map (λ (p : Queue). p.tag) (option_map queue_of o)

name_is : (s : Slab Application) (key : ℕ) → slice_index_or (names_in s) key None ≡ name_of (get s key)
name_is s key = get_or-map (option_map (λ (p : Queue). p.tag)) (queues_in s) key None ∙ ap (option_map (λ (p : Queue). p.tag)) (get_or-map (option_map queue_of) s.slots key None)

open_tag : (b : Bool) (a : Application) → b ≡ false → name_with (Some (if b then Over (own_fault a) else Open a.front (took_back a) (own_reset a))) (Some (Some a.tag)) ≡ Some a.tag
open_tag true a e = absurd (let u : ⊥ = cc in u)
open_tag false a e = refl

-- what it is called that isn't to be closed
pub its_name : (r : code.Relay) (key : ℕ) (a : Application) → Some a ≡ get r.applications key → is_closed a ≡ false → open_name key (register_in r) ≡ Some a.tag
its_name r key a is here =
    let s = r.applications in
    ap (λ (o : Option End). name_with o (slice_index_or (names_in s) key None)) (end_is s key ∙ ap (option_map own_end) (sym is))
    ∙ ap (λ (n : Option (Option ℕ)). name_with (Some (own_end a)) n) (name_is s key ∙ ap name_of (sym is)) ∙ open_tag (is_closed a) a here

pub its_end : (r : code.Relay) (key : ℕ) (a : Application) → Some a ≡ get r.applications key → end_at (ends_in r.applications) key ≡ None → ⊥
its_end r key a is none =
    let u : Some (own_end a) ≡ None = sym (end_is r.applications key ∙ ap (option_map own_end) (sym is)) ∙ none in
    let v : ⊥ = cc in v
