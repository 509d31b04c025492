-- Who is closed by a call, and that he is ordered closed: call behind call.
use Rattle.std.proofs.Common.{◌≡◌, ◌⊎◌, ◌∙◌, ℕ, true, List, [], Option, Some, None, inl, inr, refl, sym, ap, subst, slice_index_or}
use Rattle.std.specs.Prelude.{Result, Ok, Err, OnOk}
use Rattle.tds_relay.specs.declared.order.Order.{Order}
use Rattle.tds_relay.specs.declared.order.Order.TheVariants as orders
use Rattle.tds_relay.specs.Closings.{ClosesOnly, IsDue, IsToWriteAll, KeptBeside, NoKey, OfApplication, OfConnection, Register, Settings, but_told, is_shut, is_shut_at, open_name, name_with}
use Rattle.tds_relay.specs.Core.{EndList, end_at}
use Rattle.tds_relay.specs.Ordering.{IsOrdered, StayOrdered}
use Rattle.tds_relay.specs.Queues.{HasAll, Queue, Queues, names_of, queue_at}
use Rattle.tds_relay.specs.declared.fault.Refused.{Refused}
use Rattle.tds_relay.specs.Reads.{seen_at}
use Rattle.tds_relay.specs.Sending.{IsToWrite, IsWritten, NamedWaiting, called_at, name_in, sending_at}
use Rattle.tds_relay.proofs.spared.Ordered.{ordered_both, ordered_refl}
use Rattle.tds_relay.proofs.spared.Once.{once_as, once_then, one_called_on, same_named, were_named}
use Rattle.tds_relay.proofs.spared.Sending.{is_ordered_on}

-- ---- One behind the other

pub closes_refl : (May : ℕ → Type 0) (r : Register) → ClosesOnly May r r
closes_refl May r = record {
  ordered = ordered_refl r.orders;
  told = refl;
  closes = λ key tag e. inl e;
  opens = λ number e. inl e;
  cuts = λ number tag e. inl e;
  due = λ tag o. inl o;
  once = λ tag one. inl refl;
  writes = λ key. inl refl;
  writes_on = λ number. inl refl;
  were_open = λ key tag e. e;
  were_called = λ number tag e. e;
}

closes_then : (May : ℕ → Type 0) (key tag : ℕ) (b c : Register) → ClosesOnly May b c → (open_name key b ≡ Some tag) ⊎ (May key × IsOrdered (orders.Close tag) b.orders)
    → (open_name key c ≡ Some tag) ⊎ (May key × IsOrdered (orders.Close tag) c.orders)
closes_then May key tag b c k (inl e) = k.closes key tag e
closes_then May key tag b c k (inr x) = inr (x.0, is_ordered_on (orders.Close tag) b.orders c.orders k.ordered x.1)

opens_or : (number : ℕ) (a b c : Register) → StayOrdered b.orders c.orders → (is_shut_at number a ≡ true) ⊎ IsOrdered (orders.Open number) b.orders
    → (is_shut_at number a ≡ true) ⊎ IsOrdered (orders.Open number) c.orders
opens_or number a b c s (inl e) = inl e
opens_or number a b c s (inr o) = inr (is_ordered_on (orders.Open number) b.orders c.orders s o)

opens_then : (number : ℕ) (a b c : Register) → StayOrdered b.orders c.orders → ((n : ℕ) → is_shut_at n b ≡ true → (is_shut_at n a ≡ true) ⊎ IsOrdered (orders.Open n) b.orders)
    → (is_shut_at number b ≡ true) ⊎ IsOrdered (orders.Open number) c.orders → (is_shut_at number a ≡ true) ⊎ IsOrdered (orders.Open number) c.orders
opens_then number a b c s h (inr o) = inr o
opens_then number a b c s h (inl e) = opens_or number a b c s (h number e)

cuts_then : (May : ℕ → Type 0) (number tag : ℕ) (b c : Register) → ClosesOnly May b c → (called_at number b.links ≡ Some tag) ⊎ IsOrdered (orders.Close tag) b.orders
    → (called_at number c.links ≡ Some tag) ⊎ IsOrdered (orders.Close tag) c.orders
cuts_then May number tag b c k (inl e) = k.cuts number tag e
cuts_then May number tag b c k (inr o) = inr (is_ordered_on (orders.Close tag) b.orders c.orders k.ordered o)

-- who is there no more comes no more
none_by : (o p : Option ℕ) → ((tag : ℕ) → p ≡ Some tag → o ≡ Some tag) → o ≡ None → p ≡ None
none_by o None were e = refl
none_by o (Some tag) were e =
    let is : o ≡ Some tag = were tag refl in
    absurd (let u : None ≡ Some tag = sym e ∙ is in let v : ⊥ = cc in v)

due_on : (May : ℕ → Type 0) (tag : ℕ) (a b c : Register) → ClosesOnly May b c → IsDue May tag a b → IsDue May tag a c
due_on May tag a b c k (OfApplication key may was gone) = OfApplication key may was (none_by (open_name key b) (open_name key c) (k.were_open key) gone)
due_on May tag a b c k (OfConnection number was gone) = OfConnection number was (none_by (called_at number b.links) (called_at number c.links) (k.were_called number) gone)

due_from : (May : ℕ → Type 0) (tag : ℕ) (a b c : Register) → ClosesOnly May a b → IsDue May tag b c → IsDue May tag a c
due_from May tag a b c h (OfApplication key may was gone) = OfApplication key may (h.were_open key tag was) gone
due_from May tag a b c h (OfConnection number was gone) = OfConnection number (h.were_called number tag was) gone

due_or : (May : ℕ → Type 0) (tag : ℕ) (a b c : Register) → ClosesOnly May b c → IsOrdered (orders.Close tag) a.orders ⊎ IsDue May tag a b → IsOrdered (orders.Close tag) a.orders ⊎ IsDue May tag a c
due_or May tag a b c k (inl o) = inl o
due_or May tag a b c k (inr d) = inr (due_on May tag a b c k d)

due_then : (May : ℕ → Type 0) (tag : ℕ) (a b c : Register) → ClosesOnly May a b → ClosesOnly May b c → IsOrdered (orders.Close tag) b.orders ⊎ IsDue May tag b c → IsOrdered (orders.Close tag) a.orders ⊎ IsDue May tag a c
due_then May tag a b c h k (inl o) = due_or May tag a b c k (h.due tag o)
due_then May tag a b c h k (inr d) = inr (due_from May tag a b c h d)

write_as : (o p : Option ℕ) (xs ys : List Order) → ((tag : ℕ) → p ≡ Some tag → o ≡ Some tag) → StayOrdered xs ys → IsToWrite o xs → IsToWrite p ys
write_as o None xs ys were s w = tt
write_as o (Some tag) xs ys were s w = is_ordered_on (orders.Write tag) xs ys s (subst (λ (q : Option ℕ). IsToWrite q xs) (were tag refl) w)

write_all_as : (o p : Option ℕ) (x y : Option Queue) (xs ys : List Order) → ((tag : ℕ) → p ≡ Some tag → o ≡ Some tag) → StayOrdered xs ys → y ≡ x → IsToWriteAll o x xs → IsToWriteAll p y ys
write_all_as o None x y xs ys were s same w = tt
write_all_as o (Some tag) x y xs ys were s same w =
    let v = subst (λ (q : Option ℕ). IsToWriteAll q x xs) (were tag refl) w in (subst HasAll (sym same) v.0, is_ordered_on (orders.Write tag) xs ys s v.1)

writes_or : (May : ℕ → Type 0) (key : ℕ) (a b c : Register) → ClosesOnly May b c → queue_at c.queues key ≡ queue_at b.queues key → (queue_at b.queues key ≡ queue_at a.queues key) ⊎ IsToWriteAll (open_name key b) (queue_at b.queues key) b.orders
    → (queue_at c.queues key ≡ queue_at a.queues key) ⊎ IsToWriteAll (open_name key c) (queue_at c.queues key) c.orders
writes_or May key a b c k same (inl e) = inl (same ∙ e)
writes_or May key a b c k same (inr w) = inr (write_all_as (open_name key b) (open_name key c) (queue_at b.queues key) (queue_at c.queues key) b.orders c.orders (k.were_open key) k.ordered same w)

writes_then : (May : ℕ → Type 0) (key : ℕ) (a b c : Register) → ClosesOnly May a b → ClosesOnly May b c → (queue_at c.queues key ≡ queue_at b.queues key) ⊎ IsToWriteAll (open_name key c) (queue_at c.queues key) c.orders
    → (queue_at c.queues key ≡ queue_at a.queues key) ⊎ IsToWriteAll (open_name key c) (queue_at c.queues key) c.orders
writes_then May key a b c h k (inr w) = inr w
writes_then May key a b c h k (inl e) = writes_or May key a b c k e (h.writes key)

-- a connection that is ordered written to stays so while it is called as it was
pub writes_behind : (May : ℕ → Type 0) (number : ℕ) (a b : Register) → ClosesOnly May a b → IsToWrite (called_at number a.links) a.orders → IsToWrite (called_at number b.links) b.orders
writes_behind May number a b k w = write_as (called_at number a.links) (called_at number b.links) a.orders b.orders (k.were_called number) k.ordered w

pub writes_stay : {A E : Type 0} (r : Result A E) (May : ℕ → Type 0) (number : ℕ) (a b : Register) → OnOk r (ClosesOnly May a b) → IsToWrite (called_at number a.links) a.orders → OnOk r (IsToWrite (called_at number b.links) b.orders)
writes_stay (Ok x) May number a b k w = writes_behind May number a b k w
writes_stay (Err e) May number a b k w = tt

named_on : (o : Option ℕ) (xs ys : List Order) → StayOrdered xs ys → IsToWrite o xs → IsToWrite o ys
named_on o xs ys s w = write_as o o xs ys (λ tag e. e) s w

nothing_or : (A : Type 0) (o : Option ℕ) (xs ys : List Order) → StayOrdered xs ys → A ⊎ IsToWrite o xs → A ⊎ IsToWrite o ys
nothing_or A o xs ys s (inl e) = inl e
nothing_or A o xs ys s (inr w) = inr (named_on o xs ys s w)

written_on : (s : Option NamedWaiting) (xs ys : List Order) → StayOrdered xs ys → IsWritten s xs → IsWritten s ys
written_on None xs ys more w = tt
written_on (Some s) xs ys more w = nothing_or (s.1 ≡ []) s.0 xs ys more w

sends_or : (number : ℕ) (a b c : Register) → StayOrdered b.orders c.orders → sending_at number c.links ≡ sending_at number b.links
    → (sending_at number b.links ≡ sending_at number a.links) ⊎ IsWritten (sending_at number b.links) b.orders → (sending_at number c.links ≡ sending_at number a.links) ⊎ IsWritten (sending_at number c.links) c.orders
sends_or number a b c more same (inl e) = inl (same ∙ e)
sends_or number a b c more same (inr w) = inr (subst (λ (s : Option NamedWaiting). IsWritten s c.orders) (sym same) (written_on (sending_at number b.links) b.orders c.orders more w))

sends_then : (May : ℕ → Type 0) (number : ℕ) (a b c : Register) → ClosesOnly May a b → StayOrdered b.orders c.orders → (sending_at number c.links ≡ sending_at number b.links) ⊎ IsWritten (sending_at number c.links) c.orders
    → (sending_at number c.links ≡ sending_at number a.links) ⊎ IsWritten (sending_at number c.links) c.orders
sends_then May number a b c h more (inr w) = inr w
sends_then May number a b c h more (inl e) = sends_or number a b c more e (h.writes_on number)

pub closes_both : (May : ℕ → Type 0) (a b c : Register) → ClosesOnly May a b → ClosesOnly May b c → ClosesOnly May a c
closes_both May a b c h k = record {
  ordered = ordered_both a.orders b.orders c.orders h.ordered k.ordered;
  told = k.told ∙ h.told;
  closes = λ key tag e. closes_then May key tag b c k (h.closes key tag e);
  opens = λ number e. opens_then number a b c k.ordered h.opens (k.opens number e);
  cuts = λ number tag e. cuts_then May number tag b c k (h.cuts number tag e);
  due = λ tag o. due_then May tag a b c h k (k.due tag o);
  once = λ tag one.
      let were = were_named a b tag (λ key e. h.were_open key tag e) (λ number e. h.were_called number tag e) in
      once_then tag a b c were (were_named b c tag (λ key e. k.were_open key tag e) (λ number e. k.were_called number tag e)) (h.once tag one) (k.once tag (one_called_on a b tag were one));
  writes = λ key. writes_then May key a b c h k (k.writes key);
  writes_on = λ number. sends_then May number a b c h k.ordered (k.writes_on number);
  were_open = λ key tag e. h.were_open key tag (k.were_open key tag e);
  were_called = λ number tag e. h.were_called number tag (k.were_called number tag e);
}

-- where a call answers
pub closes_on : {A E : Type 0} (r : Result A E) (May : ℕ → Type 0) (a b c : Register) → OnOk r (ClosesOnly May b c) → ClosesOnly May a b → OnOk r (ClosesOnly May a c)
closes_on (Ok x) May a b c k h = closes_both May a b c h k
closes_on (Err e) May a b c k h = tt

-- ---- Who may be closed

may_or : (May More : ℕ → Type 0) (key : ℕ) (A : Type 0) (O : Type 0) → (May key → More key) → A ⊎ (May key × O) → A ⊎ (More key × O)
may_or May More key A O f (inl a) = inl a
may_or May More key A O f (inr x) = inr (f x.0, x.1)

due_more : (May More : ℕ → Type 0) (tag : ℕ) (a b : Register) → ((key : ℕ) → May key → More key) → IsDue May tag a b → IsDue More tag a b
due_more May More tag a b f (OfApplication key may was gone) = OfApplication key (f key may) was gone
due_more May More tag a b f (OfConnection number was gone) = OfConnection number was gone

due_may : (May More : ℕ → Type 0) (tag : ℕ) (a b : Register) (O : Type 0) → ((key : ℕ) → May key → More key) → O ⊎ IsDue May tag a b → O ⊎ IsDue More tag a b
due_may May More tag a b O f (inl o) = inl o
due_may May More tag a b O f (inr d) = inr (due_more May More tag a b f d)

pub closes_more : (May More : ℕ → Type 0) (a b : Register) → ((key : ℕ) → May key → More key) → ClosesOnly May a b → ClosesOnly More a b
closes_more May More a b f h = record {
  ordered = h.ordered;
  told = h.told;
  closes = λ key tag e. may_or May More key (open_name key b ≡ Some tag) (IsOrdered (orders.Close tag) b.orders) (f key) (h.closes key tag e);
  opens = h.opens;
  cuts = h.cuts;
  due = λ tag o. due_may May More tag a b (IsOrdered (orders.Close tag) a.orders) f (h.due tag o);
  once = h.once;
  writes = h.writes;
  writes_on = h.writes_on;
  were_open = h.were_open;
  were_called = h.were_called;
}

pub closes_more_on : {A E : Type 0} (r : Result A E) (May More : ℕ → Type 0) (a b : Register) → ((key : ℕ) → May key → More key) → OnOk r (ClosesOnly May a b) → OnOk r (ClosesOnly More a b)
closes_more_on (Ok x) May More a b f h = closes_more May More a b f h
closes_more_on (Err e) May More a b f h = tt

-- nobody is: nor is any of these
pub closes_nobody : (May : ℕ → Type 0) (a b : Register) → ClosesOnly NoKey a b → ClosesOnly May a b
closes_nobody May a b h = closes_more NoKey May a b (λ key none. absurd none) h

-- and then whoever is one of those is one of these
pub closes_with : {A E : Type 0} (r : Result A E) (May More : ℕ → Type 0) (a b c : Register) → ((key : ℕ) → May key → More key) → OnOk r (ClosesOnly May b c) → ClosesOnly More a b → OnOk r (ClosesOnly More a c)
closes_with r May More a b c f k h = closes_on r More a b c (closes_more_on r May More b c f k) h

-- nobody is, behind whom these are
pub closes_behind : {A E : Type 0} (r : Result A E) (May : ℕ → Type 0) (a b c : Register) → OnOk r (ClosesOnly NoKey b c) → ClosesOnly May a b → OnOk r (ClosesOnly May a c)
closes_behind r May a b c k h = closes_with r NoKey May a b c (λ key none. absurd none) k h

-- before whom nobody is
pub closes_first : {A E : Type 0} (r : Result A E) (May : ℕ → Type 0) (a b c : Register) → OnOk r (ClosesOnly May b c) → ClosesOnly NoKey a b → OnOk r (ClosesOnly May a c)
closes_first r May a b c k h = closes_on r May a b c k (closes_nobody May a b h)

-- whoever is, then, is one of these
pub closes_next : {A E : Type 0} (r : Result A E) (May More : ℕ → Type 0) (a b c : Register) → ((key : ℕ) → May key → More key) → OnOk r (ClosesOnly May b c) → ClosesOnly NoKey a b → OnOk r (ClosesOnly More a c)
closes_next r May More a b c f k h = closes_on r More a b c (closes_more_on r May More b c f k) (closes_nobody More a b h)

-- ---- A packet that comes

heard_by : (May : ℕ → Type 0) (tag : ℕ) (a b c : Register) → ((key : ℕ) → open_name key (but_told c a) ≡ open_name key (but_told b a)) → ((key : ℕ) → open_name key c ≡ open_name key b)
    → ((number : ℕ) → sending_at number c.links ≡ sending_at number b.links) → IsDue May tag (but_told b a) b → IsDue May tag (but_told c a) c
heard_by May tag a b c first same sends (OfApplication key may was gone) = OfApplication key may (first key ∙ was) (same key ∙ gone)
heard_by May tag a b c first same sends (OfConnection number was gone) = OfConnection number was (ap name_in (sends number) ∙ gone)

heard_due : (May : ℕ → Type 0) (tag : ℕ) (a b c : Register) → ((key : ℕ) → open_name key (but_told c a) ≡ open_name key (but_told b a)) → ((key : ℕ) → open_name key c ≡ open_name key b)
    → ((number : ℕ) → sending_at number c.links ≡ sending_at number b.links) → IsOrdered (orders.Close tag) a.orders ⊎ IsDue May tag (but_told b a) b → IsOrdered (orders.Close tag) a.orders ⊎ IsDue May tag (but_told c a) c
heard_due May tag a b c first same sends (inl o) = inl o
heard_due May tag a b c first same sends (inr d) = inr (heard_by May tag a b c first same sends d)

-- What waits for applications changes by it, and why a connection was closed.
pub closes_heard : (May : ℕ → Type 0) (a b c : Register) → ClosesOnly May (but_told b a) b → c.ends ≡ b.ends → names_of c.queues ≡ names_of b.queues → ((number : ℕ) → sending_at number c.links ≡ sending_at number b.links)
    → ((number : ℕ) → is_shut_at number c ≡ true → is_shut_at number b ≡ true) → c.orders ≡ b.orders → c.kept.settings ≡ b.kept.settings → ClosesOnly May (but_told c a) c
closes_heard May a b c h ends names sends shut are settings =
    let same : (key : ℕ) → open_name key c ≡ open_name key b =
    λ key. ap (λ (es : EndList). name_with (end_at es key) (slice_index_or (names_of c.queues) key None)) ends
    ∙ ap (λ (ns : List (Option (Option ℕ))). name_with (end_at b.ends key) (slice_index_or ns key None)) names in
    let first : (key : ℕ) → open_name key (but_told c a) ≡ open_name key (but_told b a) = λ key. ap (λ (ns : List (Option (Option ℕ))). name_with (end_at a.ends key) (slice_index_or ns key None)) names in
    record {
      ordered = subst (StayOrdered a.orders) (sym are) h.ordered;
      told = ap (λ (s : Settings). let k : KeptBeside = record { refused = c.kept.refused; settings = s } in k) (settings ∙ ap (λ (k : KeptBeside). k.settings) h.told);
      closes = λ key tag e.
          subst (λ (o : Option ℕ). (o ≡ Some tag) ⊎ (May key × IsOrdered (orders.Close tag) c.orders)) (sym (same key))
          (subst (λ (xs : List Order). (open_name key b ≡ Some tag) ⊎ (May key × IsOrdered (orders.Close tag) xs)) (sym are) (h.closes key tag (sym (first key) ∙ e)));
      opens = λ number e. subst (λ (xs : List Order). (is_shut_at number a ≡ true) ⊎ IsOrdered (orders.Open number) xs) (sym are) (h.opens number (shut number e));
      cuts = λ number tag e.
          subst (λ (o : Option ℕ). (o ≡ Some tag) ⊎ IsOrdered (orders.Close tag) c.orders) (sym (ap name_in (sends number)))
          (subst (λ (xs : List Order). (called_at number b.links ≡ Some tag) ⊎ IsOrdered (orders.Close tag) xs) (sym are) (h.cuts number tag e));
      due = λ tag o. heard_due May tag a b c first same sends (h.due tag (subst (IsOrdered (orders.Close tag)) are o));
      once = λ tag one.
          once_as tag (but_told b a) b (but_told c a) c (same_named (but_told b a) (but_told c a) first (λ number. refl)) (same_named b c same (λ number. ap name_in (sends number))) refl are (h.once tag) one;
      writes = λ key. inl refl;
      writes_on = λ number.
          subst (λ (s : Option NamedWaiting). (s ≡ sending_at number a.links) ⊎ IsWritten s c.orders) (sym (sends number))
          (subst (λ (xs : List Order). (sending_at number b.links ≡ sending_at number a.links) ⊎ IsWritten (sending_at number b.links) xs) (sym are) (h.writes_on number));
      were_open = λ key tag e. first key ∙ h.were_open key tag (sym (same key) ∙ e);
      were_called = λ number tag e. h.were_called number tag (sym (ap name_in (sends number)) ∙ e);
    }

abbrev told_with : Queues → Option Refused → Register → Register
told_with queues refused r = record { ends = r.ends; queues = queues; links = r.links; orders = r.orders; kept = record { refused = refused; settings = r.kept.settings } }

told_as : (May : ℕ → Type 0) (a c d : Register) → ClosesOnly May (but_told c a) d → d.queues ≡ c.queues → d.kept ≡ c.kept → ClosesOnly May (but_told d a) d
told_as May a c d h queues told =
    let first : ClosesOnly May (told_with d.queues c.kept.refused a) d = subst (λ (ps : Queues). ClosesOnly May (told_with ps c.kept.refused a) d) (sym queues) h in
    subst (λ (o : Option Refused). ClosesOnly May (told_with d.queues o a) d) (ap (λ (k : KeptBeside). k.refused) (sym told)) first

-- what came of it is done
pub closes_done : (May : ℕ → Type 0) (a c d : Register) → ClosesOnly May (but_told c a) c → ClosesOnly May c d → d.queues ≡ c.queues → ClosesOnly May (but_told d a) d
closes_done May a c d h k queues = told_as May a c d (closes_both May (but_told c a) c d h k) queues k.told

pub closes_done_on : {A E : Type 0} (r : Result A E) (May More : ℕ → Type 0) (a c d : Register) → ((key : ℕ) → May key → More key) → OnOk r (ClosesOnly May c d) → OnOk r (d.queues ≡ c.queues) → ClosesOnly More (but_told c a) c
    → OnOk r (ClosesOnly More (but_told d a) d)
closes_done_on (Ok x) May More a c d f k queues h = closes_done More a c d h (closes_more May More c d f k) queues
closes_done_on (Err e) May More a c d f k queues h = tt

pub one_closes : (May More : ℕ → Type 0) (a b c d : Register) → ((key : ℕ) → May key → More key) → ClosesOnly More (but_told b a) b → c.ends ≡ b.ends → names_of c.queues ≡ names_of b.queues
    → ((number : ℕ) → (sending_at number c.links ≡ sending_at number b.links) × (is_shut (seen_at number c.links) ≡ is_shut (seen_at number b.links))) → c.orders ≡ b.orders → c.kept.settings ≡ b.kept.settings → ClosesOnly May c d → d.queues ≡ c.queues
    → ClosesOnly More (but_told d a) d
one_closes May More a b c d f h ends names same are settings k queues =
    closes_done More a c d (closes_heard More a b c h ends names (λ number. (same number).0) (λ number e. sym (same number).1 ∙ e) are settings) (closes_more May More c d f k) queues
