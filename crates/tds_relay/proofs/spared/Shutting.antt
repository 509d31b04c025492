-- Who is closed by a call, and that he is ordered closed: of single steps.
use Rattle.std.proofs.Common.{◌≡◌, ◌≢◌, ◌⊎◌, ◌∙◌, ◌==◌, ℕ, zero, suc, Bool, true, false, List, [], ◌∷◌, ◌++◌, Option, Some, None, inl, inr, refl, sym, ap, subst, option_map, slice_index_or, slice_set, if◌then◌else◌}
use Rattle.std.proofs.lemmas.Bool.{cases_eq, eqb-true}
use Rattle.std.proofs.Math.ListN.{get_or-map}
use Rattle.slab.specs.Slab.{Slab, get, with_value}
use Rattle.tds_front.specs.Rules as rules
use Rattle.tds_front.specs.declared.stage.Stage.{Stage}
use Rattle.tds_relay.specs.declared.application.Application.{Application}
use Rattle.tds_relay.specs.declared.link.Link.{Link}
use Rattle.tds_relay.specs.declared.order.Order.{Order}
use Rattle.tds_relay.specs.declared.order.Order.TheVariants as orders
use Rattle.tds_relay.specs.Closings.{ClosesOnly, IsDue, IsToWriteAll, NoKey, OfApplication, OfConnection, Register, is_shut, is_shut_at, name_with, open_name, times_closed}
use Rattle.tds_relay.specs.Fronts.{own_end, ends_in, goes_by, withdraws}
use Rattle.tds_front.specs.declared.fault.FrontFault.{FrontFault}
use Rattle.tds_relay.specs.declared.pool.coming.What.TheVariants as whats
use Rattle.tds_relay.specs.Core.{End, EndList, Open, Over, change_end, closes_for, end_at, lets_go, move_stage, end_told}
use Rattle.tds_relay.specs.Ordering.{IsOrdered, StayOrdered}
use Rattle.tds_relay.specs.Queues.{Queues, names_of, queue_at}
use Rattle.tds_relay.specs.Reads.{Seen, HoldsOnLinks, StaysAt, bytes_on, link_at, opened_seen, seen_at, seen_of, waits_on, with_open}
use Rattle.tds_relay.specs.Sending.{IsToWrite, IsWritten, called_at, name_in, sending_at, sending_of}
use Rattle.tds_relay.proofs.spared.Once.{times_other}
use Rattle.tds_relay.proofs.spared.Ordered.{ordered_same}
use Rattle.tds_relay.proofs.spared.Sending.{AreKept, Comes, Pushed, Same, called_filled, ordered_last, ordered_or_last, pushed, sending_kept, sending_opened, sending_other, written_by}
use Rattle.tds_relay.proofs.steps.Fed.{ends_written}
use Rattle.tds_relay.proofs.steps.Staying.{at_refl}
use Rattle.tds_relay.specs.Places.{is_closed, own_fault, own_reset, took_back}

-- ---- Connections

shut_seen : (o p : Option Seen) → ((had : Option Seen) → StaysAt had o → StaysAt had p) → is_shut p ≡ true → is_shut o ≡ true
shut_seen o None stays e = absurd (let u : ⊥ = cc in u)
shut_seen o (Some s) stays e =
    let same : o ≡ Some s = stays o (at_refl o) in
    ap is_shut same ∙ e

pub shut_stays : (ls ms : List Link) → HoldsOnLinks ls ms → (number : ℕ) → is_shut (seen_at number ms) ≡ true → is_shut (seen_at number ls) ≡ true
shut_stays ls ms sees number e = shut_seen (seen_at number ls) (seen_at number ms) (sees number) e

-- ---- What nobody is closed by

-- no order to close comes by it
pub record NoneClosed (a b : List Order) : Type 0 where
  pub more : StayOrdered a b
  pub were : (tag : ℕ) → IsOrdered (orders.Close tag) b → IsOrdered (orders.Close tag) a
  pub times : (tag : ℕ) → times_closed tag b ≡ times_closed tag a

pub unclosed : (a b : List Order) → b ≡ a → NoneClosed a b
unclosed a b is = record { more = ordered_same a b is; were = λ tag o. subst (IsOrdered (orders.Close tag)) is o; times = λ tag. ap (times_closed tag) is }

was_written : (tag to : ℕ) (a : List Order) → IsOrdered (orders.Close tag) a ⊎ (orders.Close tag ≡ orders.Write to) → IsOrdered (orders.Close tag) a
was_written tag to a (inl o) = o
was_written tag to a (inr e) = absurd (let u : ⊥ = cc in u)

was_opened : (tag number : ℕ) (a : List Order) → IsOrdered (orders.Close tag) a ⊎ (orders.Close tag ≡ orders.Open number) → IsOrdered (orders.Close tag) a
was_opened tag number a (inl o) = o
was_opened tag number a (inr e) = absurd (let u : ⊥ = cc in u)

pub write_closes : (to : ℕ) (a b : List Order) → b ≡ a ++ orders.Write to ∷ [] → NoneClosed a b
write_closes to a b is = record {
  more = (orders.Write to ∷ [], is);
  were = λ tag o. was_written tag to a (ordered_or_last (orders.Close tag) (orders.Write to) a b is o);
  times = λ tag. times_other tag (orders.Write to) a b is refl;
}

open_closes : (number : ℕ) (a b : List Order) → b ≡ a ++ orders.Open number ∷ [] → NoneClosed a b
open_closes number a b is = record {
  more = (orders.Open number ∷ [], is);
  were = λ tag o. was_opened tag number a (ordered_or_last (orders.Close tag) (orders.Open number) a b is o);
  times = λ tag. times_other tag (orders.Open number) a b is refl;
}

-- each application is open as it was, and each connection called
closes_same : (May : ℕ → Type 0) (a b : Register) → ((key : ℕ) → open_name key b ≡ open_name key a) → b.kept ≡ a.kept
    → ((number : ℕ) → is_shut_at number b ≡ true → (is_shut_at number a ≡ true) ⊎ IsOrdered (orders.Open number) b.orders)
    → ((key : ℕ) → (queue_at b.queues key ≡ queue_at a.queues key) ⊎ IsToWriteAll (open_name key b) (queue_at b.queues key) b.orders)
    → ((number tag : ℕ) → called_at number b.links ≡ Some tag → called_at number a.links ≡ Some tag) → ((number tag : ℕ) → called_at number a.links ≡ Some tag → called_at number b.links ≡ Some tag)
    → ((number : ℕ) → (sending_at number b.links ≡ sending_at number a.links) ⊎ IsWritten (sending_at number b.links) b.orders) → NoneClosed a.orders b.orders → ClosesOnly May a b
closes_same May a b names told shut queues called calls sends n = record {
  ordered = n.more;
  told = told;
  closes = λ key tag e. inl (names key ∙ e);
  opens = shut;
  cuts = λ number tag e. inl (calls number tag e);
  due = λ tag o. inl (n.were tag o);
  once = λ tag one. inl (n.times tag);
  writes = queues;
  writes_on = sends;
  were_open = λ key tag e. sym (names key) ∙ e;
  were_called = called;
}

pub same_names : (a b : Register) → b.ends ≡ a.ends → b.queues ≡ a.queues → (key : ℕ) → open_name key b ≡ open_name key a
same_names a b ends queues key =
    ap (λ (es : EndList). name_with (end_at es key) (slice_index_or (names_of b.queues) key None)) ends
    ∙ ap (λ (ps : Queues). name_with (end_at a.ends key) (slice_index_or (names_of ps) key None)) queues

closes_as : (May : ℕ → Type 0) (a b : Register) → ((key : ℕ) → open_name key b ≡ open_name key a) → b.queues ≡ a.queues → b.kept ≡ a.kept → AreKept a.links b.links → NoneClosed a.orders b.orders → ClosesOnly May a b
closes_as May a b names queues told links n =
    let sends : (number : ℕ) → sending_at number b.links ≡ sending_at number a.links = sending_kept a.links b.links links in
    closes_same May a b names told (λ number e. inl (shut_stays a.links b.links links.sees number e)) (λ key. inl (ap (λ (ps : Queues). queue_at ps key) queues)) (λ number tag e. sym (ap name_in (sends number)) ∙ e)
    (λ number tag e. ap name_in (sends number) ∙ e) (λ number. inl (sends number)) n

pub closes_kept : (May : ℕ → Type 0) (a b : Register) → b.ends ≡ a.ends → b.queues ≡ a.queues → b.kept ≡ a.kept → AreKept a.links b.links → NoneClosed a.orders b.orders → ClosesOnly May a b
closes_kept May a b ends queues told links n = closes_as May a b (same_names a b ends queues) queues told links n

-- ---- Ends that move

moved_name : (by : End → End) → ((e : End) (n : Option (Option ℕ)) → name_with (Some (by e)) n ≡ name_with (Some e) n) → (key other : ℕ) (es : EndList) (n : Option (Option ℕ))
    → name_with (end_at (change_end key by es) other) n ≡ name_with (end_at es other) n
moved_name by keeps key other [] n = refl
moved_name by keeps zero zero (None ∷ es) n = refl
moved_name by keeps zero zero (Some e ∷ es) n = keeps e n
moved_name by keeps zero (suc other) (e ∷ es) n = refl
moved_name by keeps (suc key) zero (e ∷ es) n = refl
moved_name by keeps (suc key) (suc other) (e ∷ es) n = moved_name by keeps key other es n

-- an end moves, and is open as it was
pub closes_moved : (May : ℕ → Type 0) (key : ℕ) (by : End → End) (a b : Register) → ((e : End) (n : Option (Option ℕ)) → name_with (Some (by e)) n ≡ name_with (Some e) n) → b.ends ≡ change_end key by a.ends
    → b.queues ≡ a.queues → b.kept ≡ a.kept → AreKept a.links b.links → NoneClosed a.orders b.orders → ClosesOnly May a b
closes_moved May key by a b keeps ends queues told links n =
    closes_as May a b (λ k.
    ap (λ (es : EndList). name_with (end_at es k) (slice_index_or (names_of b.queues) k None)) ends ∙ moved_name by keeps key k a.ends (slice_index_or (names_of b.queues) k None)
    ∙ ap (λ (ps : Queues). name_with (end_at a.ends k) (slice_index_or (names_of ps) k None)) queues) queues told links n

pub end_is : (s : Slab Application) (key : ℕ) → end_at (ends_in s) key ≡ option_map own_end (get s key)
end_is s key = get_or-map (option_map own_end) s.slots key None

-- one is written back that is open as it was
set_name : (end : End) (key other : ℕ) (es : EndList) (n : Option (Option ℕ)) → ((m : Option (Option ℕ)) → name_with (Some end) m ≡ name_with (end_at es key) m)
    → name_with (end_at (slice_set es key (Some end)) other) n ≡ name_with (end_at es other) n
set_name end key other [] n same = refl
set_name end zero zero (e ∷ es) n same = same n
set_name end zero (suc other) (e ∷ es) n same = refl
set_name end (suc key) zero (e ∷ es) n same = refl
set_name end (suc key) (suc other) (e ∷ es) n same = set_name end key other es n same

over_by : (b : Bool) (a c : Application) (m : Option (Option ℕ)) → name_with (Some (if b then Over (own_fault c) else Open c.front (took_back c) (own_reset c))) m ≡ name_with (Some (if b then Over (own_fault a) else Open a.front (took_back a) (own_reset a))) m
over_by true a c m = refl
over_by false a c None = refl
over_by false a c (Some name) = refl

open_as : (a c : Application) (m : Option (Option ℕ)) → is_closed c ≡ is_closed a → name_with (Some (own_end c)) m ≡ name_with (Some (own_end a)) m
open_as a c m same =
    subst (λ (b : Bool). name_with (Some (if b then Over (own_fault c) else Open c.front (took_back c) (own_reset c))) m ≡ name_with (Some (own_end a)) m) (sym same) (over_by (is_closed a) a c m)

pub closes_written : (May : ℕ → Type 0) (s : Slab Application) (key : ℕ) (a c : Application) (r q : Register) → Some a ≡ get s key → is_closed c ≡ is_closed a → r.ends ≡ ends_in s → q.ends ≡ ends_in (with_value s key c)
    → q.queues ≡ r.queues → q.kept ≡ r.kept → AreKept r.links q.links → NoneClosed r.orders q.orders → ClosesOnly May r q
closes_written May s key a c r q is same before behind queues told links n =
    closes_as May r q (λ k.
    ap (λ (es : EndList). name_with (end_at es k) (slice_index_or (names_of q.queues) k None)) (behind ∙ ends_written s key c)
    ∙ set_name (own_end c) key k (ends_in s) (slice_index_or (names_of q.queues) k None) (λ m. open_as a c m same ∙ sym (ap (λ (o : Option End). name_with o m) (end_is s key ∙ ap (option_map own_end) (sym is))))
    ∙ ap (λ (ps : Queues). name_with (end_at (ends_in s) k) (slice_index_or (names_of ps) k None)) queues
    ∙ ap (λ (es : EndList). name_with (end_at es k) (slice_index_or (names_of r.queues) k None)) (sym before)) queues told links n

-- ends that move
pub keeps_lets_go : (e : End) (n : Option (Option ℕ)) → name_with (Some (lets_go e)) n ≡ name_with (Some e) n
keeps_lets_go (Open front withdrawn asks) None = refl
keeps_lets_go (Open front withdrawn asks) (Some name) = refl
keeps_lets_go (Over why) n = refl

pub keeps_withdraws : (e : End) (n : Option (Option ℕ)) → name_with (Some (withdraws e)) n ≡ name_with (Some e) n
keeps_withdraws (Open front withdrawn asks) None = refl
keeps_withdraws (Open front withdrawn asks) (Some name) = refl
keeps_withdraws (Over why) n = refl

keeps_stage : (by : Stage → Stage) (e : End) (n : Option (Option ℕ)) → name_with (Some (move_stage by e)) n ≡ name_with (Some e) n
keeps_stage by (Open front withdrawn asks) None = refl
keeps_stage by (Open front withdrawn asks) (Some name) = refl
keeps_stage by (Over why) n = refl

pub keeps_goes_by : (out : List ℕ) (e : End) (n : Option (Option ℕ)) → name_with (Some (goes_by out e)) n ≡ name_with (Some e) n
keeps_goes_by [] e n = refl
keeps_goes_by (byte ∷ bytes) e n = keeps_stage rules.request_went_on e n

pub over_closes : (why : Option FrontFault) (e : End) (n : Option (Option ℕ)) → name_with (Some (closes_for why e)) n ≡ None
over_closes why (Open front withdrawn asks) n = refl
over_closes why (Over first) n = refl

pub keeps_goes : (e : End) (n : Option (Option ℕ)) → name_with (Some (end_told whats.Goes e)) n ≡ name_with (Some e) n
keeps_goes (Open front withdrawn asks) None = refl
keeps_goes (Open front withdrawn asks) (Some name) = refl
keeps_goes (Over why) n = refl

pub keeps_finished : (e : End) (n : Option (Option ℕ)) → name_with (Some (end_told whats.Finished e)) n ≡ name_with (Some e) n
keeps_finished (Open front withdrawn asks) None = refl
keeps_finished (Open front withdrawn asks) (Some name) = refl
keeps_finished (Over why) n = refl

pub keeps_acknowledged : (e : End) (n : Option (Option ℕ)) → name_with (Some (end_told whats.Acknowledged e)) n ≡ name_with (Some e) n
keeps_acknowledged (Open front true asks) None = refl
keeps_acknowledged (Open front true asks) (Some name) = refl
keeps_acknowledged (Open front false asks) None = refl
keeps_acknowledged (Open front false asks) (Some name) = refl
keeps_acknowledged (Over why) n = refl

-- ---- A connection is opened, or comes

unshut : (b : Bool) (o : Option Seen) → is_shut (if b then option_map with_open o else o) ≡ true → is_shut o ≡ true
unshut true None e = e
unshut true (Some s) e = absurd (let u : ⊥ = cc in u)
unshut false o e = e

pub closes_opened : (May : ℕ → Type 0) (number : ℕ) (a b : Register) → b.ends ≡ a.ends → b.queues ≡ a.queues → b.kept ≡ a.kept → ((other : ℕ) → seen_at other b.links ≡ opened_seen number other a.links)
    → ((other : ℕ) → waits_on other b.links ≡ waits_on other a.links) → b.orders ≡ a.orders → ClosesOnly May a b
closes_opened May number a b ends queues told seen waits are =
    let sends : (other : ℕ) → sending_at other b.links ≡ sending_at other a.links = sending_opened number a.links b.links seen waits in
    closes_same May a b (same_names a b ends queues) told (λ other e. inl (unshut (other == number) (seen_at other a.links) (ap is_shut (sym (seen other)) ∙ e))) (λ key. inl (ap (λ (ps : Queues). queue_at ps key) queues))
    (λ other tag e. sym (ap name_in (sends other)) ∙ e) (λ other tag e. ap name_in (sends other) ∙ e) (λ other. inl (sends other)) (unclosed a.orders b.orders are)

pushed_by : (b : Bool) (l : Link) (number : ℕ) → (l.number == number) ≡ b → is_shut (option_map seen_of (if b then Some l else None)) ≡ true → number ≡ l.number
pushed_by true l number e shut = sym (eqb-true l.number number e)
pushed_by false l number e shut = absurd (let u : ⊥ = cc in u)

pushed_or : (number : ℕ) (b : Bool) (l x : Link) (o p : Option Link) → (is_shut (option_map seen_of p) ≡ true → (is_shut (option_map seen_of o) ≡ true) ⊎ (number ≡ l.number))
    → is_shut (option_map seen_of (if b then Some x else p)) ≡ true → (is_shut (option_map seen_of (if b then Some x else o)) ≡ true) ⊎ (number ≡ l.number)
pushed_or number true l x o p later e = inl e
pushed_or number false l x o p later e = later e

shut_pushed : (ls : List Link) (l : Link) (number : ℕ) → is_shut (seen_at number (ls ++ l ∷ [])) ≡ true → (is_shut (seen_at number ls) ≡ true) ⊎ (number ≡ l.number)
shut_pushed [] l number e = inr (pushed_by (l.number == number) l number refl e)
shut_pushed (x ∷ xs) l number e = pushed_or number (x.number == number) l x (link_at number xs) (link_at number (xs ++ l ∷ [])) (shut_pushed xs l number) e

-- a connection is there that is ordered opened
ordered_open : (number n named : ℕ) (a b : List Order) (A : Type 0) → b ≡ a ++ orders.Open named ∷ [] → n ≡ named → A ⊎ (number ≡ n) → A ⊎ IsOrdered (orders.Open number) b
ordered_open number n named a b A are is (inl e) = inl e
ordered_open number n named a b A are is (inr e) = inr (ordered_last (orders.Open number) a b (are ∙ ap (λ (m : ℕ). a ++ orders.Open m ∷ []) (sym (e ∙ is))))

pushed_called : (l : Link) (o p : Option Link) (tag : ℕ) → l.tag ≡ None → Pushed l o p → name_in (option_map sending_of p) ≡ Some tag → name_in (option_map sending_of o) ≡ Some tag
pushed_called l o p tag none Same e = e
pushed_called l o p tag none Comes e = absurd (let u : None ≡ Some tag = sym none ∙ e in let v : ⊥ = cc in v)

pushed_calls : (l : Link) (o p : Option Link) (tag : ℕ) → Pushed l o p → name_in (option_map sending_of o) ≡ Some tag → name_in (option_map sending_of p) ≡ Some tag
pushed_calls l o p tag Same e = e
pushed_calls l o p tag Comes e = absurd (let v : ⊥ = cc in v)

pushed_sends : (l : Link) (o p : Option Link) (all : List Order) → bytes_on l ≡ [] → Pushed l o p → (option_map sending_of p ≡ option_map sending_of o) ⊎ IsWritten (option_map sending_of p) all
pushed_sends l o p all empty Same = inl refl
pushed_sends l o p all empty Comes = inr (inl empty)

pub closes_pushed : (May : ℕ → Type 0) (a b : Register) (l : Link) (named : ℕ) → b.ends ≡ a.ends → b.queues ≡ a.queues → b.kept ≡ a.kept → b.links ≡ a.links ++ l ∷ [] → l.number ≡ named → l.tag ≡ None → bytes_on l ≡ []
    → b.orders ≡ a.orders ++ orders.Open named ∷ [] → ClosesOnly May a b
closes_pushed May a b l named ends queues told links is none empty are =
    let by : (number : ℕ) → Pushed l (link_at number a.links) (link_at number b.links) = λ number. subst (λ (ls : List Link). Pushed l (link_at number a.links) (link_at number ls)) (sym links) (pushed a.links l number) in
    closes_same May a b (same_names a b ends queues) told
    (λ number e. ordered_open number l.number named a.orders b.orders (is_shut_at number a ≡ true) are is (shut_pushed a.links l number (ap (λ (ls : List Link). is_shut (seen_at number ls)) (sym links) ∙ e)))
    (λ key. inl (ap (λ (ps : Queues). queue_at ps key) queues)) (λ number tag e. pushed_called l (link_at number a.links) (link_at number b.links) tag none (by number) e)
    (λ number tag e. pushed_calls l (link_at number a.links) (link_at number b.links) tag (by number) e) (λ number. pushed_sends l (link_at number a.links) (link_at number b.links) b.orders empty (by number))
    (open_closes named a.orders b.orders are)

-- ---- What is put on a connection

filled_sends : (number other : ℕ) (ls ms : List Link) (all : List Order) → HoldsOnLinks ls ms → ((n : ℕ) → n ≢ number → waits_on n ms ≡ waits_on n ls) → IsToWrite (called_at number ms) all → (other ≡ number) ⊎ (other ≢ number)
    → (sending_at other ms ≡ sending_at other ls) ⊎ IsWritten (sending_at other ms) all
filled_sends number other ls ms all sees waits w (inl same) = inr (subst (λ (n : ℕ). IsWritten (sending_at n ms) all) (sym same) (written_by (sending_at number ms) all w))
filled_sends number other ls ms all sees waits w (inr differs) = inl (sending_other number other ls ms sees (waits other differs))

filled_called : (number other : ℕ) (out : List ℕ) (ls ms : List Link) → HoldsOnLinks ls ms → ((n : ℕ) → n ≢ number → waits_on n ms ≡ waits_on n ls)
    → waits_on number ms ≡ option_map (λ (waits : List ℕ). waits ++ out) (waits_on number ls) → (other ≡ number) ⊎ (other ≢ number) → called_at other ms ≡ called_at other ls
filled_called number other out ls ms sees others waits (inl same) = subst (λ (n : ℕ). called_at n ms ≡ called_at n ls) (sym same) (called_filled number out ls ms sees waits)
filled_called number other out ls ms sees others waits (inr differs) = ap name_in (sending_other number other ls ms sees (others other differs))

-- and it is ordered written to
pub closes_filled : (May : ℕ → Type 0) (number : ℕ) (out : List ℕ) (a b : Register) → b.ends ≡ a.ends → b.queues ≡ a.queues → b.kept ≡ a.kept → HoldsOnLinks a.links b.links
    → ((n : ℕ) → n ≢ number → waits_on n b.links ≡ waits_on n a.links) → waits_on number b.links ≡ option_map (λ (waits : List ℕ). waits ++ out) (waits_on number a.links) → NoneClosed a.orders b.orders
    → IsToWrite (called_at number b.links) b.orders → ClosesOnly May a b
closes_filled May number out a b ends queues told sees others waits n w =
    let called : (other : ℕ) → called_at other b.links ≡ called_at other a.links = λ other. filled_called number other out a.links b.links sees others waits (cases_eq other number) in
    closes_same May a b (same_names a b ends queues) told (λ other e. inl (shut_stays a.links b.links sees other e)) (λ key. inl (ap (λ (ps : Queues). queue_at ps key) queues)) (λ other tag e. sym (called other) ∙ e)
    (λ other tag e. called other ∙ e) (λ other. filled_sends number other a.links b.links b.orders sees others w (cases_eq other number)) n

none_due : (tag : ℕ) (b c : Register) → c.links ≡ b.links → IsOrdered (orders.Close tag) b.orders ⊎ IsDue NoKey tag b c → IsOrdered (orders.Close tag) b.orders
none_due tag b c links (inl o) = o
none_due tag b c links (inr (OfApplication key may was gone)) = absurd may
none_due tag b c links (inr (OfConnection number was gone)) = absurd (let u : None ≡ Some tag = sym gone ∙ ap (called_at number) links ∙ was in let v : ⊥ = cc in v)

pub closes_filled_on : (May : ℕ → Type 0) (number : ℕ) (out : List ℕ) (a b c : Register) → c.ends ≡ a.ends → c.queues ≡ a.queues → b.kept ≡ a.kept → HoldsOnLinks a.links b.links
    → ((n : ℕ) → n ≢ number → waits_on n b.links ≡ waits_on n a.links) → waits_on number b.links ≡ option_map (λ (waits : List ℕ). waits ++ out) (waits_on number a.links) → b.orders ≡ a.orders
    → c.links ≡ b.links → IsToWrite (called_at number c.links) c.orders → ((tag : ℕ) → times_closed tag c.orders ≡ times_closed tag b.orders) → ClosesOnly NoKey b c → ClosesOnly May a c
closes_filled_on May number out a b c ends queues told sees others waits are links w times h =
    closes_filled May number out a c ends queues (h.told ∙ told) (subst (λ (ls : List Link). HoldsOnLinks a.links ls) (sym links) sees) (λ n differs. ap (waits_on n) links ∙ others n differs) (ap (waits_on number) links ∙ waits)
    (record { more = subst (λ (xs : List Order). StayOrdered xs c.orders) are h.ordered; were = λ tag o. subst (IsOrdered (orders.Close tag)) are (none_due tag b c links (h.due tag o)); times = λ tag. times tag ∙ ap (times_closed tag) are }) w

unfit_waits : (number other : ℕ) (ls ms : List Link) → ((n : ℕ) → n ≢ number → waits_on n ms ≡ waits_on n ls) → waits_on number ms ≡ waits_on number ls → (other ≡ number) ⊎ (other ≢ number) → waits_on other ms ≡ waits_on other ls
unfit_waits number other ls ms others same (inl is) = subst (λ (n : ℕ). waits_on n ms ≡ waits_on n ls) (sym is) same
unfit_waits number other ls ms others same (inr differs) = others other differs

-- nothing is put there
pub unfit_kept : (number : ℕ) (ls ms : List Link) → HoldsOnLinks ls ms → ((n : ℕ) → n ≢ number → waits_on n ms ≡ waits_on n ls) → waits_on number ms ≡ waits_on number ls → AreKept ls ms
unfit_kept number ls ms sees others same = record { sees = sees; waits = λ other. unfit_waits number other ls ms others same (cases_eq other number) }
