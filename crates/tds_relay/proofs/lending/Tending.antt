-- Each connection that is being cleaned waits for the answer of a cleaning that went out.
use Rattle.std.proofs.Common.{◌≡◌, ◌≢◌, ◌⊎◌, ◌∙◌, ◌++◌, ℕ, suc, Bool, true, false, append-nil, append_assoc, List, [], ◌∷◌, Option, Some, None, option_map, inl, inr, refl, sym, ap, subst}
use Rattle.std.specs.Prelude.{Result, Ok, Err, OnOk, IfSome, IsSome}
use Rattle.std.proofs.lemmas.Bool.{cases_eq}
use Rattle.tds_wire.specs.declared.told.Token.{Token}
use Rattle.tds_service.specs.Service as calls
use Rattle.tds_service.specs.Service.{Cleaning, Leased, Place, Seat, Service, seat_numbered, step}
use Rattle.tds_relay.specs.declared.pool.Pool as pools
use Rattle.tds_relay.specs.declared.pool.Hold.{Hold}
use Rattle.tds_relay.specs.declared.pool.leaving.Left.{Left}
use Rattle.tds_relay.specs.declared.link.Link.{Link}
use Rattle.tds_relay.specs.declared.relay.Relay as code
use Rattle.tds_relay.specs.Cleaning.{CleaningsWait, CleaningsWaitAt, CleansIfPut, EndsCleaning, EndsInCleaning, IsCleanedBy, IsCleaning, IsPutBehind, text_of_cleaning}
use Rattle.tds_relay.specs.Lent.{KeepsWaits, LendsInLine, MayBeLent, OthersKeep, OthersKeepAt}
use Rattle.tds_relay.specs.Lent as lent
use Rattle.tds_relay.specs.Pool as pool
use Rattle.tds_relay.specs.Pool.{Pool, find_key, find_number, key_of}
use Rattle.tds_relay.specs.Reads.{Carried, FillsBy, StaysAt, bytes_on, carried_by, carried_there, link_at, reader_at, waits_on}
use Rattle.tds_relay.specs.Ties.{Cause, CausesRequest, Connection, IsNumberOf, IsReached, LedOn, LedTo, Turns, pool_in}
use Rattle.tds_relay.proofs.held.Fewer.{each_number, number_is}
use Rattle.tds_relay.proofs.held.Numbers.{apart_at, its_holder}
use Rattle.tds_relay.proofs.held.Sitting.{Sits}
use Rattle.tds_relay.specs.TokenParsers.{IsLed}
use Rattle.tds_relay.proofs.bytes.Walking.{led_tidy}
use Rattle.tds_relay.proofs.lending.Newly.{Cleaned, NoneCleaned, all_was, led_was, on_was, other_number, turned_was}
use Rattle.tds_relay.proofs.seats.Pools.{gone_on, turned}
use Rattle.tds_relay.proofs.spared.Cleaned.{waits_none}
use Rattle.tds_relay.proofs.spared.Held.{sits_at}

-- ---- What waits

stays_self : (o : Option (List ℕ)) → StaysAt o o
stays_self None = tt
stays_self (Some waits) = refl

pub same_stays : (o p : Option (List ℕ)) → p ≡ o → StaysAt o p
same_stays o p e = subst (λ (q : Option (List ℕ)). StaysAt o q) (sym e) (stays_self o)

pub stays_two : (o p q : Option (List ℕ)) → StaysAt o p → StaysAt p q → StaysAt o q
stays_two o p None h k = tt
stays_two o p (Some waits) h k = subst (λ (x : Option (List ℕ)). StaysAt o x) k h

ends_on : (o p : Option (List ℕ)) → EndsInCleaning o → StaysAt o p → EndsInCleaning p
ends_on o None ends k = tt
ends_on o (Some waits) ends k = subst EndsInCleaning k ends

none_ends : (o : Option (List ℕ)) → o ≡ None → EndsInCleaning o
none_ends o e = subst EndsInCleaning (sym e) tt

-- it is put behind what waits
pub put_ends : (o p : Option (List ℕ)) (out : List ℕ) → EndsCleaning text_of_cleaning [] out → FillsBy out o p → EndsInCleaning p
put_ends o None out ends fills = tt
put_ends None (Some new) out ends fills = absurd fills
put_ends (Some old) (Some new) out ends fills =
    let put = ends.1 in (
      old ++ ends.0,
      record {
        out = put.out;
        is = put.is;
        appended = fills ∙ ap (λ (xs : List ℕ). old ++ xs) put.appended ∙ sym (append_assoc old ends.0 put.out);
      },
    )

pub nothing_put : (o p : Option (List ℕ)) (out : List ℕ) → out ≡ [] → FillsBy out o p → StaysAt o p
nothing_put o None out e fills = tt
nothing_put None (Some new) out e fills = absurd fills
nothing_put (Some old) (Some new) out e fills = ap (λ (xs : List ℕ). Some xs) (sym (fills ∙ ap (λ (xs : List ℕ). old ++ xs) e ∙ append-nil old))

bytes_of : (o : Option Link) → option_map (λ (c : Carried). c.0.bytes) (option_map carried_by o) ≡ option_map bytes_on o
bytes_of None = refl
bytes_of (Some l) = refl

pub waits_carried : (n : ℕ) (ls ms : List Link) → carried_there n ms ≡ carried_there n ls → waits_on n ms ≡ waits_on n ls
waits_carried n ls ms e = sym (bytes_of (link_at n ms)) ∙ ap (option_map (λ (c : Carried). c.0.bytes)) e ∙ bytes_of (link_at n ls)

none_carried : (n : ℕ) (ls : List Link) → carried_there n ls ≡ None → waits_on n ls ≡ None
none_carried n ls e = sym (bytes_of (link_at n ls)) ∙ ap (option_map (λ (c : Carried). c.0.bytes)) e

keeps_stays : (n : ℕ) (ls ms : List Link) → KeepsWaits n ls ms → StaysAt (waits_on n ls) (waits_on n ms)
keeps_stays n ls ms (inl gone) = subst (λ (o : Option (List ℕ)). StaysAt (waits_on n ls) o) (sym (none_carried n ms gone)) tt
keeps_stays n ls ms (inr same) = same_stays (waits_on n ls) (waits_on n ms) (waits_carried n ls ms same)

-- ---- What is being cleaned is nobody's

pub place_there : (o : Option Seat) (lease : ℕ) → option_map (λ (c : Seat). c.place) o ≡ Some (Cleaning lease) → (c : Seat) × (o ≡ Some c) × (c.place ≡ Cleaning lease)
place_there None lease e = absurd (let u : ⊥ = cc in u)
place_there (Some c) lease e = (c, refl, (let u : Some c.place ≡ Some (Cleaning lease) = e in cc))

held_none : (d : Pool) (n lease : ℕ) (o : Option Hold) → IsReached d → IsCleanedBy n lease d.service → find_number n d.holds ≡ o → o ≡ None
held_none d n lease None reached at found = refl
held_none d n lease (Some h) reached at found =
    let sits : Sits d.service h = each_number (λ (y : Hold). Sits d.service y) n h d.holds (sits_at d reached) found in
    let there = place_there (seat_numbered n d.service.seats) lease at in
    let lent : there.0.place ≡ Leased h.lease = sits.lent there.0 (subst (λ (k : ℕ). seat_numbered k d.service.seats ≡ Some there.0) (sym (number_is n h d.holds found)) there.1) in
    let u : Leased h.lease ≡ Cleaning lease = sym lent ∙ there.2 in
    absurd (let v : ⊥ = cc in v)

pub unheld : (d : Pool) (n lease : ℕ) → IsReached d → IsCleanedBy n lease d.service → find_number n d.holds ≡ None
unheld d n lease reached at = held_none d n lease (find_number n d.holds) reached at refl

pub not_its : (d : Pool) (n lease key : ℕ) → IsReached d → IsCleanedBy n lease d.service → key_of (find_number n d.holds) ≢ Some key
not_its d n lease key reached at = λ e. let u : None ≡ Some key = sym (ap key_of (unheld d n lease reached at)) ∙ e in let v : ⊥ = cc in v

-- ---- From one relay to the next

pub tend_refl : (d : Pool) (ls : List Link) → CleaningsWait d ls d ls
tend_refl d ls = record { each = λ reached n lease at. inr (at, stays_self (waits_on n ls)) }

pub tend_same : (a b : code.Relay) → b.pool ≡ a.pool → b.links.items ≡ a.links.items → CleaningsWaitAt a b
tend_same a b pool links =
    subst (λ (x : pools.Pool). CleaningsWait (pool_in a.pool) a.links.items (pool_in x) b.links.items) (sym pool)
    (subst (λ (ls : List Link). CleaningsWait (pool_in a.pool) a.links.items (pool_in a.pool) ls) (sym links) (tend_refl (pool_in a.pool) a.links.items))

both_by : (Was Is : Type 0) (o p q : Option (List ℕ)) → EndsInCleaning p ⊎ (Was × StaysAt o p) → StaysAt p q → EndsInCleaning q ⊎ (Was × StaysAt o q)
both_by Was Is o p q (inl ends) k = inl (ends_on p q ends k)
both_by Was Is o p q (inr x) k = inr (x.0, stays_two o p q x.1 k)

then_by : (Was Is : Type 0) (o p q : Option (List ℕ)) → (Is → EndsInCleaning p ⊎ (Was × StaysAt o p)) → EndsInCleaning q ⊎ (Is × StaysAt p q) → EndsInCleaning q ⊎ (Was × StaysAt o q)
then_by Was Is o p q first (inl ends) = inl ends
then_by Was Is o p q first (inr x) = both_by Was Is o p q (first x.0) x.1

pub tend_both : (d e f : Pool) (ls ms ns : List Link) → (IsReached d → IsReached e) → CleaningsWait d ls e ms → CleaningsWait e ms f ns → CleaningsWait d ls f ns
tend_both d e f ls ms ns led h k = record {
  each = λ reached n lease at.
      then_by (IsCleanedBy n lease d.service) (IsCleanedBy n lease e.service) (waits_on n ls) (waits_on n ms) (waits_on n ns) (h.each reached n lease) (k.each (led reached) n lease at);
}

pub tend_on : {A E : Type 0} (r : Result A E) (a b c : code.Relay) → (IsReached (pool_in a.pool) → IsReached (pool_in b.pool)) → CleaningsWaitAt a b → OnOk r (CleaningsWaitAt b c) → OnOk r (CleaningsWaitAt a c)
tend_on (Ok v) a b c led h k = tend_both (pool_in a.pool) (pool_in b.pool) (pool_in c.pool) a.links.items b.links.items c.links.items led h k
tend_on (Err v) a b c led h k = tt

pub tend_first : {A E : Type 0} (r : Result A E) (a b c : code.Relay) → (IsReached (pool_in a.pool) → IsReached (pool_in b.pool)) → OnOk r (CleaningsWaitAt a b) → OnOk r (CleaningsWaitAt b c) → OnOk r (CleaningsWaitAt a c)
tend_first (Ok v) a b c led h k = tend_both (pool_in a.pool) (pool_in b.pool) (pool_in c.pool) a.links.items b.links.items c.links.items led h k
tend_first (Err v) a b c led h k = tt

-- where the pool stays
pub tend_pool : {A E : Type 0} (r : Result A E) (a b c : code.Relay) → b.pool ≡ a.pool → b.links.items ≡ a.links.items → OnOk r (CleaningsWaitAt b c) → OnOk r (CleaningsWaitAt a c)
tend_pool r a b c pool links k = tend_on r a b c (λ reached. subst (λ (x : pools.Pool). IsReached (pool_in x)) (sym pool) reached) (tend_same a b pool links) k

pub tend_all : (a b c : code.Relay) → (IsReached (pool_in a.pool) → IsReached (pool_in b.pool)) → CleaningsWaitAt a b → CleaningsWaitAt b c → CleaningsWaitAt a c
tend_all a b c led h k = tend_both (pool_in a.pool) (pool_in b.pool) (pool_in c.pool) a.links.items b.links.items c.links.items led h k

pub tend_at : {A E : Type 0} (r : Result A E) (d e f : Pool) (ls ms ns : List Link) → (IsReached d → IsReached e) → CleaningsWait d ls e ms → OnOk r (CleaningsWait e ms f ns) → OnOk r (CleaningsWait d ls f ns)
tend_at (Ok v) d e f ls ms ns led h k = tend_both d e f ls ms ns led h k
tend_at (Err v) d e f ls ms ns led h k = tt

-- behind it nothing changes
pub tend_linked : {A E : Type 0} (r : Result A E) (a b c : code.Relay) → CleaningsWaitAt a b → c.pool ≡ b.pool → OnOk r (c.links.items ≡ b.links.items) → OnOk r (CleaningsWaitAt a c)
tend_linked (Ok v) a b c h pool links =
    subst (λ (x : pools.Pool). CleaningsWait (pool_in a.pool) a.links.items (pool_in x) c.links.items) (sym pool)
    (subst (λ (ls : List Link). CleaningsWait (pool_in a.pool) a.links.items (pool_in b.pool) ls) (sym links) h)
tend_linked (Err v) a b c h pool links = tt

-- where none comes to be cleaned, and nothing is put
pub tend_here : (d e : Pool) (ls : List Link) → (IsReached d → NoneCleaned d e) → CleaningsWait d ls e ls
tend_here d e ls none = record { each = λ reached n lease at. inr (none reached n lease at, stays_self (waits_on n ls)) }

-- or this application's own connection alone is put on
pub tend_kept_at : {A E : Type 0} (r : Result A E) (key : ℕ) (a b : pools.Pool) (ls ms : List Link) → (IsReached (pool_in a) → OnOk r (NoneCleaned (pool_in a) (pool_in b)))
    → (IsReached (pool_in a) → OnOk r (OthersKeep key a.holds.items ls b.holds.items ms)) → OnOk r (CleaningsWait (pool_in a) ls (pool_in b) ms)
tend_kept_at (Ok v) key a b ls ms none keeps = record {
  each = λ reached n lease at.
      let was : IsCleanedBy n lease (pool_in a).service = none reached n lease at in
      let k = keeps reached n (not_its (pool_in a) n lease key reached was) in
      inr (was, same_stays (waits_on n ls) (waits_on n ms) (waits_carried n ls ms k.1));
}
tend_kept_at (Err v) key a b ls ms none keeps = tt

pub tend_kept : {A E : Type 0} (r : Result A E) (key : ℕ) (a b : code.Relay) → (IsReached (pool_in a.pool) → OnOk r (NoneCleaned (pool_in a.pool) (pool_in b.pool)))
    → (IsReached (pool_in a.pool) → OnOk r (OthersKeepAt key a b)) → OnOk r (CleaningsWaitAt a b)
tend_kept r key a b none keeps = tend_kept_at r key a.pool b.pool a.links.items b.links.items none keeps

pub none_both : (d e f : Pool) → NoneCleaned d e → NoneCleaned e f → NoneCleaned d f
none_both d e f h k = λ n lease at. h n lease (k n lease at)

pub none_same : (d e : Pool) → e ≡ d → NoneCleaned d e
none_same d e same = λ n lease at. subst (λ (x : Pool). IsCleanedBy n lease x.service) same at

pub none_on : {A E : Type 0} (r : Result A E) (d e f : Pool) → (IsReached d → IsReached e) → (IsReached d → NoneCleaned d e) → OnOk r (LedOn e f) → IsReached d → OnOk r (NoneCleaned d f)
none_on (Ok v) d e f led h goes reached = none_both d e f (h reached) (on_was e f (led reached) goes)
none_on (Err v) d e f led h goes reached = tt

pub none_led : {A E : Type 0} (r : Result A E) (d e : Pool) → OnOk r (LedOn d e) → IsReached d → OnOk r (NoneCleaned d e)
none_led (Ok v) d e goes reached = on_was d e reached goes
none_led (Err v) d e goes reached = tt

pub none_waits : {A E : Type 0} (r : Result A E) (key : ℕ) (d e : Pool) → OnOk r ((by : Cause) → CausesRequest by key → LedTo by d e) → IsReached d → OnOk r (NoneCleaned d e)
none_waits (Ok v) key d e goes reached = λ n. led_was n (suc n) d e (other_number n) reached (goes (Connection (suc n)) tt)
none_waits (Err v) key d e goes reached = tt

-- an application begins to wait
pub tend_waits_at : {A E : Type 0} (r : Result A E) (key : ℕ) (d e : Pool) (ls ms : List Link) → OnOk r ((by : Cause) → CausesRequest by key → LedTo by d e) → ms ≡ ls → OnOk r (CleaningsWait d ls e ms)
tend_waits_at (Ok v) key d e ls ms goes links = record {
  each = λ reached n lease at. inr (
    led_was n (suc n) d e (other_number n) reached (goes (Connection (suc n)) tt) lease at,
    same_stays (waits_on n ls) (waits_on n ms) (ap (waits_on n) links),
  );
}
tend_waits_at (Err v) key d e ls ms goes links = tt

pub tend_waits : {A E : Type 0} (r : Result A E) (key : ℕ) (a b : code.Relay) → OnOk r ((by : Cause) → CausesRequest by key → LedTo by (pool_in a.pool) (pool_in b.pool)) → b.links.items ≡ a.links.items → OnOk r (CleaningsWaitAt a b)
tend_waits r key a b goes links = tend_waits_at r key (pool_in a.pool) (pool_in b.pool) a.links.items b.links.items goes links

-- those who wait are served
line_by : (n lease : ℕ) (d e : pools.Pool) (ls ms : List Link) → find_number n d.holds.items ≡ None → find_number n e.holds.items ≡ None → MayBeLent n d.line.items d.holds.items ls e.holds.items ms → StaysAt (waits_on n ls) (waits_on n ms)
line_by n lease d e ls ms none still (lent.OfWaiting hold found waits) = absurd (let u : None ≡ Some hold = sym none ∙ found in let v : ⊥ = cc in v)
line_by n lease d e ls ms none still (lent.Keeps same keeps) = keeps_stays n ls ms keeps
line_by n lease d e ls ms none still (lent.Lends free some) = absurd (let u : false ≡ true = subst (λ (o : Option Hold). IsSome o) still some in let v : ⊥ = cc in v)

pub line_tends : (a b : code.Relay) → LedOn (pool_in a.pool) (pool_in b.pool) → (IsReached (pool_in a.pool) → LendsInLine a b) → CleaningsWaitAt a b
line_tends a b goes lends = record {
  each = λ reached n lease at.
      let was : IsCleanedBy n lease (pool_in a.pool).service = on_was (pool_in a.pool) (pool_in b.pool) reached goes n lease at in
      inr (
        was,
        line_by n lease a.pool b.pool a.links.items b.links.items (unheld (pool_in a.pool) n lease reached was)
            (unheld (pool_in b.pool) n lease (gone_on (pool_in a.pool) (pool_in b.pool) goes reached) at) (lends reached n),
      );
}

pub tend_line : {A E : Type 0} (r : Result A E) (a b : code.Relay) → OnOk r (LedOn (pool_in a.pool) (pool_in b.pool)) → (IsReached (pool_in a.pool) → OnOk r (LendsInLine a b)) → OnOk r (CleaningsWaitAt a b)
tend_line (Ok v) a b goes lends = line_tends a b goes lends
tend_line (Err v) a b goes lends = tt

-- ---- One is let go

-- a cleaning is put behind what cancels a request
pub cleaned_put : (text before between after : List ℕ) (s t : Service) (out : List ℕ) → between ≡ before ++ out → IsPutBehind (IsCleaning text) between after → CleansIfPut text before after s t
cleaned_put text before between after s t out is put = record { each = λ n lease at. inr (out, subst (λ (xs : List ℕ). IsPutBehind (IsCleaning text) xs after) is put) }

-- or nothing, where it drains
pub given_was : (text before after : List ℕ) (s t : Service) (lease : ℕ) → IsLed s → t ≡ (step {T = Token} s (calls.GiveBack lease)).service → CleansIfPut text before after s t
given_was text before after s t lease led is =
    record { each = λ n other at. inl (all_was n other s (calls.GiveBack lease ∷ []) (led_tidy s led) (tt, tt) (subst (λ (x : Service). IsCleanedBy n other x) is at)) }

pub put_text : (text before after : List ℕ) (s t : Service) → text ≡ text_of_cleaning → CleansIfPut text before after s t → CleansIfPut text_of_cleaning before after s t
put_text text before after s t is put = subst (λ (xs : List ℕ). CleansIfPut xs before after s t) is put

pub put_left : (o : Option Left) (left : Left) (before after out : List ℕ) (s t : Service) → o ≡ Some left → left.is_there ≡ true → before ≡ [] → out ≡ after
    → IfSome o (λ it. it.is_there ≡ true → CleansIfPut text_of_cleaning before after s t) → CleansIfPut text_of_cleaning [] out s t
put_left o left before after out s t is there empty same put =
    let h : CleansIfPut text_of_cleaning before after s t = subst (λ (x : Option Left). IfSome x (λ it. it.is_there ≡ true → CleansIfPut text_of_cleaning before after s t)) is put there in
    subst (λ (xs : List ℕ). CleansIfPut text_of_cleaning xs out s t) empty (subst (λ (xs : List ℕ). CleansIfPut text_of_cleaning before xs s t) (sym same) h)

module _ (key : ℕ) (gives : Bool) (way : pool.Way) (old mid new : code.Relay) (d : pools.Pool) (before after : List ℕ) (t : Turns (pool.Leaves key gives way) (pool_in old.pool) (pool_in d) before after)
    (at : mid.pool ≡ d) (links : mid.links.items ≡ old.links.items) where
  left_reached : IsReached (pool_in old.pool) → IsReached (pool_in mid.pool)
  left_reached reached = subst (λ (x : pools.Pool). IsReached (pool_in x)) (sym at) (turned (pool.Leaves key gives way) (pool_in old.pool) (pool_in d) before after t reached)

  left_was : (n : ℕ) → IsReached (pool_in old.pool) → ((h : Hold) → find_key key old.pool.holds.items ≡ Some h → n ≢ h.number) → Cleaned n (pool_in old.pool) (pool_in mid.pool)
  left_was n reached off = λ lease is.
      turned_was n (pool.Leaves key gives way) (pool_in old.pool) (pool_in d) before after reached t off lease (subst (λ (x : pools.Pool). IsCleanedBy n lease (pool_in x).service) at is)

  nothing_held : (o : Option Hold) → o ≡ find_key key old.pool.holds.items → IsNumberOf o None → (n : ℕ) (h : Hold) → find_key key old.pool.holds.items ≡ Some h → n ≢ h.number
  nothing_held None same is n h its = absurd (let u : None ≡ Some h = same ∙ its in let v : ⊥ = cc in v)
  nothing_held (Some x) same is n h its = absurd is

  -- nothing
  pub tend_nobody : (o : Option Hold) → o ≡ find_key key old.pool.holds.items → IsNumberOf o None → CleaningsWaitAt old mid
  tend_nobody o same is = record {
    each = λ reached n lease here. inr (left_was n reached (nothing_held o same is n) lease here, same_stays (waits_on n old.links.items) (waits_on n mid.links.items) (ap (waits_on n) links));
  }

  off_number : (left : Left) (o : Option Hold) → o ≡ find_key key old.pool.holds.items → IsNumberOf o (Some left) → (n : ℕ) → n ≢ left.number → (h : Hold) → find_key key old.pool.holds.items ≡ Some h → n ≢ h.number
  off_number left None same is n ne h its = absurd is
  off_number left (Some x) same is n ne h its =
      let u : Some x ≡ Some h = same ∙ its in
      let v : x ≡ h = cc in
      λ e. ne (e ∙ ap (λ (y : Hold). y.number) (sym v) ∙ sym is)

  own_number : (left : Left) (o : Option Hold) → o ≡ find_key key old.pool.holds.items → IsNumberOf o (Some left) → IsReached (pool_in old.pool) → key_of (find_number left.number old.pool.holds.items) ≡ Some key
  own_number left None same is reached = absurd is
  own_number left (Some h) same is reached =
      ap (λ (k : ℕ). key_of (find_number k old.pool.holds.items)) is ∙ its_holder key h old.pool.holds.items (apart_at (pool_in old.pool) reached) (sym same)

  elsewhere : (left : Left) (o : Option Hold) → o ≡ find_key key old.pool.holds.items → IsNumberOf o (Some left) → IsReached (pool_in old.pool) → OthersKeepAt key old new → NoneCleaned (pool_in mid.pool) (pool_in new.pool)
      → (n lease : ℕ) → n ≢ left.number → IsCleanedBy n lease (pool_in new.pool).service
      → EndsInCleaning (waits_on n new.links.items) ⊎ (IsCleanedBy n lease (pool_in old.pool).service × StaysAt (waits_on n old.links.items) (waits_on n new.links.items))
  elsewhere left o same is reached keeps none n lease ne here =
      let was : IsCleanedBy n lease (pool_in old.pool).service = left_was n reached (off_number left o same is n ne) lease (none n lease here) in
      let k = keeps n (not_its (pool_in old.pool) n lease key reached was) in
      inr (was, same_stays (waits_on n old.links.items) (waits_on n new.links.items) (waits_carried n old.links.items new.links.items k.1))

  -- it is closed
  pub tend_shut : {A E : Type 0} (r : Result A E) (left : Left) (o : Option Hold) → o ≡ find_key key old.pool.holds.items → IsNumberOf o (Some left) → new.pool ≡ mid.pool → OnOk r (reader_at left.number new.links.items ≡ None)
      → (IsReached (pool_in old.pool) → OnOk r (OthersKeepAt key old new)) → OnOk r (CleaningsWaitAt old new)
  tend_shut (Ok v) left o same is stays gone keeps = record {
    each = λ reached n lease here. elim (cases_eq n left.number) [
      | inl e ↦ inl (none_ends (waits_on n new.links.items) (ap (λ (k : ℕ). waits_on k new.links.items) e ∙ waits_none left.number new.links.items gone))
      | inr ne ↦ elsewhere left o same is reached (keeps reached) (none_same (pool_in mid.pool) (pool_in new.pool) (ap pool_in stays)) n lease ne here
    ];
  }
  tend_shut (Err v) left o same is stays gone keeps = tt

  let_by : (left : Left) (n lease : ℕ) → n ≡ left.number → IsReached (pool_in old.pool) → key_of (find_number left.number old.pool.holds.items) ≡ Some key
      → IsCleanedBy n lease (pool_in old.pool).service ⊎ EndsCleaning text_of_cleaning [] mid.outbox.items → FillsBy mid.outbox.items (waits_on left.number mid.links.items) (waits_on left.number new.links.items) → EndsInCleaning (waits_on n new.links.items)
  let_by left n lease e reached own (inl was) fills =
      absurd (not_its (pool_in old.pool) left.number lease key reached (subst (λ (k : ℕ). IsCleanedBy k lease (pool_in old.pool).service) e was) own)
  let_by left n lease e reached own (inr ends) fills =
      subst (λ (k : ℕ). EndsInCleaning (waits_on k new.links.items)) (sym e) (put_ends (waits_on left.number mid.links.items) (waits_on left.number new.links.items) mid.outbox.items ends fills)

  -- what goes out there waits
  pub tend_left : {A E : Type 0} (r : Result A E) (left : Left) (o : Option Hold) → o ≡ find_key key old.pool.holds.items → IsNumberOf o (Some left)
      → (IsReached (pool_in old.pool) → CleansIfPut text_of_cleaning [] mid.outbox.items (pool_in old.pool).service (pool_in d).service) → OnOk r (LedOn (pool_in mid.pool) (pool_in new.pool))
      → (find_number left.number mid.pool.holds.items ≡ None → OnOk r (FillsBy mid.outbox.items (waits_on left.number mid.links.items) (waits_on left.number new.links.items)))
      → (IsReached (pool_in old.pool) → OnOk r (OthersKeepAt key old new)) → OnOk r (CleaningsWaitAt old new)
  tend_left (Ok v) left o same is put goes fills keeps = record {
    each = λ reached n lease here.
        let none : NoneCleaned (pool_in mid.pool) (pool_in new.pool) = on_was (pool_in mid.pool) (pool_in new.pool) (left_reached reached) goes in
        elim (cases_eq n left.number) [
          | inl e ↦
              (let there : IsCleanedBy n lease (pool_in mid.pool).service = none n lease here in
              let free : find_number left.number mid.pool.holds.items ≡ None =
              subst (λ (k : ℕ). find_number k mid.pool.holds.items ≡ None) e (unheld (pool_in mid.pool) n lease (left_reached reached) there) in
              inl (let_by left n lease e reached (own_number left o same is reached)
              ((put reached).each n lease (subst (λ (x : pools.Pool). IsCleanedBy n lease (pool_in x).service) at there)) (fills free)))
          | inr ne ↦ elsewhere left o same is reached (keeps reached) none n lease ne here
        ];
  }
  tend_left (Err v) left o same is put goes fills keeps = tt
