-- Nothing is put in front of what an application asks that is lent a connection behind packets.
use Rattle.std.proofs.Common.{◌≡◌, ◌≢◌, ◌⊎◌, ◌∙◌, ◌≤◌, ℕ, true, List, [], Some, None, inl, inr, refl, sym, ap, subst, arith}
use Rattle.std.specs.Prelude.{Result, Ok, Err, OnOk}
use Rattle.std.proofs.lemmas.Bool.{cases_eq}
use Rattle.tds_relay.specs.declared.relay.Relay as code
use Rattle.tds_relay.specs.Apart.{SparesOthers}
use Rattle.tds_relay.specs.Bodies.{Astray, Body, Closed, Going, IsStill, IsUnsent, Kept, Nowhere, body_of}
use Rattle.tds_relay.specs.Cleaning.{CleansAlone}
use Rattle.tds_relay.specs.Coming.{AllAlong}
use Rattle.tds_relay.specs.Core.{holder, is_in}
use Rattle.tds_relay.specs.Fronts.{core_in, machine_in}
use Rattle.tds_relay.specs.Lent.{AsksBehind, FirstKeeps, IsAskedOn, LendsBehind, OthersKeepAt}
use Rattle.tds_relay.specs.Machine.{IsLedTo}
use Rattle.tds_relay.specs.Pool.{Sharing, find_number, key_of}
use Rattle.tds_relay.specs.Reads.{carried_there, waits_on}
use Rattle.tds_relay.specs.Sparing.{OthersRest}
use Rattle.tds_relay.specs.Ties.{IsReached, LedOn, pool_in}
use Rattle.tds_relay.specs.Waiting.{AsksSaying, AsksSince, IsItsHolders, IsTakenTo, LendsHearing, LendsSaying, OfAnother, OfItself}
use Rattle.tds_relay.proofs.lending.Drained.{alone_on, unheld}
use Rattle.tds_relay.proofs.lending.Freed.{free_own, no_holder}
use Rattle.tds_relay.proofs.lending.Front.{Stands, asked_first, asks_from, rest_asks, unheld_led, unheld_stands}
use Rattle.tds_relay.proofs.lending.Leases.{on_given}
use Rattle.tds_relay.proofs.spared.Filling.{waits_queued}

unsent_by : (b : Body) → Stands b → IsUnsent b ⊎ (b ≡ Astray)
unsent_by Closed h = inl tt
unsent_by Nowhere h = inl tt
unsent_by (Kept kind bytes whole) h = inl tt
unsent_by Astray h = inr refl
unsent_by (Going number client waits) h = absurd h

module _ (sharing : Sharing) (number : ℕ) (old mid new : code.Relay) (led : IsLedTo sharing (machine_in mid)) (reached : IsReached (pool_in mid.pool)) (rises : old.pool.service.last ≤ mid.pool.service.last)
    (spares : SparesOthers number None (core_in old) (core_in mid))
    (cleans : holder (pool_in old.pool) number ≡ None → CleansAlone old.pool.service.given mid.pool.service.given (waits_on number old.links.items) (waits_on number mid.links.items)) (along : AllAlong old mid)
    (on : LedOn (pool_in mid.pool) (pool_in new.pool)) (so : LendsBehind mid new) where
  up : (n : ℕ) → n ≤ old.pool.service.last → n ≤ mid.pool.service.last
  up n le = let low : n ≤ old.pool.service.last = le in omega (arith, low, rises)

  -- nobody is lent it before
  free_here : holder (pool_in old.pool) number ≡ None → holder (pool_in mid.pool) number ≡ None
  free_here none =
      ap key_of (unheld (find_number number mid.pool.holds.items)
      (λ key. (spares key (λ e. let u : None ≡ Some key = e in let v : ⊥ = cc in v) (λ e. let u : None ≡ Some key = sym none ∙ e in let v : ⊥ = cc in v)).0))

  -- it is lent this one
  asks_here : (n key : ℕ) → n ≤ old.pool.service.last → holder (pool_in old.pool) n ≡ None → holder (pool_in new.pool) n ≡ Some key → n ≡ number → AsksSince number n key old new
  asks_here n key le off is same =
      let none : holder (pool_in old.pool) number ≡ None = subst (λ (k : ℕ). holder (pool_in old.pool) k ≡ None) same off in
      let free : holder (pool_in mid.pool) n ≡ None = subst (λ (k : ℕ). holder (pool_in mid.pool) k ≡ None) (sym same) (free_here none) in
      let z = so n key (up n le) free is in
      record {
        waited = waits_on n mid.links.items;
        cleans =
            inr (
              same,
              subst (λ (k : ℕ). CleansAlone old.pool.service.given new.pool.service.given (waits_on k old.links.items) (waits_on k mid.links.items)) (sym same)
                  (alone_on old.pool.service.given mid.pool.service.given new.pool.service.given (waits_on number old.links.items) (waits_on number mid.links.items) (on_given (pool_in mid.pool) (pool_in new.pool) reached on) (cleans none)),
            );
        mid = body_of key mid;
        along = along.along key;
        unsent = unsent_by (body_of key mid) (unheld_stands key mid (unheld_led sharing key mid led z.0));
        asks = z.1;
        asked = z.2;
      }

  -- or another
  asks_there : (n key : ℕ) → n ≤ old.pool.service.last → holder (pool_in old.pool) n ≡ None → holder (pool_in new.pool) n ≡ Some key → n ≢ number
      → IsItsHolders number old n ⊎ ((find_number n mid.pool.holds.items ≡ find_number n old.pool.holds.items) × (carried_there n mid.links.items ≡ carried_there n old.links.items)) → AsksSince number n key old new
  asks_there n key le off is differs (inl (inl same)) = absurd (differs same)
  asks_there n key le off is differs (inl (inr x)) = absurd (no_holder (holder (pool_in old.pool) n) (holder (pool_in old.pool) number) off x)
  asks_there n key le off is differs (inr k) =
      let z = so n key (up n le) (ap key_of k.0 ∙ off) is in
      record {
        waited = waits_on n old.links.items;
        cleans = inl (differs, refl);
        mid = body_of key mid;
        along = along.along key;
        unsent = unsent_by (body_of key mid) (unheld_stands key mid (unheld_led sharing key mid led z.0));
        asks =
            asks_from (waits_on n old.links.items) (waits_on n mid.links.items) (waits_on n new.links.items) (body_of key mid) (body_of key new) (waits_queued n old.links.items mid.links.items (inr k.1)) z.1;
        asked = z.2;
      }

  asks_either : (n key : ℕ) → n ≤ old.pool.service.last → holder (pool_in old.pool) n ≡ None → holder (pool_in new.pool) n ≡ Some key → FirstKeeps (IsItsHolders number old) old mid → (n ≡ number) ⊎ (n ≢ number) → AsksSince number n key old new
  asks_either n key le off is keeps (inl same) = asks_here n key le off is same
  asks_either n key le off is keeps (inr differs) = asks_there n key le off is differs (keeps n)

  pub lends_since : FirstKeeps (IsItsHolders number old) old mid → LendsHearing number old new
  lends_since keeps = λ n key le off is. asks_either n key le off is keeps (cases_eq n number)

pub since_on : {A E : Type 0} (r : Result A E) (sharing : Sharing) (number : ℕ) (old mid new : code.Relay) → IsLedTo sharing (machine_in mid) → IsReached (pool_in mid.pool) → old.pool.service.last ≤ mid.pool.service.last
    → SparesOthers number None (core_in old) (core_in mid)
    → (holder (pool_in old.pool) number ≡ None → CleansAlone old.pool.service.given mid.pool.service.given (waits_on number old.links.items) (waits_on number mid.links.items)) → AllAlong old mid
    → OnOk r (LedOn (pool_in mid.pool) (pool_in new.pool)) → OnOk r (LendsBehind mid new) → FirstKeeps (IsItsHolders number old) old mid → OnOk r (LendsHearing number old new)
since_on (Ok x) sharing number old mid new led reached rises spares cleans along on so keeps = lends_since sharing number old mid new led reached rises spares cleans along on so keeps
since_on (Err e) sharing number old mid new led reached rises spares cleans along on so keeps = tt

-- ---- Or behind what an application says

module _ (sharing : Sharing) (key : ℕ) (bytes : List ℕ) (old mid new : code.Relay) (led : IsLedTo sharing (machine_in mid)) (rises : old.pool.service.last ≤ mid.pool.service.last) (taken : IsTakenTo key bytes [] old mid) (others : OthersRest key old mid)
    (keeps : OthersKeepAt key old mid) (before : (other : ℕ) → other ≢ key → is_in other mid.pool.line.items ≡ true → is_in other old.pool.line.items ≡ true) (so : LendsBehind mid new) where
  abbrev Lent : ℕ → ℕ → Type 0
  Lent number other =
      (is_in other mid.pool.line.items ≡ true) × AsksBehind (waits_on number old.links.items) (waits_on number new.links.items) (body_of other mid) (body_of other new)
      × (IsStill (body_of other mid) → IsAskedOn number other new)

  lent_from : (number other : ℕ) → number ≤ old.pool.service.last → holder (pool_in old.pool) number ≡ None → holder (pool_in new.pool) number ≡ Some other → Lent number other
  lent_from number other le off is =
      let f = free_own key old mid keeps number off in
      let low : number ≤ old.pool.service.last = le in
      let z = so number other (let u : number ≤ mid.pool.service.last = omega (arith, low, rises) in u) f.0 is in
      (z.0, asks_from (waits_on number old.links.items) (waits_on number mid.links.items) (waits_on number new.links.items) (body_of other mid) (body_of other new) (waits_queued number old.links.items mid.links.items f.1) z.1, z.2)

  says_so : (number other : ℕ) → Lent number other → (other ≡ key) ⊎ (other ≢ key) → AsksSaying key bytes number other old new
  says_so number other z (inl same) =
      let own : Lent number key = subst (λ (k : ℕ). Lent number k) same z in
      OfItself mid same taken (unsent_by (body_of key mid) (unheld_stands key mid (unheld_led sharing key mid led own.0))) own.1 own.2
  says_so number other z (inr differs) =
      OfAnother differs (before other differs z.0)
      (rest_asks (waits_on number old.links.items) (waits_on number new.links.items) (body_of other old) (body_of other mid) (body_of other new) (others.rest other differs) z.1)
      (asked_first number other (waits_on number old.links.items) (body_of other old) (body_of other mid) new (others.rest other differs) z.1.starts z.2)

  pub lends_saying : LendsSaying key bytes old new
  lends_saying = λ number other le off is. says_so number other (lent_from number other le off is) (cases_eq other key)

pub saying_on : {A E : Type 0} (r : Result A E) (sharing : Sharing) (key : ℕ) (bytes : List ℕ) (old mid new : code.Relay) → IsLedTo sharing (machine_in mid) → old.pool.service.last ≤ mid.pool.service.last → IsTakenTo key bytes [] old mid → OthersRest key old mid
    → OthersKeepAt key old mid → ((other : ℕ) → other ≢ key → is_in other mid.pool.line.items ≡ true → is_in other old.pool.line.items ≡ true) → OnOk r (LendsBehind mid new) → OnOk r (LendsSaying key bytes old new)
saying_on (Ok x) sharing key bytes old mid new led rises taken others keeps before so = lends_saying sharing key bytes old mid new led rises taken others keeps before so
saying_on (Err e) sharing key bytes old mid new led rises taken others keeps before so = tt
