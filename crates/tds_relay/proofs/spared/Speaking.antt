-- Others' requests, behind what is done for one application by what it says.
use Rattle.std.proofs.Common.{◌≡◌, ◌≢◌, ◌∙◌, ℕ, List, Option, Some, None, inl, sym, ap, subst}
use Rattle.std.specs.Prelude.{Result, Ok, Err, OnOk}
use Rattle.std.proofs.lemmas.List.{get_or-set_other}
use Rattle.slab.specs.Slab.{Slab, get, with_value}
use Rattle.tds_relay.specs.declared.application.Application.{Application}
use Rattle.tds_relay.specs.declared.pool.Pool as pools
use Rattle.tds_relay.specs.declared.pool.Hold.{Hold}
use Rattle.tds_relay.specs.declared.relay.Relay as code
use Rattle.tds_relay.specs.Bodies.{AskAsBefore, AskOn, ClientStops, IsHalting, Starts, body_in, body_of, going_of}
use Rattle.tds_relay.specs.Pool.{find_key}
use Rattle.tds_relay.specs.Reads.{waits_on}
use Rattle.tds_relay.specs.Sparing.{AllGo, OthersGo, OthersHold, OthersRest}
use Rattle.tds_relay.specs.Ties.{Application as ByApplication, LedTo, IsReached, Leaving, pool_in}
use Rattle.tds_relay.proofs.spared.Held.{action_same, held_as}
use Rattle.tds_relay.proofs.lending.Resting.{asks_on, goes_as, others_rest, rests_by, rests_start, starts_both}
use Rattle.tds_relay.proofs.steps.Reaching.{reached_on, reaches_left}

-- ---- What is done at the pool

-- on what one of them holds, whatever that is
pub done_rest : (key : ℕ) (old new : code.Relay) → IsReached (pool_in old.pool) → OthersHold key old.pool new.pool → new.links.items ≡ old.links.items → AskOn old.applications new.applications → OthersRest key old new
done_rest key old new reached holds links asks = record {
  rest = λ other differs. rests_by other old new (asks other) (goes_as other old new (holds.hold reached other differs) (λ held e. inl (ap (waits_on held.0) links)));
  holds = λ other differs. inl (holds.hold reached other differs);
}

pub done_as : (key : ℕ) (old new : code.Relay) → IsReached (pool_in old.pool) → OthersHold key old.pool new.pool → new.links.items ≡ old.links.items → AskAsBefore old.applications new.applications → OthersRest key old new
done_as key old new reached holds links asks = done_rest key old new reached holds links (asks_on old new asks)

-- One waits no more: all hold what they held, and its application alone is written back.
pub unwaited_rest : (key : ℕ) (old new : code.Relay) → new.pool.holds.items ≡ old.pool.holds.items → new.pool.service ≡ old.pool.service → new.links.items ≡ old.links.items → new.applications ≡ old.applications → OthersRest key old new
unwaited_rest key old new holds service links apps = record {
  rest = λ other differs.
      rests_by other old new (λ goes. inl (ap (λ (s : Slab Application). body_in (get s other) goes) apps))
      (goes_as other old new (held_as other old.pool new.pool holds service) (λ held e. inl (ap (waits_on held.0) links)));
  holds = λ other differs. inl (held_as other old.pool new.pool holds service);
}

pub forgotten_rest : (key : ℕ) (a : Application) (old new : code.Relay) → new.pool.holds.items ≡ old.pool.holds.items → new.pool.service ≡ old.pool.service → new.links.items ≡ old.links.items
    → new.applications ≡ with_value old.applications key a → OthersRest key old new
forgotten_rest key a old new holds service links apps = record {
  rest = λ other differs.
      let same : get new.applications other ≡ get old.applications other =
      ap (λ (s : Slab Application). get s other) apps ∙ get_or-set_other old.applications.slots key other (Some a) None differs in
      rests_by other old new (λ goes. inl (ap (λ (o : Option Application). body_in o goes) same))
      (goes_as other old new (held_as other old.pool new.pool holds service) (λ held e. inl (ap (waits_on held.0) links)));
  holds = λ other differs. inl (held_as other old.pool new.pool holds service);
}

-- One begins to wait.
pub waited_rest : {A E : Type 0} (r : Result A E) (key : ℕ) (old new : code.Relay) → ((other : ℕ) → body_of other new ≡ body_of other old) → new.pool.service ≡ old.pool.service
    → OnOk r (new.pool.holds.items ≡ old.pool.holds.items) → OnOk r (OthersRest key old new)
waited_rest (Ok x) key old new same service holds = record { rest = λ other differs. inl (inl (same other)); holds = λ other differs. inl (held_as other old.pool new.pool holds service) }
waited_rest (Err e) key old new same service holds = tt

-- behind being written back
pub written_waited : {A E : Type 0} (r : Result A E) (key : ℕ) (a : Application) (old new : code.Relay) → ((other : ℕ) → body_of other new ≡ body_in (get (with_value old.applications key a) other) (going_of other old))
    → new.pool.service ≡ old.pool.service → OnOk r (new.pool.holds.items ≡ old.pool.holds.items) → OnOk r (OthersRest key old new)
written_waited (Err e) key a old new waits service holds = tt
written_waited (Ok x) key a old new waits service holds = record {
  rest = λ other differs.
      let same : get (with_value old.applications key a) other ≡ get old.applications other = get_or-set_other old.applications.slots key other (Some a) None differs in
      inl (inl (waits other ∙ ap (λ (o : Option Application). body_in o (going_of other old)) same));
  holds = λ other differs. inl (held_as other old.pool new.pool holds service);
}

-- ---- What is put

-- on the connection that it holds
pub filled_rest : (key number : ℕ) (hold : Hold) (old new : code.Relay) → IsReached (pool_in old.pool) → find_key key old.pool.holds.items ≡ Some hold → hold.number ≡ number → new.pool ≡ old.pool
    → ((other : ℕ) → other ≢ number → waits_on other new.links.items ≡ waits_on other old.links.items) → AskAsBefore old.applications new.applications → OthersRest key old new
filled_rest key number hold old new reached its same at waits asks =
    others_rest key hold old new reached its (action_same old.pool new.pool key at) (λ n differs. waits n (λ e. differs (e ∙ sym same))) (asks_on old new asks)

pub filled_at : (old new : code.Relay) → new.pool ≡ old.pool → IsReached (pool_in old.pool) → IsReached (pool_in new.pool)
filled_at old new at reached = subst (λ (d : pools.Pool). IsReached (pool_in d)) (sym at) reached

-- what its cancel puts out
pub halting_held : (number key : ℕ) (old new : code.Relay) → (h : IsHalting number key old new) → find_key key new.pool.holds.items ≡ Some h.hold
halting_held number key old new h = ap (find_key key) h.stops.same ∙ h.its

pub stopped_held : (key : ℕ) (d e : pools.Pool) (hold : Hold) (before after : List ℕ) → ClientStops key d e before after → find_key key d.holds.items ≡ Some hold → find_key key e.holds.items ≡ Some hold
stopped_held key d e hold before after s its = ap (find_key key) s.same ∙ its

-- ---- Where a pool was reached

pub reached_by : (key : ℕ) (old new : pools.Pool) → LedTo (ByApplication key) (pool_in old) (pool_in new) → IsReached (pool_in old) → IsReached (pool_in new)
reached_by key old new goes reached = reached_on (ByApplication key) (pool_in old) (pool_in new) goes reached

pub reached_left : (key : ℕ) (old new : pools.Pool) → Leaving key (pool_in old) (pool_in new) → IsReached (pool_in old) → IsReached (pool_in new)
reached_left key old new leaving reached = reached_on (ByApplication key) (pool_in old) (pool_in new) (λ from h. reaches_left key from (pool_in old) (pool_in new) leaving h) reached

-- ---- Whoever waits is served then

served_others : (key : ℕ) (a b c : code.Relay) → OthersRest key a b → AllGo b c → IsReached (pool_in b.pool) → (other : ℕ) → other ≢ key → Starts (body_of other a) (body_of other c)
served_others key a b c h k reached other differs = starts_both (rests_start (body_of other a) (body_of other b) (h.rest other differs)) (k.go reached other)

pub others_served : {A E : Type 0} (r : Result A E) (key : ℕ) (a b c : code.Relay) → LedTo (ByApplication key) (pool_in a.pool) (pool_in b.pool) → (IsReached (pool_in a.pool) → OthersRest key a b) → OnOk r (AllGo b c) → OnOk r (OthersGo key a c)
others_served (Ok x) key a b c goes h k = record { go = λ reached other differs. served_others key a b c (h reached) k (reached_by key a.pool b.pool goes reached) other differs }
others_served (Err e) key a b c goes h k = tt

-- ---- Its connection is closed

pub closed_rest : {A E : Type 0} (r : Result A E) (key number : ℕ) (g : Hold) (old new : code.Relay) (d : pools.Pool) → IsReached (pool_in old.pool) → find_key key old.pool.holds.items ≡ Some g → number ≡ g.number → OthersHold key old.pool d
    → new.pool ≡ d → OnOk r ((other : ℕ) → other ≢ number → waits_on other new.links.items ≡ waits_on other old.links.items) → OnOk r (AskOn old.applications new.applications) → OnOk r (OthersRest key old new)
closed_rest (Ok x) key number g old new d reached its same holds at waits asks =
    others_rest key g old new reached its (subst (λ (e : pools.Pool). OthersHold key old.pool e) (sym at) holds) (λ n differs. waits n (λ e. differs (e ∙ same))) asks
closed_rest (Err e) key number g old new d reached its same holds at waits asks = tt
