-- Requests of others, where a connection is let go, and where an application is there no more.
use Rattle.std.proofs.Common.{◌≡◌, ◌≢◌, ◌⊎◌, ◌∙◌, ℕ, Bool, List, Option, Some, None, inl, inr, refl, sym, ap, subst}
use Rattle.std.specs.Prelude.{Result, Ok, Err, OnOk}
use Rattle.std.proofs.lemmas.Bool.{cases_eq}
use Rattle.slab.specs.Slab.{get}
use Rattle.tds_relay.specs.Reads.{waits_on}
use Rattle.tds_relay.specs.declared.application.Application.{Application}
use Rattle.tds_relay.specs.declared.pool.Pool as pools
use Rattle.tds_relay.specs.declared.pool.Hold.{Hold}
use Rattle.tds_relay.specs.declared.pool.leaving.Left.{Left}
use Rattle.tds_relay.specs.declared.relay.Relay as code
use Rattle.tds_relay.specs.Bodies.{AskAsBefore, AskOn, Body, Closed, Spared, Starts, body_in, body_of, going_of}
use Rattle.tds_relay.specs.Pool as pool
use Rattle.tds_relay.specs.Pool.{Pool, find_key, find_number, key_of}
use Rattle.tds_relay.specs.Sparing.{AllGo, AllRest, HeldConnection, HoldsOn, IsOff, OthersHold, OthersRest, Rests, SendsOn, held_at}
use Rattle.tds_relay.specs.Ties.{Application as ByApplication, IsNumberOf, IsReached, Turns, pool_in}
use Rattle.tds_relay.proofs.spared.Held.{holder_is}
use Rattle.tds_relay.proofs.steps.Reaching.{reached_on, reaches_turn}
use Rattle.tds_relay.proofs.lending.Resting.{AsksAt, all_others, go_one, going_is, goes_as, off_by, off_rests, others_both, others_rest, put_rest, rests_both, rests_by, rests_start, still_at, still_rests}

-- ---- A connection that is let go

sent_held : (key number : ℕ) (old mid new : code.Relay) (held : HeldConnection) → (held.0 ≡ number) ⊎ (held.0 ≢ number) → held_at key old.pool ≡ Some held → IsReached (pool_in old.pool) → mid.pool ≡ old.pool → AsksAt key old mid
    → ((other : ℕ) → other ≢ number → waits_on other mid.links.items ≡ waits_on other old.links.items) → AllRest mid new
    → ((k : ℕ) → key_of (find_number number (pool_in mid.pool).holds) ≡ Some k → (goes : Body) → body_in (get new.applications k) goes ≡ Closed) → Rests (body_of key old) (body_of key new)
sent_held key number old mid new held (inl same) e reached at asks waits all shuts =
    let whose : key_of (find_number number (pool_in mid.pool).holds) ≡ Some key =
    ap (λ (d : pools.Pool). key_of (find_number number d.holds.items)) at ∙ ap (λ (n : ℕ). key_of (find_number n old.pool.holds.items)) (sym same) ∙ holder_is old.pool key held reached e in
    inl (inr (shuts key whose (going_of key new)))
sent_held key number old mid new held (inr differs) e reached at asks waits all shuts =
    let off : IsOff number key old.pool = off_by key number old.pool held differs e in
    rests_both (body_of key old) (body_of key mid) (body_of key new) (off_rests number key old mid off (inl (ap (held_at key) at)) waits asks) (all.rest key)

sent_at : (key number : ℕ) (old mid new : code.Relay) (p : Option HeldConnection) → held_at key old.pool ≡ p → IsReached (pool_in old.pool) → mid.pool ≡ old.pool → AsksAt key old mid
    → ((other : ℕ) → other ≢ number → waits_on other mid.links.items ≡ waits_on other old.links.items) → AllRest mid new
    → ((k : ℕ) → key_of (find_number number (pool_in mid.pool).holds) ≡ Some k → (goes : Body) → body_in (get new.applications k) goes ≡ Closed) → Rests (body_of key old) (body_of key new)
sent_at key number old mid new None e reached at asks waits all shuts =
    rests_both (body_of key old) (body_of key mid) (body_of key new) (rests_by key old mid asks (inr (going_is key old None e))) (all.rest key)
sent_at key number old mid new (Some held) e reached at asks waits all shuts =
    sent_held key number old mid new held (cases_eq held.0 number) e reached at asks waits all shuts

-- where it is lost instead
pub sent_all : {A E : Type 0} (r : Result A E) (number : ℕ) (old mid new : code.Relay) → IsReached (pool_in old.pool) → mid.pool ≡ old.pool → AskAsBefore old.applications mid.applications
    → ((other : ℕ) → other ≢ number → waits_on other mid.links.items ≡ waits_on other old.links.items) → OnOk r (AllRest mid new)
    → OnOk r ((k : ℕ) → key_of (find_number number (pool_in mid.pool).holds) ≡ Some k → (goes : Body) → body_in (get new.applications k) goes ≡ Closed) → OnOk r (SendsOn number old new)
sent_all (Ok x) number old mid new reached at asks waits all shuts =
    inr (record {
      rest = λ key. sent_at key number old mid new (held_at key old.pool) refl reached at (λ goes. inl (asks key goes)) waits all shuts;
      holds = λ key. still_rests key old mid new (still_at key old mid at) (all.rest key) (all.holds key);
    })
sent_all (Err e) number old mid new reached at asks waits all shuts = tt

number_by : (h : Hold) (left : Left) → left.number ≡ h.number → (x : Hold) × (Some h ≡ Some x) × (left.number ≡ x.number)
number_by h left e = (h, refl, e)

number_of : (o : Option Hold) (left : Left) → IsNumberOf o (Some left) → (x : Hold) × (o ≡ Some x) × (left.number ≡ x.number)
number_of None left is = absurd is
number_of (Some h) left is = number_by h left is

-- nobody held one
pub unheld_rest : (key : ℕ) (old new : code.Relay) (d : pools.Pool) → IsReached (pool_in old.pool) → OthersHold key old.pool d → new.pool ≡ d → new.links.items ≡ old.links.items → AskAsBefore old.applications new.applications → OthersRest key old new
unheld_rest key old new d reached holds at links asks = record {
  rest = λ other differs.
      let on : HoldsOn other old.pool new.pool = subst (λ (e : pools.Pool). HoldsOn other old.pool e) (sym at) (holds.hold reached other differs) in
      rests_by other old new (λ goes. inl (asks other goes)) (goes_as other old new on (λ held e. inl (ap (waits_on held.0) links)));
  holds = λ other differs. inl (subst (λ (e : pools.Pool). HoldsOn other old.pool e) (sym at) (holds.hold reached other differs));
}

sent_by : (key number : ℕ) (g : Hold) (old mid new : code.Relay) (d : pools.Pool) → number ≡ g.number → IsReached (pool_in old.pool) → find_key key old.pool.holds.items ≡ Some g → OthersHold key old.pool d → mid.pool ≡ d
    → mid.links.items ≡ old.links.items → AskAsBefore old.applications mid.applications → AskOn mid.applications new.applications → SendsOn number mid new → OthersRest key old new
sent_by key number g old mid new d named reached its holds at links asks later (inl sent) =
    others_rest key g old new reached its (subst (λ (e : pools.Pool). OthersHold key old.pool e) (sym (sent.0 ∙ at)) holds)
    (λ n differs. sent.1 n (λ same. differs (same ∙ named)) ∙ ap (waits_on n) links)
    (λ k goes. subst (λ (b : Body). Spared b (body_in (get new.applications k) goes)) (asks k goes) (later k goes))
sent_by key number g old mid new d named reached its holds at links asks later (inr all) =
    others_both key old mid new (put_rest key g old mid d reached its holds at links asks) (all_others key mid new all)

-- what is to be sent on it for that is sent
pub left_rest : {A E : Type 0} (r : Result A E) (key : ℕ) (left : Left) (o : Option Hold) (old mid new : code.Relay) (d : pools.Pool) → o ≡ find_key key old.pool.holds.items → IsNumberOf o (Some left) → IsReached (pool_in old.pool)
    → OthersHold key old.pool d → mid.pool ≡ d → mid.links.items ≡ old.links.items → AskAsBefore old.applications mid.applications → OnOk r (AskOn mid.applications new.applications) → OnOk r (SendsOn left.number mid new)
    → OnOk r (OthersRest key old new)
left_rest (Ok x) key left o old mid new d same is reached holds at links asks later sent =
    let n = number_of o left is in
    sent_by key left.number n.0 old mid new d n.2 reached (sym same ∙ n.1) holds at links asks later sent
left_rest (Err e) key left o old mid new d same is reached holds at links asks later sent = tt

-- or it is closed
pub shut_rest : {A E : Type 0} (r : Result A E) (key : ℕ) (left : Left) (o : Option Hold) (old mid new : code.Relay) (d : pools.Pool) → o ≡ find_key key old.pool.holds.items → IsNumberOf o (Some left) → IsReached (pool_in old.pool)
    → OthersHold key old.pool d → mid.pool ≡ d → mid.links.items ≡ old.links.items → AskAsBefore old.applications mid.applications → new.pool ≡ mid.pool → OnOk r (AskOn mid.applications new.applications)
    → OnOk r ((other : ℕ) → other ≢ left.number → waits_on other new.links.items ≡ waits_on other mid.links.items) → OnOk r (OthersRest key old new)
shut_rest (Ok x) key left o old mid new d same is reached holds at links asks stays later waits =
    let n = number_of o left is in
    sent_by key left.number n.0 old mid new d n.2 reached (sym same ∙ n.1) holds at links asks later (inl (stays, waits))
shut_rest (Err e) key left o old mid new d same is reached holds at links asks stays later waits = tt

-- ---- Of one that is there no more

closed_spared : (a b : Body) → a ≡ Closed → Spared a b → b ≡ Closed
closed_spared a b e (inl same) = same ∙ e
closed_spared a b e (inr shut) = shut

closed_by : (key : ℕ) (old mid new : code.Relay) → ((goes : Body) → body_in (get mid.applications key) goes ≡ Closed) → AskOn mid.applications new.applications → Starts (body_of key old) (body_of key new)
closed_by key old mid new none later =
    let g : Body = going_of key new in
    rests_start (body_of key old) (body_of key new) (inl (inr (closed_spared (body_in (get mid.applications key) g) (body_in (get new.applications key) g) (none g) (later key g))))

pub gone_go : (key : ℕ) (old mid new : code.Relay) → ((goes : Body) → body_in (get mid.applications key) goes ≡ Closed) → AskOn mid.applications new.applications → (IsReached (pool_in old.pool) → OthersRest key old mid)
    → (IsReached (pool_in old.pool) → OthersRest key mid new) → AllGo old new
gone_go key old mid new none later first next = go_one key old new (closed_by key old mid new none later) (λ reached. others_both key old mid new (first reached) (next reached))

pub removed_rest : (key : ℕ) (old new : code.Relay) → new.pool ≡ old.pool → new.links.items ≡ old.links.items → ((other : ℕ) → other ≢ key → get new.applications other ≡ get old.applications other) → OthersRest key old new
removed_rest key old new at links same = record {
  rest = λ other differs.
      let holds : HoldsOn other old.pool new.pool = inl (ap (held_at other) at) in
      rests_by other old new (λ goes. inl (ap (λ (o : Option Application). body_in o goes) (same other differs))) (goes_as other old new holds (λ held e. inl (ap (waits_on held.0) links)));
  holds = λ other differs. still_at other old new at;
}

pub left_reached : (key : ℕ) (d e f : pools.Pool) (gives : Bool) (way : pool.Way) (before after : List ℕ) → Turns (pool.Leaves key gives way) (pool_in d) (pool_in e) before after → f ≡ e → IsReached (pool_in d) → IsReached (pool_in f)
left_reached key d e f gives way before after t same r =
    subst (λ (x : pools.Pool). IsReached (pool_in x)) (sym same)
    (reached_on (ByApplication key) (pool_in d) (pool_in e) (λ from h. reaches_turn (ByApplication key) from (pool_in d) (pool_in e) (pool.Leaves key gives way) before after t refl h) r)
