-- Who holds a connection behind a call as before it, and asks nothing that goes on: the same waits there.
use Rattle.std.proofs.Common.{◌≡◌, ◌⊎◌, ◌∙◌, ◌≤◌, ℕ, Bool, true, false, List, Option, Some, None, inl, inr, refl, sym, ap, subst, arith, if◌then◌else◌}
use Rattle.std.specs.Prelude.{Result, Ok, Err, OnOk}
use Rattle.slab.specs.Slab.{get}
use Rattle.tds_relay.specs.declared.application.Application.{Application}
use Rattle.tds_relay.specs.declared.link.Link.{Link}
use Rattle.tds_relay.specs.declared.pool.Hold.{Hold}
use Rattle.tds_relay.specs.declared.pool.Pool as pools
use Rattle.tds_relay.specs.declared.relay.Relay as code
use Rattle.tds_relay.specs.declared.state.Asking.{Asking}
use Rattle.tds_relay.specs.declared.state.Asking.TheVariants as asking
use Rattle.tds_relay.specs.Bodies.{Astray, Body, Closed, GoesFrom, IsStill, body_by, body_in, body_of, going_of, standing_in}
use Rattle.tds_relay.specs.Coming.{AskOrGo, StaysOrGoes, asking_in}
use Rattle.tds_relay.specs.Core.{holder, is_in}
use Rattle.tds_relay.specs.Lent as lent
use Rattle.tds_relay.specs.Lent.{KeepsWaits, LendsInLine, MayBeLent}
use Rattle.tds_relay.specs.Places.{is_closed, own_asking, own_held}
use Rattle.tds_relay.specs.Pool.{find_key, find_number, key_of}
use Rattle.tds_relay.specs.Reads.{StaysAt, waits_on}
use Rattle.tds_relay.specs.Sparing as sparing
use Rattle.tds_relay.specs.Sparing.{AwayRest, Rests, StartsBehind, StartsThere}
use Rattle.tds_relay.specs.Ties.{Connection, IsReached, LedOn, LedTo, Neither, pool_in}
use Rattle.tds_relay.specs.Waiting.{KeepsWaiting, RestsForHolder, RestsIfStill}
use Rattle.tds_relay.proofs.held.Fewer.{who_held}
use Rattle.tds_relay.proofs.lending.Earlier.{held_led}
use Rattle.tds_relay.proofs.lending.Leases.{goes_given}
use Rattle.tds_relay.proofs.lending.Resting.{reached_on_does}
use Rattle.tds_relay.proofs.lending.Rests.{stays_same, stays_then}
use Rattle.tds_relay.proofs.spared.Coming.{goes_there}
use Rattle.tds_relay.proofs.spared.Filling.{waits_queued}
use Rattle.tds_relay.proofs.steps.Reaching.{reached_on}
use Rattle.tds_relay.proofs.steps.Still.{moves}

-- ---- What it asks starts, where it may

behind_still : (waited : Option (List ℕ)) {a b : Body} → StartsBehind waited a b → IsStill b → b ≡ a
behind_still waited sparing.Stays still = refl
behind_still waited sparing.Closes still = absurd still
behind_still waited (sparing.Goes was out from is puts) still = absurd still

start_by : (key : ℕ) (a b : code.Relay) (o : Option Hold) → find_key key a.pool.holds.items ≡ o → (o ≡ None → ⊥) → StartsThere key a b → GoesFrom (standing_in key a) (standing_in key b) → IsStill (body_of key b)
    → (body_of key b ≡ body_of key a) × ((n : ℕ) → StaysAt (waits_on n a.links.items) (waits_on n b.links.items))
start_by key a b None its there behind puts still = absurd (there refl)
start_by key a b (Some hold) its there behind puts still =
    let same : body_of key b ≡ body_of key a = behind_still (waits_on hold.number a.links.items) (behind hold its) still in
    (same, puts.still (subst IsStill same still) still)

-- of one application
abbrev pub RestsFor : code.Relay → code.Relay → ℕ → Type 0
RestsFor a b key = IsStill (body_of key b) → (body_of key b ≡ body_of key a) × ((n : ℕ) → StaysAt (waits_on n a.links.items) (waits_on n b.links.items))

pub start_still : {A E : Type 0} (r : Result A E) (key number : ℕ) (a b : code.Relay) → holder (pool_in a.pool) number ≡ Some key → OnOk r (StartsThere key a b) → OnOk r (GoesFrom (standing_in key a) (standing_in key b))
    → OnOk r (RestsFor a b key)
start_still (Ok x) key number a b holds behind puts = λ still.
    start_by key a b (find_key key a.pool.holds.items) refl (who_held number key a.pool.holds.items holds) behind puts still
start_still (Err e) key number a b holds behind puts = tt

-- ---- And those who wait are served

astray_by : (over : Bool) (asks : Asking) (held : List ℕ) (g h : Body) → (if over then Closed else body_by asks held g) ≡ Astray → (if over then Closed else body_by asks held h) ≡ h
astray_by true asks held g h e = absurd (let u : ⊥ = cc in u)
astray_by false asking.Nothing held g h e = absurd (let u : ⊥ = cc in u)
astray_by false (asking.Waits kind whole) held g h e = absurd (let u : ⊥ = cc in u)
astray_by false asking.Goes held g h e = refl

-- what is astray goes on, wherever that is
astray_any : (o : Option Application) (g h : Body) → body_in o g ≡ Astray → body_in o h ≡ h
astray_any None g h e = absurd (let u : ⊥ = cc in u)
astray_any (Some a) g h e = astray_by (is_closed a) (own_asking a) (own_held a) g h e

going_not : (key : ℕ) (r : code.Relay) → body_of key r ≡ going_of key r → IsStill (body_of key r) → ⊥
going_not key r e still = moves r.pool.service r.links.items (find_key key r.pool.holds.items) (subst IsStill e still)

goes_not : (key : ℕ) (b : code.Relay) (was : Body) → was ≡ going_of key b → StaysOrGoes (going_of key b) was (body_of key b) → IsStill (body_of key b) → ⊥
goes_not key b was e (inl (inl same)) still = going_not key b (same ∙ e) still
goes_not key b was e (inl (inr shut)) still = subst IsStill shut still
goes_not key b was e (inr gone) still = going_not key b gone.1 still

astray_not : (key : ℕ) (a b : code.Relay) → AskOrGo a.applications b.applications → body_of key a ≡ Astray → IsStill (body_of key b) → ⊥
astray_not key a b asks astray still =
    let goes : Body = going_of key b in
    goes_not key b (asking_in a.applications key goes) (astray_any (get a.applications key) (going_of key a) goes astray) (asks.ask key goes (goes_there key b)) still

still_rests : (key : ℕ) (a b : code.Relay) → Rests (body_of key a) (body_of key b) → AskOrGo a.applications b.applications → IsStill (body_of key b) → body_of key b ≡ body_of key a
still_rests key a b (inl (inl same)) asks still = same
still_rests key a b (inl (inr shut)) asks still = absurd (subst IsStill shut still)
still_rests key a b (inr astray) asks still = absurd (astray_not key a b asks astray still)

stays_kept : (x y : Option (List ℕ)) → (y ≡ None) ⊎ (y ≡ x) → StaysAt x y
stays_kept x y (inl none) = subst (λ (o : Option (List ℕ)). StaysAt x o) (sym none) tt
stays_kept x y (inr same) = stays_same x y same

-- on the connection of one who waits for none
held_stays : (number : ℕ) (hold : Hold) (line : List ℕ) (had : List Hold) (old : List Link) (holds : List Hold) (new : List Link) → find_number number had ≡ Some hold → is_in hold.key line ≡ false
    → MayBeLent number line had old holds new → StaysAt (waits_on number old) (waits_on number new)
held_stays number hold line had old holds new was away (lent.OfWaiting h is waits) =
    let one : h ≡ hold = (let u : Some h ≡ Some hold = sym is ∙ was in cc) in
    absurd (let u : true ≡ false = sym (subst (λ (g : Hold). is_in g.key line ≡ true) one waits) ∙ away in let v : ⊥ = cc in v)
held_stays number hold line had old holds new was away (lent.Keeps same kept) = stays_kept (waits_on number old) (waits_on number new) (waits_queued number old new kept)
held_stays number hold line had old holds new was away (lent.Lends none some) = absurd (let u : None ≡ Some hold = sym none ∙ was in let v : ⊥ = cc in v)

not_in : (b c : Bool) → (c ≡ true → b ≡ true) → b ≡ false → c ≡ false
not_in b true more e = absurd (let u : true ≡ false = sym (more refl) ∙ e in let v : ⊥ = cc in v)
not_in b false more e = refl

-- ---- In a call

pub came_rests : {A E : Type 0} (r : Result A E) (number : ℕ) (old mid new : code.Relay) → IsReached (pool_in old.pool) → LedTo (Connection number) (pool_in old.pool) (pool_in mid.pool) → ((key : ℕ) → KeepsWaiting number old mid key)
    → OnOk r (LedOn (pool_in mid.pool) (pool_in new.pool)) → OnOk r (AwayRest mid new) → OnOk r (AskOrGo mid.applications new.applications) → OnOk r (LendsInLine mid new) → OnOk r (RestsForHolder number old new)
came_rests (Ok x) number old mid new reached goes keeps on aside asks lends = λ hold found le away same still.
    let there : IsReached (pool_in mid.pool) = reached_on (Connection number) (pool_in old.pool) (pool_in mid.pool) goes reached in
    let rises : old.pool.service.given ≤ mid.pool.service.given = goes_given (Connection number) (pool_in old.pool) (pool_in mid.pool) reached goes in
    let low : hold.lease ≤ old.pool.service.given = le in
    let less : hold.lease ≤ mid.pool.service.given = omega (arith, rises, low) in
    let was : find_number number mid.pool.holds.items ≡ Some hold = held_led Neither (pool_in mid.pool) (pool_in new.pool) number hold there (on Neither) less found in
    let its = keeps hold.key (ap key_of was) in
    let out : is_in hold.key mid.pool.line.items ≡ false = not_in (is_in hold.key old.pool.line.items) (is_in hold.key mid.pool.line.items) its.away away in
    let later : body_of hold.key new ≡ body_of hold.key mid = still_rests hold.key mid new (aside.rest hold.key out) asks still in
    stays_then (waits_on number old.links.items) (waits_on number mid.links.items) (waits_on number new.links.items) (its.waits (sym later ∙ same) (subst IsStill later still))
    (held_stays number hold mid.pool.line.items mid.pool.holds.items mid.links.items new.pool.holds.items new.links.items was out (lends number))
came_rests (Err e) number old mid new reached goes keeps on aside asks lends = tt

pub opened_rests : {A E : Type 0} (r : Result A E) (number : ℕ) (old at mid new : code.Relay) → IsReached (pool_in old.pool) → at.pool ≡ old.pool → ((n : ℕ) → waits_on n at.links.items ≡ waits_on n old.links.items)
    → LedOn (pool_in at.pool) (pool_in mid.pool) → mid.pool.line.items ≡ at.pool.line.items → RestsIfStill number at mid → OnOk r (LedOn (pool_in mid.pool) (pool_in new.pool)) → (IsReached (pool_in mid.pool) → OnOk r (AwayRest mid new))
    → OnOk r (AskOrGo mid.applications new.applications) → (IsReached (pool_in mid.pool) → OnOk r (LendsInLine mid new)) → OnOk r (RestsForHolder number old new)
opened_rests (Ok x) number old at mid new reached pool waits goes line rests on aside asks lends = λ hold found le away same still.
    let led : IsReached (pool_in at.pool) = subst (λ (d : pools.Pool). IsReached (pool_in d)) (sym pool) reached in
    let there : IsReached (pool_in mid.pool) = reached_on_does (pool_in at.pool) (pool_in mid.pool) goes led in
    let low : hold.lease ≤ at.pool.service.given = subst (λ (d : pools.Pool). hold.lease ≤ d.service.given) (sym pool) le in
    let rises : at.pool.service.given ≤ mid.pool.service.given = goes_given Neither (pool_in at.pool) (pool_in mid.pool) led (goes Neither) in
    let less : hold.lease ≤ mid.pool.service.given = omega (arith, rises, low) in
    let was : find_number number mid.pool.holds.items ≡ Some hold = held_led Neither (pool_in mid.pool) (pool_in new.pool) number hold there (on Neither) less found in
    let first : find_number number at.pool.holds.items ≡ Some hold = held_led Neither (pool_in at.pool) (pool_in mid.pool) number hold led (goes Neither) low was in
    let out : is_in hold.key mid.pool.line.items ≡ false = ap (is_in hold.key) line ∙ ap (λ (d : pools.Pool). is_in hold.key d.line.items) pool ∙ away in
    let later : body_of hold.key new ≡ body_of hold.key mid = still_rests hold.key mid new ((aside there).rest hold.key out) asks still in
    let its = rests hold.key (ap key_of first) (subst IsStill later still) in
    stays_then (waits_on number old.links.items) (waits_on number mid.links.items) (waits_on number new.links.items)
    (subst (λ (o : Option (List ℕ)). StaysAt o (waits_on number mid.links.items)) (waits number) (its.1 number))
    (held_stays number hold mid.pool.line.items mid.pool.holds.items mid.links.items new.pool.holds.items new.links.items was out (lends there number))
opened_rests (Err e) number old at mid new reached pool waits goes line rests on aside asks lends = tt
