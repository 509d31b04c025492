-- Requests that stay where they are, behind what is done for another application.
use Rattle.std.proofs.Common.{◌≡◌, ◌≢◌, ◌⊎◌, ◌∙◌, ◌==◌, ◌++◌, ℕ, Bool, true, false, List, [], ◌∷◌, Option, Some, None, inl, inr, refl, sym, ap, subst, option_map, if◌then◌else◌}
use Rattle.std.specs.Prelude.{Result, Ok, Err, OnOk}
use Rattle.std.proofs.lemmas.Bool.{cases_eq}
use Rattle.std.proofs.lemmas.List.{get_or-set_other}
use Rattle.slab.specs.Slab.{Slab, get, with_value}
use Rattle.tds_client.specs.Session.{ClientSession}
use Rattle.tds_service.specs.declared.service.Service as services
use Rattle.tds_service.specs.Table.{client_of}
use Rattle.tds_relay.specs.declared.application.Application.{Application}
use Rattle.tds_relay.specs.declared.state.Asking.{Asking}
use Rattle.tds_relay.specs.declared.state.Asking.TheVariants as asking
use Rattle.tds_relay.specs.declared.pool.Pool as pools
use Rattle.tds_relay.specs.declared.pool.Hold.{Hold}
use Rattle.tds_relay.specs.declared.link.Link.{Link}
use Rattle.tds_relay.specs.declared.relay.Relay as code
use Rattle.tds_relay.specs.Bodies.{AskAsBefore, AskOn, Astray, Body, Closed, Closes, Goes, Spared, Starts, Stays, Strays, body_by, body_in, body_of, going, going_by, going_of}
use Rattle.tds_relay.specs.Pool as pool
use Rattle.tds_relay.specs.Pool.{Pool, find_key, find_number, key_of}
use Rattle.tds_relay.specs.Reads.{link_at, bytes_on, waits_on}
use Rattle.tds_relay.specs.Sparing.{AllGo, AllHold, AllRest, HeldConnection, HoldsOn, HoldsStill, IsOff, OffHold, OthersHold, OthersRest, Rests, held_at, held_with_client}
use Rattle.tds_relay.specs.Ties.{CausesAction, LedOn, IsReached, Neither, Turns, pool_in}
use Rattle.tds_relay.proofs.spared.Held.{holder_is, off_others, on_both}
use Rattle.tds_relay.proofs.steps.Reaching.{reached_on, reaches_turn}
use Rattle.tds_relay.specs.Places.{is_closed, own_asking, own_held}

-- ---- One after the other

pub rests_both : (a b c : Body) → Rests a b → Rests b c → Rests a c
rests_both a b c (inl (inl e)) (inl (inl f)) = inl (inl (f ∙ e))
rests_both a b c (inl (inr e)) (inl (inl f)) = inl (inr (f ∙ e))
rests_both a b c h (inl (inr f)) = inl (inr f)
rests_both a b c (inl (inl e)) (inr f) = inr (sym e ∙ f)
rests_both a b c (inl (inr e)) (inr f) = absurd (let u : Closed ≡ Astray = sym e ∙ f in let v : ⊥ = cc in v)
rests_both a b c (inr e) k = inr e

pub starts_both : {a b c : Body} → Starts a b → Starts b c → Starts a c
starts_both s Stays = s
starts_both s Closes = Closes
starts_both Stays Strays = Strays
starts_both Strays Strays = Strays
starts_both Stays (Goes waits out from puts) = Goes waits out from puts
starts_both Strays (Goes waits out from puts) = Strays

pub rests_start : (a b : Body) → Rests a b → Starts a b
rests_start a b (inl (inl e)) = subst (λ (x : Body). Starts a x) (sym e) Stays
rests_start a b (inl (inr e)) = subst (λ (x : Body). Starts a x) (sym e) Closes
rests_start a b (inr e) = subst (λ (x : Body). Starts x b) (sym e) Strays

pub closed_on : {b : Body} → Starts Closed b → Closed ≡ b
closed_on Stays = refl
closed_on Closes = refl

-- what it holds, where its body stays or starts behind that
pub still_both : (key : ℕ) (a b c : code.Relay) → HoldsStill key a b → Starts (body_of key b) (body_of key c) → HoldsStill key b c → HoldsStill key a c
still_both key a b c (inl h) starts (inl k) = inl (on_both a.pool b.pool c.pool key h k)
still_both key a b c h starts (inr shut) = inr shut
still_both key a b c (inr shut) starts (inl k) = inr (sym (closed_on (subst (λ (x : Body). Starts x (body_of key c)) shut starts)))

pub still_rests : (key : ℕ) (a b c : code.Relay) → HoldsStill key a b → Rests (body_of key b) (body_of key c) → HoldsStill key b c → HoldsStill key a c
still_rests key a b c h rests k = still_both key a b c h (rests_start (body_of key b) (body_of key c) rests) k

pub still_at : (key : ℕ) (a b : code.Relay) → b.pool ≡ a.pool → HoldsStill key a b
still_at key a b at = inl (inl (ap (held_at key) at))

pub all_refl : (r : code.Relay) → AllRest r r
all_refl r = record { rest = λ key. inl (inl refl); holds = λ key. inl (inl refl) }

pub all_both : (a b c : code.Relay) → AllRest a b → AllRest b c → AllRest a c
all_both a b c h k = record {
  rest = λ key. rests_both (body_of key a) (body_of key b) (body_of key c) (h.rest key) (k.rest key);
  holds = λ key. still_rests key a b c (h.holds key) (k.rest key) (k.holds key);
}

pub others_refl : (key : ℕ) (r : code.Relay) → OthersRest key r r
others_refl key r = record { rest = λ other differs. inl (inl refl); holds = λ other differs. inl (inl refl) }

pub others_both : (key : ℕ) (a b c : code.Relay) → OthersRest key a b → OthersRest key b c → OthersRest key a c
others_both key a b c h k = record {
  rest = λ other differs. rests_both (body_of other a) (body_of other b) (body_of other c) (h.rest other differs) (k.rest other differs);
  holds = λ other differs. still_rests other a b c (h.holds other differs) (k.rest other differs) (k.holds other differs);
}

pub all_others : (key : ℕ) (a b : code.Relay) → AllRest a b → OthersRest key a b
all_others key a b h = record { rest = λ other differs. h.rest other; holds = λ other differs. h.holds other }

pub go_refl : (r : code.Relay) → AllGo r r
go_refl r = record { go = λ reached key. Stays }

pub go_both : (a b c : code.Relay) → (IsReached (pool_in a.pool) → IsReached (pool_in b.pool)) → AllGo a b → AllGo b c → AllGo a c
go_both a b c led h k = record { go = λ reached key. starts_both (h.go reached key) (k.go (led reached) key) }

pub rest_go : (a b : code.Relay) → (IsReached (pool_in a.pool) → AllRest a b) → AllGo a b
rest_go a b h = record { go = λ reached key. rests_start (body_of key a) (body_of key b) ((h reached).rest key) }

start_by : (key other : ℕ) (a b : code.Relay) → (other ≡ key) ⊎ (other ≢ key) → Starts (body_of key a) (body_of key b) → OthersRest key a b → Starts (body_of other a) (body_of other b)
start_by key other a b (inl e) own others = subst (λ (k : ℕ). Starts (body_of k a) (body_of k b)) (sym e) own
start_by key other a b (inr differs) own others = rests_start (body_of other a) (body_of other b) (others.rest other differs)

-- one starts, and the others stay
pub go_one : (key : ℕ) (a b : code.Relay) → Starts (body_of key a) (body_of key b) → (IsReached (pool_in a.pool) → OthersRest key a b) → AllGo a b
go_one key a b own others = record { go = λ reached other. start_by key other a b (cases_eq other key) own (others reached) }

-- ---- What goes on

abbrev going_held : List Link → Option HeldConnection → Body
going_held ls None = Astray
going_held ls (Some held) = going_by held.0 (Some held.1) (waits_on held.0 ls)

going_client : (h : Hold) (ls : List Link) (o : Option ClientSession) → going_by h.number o (waits_on h.number ls) ≡ going_held ls (option_map (λ (c : ClientSession). let x : HeldConnection = (h.number, c) in x) o)
going_client h ls None = refl
going_client h ls (Some c) = refl

going_by_held : (s : services.Service) (ls : List Link) (o : Option Hold) → going s ls o ≡ going_held ls (held_with_client s o)
going_by_held s ls None = refl
going_by_held s ls (Some h) = going_client h ls (client_of h.lease s)

pub going_is : (key : ℕ) (r : code.Relay) (o : Option HeldConnection) → held_at key r.pool ≡ o → going_of key r ≡ going_held r.links.items o
going_is key r o e = going_by_held r.pool.service r.links.items (find_key key r.pool.holds.items) ∙ ap (going_held r.links.items) e

-- It goes on so; or it is astray.
abbrev pub GoesAs : Body → Body → Type 0
GoesAs old new = (new ≡ old) ⊎ (old ≡ Astray)

-- What waits on a connection that is held waits there; or there is none.
abbrev pub WaitsAs : ℕ → code.Relay → code.Relay → Type 0
WaitsAs key old new = (held : HeldConnection) → held_at key old.pool ≡ Some held
    → (waits_on held.0 new.links.items ≡ waits_on held.0 old.links.items) ⊎ (waits_on held.0 old.links.items ≡ None)

waits_goes : (key : ℕ) (old new : code.Relay) (held : HeldConnection) → held_at key old.pool ≡ Some held → held_at key new.pool ≡ held_at key old.pool
    → (waits_on held.0 new.links.items ≡ waits_on held.0 old.links.items) ⊎ (waits_on held.0 old.links.items ≡ None) → GoesAs (going_of key old) (going_of key new)
waits_goes key old new held e same (inl w) =
    inl (going_is key new (Some held) (same ∙ e) ∙ ap (going_by held.0 (Some held.1)) w ∙ sym (going_is key old (Some held) e))
waits_goes key old new held e same (inr w) = inr (going_is key old (Some held) e ∙ ap (going_by held.0 (Some held.1)) w)

goes_by : (key : ℕ) (old new : code.Relay) (o : Option HeldConnection) → held_at key old.pool ≡ o → HoldsOn key old.pool new.pool → WaitsAs key old new → GoesAs (going_of key old) (going_of key new)
goes_by key old new None e on waits = inr (going_is key old None e)
goes_by key old new (Some held) e (inl same) waits = waits_goes key old new held e same (waits held e)
goes_by key old new (Some held) e (inr none) waits = absurd (let u : Some held ≡ None = sym e ∙ none in let v : ⊥ = cc in v)

pub goes_as : (key : ℕ) (old new : code.Relay) → HoldsOn key old.pool new.pool → WaitsAs key old new → GoesAs (going_of key old) (going_of key new)
goes_as key old new on waits = goes_by key old new (held_at key old.pool) refl on waits

-- ---- A request that stays

-- What an application asks goes on, or it is to be closed.
abbrev pub AsksAt : ℕ → code.Relay → code.Relay → Type 0
AsksAt key old new = (goes : Body) → Spared (body_in (get old.applications key) goes) (body_in (get new.applications key) goes)

-- where it goes on, or wherever it does
abbrev Either : Option Application → Type 0
Either o = (body_in o Astray ≡ Astray) ⊎ ((goes : Body) → body_in o goes ≡ body_in o Astray)

either_asks : (b : Bool) (a : Asking) (held : List ℕ)
    → ((if b then Closed else body_by a held Astray) ≡ Astray) ⊎ ((goes : Body) → (if b then Closed else body_by a held goes) ≡ (if b then Closed else body_by a held Astray))
either_asks true a held = inr (λ goes. refl)
either_asks false asking.Nothing held = inr (λ goes. refl)
either_asks false (asking.Waits kind whole) held = inr (λ goes. refl)
either_asks false asking.Goes held = inl refl

either : (o : Option Application) → Either o
either None = inr (λ goes. refl)
either (Some a) = either_asks (is_closed a) (own_asking a) (own_held a)

astray_rests : (key : ℕ) (old new : code.Relay) → Either (get old.applications key) → going_of key old ≡ Astray → AsksAt key old new → Rests (body_of key old) (body_of key new)
astray_rests key old new (inl e) astray asks = inr (ap (body_in (get old.applications key)) astray ∙ e)
astray_rests key old new (inr all) astray asks =
    let o : Option Application = get old.applications key in
    let same : body_in o (going_of key new) ≡ body_in o (going_of key old) = all (going_of key new) ∙ sym (all (going_of key old)) in
    inl (subst (λ (b : Body). Spared b (body_of key new)) same (asks (going_of key new)))

pub rests_by : (key : ℕ) (old new : code.Relay) → AsksAt key old new → GoesAs (going_of key old) (going_of key new) → Rests (body_of key old) (body_of key new)
rests_by key old new asks (inl e) =
    inl (subst (λ (b : Body). Spared (body_of key old) (body_in (get new.applications key) b)) (sym e) (asks (going_of key old)))
rests_by key old new asks (inr e) = astray_rests key old new (either (get old.applications key)) e asks

pub asks_on : (old new : code.Relay) → AskAsBefore old.applications new.applications → AskOn old.applications new.applications
asks_on old new asks key goes = inl (asks key goes)

-- The pool and the connections are as they were.
pub all_rest : (old new : code.Relay) → new.pool ≡ old.pool → new.links.items ≡ old.links.items → AskOn old.applications new.applications → AllRest old new
all_rest old new at links asks = record {
  rest = λ key.
      let holds : HoldsOn key old.pool new.pool = inl (ap (held_at key) at) in
      rests_by key old new (asks key) (goes_as key old new holds (λ held e. inl (ap (waits_on held.0) links)));
  holds = λ key. still_at key old new at;
}

-- The connections are, on which the same waits, and each application holds what it held.
pub held_rest : (old new : code.Relay) → ((key : ℕ) → HoldsOn key old.pool new.pool) → ((n : ℕ) → waits_on n new.links.items ≡ waits_on n old.links.items) → AskOn old.applications new.applications → AllRest old new
held_rest old new holds waits asks = record {
  rest = λ key. rests_by key old new (asks key) (goes_as key old new (holds key) (λ held e. inl (waits held.0)));
  holds = λ key. inl (holds key);
}

-- It holds another connection than that on which something waits, or nothing does any more.
off_waits : (number key : ℕ) (old new : code.Relay) → IsOff number key old.pool → ((other : ℕ) → other ≢ number → waits_on other new.links.items ≡ waits_on other old.links.items) → WaitsAs key old new
off_waits number key old new off waits held e =
    inl (waits held.0 (λ same. off held.1 (e ∙ ap (λ (n : ℕ). let x : HeldConnection = (n, held.1) in Some x) same)))

pub off_rests : (number key : ℕ) (old new : code.Relay) → IsOff number key old.pool → HoldsOn key old.pool new.pool
    → ((other : ℕ) → other ≢ number → waits_on other new.links.items ≡ waits_on other old.links.items) → AsksAt key old new → Rests (body_of key old) (body_of key new)
off_rests number key old new off holds waits asks = rests_by key old new asks (goes_as key old new holds (off_waits number key old new off waits))

-- Something is done on the connection that one holds.
pub others_rest : (key : ℕ) (g : Hold) (old new : code.Relay) → IsReached (pool_in old.pool) → find_key key old.pool.holds.items ≡ Some g → OthersHold key old.pool new.pool
    → ((other : ℕ) → other ≢ g.number → waits_on other new.links.items ≡ waits_on other old.links.items) → AskOn old.applications new.applications → OthersRest key old new
others_rest key g old new reached its holds waits asks = record {
  rest = λ other differs.
      off_rests g.number other old new (off_others old.pool key other g reached its differs) (holds.hold reached other differs) waits (asks other);
  holds = λ other differs. inl (holds.hold reached other differs);
}

-- One application alone is written back.
pub written_rest : (key : ℕ) (a : Application) (old new : code.Relay) → new.pool ≡ old.pool → new.links.items ≡ old.links.items → new.applications ≡ with_value old.applications key a → OthersRest key old new
written_rest key a old new at links apps = record {
  rest = λ other differs.
      let same : get new.applications other ≡ get old.applications other =
      ap (λ (s : Slab Application). get s other) apps ∙ get_or-set_other old.applications.slots key other (Some a) None differs in
      let holds : HoldsOn other old.pool new.pool = inl (ap (held_at other) at) in
      rests_by other old new (λ goes. inl (ap (λ (o : Option Application). body_in o goes) same)) (goes_as other old new holds (λ held e. inl (ap (waits_on held.0) links)));
  holds = λ other differs. still_at other old new at;
}

-- ---- A connection that is lost

shut : (key number : ℕ) (old new : code.Relay) (held : HeldConnection) (o : Option ℕ) → IsReached (pool_in old.pool) → held_at key old.pool ≡ Some held → held.0 ≡ number → o ≡ key_of (find_number number old.pool.holds.items)
    → ((k : ℕ) → o ≡ Some k → (goes : Body) → body_in (get new.applications k) goes ≡ Closed) → body_of key new ≡ Closed
shut key number old new held o reached e same whose shuts =
    shuts key (whose ∙ ap (λ (n : ℕ). key_of (find_number n old.pool.holds.items)) (sym same) ∙ holder_is old.pool key held reached e) (going_of key new)

pub off_by : (key number : ℕ) (d : pools.Pool) (held : HeldConnection) → held.0 ≢ number → held_at key d ≡ Some held → IsOff number key d
off_by key number d held differs e = λ client is.
    let x : HeldConnection = (number, client) in
    let same : held ≡ x = (let u : Some held ≡ Some x = sym e ∙ is in cc) in
    differs (ap (λ (y : HeldConnection). y.0) same)

lost_by : (key number : ℕ) (old new : code.Relay) (held : HeldConnection) (o : Option ℕ) → (held.0 ≡ number) ⊎ (held.0 ≢ number) → IsReached (pool_in old.pool) → held_at key old.pool ≡ Some held
    → o ≡ key_of (find_number number old.pool.holds.items) → ((k : ℕ) → o ≡ Some k → (goes : Body) → body_in (get new.applications k) goes ≡ Closed)
    → OffHold number old.pool new.pool → ((other : ℕ) → other ≢ number → waits_on other new.links.items ≡ waits_on other old.links.items) → AsksAt key old new
    → Rests (body_of key old) (body_of key new)
lost_by key number old new held o (inl same) reached e whose shuts holds waits asks = inl (inr (shut key number old new held o reached e same whose shuts))
lost_by key number old new held o (inr differs) reached e whose shuts holds waits asks =
    let off : IsOff number key old.pool = off_by key number old.pool held differs e in
    off_rests number key old new off (holds.hold reached key off) waits asks

lost_at : (key number : ℕ) (old new : code.Relay) (p : Option HeldConnection) (o : Option ℕ) → held_at key old.pool ≡ p → IsReached (pool_in old.pool)
    → o ≡ key_of (find_number number old.pool.holds.items) → ((k : ℕ) → o ≡ Some k → (goes : Body) → body_in (get new.applications k) goes ≡ Closed)
    → OffHold number old.pool new.pool → ((other : ℕ) → other ≢ number → waits_on other new.links.items ≡ waits_on other old.links.items) → AsksAt key old new
    → Rests (body_of key old) (body_of key new)
lost_at key number old new None o e reached whose shuts holds waits asks = rests_by key old new asks (inr (going_is key old None e))
lost_at key number old new (Some held) o e reached whose shuts holds waits asks =
    lost_by key number old new held o (cases_eq held.0 number) reached e whose shuts holds waits asks

still_by : (key number : ℕ) (old new : code.Relay) (held : HeldConnection) (o : Option ℕ) → (held.0 ≡ number) ⊎ (held.0 ≢ number) → IsReached (pool_in old.pool) → held_at key old.pool ≡ Some held
    → o ≡ key_of (find_number number old.pool.holds.items) → ((k : ℕ) → o ≡ Some k → (goes : Body) → body_in (get new.applications k) goes ≡ Closed) → OffHold number old.pool new.pool → HoldsStill key old new
still_by key number old new held o (inl same) reached e whose shuts holds = inr (shut key number old new held o reached e same whose shuts)
still_by key number old new held o (inr differs) reached e whose shuts holds = inl (holds.hold reached key (off_by key number old.pool held differs e))

lost_still : (key number : ℕ) (old new : code.Relay) (p : Option HeldConnection) (o : Option ℕ) → held_at key old.pool ≡ p → IsReached (pool_in old.pool) → o ≡ key_of (find_number number old.pool.holds.items)
    → ((k : ℕ) → o ≡ Some k → (goes : Body) → body_in (get new.applications k) goes ≡ Closed) → OffHold number old.pool new.pool → HoldsStill key old new
lost_still key number old new None o e reached whose shuts holds = inl (inr e)
lost_still key number old new (Some held) o e reached whose shuts holds = still_by key number old new held o (cases_eq held.0 number) reached e whose shuts holds

-- and whoever held it is to be closed
pub lost_rest : (number : ℕ) (old new : code.Relay) (o : Option ℕ) → IsReached (pool_in old.pool) → o ≡ key_of (find_number number old.pool.holds.items)
    → ((k : ℕ) → o ≡ Some k → (goes : Body) → body_in (get new.applications k) goes ≡ Closed)
    → OffHold number old.pool new.pool → ((other : ℕ) → other ≢ number → waits_on other new.links.items ≡ waits_on other old.links.items) → AskOn old.applications new.applications
    → AllRest old new
lost_rest number old new o reached whose shuts holds waits asks = record {
  rest = λ key. lost_at key number old new (held_at key old.pool) o refl reached whose shuts holds waits (asks key);
  holds = λ key. lost_still key number old new (held_at key old.pool) o refl reached whose shuts holds;
}

-- ---- One more connection

pushed_if : (b : Bool) (n : ℕ) (x y : Link) (ls : List Link) → ((link_at n (ls ++ y ∷ []) ≡ link_at n ls) ⊎ (link_at n ls ≡ None))
    → ((if b then Some x else link_at n (ls ++ y ∷ [])) ≡ (if b then Some x else link_at n ls)) ⊎ ((if b then Some x else link_at n ls) ≡ None)
pushed_if true n x y ls h = inl refl
pushed_if false n x y ls h = h

pushed : (n : ℕ) (y : Link) (ls : List Link) → (link_at n (ls ++ y ∷ []) ≡ link_at n ls) ⊎ (link_at n ls ≡ None)
pushed n y [] = inr refl
pushed n y (x ∷ xs) = pushed_if (x.number == n) n x y xs (pushed n y xs)

pushed_waits : (n : ℕ) (ls ms : List Link) → (link_at n ms ≡ link_at n ls) ⊎ (link_at n ls ≡ None) → (waits_on n ms ≡ waits_on n ls) ⊎ (waits_on n ls ≡ None)
pushed_waits n ls ms (inl e) = inl (ap (option_map bytes_on) e)
pushed_waits n ls ms (inr e) = inr (ap (option_map bytes_on) e)

pub pushed_rest : (y : Link) (old new : code.Relay) → new.pool ≡ old.pool → new.applications ≡ old.applications → new.links.items ≡ old.links.items ++ y ∷ [] → AllRest old new
pushed_rest y old new at apps links = record {
  rest = λ key.
      let holds : HoldsOn key old.pool new.pool = inl (ap (held_at key) at) in
      rests_by key old new (λ goes. inl (ap (λ (s : Slab Application). body_in (get s key) goes) apps))
      (goes_as key old new holds (λ held e. pushed_waits held.0 old.links.items new.links.items
      (subst (λ (ls : List Link). (link_at held.0 ls ≡ link_at held.0 old.links.items) ⊎ (link_at held.0 old.links.items ≡ None)) (sym links) (pushed held.0 y old.links.items))));
  holds = λ key. still_at key old new at;
}

-- ---- Reached

pub reached_does : (d e : Pool) (key : ℕ) (action : pool.Action) (before after : List ℕ) → Turns (pool.Does key action) d e before after → CausesAction Neither key action → IsReached d → IsReached e
reached_does d e key action before after t cause r = reached_on Neither d e (λ from h. reaches_turn Neither from d e (pool.Does key action) before after t cause h) r

pub reached_serves : (d e : Pool) (before after : List ℕ) → Turns pool.Serves d e before after → IsReached d → IsReached e
reached_serves d e before after t r = reached_on Neither d e (λ from h. reaches_turn Neither from d e pool.Serves before after t tt h) r

pub reached_on_does : (d e : Pool) → LedOn d e → IsReached d → IsReached e
reached_on_does d e goes r = reached_on Neither d e (goes Neither) r

-- ---- Where a call answers

pub all_on : {A E : Type 0} (r : Result A E) (a b c : code.Relay) → AllRest a b → OnOk r (AllRest b c) → OnOk r (AllRest a c)
all_on (Ok x) a b c h k = all_both a b c h k
all_on (Err e) a b c h k = tt

pub others_on : {A E : Type 0} (r : Result A E) (key : ℕ) (a b c : code.Relay) → OnOk r (OthersRest key b c) → OthersRest key a b → OnOk r (OthersRest key a c)
others_on (Ok x) key a b c k h = others_both key a b c h k
others_on (Err e) key a b c k h = tt

pub others_all : {A E : Type 0} (r : Result A E) (key : ℕ) (a b c : code.Relay) → OnOk r (AllRest b c) → OthersRest key a b → OnOk r (OthersRest key a c)
others_all (Ok x) key a b c k h = others_both key a b c h (all_others key b c k)
others_all (Err e) key a b c k h = tt

-- the pool and the connections are as they were
pub same_on : {A E : Type 0} (r : Result A E) (a b : code.Relay) → b.pool ≡ a.pool → OnOk r (b.links.items ≡ a.links.items) → OnOk r (AskOn a.applications b.applications) → OnOk r (AllRest a b)
same_on (Ok x) a b at links asks = all_rest a b at links asks
same_on (Err e) a b at links asks = tt

pub lost_on : {A E : Type 0} (r : Result A E) (number : ℕ) (old new : code.Relay) (d : pools.Pool) (o : Option ℕ) → IsReached (pool_in old.pool) → o ≡ key_of (find_number number old.pool.holds.items)
    → OffHold number old.pool d → new.pool ≡ d → OnOk r ((k : ℕ) → o ≡ Some k → (goes : Body) → body_in (get new.applications k) goes ≡ Closed)
    → OnOk r ((other : ℕ) → other ≢ number → waits_on other new.links.items ≡ waits_on other old.links.items) → OnOk r (AskOn old.applications new.applications) → OnOk r (AllRest old new)
lost_on (Ok x) number old new d o reached whose holds at shuts waits asks =
    lost_rest number old new o reached whose shuts (subst (λ (e : pools.Pool). OffHold number old.pool e) (sym at) holds) waits asks
lost_on (Err e) number old new d o reached whose holds at shuts waits asks = tt

pub go_on_one : {A E : Type 0} (r : Result A E) (key : ℕ) (a b : code.Relay) → OnOk r (Starts (body_of key a) (body_of key b)) → (IsReached (pool_in a.pool) → OnOk r (OthersRest key a b)) → OnOk r (AllGo a b)
go_on_one (Ok x) key a b own others = go_one key a b own others
go_on_one (Err e) key a b own others = tt

pub go_on : {A E : Type 0} (r : Result A E) (a b c : code.Relay) → (IsReached (pool_in a.pool) → IsReached (pool_in b.pool)) → AllGo a b → OnOk r (AllGo b c) → OnOk r (AllGo a c)
go_on (Ok x) a b c led h k = go_both a b c led h k
go_on (Err e) a b c led h k = tt

-- ---- What is put

pub put_rest : (key : ℕ) (g : Hold) (old mid : code.Relay) (d : pools.Pool) → IsReached (pool_in old.pool) → find_key key old.pool.holds.items ≡ Some g → OthersHold key old.pool d → mid.pool ≡ d
    → mid.links.items ≡ old.links.items → AskAsBefore old.applications mid.applications → OthersRest key old mid
put_rest key g old mid d reached its holds at links asks =
    others_rest key g old mid reached its (subst (λ (e : pools.Pool). OthersHold key old.pool e) (sym at) holds) (λ n differs. ap (waits_on n) links) (asks_on old mid asks)

pub sent_rest : (key : ℕ) (g : Hold) (old mid new : code.Relay) (d : pools.Pool) → IsReached (pool_in old.pool) → find_key key old.pool.holds.items ≡ Some g → OthersHold key old.pool d → mid.pool ≡ d
    → mid.links.items ≡ old.links.items → AskAsBefore old.applications mid.applications → new.pool ≡ mid.pool
    → ((other : ℕ) → other ≢ g.number → waits_on other new.links.items ≡ waits_on other mid.links.items) → AskAsBefore mid.applications new.applications → OthersRest key old new
sent_rest key g old mid new d reached its holds at links asks later waits asked =
    others_rest key g old new reached its (subst (λ (e : pools.Pool). OthersHold key old.pool e) (sym (later ∙ at)) holds) (λ n differs. waits n differs ∙ ap (waits_on n) links)
    (λ k goes. inl (asked k goes ∙ asks k goes))

pub put_reached : (d e f : pools.Pool) → LedOn (pool_in d) (pool_in e) → f ≡ e → IsReached (pool_in d) → IsReached (pool_in f)
put_reached d e f goes same r = subst (λ (x : pools.Pool). IsReached (pool_in x)) (sym same) (reached_on_does (pool_in d) (pool_in e) goes r)

-- whoever waits is lent another
pub served_go : (a b m : code.Relay) → LedOn (pool_in a.pool) (pool_in b.pool) → AllGo a b → AllHold b.pool m.pool → m.links.items ≡ b.links.items → m.applications ≡ b.applications → AllGo a m
served_go a b m goes h holds links apps =
    go_both a b m (reached_on_does (pool_in a.pool) (pool_in b.pool) goes) h
    (rest_go b m (λ reached. held_rest b m (holds.hold reached) (λ n. ap (waits_on n) links) (λ k asked. inl (ap (λ (s : Slab Application). body_in (get s k) asked) apps))))

-- ---- Where there is no connection yet

none_waits : (key : ℕ) (old : code.Relay) (o : Option HeldConnection) → held_at key old.pool ≡ o → old.links.items ≡ [] → going_of key old ≡ Astray
none_waits key old None e none = going_is key old None e
none_waits key old (Some held) e none = going_is key old (Some held) e ∙ ap (λ (ls : List Link). going_by held.0 (Some held.1) (waits_on held.0 ls)) none

-- nothing goes on
pub none_go : (old new : code.Relay) → old.links.items ≡ [] → AskOn old.applications new.applications → AllGo old new
none_go old new none asks = record {
  go = λ reached key. rests_start (body_of key old) (body_of key new) (rests_by key old new (asks key) (inr (none_waits key old (held_at key old.pool) refl none)));
}
