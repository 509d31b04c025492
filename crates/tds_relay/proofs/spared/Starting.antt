-- A request that has waited, where its connection opens.
use Rattle.std.proofs.Common.{◌≡◌, ◌⊎◌, ◌∙◌, ◌==◌, ℕ, Bool, true, false, List, [], ◌∷◌, Option, Some, None, inl, inr, refl, sym, ap, subst, if◌then◌else◌}
use Rattle.std.specs.Prelude.{Result, Ok, Err, OnOk}
use Rattle.std.proofs.lemmas.Bool.{eq-eqb}
use Rattle.slab.specs.Slab.{Slab, get, with_value}
use Rattle.tds_client.specs.Session.{ClientSession}
use Rattle.tds_service.specs.declared.service.Service as services
use Rattle.tds_service.specs.Table.{client_of}
use Rattle.tds_relay.specs.declared.application.Application.{Application}
use Rattle.tds_relay.specs.declared.state.Asking.{Asking}
use Rattle.tds_relay.specs.declared.state.Asking.TheVariants as asking
use Rattle.tds_relay.specs.declared.pool.Pool as pools
use Rattle.tds_relay.specs.declared.pool.Hold.{Hold}
use Rattle.tds_relay.specs.declared.link.Link.{Link}
use Rattle.tds_relay.specs.declared.relay.Relay as code
use Rattle.tds_relay.specs.Asking.{IsTakenBack, waits_in}
use Rattle.tds_relay.specs.Bodies.{Astray, Body, Closed, Closes, Goes, Going, Kept, Nowhere, Starts, Stays, Strays, body_by, body_in, body_of, going, going_by, going_of}
use Rattle.tds_relay.specs.Pool.{find_key, find_number, key_of}
use Rattle.tds_relay.specs.Fronts.{ends_in}
use Rattle.tds_relay.specs.Core.{EndList, end_at}
use Rattle.tds_relay.specs.Reads.{open_at, opened_at, reader_at, waits_on}
use Rattle.tds_relay.specs.Sparing as sparing
use Rattle.tds_relay.specs.Sparing.{AllGo, AllRest, AreCalls, Drains, HasGone, HeldConnection, IsHeldBack, IsKept, IsLeft, IsUnkept, Opens, Rests, StartsBehind, StartsOn, StartsThere, behind_all, held_at}
use Rattle.tds_relay.specs.Ties.{IsReached, pool_in}
use Rattle.tds_relay.proofs.spared.Held.{holder_is, holds}
use Rattle.tds_relay.proofs.lending.Resting.{closed_on, starts_both}
use Rattle.tds_relay.proofs.steps.Bodied.{written_body, by_asking}
use Rattle.tds_relay.proofs.steps.Fed.{end_open, end_there}
use Rattle.tds_relay.specs.Places.{is_closed, own_asking, own_held, took_back}

-- ---- Kept no more

unkept_by : (number : ℕ) (o : Option ClientSession) (waits : Option (List ℕ)) → IsUnkept (going_by number o waits)
unkept_by number None waits = tt
unkept_by number (Some client) None = tt
unkept_by number (Some client) (Some bytes) = tt

-- what goes on isn't kept
pub unkept_going : (s : services.Service) (ls : List Link) (o : Option Hold) → IsUnkept (going s ls o)
unkept_going s ls None = tt
unkept_going s ls (Some h) = unkept_by h.number (client_of h.lease s) (waits_on h.number ls)

unkept_if : (over : Bool) (b : Body) → IsUnkept b → IsUnkept (if over then Closed else b)
unkept_if true b h = tt
unkept_if false b h = h

pub unkept_closed : (b : Body) → b ≡ Closed → IsUnkept b
unkept_closed b e = subst IsUnkept (sym e) tt

pub unkept_none : (s : Slab Application) (key : ℕ) (goes : Body) → get s key ≡ None → IsUnkept (body_in (get s key) goes)
unkept_none s key goes none = subst (λ (o : Option Application). IsUnkept (body_in o goes)) (sym none) tt

pub unkept_over : (s : Slab Application) (key : ℕ) (a : Application) (goes : Body) → Some a ≡ get s key → is_closed a ≡ true → IsUnkept (body_in (get s key) goes)
unkept_over s key a goes is over =
    subst (λ (o : Option Application). IsUnkept (body_in o goes)) is
    (subst (λ (b : Bool). IsUnkept (if b then Closed else body_by (own_asking a) (own_held a) goes)) (sym over) tt)

unkept_asking : (x : Asking) (held : List ℕ) (goes : Body) → waits_in x ≡ None → IsUnkept goes → IsUnkept (body_by x held goes)
unkept_asking asking.Nothing held goes e h = tt
unkept_asking (asking.Waits kind whole) held goes e h = absurd (let u : ⊥ = cc in u)
unkept_asking asking.Goes held goes e h = h

-- an application whose request doesn't wait
pub unkept_there : (key : ℕ) (r : code.Relay) (a : Application) → Some a ≡ get r.applications key → waits_in (own_asking a) ≡ None → IsUnkept (body_of key r)
unkept_there key r a is none =
    subst (λ (o : Option Application). IsUnkept (body_in o (going_of key r))) is
    (unkept_if (is_closed a) (body_by (own_asking a) (own_held a) (going_of key r))
    (unkept_asking (own_asking a) (own_held a) (going_of key r) none (unkept_going r.pool.service r.links.items (find_key key r.pool.holds.items))))

put_unkept : (X : Type 0) (key : ℕ) (s : Slab Application) (a b : Application) (new : code.Relay) → Some a ≡ get s key → (is_closed b ≡ false → own_asking b ≡ asking.Goes)
    → (body_of key new ≡ Closed) ⊎ (((goes : Body) → body_in (get new.applications key) goes ≡ body_in (get (with_value s key b) key) goes) × X) → IsUnkept (body_of key new)
put_unkept X key s a b new is goes (inl closed) = unkept_closed (body_of key new) closed
put_unkept X key s a b new is goes (inr puts) =
    let g : Body = going_of key new in
    let one : body_of key new ≡ body_in (Some b) g = puts.0 g ∙ written_body s key a b g is in
    subst IsUnkept (sym one)
    (subst IsUnkept (sym (by_asking (is_closed b) (own_asking b) asking.Goes (own_held b) g goes))
    (unkept_if (is_closed b) g (unkept_going new.pool.service new.links.items (find_key key new.pool.holds.items))))

pub put_unkept_on : {A E : Type 0} (r : Result A E) (X : Type 0) (key : ℕ) (s : Slab Application) (a b : Application) (new : code.Relay)
    → OnOk r ((body_of key new ≡ Closed) ⊎ (((goes : Body) → body_in (get new.applications key) goes ≡ body_in (get (with_value s key b) key) goes) × X)) → Some a ≡ get s key
    → (is_closed b ≡ false → own_asking b ≡ asking.Goes) → OnOk r (IsUnkept (body_of key new))
put_unkept_on (Ok x) X key s a b new puts is goes = put_unkept X key s a b new is goes puts
put_unkept_on (Err e) X key s a b new puts is goes = tt

-- ---- Held back

pub taken_back : (s : Slab Application) (key : ℕ) (a : Application) → Some a ≡ get s key → is_closed a ≡ false → took_back a ≡ true → IsTakenBack (end_at (ends_in s) key)
taken_back s key a is over back = subst IsTakenBack (sym (end_there s key a is ∙ ap Some (end_open a over))) back

-- ---- One that has waited goes on

both_not : (b : Body) → IsKept b → IsUnkept b → HasGone b
both_not Closed kept un = absurd kept
both_not Nowhere kept un = absurd kept
both_not (Kept kind bytes whole) kept un = absurd un
both_not Astray kept un = absurd kept
both_not (Going number client waits) kept un = absurd kept

-- one that was kept, and isn't
pub gone_by : {a b : Body} → Starts a b → IsKept a → IsUnkept b → HasGone b
gone_by {a} Stays kept un = both_not a kept un
gone_by Closes kept un = tt
gone_by Strays kept un = absurd kept
gone_by (Goes waits out from puts) kept un = tt

-- and stays so
pub gone_on : {a b : Body} → Starts a b → HasGone a → HasGone b
gone_on Stays gone = gone
gone_on Closes gone = tt
gone_on Strays gone = absurd gone
gone_on (Goes waits out from puts) gone = absurd gone

pub kept_rest : {a b : Body} → Starts a b → IsKept a → HasGone b ⊎ IsKept b
kept_rest Stays kept = inr kept
kept_rest Closes kept = inl tt
kept_rest Strays kept = absurd kept
kept_rest (Goes waits out from puts) kept = inl tt

-- ---- Behind what waited there

pub not_kept : (b : Body) → IsKept b → IsUnkept b → ⊥
not_kept Closed kept un = kept
not_kept Nowhere kept un = kept
not_kept (Kept kind bytes whole) kept un = un
not_kept Astray kept un = kept
not_kept (Going number client waits) kept un = kept

gone_behind : (waited : Option (List ℕ)) {a b c : Body} → StartsBehind waited a b → IsKept a → IsUnkept b → Starts b c → HasGone c × StartsBehind waited a c
gone_behind waited {a} sparing.Stays kept un later = absurd (not_kept a kept un)
gone_behind waited {a} sparing.Closes kept un later = subst (λ (c : Body). HasGone c × StartsBehind waited a c) (closed_on later) (tt, sparing.Closes)
gone_behind waited (sparing.Goes was out from is puts) kept un Stays = (tt, sparing.Goes was out from is puts)
gone_behind waited (sparing.Goes was out from is puts) kept un Closes = (tt, sparing.Closes)

-- from where it was before
rest_behind : (waited : Option (List ℕ)) (x a b c : Body) → Rests x a → StartsBehind waited a b → IsKept x → IsUnkept b → Starts a b → Starts b c → HasGone c × StartsBehind waited x c
rest_behind waited x a b c (inl (inl same)) behind kept un first later =
    subst (λ (y : Body). HasGone c × StartsBehind waited y c) same (gone_behind waited behind (subst IsKept (sym same) kept) un later)
rest_behind waited x a b c (inl (inr shut)) behind kept un first later =
    let over : Closed ≡ c = closed_on (subst (λ (y : Body). Starts y c) (sym (closed_on (subst (λ (y : Body). Starts y b) shut first))) later) in
    subst (λ (y : Body). HasGone y × StartsBehind waited x y) over (tt, sparing.Closes)
rest_behind waited x a b c (inr astray) behind kept un first later = absurd (subst IsKept astray kept)

-- ---- Where its connection opens

-- what it is held back by, before that
before_open : (number key : ℕ) (old mid : code.Relay) (held : HeldConnection) → held_at key old.pool ≡ Some held → held.0 ≡ number → mid.pool ≡ old.pool → ends_in mid.applications ≡ ends_in old.applications
    → ((other : ℕ) → open_at other mid.links.items ≡ opened_at number other old.links.items) → IsHeldBack key mid
    → IsTakenBack (end_at (ends_in old.applications) key) ⊎ (reader_at number old.links.items ≡ None)
before_open number key old mid held e same at ends opens (Drains back) = inl (subst (λ (es : EndList). IsTakenBack (end_at es key)) ends back)
before_open number key old mid held e same at ends opens (Opens hold its closed) =
    let x = holds old.pool key held e in
    let own : find_key key old.pool.holds.items ≡ Some hold = subst (λ (d : pools.Pool). find_key key d.holds.items ≡ Some hold) at its in
    let one : x.hold ≡ hold = (let u : Some x.hold ≡ Some hold = sym x.its ∙ own in cc) in
    let named : hold.number ≡ number = sym (ap (λ (h : Hold). h.number) one) ∙ x.number ∙ same in
    let shut : opened_at number number old.links.items ≡ None = sym (opens number) ∙ subst (λ (n : ℕ). open_at n mid.links.items ≡ None) named closed in
    let here : (number == number) ≡ true = eq-eqb number number refl in
    inr (sym (ap (λ (b : Bool). if b then reader_at number old.links.items else open_at number old.links.items) here) ∙ shut)

-- what waited on the connection that it holds, before that
there_before : (number key : ℕ) (old mid next : code.Relay) (held : HeldConnection) → held_at key old.pool ≡ Some held → held.0 ≡ number → mid.pool ≡ old.pool → ((other : ℕ) → waits_on other mid.links.items ≡ waits_on other old.links.items)
    → StartsThere key mid next → StartsBehind (waits_on number old.links.items) (body_of key mid) (body_of key next)
there_before number key old mid next held e same at waits behind =
    let x = holds old.pool key held e in
    let own : find_key key mid.pool.holds.items ≡ Some x.hold = subst (λ (d : pools.Pool). find_key key d.holds.items ≡ Some x.hold) (sym at) x.its in
    subst (λ (n : ℕ). StartsBehind (waits_on n old.links.items) (body_of key mid) (body_of key next)) (x.number ∙ same)
    (subst (λ (w : Option (List ℕ)). StartsBehind w (body_of key mid) (body_of key next)) (waits x.hold.number) (behind x.hold own))

pub started : (number : ℕ) (old mid next new : code.Relay) → IsReached (pool_in old.pool) → mid.pool ≡ old.pool → ends_in mid.applications ≡ ends_in old.applications
    → ((other : ℕ) → open_at other mid.links.items ≡ opened_at number other old.links.items) → ((other : ℕ) → waits_on other mid.links.items ≡ waits_on other old.links.items) → AllRest old mid → AllGo mid next → AllGo next new
    → (IsReached (pool_in mid.pool) → IsReached (pool_in next.pool)) → ((key : ℕ) → key_of (find_number number (pool_in mid.pool).holds) ≡ Some key → IsUnkept (body_of key next) ⊎ IsHeldBack key mid)
    → ((key : ℕ) → key_of (find_number number (pool_in mid.pool).holds) ≡ Some key → StartsThere key mid next) → StartsOn number old new
started number old mid next new reached at ends opens waits zero first later led unkept behind = record {
  start = λ key client e kept.
      let held : HeldConnection = (number, client) in
      let here : IsReached (pool_in mid.pool) = subst (λ (d : pools.Pool). IsReached (pool_in d)) (sym at) reached in
      let whose : key_of (find_number number (pool_in mid.pool).holds) ≡ Some key = ap (λ (d : pools.Pool). key_of (find_number number d.holds.items)) at ∙ holder_is old.pool key held reached e in
      elim (unkept key whose) [
        | inl un ↦ inl (rest_behind (waits_on number old.links.items) (body_of key old) (body_of key mid) (body_of key next) (body_of key new) (zero.rest key)
            (there_before number key old mid next held e refl at waits (behind key whose)) kept un (first.go here key) (later.go (led here) key))
        | inr back ↦ inr (before_open number key old mid held e refl at ends opens back)
      ];
}

pub started_on : {A E : Type 0} (r : Result A E) (number : ℕ) (old mid next new : code.Relay) → IsReached (pool_in old.pool) → mid.pool ≡ old.pool → ends_in mid.applications ≡ ends_in old.applications
    → ((other : ℕ) → open_at other mid.links.items ≡ opened_at number other old.links.items) → ((other : ℕ) → waits_on other mid.links.items ≡ waits_on other old.links.items) → AllRest old mid → AllGo mid next → OnOk r (AllGo next new)
    → (IsReached (pool_in mid.pool) → IsReached (pool_in next.pool)) → ((key : ℕ) → key_of (find_number number (pool_in mid.pool).holds) ≡ Some key → IsUnkept (body_of key next) ⊎ IsHeldBack key mid)
    → ((key : ℕ) → key_of (find_number number (pool_in mid.pool).holds) ≡ Some key → StartsThere key mid next) → OnOk r (StartsOn number old new)
started_on (Ok x) number old mid next new reached at ends opens waits zero first later led unkept behind = started number old mid next new reached at ends opens waits zero first later led unkept behind
started_on (Err e) number old mid next new reached at ends opens waits zero first later led unkept behind = tt

-- ---- Of whom a connection is

own_by : (o : Option ℕ) (k : ℕ) (P : ℕ → Type 0) → o ≡ Some k → P k → (key : ℕ) → o ≡ Some key → P key
own_by o k P e h key f = subst P (let u : Some k ≡ Some key = sym e ∙ f in cc) h

pub own_on : {A E : Type 0} (r : Result A E) (o : Option ℕ) (k : ℕ) (P : ℕ → Type 0) → o ≡ Some k → OnOk r (P k) → OnOk r ((key : ℕ) → o ≡ Some key → P key)
own_on (Ok x) o k P e h = own_by o k P e h
own_on (Err e) o k P f h = tt

pub none_own : (o : Option ℕ) (P : ℕ → Type 0) → o ≡ None → (key : ℕ) → o ≡ Some key → P key
none_own o P e key f = absurd (let u : None ≡ Some key = sym e ∙ f in let v : ⊥ = cc in v)

-- ---- Over calls

left_same : (b : Body) → IsLeft b b
left_same Closed = refl
left_same Nowhere = inl refl
left_same (Kept kind bytes whole) = inl refl
left_same Astray = tt
left_same (Going number client waits) = inl refl

left_closed : (b : Body) → IsLeft b Closed
left_closed Closed = refl
left_closed Nowhere = inr refl
left_closed (Kept kind bytes whole) = inr (inl refl)
left_closed Astray = tt
left_closed (Going number client waits) = inr refl

left_by : {a b : Body} → Starts a b → IsLeft a b
left_by {a} Stays = left_same a
left_by {a} Closes = left_closed a
left_by Strays = tt
left_by (Goes waits out from puts) = inr (inr (record { number = _; from = from; to = _; waits = waits; out = out; is = refl; put = puts }))

calls_start : (r : code.Relay) (more : List code.Relay) (key : ℕ) → AreCalls r more → Starts (body_of key r) (body_of key (behind_all r more))
calls_start r [] key h = Stays
calls_start r (next ∷ more) key h = starts_both (h.1.go h.0 key) (calls_start next more key h.2)

pub calls_left : (r : code.Relay) (more : List code.Relay) (key : ℕ) → AreCalls r more → IsLeft (body_of key r) (body_of key (behind_all r more))
calls_left r more key h = left_by (calls_start r more key h)
