-- Who waits behind a call: whoever waited before it, or the one that it lets wait.
use Rattle.std.proofs.Common.{◌≡◌, ◌≢◌, ◌∙◌, ◌==◌, ◌||◌, ◌++◌, ◌⊎◌, inl, inr, not, filter, ℕ, Bool, true, false, List, [], ◌∷◌, Option, Some, None, refl, sym, ap, subst, if◌then◌else◌}
use Rattle.std.proofs.lemmas.Bool.{cases_eq, eq-eqb, eqb-true}
use Rattle.tds_wire.specs.declared.told.Token.{Token}
use Rattle.tds_service.specs.Service as calls
use Rattle.tds_service.specs.Service.{Call, Service, lease_at, seat_numbered, step}
use Rattle.tds_relay.specs.declared.pool.Hold.{Hold}
use Rattle.tds_relay.specs.declared.pool.Served.{Served}
use Rattle.tds_relay.specs.Closings.{IsWaiting, Itself}
use Rattle.tds_relay.specs.Pool as pool
use Rattle.tds_relay.specs.Pool.{Action, Pool, Event, Hearing, Loan, Way, brings_by, packet_comes, comes_by, pool_after, holder_does, find_key, hearing, keeps_by, leaves, lent_in, renews, renews_by, serves, serves_by, ticket_in, turn}
use Rattle.tds_relay.specs.Core.{Core, is_in}
use Rattle.tds_relay.specs.Promises.{Each}
use Rattle.tds_relay.specs.Ties.{Application, Cause, Causes, CausesRequest, LedTo, LedOn, Leaving, Neither, Reaches, Serving}
use Rattle.tds_relay.proofs.spared.Apart.{Unserved}

or_first : (a b : Bool) → (a || b) ≡ false → a ≡ false
or_first true b e = absurd (let u : ⊥ = cc in u)
or_first false b e = refl

or_second : (a b : Bool) → (a || b) ≡ false → b ≡ false
or_second true b e = absurd (let u : ⊥ = cc in u)
or_second false b e = e

or_both : (a b : Bool) → a ≡ false → b ≡ false → (a || b) ≡ false
or_both true b e f = absurd (let u : ⊥ = cc in u)
or_both false b e f = f

-- ---- Lists

out_if : (b : Bool) (key k : ℕ) (ks qs : List ℕ) → ((k == key) || is_in key ks) ≡ false → (is_in key ks ≡ false → is_in key qs ≡ false) → is_in key (if b then k ∷ qs else qs) ≡ false
out_if true key k ks qs e later = or_both (k == key) (is_in key qs) (or_first (k == key) (is_in key ks) e) (later (or_second (k == key) (is_in key ks) e))
out_if false key k ks qs e later = later (or_second (k == key) (is_in key ks) e)

out_filter : (p : ℕ → Bool) (key : ℕ) (ks : List ℕ) → is_in key ks ≡ false → is_in key (filter p ks) ≡ false
out_filter p key [] e = refl
out_filter p key (k ∷ ks) e = out_if (p k) key k ks (filter p ks) e (out_filter p key ks)

pub out_behind : (key k : ℕ) (ks : List ℕ) → is_in key ks ≡ false → (k == key) ≡ false → is_in key (ks ++ k ∷ []) ≡ false
out_behind key k [] e f = or_both (k == key) false f refl
out_behind key k (x ∷ xs) e f = or_both (x == key) (is_in key (xs ++ k ∷ [])) (or_first (x == key) (is_in key xs) e) (out_behind key k xs (or_second (x == key) (is_in key xs) e) f)

-- ---- What is done

serves_by_out : (d : Pool) (key k : ℕ) (others : List ℕ) (o : Option Loan) → is_in key d.line ≡ false → is_in key others ≡ false → is_in key (serves_by d k others o).pool.line ≡ false
serves_by_out d key k others None e f = e
serves_by_out d key k others (Some lent) e f = f

serves_out : (d : Pool) (key : ℕ) (ks : List ℕ) → is_in key d.line ≡ false → is_in key ks ≡ false → is_in key (serves d ks).pool.line ≡ false
serves_out d key [] e f = e
serves_out d key (k ∷ others) e f = serves_by_out d key k others (lent_in (step {T = Token} d.service calls.Lease).reply) e (or_second (k == key) (is_in key others) f)

brings_line : (d : Pool) (s : Service) (gives : Bool) (way : Way) (o : Option Loan) → (brings_by d s gives way o).pool.line ≡ d.line
brings_line d s gives way None = refl
brings_line d s gives way (Some lent) = refl

pub brought_line : (d e : Pool) (gives : Bool) (way : Way) → e ≡ (turn d (pool.Brings gives way)).pool → e.line ≡ d.line
brought_line d e gives way is =
    let lent = step {T = Token} d.service calls.Lease in
    ap (λ (x : Pool). x.line) is ∙ brings_line d lent.service gives way (lent_in lent.reply)

does_line : (d : Pool) (action : Action) (o : Option Hold) → (holder_does d action o).pool.line ≡ d.line
does_line d action None = refl
does_line d action (Some h) = refl

leaves_out : (d : Pool) (key k : ℕ) (gives : Bool) (way : Way) (o : Option Hold) → is_in key d.line ≡ false → is_in key (leaves d k gives way o).pool.line ≡ false
leaves_out d key k gives way None e = out_filter (λ (x : ℕ). not (x == k)) key d.line e
leaves_out d key k gives way (Some h) e = out_filter (λ (x : ℕ). not (x == k)) key d.line e

renewed_line : (d : Pool) (h : Hold) (ticket : ℕ) (lent : Option Loan) (resumes : Bool) → (renews_by d h ticket lent resumes).pool.line ≡ d.line
renewed_line d h ticket lent false = refl
renewed_line d h ticket None true = refl
renewed_line d h ticket (Some lent) true = refl

keeps_line : (d : Pool) (h : Hold) (resumes : Bool) (s : Service) (o : Option ℕ) → (keeps_by d h resumes s o).pool.line ≡ d.line
keeps_line d h resumes s None = refl
keeps_line d h resumes s (Some ticket) = renewed_line d h ticket (lent_in (step {T = Token} s (calls.Resume ticket)).reply) resumes

pub renews_line : (d : Pool) (resumes : Bool) (o : Option Hold) → (renews d resumes o).pool.line ≡ d.line
renews_line d resumes None = refl
renews_line d resumes (Some h) =
    let kept = step {T = Token} d.service (calls.Keep h.lease) in
    keeps_line d h resumes kept.service (ticket_in kept.reply)

pub comes_line : (d : Pool) (call : Call Token) (s : Service) (number : ℕ) (way : Way) (lease : Option ℕ) (h : Hearing) → (comes_by d call s number way lease h).pool.line ≡ d.line
comes_line d call s number way lease pool.Goes = refl
comes_line d call s number way lease pool.Settled = refl
comes_line d call s number way lease pool.Wrong = refl

not_by : (by : Cause) (key k : ℕ) (b : Bool) → (k == key) ≡ b → (CausesRequest by key → ⊥) → CausesRequest by k → (k == key) ≡ false
not_by by key k true e none cause = absurd (none (subst (CausesRequest by) (eqb-true k key e) cause))
not_by by key k false e none cause = e

same_out : (key : ℕ) (ks qs : List ℕ) → qs ≡ ks → is_in key ks ≡ false → is_in key qs ≡ false
same_out key ks qs same e = ap (is_in key) same ∙ e

-- nobody else waits than did
turn_out : (by : Cause) (key : ℕ) (d : Pool) (event : Event) → (CausesRequest by key → ⊥) → Causes by event → is_in key d.line ≡ false → is_in key (turn d event).pool.line ≡ false
turn_out by key d (pool.Waits k) none cause e = out_behind key k d.line e (not_by by key k (k == key) refl none cause)
turn_out by key d (pool.Unwaits k) none cause e = out_filter (λ (x : ℕ). not (x == k)) key d.line e
turn_out by key d pool.Serves none cause e = serves_out d key d.line e e
turn_out by key d (pool.Brings gives way) none cause e =
    let lent = step {T = Token} d.service calls.Lease in
    same_out key d.line _ (brings_line d lent.service gives way (lent_in lent.reply)) e
turn_out by key d (pool.Does k action) none cause e = same_out key d.line _ (does_line d action (find_key k d.holds)) e
turn_out by key d (pool.Leaves k gives way) none cause e = leaves_out d key k gives way (find_key k d.holds) e
turn_out by key d (pool.Renews k resumes) none cause e = same_out key d.line _ (renews_line d resumes (find_key k d.holds)) e
turn_out by key d (pool.Comes number part way) none cause e =
    let heard = step {T = Token} d.service (calls.Came number part) in
    same_out key d.line _ (comes_line d (calls.Came number part) heard.service number way (lease_at (seat_numbered number d.service.seats)) (hearing heard.dones)) e
turn_out by key d (pool.Loses number) none cause e = e

events_out : (by : Cause) (key : ℕ) (d : Pool) (events : List Event) → (CausesRequest by key → ⊥) → Each (Causes by) events → is_in key d.line ≡ false → is_in key (pool_after d events).line ≡ false
events_out by key d [] none caused e = e
events_out by key d (event ∷ events) none caused e = events_out by key (turn d event).pool events none caused.1 (turn_out by key d event none caused.0 e)

goes_out : (by : Cause) (key : ℕ) (old new : Pool) → (CausesRequest by key → ⊥) → LedTo by old new → is_in key old.line ≡ false → is_in key new.line ≡ false
goes_out by key old new none goes e =
    let r : Reaches by old new = goes old (record { events = []; are = refl; caused = tt }) in
    ap (λ (d : Pool). is_in key d.line) (sym r.are) ∙ events_out by key old r.events none r.caused e

was_in : (b : Bool) (key : ℕ) (ks qs : List ℕ) → is_in key ks ≡ b → (is_in key ks ≡ false → is_in key qs ≡ false) → is_in key qs ≡ true → is_in key ks ≡ true
was_in true key ks qs e out there = e
was_in false key ks qs e out there = absurd (let u : false ≡ true = sym (out e) ∙ there in let v : ⊥ = cc in v)

-- whoever waits did before
pub waited : (by : Cause) (old new : Pool) (key : ℕ) → (CausesRequest by key → ⊥) → LedTo by old new → IsWaiting new.line key → IsWaiting old.line key
waited by old new key none goes there = was_in (is_in key old.line) key old.line new.line refl (goes_out by key old new none goes) there

pub waited_on : (old new : Pool) → LedOn old new → (key : ℕ) → IsWaiting new.line key → IsWaiting old.line key
waited_on old new goes key there = waited Neither old new key (λ none. none) (goes Neither) there

pub waited_left : (left : ℕ) (old new : Pool) → Leaving left old new → (key : ℕ) → IsWaiting new.line key → IsWaiting old.line key
waited_left left old new l key there =
    let mid = (turn old (pool.Leaves left l.0 l.1)).pool in
    was_in (is_in key old.line) key old.line mid.line refl (leaves_out old key left l.0 l.1 (find_key left old.holds)) (waited_on mid new l.2 key there)

-- it, or one that waits
abbrev pub ItselfOrWaiting : ℕ → List ℕ → ℕ → Type 0
ItselfOrWaiting key line other = Itself key other ⊎ IsWaiting line other

itself_or : (asking : ℕ) (old new : Pool) (key : ℕ) → (key ≡ asking) ⊎ (key ≢ asking) → LedTo (Application asking) old new → IsWaiting new.line key → ItselfOrWaiting asking old.line key
itself_or asking old new key (inl same) goes there = inl same
itself_or asking old new key (inr differs) goes there = inr (waited (Application asking) old new key (λ same. differs (sym same)) goes there)

-- or it is the one that asks
pub waited_or : (asking : ℕ) (old new : Pool) → LedTo (Application asking) old new → (key : ℕ) → IsWaiting new.line key → ItselfOrWaiting asking old.line key
waited_or asking old new goes key there = itself_or asking old new key (cases_eq key asking) goes there

is_first : (key : ℕ) (others : List ℕ) → is_in key (key ∷ others) ≡ true
is_first key others = ap (λ (b : Bool). b || is_in key others) (eq-eqb key key refl)

-- whoever is served waited
pub served_waited : (a b : Core) (o : Option Served) (served : Served) → Unserved a b → Serving b.pool o → o ≡ Some served → (key : ℕ) → key ≡ served.hold.key → IsWaiting a.pool.line key
served_waited a b o served h s is key same =
    let k = served.hold.key in
    let x = subst (Serving b.pool) is s in
    let there : is_in k b.pool.line ≡ true = ap (is_in k) x.1 ∙ is_first k x.0 in
    subst (λ (n : ℕ). IsWaiting a.pool.line n) (sym same) (was_in (is_in k a.pool.line) k a.pool.line b.pool.line refl (λ e. (h.was k e).0) there)
