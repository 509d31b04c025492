-- How many leases were given: one more where a connection is lent to be cleaned.
use Rattle.std.proofs.Common.{◌≡◌, ◌≢◌, ◌∙◌, ◌≤◌, ℕ, suc, Bool, true, false, List, [], ◌∷◌, ◌++◌, Option, Some, None, refl, sym, ap, subst, arith, if◌then◌else◌}
use Rattle.std.specs.Prelude.{IfOk, Result, Ok, Err}
use Rattle.tds_client.specs.declared.fault.ClientRefusal.{ClientRefusal}
use Rattle.tds_wire.specs.declared.told.Token.{Token}
use Rattle.tds_service.specs.Line as line
use Rattle.tds_service.specs.Line.{Act}
use Rattle.tds_service.specs.Parts.{Part}
use Rattle.tds_service.specs.Refusing.{packets, refusal_in}
use Rattle.tds_service.specs.Service as calls
use Rattle.tds_service.specs.Service.{Seat, Service, find_by, has_lease, has_number, is_lendable, service_after, step}
use Rattle.tds_relay.specs.declared.pool.coming.What.{What}
use Rattle.tds_relay.specs.declared.pool.coming.What.TheVariants as whats
use Rattle.tds_relay.specs.Fronting.{calls_along}
use Rattle.tds_relay.specs.Pool.{Pool, pool_after}
use Rattle.tds_relay.specs.Ties.{Cause, LedOn, LedTo, IsReached, Neither, Reaches}
use Rattle.tds_relay.proofs.promises.Tidy.{all_rise}
use Rattle.tds_relay.proofs.spared.Held.{sound_at}
use Rattle.tds_relay.proofs.steps.Calling.{service_along}

-- ---- By one call

unless_given : (s : Service) (test : Seat → Bool) (c : Seat) (all : List (Act Token)) (why : Option ClientRefusal) → (calls.acts_unless s test c all why).service.given ≡ s.given
unless_given s test c all None = refl
unless_given s test c all (Some why) = refl

acts_given : (s : Service) (test : Seat → Bool) (first : Act Token) (all : List (Act Token)) (o : Option Seat) → (calls.acts s test first all o).service.given ≡ s.given
acts_given s test first all None = refl
acts_given s test first all (Some c) = unless_given s test c all (refusal_in (line.line_turn c.line first).answer)

hears_given : (s : Service) (test : Seat → Bool) (part : Part Token) (o : Option Seat) → (calls.hears s test part o).service.given ≡ s.given
hears_given s test part None = refl
hears_given s test part (Some c) = refl

cleans_if : (b : Bool) (s : Service) (test : Seat → Bool) (c : Seat) (lease number : ℕ) (had : Bool) → is_lendable c ≡ b → (calls.cleans {T = Token} s test (Some c)).reply ≡ calls.Lent lease number had
    → (calls.cleans {T = Token} s test (Some c)).service.given ≡ suc s.given
cleans_if true s test c lease number had is e = rw is refl
cleans_if false s test c lease number had is e =
    let no : (calls.cleans {T = Token} s test (Some c)).reply ≡ calls.NotNow = rw is refl in
    absurd (let u : calls.NotNow ≡ calls.Lent lease number had = sym no ∙ e in let v : ⊥ = cc in v)

cleans_given : (s : Service) (test : Seat → Bool) (o : Option Seat) (lease number : ℕ) (had : Bool) → (calls.cleans {T = Token} s test o).reply ≡ calls.Lent lease number had
    → (calls.cleans {T = Token} s test o).service.given ≡ suc s.given
cleans_given s test None lease number had e = absurd (let u : calls.Unknown ≡ calls.Lent lease number had = e in let v : ⊥ = cc in v)
cleans_given s test (Some c) lease number had e = cleans_if (is_lendable c) s test c lease number had refl e

no_less : (m n : ℕ) → n ≡ m → m ≤ n
no_less m n e = subst (λ (k : ℕ). m ≤ k) (sym e) (let u : m ≤ m = omega arith in u)

-- a cleaning is put
pub cleaned_given : (s t u v w : Service) (number lease at put finish : ℕ) (had : Bool) → t ≡ (step {T = Token} s (calls.Clean number)).service → (step {T = Token} s (calls.Clean number)).reply ≡ calls.Lent lease at had
    → u ≡ (step {T = Token} t (calls.Ask lease)).service → v ≡ (step {T = Token} u (calls.Put lease put)).service → w ≡ (step {T = Token} v (calls.Finish lease finish)).service → suc s.given ≤ w.given
cleaned_given s t u v w number lease at put finish had cleaned lent asked sent ended =
    no_less (suc s.given) w.given
    (ap (λ (x : Service). x.given) ended ∙ acts_given v (has_lease lease) (line.Send true) (packets finish ++ line.Send true ∷ []) (find_by (has_lease lease) v.seats)
    ∙ ap (λ (x : Service). x.given) sent ∙ acts_given u (has_lease lease) (line.Send false) (packets put) (find_by (has_lease lease) u.seats)
    ∙ ap (λ (x : Service). x.given) asked ∙ acts_given t (has_lease lease) line.Ask (line.Ask ∷ []) (find_by (has_lease lease) t.seats)
    ∙ ap (λ (x : Service). x.given) cleaned ∙ cleans_given s (has_number number) (find_by (has_number number) s.seats) lease at had lent)

-- something comes
pub came_given : (s t : Service) (number : ℕ) (part : Part Token) → t ≡ (step s (calls.Came number part)).service → t.given ≡ s.given
came_given s t number part e = ap (λ (x : Service). x.given) e ∙ hears_given s (has_number number) part (find_by (has_number number) s.seats)

pub if_all : {A E : Type 0} {P : A → Type 0} (r : Result A E) → ((x : A) → P x) → IfOk r P
if_all (Ok x) f = f x
if_all (Err e) f = tt

pub is_left_there : (b : Bool) (w : What) → w ≡ (if b then whats.Goes else whats.Closed) → w ≢ whats.Closed → b ≡ true
is_left_there true w e not = refl
is_left_there false w e not = absurd (not e)

-- ---- By events

pub goes_given : (by : Cause) (d e : Pool) → IsReached d → LedTo by d e → d.service.given ≤ e.service.given
goes_given by d e reached g =
    let r : Reaches by d e = g d (record { events = []; are = refl; caused = tt }) in
    let all : d.service.given ≤ (service_after d.service (calls_along d r.events)).given = (all_rise d.service (calls_along d r.events) (sound_at d reached).tidy).rises in
    let along : d.service.given ≤ (pool_after d r.events).service.given = subst (λ (s : Service). d.service.given ≤ s.given) (sym (service_along d r.events)) all in
    subst (λ (x : Pool). d.service.given ≤ x.service.given) r.are along

pub on_given : (d e : Pool) → IsReached d → LedOn d e → d.service.given ≤ e.service.given
on_given d e reached g = goes_given Neither d e reached (g Neither)
