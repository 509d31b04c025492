-- What is said of a request, is said once.
use Rattle.std.proofs.Common.{◌≡◌, ◌∙◌, ◌==◌, ◌+◌, ◌<◌, ◌≤◌, ℕ, suc, Bool, true, false, List, [], ◌∷◌, refl, sym, ap, subst, arith}
use Rattle.std.specs.Prelude.{Option, Some, None, if◌then◌else◌}
use Rattle.std.proofs.lemmas.Bool.{eqb-true}
use Rattle.tds_wire.specs.declared.told.Token.{Token}
use Rattle.tds_relay.specs.declared.pool.Hold.{Hold}
use Rattle.tds_service.specs.Service as calls
use Rattle.tds_service.specs.Service.{Service, Call, lease_at, seat_numbered, step}
use Rattle.tds_relay.specs.Pool as pool
use Rattle.tds_relay.specs.Pool.{Pool, Event, Action, Way, find_key, find_lease, cleaning_by, releasing, frees, lent_in, ticket_in, turn}
use Rattle.tds_relay.specs.Promises.{SaysOnce, one_if, said_by}
use Rattle.tds_relay.proofs.promises.Tidy.{Tidy, step_rises}
use Rattle.tds_relay.proofs.promises.Holding.{Rising, up_to, found_by_lease}
use Rattle.tds_relay.proofs.promises.Caring.{Sound}

-- ---- What is found

key_by : (key : ℕ) (h x : Hold) (xs : List Hold) (b : Bool) → (x.key == key) ≡ b → (if b then Some x else find_key key xs) ≡ Some h → (find_key key xs ≡ Some h → h.key ≡ key) → h.key ≡ key
key_by key h x xs true e f ih = let same : x ≡ h = cc in ap (λ (y : Hold). y.key) (sym same) ∙ eqb-true x.key key e
key_by key h x xs false e f ih = ih f

found_key : (key : ℕ) (h : Hold) (hs : List Hold) → find_key key hs ≡ Some h → h.key ≡ key
found_key key h [] e = absurd (let u : ⊥ = cc in u)
found_key key h (x ∷ xs) e = key_by key h x xs (x.key == key) refl e (λ f. found_key key h xs f)

within_by : (key high : ℕ) (h x : Hold) (xs : List Hold) (b : Bool) → x.lease ≤ high → (if b then Some x else find_key key xs) ≡ Some h → (find_key key xs ≡ Some h → h.lease ≤ high) → h.lease ≤ high
within_by key high h x xs true le f ih = let same : x ≡ h = cc in subst (λ (y : Hold). y.lease ≤ high) same le
within_by key high h x xs false le f ih = ih f

-- what is held is held by a lease that was given
found_within : (key low high : ℕ) (h : Hold) (hs : List Hold) → Rising low high hs → find_key key hs ≡ Some h → h.lease ≤ high
found_within key low high h [] r e = absurd (let u : ⊥ = cc in u)
found_within key low high h (x ∷ xs) r e = within_by key high h x xs (x.key == key) (up_to x.lease high xs r.1) e (λ f. found_within key x.lease high h xs r.1 f)

same_hold : (h x : Hold) (hs : List Hold) → find_lease h.lease hs ≡ Some h → find_lease x.lease hs ≡ Some x → x.lease ≡ h.lease → x ≡ h
same_hold h x hs e f same =
    let both : Some x ≡ Some h = sym f ∙ ap (λ (l : ℕ). find_lease l hs) same ∙ e in
    cc

-- two that hold by one lease are one
same_key : (d : Pool) (key other : ℕ) (h x : Hold) → Sound d → find_key key d.holds ≡ Some h → find_key other d.holds ≡ Some x → x.lease ≡ h.lease → other ≡ key
same_key d key other h x sound e f same =
    let one = same_hold h x d.holds (found_by_lease key 0 d.service.given h d.holds sound.rising e) (found_by_lease other 0 d.service.given x d.holds sound.rising f) same in
    sym (found_key other x d.holds f) ∙ ap (λ (y : Hold). y.key) one ∙ found_key key h d.holds e

-- ---- Calls that say nothing by a lease

zero_more : (n : ℕ) → n ≡ 0 → 0 + n ≡ 0
zero_more n e = omega (arith, e)

cleaning_unsaid : (lease number clean : ℕ) (way : Way) → (clean == lease) ≡ false → said_by lease (cleaning_by number clean way) ≡ 0
cleaning_unsaid lease number clean (pool.Sent put finish) other = rw other refl
cleaning_unsaid lease number clean pool.NotLent other = refl
cleaning_unsaid lease number clean pool.NotAsked other = refl
cleaning_unsaid lease number clean pool.NotPut other = rw other refl
cleaning_unsaid lease number clean (pool.NotEnded put) other = rw other refl

-- a cleaning is by a lease that was given to nobody
cleaned_unsaid : (lease number given : ℕ) (way : Way) → lease ≤ given → said_by lease (cleaning_by number (suc given) way) ≡ 0
cleaned_unsaid lease number given way le =
    let other : (suc given == lease) ≡ false = grind arith in
    cleaning_unsaid lease number (suc given) way other

if_unsaid : (lease : ℕ) (b : Bool) (xs ys : List (Call Token)) → said_by lease xs ≡ 0 → said_by lease ys ≡ 0 → said_by lease (if b then xs else ys) ≡ 0
if_unsaid lease true xs ys h g = h
if_unsaid lease false xs ys h g = g

releasing_unsaid : (s : Service) (lease other number : ℕ) (gives : Bool) (way : Way) → Tidy s → lease ≤ s.given → said_by lease (releasing s other number gives way) ≡ 0
releasing_unsaid s lease other number false way tidy le = refl
releasing_unsaid s lease other number true way tidy le =
    let given = step {T = Token} s (calls.GiveBack other) in
    let rises = (step_rises s (calls.GiveBack other) tidy).rises in
    let more : lease ≤ given.service.given = omega (arith, rises, le) in
    zero_more _ (if_unsaid lease (frees given.reply) (cleaning_by number (suc given.service.given) way) [] (cleaned_unsaid lease number given.service.given way more) refl)

settles_unsaid : (holds : List Hold) (s : Service) (lease n l : ℕ) (way : Way) (o : Option Hold) → said_by lease (pool.settles_of s n l way o) ≡ 0
settles_unsaid holds s lease n l way (Some h) = refl
settles_unsaid holds s lease n l way None = zero_more _ (if_unsaid lease (frees (step {T = Token} s (calls.Cleaned l)).reply) [] (calls.Lost n ∷ []) refl refl)

all_settles_unsaid : (holds : List Hold) (s : Service) (lease n : ℕ) (way : Way) (o : Option ℕ) → lease ≤ s.given → said_by lease (pool.settles holds s n way o) ≡ 0
all_settles_unsaid holds s lease n way (Some l) le = settles_unsaid holds s lease n l way (find_lease l holds)
all_settles_unsaid holds s lease n way None le = cleaned_unsaid lease n s.given way le

comes_unsaid : (d : Pool) (number : ℕ) (part : _) (s : Service) (lease n : ℕ) (way : Way) (o : Option ℕ) (h : pool.Hearing) → lease ≤ s.given
    → said_by lease (pool.comes_by d (calls.Came number part) s n way o h).calls ≡ 0
comes_unsaid d number part s lease n way o pool.Goes le = refl
comes_unsaid d number part s lease n way o pool.Settled le = zero_more _ (all_settles_unsaid d.holds s lease n way o le)
comes_unsaid d number part s lease n way o pool.Wrong le = refl

renews_by_unsaid : (d : Pool) (lease : ℕ) (h : Hold) (ticket : ℕ) (o : Option pool.Loan) (resumes : Bool) → said_by lease (pool.renews_by d h ticket o resumes).calls ≡ 0
renews_by_unsaid d lease h ticket o false = refl
renews_by_unsaid d lease h ticket None true = refl
renews_by_unsaid d lease h ticket (Some lent) true = refl

keeps_by_unsaid : (d : Pool) (lease : ℕ) (h : Hold) (resumes : Bool) (s : Service) (o : Option ℕ) → said_by lease (pool.keeps_by d h resumes s o).calls ≡ 0
keeps_by_unsaid d lease h resumes s None = refl
keeps_by_unsaid d lease h resumes s (Some ticket) = renews_by_unsaid d lease h ticket (lent_in (step {T = Token} s (calls.Resume ticket)).reply) resumes

renews_unsaid : (d : Pool) (lease : ℕ) (resumes : Bool) (o : Option Hold) → said_by lease (pool.renews d resumes o).calls ≡ 0
renews_unsaid d lease resumes None = refl
renews_unsaid d lease resumes (Some h) =
    let kept = step {T = Token} d.service (calls.Keep h.lease) in
    keeps_by_unsaid d lease h resumes kept.service (ticket_in kept.reply)

serves_by_unsaid : (d : Pool) (lease key : ℕ) (others : List ℕ) (o : Option pool.Loan) → said_by lease (pool.serves_by d key others o).calls ≡ 0
serves_by_unsaid d lease key others None = refl
serves_by_unsaid d lease key others (Some lent) = refl

serves_unsaid : (d : Pool) (lease : ℕ) (waiting : List ℕ) → said_by lease (pool.serves d waiting).calls ≡ 0
serves_unsaid d lease [] = refl
serves_unsaid d lease (key ∷ others) = serves_by_unsaid d lease key others (lent_in (step {T = Token} d.service calls.Lease).reply)

brings_unsaid : (d : Pool) (s : Service) (lease : ℕ) (gives : Bool) (way : Way) (o : Option pool.Loan) → Tidy s → lease ≤ s.given → said_by lease (pool.brings_by d s gives way o).calls ≡ 0
brings_unsaid d s lease gives way None tidy le = refl
brings_unsaid d s lease gives way (Some lent) tidy le = zero_more _ (releasing_unsaid s lease lent.lease lent.number gives way tidy le)

leaves_unsaid : (d : Pool) (lease key : ℕ) (gives : Bool) (way : Way) (o : Option Hold) → Tidy d.service → lease ≤ d.service.given → said_by lease (pool.leaves d key gives way o).calls ≡ 0
leaves_unsaid d lease key gives way None tidy le = refl
leaves_unsaid d lease key gives way (Some h) tidy le = releasing_unsaid d.service lease h.lease h.number gives way tidy le

-- ---- What an event says

never : {P : Type 0} (k : ℕ) → k ≡ 0 → 0 < k → P
never k e lt = absurd (let u : ⊥ = omega (arith, e) in u)

once : (b : Bool) → 0 < one_if b + 0 → (b ≡ true) × (one_if b + 0 ≡ 1)
once true lt = (refl, refl)
once false lt = absurd (let u : ⊥ = omega arith in u)

does_once : (d : Pool) (key other : ℕ) (action : Action) (h : Hold) (o : Option Hold) → Sound d → find_key key d.holds ≡ Some h → find_key other d.holds ≡ o
    → 0 < said_by h.lease (pool.holder_does d action o).calls → (does : Action) × (pool.Does other action ≡ pool.Does key does) × (said_by h.lease (pool.holder_does d action o).calls ≡ 1)
does_once d key other action h None sound e f lt = never 0 refl lt
does_once d key other pool.Asks h (Some x) sound e f lt =
    let one = once (x.lease == h.lease) lt in
    (pool.Asks, ap (λ (k : ℕ). pool.Does k pool.Asks) (same_key d key other h x sound e f (eqb-true x.lease h.lease one.0)), one.1)
does_once d key other (pool.Puts count) h (Some x) sound e f lt =
    let one = once (x.lease == h.lease) lt in
    (pool.Puts count, ap (λ (k : ℕ). pool.Does k (pool.Puts count)) (same_key d key other h x sound e f (eqb-true x.lease h.lease one.0)), one.1)
does_once d key other (pool.Ends count) h (Some x) sound e f lt =
    let one = once (x.lease == h.lease) lt in
    (pool.Ends count, ap (λ (k : ℕ). pool.Does k (pool.Ends count)) (same_key d key other h x sound e f (eqb-true x.lease h.lease one.0)), one.1)
does_once d key other pool.Stops h (Some x) sound e f lt = never 0 refl lt

pub says_once : (d : Pool) (event : Event) → Sound d → SaysOnce d event
says_once d (pool.Waits other) sound key h e lt = never 0 refl lt
says_once d (pool.Unwaits other) sound key h e lt = never 0 refl lt
says_once d pool.Serves sound key h e lt = never _ (serves_unsaid d h.lease d.line) lt
says_once d (pool.Brings gives way) sound key h e lt =
    let lent = step {T = Token} d.service calls.Lease in
    let rises = step_rises d.service calls.Lease sound.tidy in
    let le : h.lease ≤ d.service.given = found_within key 0 d.service.given h d.holds sound.rising e in
    let more : h.lease ≤ lent.service.given = omega (arith, rises.rises, le) in
    never _ (brings_unsaid d lent.service h.lease gives way (lent_in lent.reply) rises.tidy more) lt
says_once d (pool.Does other action) sound key h e lt = does_once d key other action h (find_key other d.holds) sound e refl lt
says_once d (pool.Leaves other gives way) sound key h e lt =
    never _ (leaves_unsaid d h.lease other gives way (find_key other d.holds) sound.tidy (found_within key 0 d.service.given h d.holds sound.rising e)) lt
says_once d (pool.Renews other resumes) sound key h e lt = never _ (renews_unsaid d h.lease resumes (find_key other d.holds)) lt
says_once d (pool.Comes number part way) sound key h e lt =
    let heard = step {T = Token} d.service (calls.Came number part) in
    let rises = (step_rises d.service (calls.Came number part) sound.tidy).rises in
    let le : h.lease ≤ d.service.given = found_within key 0 d.service.given h d.holds sound.rising e in
    let more : h.lease ≤ heard.service.given = omega (arith, rises, le) in
    never _ (comes_unsaid d number part heard.service h.lease number way (lease_at (seat_numbered number d.service.seats)) (pool.hearing heard.dones) more) lt
says_once d (pool.Loses number) sound key h e lt = never 0 refl lt
