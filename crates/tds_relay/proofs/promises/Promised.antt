-- What a pool promises, from how its connections are cared for.
use Rattle.std.proofs.Common.{◌≡◌, ◌∙◌, ◌==◌, ◌&&◌, ◌<◌, ℕ, suc, not, Bool, true, false, List, [], ◌∷◌, refl, sym, ap, subst, arith, inl, inr}
use Rattle.std.specs.Prelude.{Option, Some, None, ◌⊎◌, filter, length, nat_lt, if◌then◌else◌}
use Rattle.std.proofs.lemmas.Bool.{eqb-true, eq-eqb}
use Rattle.tds_client.specs.declared.fault.ClientRefusal.{ClientRefusal}
use Rattle.tds_wire.specs.declared.told.Token.{Token}
use Rattle.tds_relay.specs.declared.pool.Hold.{Hold}
use Rattle.tds_service.specs.Line as line
use Rattle.tds_service.specs.Line.{Line, LineStage, line_turn}
use Rattle.tds_service.specs.History.{history, line_after}
use Rattle.tds_service.specs.Refusing.{refusal_in}
use Rattle.tds_service.specs.Service as calls
use Rattle.tds_service.specs.Service.{Service, Call, Lent, Place, Leased, Cleaning, Kept, Free, Draining, Seat, find_by, change_by, has_lease, has_number, is_lendable, is_free, lease_in, lease_at, seat_numbered, acts_unless, step, steps, on}
use Rattle.tds_service.specs.Promises.{attentions}
use Rattle.tds_relay.specs.Pool as pool
use Rattle.tds_relay.specs.Pool.{Pool, Event, Action, Way, find_key, find_lease, cleaning, cleaning_by, releasing, frees, lent_in, ticket_in, whose, whose_by, key_of}
use Rattle.tds_relay.specs.Promises.{Each, CaresFor, IsCaredFor, IsClean, Cancels, IsOut, IsStop, NoneAstray, attentions_on, IsHandedTo, LendsClean, TakesOne}
use Rattle.tds_relay.proofs.promises.Seats.{Distinct, each_found, found_meets, found_other}
use Rattle.tds_relay.proofs.promises.Holding.{found_by_lease, found_lease}
use Rattle.tds_relay.proofs.promises.Phases.{Phase, Other, IsIdleAt}
use Rattle.tds_relay.proofs.promises.Caring.{Sound, found_held}
use Rattle.tds_relay.proofs.promises.Renewing.{one_by}
use Rattle.tds_relay.proofs.promises.Bringing.{Brought, brought, not_other}
use Rattle.tds_relay.proofs.promises.Astray.{AreQuiet, IsQuiet, all_quiet, first_alone, call_quiet, here_or_not}

-- ---- Where a connection is found by its number

numbered_by : (test : Seat → Bool) (c d : Seat) (ds : List Seat) (b : Bool) → (if b then Some d else find_by test ds) ≡ Some c → find_by (has_number d.number) ds ≡ None
    → (find_by test ds ≡ Some c → find_by (has_number c.number) ds ≡ Some c) → find_by (has_number c.number) (d ∷ ds) ≡ Some c
numbered_by test c d ds true e none ih =
    let same : d ≡ c = cc in
    let here : (d.number == c.number) ≡ true = eq-eqb d.number c.number (ap (λ (x : Seat). x.number) same) in
    rw here (ap (λ (x : Seat). Some x) same)
numbered_by test c d ds false e none ih =
    let apart : (c.number == d.number) ≡ false = found_other test (has_number d.number) c ds e none in
    let other : (d.number == c.number) ≡ false = grind arith in
    rw other (ih e)

pub found_numbered : (test : Seat → Bool) (c : Seat) (cs : List Seat) → Distinct cs → find_by test cs ≡ Some c → find_by (has_number c.number) cs ≡ Some c
found_numbered test c [] distinct e = absurd (let u : ⊥ = cc in u)
found_numbered test c (d ∷ ds) distinct e = numbered_by test c d ds (test d) e distinct.0 (λ f. found_numbered test c ds distinct.1 f)

-- ---- No attention astray

never : {P : Type 0} (k : ℕ) → k ≡ 0 → 0 < k → P
never k e lt = absurd (let u : ⊥ = omega (arith, e) in u)

cleaning_quiet : (number lease : ℕ) (way : Way) → AreQuiet (cleaning_by number lease way)
cleaning_quiet number lease (pool.Sent put finish) = (tt, (tt, (tt, (tt, tt))))
cleaning_quiet number lease pool.NotLent = (tt, tt)
cleaning_quiet number lease pool.NotAsked = (tt, (tt, tt))
cleaning_quiet number lease pool.NotPut = (tt, (tt, (tt, tt)))
cleaning_quiet number lease (pool.NotEnded put) = (tt, (tt, (tt, (tt, tt))))

if_quiet : (b : Bool) (xs ys : List (Call Token)) → AreQuiet xs → AreQuiet ys → AreQuiet (if b then xs else ys)
if_quiet true xs ys h g = h
if_quiet false xs ys h g = g

settles_quiet : (d : Pool) (s : Service) (n : ℕ) (way : Way) (lease : Option ℕ) (o : Option Hold) → (l : ℕ) → lease ≡ Some l → find_lease l d.holds ≡ o → AreQuiet (pool.settles d.holds s n way lease)
settles_quiet d s n way lease None l is e =
    rw (is, e) (tt, if_quiet (frees (step {T = Token} s (calls.Cleaned l)).reply) [] (calls.Lost n ∷ []) tt (tt, tt))
settles_quiet d s n way lease (Some h) l is e = rw (is, e) tt

settles_all_quiet : (d : Pool) (s : Service) (n : ℕ) (way : Way) (lease : Option ℕ) → AreQuiet (pool.settles d.holds s n way lease)
settles_all_quiet d s n way None = cleaning_quiet n (suc s.given) way
settles_all_quiet d s n way (Some l) = settles_quiet d s n way (Some l) (find_lease l d.holds) l refl refl

comes_quiet : (d : Pool) (call : Call Token) (s : Service) (n : ℕ) (way : Way) (lease : Option ℕ) (h : pool.Hearing) → IsQuiet call → AreQuiet (pool.comes_by d call s n way lease h).calls
comes_quiet d call s n way lease pool.Goes q = (q, tt)
comes_quiet d call s n way lease pool.Settled q = (q, settles_all_quiet d s n way lease)
comes_quiet d call s n way lease pool.Wrong q = (q, (tt, tt))

renews_by_quiet : (d : Pool) (h : Hold) (ticket : ℕ) (o : Option pool.Loan) (resumes : Bool) → AreQuiet (pool.renews_by d h ticket o resumes).calls
renews_by_quiet d h ticket o false = (tt, (tt, tt))
renews_by_quiet d h ticket None true = (tt, (tt, tt))
renews_by_quiet d h ticket (Some lent) true = (tt, (tt, tt))

keeps_by_quiet : (d : Pool) (h : Hold) (resumes : Bool) (s : Service) (o : Option ℕ) → AreQuiet (pool.keeps_by d h resumes s o).calls
keeps_by_quiet d h resumes s None = tt
keeps_by_quiet d h resumes s (Some ticket) = renews_by_quiet d h ticket (lent_in (step {T = Token} s (calls.Resume ticket)).reply) resumes

renews_quiet : (d : Pool) (resumes : Bool) (o : Option Hold) → AreQuiet (pool.renews d resumes o).calls
renews_quiet d resumes None = tt
renews_quiet d resumes (Some h) =
    let kept = step {T = Token} d.service (calls.Keep h.lease) in
    keeps_by_quiet d h resumes kept.service (ticket_in kept.reply)

serves_by_quiet : (d : Pool) (key : ℕ) (others : List ℕ) (o : Option pool.Loan) → AreQuiet (pool.serves_by d key others o).calls
serves_by_quiet d key others None = tt
serves_by_quiet d key others (Some lent) = (tt, tt)

serves_quiet : (d : Pool) (waiting : List ℕ) → AreQuiet (pool.serves d waiting).calls
serves_quiet d [] = tt
serves_quiet d (key ∷ others) = serves_by_quiet d key others (lent_in (step {T = Token} d.service calls.Lease).reply)

-- where one is cancelled, and an attention goes out, something of a request is out
out_by : (c : Seat) (stage : LineStage) → c.line.stage ≡ stage → 0 < attentions (history {T = Token} c.line (line.Cancel ∷ [])) → IsOut stage
out_by c line.Idle e lt = never (attentions (history {T = Token} c.line (line.Cancel ∷ []))) (rw e refl) lt
out_by c (line.Sending false) e lt = never (attentions (history {T = Token} c.line (line.Cancel ∷ []))) (rw e refl) lt
out_by c (line.Sending true) e lt = tt
out_by c line.Reading e lt = tt
out_by c line.Cancelling e lt = never (attentions (history {T = Token} c.line (line.Cancel ∷ []))) (rw e refl) lt
out_by c (line.Broken fault) e lt = never (attentions (history {T = Token} c.line (line.Cancel ∷ []))) (rw e refl) lt

-- what an application holds, where something is out
cancels_there : (d : Pool) (key n : ℕ) (h : Hold) (c : Seat) → Sound d → find_key key d.holds ≡ Some h → find_by (has_lease h.lease) d.service.seats ≡ Some c → c.number ≡ n → IsOut c.line.stage
    → Cancels d key n
cancels_there d key n h c sound its e number out =
    let lease = found_by_lease key 0 d.service.given h d.holds sound.rising its in
    record {
      held = record {
        hold = h;
        its = its;
        seat = c;
        there = subst (λ (k : ℕ). seat_numbered k d.service.seats ≡ Some c) number (found_numbered (has_lease h.lease) c d.service.seats sound.tidy.distinct e);
        lent = (found_held d h c sound lease e).0;
      };
      out = out;
    }

unless_out : (s : Service) (test : Seat → Bool) (c : Seat) (n : ℕ) (why : Option ClientRefusal) → (acts_unless {T = Token} s test c (line.Cancel ∷ []) why).number ≡ n
    → 0 < attentions (acts_unless {T = Token} s test c (line.Cancel ∷ []) why).dones → (c.number ≡ n) × IsOut c.line.stage
unless_out s test c n None number lt = (number, out_by c c.line.stage refl lt)
unless_out s test c n (Some why) number lt = never 0 refl lt

stops_out : (d : Pool) (key n : ℕ) (h : Hold) (o : Option Seat) → Sound d → find_key key d.holds ≡ Some h → find_by (has_lease h.lease) d.service.seats ≡ o
    → (calls.acts {T = Token} d.service (has_lease h.lease) line.Cancel (line.Cancel ∷ []) o).number ≡ n → 0 < attentions (calls.acts {T = Token} d.service (has_lease h.lease) line.Cancel (line.Cancel ∷ []) o).dones
    → Cancels d key n
stops_out d key n h None sound its e number lt = never 0 refl lt
stops_out d key n h (Some c) sound its e number lt =
    let out = unless_out d.service (has_lease h.lease) c n (refusal_in (line_turn {T = Token} c.line line.Cancel).answer) number lt in
    cancels_there d key n h c sound its e out.0 out.1

gives_out : (d : Pool) (key n : ℕ) (h : Hold) (o : Option Seat) → Sound d → find_key key d.holds ≡ Some h → find_by (has_lease h.lease) d.service.seats ≡ o
    → (calls.gives_back {T = Token} d.service (has_lease h.lease) o).number ≡ n → 0 < attentions (calls.gives_back {T = Token} d.service (has_lease h.lease) o).dones → Cancels d key n
gives_out d key n h None sound its e number lt = never 0 refl lt
gives_out d key n h (Some c) sound its e number lt = cancels_there d key n h c sound its e number (out_by c c.line.stage refl lt)

does_astray : (d : Pool) (key n : ℕ) (h : Hold) (action : Action) → Sound d → find_key key d.holds ≡ Some h → 0 < attentions (on n (steps d.service (pool.call_of h.lease action ∷ []))) → IsStop action × Cancels d key n
does_astray d key n h pool.Asks sound its lt = never (attentions (on n (steps d.service (pool.call_of h.lease pool.Asks ∷ [])))) (all_quiet n d.service (pool.call_of h.lease pool.Asks ∷ []) (tt, tt)) lt
does_astray d key n h (pool.Puts count) sound its lt =
    never (attentions (on n (steps d.service (pool.call_of h.lease (pool.Puts count) ∷ [])))) (all_quiet n d.service (pool.call_of h.lease (pool.Puts count) ∷ []) (tt, tt)) lt
does_astray d key n h (pool.Ends count) sound its lt =
    never (attentions (on n (steps d.service (pool.call_of h.lease (pool.Ends count) ∷ [])))) (all_quiet n d.service (pool.call_of h.lease (pool.Ends count) ∷ []) (tt, tt)) lt
does_astray d key n h pool.Stops sound its lt =
    let one = first_alone n d.service (calls.Cancel h.lease) [] (λ t. refl) lt in
    (tt, stops_out d key n h (find_by (has_lease h.lease) d.service.seats) sound its refl one.0 one.1)

does_none : (d : Pool) (key n : ℕ) (action : Action) (o : Option Hold) → find_key key d.holds ≡ o → Sound d → 0 < attentions (on n (steps d.service (pool.holder_does d action o).calls)) → IsStop action × Cancels d key n
does_none d key n action None e sound lt = never 0 refl lt
does_none d key n action (Some h) e sound lt = does_astray d key n h action sound e lt

leaves_none : (d : Pool) (key n : ℕ) (gives : Bool) (way : Way) (o : Option Hold) → find_key key d.holds ≡ o → Sound d → 0 < attentions (on n (steps d.service (pool.leaves d key gives way o).calls)) → Cancels d key n
leaves_none d key n gives way None e sound lt = never 0 refl lt
leaves_none d key n false way (Some h) e sound lt =
    never (attentions (on n (steps {T = Token} d.service (calls.Lost h.number ∷ [])))) (all_quiet n d.service (calls.Lost h.number ∷ []) (tt, tt)) lt
leaves_none d key n true way (Some h) e sound lt =
    let given = step {T = Token} d.service (calls.GiveBack h.lease) in
    let all = if frees given.reply then cleaning given.service h.number way else [] in
    let one = first_alone n d.service (calls.GiveBack h.lease) all
    (λ t. all_quiet n t all (if_quiet (frees given.reply) (cleaning given.service h.number way) [] (cleaning_quiet h.number (suc given.service.given) way) tt)) lt in
    gives_out d key n h (find_by (has_lease h.lease) d.service.seats) sound e refl one.0 one.1

-- one that nobody asked for is idle as it is let go
idle_given : (c : Seat) → c.line.stage ≡ line.Idle → attentions (history {T = Token} c.line (line.Cancel ∷ [])) ≡ 0
idle_given c e = rw e refl

given_quiet : (held : List Hold) (s : Service) (lease n : ℕ) (o : Option Seat) → find_by (has_lease lease) s.seats ≡ o → Each (Phase n (IsIdleAt (Leased lease)) (Other held lease)) s.seats
    → attentions (calls.gives_back {T = Token} s (has_lease lease) o).dones ≡ 0
given_quiet held s lease n None e h = refl
given_quiet held s lease n (Some c) e h =
    idle_given c
    (one_by (c.number == n) (IsIdleAt (Leased lease) c) (Other held lease c) (c.line.stage ≡ line.Idle) (each_found (Phase n (IsIdleAt (Leased lease)) (Other held lease)) (has_lease lease) c s.seats h e)
    (λ o. not_other held lease c (found_meets (has_lease lease) c s.seats e) o) (λ is x. x.idle))

releasing_quiet : (held : List Hold) (s : Service) (lease m n : ℕ) (gives : Bool) (way : Way) → Each (Phase m (IsIdleAt (Leased lease)) (Other held lease)) s.seats
    → attentions (on n (steps s (releasing s lease m gives way))) ≡ 0
releasing_quiet held s lease m n false way h = all_quiet n s (calls.Lost m ∷ []) (tt, tt)
releasing_quiet held s lease m n true way h =
    let given = step {T = Token} s (calls.GiveBack lease) in
    let all = if frees given.reply then cleaning given.service m way else [] in
    here_or_not (given.number == n) given.dones (on n (steps given.service all)) (given_quiet held s lease m (find_by (has_lease lease) s.seats) refl h)
    (all_quiet n given.service all (if_quiet (frees given.reply) (cleaning given.service m way) [] (cleaning_quiet m (suc given.service.given) way) tt))

brings_by_none : (d : Pool) (n : ℕ) (gives : Bool) (way : Way) → (lent_in (step {T = Token} d.service calls.Lease).reply ≡ None) ⊎ Brought d → attentions (on n (steps d.service (pool.brings d gives way).calls)) ≡ 0
brings_by_none d n gives way (inl none) =
    let s = (step {T = Token} d.service calls.Lease).service in
    subst (λ (o : Option pool.Loan). attentions (on n (steps d.service (pool.brings_by d s gives way o).calls)) ≡ 0) (sym none) refl
brings_by_none d n gives way (inr b) =
    let lent = step {T = Token} d.service calls.Lease in
    let lease = suc d.service.given in
    subst (λ (o : Option pool.Loan). attentions (on n (steps d.service (pool.brings_by d lent.service gives way o).calls)) ≡ 0) (sym b.lent)
    (here_or_not (lent.number == n) lent.dones (on n (steps lent.service (releasing lent.service lease b.number gives way))) (call_quiet d.service calls.Lease tt)
    (releasing_quiet d.holds lent.service lease b.number n gives way b.phase))

pub none_astray : (d : Pool) (event : Event) → Sound d → NoneAstray d event
none_astray d (pool.Waits key) sound n lt = never 0 refl lt
none_astray d (pool.Unwaits key) sound n lt = never 0 refl lt
none_astray d pool.Serves sound n lt = never (attentions_on d pool.Serves n) (all_quiet n d.service (pool.serves d d.line).calls (serves_quiet d d.line)) lt
none_astray d (pool.Brings gives way) sound n lt = never (attentions_on d (pool.Brings gives way) n) (brings_by_none d n gives way (brought d sound)) lt
none_astray d (pool.Does key action) sound n lt =
    let one = does_none d key n action (find_key key d.holds) refl sound lt in
    (key, (refl, one.0), one.1)
none_astray d (pool.Leaves key gives way) sound n lt = (key, refl, leaves_none d key n gives way (find_key key d.holds) refl sound lt)
none_astray d (pool.Renews key resumes) sound n lt =
    never (attentions_on d (pool.Renews key resumes) n) (all_quiet n d.service (pool.renews d resumes (find_key key d.holds)).calls (renews_quiet d resumes (find_key key d.holds))) lt
none_astray d (pool.Comes number part way) sound n lt =
    let heard = step d.service (calls.Came number part) in
    never (attentions_on d (pool.Comes number part way) n)
    (all_quiet n d.service (pool.packet_comes d number part way).calls
    (comes_quiet d (calls.Came number part) heard.service number way (lease_at (seat_numbered number d.service.seats)) (pool.hearing heard.dones) tt)) lt
none_astray d (pool.Loses number) sound n lt = never (attentions_on d (pool.Loses number) n) (all_quiet n d.service (calls.Lost number ∷ []) (tt, tt)) lt

-- ---- To whom what comes is handed

key_found : (o : Option Hold) (key : ℕ) → key_of o ≡ Some key → (h : Hold) × (o ≡ Some h) × (h.key ≡ key)
key_found None key e = absurd (let u : ⊥ = cc in u)
key_found (Some h) key e = (h, refl, (let same : h.key ≡ key = cc in same))

handed_at : (d : Pool) (n key : ℕ) (c : Seat) (place : Place) → c.place ≡ place → seat_numbered n d.service.seats ≡ Some c → IsCaredFor d.holds c.number place c.line → whose_by (lease_in place) d.holds ≡ Some key
    → IsHandedTo d n key
handed_at d n key c (Leased lease) at there cared e =
    let found = key_found (find_lease lease d.holds) key e in
    let is : found.0.lease ≡ lease = found_lease lease found.0 d.holds found.1 in
    record {
      hold = found.0;
      its = subst (λ (k : ℕ). find_lease k d.holds ≡ Some found.0) (sym is) found.1;
      key_is = found.2;
      seat = c;
      there = there;
      lent = at ∙ ap (λ (k : ℕ). Leased k) (sym is);
    }
handed_at d n key c (Cleaning lease) at there cared e =
    let found = key_found (find_lease lease d.holds) key e in
    absurd (let none = cared.unheld in let some = found.1 in let u : ⊥ = cc in u)
handed_at d n key c (Kept ticket) at there cared e = absurd (let u : ⊥ = cc in u)
handed_at d n key c Free at there cared e = absurd (let u : ⊥ = cc in u)
handed_at d n key c Draining at there cared e = absurd (let u : ⊥ = cc in u)

handed_by : (d : Pool) (n key : ℕ) (o : Option Seat) → seat_numbered n d.service.seats ≡ o → Sound d → whose_by (lease_at o) d.holds ≡ Some key → IsHandedTo d n key
handed_by d n key None there sound e = absurd (let u : ⊥ = cc in u)
handed_by d n key (Some c) there sound e = handed_at d n key c c.place refl there (each_found (CaresFor d.holds) (has_number n) c d.service.seats sound.cared there) e

pub handed_to_holder : (d : Pool) (n key : ℕ) → Sound d → whose d n ≡ Some key → IsHandedTo d n key
handed_to_holder d n key sound e = handed_by d n key (seat_numbered n d.service.seats) refl sound e

-- ---- Who is lent one

free_clean : (held : List Hold) (c : Seat) (place : Place) → IsCaredFor held c.number place c.line → is_free place ≡ true → IsClean c.line
free_clean held c (Leased lease) h e = absurd (let u : ⊥ = cc in u)
free_clean held c (Cleaning lease) h e = absurd (let u : ⊥ = cc in u)
free_clean held c (Kept ticket) h e = absurd (let u : ⊥ = cc in u)
free_clean held c Free h e = h
free_clean held c Draining h e = absurd (let u : ⊥ = cc in u)

and_first : (a b : Bool) → (a && b) ≡ true → a ≡ true
and_first true b e = refl
and_first false b e = absurd (let u : ⊥ = cc in u)

opens_new : (s : Service) (room : Bool) (lease number : ℕ) → (calls.opens {T = Token} s room).reply ≡ Lent lease number true → ⊥
opens_new s false lease number e = let u : ⊥ = cc in u
opens_new s true lease number e = let u : ⊥ = cc in u

lends_by : (d : Pool) (o : Option Seat) (lease number : ℕ) → find_by is_lendable d.service.seats ≡ o → Sound d → (calls.lends {T = Token} d.service o).reply ≡ Lent lease number true
    → (c : Seat) × (seat_numbered number d.service.seats ≡ Some c) × IsClean c.line
lends_by d None lease number e sound reply = absurd (opens_new d.service (nat_lt (length d.service.seats) d.service.max) lease number reply)
lends_by d (Some c) lease number e sound reply =
    let same : c.number ≡ number = cc in (
      c,
      subst (λ (k : ℕ). seat_numbered k d.service.seats ≡ Some c) same (found_numbered is_lendable c d.service.seats sound.tidy.distinct e),
      free_clean d.holds c c.place (each_found (CaresFor d.holds) is_lendable c d.service.seats sound.cared e)
          (and_first (is_free c.place) (calls.is_idle c.line.stage) (found_meets is_lendable c d.service.seats e)),
    )

pub lends_clean : (d : Pool) → Sound d → LendsClean d (step {T = Token} d.service calls.Lease).reply
lends_clean d sound lease number e = lends_by d (find_by is_lendable d.service.seats) lease number refl sound e

-- ---- One is lost

kept_key_by : (p : Hold → Bool) (key : ℕ) (h y : Hold) (ys : List Hold) (b k : Bool) → (y.key == key) ≡ b → p y ≡ k → (if b then Some y else find_key key ys) ≡ Some h → p h ≡ true
    → (find_key key ys ≡ Some h → find_key key (filter p ys) ≡ Some h) → find_key key (if k then y ∷ filter p ys else filter p ys) ≡ Some h
kept_key_by p key h y ys true true e q f kept ih = rw e f
kept_key_by p key h y ys true false e q f kept ih =
    let same : y ≡ h = cc in
    absurd (let u : true ≡ false = sym kept ∙ ap p (sym same) ∙ q in let v : ⊥ = cc in v)
kept_key_by p key h y ys false true e q f kept ih = rw e (ih f)
kept_key_by p key h y ys false false e q f kept ih = ih f

kept_key : (p : Hold → Bool) (key : ℕ) (h : Hold) (hs : List Hold) → find_key key hs ≡ Some h → p h ≡ true → find_key key (filter p hs) ≡ Some h
kept_key p key h [] e kept = absurd (let u : ⊥ = cc in u)
kept_key p key h (y ∷ ys) e kept = kept_key_by p key h y ys (y.key == key) (p y) refl refl e kept (λ f. kept_key p key h ys f kept)

gone_other_by : (n m : ℕ) (l : Line) (d : Seat) (ds : List Seat) (b : Bool) → (d.number == m) ≡ b → (n == m) ≡ false → seat_numbered n (change_by (has_number m) None l ds) ≡ seat_numbered n ds
    → seat_numbered n (if b then ds else d ∷ change_by (has_number m) None l ds) ≡ seat_numbered n (d ∷ ds)
gone_other_by n m l d ds true e other ih =
    let is : d.number ≡ m = eqb-true d.number m e in
    let apart : (d.number == n) ≡ false = grind arith in
    rw apart refl
gone_other_by n m l d ds false e other ih = ap (λ (o : Option Seat). if d.number == n then Some d else o) ih

gone_other : (n m : ℕ) (l : Line) (cs : List Seat) → (n == m) ≡ false → seat_numbered n (change_by (has_number m) None l cs) ≡ seat_numbered n cs
gone_other n m l [] other = refl
gone_other n m l (d ∷ ds) other = gone_other_by n m l d ds (d.number == m) refl other (gone_other n m l ds other)

lost_seats : (s : Service) (n m : ℕ) (o : Option Seat) → (n == m) ≡ false → seat_numbered n (calls.loses {T = Token} s (has_number m) o).service.seats ≡ seat_numbered n s.seats
lost_seats s n m None other = refl
lost_seats s n m (Some c) other = gone_other n m (line_after {T = Token} c.line (line.Lose ∷ [])) s.seats other

pub takes_one : (d : Pool) (number : ℕ) → TakesOne d number
takes_one d number = record {
  holds = λ key h e other. kept_key (λ (x : Hold). not (x.number == number)) key h d.holds e (rw other refl);
  seats = λ n other. lost_seats d.service n number (find_by (has_number number) d.service.seats) other;
}
