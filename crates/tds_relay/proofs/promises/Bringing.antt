-- Each connection is cared for where one comes that nobody asked for; and so behind any events.
use Rattle.std.proofs.Common.{◌≡◌, ◌∙◌, ◌==◌, ◌&&◌, ◌≤◌, ℕ, suc, Bool, true, false, List, [], ◌∷◌, ◌++◌, length, refl, sym, subst, arith, inl, inr}
use Rattle.std.specs.Prelude.{Option, Some, None, ◌⊎◌, nat_lt}
use Rattle.std.proofs.lemmas.Bool.{eqb-true, eq-eqb}
use Rattle.tds_wire.specs.declared.told.Token.{Token}
use Rattle.tds_packet.specs.declared.status.Reset.TheVariants.{Full}
use Rattle.tds_relay.specs.declared.pool.Hold.{Hold}
use Rattle.tds_service.specs.Line as line
use Rattle.tds_service.specs.Line.{Line, LineStage, cancels, new_line}
use Rattle.tds_service.specs.History.{line_after}
use Rattle.tds_service.specs.Service as calls
use Rattle.tds_service.specs.Service.{Service, Call, Reply, Place, Leased, Cleaning, Kept, Free, Draining, Seat, find_by, change_by, has_lease, has_number, is_lendable, is_idle, is_free, rests, step, service_after, does, nothing}
use Rattle.tds_relay.specs.Pool as pool
use Rattle.tds_relay.specs.Pool.{Pool, Event, Sharing, Way, find_key, find_lease, moves, releasing, frees, lent_in, brings_by, turn, pool_after, new_pool}
use Rattle.tds_relay.specs.Promises.{Each, CaresFor}
use Rattle.tds_relay.proofs.promises.Seats.{each_weaker, each_added, each_found, each_fails, found_meets}
use Rattle.tds_relay.proofs.promises.Tidy.{Tidy, UpTo, step_rises, next_is_new}
use Rattle.tds_relay.proofs.promises.Holding.{none_above}
use Rattle.tds_relay.proofs.promises.Phases.{Choose, Phase, Other, IsIdleAt, of_other, as_one, as_other, phase_changed, lost_leaves}
use Rattle.tds_relay.proofs.promises.Caring.{Sound, Given, sound_by, rests_sound, same_phase, each_both, released, rested, does_sound, leaves_sound, loses_sound, serves_sound}
use Rattle.tds_relay.proofs.promises.Hearing.{comes_sound}
use Rattle.tds_relay.proofs.promises.Renewing.{idle_is, one_by, renews_sound}

both_so : (b : Bool) (X O P : Type 0) → Choose b X O → (X → P) → (O → P) → P
both_so true X O P h f g = f h
both_so false X O P h f g = g h

its : (lease : ℕ) (c : Seat) → c.place ≡ Leased lease → has_lease lease c ≡ true
its lease c e = rw e (eq-eqb lease lease refl)

pub not_other : (held : List Hold) (lease : ℕ) (c : Seat) → has_lease lease c ≡ true → Other held lease c → ⊥
not_other held lease c e o = let u : true ≡ false = sym e ∙ o.not_its in let v : ⊥ = cc in v

-- A connection that was lent to nobody is let go.
given_by : (held : List Hold) (s : Service) (lease n : ℕ) (way : Way) (o : Option Seat) → find_by (has_lease lease) s.seats ≡ o → Tidy s → find_lease (suc s.given) held ≡ None
    → Each (Phase n (IsIdleAt (Leased lease)) (Other held lease)) s.seats → Given held s lease n way o
given_by held s lease n way None e tidy new h =
    each_fails (Phase n (IsIdleAt (Leased lease)) (Other held lease)) (CaresFor held) (has_lease lease)
    (λ x px fails. both_so (x.number == n) (IsIdleAt (Leased lease) x) (Other held lease x) (CaresFor held x) px
    (λ hx. absurd (let u : true ≡ false = sym (its lease x hx.is_at) ∙ fails in let v : ⊥ = cc in v)) (λ o. o.cared))
    s.seats h e
given_by held s lease n way (Some c) e tidy new h =
    let one = one_by (c.number == n) (IsIdleAt (Leased lease) c) (Other held lease c) (((c.number == n) ≡ true) × IsIdleAt (Leased lease) c)
    (each_found (Phase n (IsIdleAt (Leased lease)) (Other held lease)) (has_lease lease) c s.seats h e)
    (λ o. not_other held lease c (found_meets (has_lease lease) c s.seats e) o) (λ is x. (is, x)) in
    let number : c.number ≡ n = eqb-true c.number n one.0 in
    let l = (cancels {T = Token} c.line c.line.stage).line in
    let place = rests l.stage in
    let t : Tidy (step {T = Token} s (calls.GiveBack lease)).service = (step_rises s (calls.GiveBack lease) tidy).tidy in
    let t2 : Tidy (record { max = s.max; last = s.last; given = s.given; seats = change_by (has_lease lease) place l s.seats }) = rw e at t in
    released held s (has_lease lease) c n place l way (Phase n (IsIdleAt (Leased lease)) (Other held lease)) t2 tidy.distinct e one.0 new h
    (λ x px other. let apart : (x.number == n) ≡ false = subst (λ (k : ℕ). (x.number == k) ≡ false) number other in
    (of_other (x.number == n) (IsIdleAt (Leased lease) x) (Other held lease x) apart px).cared)
    (rested c.line c.line.stage refl)

releasing_cares : (held : List Hold) (s : Service) (lease n : ℕ) (gives : Bool) (way : Way) → Tidy s → find_lease (suc s.given) held ≡ None
    → Each (Phase n (IsIdleAt (Leased lease)) (Other held lease)) s.seats → Each (CaresFor held) (service_after s (releasing s lease n gives way)).seats
releasing_cares held s lease n false way tidy new h =
    lost_leaves s n (IsIdleAt (Leased lease)) (Other held lease) (CaresFor held) tidy.distinct h (λ x other o. o.cared)
releasing_cares held s lease n true way tidy new h = given_by held s lease n way (find_by (has_lease lease) s.seats) refl tidy new h

-- others, before it is lent
others : (d : Pool) → Sound d → Each (Other d.holds (suc d.service.given)) d.service.seats
others d sound =
    each_fails (CaresFor d.holds) (Other d.holds (suc d.service.given)) (has_lease (suc d.service.given)) (λ x hx fails. record { cared = hx; not_its = fails }) d.service.seats sound.cared
    (next_is_new d.service sound.tidy)

-- One is lent, to nobody yet: it is idle, and the others are cared for.
pub record Brought (d : Pool) : Type 0 where
  pub number : ℕ
  pub given : (step {T = Token} d.service calls.Lease).service.given ≡ suc d.service.given
  pub lent : lent_in (step {T = Token} d.service calls.Lease).reply ≡ Some (record { lease = suc d.service.given; number = number })
  pub phase : Each (Phase number (IsIdleAt (Leased (suc d.service.given))) (Other d.holds (suc d.service.given))) (step {T = Token} d.service calls.Lease).service.seats

brought_open : (d : Pool) (room : Bool) → nat_lt (length d.service.seats) d.service.max ≡ room → find_by is_lendable d.service.seats ≡ None → Sound d
    → (lent_in (step {T = Token} d.service calls.Lease).reply ≡ None) ⊎ Brought d
brought_open d false r e sound = inl (rw (e, r) refl)
brought_open d true r e sound =
    let n = suc d.service.last in
    let lease = suc d.service.given in
    let c : Seat = record { number = n; place = Leased lease; line = new_line } in
    let seats : (step {T = Token} d.service calls.Lease).service.seats ≡ d.service.seats ++ record { number = suc d.service.last; place = Leased (suc d.service.given); line = new_line } ∷ [] = rw (e, r) refl in
    let X : Seat → Type 0 = IsIdleAt (Leased lease) in
    let O : Seat → Type 0 = Other d.holds lease in
    let all : Each (Phase n X O) (d.service.seats ++ c ∷ []) =
    each_added (Phase n X O) c d.service.seats
    (each_weaker (λ x. O x × UpTo d.service.last x) (Phase n X O)
    (λ x h. let apart : (x.number == n) ≡ false = (let le : x.number ≤ d.service.last = h.1 in grind arith) in as_other (x.number == n) (X x) (O x) apart h.0)
    d.service.seats (each_both O (UpTo d.service.last) d.service.seats (others d sound) sound.tidy.upto))
    (as_one (c.number == n) (X c) (O c) (eq-eqb n n refl) (record { is_at = refl; idle = refl })) in
    inr (record { number = suc d.service.last; given = rw (e, r) refl; lent = rw (e, r) refl; phase = subst (λ (cs : List Seat). Each (Phase n X O) cs) (sym seats) all })

pub and_second : (a b : Bool) → (a && b) ≡ true → b ≡ true
and_second true b e = e
and_second false b e = absurd (let u : ⊥ = cc in u)

pub lendable_idle : (c : Seat) → is_lendable c ≡ true → c.line.stage ≡ line.Idle
lendable_idle c e = idle_is c.line.stage (and_second (is_free c.place) (is_idle c.line.stage) e)

marked_idle : (l : Line) → l.stage ≡ line.Idle → (line_after {T = Token} l (line.Mark Full ∷ [])).stage ≡ line.Idle
marked_idle l e = rw e refl

brought_found : (d : Pool) (o : Option Seat) → find_by is_lendable d.service.seats ≡ o → Sound d → (lent_in (step {T = Token} d.service calls.Lease).reply ≡ None) ⊎ Brought d
brought_found d None e sound = brought_open d (nat_lt (length d.service.seats) d.service.max) refl e sound
brought_found d (Some c) e sound =
    let n = c.number in
    let lease = suc d.service.given in
    let l = line_after {T = Token} c.line (line.Mark Full ∷ []) in
    let seats : (step {T = Token} d.service calls.Lease).service.seats ≡ change_by is_lendable (Some (Leased (suc d.service.given))) (line_after {T = Token} c.line (line.Mark Full ∷ [])) d.service.seats = rw e refl in
    let X : Seat → Type 0 = IsIdleAt (Leased lease) in
    let O : Seat → Type 0 = Other d.holds lease in
    let all : Each (Phase n X O) (change_by is_lendable (Some (Leased lease)) l d.service.seats) =
    phase_changed n O X O is_lendable (Some (Leased lease)) l c d.service.seats sound.tidy.distinct (same_phase n O d.service.seats (others d sound)) e (eq-eqb n n refl)
    (record { is_at = refl; idle = marked_idle c.line (lendable_idle c (found_meets is_lendable c d.service.seats e)) }) in
    inr (record { number = c.number; given = rw e refl; lent = rw e refl; phase = subst (λ (cs : List Seat). Each (Phase n X O) cs) (sym seats) all })

pub brought : (d : Pool) → Sound d → (lent_in (step {T = Token} d.service calls.Lease).reply ≡ None) ⊎ Brought d
brought d sound = brought_found d (find_by is_lendable d.service.seats) refl sound

brings_by_brought : (d : Pool) (gives : Bool) (way : Way) → (lent_in (step {T = Token} d.service calls.Lease).reply ≡ None) ⊎ Brought d → Sound d → Sound (pool.brings d gives way).pool
brings_by_brought d gives way (inl none) sound =
    subst (λ (o : Option pool.Loan). Sound (brings_by d (step {T = Token} d.service calls.Lease).service gives way o).pool) (sym none) (rests_sound d d.line sound)
brings_by_brought d gives way (inr b) sound =
    let s = (step {T = Token} d.service calls.Lease).service in
    let t = step_rises d.service calls.Lease sound.tidy in
    let lease = suc d.service.given in
    subst (λ (o : Option pool.Loan). Sound (brings_by d s gives way o).pool) (sym b.lent)
    (sound_by d d.holds d.line (calls.Lease ∷ releasing s lease b.number gives way) sound sound.rising
    (releasing_cares d.holds s lease b.number gives way t.tidy (none_above 0 d.service.given (suc s.given) d.holds sound.rising (omega (arith, b.given))) b.phase))

-- ---- All events

pub turn_sound : (d : Pool) (event : Event) → Sound d → Sound (turn d event).pool
turn_sound d (pool.Waits key) sound = rests_sound d (d.line ++ key ∷ []) sound
turn_sound d (pool.Unwaits key) sound = rests_sound d (pool.without key d.line) sound
turn_sound d pool.Serves sound = serves_sound d d.line sound
turn_sound d (pool.Brings gives way) sound = brings_by_brought d gives way (brought d sound) sound
turn_sound d (pool.Does key action) sound = does_sound d key action (find_key key d.holds) refl sound
turn_sound d (pool.Leaves key gives way) sound = leaves_sound d key gives way (find_key key d.holds) refl sound
turn_sound d (pool.Renews key resumes) sound = renews_sound d key resumes (find_key key d.holds) refl sound
turn_sound d (pool.Comes number part way) sound = comes_sound d number part way sound
turn_sound d (pool.Loses number) sound = loses_sound d number sound

all_sound : (d : Pool) (events : List Event) → Sound d → Sound (pool_after d events)
all_sound d [] sound = sound
all_sound d (event ∷ events) sound = all_sound (turn d event).pool events (turn_sound d event sound)

pub always_sound : (sharing : Sharing) (events : List Event) → Sound (pool_after (new_pool sharing) events)
always_sound sharing events =
    all_sound (new_pool sharing) events (record { tidy = record { distinct = tt; upto = tt; within = tt }; rising = (let u : 0 ≤ 0 = omega arith in u); cared = tt })
