-- Each connection is cared for behind a renewal, and where one comes that nobody asked for.
use Rattle.std.proofs.Common.{◌≡◌, ◌∙◌, ◌==◌, ◌&&◌, ◌<◌, ◌≤◌, ℕ, suc, not, Bool, true, false, List, [], ◌∷◌, ◌++◌, refl, sym, ap, subst, arith}
use Rattle.std.specs.Prelude.{Option, Some, None}
use Rattle.std.proofs.lemmas.Bool.{eqb-true, eq-eqb}
use Rattle.tds_wire.specs.declared.told.Token.{Token}
use Rattle.tds_packet.specs.declared.status.Reset.TheVariants.{KeepTransaction}
use Rattle.tds_relay.specs.declared.pool.Hold.{Hold}
use Rattle.tds_service.specs.Line as line
use Rattle.tds_service.specs.Line.{Line, LineStage, cancels, new_line}
use Rattle.tds_service.specs.History.{line_after}
use Rattle.tds_service.specs.Service as calls
use Rattle.tds_service.specs.Service.{Service, Call, Reply, Place, Leased, Cleaning, Kept, Free, Draining, Seat, find_by, change_by, has_lease, has_ticket, has_number, is_lendable, is_idle, is_free, is_open, may_keep, rests, step, service_after, does, nothing}
use Rattle.tds_relay.specs.Pool as pool
use Rattle.tds_relay.specs.Pool.{Pool, Way, PoolTurn, find_key, find_lease, without_lease, without_number, holding, moves, cleaning, releasing, frees, lent_in, ticket_in, renews_by, keeps_by, brings_by}
use Rattle.tds_relay.specs.Promises.{Each, CaresFor, IsCaredFor}
use Rattle.tds_relay.proofs.promises.Seats.{each_found, each_changed, found_meets}
use Rattle.tds_relay.proofs.promises.Tidy.{Tidy, WithinIn, step_rises, all_rise}
use Rattle.tds_relay.proofs.promises.Holding.{Rising, rising_more, rising_filtered, rising_added, found_by_lease}
use Rattle.tds_relay.proofs.promises.Phases.{Choose, Phase, IsIdleAt, of_other, phase_changed, lost_leaves}
use Rattle.tds_relay.proofs.promises.Caring.{Sound, sound_by, rests_sound, numbered, same_phase, each_both, found_held, dropped, more_cares, lent_held}

-- ---- A renewal

-- Behind a renewal that was refused, the connection is closed.
refused : (d : Pool) (h : Hold) (c : Seat) (place : Place) (l : Line) → Sound d → find_by (has_lease h.lease) d.service.seats ≡ Some c → c.number ≡ h.number
    → (step {T = Token} d.service (calls.Keep h.lease)).service.seats ≡ change_by (has_lease h.lease) (Some place) l d.service.seats
    → Sound (moves d (without_number h.number d.holds) d.line (calls.Keep h.lease ∷ calls.Lost h.number ∷ [])).pool
refused d h c place l sound e number seats =
    let n = h.number in
    let s = (step {T = Token} d.service (calls.Keep h.lease)).service in
    let one : (c.number == n) ≡ true = eq-eqb c.number n number in
    let phase : Each (Phase n (λ x. Unit {0}) (CaresFor d.holds)) s.seats = subst (λ (cs : List Seat). Each (Phase n (λ x. Unit {0}) (CaresFor d.holds)) cs) (sym seats)
    (phase_changed n (CaresFor d.holds) (λ x. Unit {0}) (CaresFor d.holds) (has_lease h.lease) (Some place) l c d.service.seats sound.tidy.distinct (same_phase n (CaresFor d.holds) d.service.seats sound.cared) e one tt) in
    sound_by d (without_number n d.holds) d.line (calls.Keep h.lease ∷ calls.Lost n ∷ []) sound (rising_filtered (λ (x : Hold). not (x.number == n)) 0 d.service.given d.holds sound.rising)
    (lost_leaves s n (λ x. Unit {0}) (CaresFor d.holds) (CaresFor (without_number n d.holds)) (step_rises d.service (calls.Keep h.lease) sound.tidy).tidy.distinct phase
    (λ x other hx. numbered d.holds n x.number x.place x.line other hx))

not_kept : (held : List Hold) (ticket n : ℕ) (place : Place) (l : Line) → IsCaredFor held n place l → calls.keeps ticket place ≡ true → ⊥
not_kept held ticket n (Leased lease) l h e = let u : ⊥ = cc in u
not_kept held ticket n (Cleaning lease) l h e = let u : ⊥ = cc in u
not_kept held ticket n (Kept other) l h e = h
not_kept held ticket n Free l h e = let u : ⊥ = cc in u
not_kept held ticket n Draining l h e = let u : ⊥ = cc in u

pub one_by : (b : Bool) (X O P : Type 0) → Choose b X O → (O → ⊥) → (b ≡ true → X → P) → P
one_by true X O P h never f = f refl h
one_by false X O P h never f = absurd (never h)

and_first : (a b : Bool) → (a && b) ≡ true → a ≡ true
and_first true b e = refl
and_first false b e = absurd (let u : ⊥ = cc in u)

pub idle_is : (stage : LineStage) → is_idle stage ≡ true → stage ≡ line.Idle
idle_is line.Idle e = refl
idle_is (line.Sending begun) e = absurd (let u : ⊥ = cc in u)
idle_is line.Reading e = absurd (let u : ⊥ = cc in u)
idle_is line.Cancelling e = absurd (let u : ⊥ = cc in u)
idle_is (line.Broken fault) e = absurd (let u : ⊥ = cc in u)

-- Behind one that was done, it is held by the new lease.
resumed : (d : Pool) (h : Hold) (s : Service) (c : Seat) → Sound d → find_lease h.lease d.holds ≡ Some h → Tidy s → d.service.given ≤ s.given
    → Each (Phase h.number (IsIdleAt (Kept s.given)) (CaresFor d.holds)) s.seats → find_by (has_ticket s.given) s.seats ≡ Some c → (c.number == h.number) ≡ true
    → Each (CaresFor (without_lease h.lease d.holds ++ holding h.key (suc s.given) c.number ∷ [])) (change_by (has_ticket s.given) (Some (Leased (suc s.given))) (line_after {T = Token} c.line (line.Mark KeepTransaction ∷ [])) s.seats)
resumed d h s c sound held tidy le phase e one =
    let n = h.number in
    let less = without_lease h.lease d.holds in
    let more = less ++ holding h.key (suc s.given) c.number ∷ [] in
    let number : c.number ≡ n = eqb-true c.number n one in
    let rising : Rising 0 s.given less = rising_more 0 d.service.given s.given less le (rising_filtered (λ (x : Hold). not (x.lease == h.lease)) 0 d.service.given d.holds sound.rising) in
    each_changed (λ x. Phase n (IsIdleAt (Kept s.given)) (CaresFor d.holds) x × WithinIn s.given x) (CaresFor more) (has_ticket s.given) (Some (Leased (suc s.given))) (line_after {T = Token} c.line (line.Mark KeepTransaction ∷ []))
    c s.seats e tidy.distinct
    (each_both (Phase n (IsIdleAt (Kept s.given)) (CaresFor d.holds)) (WithinIn s.given) s.seats phase tidy.within)
    (λ x px other. let apart : (x.number == n) ≡ false = subst (λ (k : ℕ). (x.number == k) ≡ false) number other in
    more_cares less s.given (holding h.key (suc s.given) c.number) x.number x.place x.line (let u : s.given < suc s.given = omega arith in u) px.1
    (dropped d.holds h x.number x.place x.line held apart (of_other (x.number == n) (IsIdleAt (Kept s.given) x) (CaresFor d.holds x) apart px.0)))
    (lent_held less s.given h.key c.number rising)

resumes_found : (d : Pool) (h : Hold) (c2 : Seat) (resumes : Bool) → Sound d → find_lease h.lease d.holds ≡ Some h → (s : Service) → s ≡ (step {T = Token} d.service (calls.Keep h.lease)).service
    → Tidy s → d.service.given ≤ s.given → Each (Phase h.number (IsIdleAt (Kept s.given)) (CaresFor d.holds)) s.seats
    → find_by (has_ticket s.given) s.seats ≡ Some c2 → Sound (moves d (without_number h.number d.holds) d.line (calls.Keep h.lease ∷ calls.Lost h.number ∷ [])).pool
    → Sound (renews_by d h s.given (lent_in (step {T = Token} s (calls.Resume s.given)).reply) resumes).pool
resumes_found d h c2 false sound held s is tidy le phase e closed = closed
resumes_found d h c2 true sound held s is tidy le phase e closed =
    let both = one_by (c2.number == h.number) (IsIdleAt (Kept s.given) c2) (CaresFor d.holds c2) (((c2.number == h.number) ≡ true) × IsIdleAt (Kept s.given) c2)
    (each_found (Phase h.number (IsIdleAt (Kept s.given)) (CaresFor d.holds)) (has_ticket s.given) c2 s.seats phase e)
    (λ o. not_kept d.holds s.given c2.number c2.place c2.line o (found_meets (has_ticket s.given) c2 s.seats e)) (λ one x. (one, x)) in
    let idle : is_idle c2.line.stage ≡ true = rw both.1.idle refl in
    let done : step {T = Token} s (calls.Resume s.given) ≡ does {T = Token} s (suc s.given) (has_ticket s.given) c2 (Some (Leased (suc s.given))) (line.Mark KeepTransaction ∷ []) (calls.Lent (suc s.given) c2.number true) = rw (e, idle) refl in
    let lent : lent_in (step {T = Token} s (calls.Resume s.given)).reply ≡ Some (record { lease = suc s.given; number = c2.number }) = ap (λ (t : calls.ServiceStep Token). lent_in t.reply) done in
    let all : List (Call Token) = calls.Keep h.lease ∷ calls.Resume s.given ∷ [] in
    let less = without_lease h.lease d.holds in
    let more = less ++ holding h.key (suc s.given) c2.number ∷ [] in
    let after : service_after d.service all ≡ (step {T = Token} s (calls.Resume s.given)).service = ap (λ (x : Service). (step {T = Token} x (calls.Resume s.given)).service) (sym is) in
    let end : service_after d.service all ≡ (does {T = Token} s (suc s.given) (has_ticket s.given) c2 (Some (Leased (suc s.given))) (line.Mark KeepTransaction ∷ []) (calls.Lent (suc s.given) c2.number true)).service =
    after ∙ ap (λ (t : calls.ServiceStep Token). t.service) done in
    let given : (service_after d.service all).given ≡ suc s.given = ap (λ (x : Service). x.given) end in
    let rising : Rising 0 s.given less = rising_more 0 d.service.given s.given less le (rising_filtered (λ (x : Hold). not (x.lease == h.lease)) 0 d.service.given d.holds sound.rising) in
    let sound2 : Sound (moves d more d.line all).pool = record {
      tidy = (all_rise d.service all sound.tidy).tidy;
      rising = subst (λ (k : ℕ). Rising 0 k more) (sym given) (rising_added 0 s.given (holding h.key (suc s.given) c2.number) less rising (omega arith));
      cared = subst (λ (x : Service). Each (CaresFor more) x.seats) (sym end) (resumed d h s c2 sound held tidy le phase e both.0);
    } in
    subst (λ (o : Option pool.Loan). Sound (renews_by d h s.given o true).pool) (sym lent) sound2

resumes_none : (d : Pool) (h : Hold) (resumes : Bool) (s : Service) → find_by (has_ticket s.given) s.seats ≡ None
    → Sound (moves d (without_number h.number d.holds) d.line (calls.Keep h.lease ∷ calls.Lost h.number ∷ [])).pool
    → Sound (renews_by d h s.given (lent_in (step {T = Token} s (calls.Resume s.given)).reply) resumes).pool
resumes_none d h false s e closed = closed
resumes_none d h true s e closed = rw e closed

resumes_by : (d : Pool) (h : Hold) (o : Option Seat) (resumes : Bool) → Sound d → find_lease h.lease d.holds ≡ Some h → (s : Service) → s ≡ (step {T = Token} d.service (calls.Keep h.lease)).service
    → Tidy s → d.service.given ≤ s.given → Each (Phase h.number (IsIdleAt (Kept s.given)) (CaresFor d.holds)) s.seats
    → find_by (has_ticket s.given) s.seats ≡ o → Sound (moves d (without_number h.number d.holds) d.line (calls.Keep h.lease ∷ calls.Lost h.number ∷ [])).pool
    → Sound (renews_by d h s.given (lent_in (step {T = Token} s (calls.Resume s.given)).reply) resumes).pool
resumes_by d h None resumes sound held s is tidy le phase e closed = resumes_none d h resumes s e closed
resumes_by d h (Some c2) resumes sound held s is tidy le phase e closed = resumes_found d h c2 resumes sound held s is tidy le phase e closed

keeps_found : (d : Pool) (h : Hold) (c : Seat) (resumes : Bool) (may : Bool) → may_keep c ≡ may → Sound d → find_lease h.lease d.holds ≡ Some h → find_by (has_lease h.lease) d.service.seats ≡ Some c
    → Sound (keeps_by d h resumes (step {T = Token} d.service (calls.Keep h.lease)).service (ticket_in (step {T = Token} d.service (calls.Keep h.lease)).reply)).pool
keeps_found d h c resumes false may sound held e =
    let none : ticket_in (step {T = Token} d.service (calls.Keep h.lease)).reply ≡ None = rw (e, may) refl in
    rw none (rests_sound d d.line sound)
keeps_found d h c resumes true may sound held e =
    let s = (step {T = Token} d.service (calls.Keep h.lease)).service in
    let l = c.line in
    let at = found_held d h c sound held e in
    let ticket : ticket_in (step {T = Token} d.service (calls.Keep h.lease)).reply ≡ Some (suc d.service.given) = rw (e, may) refl in
    let given : s.given ≡ suc d.service.given = rw (e, may) refl in
    let seats : s.seats ≡ change_by (has_lease h.lease) (Some (Kept (suc d.service.given))) c.line d.service.seats = rw (e, may) refl in
    let idle : c.line.stage ≡ line.Idle = idle_is c.line.stage (and_first (is_idle c.line.stage) (is_open c.line.heard.mark c.line.heard.descriptor) may) in
    let one : (c.number == h.number) ≡ true = eq-eqb c.number h.number (sym at.1) in
    let X : Seat → Type 0 = IsIdleAt (Kept (suc d.service.given)) in
    let phase : Each (Phase h.number X (CaresFor d.holds)) s.seats = subst (λ (cs : List Seat). Each (Phase h.number X (CaresFor d.holds)) cs) (sym seats)
    (phase_changed h.number (CaresFor d.holds) X (CaresFor d.holds) (has_lease h.lease) (Some (Kept (suc d.service.given))) c.line c d.service.seats sound.tidy.distinct
    (same_phase h.number (CaresFor d.holds) d.service.seats sound.cared) e one (record { is_at = refl; idle = idle })) in
    let phase2 : Each (Phase h.number (IsIdleAt (Kept s.given)) (CaresFor d.holds)) s.seats =
    subst (λ (k : ℕ). Each (Phase h.number (IsIdleAt (Kept k)) (CaresFor d.holds)) s.seats) (sym given) phase in
    let t = (step_rises d.service (calls.Keep h.lease) sound.tidy) in
    let closed = refused d h c (Kept (suc d.service.given)) c.line sound e (sym at.1) seats in
    let end : Sound (renews_by d h s.given (lent_in (step {T = Token} s (calls.Resume s.given)).reply) resumes).pool =
    resumes_by d h (find_by (has_ticket s.given) s.seats) resumes sound held s refl t.tidy t.rises phase2 refl closed in
    let P : ℕ → Type 0 = λ k. Sound (renews_by d h k (lent_in (step {T = Token} s (calls.Resume k)).reply) resumes).pool in
    subst (λ (o : Option ℕ). Sound (keeps_by d h resumes s o).pool) (sym ticket) (subst P given end)

keeps_by_found : (d : Pool) (h : Hold) (resumes : Bool) (o : Option Seat) → Sound d → find_lease h.lease d.holds ≡ Some h → find_by (has_lease h.lease) d.service.seats ≡ o
    → Sound (keeps_by d h resumes (step {T = Token} d.service (calls.Keep h.lease)).service (ticket_in (step {T = Token} d.service (calls.Keep h.lease)).reply)).pool
keeps_by_found d h resumes None sound held e = rw e (rests_sound d d.line sound)
keeps_by_found d h resumes (Some c) sound held e = keeps_found d h c resumes (may_keep c) refl sound held e

pub renews_sound : (d : Pool) (key : ℕ) (resumes : Bool) (o : Option Hold) → find_key key d.holds ≡ o → Sound d → Sound (pool.renews d resumes o).pool
renews_sound d key resumes None e sound = rests_sound d d.line sound
renews_sound d key resumes (Some h) e sound =
    keeps_by_found d h resumes (find_by (has_lease h.lease) d.service.seats) sound (found_by_lease key 0 d.service.given h d.holds sound.rising e) refl

-- ---- It is the connection that was held

lent_number : (loan : pool.Loan) (o : Option pool.Loan) (lease number : ℕ) → o ≡ Some (record { lease = lease; number = number }) → o ≡ Some loan → loan.number ≡ number
lent_number loan o lease number e is =
    let same : record { lease = lease; number = number } ≡ loan = (let u : Some (record { lease = lease; number = number }) ≡ Some loan = sym e ∙ is in cc) in
    ap (λ (l : pool.Loan). l.number) (sym same)

number_found : (d : Pool) (h : Hold) (loan : pool.Loan) (s : Service) (o : Option Seat) → find_by (has_ticket s.given) s.seats ≡ o → Each (Phase h.number (IsIdleAt (Kept s.given)) (CaresFor d.holds)) s.seats
    → lent_in (step {T = Token} s (calls.Resume s.given)).reply ≡ Some loan → loan.number ≡ h.number
number_found d h loan s None e phase is =
    let none : lent_in (step {T = Token} s (calls.Resume s.given)).reply ≡ None = rw e refl in
    absurd (let u : None ≡ Some loan = sym none ∙ is in let v : ⊥ = cc in v)
number_found d h loan s (Some c2) e phase is =
    let both = one_by (c2.number == h.number) (IsIdleAt (Kept s.given) c2) (CaresFor d.holds c2) (((c2.number == h.number) ≡ true) × IsIdleAt (Kept s.given) c2)
    (each_found (Phase h.number (IsIdleAt (Kept s.given)) (CaresFor d.holds)) (has_ticket s.given) c2 s.seats phase e)
    (λ o. not_kept d.holds s.given c2.number c2.place c2.line o (found_meets (has_ticket s.given) c2 s.seats e)) (λ one x. (one, x)) in
    let idle : is_idle c2.line.stage ≡ true = rw both.1.idle refl in
    let done : step {T = Token} s (calls.Resume s.given) ≡ does {T = Token} s (suc s.given) (has_ticket s.given) c2 (Some (Leased (suc s.given))) (line.Mark KeepTransaction ∷ []) (calls.Lent (suc s.given) c2.number true) = rw (e, idle) refl in
    let lent : lent_in (step {T = Token} s (calls.Resume s.given)).reply ≡ Some (record { lease = suc s.given; number = c2.number }) = ap (λ (t : calls.ServiceStep Token). lent_in t.reply) done in
    lent_number loan _ (suc s.given) c2.number lent is ∙ eqb-true c2.number h.number both.0

number_kept : (d : Pool) (h : Hold) (c : Seat) (ticket : ℕ) (loan : pool.Loan) (may : Bool) → may_keep c ≡ may → Sound d → find_lease h.lease d.holds ≡ Some h → find_by (has_lease h.lease) d.service.seats ≡ Some c
    → ticket_in (step {T = Token} d.service (calls.Keep h.lease)).reply ≡ Some ticket
    → lent_in (step {T = Token} (step {T = Token} d.service (calls.Keep h.lease)).service (calls.Resume ticket)).reply ≡ Some loan → loan.number ≡ h.number
number_kept d h c ticket loan false may sound held e t is =
    let none : ticket_in (step {T = Token} d.service (calls.Keep h.lease)).reply ≡ None = rw (e, may) refl in
    absurd (let u : None ≡ Some ticket = sym none ∙ t in let v : ⊥ = cc in v)
number_kept d h c ticket loan true may sound held e t is =
    let s = (step {T = Token} d.service (calls.Keep h.lease)).service in
    let at = found_held d h c sound held e in
    let first : ticket_in (step {T = Token} d.service (calls.Keep h.lease)).reply ≡ Some (suc d.service.given) = rw (e, may) refl in
    let given : s.given ≡ suc d.service.given = rw (e, may) refl in
    let seats : s.seats ≡ change_by (has_lease h.lease) (Some (Kept (suc d.service.given))) c.line d.service.seats = rw (e, may) refl in
    let idle : c.line.stage ≡ line.Idle = idle_is c.line.stage (and_first (is_idle c.line.stage) (is_open c.line.heard.mark c.line.heard.descriptor) may) in
    let one : (c.number == h.number) ≡ true = eq-eqb c.number h.number (sym at.1) in
    let X : Seat → Type 0 = IsIdleAt (Kept (suc d.service.given)) in
    let phase : Each (Phase h.number X (CaresFor d.holds)) s.seats = subst (λ (cs : List Seat). Each (Phase h.number X (CaresFor d.holds)) cs) (sym seats)
    (phase_changed h.number (CaresFor d.holds) X (CaresFor d.holds) (has_lease h.lease) (Some (Kept (suc d.service.given))) c.line c d.service.seats sound.tidy.distinct
    (same_phase h.number (CaresFor d.holds) d.service.seats sound.cared) e one (record { is_at = refl; idle = idle })) in
    let phase2 : Each (Phase h.number (IsIdleAt (Kept s.given)) (CaresFor d.holds)) s.seats =
    subst (λ (k : ℕ). Each (Phase h.number (IsIdleAt (Kept k)) (CaresFor d.holds)) s.seats) (sym given) phase in
    let same : ticket ≡ s.given = (let u : Some (suc d.service.given) ≡ Some ticket = sym first ∙ t in cc) in
    number_found d h loan s (find_by (has_ticket s.given) s.seats) refl phase2 (subst (λ (k : ℕ). lent_in (step {T = Token} s (calls.Resume k)).reply ≡ Some loan) same is)

number_by : (d : Pool) (h : Hold) (o : Option Seat) (ticket : ℕ) (loan : pool.Loan) → Sound d → find_lease h.lease d.holds ≡ Some h → find_by (has_lease h.lease) d.service.seats ≡ o
    → ticket_in (step {T = Token} d.service (calls.Keep h.lease)).reply ≡ Some ticket
    → lent_in (step {T = Token} (step {T = Token} d.service (calls.Keep h.lease)).service (calls.Resume ticket)).reply ≡ Some loan → loan.number ≡ h.number
number_by d h None ticket loan sound held e t is =
    let none : ticket_in (step {T = Token} d.service (calls.Keep h.lease)).reply ≡ None = rw e refl in
    absurd (let u : None ≡ Some ticket = sym none ∙ t in let v : ⊥ = cc in v)
number_by d h (Some c) ticket loan sound held e t is = number_kept d h c ticket loan (may_keep c) refl sound held e t is

pub renewed_number : (d : Pool) (key : ℕ) (h : Hold) (ticket : ℕ) (loan : pool.Loan) → find_key key d.holds ≡ Some h → Sound d → ticket_in (step {T = Token} d.service (calls.Keep h.lease)).reply ≡ Some ticket
    → lent_in (step {T = Token} (step {T = Token} d.service (calls.Keep h.lease)).service (calls.Resume ticket)).reply ≡ Some loan → loan.number ≡ h.number
renewed_number d key h ticket loan e sound t is =
    number_by d h (find_by (has_lease h.lease) d.service.seats) ticket loan sound (found_by_lease key 0 d.service.given h d.holds sound.rising e) refl t is
