-- Each connection is cared for behind what comes.
use Rattle.std.proofs.Common.{◌≡◌, ◌∙◌, ◌==◌, ℕ, suc, not, Bool, true, false, List, [], ◌∷◌, refl, sym, ap, subst, arith}
use Rattle.std.specs.Prelude.{Option, Some, None, Result, Ok, Err, if◌then◌else◌}
use Rattle.std.proofs.lemmas.Bool.{eqb-true}
use Rattle.tds_wire.specs.declared.told.Token.{Token}
use Rattle.tds_service.specs.Parts.{Part, is_end, hear_part, heard_until}
use Rattle.tds_relay.specs.declared.pool.Hold.{Hold}
use Rattle.tds_client.specs.declared.heard.Heard.{Heard}
use Rattle.tds_client.specs.declared.heard.FinalDone.{FinalDone}
use Rattle.tds_client.specs.declared.heard.FinalDone.TheVariants.{Awaited, Answered, Acknowledged}
use Rattle.tds_listen.specs.declared.fault.ListenFault.{ListenFault}
use Rattle.tds_service.specs.Line as line
use Rattle.tds_service.specs.Line.{Line, Act, LineStage, line_turn, comes, reads, skips, skips_to_end}
use Rattle.tds_service.specs.Service as calls
use Rattle.tds_service.specs.Service.{Service, Call, Reply, ServiceStep, Back, Place, Leased, Cleaning, Kept, Free, Draining, Seat, find_by, change_by, has_lease, has_number, holds, is_idle, is_clean, drained, lease_in, lease_at, rests_clean, clean_place, rests_cleaned, step, service_after, does, nothing}
use Rattle.tds_service.specs.History.{Done}
use Rattle.tds_relay.specs.Pool as pool
use Rattle.tds_relay.specs.Pool.{Pool, Way, find_lease, without_number, moves, cleaning, frees, Hearing, Goes, Settled, Wrong, hearing_of, settles, settles_of, comes_by}
use Rattle.tds_relay.specs.Promises.{Each, CaresFor, IsCaredFor}
use Rattle.tds_relay.proofs.promises.Seats.{Distinct, each_weaker, each_found, each_changed, found_meets}
use Rattle.tds_relay.proofs.promises.Tidy.{Tidy, step_rises}
use Rattle.tds_relay.proofs.promises.Holding.{rising_filtered, none_above}
use Rattle.tds_relay.proofs.promises.Phases.{Choose, Phase, IsIdleAt, of_other, phase_changed, lost_leaves, cleaning_cares}
use Rattle.tds_relay.proofs.promises.Caring.{Sound, sound_by, numbered, same_phase}

-- ---- The machine

abbrev IsAwaiting : LineStage → Type 0
IsAwaiting line.Idle = ⊥
IsAwaiting (line.Sending begun) = ⊥
IsAwaiting line.Reading = Unit {0}
IsAwaiting line.Cancelling = Unit {0}
IsAwaiting (line.Broken fault) = ⊥

-- What is heard where: a message goes on, and so does what is awaited; or it ended, and nothing is awaited.
abbrev HeardAs : LineStage → Hearing → LineStage → Type 0
HeardAs old Goes new = IsAwaiting old × (new ≡ old)
HeardAs old Settled new = IsAwaiting old × (new ≡ line.Idle)
HeardAs old Wrong new = Unit {0}

reads_as : (l : Line) (part : Part Token) (ends : Bool) (until : Heard) (r : Result Heard ListenFault)
    → HeardAs line.Reading (hearing_of (reads l part ends until r).answer) (reads l part ends until r).line.stage
reads_as l part ends until (Err fault) = tt
reads_as l part false until (Ok heard) = (tt, refl)
reads_as l part true until (Ok heard) = (tt, refl)

skips_end_as : (l : Line) (heard : Heard) (done : FinalDone)
    → HeardAs line.Cancelling (hearing_of (skips_to_end {T = Token} l heard done).answer) (skips_to_end {T = Token} l heard done).line.stage
skips_end_as l heard Awaited = (tt, refl)
skips_end_as l heard Answered = (tt, refl)
skips_end_as l heard Acknowledged = (tt, refl)

skips_as : (l : Line) (ends : Bool) (until : Heard) (r : Result Heard ListenFault)
    → HeardAs line.Cancelling (hearing_of (skips {T = Token} l ends until r).answer) (skips {T = Token} l ends until r).line.stage
skips_as l ends until (Err fault) = tt
skips_as l false until (Ok heard) = (tt, refl)
skips_as l true until (Ok heard) = skips_end_as l heard heard.done

heard_as : (l : Line) (part : Part Token) (stage : LineStage) → HeardAs stage (hearing_of (comes l part stage).answer) (comes l part stage).line.stage
heard_as l part line.Idle = tt
heard_as l part (line.Sending begun) = tt
heard_as l part line.Reading = reads_as l part (is_end part.close) (heard_until false l.heard part.items) (hear_part false l.heard part)
heard_as l part line.Cancelling = skips_as l (is_end part.close) (heard_until true l.heard part.items) (hear_part true l.heard part)
heard_as l part (line.Broken fault) = tt

-- ---- A message goes on

goes_cared : (held : List Hold) (n : ℕ) (place : Place) (l new : Line) → IsCaredFor held n place l → IsAwaiting l.stage → new.stage ≡ l.stage → IsCaredFor held n (drained place new.stage) new
goes_cared held n (Leased lease) l new c w e = c
goes_cared held n (Cleaning lease) l new c w e = record { unheld = c.unheld; sent = e ∙ c.sent }
goes_cared held n (Kept ticket) l new c w e = absurd c
goes_cared held n Free l new c w e = absurd (subst IsAwaiting c.idle w)
goes_cared held n Draining l new c w e =
    let at : new.stage ≡ line.Cancelling = e ∙ c in
    let P : Place → Type 0 = λ p. IsCaredFor held n p new in
    subst P (let u : Draining ≡ drained Draining new.stage = rw at refl in u) at

-- ---- A cleaning has its answer

abbrev any : Seat → Type 0
any c = Unit {0}

-- One that was cleaned is free; else it is closed.
abbrev CleanedBy : List Hold → Service → ℕ → ℕ → Option Seat → Type 0
CleanedBy held s n lease o =
    let t = calls.cleaned {T = Token} s (has_lease lease) o in
    Each (CaresFor held) (service_after {T = Token} t.service (if frees t.reply then [] else calls.Lost n ∷ [])).seats

closed : (held : List Hold) (s : Service) (n : ℕ) (X : Seat → Type 0) → Distinct s.seats → Each (Phase n X (CaresFor held)) s.seats → Each (CaresFor held) (step {T = Token} s (calls.Lost n)).service.seats
closed held s n X distinct h = lost_leaves s n X (CaresFor held) (CaresFor held) distinct h (λ x other o. o)

any_by : (b : Bool) (X O : Type 0) → Choose b X O → Choose b (Unit {0}) O
any_by true X O h = tt
any_by false X O h = h

-- whatever a call leaves of the one, it is closed behind it
phase_any : (held : List Hold) (n : ℕ) (X : Seat → Type 0) (cs : List Seat) → Each (Phase n X (CaresFor held)) cs → Each (Phase n any (CaresFor held)) cs
phase_any held n X cs h = each_weaker (Phase n X (CaresFor held)) (Phase n any (CaresFor held)) (λ x px. any_by (x.number == n) (X x) (CaresFor held x) px) cs h

clean_stays : (held : List Hold) (s : Service) (lease n : ℕ) (test : Seat → Bool) (c : Seat) (clean : Bool) → is_clean c.line.heard.mark c.line.heard.descriptor ≡ clean → c.line.stage ≡ line.Idle
    → Tidy s → Tidy (rests_cleaned {T = Token} s test c (Some (if clean then Some Free else None))).service → find_by test s.seats ≡ Some c → (c.number == n) ≡ true
    → Each (Phase n (IsIdleAt (Cleaning lease)) (CaresFor held)) s.seats
    → Each (CaresFor held) (service_after {T = Token} (rests_cleaned {T = Token} s test c (Some (if clean then Some Free else None))).service
    (if frees (rests_cleaned {T = Token} s test c (Some (if clean then Some Free else None))).reply then [] else calls.Lost n ∷ [])).seats
clean_stays held s lease n test c true is idle tidy tidy2 e one h =
    let number : c.number ≡ n = eqb-true c.number n one in
    each_changed (Phase n (IsIdleAt (Cleaning lease)) (CaresFor held)) (CaresFor held) test (Some Free) c.line c s.seats e tidy.distinct h
    (λ x px other. of_other (x.number == n) (IsIdleAt (Cleaning lease) x) (CaresFor held x) (subst (λ (k : ℕ). (x.number == k) ≡ false) number other) px)
    (record { idle = idle; clean = is })
clean_stays held s lease n test c false is idle tidy tidy2 e one h =
    closed held (rests_cleaned {T = Token} s test c (Some None)).service n any tidy2.distinct
    (phase_changed n (IsIdleAt (Cleaning lease)) any (CaresFor held) test None c.line c s.seats tidy.distinct h e one tt)

-- what the lease finds is the one; or another, whose cleaning goes on
not_settled : (held : List Hold) (lease : ℕ) (c : Seat) (place : Place) → find_lease lease held ≡ None → IsCaredFor held c.number place c.line → holds lease place ≡ true
    → clean_place place c.line ≡ None
not_settled held lease c (Leased other) none h is = refl
not_settled held lease c (Cleaning other) none h is = rw h.sent refl
not_settled held lease c (Kept ticket) none h is = refl
not_settled held lease c Free none h is = refl
not_settled held lease c Draining none h is = refl

abbrev CleanedAs : List Hold → Service → ℕ → (Seat → Bool) → Seat → Option (Option Place) → Type 0
CleanedAs held s n test c o =
    let t = rests_cleaned {T = Token} s test c o in
    Each (CaresFor held) (service_after {T = Token} t.service (if frees t.reply then [] else calls.Lost n ∷ [])).seats

cleaned_found : (held : List Hold) (s : Service) (lease n : ℕ) (c : Seat) (b : Bool) → (c.number == n) ≡ b → Choose b (IsIdleAt (Cleaning lease) c) (CaresFor held c)
    → Tidy s → Tidy (calls.cleaned {T = Token} s (has_lease lease) (Some c)).service → find_lease lease held ≡ None → find_by (has_lease lease) s.seats ≡ Some c
    → Each (Phase n (IsIdleAt (Cleaning lease)) (CaresFor held)) s.seats → CleanedBy held s n lease (Some c)
cleaned_found held s lease n c true one here tidy tidy2 none e h =
    let clean = is_clean c.line.heard.mark c.line.heard.descriptor in
    let is : clean_place c.place c.line ≡ Some (if clean then Some Free else None) = rw (here.is_at, here.idle) refl in
    let t2 : Tidy (rests_cleaned {T = Token} s (has_lease lease) c (Some (if clean then Some Free else None))).service =
    subst (λ (o : Option (Option Place)). Tidy (rests_cleaned {T = Token} s (has_lease lease) c o).service) is tidy2 in
    subst (CleanedAs held s n (has_lease lease) c) (sym is) (clean_stays held s lease n (has_lease lease) c clean refl here.idle tidy t2 e one h)
cleaned_found held s lease n c false one here tidy tidy2 none e h =
    let is : clean_place c.place c.line ≡ None = not_settled held lease c c.place none here (found_meets (has_lease lease) c s.seats e) in
    subst (CleanedAs held s n (has_lease lease) c) (sym is) (closed held s n (IsIdleAt (Cleaning lease)) tidy.distinct h)

cleaned_by_found : (held : List Hold) (s : Service) (lease n : ℕ) (o : Option Seat) → find_by (has_lease lease) s.seats ≡ o → Tidy s → Tidy (calls.cleaned {T = Token} s (has_lease lease) o).service
    → find_lease lease held ≡ None → Each (Phase n (IsIdleAt (Cleaning lease)) (CaresFor held)) s.seats → CleanedBy held s n lease o
cleaned_by_found held s lease n None e tidy tidy2 none h = closed held s n (IsIdleAt (Cleaning lease)) tidy.distinct h
cleaned_by_found held s lease n (Some c) e tidy tidy2 none h =
    cleaned_found held s lease n c (c.number == n) refl (each_found (Phase n (IsIdleAt (Cleaning lease)) (CaresFor held)) (has_lease lease) c s.seats h e) tidy tidy2 none e h

cleaned_cares : (held : List Hold) (s : Service) (lease n : ℕ) → Tidy s → find_lease lease held ≡ None → Each (Phase n (IsIdleAt (Cleaning lease)) (CaresFor held)) s.seats
    → Each (CaresFor held) (service_after s (pool.cleaned_by s n lease)).seats
cleaned_cares held s lease n tidy none h =
    cleaned_by_found held s lease n (find_by (has_lease lease) s.seats) refl tidy (step_rises s (calls.Cleaned lease) tidy).tidy none h

-- ---- A message has ended

-- its connection is an application's, a cleaning's, or nobody's any more
settles_cares : (d : Pool) (n : ℕ) (way : Way) (c : Seat) (l : Line) (place : Place) → c.place ≡ place → Sound d → find_by (has_number n) d.service.seats ≡ Some c → IsCaredFor d.holds c.number place c.line
    → IsAwaiting c.line.stage → l.stage ≡ line.Idle → (s : Service) → s ≡ record { max = d.service.max; last = d.service.last; given = d.service.given; seats = change_by (has_number n) (Some (drained place l.stage)) l d.service.seats }
    → Tidy s → Each (CaresFor d.holds) (service_after s (settles d.holds s n way (lease_in place))).seats
settles_cares d n way c l (Leased lease) at sound e cared awaits idle s is tidy =
    let seats : s.seats ≡ change_by (has_number n) (Some (Leased lease)) l d.service.seats = ap (λ (x : Service). x.seats) is in
    let all : Each (CaresFor d.holds) s.seats = subst (λ (cs : List Seat). Each (CaresFor d.holds) cs) (sym seats)
    (each_changed (CaresFor d.holds) (CaresFor d.holds) (has_number n) (Some (Leased lease)) l c d.service.seats e sound.tidy.distinct sound.cared (λ x hx other. hx) cared) in
    rw cared.found all
settles_cares d n way c l (Cleaning lease) at sound e cared awaits idle s is tidy =
    let one : (c.number == n) ≡ true = found_meets (has_number n) c d.service.seats e in
    let seats : s.seats ≡ change_by (has_number n) (Some (Cleaning lease)) l d.service.seats = ap (λ (x : Service). x.seats) is in
    let all : Each (Phase n (IsIdleAt (Cleaning lease)) (CaresFor d.holds)) s.seats = subst (λ (cs : List Seat). Each (Phase n (IsIdleAt (Cleaning lease)) (CaresFor d.holds)) cs) (sym seats)
    (phase_changed n (CaresFor d.holds) (IsIdleAt (Cleaning lease)) (CaresFor d.holds) (has_number n) (Some (Cleaning lease)) l c d.service.seats sound.tidy.distinct
    (same_phase n (CaresFor d.holds) d.service.seats sound.cared) e one (record { is_at = refl; idle = idle })) in
    rw cared.unheld (cleaned_cares d.holds s lease n tidy cared.unheld all)
settles_cares d n way c l (Kept ticket) at sound e cared awaits idle s is tidy = absurd cared
settles_cares d n way c l Free at sound e cared awaits idle s is tidy = absurd (subst IsAwaiting cared.idle awaits)
settles_cares d n way c l Draining at sound e cared awaits idle s is tidy =
    let one : (c.number == n) ≡ true = found_meets (has_number n) c d.service.seats e in
    let free : drained Draining l.stage ≡ Free = rw idle refl in
    let seats : s.seats ≡ change_by (has_number n) (Some Free) l d.service.seats = ap (λ (x : Service). x.seats) is ∙ ap (λ (p : Place). change_by (has_number n) (Some p) l d.service.seats) free in
    let all : Each (Phase n (IsIdleAt Free) (CaresFor d.holds)) s.seats = subst (λ (cs : List Seat). Each (Phase n (IsIdleAt Free) (CaresFor d.holds)) cs) (sym seats)
    (phase_changed n (CaresFor d.holds) (IsIdleAt Free) (CaresFor d.holds) (has_number n) (Some Free) l c d.service.seats sound.tidy.distinct
    (same_phase n (CaresFor d.holds) d.service.seats sound.cared) e one (record { is_at = refl; idle = idle })) in
    let given : s.given ≡ d.service.given = ap (λ (x : Service). x.given) is in
    cleaning_cares d.holds s n way tidy (none_above 0 d.service.given (suc s.given) d.holds sound.rising (omega (arith, given))) all

heard_seats : (d : Pool) (n : ℕ) (part : Part Token) (c : Seat) → find_by (has_number n) d.service.seats ≡ Some c
    → (step d.service (calls.Came n part)).service ≡ record {
      max = d.service.max;
      last = d.service.last;
      given = d.service.given;
      seats = change_by (has_number n) (Some (drained c.place (line_turn c.line (line.Come part)).line.stage)) (line_turn c.line (line.Come part)).line d.service.seats;
    }
heard_seats d n part c e = rw e refl

comes_found : (d : Pool) (n : ℕ) (part : Part Token) (way : Way) (c : Seat) (h : Hearing) → Sound d → find_by (has_number n) d.service.seats ≡ Some c
    → HeardAs c.line.stage h (line_turn c.line (line.Come part)).line.stage
    → Sound (comes_by d (calls.Came n part) (step d.service (calls.Came n part)).service n way (lease_in c.place) h).pool
comes_found d n part way c Goes sound e fits =
    let l = (line_turn c.line (line.Come part)).line in
    let seats = ap (λ (x : Service). x.seats) (heard_seats d n part c e) in
    sound_by d d.holds d.line (calls.Came n part ∷ []) sound sound.rising
    (subst (λ (cs : List Seat). Each (CaresFor d.holds) cs) (sym seats)
    (each_changed (CaresFor d.holds) (CaresFor d.holds) (has_number n) (Some (drained c.place l.stage)) l c d.service.seats e sound.tidy.distinct sound.cared (λ x hx other. hx)
    (goes_cared d.holds c.number c.place c.line l (each_found (CaresFor d.holds) (has_number n) c d.service.seats sound.cared e) fits.0 fits.1)))
comes_found d n part way c Settled sound e fits =
    let l = (line_turn c.line (line.Come part)).line in
    let s = (step d.service (calls.Came n part)).service in
    sound_by d d.holds d.line (calls.Came n part ∷ settles d.holds s n way (lease_in c.place)) sound sound.rising
    (settles_cares d n way c l c.place refl sound e (each_found (CaresFor d.holds) (has_number n) c d.service.seats sound.cared e) fits.0 fits.1 s (heard_seats d n part c e)
    (step_rises d.service (calls.Came n part) sound.tidy).tidy)
comes_found d n part way c Wrong sound e fits =
    let l = (line_turn c.line (line.Come part)).line in
    let s = (step d.service (calls.Came n part)).service in
    let one : (c.number == n) ≡ true = found_meets (has_number n) c d.service.seats e in
    let seats = ap (λ (x : Service). x.seats) (heard_seats d n part c e) in
    let phase : Each (Phase n any (CaresFor d.holds)) s.seats = subst (λ (cs : List Seat). Each (Phase n any (CaresFor d.holds)) cs) (sym seats)
    (phase_changed n (CaresFor d.holds) any (CaresFor d.holds) (has_number n) (Some (drained c.place l.stage)) l c d.service.seats sound.tidy.distinct
    (same_phase n (CaresFor d.holds) d.service.seats sound.cared) e one tt) in
    sound_by d (without_number n d.holds) d.line (calls.Came n part ∷ calls.Lost n ∷ []) sound (rising_filtered (λ (x : Hold). not (x.number == n)) 0 d.service.given d.holds sound.rising)
    (lost_leaves s n any (CaresFor d.holds) (CaresFor (without_number n d.holds)) (step_rises d.service (calls.Came n part) sound.tidy).tidy.distinct phase
    (λ x other hx. numbered d.holds n x.number x.place x.line other hx))

sound_broken : (n : ℕ) (dones : List (Done Token)) (t : pool.PoolTurn) → Sound t.pool → Sound (pool.with_broken n dones t).pool
sound_broken n dones t sound = record { tidy = sound.tidy; rising = sound.rising; cared = sound.cared }

comes_by_found : (d : Pool) (n : ℕ) (part : Part Token) (way : Way) (o : Option Seat) → find_by (has_number n) d.service.seats ≡ o → Sound d → Sound (pool.packet_comes d n part way).pool
comes_by_found d n part way None e sound =
    let same : (step d.service (calls.Came n part)).service ≡ d.service = rw e refl in
    let goes : pool.packet_comes d n part way ≡ moves d d.holds d.line (calls.Came n part ∷ []) = rw e refl in
    subst (λ (t : pool.PoolTurn). Sound t.pool) (sym goes)
    (sound_by d d.holds d.line (calls.Came n part ∷ []) sound sound.rising (subst (λ (x : Service). Each (CaresFor d.holds) x.seats) (sym same) sound.cared))
comes_by_found d n part way (Some c) e sound =
    let call = calls.Came n part in
    let s = (step d.service call).service in
    let a = (line_turn c.line (line.Come part)).answer in
    let lease : lease_at (find_by (has_number n) d.service.seats) ≡ lease_in c.place = ap lease_at e in
    let heard : pool.hearing (step d.service call).dones ≡ hearing_of a = rw e refl in
    let dones = (step d.service call).dones in
    let goes : pool.packet_comes d n part way ≡ pool.with_broken n dones (comes_by d call s n way (lease_in c.place) (hearing_of a)) =
    ap (λ (l : Option ℕ). pool.with_broken n dones (comes_by d call s n way l (pool.hearing dones))) lease
    ∙ ap (λ (h : Hearing). pool.with_broken n dones (comes_by d call s n way (lease_in c.place) h)) heard in
    subst (λ (t : pool.PoolTurn). Sound t.pool) (sym goes) (sound_broken n dones (comes_by d call s n way (lease_in c.place) (hearing_of a)) (comes_found d n part way c (hearing_of a) sound e (heard_as c.line part c.line.stage)))

pub comes_sound : (d : Pool) (n : ℕ) (part : Part Token) (way : Way) → Sound d → Sound (pool.packet_comes d n part way).pool
comes_sound d n part way sound = comes_by_found d n part way (find_by (has_number n) d.service.seats) refl sound
