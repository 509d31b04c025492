-- Each connection is somebody's, or cared for, behind any event.
use Rattle.std.proofs.Common.{◌≡◌, ◌∙◌, ◌==◌, ◌<◌, ℕ, suc, not, Bool, true, false, List, [], ◌∷◌, ◌++◌, length, refl, sym, ap, subst, arith}
use Rattle.std.specs.Prelude.{Option, Some, None, nat_lt, if◌then◌else◌}
use Rattle.std.proofs.lemmas.Bool.{eqb-true, eq-eqb}
use Rattle.tds_client.specs.declared.fault.ClientRefusal.{ClientRefusal}
use Rattle.tds_wire.specs.declared.told.Token.{Token}
use Rattle.tds_packet.specs.declared.status.Reset.TheVariants.{Full}
use Rattle.tds_relay.specs.declared.pool.Hold.{Hold}
use Rattle.tds_service.specs.Line as line
use Rattle.tds_service.specs.Line.{Line, Act, LineStage, line_turn, new_line, sends, marks, asks, cancels}
use Rattle.tds_service.specs.History.{line_after}
use Rattle.tds_service.specs.Refusing.{packets, refusal_in}
use Rattle.tds_service.specs.Service as calls
use Rattle.tds_service.specs.Service.{Service, Call, Reply, ServiceStep, Back, Place, Leased, Cleaning, Kept, Free, Draining, Seat, find_by, change_by, has_lease, has_ticket, has_number, holds, is_lendable, is_free, is_idle, rests, acts_unless, step, service_after, does, nothing}
use Rattle.tds_relay.specs.Pool as pool
use Rattle.tds_relay.specs.Pool.{Pool, Way, Event, Action, PoolTurn, find_key, find_lease, without_lease, without_number, holding, moves, cleaning, releasing, frees, lent_in}
use Rattle.tds_relay.specs.Promises.{Each, CaresFor, IsCaredFor, IsHeld}
use Rattle.tds_relay.proofs.promises.Seats.{Distinct, each_weaker, each_added, each_found, each_changed, each_fails, found_meets}
use Rattle.tds_relay.proofs.promises.Tidy.{Tidy, WithinAt, WithinIn, step_rises, all_rise}
use Rattle.tds_relay.proofs.promises.Holding.{Rising, rising_more, rising_filtered, rising_added, found_lease, none_above, found_by_lease, added_some, added_none, added_new, filtered_some, filtered_none}
use Rattle.tds_relay.proofs.promises.Phases.{Choose, Phase, IsIdleAt, as_one, as_other, lost_leaves, cleaning_cares}

pub record Sound (d : Pool) : Type 0 where
  pub tidy : Tidy d.service
  pub rising : Rising 0 d.service.given d.holds
  pub cared : Each (CaresFor d.holds) d.service.seats

pub each_both : (P Q : Seat → Type 0) (cs : List Seat) → Each P cs → Each Q cs → Each (λ c. P c × Q c) cs
each_both P Q [] h g = tt
each_both P Q (c ∷ cs) h g = ((h.0, g.0), each_both P Q cs h.1 g.1)

pub sound_by : (d : Pool) (held : List Hold) (waiting : List ℕ) (all : List (Call Token)) → Sound d → Rising 0 d.service.given held
    → Each (CaresFor held) (service_after d.service all).seats → Sound (moves d held waiting all).pool
sound_by d held waiting all sound rising cared =
    let rises = all_rise d.service all sound.tidy in
    record { tidy = rises.tidy; rising = rising_more 0 d.service.given (service_after d.service all).given held rises.rises rising; cared = cared }

pub rests_sound : (d : Pool) (waiting : List ℕ) → Sound d → Sound (moves d d.holds waiting []).pool
rests_sound d waiting sound = record { tidy = sound.tidy; rising = sound.rising; cared = sound.cared }

-- ---- One more is held

pub more_cares : (held : List Hold) (given : ℕ) (h : Hold) (n : ℕ) (place : Place) (l : Line) → given < h.lease → WithinAt given place → IsCaredFor held n place l → IsCaredFor (held ++ h ∷ []) n place l
more_cares held given h n (Leased lease) l lt le c = record { hold = c.hold; found = added_some lease c.hold h held c.found; here = c.here }
more_cares held given h n (Cleaning lease) l lt le c =
    let other : (h.lease == lease) ≡ false = grind arith in
    record { unheld = added_none lease h held c.unheld other; sent = c.sent }
more_cares held given h n (Kept ticket) l lt le c = c
more_cares held given h n Free l lt le c = c
more_cares held given h n Draining l lt le c = c

pub lent_held : (held : List Hold) (given key number : ℕ) → Rising 0 given held → IsHeld (held ++ holding key (suc given) number ∷ []) (suc given) number
lent_held held given key number rising =
    record { hold = holding key (suc given) number; found = added_new (holding key (suc given) number) held (none_above 0 given (suc given) held rising (omega arith)); here = refl }

added_rising : (given key number : ℕ) (held : List Hold) → Rising 0 given held → Rising 0 (suc given) (held ++ holding key (suc given) number ∷ [])
added_rising given key number held rising = rising_added 0 given (holding key (suc given) number) held rising (omega arith)

-- A connection that was free is lent to whoever waits first; or a new one is.
serves_free : (d : Pool) (key : ℕ) (others : List ℕ) (c : Seat) → Sound d → find_by is_lendable d.service.seats ≡ Some c
    → Each (CaresFor (d.holds ++ holding key (suc d.service.given) c.number ∷ [])) (change_by is_lendable (Some (Leased (suc d.service.given))) (line_after {T = Token} c.line (line.Mark Full ∷ [])) d.service.seats)
serves_free d key others c sound e =
    let given = d.service.given in
    let more = d.holds ++ holding key (suc given) c.number ∷ [] in
    each_changed (λ x. CaresFor d.holds x × WithinIn given x) (CaresFor more) is_lendable (Some (Leased (suc given))) (line_after {T = Token} c.line (line.Mark Full ∷ [])) c d.service.seats e sound.tidy.distinct
    (each_both (CaresFor d.holds) (WithinIn given) d.service.seats sound.cared sound.tidy.within)
    (λ x h other. more_cares d.holds given (holding key (suc given) c.number) x.number x.place x.line (let u : given < suc given = omega arith in u) h.1 h.0)
    (lent_held d.holds given key c.number sound.rising)

served_sound : (d : Pool) (key number : ℕ) (others : List ℕ) → Sound d → (step {T = Token} d.service calls.Lease).service.given ≡ suc d.service.given
    → Each (CaresFor (d.holds ++ holding key (suc d.service.given) number ∷ [])) (step {T = Token} d.service calls.Lease).service.seats
    → Sound (moves d (d.holds ++ holding key (suc d.service.given) number ∷ []) others (calls.Lease ∷ [])).pool
served_sound d key number others sound is cared = record {
  tidy = (step_rises d.service calls.Lease sound.tidy).tidy;
  rising = subst (λ (k : ℕ). Rising 0 k (d.holds ++ holding key (suc d.service.given) number ∷ [])) (sym is) (added_rising d.service.given key number d.holds sound.rising);
  cared = cared;
}

opened : Service → Seat
opened s = record { number = suc s.last; place = Leased (suc s.given); line = new_line }

serves_new : (d : Pool) (key : ℕ) (c : Seat) → Sound d → c.number ≡ suc d.service.last → c.place ≡ Leased (suc d.service.given)
    → Each (CaresFor (d.holds ++ holding key (suc d.service.given) (suc d.service.last) ∷ [])) (d.service.seats ++ c ∷ [])
serves_new d key c sound number place =
    let given = d.service.given in
    let more = d.holds ++ holding key (suc given) (suc d.service.last) ∷ [] in
    each_added (CaresFor more) c d.service.seats
    (each_weaker (λ x. CaresFor d.holds x × WithinIn given x) (CaresFor more)
    (λ x h. more_cares d.holds given (holding key (suc given) (suc d.service.last)) x.number x.place x.line (let u : given < suc given = omega arith in u) h.1 h.0)
    d.service.seats (each_both (CaresFor d.holds) (WithinIn given) d.service.seats sound.cared sound.tidy.within))
    (subst (λ (p : Place). IsCaredFor more c.number p c.line) (sym place)
    (subst (λ (k : ℕ). IsHeld more (suc given) k) (sym number) (lent_held d.holds given key (suc d.service.last) sound.rising)))

serves_open : (d : Pool) (key : ℕ) (others : List ℕ) (room : Bool) → nat_lt (length d.service.seats) d.service.max ≡ room → find_by is_lendable d.service.seats ≡ None → Sound d
    → Sound (pool.serves_by d key others (lent_in (step {T = Token} d.service calls.Lease).reply)).pool
serves_open d key others false r e sound = rw (e, r) (rests_sound d d.line sound)
serves_open d key others true r e sound =
    let is : (step {T = Token} d.service calls.Lease).service.given ≡ suc d.service.given = rw (e, r) refl in
    let lent : lent_in (step {T = Token} d.service calls.Lease).reply ≡ Some (record { lease = suc d.service.given; number = suc d.service.last }) = rw (e, r) refl in
    let seats : (step {T = Token} d.service calls.Lease).service.seats ≡ d.service.seats ++ record { number = suc d.service.last; place = Leased (suc d.service.given); line = new_line } ∷ [] = rw (e, r) refl in
    let more = d.holds ++ holding key (suc d.service.given) (suc d.service.last) ∷ [] in
    rw lent
    (served_sound d key (suc d.service.last) others sound is
    (subst (λ (cs : List Seat). Each (CaresFor more) cs) (sym seats)
    (serves_new d key (record { number = suc d.service.last; place = Leased (suc d.service.given); line = new_line }) sound refl refl)))

serves_by_found : (d : Pool) (key : ℕ) (others : List ℕ) (o : Option Seat) → find_by is_lendable d.service.seats ≡ o → Sound d
    → Sound (pool.serves_by d key others (lent_in (step {T = Token} d.service calls.Lease).reply)).pool
serves_by_found d key others None e sound = serves_open d key others (nat_lt (length d.service.seats) d.service.max) refl e sound
serves_by_found d key others (Some c) e sound =
    let is : (step {T = Token} d.service calls.Lease).service.given ≡ suc d.service.given = rw e refl in
    let lent : lent_in (step {T = Token} d.service calls.Lease).reply ≡ Some (record { lease = suc d.service.given; number = c.number }) = rw e refl in
    let seats : (step {T = Token} d.service calls.Lease).service.seats ≡ change_by is_lendable (Some (Leased (suc d.service.given))) (line_after {T = Token} c.line (line.Mark Full ∷ [])) d.service.seats = rw e refl in
    let more = d.holds ++ holding key (suc d.service.given) c.number ∷ [] in
    rw lent
    (served_sound d key c.number others sound is
    (subst (λ (cs : List Seat). Each (CaresFor more) cs) (sym seats) (serves_free d key others c sound e)))

pub serves_sound : (d : Pool) (waiting : List ℕ) → Sound d → Sound (pool.serves d waiting).pool
serves_sound d [] sound = rests_sound d d.line sound
serves_sound d (key ∷ others) sound = serves_by_found d key others (find_by is_lendable d.service.seats) refl sound

-- ---- What an application does with its own

held_leased : (held : List Hold) (lease n : ℕ) (h : Hold) (place : Place) (l : Line) → find_lease lease held ≡ Some h → IsCaredFor held n place l → holds lease place ≡ true
    → (place ≡ Leased lease) × (h.number ≡ n)
held_leased held lease n h (Leased other) l e c is =
    let same : other ≡ lease = eqb-true other lease is in
    let found : find_lease lease held ≡ Some c.hold = subst (λ (k : ℕ). find_lease k held ≡ Some c.hold) same c.found in
    let hold : h ≡ c.hold = cc in
    (ap (λ (k : ℕ). Leased k) same, ap (λ (x : Hold). x.number) hold ∙ c.here)
held_leased held lease n h (Cleaning other) l e c is =
    let same : other ≡ lease = eqb-true other lease is in
    let none : find_lease lease held ≡ None = subst (λ (k : ℕ). find_lease k held ≡ None) same c.unheld in
    absurd (let u : ⊥ = cc in u)
held_leased held lease n h (Kept ticket) l e c is = absurd c
held_leased held lease n h Free l e c is = absurd (let u : ⊥ = cc in u)
held_leased held lease n h Draining l e c is = absurd (let u : ⊥ = cc in u)

pub found_held : (d : Pool) (h : Hold) (c : Seat) → Sound d → find_lease h.lease d.holds ≡ Some h → find_by (has_lease h.lease) d.service.seats ≡ Some c
    → (c.place ≡ Leased h.lease) × (h.number ≡ c.number)
found_held d h c sound held e =
    held_leased d.holds h.lease c.number h c.place c.line held (each_found (CaresFor d.holds) (has_lease h.lease) c d.service.seats sound.cared e) (found_meets (has_lease h.lease) c d.service.seats e)

stays_cared : (held : List Hold) (lease : ℕ) (c : Seat) (l : Line) → c.place ≡ Leased lease → CaresFor held c → IsCaredFor held c.number c.place l
stays_cared held lease c l e h =
    subst (λ (p : Place). IsCaredFor held c.number p l) (sym e) (let k : IsCaredFor held c.number (Leased lease) c.line = subst (λ (p : Place). IsCaredFor held c.number p c.line) e h in k)

unless_cares : (d : Pool) (h : Hold) (c : Seat) (all : List (Act Token)) (why : Option ClientRefusal) → Sound d → find_lease h.lease d.holds ≡ Some h
    → find_by (has_lease h.lease) d.service.seats ≡ Some c → Each (CaresFor d.holds) (acts_unless d.service (has_lease h.lease) c all why).service.seats
unless_cares d h c all (Some why) sound held e = sound.cared
unless_cares d h c all None sound held e =
    each_changed (CaresFor d.holds) (CaresFor d.holds) (has_lease h.lease) (Some c.place) (line_after c.line all) c d.service.seats e sound.tidy.distinct sound.cared (λ x hx other. hx)
    (stays_cared d.holds h.lease c (line_after c.line all) (found_held d h c sound held e).0 (each_found (CaresFor d.holds) (has_lease h.lease) c d.service.seats sound.cared e))

acts_care : (d : Pool) (h : Hold) (first : Act Token) (all : List (Act Token)) (o : Option Seat) → Sound d → find_lease h.lease d.holds ≡ Some h → find_by (has_lease h.lease) d.service.seats ≡ o
    → Each (CaresFor d.holds) (calls.acts d.service (has_lease h.lease) first all o).service.seats
acts_care d h first all None sound held e = sound.cared
acts_care d h first all (Some c) sound held e = unless_cares d h c all (refusal_in (line_turn c.line first).answer) sound held e

action_cares : (d : Pool) (h : Hold) (action : Action) → Sound d → find_lease h.lease d.holds ≡ Some h → Each (CaresFor d.holds) (step d.service (pool.call_of h.lease action)).service.seats
action_cares d h pool.Asks sound held = acts_care d h line.Ask (line.Ask ∷ []) _ sound held refl
action_cares d h (pool.Puts count) sound held = acts_care d h (line.Send false) (packets count) _ sound held refl
action_cares d h (pool.Ends count) sound held = acts_care d h (line.Send true) (packets count ++ line.Send true ∷ []) _ sound held refl
action_cares d h pool.Stops sound held = acts_care d h line.Cancel (line.Cancel ∷ []) _ sound held refl

pub does_sound : (d : Pool) (key : ℕ) (action : Action) (o : Option Hold) → find_key key d.holds ≡ o → Sound d → Sound (pool.holder_does d action o).pool
does_sound d key action None e sound = rests_sound d d.line sound
does_sound d key action (Some h) e sound =
    let behind = sound_by d d.holds d.line (pool.call_of h.lease action ∷ []) sound sound.rising (action_cares d h action sound (found_by_lease key 0 d.service.given h d.holds sound.rising e)) in
    record { tidy = behind.tidy; rising = behind.rising; cared = behind.cared }

-- ---- One is let go

-- without a lease's hold, the connections of others are held as before
dropped_lease : (held : List Hold) (h : Hold) (n lease : ℕ) (b : Bool) (c : IsHeld held lease n) → (c.hold.lease == h.lease) ≡ b → find_lease h.lease held ≡ Some h → (n == h.number) ≡ false
    → IsHeld (without_lease h.lease held) lease n
dropped_lease held h n lease true c is e other =
    let its : c.hold.lease ≡ h.lease = eqb-true c.hold.lease h.lease is in
    let lease_is : lease ≡ h.lease = sym (found_lease lease c.hold held c.found) ∙ its in
    let found : find_lease h.lease held ≡ Some c.hold = subst (λ (k : ℕ). find_lease k held ≡ Some c.hold) lease_is c.found in
    let hold : h ≡ c.hold = cc in
    let number : n ≡ h.number = sym (ap (λ (x : Hold). x.number) hold ∙ c.here) in
    absurd (let u : true ≡ false = sym (eq-eqb n h.number number) ∙ other in let v : ⊥ = cc in v)
dropped_lease held h n lease false c is e other =
    record { hold = c.hold; found = filtered_some (λ (x : Hold). not (x.lease == h.lease)) lease c.hold held c.found (rw is refl); here = c.here }

pub dropped : (held : List Hold) (h : Hold) (n : ℕ) (place : Place) (l : Line) → find_lease h.lease held ≡ Some h → (n == h.number) ≡ false → IsCaredFor held n place l
    → IsCaredFor (without_lease h.lease held) n place l
dropped held h n (Leased lease) l e other c = dropped_lease held h n lease (c.hold.lease == h.lease) c refl e other
dropped held h n (Cleaning lease) l e other c = record { unheld = filtered_none (λ (x : Hold). not (x.lease == h.lease)) lease held c.unheld; sent = c.sent }
dropped held h n (Kept ticket) l e other c = c
dropped held h n Free l e other c = c
dropped held h n Draining l e other c = c

-- nor is one that isn't the lease's
unheld : (held : List Hold) (lease n : ℕ) (place : Place) (l : Line) → holds lease place ≡ false → IsCaredFor held n place l → IsCaredFor (without_lease lease held) n place l
unheld held lease n (Leased other) l e c =
    let its : (c.hold.lease == lease) ≡ false = subst (λ (k : ℕ). (k == lease) ≡ false) (sym (found_lease other c.hold held c.found)) e in
    record { hold = c.hold; found = filtered_some (λ (x : Hold). not (x.lease == lease)) other c.hold held c.found (rw its refl); here = c.here }
unheld held lease n (Cleaning other) l e c = record { unheld = filtered_none (λ (x : Hold). not (x.lease == lease)) other held c.unheld; sent = c.sent }
unheld held lease n (Kept ticket) l e c = c
unheld held lease n Free l e c = c
unheld held lease n Draining l e c = c

-- nor is another number's
pub numbered : (held : List Hold) (number n : ℕ) (place : Place) (l : Line) → (n == number) ≡ false → IsCaredFor held n place l → IsCaredFor (without_number number held) n place l
numbered held number n (Leased lease) l e c =
    let its : (c.hold.number == number) ≡ false = subst (λ (k : ℕ). (k == number) ≡ false) (sym c.here) e in
    record { hold = c.hold; found = filtered_some (λ (x : Hold). not (x.number == number)) lease c.hold held c.found (rw its refl); here = c.here }
numbered held number n (Cleaning lease) l e c = record { unheld = filtered_none (λ (x : Hold). not (x.number == number)) lease held c.unheld; sent = c.sent }
numbered held number n (Kept ticket) l e c = c
numbered held number n Free l e c = c
numbered held number n Draining l e c = c

both : (b : Bool) (P : Type 0) → P → Choose b P P
both true P h = h
both false P h = h

pub same_phase : (n : ℕ) (P : Seat → Type 0) (cs : List Seat) → Each P cs → Each (Phase n P P) cs
same_phase n P cs h = each_weaker P (Phase n P P) (λ x hx. both (x.number == n) (P x) hx) cs h

-- what a connection is behind its return: closed, idle, or with its attention out
abbrev pub Rested : Option Place → Line → Type 0
Rested None l = Unit {0}
Rested (Some (Leased lease)) l = ⊥
Rested (Some (Cleaning lease)) l = ⊥
Rested (Some (Kept ticket)) l = ⊥
Rested (Some Free) l = l.stage ≡ line.Idle
Rested (Some Draining) l = l.stage ≡ line.Cancelling

pub rested : (l : Line) (stage : LineStage) → l.stage ≡ stage → Rested (rests (cancels {T = Token} l stage).line.stage) (cancels {T = Token} l stage).line
rested l line.Idle e = rw e refl
rested l (line.Sending false) e = refl
rested l (line.Sending true) e = refl
rested l line.Reading e = refl
rested l line.Cancelling e = rw e refl
rested l (line.Broken fault) e = rw e tt

abbrev pub with_seats : Service → List Seat → Service
with_seats s seats = record { max = s.max; last = s.last; given = s.given; seats = seats }

-- one that was given back by a lease
pub released : (held : List Hold) (s : Service) (test : Seat → Bool) (c : Seat) (n : ℕ) (place : Option Place) (l : Line) (way : Way) (P : Seat → Type 0) → Tidy (with_seats s (change_by test place l s.seats))
    → Distinct s.seats → find_by test s.seats ≡ Some c → (c.number == n) ≡ true → find_lease (suc s.given) held ≡ None → Each P s.seats
    → ((x : Seat) → P x → (x.number == c.number) ≡ false → CaresFor held x) → Rested place l
    → Each (CaresFor held) (service_after (with_seats s (change_by test place l s.seats)) (if frees (Back place) then cleaning (with_seats s (change_by test place l s.seats)) n way else [])).seats
released held s test c n None l way P tidy distinct e is new h f r = each_changed P (CaresFor held) test None l c s.seats e distinct h f tt
released held s test c n (Some (Leased lease)) l way P tidy distinct e is new h f r = absurd r
released held s test c n (Some (Cleaning lease)) l way P tidy distinct e is new h f r = absurd r
released held s test c n (Some (Kept ticket)) l way P tidy distinct e is new h f r = absurd r
released held s test c n (Some Draining) l way P tidy distinct e is new h f r = each_changed P (CaresFor held) test (Some Draining) l c s.seats e distinct h f r
released held s test c n (Some Free) l way P tidy distinct e is new h f r =
    let number : c.number ≡ n = eqb-true c.number n is in
    let phase : Each (Phase n (IsIdleAt Free) (CaresFor held)) (change_by test (Some Free) l s.seats) =
    each_changed P (Phase n (IsIdleAt Free) (CaresFor held)) test (Some Free) l c s.seats e distinct h
    (λ x px other. let apart : (x.number == n) ≡ false = subst (λ (k : ℕ). (x.number == k) ≡ false) number other in
    as_other (x.number == n) (IsIdleAt Free x) (CaresFor held x) apart (f x px other))
    (as_one (c.number == n) (IsIdleAt Free (record { number = c.number; place = Free; line = l })) (CaresFor held (record { number = c.number; place = Free; line = l })) is (record { is_at = refl; idle = r })) in
    cleaning_cares held (with_seats s (change_by test (Some Free) l s.seats)) n way tidy new phase

abbrev pub Given : List Hold → Service → ℕ → ℕ → Way → Option Seat → Type 0
Given held s lease n way o =
    let given = calls.gives_back {T = Token} s (has_lease lease) o in
    Each (CaresFor held) (service_after given.service (if frees given.reply then cleaning given.service n way else [])).seats

pub released_by : (held : List Hold) (s : Service) (lease n : ℕ) (way : Way) (P : Seat → Type 0) (o : Option Seat) → find_by (has_lease lease) s.seats ≡ o → Tidy s → find_lease (suc s.given) held ≡ None → Each P s.seats
    → ((c : Seat) → find_by (has_lease lease) s.seats ≡ Some c → c.number ≡ n)
    → ((x : Seat) → P x → (x.number == n) ≡ false → CaresFor held x) → ((x : Seat) → P x → has_lease lease x ≡ false → CaresFor held x)
    → Each (CaresFor held) (service_after s (releasing s lease n true way)).seats
released_by held s lease n way P None e tidy new h is f g =
    let same : Each (CaresFor held) s.seats = each_fails P (CaresFor held) (has_lease lease) g s.seats h e in
    subst (Given held s lease n way) (sym e) same
released_by held s lease n way P (Some c) e tidy new h is f g =
    let number : c.number ≡ n = is c e in
    let l = (cancels {T = Token} c.line c.line.stage).line in
    let place = rests l.stage in
    let t : Tidy (step {T = Token} s (calls.GiveBack lease)).service = (step_rises s (calls.GiveBack lease) tidy).tidy in
    let t2 : Tidy (with_seats s (change_by (has_lease lease) place l s.seats)) = rw e at t in
    subst (Given held s lease n way) (sym e)
    (released held s (has_lease lease) c n place l way P t2 tidy.distinct e (eq-eqb c.number n number) new h
    (λ x px other. f x px (subst (λ (k : ℕ). (x.number == k) ≡ false) number other)) (rested c.line c.line.stage refl))

releases : (d : Pool) (h : Hold) (gives : Bool) (way : Way) → Sound d → find_lease h.lease d.holds ≡ Some h
    → Each (CaresFor (without_lease h.lease d.holds)) (service_after d.service (releasing d.service h.lease h.number gives way)).seats
releases d h false way sound held =
    lost_leaves d.service h.number (CaresFor d.holds) (CaresFor d.holds) (CaresFor (without_lease h.lease d.holds)) sound.tidy.distinct (same_phase h.number (CaresFor d.holds) d.service.seats sound.cared)
    (λ x other hx. dropped d.holds h x.number x.place x.line held other hx)
releases d h true way sound held =
    released_by (without_lease h.lease d.holds) d.service h.lease h.number way (CaresFor d.holds) (find_by (has_lease h.lease) d.service.seats) refl sound.tidy
    (filtered_none (λ (x : Hold). not (x.lease == h.lease)) (suc d.service.given) d.holds (none_above 0 d.service.given (suc d.service.given) d.holds sound.rising (omega arith)))
    sound.cared (λ c e. sym (found_held d h c sound held e).1)
    (λ x hx other. dropped d.holds h x.number x.place x.line held other hx) (λ x hx fails. unheld d.holds h.lease x.number x.place x.line fails hx)

pub leaves_sound : (d : Pool) (key : ℕ) (gives : Bool) (way : Way) (o : Option Hold) → find_key key d.holds ≡ o → Sound d → Sound (pool.leaves d key gives way o).pool
leaves_sound d key gives way None e sound = rests_sound d (pool.without key d.line) sound
leaves_sound d key gives way (Some h) e sound =
    sound_by d (without_lease h.lease d.holds) (pool.without key d.line) (releasing d.service h.lease h.number gives way) sound
    (rising_filtered (λ (x : Hold). not (x.lease == h.lease)) 0 d.service.given d.holds sound.rising)
    (releases d h gives way sound (found_by_lease key 0 d.service.given h d.holds sound.rising e))

-- ---- One is lost

pub loses_sound : (d : Pool) (n : ℕ) → Sound d → Sound (moves d (without_number n d.holds) d.line (calls.Lost n ∷ [])).pool
loses_sound d n sound =
    sound_by d (without_number n d.holds) d.line (calls.Lost n ∷ []) sound (rising_filtered (λ (x : Hold). not (x.number == n)) 0 d.service.given d.holds sound.rising)
    (lost_leaves d.service n (CaresFor d.holds) (CaresFor d.holds) (CaresFor (without_number n d.holds)) sound.tidy.distinct (same_phase n (CaresFor d.holds) d.service.seats sound.cared)
    (λ x other hx. numbered d.holds n x.number x.place x.line other hx))
