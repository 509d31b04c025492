-- One connection that is being let go, beside others that are cared for.
use Rattle.std.proofs.Common.{◌≡◌, ◌∙◌, ◌==◌, ℕ, zero, suc, Bool, true, false, List, [], ◌∷◌, ◌++◌, refl, sym, subst}
use Rattle.std.specs.Prelude.{Option, Some, None}
use Rattle.std.proofs.lemmas.Bool.{eqb-true, eq-eqb}
use Rattle.tds_wire.specs.declared.told.Token.{Token}
use Rattle.tds_packet.specs.declared.status.Reset.TheVariants.{Full}
use Rattle.tds_relay.specs.declared.pool.Hold.{Hold}
use Rattle.tds_service.specs.Line as line
use Rattle.tds_service.specs.Line.{Line, Act, LineStage, line_turn, sends, marks, asks, cancels}
use Rattle.tds_service.specs.History.{line_after}
use Rattle.tds_service.specs.Refusing.{packets, refusal_in}
use Rattle.tds_service.specs.Service as calls
use Rattle.tds_service.specs.Service.{Service, Call, Reply, ServiceStep, Place, Leased, Cleaning, Kept, Free, Draining, Seat, find_by, change_by, has_lease, has_ticket, has_number, holds, is_lendable, is_free, is_idle, step, service_after, does, nothing}
use Rattle.tds_relay.specs.Pool.{Way, Sent, NotLent, NotAsked, NotPut, NotEnded, cleaning, find_lease}
use Rattle.tds_relay.specs.Promises.{Each, CaresFor, IsCaredFor}
use Rattle.tds_relay.proofs.promises.Seats.{Distinct, Fits, each_weaker, each_found, each_changed, each_fails, found_meets}
use Rattle.tds_relay.proofs.promises.Tidy.{Tidy, step_rises, next_is_new}

-- The one with this number is so, and the others are so.
abbrev pub Choose : Bool → Type 0 → Type 0 → Type 0
Choose true P Q = P
Choose false P Q = Q

abbrev pub Phase : ℕ → (Seat → Type 0) → (Seat → Type 0) → Seat → Type 0
Phase n X O c = Choose (c.number == n) (X c) (O c)

pub of_one : (b : Bool) (P Q : Type 0) → b ≡ true → Choose b P Q → P
of_one true P Q e h = h
of_one false P Q e h = absurd (let u : ⊥ = cc in u)

pub of_other : (b : Bool) (P Q : Type 0) → b ≡ false → Choose b P Q → Q
of_other true P Q e h = absurd (let u : ⊥ = cc in u)
of_other false P Q e h = h

pub as_one : (b : Bool) (P Q : Type 0) → b ≡ true → P → Choose b P Q
as_one true P Q e h = h
as_one false P Q e h = absurd (let u : ⊥ = cc in u)

pub as_other : (b : Bool) (P Q : Type 0) → b ≡ false → Q → Choose b P Q
as_other true P Q e h = absurd (let u : ⊥ = cc in u)
as_other false P Q e h = h

either : (b : Bool) (X Y O : Type 0) → Choose b X O → (b ≡ true → X → Y) → Choose b Y O
either true X Y O h f = f refl h
either false X Y O h f = h

one_fits : (n m : ℕ) (X O : Seat → Type 0) (place : Option Place) (l : Line) → (m == n) ≡ true → Fits X m place l → Fits (Phase n X O) m place l
one_fits n m X O None l e h = tt
one_fits n m X O (Some place) l e h = as_one (m == n) (X (record { number = m; place = place; line = l })) (O (record { number = m; place = place; line = l })) e h

-- The one is changed.
pub phase_changed : (n : ℕ) (X Y O : Seat → Type 0) (test : Seat → Bool) (place : Option Place) (l : Line) (c : Seat) (cs : List Seat) → Distinct cs → Each (Phase n X O) cs
    → find_by test cs ≡ Some c → (c.number == n) ≡ true → Fits Y c.number place l → Each (Phase n Y O) (change_by test place l cs)
phase_changed n X Y O test place l c cs distinct h e is new =
    let number : c.number ≡ n = eqb-true c.number n is in
    each_changed (Phase n X O) (Phase n Y O) test place l c cs e distinct h
    (λ x px other. let apart : (x.number == n) ≡ false = subst (λ (k : ℕ). (x.number == k) ≡ false) number other in
    as_other (x.number == n) (Y x) (O x) apart (of_other (x.number == n) (X x) (O x) apart px))
    (one_fits n c.number Y O place l is new)

-- Nothing is found, though the one would be.
pub phase_none : (n : ℕ) (X Y O : Seat → Type 0) (test : Seat → Bool) (cs : List Seat) → Each (Phase n X O) cs → find_by test cs ≡ None
    → ((x : Seat) → (x.number == n) ≡ true → X x → test x ≡ true) → Each (Phase n Y O) cs
phase_none n X Y O test cs h e meets =
    each_fails (Phase n X O) (Phase n Y O) test
    (λ x px fails. either (x.number == n) (X x) (Y x) (O x) px (λ is hx. absurd (let u : true ≡ false = sym (meets x is hx) ∙ fails in let v : ⊥ = cc in v)))
    cs h e

-- Which it is: the one, or another.
found_is_by : (b : Bool) (X O P : Type 0) → Choose b X O → (O → ⊥) → (b ≡ true → X → P) → P
found_is_by true X O P h never f = f refl h
found_is_by false X O P h never f = absurd (never h)

-- ---- What is left where the one is closed

-- One that is cared for, and isn't the lease's.
pub record Other (held : List Hold) (lease : ℕ) (c : Seat) : Type 0 where
  pub cared : CaresFor held c
  pub not_its : has_lease lease c ≡ false

apart_by : (b : Bool) (X O P : Type 0) → Choose b X O → (O → P) → Choose b X P
apart_by true X O P h f = h
apart_by false X O P h f = f h

pub others_apart : (held : List Hold) (lease n : ℕ) (X : Seat → Type 0) (cs : List Seat) → Each (Phase n X (CaresFor held)) cs → find_by (has_lease lease) cs ≡ None
    → Each (Phase n X (Other held lease)) cs
others_apart held lease n X cs h e =
    each_fails (Phase n X (CaresFor held)) (Phase n X (Other held lease)) (has_lease lease)
    (λ x px fails. apart_by (x.number == n) (X x) (CaresFor held x) (Other held lease x) px (λ o. record { cared = o; not_its = fails }))
    cs h e

loses_by : (s : Service) (n : ℕ) (X O Q : Seat → Type 0) (o : Option Seat) → find_by (has_number n) s.seats ≡ o → Distinct s.seats → Each (Phase n X O) s.seats
    → ((x : Seat) → (x.number == n) ≡ false → O x → Q x) → Each Q (calls.loses {T = Token} s (has_number n) o).service.seats
loses_by s n X O Q None e distinct h f =
    each_fails (Phase n X O) Q (has_number n) (λ x px other. f x other (of_other (x.number == n) (X x) (O x) other px)) s.seats h e
loses_by s n X O Q (Some c) e distinct h f =
    let is : c.number ≡ n = eqb-true c.number n (found_meets (has_number n) c s.seats e) in
    each_changed (Phase n X O) Q (has_number n) None (line_after {T = Token} c.line (line.Lose ∷ [])) c s.seats e distinct h
    (λ x px other. let apart : (x.number == n) ≡ false = subst (λ (k : ℕ). (x.number == k) ≡ false) is other in f x apart (of_other (x.number == n) (X x) (O x) apart px))
    tt

-- Without the one, the others are as they were.
pub lost_leaves : (s : Service) (n : ℕ) (X O Q : Seat → Type 0) → Distinct s.seats → Each (Phase n X O) s.seats
    → ((x : Seat) → (x.number == n) ≡ false → O x → Q x) → Each Q (step {T = Token} s (calls.Lost n)).service.seats
lost_leaves s n X O Q distinct h f = loses_by s n X O Q (find_by (has_number n) s.seats) refl distinct h f

-- ---- A cleaning

pub record IsIdleAt (place : Place) (c : Seat) : Type 0 where
  pub is_at : c.place ≡ place
  pub idle : c.line.stage ≡ line.Idle

record IsAsked (lease : ℕ) (c : Seat) : Type 0 where
  is_at : c.place ≡ Cleaning lease
  sending : (begun : Bool) × (c.line.stage ≡ line.Sending begun)

record IsOut (lease : ℕ) (c : Seat) : Type 0 where
  is_at : c.place ≡ Cleaning lease
  reading : c.line.stage ≡ line.Reading

idle_lends : (c : Seat) → IsIdleAt Free c → is_lendable c ≡ true
idle_lends c h = rw (h.is_at, h.idle) refl

marked_idle : (l : Line) → l.stage ≡ line.Idle → (line_after {T = Token} l (line.Mark Full ∷ [])).stage ≡ line.Idle
marked_idle l e = rw e refl

cleans_by : (held : List Hold) (s : Service) (n : ℕ) (o : Option Seat) → find_by (has_number n) s.seats ≡ o → Tidy s → Each (Phase n (IsIdleAt Free) (Other held (suc s.given))) s.seats
    → Each (Phase n (IsIdleAt (Cleaning (suc s.given))) (Other held (suc s.given))) (calls.cleans {T = Token} s (has_number n) o).service.seats
cleans_by held s n None e tidy h =
    phase_none n (IsIdleAt Free) (IsIdleAt (Cleaning (suc s.given))) (Other held (suc s.given)) (has_number n) s.seats h e (λ x is hx. is)
cleans_by held s n (Some c) e tidy h =
    let is : (c.number == n) ≡ true = found_meets (has_number n) c s.seats e in
    let here : IsIdleAt Free c = of_one (c.number == n) (IsIdleAt Free c) (Other held (suc s.given) c) is (each_found (Phase n (IsIdleAt Free) (Other held (suc s.given))) (has_number n) c s.seats h e) in
    rw (idle_lends c here)
    (phase_changed n (IsIdleAt Free) (IsIdleAt (Cleaning (suc s.given))) (Other held (suc s.given)) (has_number n) (Some (Cleaning (suc s.given))) (line_after {T = Token} c.line (line.Mark Full ∷ [])) c s.seats
    tidy.distinct h e is (record { is_at = refl; idle = marked_idle c.line here.idle }))

its : (lease : ℕ) (c : Seat) → c.place ≡ Cleaning lease → has_lease lease c ≡ true
its lease c e = rw e (eq-eqb lease lease refl)

none_left : (held : List Hold) (lease : ℕ) (c : Seat) → has_lease lease c ≡ true → Other held lease c → ⊥
none_left held lease c e o = let u : true ≡ false = sym e ∙ o.not_its in let v : ⊥ = cc in v

-- What was found by the lease is the one.
found_its : (held : List Hold) (lease n : ℕ) (X : Seat → Type 0) (c : Seat) (cs : List Seat) → Each (Phase n X (Other held lease)) cs → find_by (has_lease lease) cs ≡ Some c
    → ((c.number == n) ≡ true) × X c
found_its held lease n X c cs h e =
    found_is_by (c.number == n) (X c) (Other held lease c) (((c.number == n) ≡ true) × X c) (each_found (Phase n X (Other held lease)) (has_lease lease) c cs h e)
    (λ o. none_left held lease c (found_meets (has_lease lease) c cs e) o) (λ is x. (is, x))

-- Acts that the connection takes.
acts_taken : (s : Service) (test : Seat → Bool) (first : Act Token) (all : List (Act Token)) (c : Seat) → refusal_in (line_turn c.line first).answer ≡ None
    → (calls.acts s test first all (Some c)).service ≡ (does s s.given test c (Some c.place) all calls.Did).service
acts_taken s test first all c e = rw e refl

acts_by : (held : List Hold) (s : Service) (lease n : ℕ) (X Y : Seat → Type 0) (first : Act Token) (all : List (Act Token)) (o : Option Seat) → find_by (has_lease lease) s.seats ≡ o → Tidy s
    → Each (Phase n X (Other held lease)) s.seats → ((x : Seat) → X x → has_lease lease x ≡ true) → ((c : Seat) → X c → refusal_in (line_turn c.line first).answer ≡ None)
    → ((c : Seat) → X c → Y (record { number = c.number; place = c.place; line = line_after c.line all }))
    → Each (Phase n Y (Other held lease)) (calls.acts s (has_lease lease) first all o).service.seats
acts_by held s lease n X Y first all None e tidy h has taken new =
    phase_none n X Y (Other held lease) (has_lease lease) s.seats h e (λ x is hx. has x hx)
acts_by held s lease n X Y first all (Some c) e tidy h has taken new =
    let its = found_its held lease n X c s.seats h e in
    let P : Service → Type 0 = λ t. Each (Phase n Y (Other held lease)) t.seats in
    subst P (sym (acts_taken s (has_lease lease) first all c (taken c its.1)))
    (phase_changed n X Y (Other held lease) (has_lease lease) (Some c.place) (line_after c.line all) c s.seats tidy.distinct h e its.0 (new c its.1))

asked_taken : (l : Line) → l.stage ≡ line.Idle → refusal_in (line_turn {T = Token} l line.Ask).answer ≡ None
asked_taken l e = rw e refl

asked_sends : (l : Line) → l.stage ≡ line.Idle → (line_after {T = Token} l (line.Ask ∷ [])).stage ≡ line.Sending false
asked_sends l e = rw e refl

sent_taken : (l : Line) (last begun : Bool) → l.stage ≡ line.Sending begun → refusal_in (line_turn {T = Token} l (line.Send last)).answer ≡ None
sent_taken l last begun e = rw e refl

sent_goes : (l : Line) (begun : Bool) (count : ℕ) → l.stage ≡ line.Sending begun → (b : Bool) × ((line_after {T = Token} l (packets count)).stage ≡ line.Sending b)
sent_goes l begun zero e = (begun, e)
sent_goes l begun (suc count) e =
    let one : (line_turn {T = Token} l (line.Send false)).line.stage ≡ line.Sending true = rw e refl in
    sent_goes (line_turn {T = Token} l (line.Send false)).line true count one

ended_reads : (l : Line) (begun : Bool) (count : ℕ) → l.stage ≡ line.Sending begun → (line_after {T = Token} l (packets count ++ line.Send true ∷ [])).stage ≡ line.Reading
ended_reads l begun zero e = rw e refl
ended_reads l begun (suc count) e =
    let one : (line_turn {T = Token} l (line.Send false)).line.stage ≡ line.Sending true = rw e refl in
    ended_reads (line_turn {T = Token} l (line.Send false)).line true count one

-- The calls of a cleaning, one behind the other.
abbrev Stands : List Hold → ℕ → ℕ → (Seat → Type 0) → Service → Type 0
Stands held lease n X s = Tidy s × Each (Phase n X (Other held lease)) s.seats

lent : (held : List Hold) (s : Service) (n : ℕ) → Stands held (suc s.given) n (IsIdleAt Free) s
    → Stands held (suc s.given) n (IsIdleAt (Cleaning (suc s.given))) (step {T = Token} s (calls.Clean n)).service
lent held s n h = ((step_rises s (calls.Clean n) h.0).tidy, cleans_by held s n _ refl h.0 h.1)

asked : (held : List Hold) (s : Service) (lease n : ℕ) → Stands held lease n (IsIdleAt (Cleaning lease)) s → Stands held lease n (IsAsked lease) (step {T = Token} s (calls.Ask lease)).service
asked held s lease n h = (
  (step_rises s (calls.Ask lease) h.0).tidy,
  acts_by held s lease n (IsIdleAt (Cleaning lease)) (IsAsked lease) line.Ask (line.Ask ∷ []) _ refl h.0 h.1 (λ x hx. its lease x hx.is_at) (λ c hc. asked_taken c.line hc.idle)
      (λ c hc. record { is_at = hc.is_at; sending = (false, asked_sends c.line hc.idle) }),
)

put : (held : List Hold) (s : Service) (lease n count : ℕ) → Stands held lease n (IsAsked lease) s → Stands held lease n (IsAsked lease) (step {T = Token} s (calls.Put lease count)).service
put held s lease n count h = (
  (step_rises s (calls.Put lease count) h.0).tidy,
  acts_by held s lease n (IsAsked lease) (IsAsked lease) (line.Send false) (packets count) _ refl h.0 h.1 (λ x hx. its lease x hx.is_at) (λ c hc. sent_taken c.line false hc.sending.0 hc.sending.1)
      (λ c hc. record { is_at = hc.is_at; sending = sent_goes c.line hc.sending.0 count hc.sending.1 }),
)

finished : (held : List Hold) (s : Service) (lease n count : ℕ) → Stands held lease n (IsAsked lease) s → Stands held lease n (IsOut lease) (step {T = Token} s (calls.Finish lease count)).service
finished held s lease n count h = (
  (step_rises s (calls.Finish lease count) h.0).tidy,
  acts_by held s lease n (IsAsked lease) (IsOut lease) (line.Send true) (packets count ++ line.Send true ∷ []) _ refl h.0 h.1 (λ x hx. its lease x hx.is_at)
      (λ c hc. sent_taken c.line true hc.sending.0 hc.sending.1) (λ c hc. record { is_at = hc.is_at; reading = ended_reads c.line hc.sending.0 count hc.sending.1 }),
)

out_cared : (held : List Hold) (lease : ℕ) (c : Seat) → find_lease lease held ≡ None → IsOut lease c → CaresFor held c
out_cared held lease c e h =
    subst (λ (p : Place). IsCaredFor held c.number p c.line) (sym h.is_at) (record { unheld = e; sent = h.reading })

choose_cared : (held : List Hold) (lease : ℕ) (c : Seat) (b : Bool) → find_lease lease held ≡ None → Choose b (IsOut lease c) (Other held lease c) → CaresFor held c
choose_cared held lease c true e h = out_cared held lease c e h
choose_cared held lease c false e h = h.cared

closed : (held : List Hold) (s : Service) (lease n : ℕ) (X : Seat → Type 0) → Stands held lease n X s → Each (CaresFor held) (step {T = Token} s (calls.Lost n)).service.seats
closed held s lease n X h = lost_leaves s n X (Other held lease) (CaresFor held) h.0.distinct h.1 (λ x other o. o.cared)

by_way : (held : List Hold) (s : Service) (n : ℕ) (way : Way) → find_lease (suc s.given) held ≡ None → Stands held (suc s.given) n (IsIdleAt Free) s
    → Each (CaresFor held) (service_after s (cleaning s n way)).seats
by_way held s n (Sent a b) new h =
    let lease = suc s.given in
    let s1 = (step {T = Token} s (calls.Clean n)).service in
    let s2 = (step {T = Token} s1 (calls.Ask lease)).service in
    let s3 = (step {T = Token} s2 (calls.Put lease a)).service in
    let last = finished held s3 lease n b (put held s2 lease n a (asked held s1 lease n (lent held s n h))) in
    each_weaker (Phase n (IsOut lease) (Other held lease)) (CaresFor held) (λ x px. choose_cared held lease x (x.number == n) new px) (step {T = Token} s3 (calls.Finish lease b)).service.seats last.1
by_way held s n NotLent new h = closed held s (suc s.given) n (IsIdleAt Free) h
by_way held s n NotAsked new h =
    closed held (step {T = Token} s (calls.Clean n)).service (suc s.given) n (IsIdleAt (Cleaning (suc s.given))) (lent held s n h)
by_way held s n NotPut new h =
    let s1 = (step {T = Token} s (calls.Clean n)).service in
    closed held (step {T = Token} s1 (calls.Ask (suc s.given))).service (suc s.given) n (IsAsked (suc s.given)) (asked held s1 (suc s.given) n (lent held s n h))
by_way held s n (NotEnded a) new h =
    let lease = suc s.given in
    let s1 = (step {T = Token} s (calls.Clean n)).service in
    let s2 = (step {T = Token} s1 (calls.Ask lease)).service in
    closed held (step {T = Token} s2 (calls.Put lease a)).service lease n (IsAsked lease) (put held s2 lease n a (asked held s1 lease n (lent held s n h)))

-- A connection that is free and idle is cleaned, or closed; the others are as they were.
pub cleaning_cares : (held : List Hold) (s : Service) (n : ℕ) (way : Way) → Tidy s → find_lease (suc s.given) held ≡ None → Each (Phase n (IsIdleAt Free) (CaresFor held)) s.seats
    → Each (CaresFor held) (service_after s (cleaning s n way)).seats
cleaning_cares held s n way tidy new h = by_way held s n way new (tidy, others_apart held (suc s.given) n (IsIdleAt Free) s.seats h (next_is_new s tidy))
