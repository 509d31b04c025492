-- What a cleaning asks for, and where a connection is once what is underway there is cancelled.
use Rattle.std.proofs.Common.{◌≡◌, ◌∙◌, ◌==◌, ◌&&◌, ℕ, suc, Bool, true, false, List, [], ◌∷◌, Option, Some, None, refl, sym, ap, subst, if◌then◌else◌}
use Rattle.tds_packet.specs.declared.status.Reset.TheVariants.{Full}
use Rattle.tds_client.specs.Session as session
use Rattle.tds_client.specs.Session.{ClientSession}
use Rattle.tds_client.specs.declared.heard.Heard.{Heard}
use Rattle.tds_wire.specs.declared.told.Token.{Token}
use Rattle.tds_service.specs.declared.seat.Seat as seats
use Rattle.tds_service.specs.declared.service.Service as services
use Rattle.tds_service.specs.History.{line_after}
use Rattle.tds_service.specs.Line as line
use Rattle.tds_service.specs.Line.{Line, LineStage, marks}
use Rattle.tds_service.specs.Service as calls
use Rattle.tds_service.specs.Service.{Cleaning, Draining, Free, Place, Seat, Service, find_by, has_lease, has_number, is_idle, is_lendable, does, nothing, rests, step}
use Rattle.tds_service.specs.Table.{client_by, client_of, seat_in, seats_in, service_in}
use Rattle.tds_service.specs.Ties.{stage_of}
use Rattle.tds_relay.specs.Cleaning.{HasBroken, rests_once}
use Rattle.tds_relay.specs.Promises.{Each}
use Rattle.tds_relay.specs.TokenParsers.{IsLed}
use Rattle.tds_relay.proofs.bytes.Walking.{led_tidy}
use Rattle.tds_relay.proofs.promises.Seats.{each_changed, each_found, found_meets}
use Rattle.tds_relay.proofs.promises.Tidy.{Tidy, WithinIn, next_other}
use Rattle.tds_relay.proofs.spared.Aside.{clean_lease}

-- ---- Where a client is, its connection's line is as it

pub record LineIs (test : Seat → Bool) (cs : List Seat) (client : ClientSession) : Type 0 where
  pub seat : Seat
  pub found : find_by test cs ≡ Some seat
  pub stage : seat.line.stage ≡ stage_of client.stage
  pub heard : seat.line.heard ≡ client.heard

line_if : (b : Bool) (test : Seat → Bool) (c : seats.Seat) (cs : List seats.Seat) (client : ClientSession) → test (seat_in c) ≡ b → (if b then Some c.connection.client else client_by test cs) ≡ Some client
    → (client_by test cs ≡ Some client → LineIs test (seats_in cs) client) → LineIs test (seat_in c ∷ seats_in cs) client
line_if true test c cs client is e later =
    let same : c.connection.client ≡ client = (let u : Some c.connection.client ≡ Some client = e in cc) in
    record {
      seat = seat_in c;
      found = ap (λ (b : Bool). let o : Option Seat = if b then Some (seat_in c) else find_by test (seats_in cs) in o) is;
      stage = ap (λ (s : ClientSession). stage_of s.stage) same;
      heard = ap (λ (s : ClientSession). s.heard) same;
    }
line_if false test c cs client is e later =
    let x = later e in
    record {
      seat = x.seat;
      found = ap (λ (b : Bool). let o : Option Seat = if b then Some (seat_in c) else find_by test (seats_in cs) in o) is ∙ x.found;
      stage = x.stage;
      heard = x.heard;
    }

line_by : (test : Seat → Bool) (cs : List seats.Seat) (client : ClientSession) → client_by test cs ≡ Some client → LineIs test (seats_in cs) client
line_by test [] client e = absurd (let u : ⊥ = cc in u)
line_by test (c ∷ cs) client e = line_if (test (seat_in c)) test c cs client refl e (λ f. line_by test cs client f)

pub line_at : (lease : ℕ) (s : services.Service) (client : ClientSession) → client_of lease s ≡ Some client → LineIs (has_lease lease) (service_in s).seats client
line_at lease s client e = line_by (has_lease lease) s.seats.items client e

-- ---- What is underway is cancelled

some_free : Some Draining ≡ Some Free → ⊥
some_free e = (let u : Some Draining ≡ Some Free = e in cc)

sending_free : (l : Line) (b : Bool) → rests (line.cancels {T = Token} l (line.Sending (line.not_begun b))).line.stage ≡ Some Free → b ≡ true
sending_free l true e = refl
sending_free l false e = absurd (some_free e)

sending_drains : (l : Line) (b : Bool) → rests (line.cancels {T = Token} l (line.Sending (line.not_begun b))).line.stage ≡ Some Draining → b ≡ false
sending_drains l true e = absurd (some_free (sym e))
sending_drains l false e = refl

at_rest : (l : Line) (stage : session.Stage) → l.stage ≡ stage_of stage → rests (line.cancels {T = Token} l (stage_of stage)).line.stage ≡ Some Free → rests_once stage ≡ true
at_rest l session.Idle is e = refl
at_rest l (session.Sending kind left packets) is e = sending_free l (packets == 0) e
at_rest l session.Reading is e = absurd (some_free e)
at_rest l session.Cancelling is e =
    absurd (some_free (ap rests (sym is) ∙ e))
at_rest l (session.Broken fault) is e =
    absurd (let u : None ≡ Some Free = ap rests (sym is) ∙ e in let v : ⊥ = cc in v)

at_work : (l : Line) (stage : session.Stage) → l.stage ≡ stage_of stage → rests (line.cancels {T = Token} l (stage_of stage)).line.stage ≡ Some Draining → rests_once stage ≡ false
at_work l session.Idle is e = absurd (some_free (sym (ap rests (sym is) ∙ e)))
at_work l (session.Sending kind left packets) is e = sending_drains l (packets == 0) e
at_work l session.Reading is e = refl
at_work l session.Cancelling is e = refl
at_work l (session.Broken fault) is e = refl

sending_shut : (l : Line) (b : Bool) → rests (line.cancels {T = Token} l (line.Sending (line.not_begun b))).line.stage ≡ None → ⊥
sending_shut l true e = (let u : Some Free ≡ None = e in let v : ⊥ = cc in v)
sending_shut l false e = (let u : Some Draining ≡ None = e in let v : ⊥ = cc in v)

at_end : (l : Line) (stage : session.Stage) → l.stage ≡ stage_of stage → rests (line.cancels {T = Token} l (stage_of stage)).line.stage ≡ None → HasBroken stage
at_end l session.Idle is e = absurd (let u : Some Free ≡ None = sym (ap rests is) ∙ e in let v : ⊥ = cc in v)
at_end l (session.Sending kind left packets) is e = absurd (sending_shut l (packets == 0) e)
at_end l session.Reading is e = absurd (let u : Some Draining ≡ None = e in let v : ⊥ = cc in v)
at_end l session.Cancelling is e = absurd (let u : Some Draining ≡ None = sym (ap rests is) ∙ e in let v : ⊥ = cc in v)
at_end l (session.Broken fault) is e = tt

back_is : (s : Service) (test : Seat → Bool) (c : Seat) (place : Option Place) → find_by test s.seats ≡ Some c → (calls.gives_back {T = Token} s test (find_by test s.seats)).reply ≡ calls.Back place
    → rests (line_after {T = Token} c.line (line.Cancel ∷ [])).stage ≡ place
back_is s test c place e reply =
    let at : calls.Back (rests (line_after {T = Token} c.line (line.Cancel ∷ [])).stage) ≡ calls.Back place = ap (λ (o : Option Seat). (calls.gives_back {T = Token} s test o).reply) (sym e) ∙ reply in
    cc

module _ (lease : ℕ) (s : services.Service) (client : ClientSession) (there : client_of lease s ≡ Some client) where
  back_stage : (place : Option Place) → (step {T = Token} (service_in s) (calls.GiveBack lease)).reply ≡ calls.Back place
      → rests (line.cancels {T = Token} (line_at lease s client there).seat.line (stage_of client.stage)).line.stage ≡ place
  back_stage place reply =
      let x = line_at lease s client there in
      ap (λ (t : LineStage). rests (line.cancels {T = Token} x.seat.line t).line.stage) (sym x.stage) ∙ back_is (service_in s) (has_lease lease) x.seat place x.found reply

  pub free_once : (step {T = Token} (service_in s) (calls.GiveBack lease)).reply ≡ calls.Back (Some Free) → rests_once client.stage ≡ true
  free_once reply = at_rest (line_at lease s client there).seat.line client.stage (line_at lease s client there).stage (back_stage (Some Free) reply)

  pub drains_once : (step {T = Token} (service_in s) (calls.GiveBack lease)).reply ≡ calls.Back (Some Draining) → rests_once client.stage ≡ false
  drains_once reply = at_work (line_at lease s client there).seat.line client.stage (line_at lease s client there).stage (back_stage (Some Draining) reply)

  pub shut_once : (step {T = Token} (service_in s) (calls.GiveBack lease)).reply ≡ calls.Back None → HasBroken client.stage
  shut_once reply = at_end (line_at lease s client there).seat.line client.stage (line_at lease s client there).stage (back_stage None reply)

-- ---- A cleaning asks for the full reset

abbrev IsMarked : ℕ → Seat → Type 0
IsMarked lease c = has_lease lease c ≡ true → c.line.heard.mark ≡ Some Full

marked_by : (l : Line) (stage : LineStage) → is_idle stage ≡ true → (marks {T = Token} l Full stage).line.heard.mark ≡ Some Full
marked_by l line.Idle e = refl
marked_by l (line.Sending begun) e = absurd (let u : ⊥ = cc in u)
marked_by l line.Reading e = absurd (let u : ⊥ = cc in u)
marked_by l line.Cancelling e = absurd (let u : ⊥ = cc in u)
marked_by l (line.Broken fault) e = absurd (let u : ⊥ = cc in u)

pub both_true : (a b : Bool) → (a && b) ≡ true → b ≡ true
both_true true b e = e
both_true false b e = absurd (let u : ⊥ = cc in u)

module _ (s : Service) (tidy : Tidy s) where
  others_marked : (c : Seat) → WithinIn s.given c → IsMarked (suc s.given) c
  others_marked c within = λ is. absurd (let u : false ≡ true = sym (next_other s.given c.place within) ∙ is in let v : ⊥ = cc in v)

  clean_if : (b : Bool) (test : Seat → Bool) (c : Seat) (lease number : ℕ) (had : Bool) → find_by test s.seats ≡ Some c → is_lendable c ≡ b
      → (if b then does {T = Token} s (suc s.given) test c (Some (Cleaning (suc s.given))) (line.Mark Full ∷ []) (calls.Lent (suc s.given) c.number true) else nothing s calls.NotNow).reply ≡ calls.Lent lease number had
      → Each (IsMarked (suc s.given)) (if b then does {T = Token} s (suc s.given) test c (Some (Cleaning (suc s.given))) (line.Mark Full ∷ []) (calls.Lent (suc s.given) c.number true) else nothing s calls.NotNow).service.seats
  clean_if false test c lease number had e is reply = absurd (let u : calls.NotNow ≡ calls.Lent lease number had = reply in let v : ⊥ = cc in v)
  clean_if true test c lease number had e is reply =
      each_changed (WithinIn s.given) (IsMarked (suc s.given)) test (Some (Cleaning (suc s.given))) (line_after {T = Token} c.line (line.Mark Full ∷ [])) c s.seats e tidy.distinct tidy.within (λ x within other. others_marked x within)
      (λ own. marked_by c.line c.line.stage (both_true (calls.is_free c.place) (is_idle c.line.stage) is))

  clean_by : (test : Seat → Bool) (o : Option Seat) (lease number : ℕ) (had : Bool) → find_by test s.seats ≡ o → (calls.cleans {T = Token} s test o).reply ≡ calls.Lent lease number had
      → Each (IsMarked (suc s.given)) (calls.cleans {T = Token} s test o).service.seats
  clean_by test None lease number had e reply = absurd (let u : calls.Unknown ≡ calls.Lent lease number had = reply in let v : ⊥ = cc in v)
  clean_by test (Some c) lease number had e reply = clean_if (is_lendable c) test c lease number had e refl reply

pub cleans_full : (number lease other : ℕ) (had : Bool) (s t : services.Service) (client : ClientSession) → IsLed (service_in s) → service_in t ≡ (step {T = Token} (service_in s) (calls.Clean number)).service
    → (step {T = Token} (service_in s) (calls.Clean number)).reply ≡ calls.Lent lease other had → client_of lease t ≡ Some client → client.heard.mark ≡ Some Full
cleans_full number lease other had s t client led is reply there =
    let old : Service = service_in s in
    let own : lease ≡ suc old.given = clean_lease old number lease other had reply in
    let all : Each (IsMarked (suc old.given)) (step {T = Token} old (calls.Clean number)).service.seats = clean_by old (led_tidy old led) (has_number number) (find_by (has_number number) old.seats) lease other had refl reply in
    let each : Each (IsMarked lease) (service_in t).seats = subst (λ (n : ℕ). Each (IsMarked n) (service_in t).seats) (sym own) (subst (λ (x : Service). Each (IsMarked (suc old.given)) x.seats) (sym is) all) in
    let x = line_at lease t client there in
    let marked : IsMarked lease x.seat = each_found (IsMarked lease) (has_lease lease) x.seat (service_in t).seats each x.found in
    ap (λ (h : Heard). h.mark) (sym x.heard) ∙ marked (found_meets (has_lease lease) x.seat (service_in t).seats x.found)
