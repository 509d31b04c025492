-- What is lent again is idle.
use Rattle.std.proofs.Common.{◌≡◌, ◌∙◌, ◌==◌, ◌&&◌, ℕ, suc, Bool, true, false, List, [], ◌∷◌, ◌++◌, length, refl, sym, ap, subst, inr}
use Rattle.std.specs.Prelude.{Option, Some, None, Result, Ok, Err, nat_lt, if◌then◌else◌}
use Rattle.tds_packet.specs.declared.status.Reset.TheVariants.{Full, KeepTransaction}
use Rattle.tds_client.specs.declared.fault.ClientFault.TheVariants as faults
use Rattle.tds_client.specs.declared.fault.ClientRefusal.{ClientRefusal}
use Rattle.tds_client.specs.declared.heard.Heard.{Heard}
use Rattle.tds_listen.specs.declared.fault.ListenFault.{ListenFault}
use Rattle.tds_client.specs.declared.heard.FinalDone.{FinalDone}
use Rattle.tds_client.specs.declared.heard.FinalDone.TheVariants.{Awaited, Answered, Acknowledged}
use Rattle.tds_client.specs.Hearing.{with_done}
use Rattle.tds_service.specs.Parts.{Part, is_end, hear_part, heard_until}
use Rattle.tds_service.specs.Line.{Line, new_line, Act, Mark, Ask, Send, Cancel, Come, Lose, LineStage, Idle, Sending, Reading, Cancelling, Broken, line_turn, reads, skips, skips_to_end, cause, left_by}
use Rattle.tds_service.specs.History.{Done, done_by, history, line_after, acts_of}
use Rattle.tds_service.specs.Refusing.{packets, refusal_in}
use Rattle.tds_service.specs.Lending.{awaited, LendsIdle}
use Rattle.tds_service.specs.Service as calls
use Rattle.tds_service.specs.Service.{Place, Cleaning, Free, Draining, acts_unless, cleans, cleaned, clean_place, rests_cleaned, is_free, Seat, Service, new_service, Call, ServiceStep, Leased, Kept, Lent, Ticket, NotNow, nothing, does, find_by, seat_numbered, has_lease, has_ticket, has_number, is_lendable, is_idle, is_open, acts, opens, lends, resumes, gives_back, keeps_it, abandons, hears, loses, step, steps, service_after, on, on_one}
use Rattle.tds_service.proofs.Pairing.{line, with_mark}
use Rattle.tds_service.proofs.Walks.{awaits}
use Rattle.tds_service.proofs.Alone.{Tidy, FitsIn, IsAlone, step_alone, fits_here, acts_of_history, acts_of_both, each_alone}
use Rattle.tds_service.proofs.Numbered.{is_found}
use Rattle.tds_service.proofs.Lends.{free_idle, idle_both, idle_stage}

awaits_along_reads : {T : Type 0} (n : ℕ) (h : Heard) (part : Part T) (ends : Bool) (u : Heard) (result : Result Heard ListenFault) (acts : List (Act T))
    → ((s : LineStage) (h : Heard) → awaited (awaits s) (history (line n s h) acts) ≡ awaits (line_after (line n s h) acts).stage)
    → awaited (awaits Reading) (done_by (Come part) (reads (line n Reading h) part ends u result) ∷ history (reads (line n Reading h) part ends u result).line acts) ≡ awaits (line_after (reads (line n Reading h) part ends u result).line acts).stage
awaits_along_reads n h part ends u (Err fault) acts ih = ih (Broken (cause fault)) (left_by fault u)
awaits_along_reads n h part false u (Ok heard) acts ih = ih Reading heard
awaits_along_reads n h part true u (Ok heard) acts ih = ih Idle (with_done heard Awaited)

awaits_along_skips_to_end : {T : Type 0} (n : ℕ) (h heard : Heard) (part : Part T) (done : FinalDone) (acts : List (Act T))
    → ((s : LineStage) (h : Heard) → awaited (awaits s) (history (line n s h) acts) ≡ awaits (line_after (line n s h) acts).stage)
    → awaited (awaits Cancelling) (done_by (Come part) (skips_to_end {T = T} (line n Cancelling h) heard done) ∷ history (skips_to_end {T = T} (line n Cancelling h) heard done).line acts) ≡ awaits (line_after (skips_to_end {T = T} (line n Cancelling h) heard done).line acts).stage
awaits_along_skips_to_end n h heard part Awaited acts ih = ih Cancelling (with_done heard Awaited)
awaits_along_skips_to_end n h heard part Answered acts ih = ih Cancelling (with_done heard Awaited)
awaits_along_skips_to_end n h heard part Acknowledged acts ih = ih Idle (with_done heard Awaited)

awaits_along_skips : {T : Type 0} (n : ℕ) (h : Heard) (part : Part T) (ends : Bool) (u : Heard) (result : Result Heard ListenFault) (acts : List (Act T))
    → ((s : LineStage) (h : Heard) → awaited (awaits s) (history (line n s h) acts) ≡ awaits (line_after (line n s h) acts).stage)
    → awaited (awaits Cancelling) (done_by (Come part) (skips {T = T} (line n Cancelling h) ends u result) ∷ history (skips {T = T} (line n Cancelling h) ends u result).line acts) ≡ awaits (line_after (skips {T = T} (line n Cancelling h) ends u result).line acts).stage
awaits_along_skips n h part ends u (Err fault) acts ih = ih (Broken (cause fault)) (left_by fault u)
awaits_along_skips n h part false u (Ok heard) acts ih = ih Cancelling heard
awaits_along_skips n h part true u (Ok heard) acts ih = awaits_along_skips_to_end n h heard part heard.done acts ih

pub awaits_along : {T : Type 0} (n : ℕ) (s : LineStage) (h : Heard) (acts : List (Act T)) → awaited (awaits s) (history (line n s h) acts) ≡ awaits (line_after (line n s h) acts).stage
awaits_along n s h [] = refl
awaits_along n Idle h (Mark reset ∷ acts) = awaits_along n Idle (with_mark h reset) acts
awaits_along n Idle h (Ask ∷ acts) = awaits_along (suc n) (Sending false) h acts
awaits_along n Idle h (Send last ∷ acts) = awaits_along n Idle h acts
awaits_along n Idle h (Cancel ∷ acts) = awaits_along n Idle h acts
awaits_along n Idle h (Come part ∷ acts) = awaits_along n (Broken faults.AnswerInIdle) h acts
awaits_along n Idle h (Lose ∷ acts) = awaits_along n (Broken faults.Lost) h acts
awaits_along n (Sending begun) h (Mark reset ∷ acts) = awaits_along n (Sending begun) h acts
awaits_along n (Sending begun) h (Ask ∷ acts) = awaits_along n (Sending begun) h acts
awaits_along n (Sending begun) h (Send false ∷ acts) = awaits_along n (Sending true) h acts
awaits_along n (Sending begun) h (Send true ∷ acts) = awaits_along n Reading h acts
awaits_along n (Sending false) h (Cancel ∷ acts) = awaits_along n Idle h acts
awaits_along n (Sending true) h (Cancel ∷ acts) = awaits_along n Cancelling h acts
awaits_along n (Sending begun) h (Come part ∷ acts) = awaits_along n (Broken faults.AnswerInSending) h acts
awaits_along n (Sending begun) h (Lose ∷ acts) = awaits_along n (Broken faults.Lost) h acts
awaits_along n Reading h (Mark reset ∷ acts) = awaits_along n Reading h acts
awaits_along n Reading h (Ask ∷ acts) = awaits_along n Reading h acts
awaits_along n Reading h (Send last ∷ acts) = awaits_along n Reading h acts
awaits_along n Reading h (Cancel ∷ acts) = awaits_along n Cancelling h acts
awaits_along n Reading h (Come part ∷ acts) = awaits_along_reads n h part (is_end part.close) (heard_until false h part.items) (hear_part false h part) acts (λ s h. awaits_along n s h acts)
awaits_along n Reading h (Lose ∷ acts) = awaits_along n (Broken faults.Lost) h acts
awaits_along n Cancelling h (Mark reset ∷ acts) = awaits_along n Cancelling h acts
awaits_along n Cancelling h (Ask ∷ acts) = awaits_along n Cancelling h acts
awaits_along n Cancelling h (Send last ∷ acts) = awaits_along n Cancelling h acts
awaits_along n Cancelling h (Cancel ∷ acts) = awaits_along n Cancelling h acts
awaits_along n Cancelling h (Come part ∷ acts) = awaits_along_skips n h part (is_end part.close) (heard_until true h part.items) (hear_part true h part) acts (λ s h. awaits_along n s h acts)
awaits_along n Cancelling h (Lose ∷ acts) = awaits_along n (Broken faults.Lost) h acts
awaits_along n (Broken fault) h (Mark reset ∷ acts) = awaits_along n (Broken fault) h acts
awaits_along n (Broken fault) h (Ask ∷ acts) = awaits_along n (Broken fault) h acts
awaits_along n (Broken fault) h (Send last ∷ acts) = awaits_along n (Broken fault) h acts
awaits_along n (Broken fault) h (Cancel ∷ acts) = awaits_along n (Broken fault) h acts
awaits_along n (Broken fault) h (Come part ∷ acts) = awaits_along n (Broken fault) h acts
awaits_along n (Broken fault) h (Lose ∷ acts) = awaits_along n (Broken fault) h acts

-- ---- The table behind calls

after_both : {T : Type 0} (l : Line) (xs ys : List (Act T)) → line_after l (xs ++ ys) ≡ line_after (line_after l xs) ys
after_both l [] ys = refl
after_both l (x ∷ xs) ys = after_both (line_turn l x).line xs ys

pub record Behind {T : Type 0} (n : ℕ) (l : Line) (s : Service) (ds : List (Done T)) : Type 0 where
  pub tidy : Tidy s
  pub fits : FitsIn s n (line_after l (acts_of ds))

joined : {T : Type 0} (n : ℕ) (l : Line) (s : Service) (xs : List (Act T)) (rest : List (Done T)) → Behind n (line_after l xs) s rest → Behind n l s (history l xs ++ rest)
joined n l s xs rest b = record {
  tidy = b.tidy;
  fits =
      subst (λ (k : Line). FitsIn s n k)
      (sym (ap (line_after l) (acts_of_both (history l xs) rest ∙ ap (λ (ys : List (Act _)). ys ++ acts_of rest) (acts_of_history l xs)) ∙ after_both l xs (acts_of rest)))
      b.fits;
}

behind_by : {T : Type 0} (n : ℕ) (l : Line) (s : Service) (t : ServiceStep T) (b : Bool) (rest : List (Done T)) → (t.number == n) ≡ b → IsAlone n l t
    → ((k : Line) → FitsIn t.service n k → Behind n k s rest) → Behind n l s (on_one b t.dones rest)
behind_by n l s t false rest e k ih = ih l (k.other e)
behind_by n l s t true rest e k ih =
    let h = k.here e in
    subst (λ (ds : List (Done _)). Behind n l s (ds ++ rest)) (sym h.1) (joined n l s h.0 rest (ih (line_after l h.0) h.2))

pub behind : {T : Type 0} (n : ℕ) (l : Line) (s : Service) (calls : List (Call T)) → Tidy s → FitsIn s n l → Behind n l (service_after s calls) (on n (steps s calls))
behind n l s [] tidy fits = record { tidy = tidy; fits = fits }
behind n l s (call ∷ calls) tidy fits =
    let k = step_alone n l s call tidy fits in
    behind_by n l (service_after (step s call).service calls) (step s call) ((step s call).number == n) (on n (steps (step s call).service calls)) refl k
    (λ l f. behind n l (step s call).service calls k.tidy f)

-- a connection that is found idle awaits nothing
idle_at : {T : Type 0} (max : ℕ) (before : List (Call T)) (test : Seat → Bool) (c : Seat) → find_by test (service_after (new_service max) before).seats ≡ Some c
    → is_idle c.line.stage ≡ true → awaited false (on c.number (steps (new_service max) before)) ≡ false
idle_at {T} max before test c e idle =
    let s = service_after (new_service max) before in
    let ds = on c.number (steps (new_service max) before) in
    let b = behind c.number new_line (new_service max) before (record { fresh = λ m lt. refl; unique = tt }) (inr refl) in
    let same : c.line ≡ line_after new_line (acts_of ds) =
    fits_here s c.number c (line_after new_line (acts_of ds)) (seat_numbered c.number s.seats) (is_found test c s.seats b.tidy.unique e) b.fits in
    ap (awaited false) (each_alone max c.number before)
    ∙ (awaits_along 0 Idle new_line.heard (acts_of ds)
    ∙ (ap (λ (l : Line). awaits l.stage) (sym same) ∙ ap awaits (idle_stage c.line.stage idle)))

-- ---- Each call

quiet_unless : {T : Type 0} (ts : List (ServiceStep T)) (s : Service) (test : Seat → Bool) (c : Seat) (all : List (Act T)) (why : Option ClientRefusal) → LendsIdle ts (acts_unless s test c all why).reply
quiet_unless ts s test c all None = tt
quiet_unless ts s test c all (Some why) = tt

quiet_acts : {T : Type 0} (ts : List (ServiceStep T)) (s : Service) (test : Seat → Bool) (first : Act T) (all : List (Act T)) (seat : Option Seat) → LendsIdle ts (acts s test first all seat).reply
quiet_acts ts s test first all None = tt
quiet_acts ts s test first all (Some c) = quiet_unless ts s test c all (refusal_in (line_turn c.line first).answer)

cleans_by : (T : Type 0) (ts : List (ServiceStep T)) (s : Service) (test : Seat → Bool) (c : Seat) (b : Bool) → is_lendable c ≡ b
    → (is_lendable c ≡ true → awaited false (on c.number ts) ≡ false)
    → let t = (if b then does {T = T} s (suc s.given) test c (Some (Cleaning (suc s.given))) (Mark Full ∷ []) (Lent (suc s.given) c.number true) else nothing s NotNow)
    in LendsIdle ts t.reply
cleans_by T ts s test c true e h = h e
cleans_by T ts s test c false e h = tt

cleans_one : (T : Type 0) (ts : List (ServiceStep T)) (s : Service) (test : Seat → Bool) (seat : Option Seat)
    → ((c : Seat) → seat ≡ Some c → is_lendable c ≡ true → awaited false (on c.number ts) ≡ false) → LendsIdle ts (cleans {T = T} s test seat).reply
cleans_one T ts s test None h = tt
cleans_one T ts s test (Some c) h = cleans_by T ts s test c (is_lendable c) refl (h c refl)

quiet_rests : (T : Type 0) (ts : List (ServiceStep T)) (s : Service) (test : Seat → Bool) (c : Seat) (place : Option (Option Place)) → LendsIdle ts (rests_cleaned {T = T} s test c place).reply
quiet_rests T ts s test c None = tt
quiet_rests T ts s test c (Some place) = tt

quiet_cleaned : (T : Type 0) (ts : List (ServiceStep T)) (s : Service) (test : Seat → Bool) (seat : Option Seat) → LendsIdle ts (cleaned {T = T} s test seat).reply
quiet_cleaned T ts s test None = tt
quiet_cleaned T ts s test (Some c) = quiet_rests T ts s test c (clean_place c.place c.line)

quiet_opens : (T : Type 0) (ts : List (ServiceStep T)) (s : Service) (room : Bool) → LendsIdle ts (opens {T = T} s room).reply
quiet_opens T ts s false = tt
quiet_opens T ts s true = tt

lends_one : (T : Type 0) (ts : List (ServiceStep T)) (s : Service) (seat : Option Seat) → ((c : Seat) → seat ≡ Some c → awaited false (on c.number ts) ≡ false) → LendsIdle ts (lends {T = T} s seat).reply
lends_one T ts s None h = quiet_opens T ts s (nat_lt (length s.seats) s.max)
lends_one T ts s (Some c) h = h c refl

resumes_by : (T : Type 0) (ts : List (ServiceStep T)) (s : Service) (test : Seat → Bool) (c : Seat) (b : Bool) → is_idle c.line.stage ≡ b
    → (is_idle c.line.stage ≡ true → awaited false (on c.number ts) ≡ false)
    → let t = (if b then does {T = T} s (suc s.given) test c (Some (Leased (suc s.given))) (Mark KeepTransaction ∷ []) (Lent (suc s.given) c.number true) else nothing s NotNow)
    in LendsIdle ts t.reply
resumes_by T ts s test c true e h = h e
resumes_by T ts s test c false e h = tt

resumes_one : (T : Type 0) (ts : List (ServiceStep T)) (s : Service) (test : Seat → Bool) (seat : Option Seat)
    → ((c : Seat) → seat ≡ Some c → is_idle c.line.stage ≡ true → awaited false (on c.number ts) ≡ false) → LendsIdle ts (resumes {T = T} s test seat).reply
resumes_one T ts s test None h = tt
resumes_one T ts s test (Some c) h = resumes_by T ts s test c (is_idle c.line.stage) refl (h c refl)

quiet_back : (T : Type 0) (ts : List (ServiceStep T)) (s : Service) (test : Seat → Bool) (seat : Option Seat) → LendsIdle ts (gives_back {T = T} s test seat).reply
quiet_back T ts s test None = tt
quiet_back T ts s test (Some c) = tt

quiet_keeps_by : (T : Type 0) (ts : List (ServiceStep T)) (s : Service) (test : Seat → Bool) (c : Seat) (b : Bool)
    → let t = (if b then does {T = T} s (suc s.given) test c (Some (Kept (suc s.given))) [] (Ticket (suc s.given)) else nothing s NotNow)
    in LendsIdle ts t.reply
quiet_keeps_by T ts s test c true = tt
quiet_keeps_by T ts s test c false = tt

quiet_keeps : (T : Type 0) (ts : List (ServiceStep T)) (s : Service) (test : Seat → Bool) (seat : Option Seat) → LendsIdle ts (keeps_it {T = T} s test seat).reply
quiet_keeps T ts s test None = tt
quiet_keeps T ts s test (Some c) = quiet_keeps_by T ts s test c (is_idle c.line.stage && is_open c.line.heard.mark c.line.heard.descriptor)

quiet_abandons : (T : Type 0) (ts : List (ServiceStep T)) (s : Service) (test : Seat → Bool) (seat : Option Seat) → LendsIdle ts (abandons {T = T} s test seat).reply
quiet_abandons T ts s test None = tt
quiet_abandons T ts s test (Some c) = tt

quiet_hears : {T : Type 0} (ts : List (ServiceStep T)) (s : Service) (test : Seat → Bool) (part : Part T) (seat : Option Seat) → LendsIdle ts (hears s test part seat).reply
quiet_hears ts s test part None = tt
quiet_hears ts s test part (Some c) = tt

quiet_loses : (T : Type 0) (ts : List (ServiceStep T)) (s : Service) (test : Seat → Bool) (seat : Option Seat) → LendsIdle ts (loses {T = T} s test seat).reply
quiet_loses T ts s test None = tt
quiet_loses T ts s test (Some c) = tt

pub lends_idle : {T : Type 0} (max : ℕ) (before : List (Call T)) (call : Call T)
    → LendsIdle (steps (new_service max) before) (step (service_after (new_service max) before) call).reply
lends_idle {T} max before calls.Lease =
    let s = service_after (new_service max) before in
    lends_one T (steps (new_service max) before) s (find_by is_lendable s.seats) (λ c e. idle_at max before is_lendable c e (free_idle s.seats c e))
lends_idle {T} max before (calls.Resume ticket) =
    let s = service_after (new_service max) before in
    resumes_one T (steps (new_service max) before) s (has_ticket ticket) (find_by (has_ticket ticket) s.seats) (λ c e idle. idle_at max before (has_ticket ticket) c e idle)
lends_idle {T} max before (calls.Ask lease) =
    let s = service_after (new_service max) before in quiet_acts (steps (new_service max) before) s (has_lease lease) Ask (Ask ∷ []) (find_by (has_lease lease) s.seats)
lends_idle {T} max before (calls.Put lease count) =
    let s = service_after (new_service max) before in quiet_acts (steps (new_service max) before) s (has_lease lease) (Send false) (packets count) (find_by (has_lease lease) s.seats)
lends_idle {T} max before (calls.Finish lease count) =
    let s = service_after (new_service max) before in
    quiet_acts (steps (new_service max) before) s (has_lease lease) (Send true) (packets count ++ Send true ∷ []) (find_by (has_lease lease) s.seats)
lends_idle {T} max before (calls.Clean number) =
    let s = service_after (new_service max) before in
    cleans_one T (steps (new_service max) before) s (has_number number) (find_by (has_number number) s.seats)
    (λ c e may. idle_at max before (has_number number) c e (idle_both (is_free c.place) (is_idle c.line.stage) may))
lends_idle {T} max before (calls.Cleaned lease) =
    let s = service_after (new_service max) before in quiet_cleaned T (steps (new_service max) before) s (has_lease lease) (find_by (has_lease lease) s.seats)
lends_idle {T} max before (calls.Without call) = tt
lends_idle {T} max before (calls.Cancel lease) =
    let s = service_after (new_service max) before in quiet_acts (steps (new_service max) before) s (has_lease lease) Cancel (Cancel ∷ []) (find_by (has_lease lease) s.seats)
lends_idle {T} max before (calls.GiveBack lease) =
    let s = service_after (new_service max) before in quiet_back T (steps (new_service max) before) s (has_lease lease) (find_by (has_lease lease) s.seats)
lends_idle {T} max before (calls.Keep lease) =
    let s = service_after (new_service max) before in quiet_keeps T (steps (new_service max) before) s (has_lease lease) (find_by (has_lease lease) s.seats)
lends_idle {T} max before (calls.Abandon ticket) =
    let s = service_after (new_service max) before in quiet_abandons T (steps (new_service max) before) s (has_ticket ticket) (find_by (has_ticket ticket) s.seats)
lends_idle {T} max before (calls.Came number part) =
    let s = service_after (new_service max) before in quiet_hears (steps (new_service max) before) s (has_number number) part (find_by (has_number number) s.seats)
lends_idle {T} max before (calls.Lost number) =
    let s = service_after (new_service max) before in quiet_loses T (steps (new_service max) before) s (has_number number) (find_by (has_number number) s.seats)
