-- A connection that is lent again is idle, and marked.
use Rattle.std.proofs.Common.{◌≡◌, ◌∙◌, ◌&&◌, ◌++◌, ℕ, suc, Bool, true, false, List, [], ◌∷◌, length, refl, sym, ap}
use Rattle.std.specs.Prelude.{Option, Some, None, nat_lt, if◌then◌else◌}
use Rattle.tds_packet.specs.declared.status.Reset.{Reset}
use Rattle.tds_packet.specs.declared.status.Reset.TheVariants.{Full, KeepTransaction}
use Rattle.tds_service.specs.Parts.{Part}
use Rattle.tds_service.specs.Line.{Line, new_line, Act, LineStage, Idle, Sending, Reading, Cancelling, Broken}
use Rattle.tds_service.specs.Line as line
use Rattle.tds_service.specs.History.{history}
use Rattle.tds_service.specs.Lending.{marking, MarksBy, MarksReused}
use Rattle.tds_client.specs.declared.fault.ClientRefusal.{ClientRefusal}
use Rattle.tds_service.specs.Refusing.{packets, refusal_in}
use Rattle.tds_service.specs.Service.{Place, Leased, Cleaning, Kept, acts_unless, cleans, cleaned, clean_place, rests_cleaned, Seat, Service, new_service, Call, Lease, Resume, Ask, Put, Finish, Cancel, GiveBack, Clean, Cleaned, Keep, Abandon, Came, Lost, Without, NotNow, Lent, Ticket, nothing, find_by, has_lease, has_ticket, has_number, is_lendable, does, is_idle, is_free, is_open, acts, opens, lends, resumes, gives_back, keeps_it, abandons, hears, loses, step, steps}

-- ---- Marked

pub idle_stage : (stage : LineStage) → is_idle stage ≡ true → stage ≡ Idle
idle_stage Idle e = refl
idle_stage (Sending begun) e = cc
idle_stage Reading e = cc
idle_stage Cancelling e = cc
idle_stage (Broken fault) e = cc

marked_one : {T : Type 0} (l : Line) (reset : Reset) (stage : LineStage) → l.stage ≡ stage → stage ≡ Idle → history {T = T} l (line.Mark reset ∷ []) ≡ marking reset ∷ []
marked_one {T} l reset stage e i =
    let k : l.stage ≡ Idle = e ∙ i in
    ap (λ (s : LineStage). let t = line.marks {T = T} l reset s in (record { act = line.Mark reset; answer = t.answer; sent = t.sent; told = t.told }) ∷ []) k

pub idle_both : (place stage : Bool) → (place && stage) ≡ true → stage ≡ true
idle_both true stage e = e
idle_both false stage e = cc

lendable_by : (c d : Seat) (cs : List Seat) (b : Bool) → is_lendable c ≡ b → (if b then Some c else find_by is_lendable cs) ≡ Some d
    → (find_by is_lendable cs ≡ Some d → is_lendable d ≡ true) → is_lendable d ≡ true
lendable_by c d cs true e f ih = let same : c ≡ d = cc in ap is_lendable (sym same) ∙ e
lendable_by c d cs false e f ih = ih f

lendable : (cs : List Seat) (d : Seat) → find_by is_lendable cs ≡ Some d → is_lendable d ≡ true
lendable [] d e = cc
lendable (c ∷ cs) d e = lendable_by c d cs (is_lendable c) refl e (lendable cs d)

pub free_idle : (cs : List Seat) (d : Seat) → find_by is_lendable cs ≡ Some d → is_idle d.line.stage ≡ true
free_idle cs d e = idle_both (is_free d.place) (is_idle d.line.stage) (lendable cs d e)

unless_mark : {T : Type 0} (s : Service) (call : Call T) (test : Seat → Bool) (c : Seat) (all : List (Act T)) (why : Option ClientRefusal)
    → MarksBy call (acts_unless s test c all why).reply (acts_unless s test c all why).dones
unless_mark s call test c all None = tt
unless_mark s call test c all (Some why) = tt

acts_mark : {T : Type 0} (s : Service) (call : Call T) (test : Seat → Bool) (first : Act T) (all : List (Act T)) (seat : Option Seat)
    → MarksBy call (acts s test first all seat).reply (acts s test first all seat).dones
acts_mark s call test first all None = tt
acts_mark s call test first all (Some c) = unless_mark s call test c all (refusal_in (line.line_turn c.line first).answer)

cleans_mark_by : (T : Type 0) (s : Service) (test : Seat → Bool) (number : ℕ) (c : Seat) (b : Bool) → is_lendable c ≡ b
    → let t = (if b then does {T = T} s (suc s.given) test c (Some (Cleaning (suc s.given))) (line.Mark Full ∷ []) (Lent (suc s.given) c.number true) else nothing s NotNow)
    in MarksBy {T = T} (Clean number) t.reply t.dones
cleans_mark_by T s test number c true e = marked_one c.line Full c.line.stage refl (idle_stage c.line.stage (idle_both (is_free c.place) (is_idle c.line.stage) e))
cleans_mark_by T s test number c false e = tt

cleans_mark : (T : Type 0) (s : Service) (test : Seat → Bool) (number : ℕ) (seat : Option Seat) → MarksBy {T = T} (Clean number) (cleans {T = T} s test seat).reply (cleans {T = T} s test seat).dones
cleans_mark T s test number None = tt
cleans_mark T s test number (Some c) = cleans_mark_by T s test number c (is_lendable c) refl

rests_mark : {T : Type 0} (s : Service) (test : Seat → Bool) (call : Call T) (c : Seat) (place : Option (Option Place))
    → MarksBy call (rests_cleaned {T = T} s test c place).reply (rests_cleaned {T = T} s test c place).dones
rests_mark s test call c None = tt
rests_mark s test call c (Some place) = tt

cleaned_mark : {T : Type 0} (s : Service) (test : Seat → Bool) (call : Call T) (seat : Option Seat) → MarksBy call (cleaned {T = T} s test seat).reply (cleaned {T = T} s test seat).dones
cleaned_mark s test call None = tt
cleaned_mark s test call (Some c) = rests_mark s test call c (clean_place c.place c.line)

opens_mark : {T : Type 0} (s : Service) (call : Call T) (room : Bool) → MarksBy call (opens {T = T} s room).reply (opens {T = T} s room).dones
opens_mark s call false = tt
opens_mark s call true = refl

lends_mark : (T : Type 0) (s : Service) (seat : Option Seat) → ((c : Seat) → seat ≡ Some c → is_idle c.line.stage ≡ true)
    → MarksBy {T = T} Lease (lends {T = T} s seat).reply (lends {T = T} s seat).dones
lends_mark T s None h = opens_mark s Lease (nat_lt (length s.seats) s.max)
lends_mark T s (Some c) h = marked_one c.line Full c.line.stage refl (idle_stage c.line.stage (h c refl))

resumes_mark_by : (T : Type 0) (s : Service) (test : Seat → Bool) (ticket : ℕ) (c : Seat) (b : Bool) → is_idle c.line.stage ≡ b
    → let t = (if b then does {T = T} s (suc s.given) test c (Some (Leased (suc s.given))) (line.Mark KeepTransaction ∷ []) (Lent (suc s.given) c.number true) else nothing s NotNow)
    in MarksBy {T = T} (Resume ticket) t.reply t.dones
resumes_mark_by T s test ticket c true e = marked_one c.line KeepTransaction c.line.stage refl (idle_stage c.line.stage e)
resumes_mark_by T s test ticket c false e = tt

resumes_mark : (T : Type 0) (s : Service) (test : Seat → Bool) (ticket : ℕ) (seat : Option Seat) → MarksBy {T = T} (Resume ticket) (resumes {T = T} s test seat).reply (resumes {T = T} s test seat).dones
resumes_mark T s test ticket None = tt
resumes_mark T s test ticket (Some c) = resumes_mark_by T s test ticket c (is_idle c.line.stage) refl

back_mark : {T : Type 0} (s : Service) (test : Seat → Bool) (call : Call T) (seat : Option Seat) → MarksBy call (gives_back {T = T} s test seat).reply (gives_back {T = T} s test seat).dones
back_mark s test call None = tt
back_mark s test call (Some c) = tt

keeps_mark_by : {T : Type 0} (s : Service) (test : Seat → Bool) (call : Call T) (c : Seat) (b : Bool)
    → let t = (if b then does {T = T} s (suc s.given) test c (Some (Kept (suc s.given))) [] (Ticket (suc s.given)) else nothing s NotNow)
    in MarksBy call t.reply t.dones
keeps_mark_by s test call c true = tt
keeps_mark_by s test call c false = tt

keeps_mark : {T : Type 0} (s : Service) (test : Seat → Bool) (call : Call T) (seat : Option Seat) → MarksBy call (keeps_it {T = T} s test seat).reply (keeps_it {T = T} s test seat).dones
keeps_mark s test call None = tt
keeps_mark s test call (Some c) = keeps_mark_by s test call c (is_idle c.line.stage && is_open c.line.heard.mark c.line.heard.descriptor)

abandons_mark : {T : Type 0} (s : Service) (test : Seat → Bool) (call : Call T) (seat : Option Seat) → MarksBy call (abandons {T = T} s test seat).reply (abandons {T = T} s test seat).dones
abandons_mark s test call None = tt
abandons_mark s test call (Some c) = tt

hears_mark : {T : Type 0} (s : Service) (test : Seat → Bool) (call : Call T) (part : Part T) (seat : Option Seat) → MarksBy call (hears s test part seat).reply (hears s test part seat).dones
hears_mark s test call part None = tt
hears_mark s test call part (Some c) = tt

loses_mark : {T : Type 0} (s : Service) (test : Seat → Bool) (call : Call T) (seat : Option Seat) → MarksBy call (loses {T = T} s test seat).reply (loses {T = T} s test seat).dones
loses_mark s test call None = tt
loses_mark s test call (Some c) = tt

step_marks : {T : Type 0} (s : Service) (call : Call T) → MarksBy call (step s call).reply (step s call).dones
step_marks {T} s Lease = lends_mark T s (find_by is_lendable s.seats) (free_idle s.seats)
step_marks {T} s (Resume ticket) = resumes_mark T s (has_ticket ticket) ticket (find_by (has_ticket ticket) s.seats)
step_marks s (Ask lease) = acts_mark s (Ask lease) (has_lease lease) line.Ask (line.Ask ∷ []) (find_by (has_lease lease) s.seats)
step_marks s (Put lease count) = acts_mark s (Put lease count) (has_lease lease) (line.Send false) (packets count) (find_by (has_lease lease) s.seats)
step_marks s (Finish lease count) = acts_mark s (Finish lease count) (has_lease lease) (line.Send true) (packets count ++ line.Send true ∷ []) (find_by (has_lease lease) s.seats)
step_marks s (Cancel lease) = acts_mark s (Cancel lease) (has_lease lease) line.Cancel (line.Cancel ∷ []) (find_by (has_lease lease) s.seats)
step_marks s (GiveBack lease) = back_mark s (has_lease lease) (GiveBack lease) (find_by (has_lease lease) s.seats)
step_marks {T} s (Clean number) = cleans_mark T s (has_number number) number (find_by (has_number number) s.seats)
step_marks s (Cleaned lease) = cleaned_mark s (has_lease lease) (Cleaned lease) (find_by (has_lease lease) s.seats)
step_marks s (Keep lease) = keeps_mark s (has_lease lease) (Keep lease) (find_by (has_lease lease) s.seats)
step_marks s (Abandon ticket) = abandons_mark s (has_ticket ticket) (Abandon ticket) (find_by (has_ticket ticket) s.seats)
step_marks s (Came number part) = hears_mark s (has_number number) (Came number part) part (find_by (has_number number) s.seats)
step_marks s (Lost number) = loses_mark s (has_number number) (Lost number) (find_by (has_number number) s.seats)
step_marks s (Without call) = tt

all_mark : {T : Type 0} (s : Service) (calls : List (Call T)) → MarksReused calls (steps s calls)
all_mark s [] = tt
all_mark s (call ∷ calls) = (step_marks s call, all_mark (step s call).service calls)

pub marks_reused : {T : Type 0} (max : ℕ) (calls : List (Call T)) → MarksReused calls (steps (new_service max) calls)
marks_reused max calls = all_mark (new_service max) calls
