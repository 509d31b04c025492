-- A connection that is lent again is idle.
use Rattle.std.proofs.Common.{◌≡◌, ◌∙◌, ◌==◌, ℕ, suc, Bool, true, false, List, [], ◌∷◌, ◌++◌, length, refl, sym, ap, subst, append_assoc}
use Rattle.std.specs.Prelude.{Option, Some, None, nat_lt, if◌then◌else◌}
use Rattle.tds_packet.specs.declared.status.Reset.{Reset}
use Rattle.tds_client.specs.declared.fault.ClientRefusal.{ClientRefusal}
use Rattle.tds_service.specs.Parts.{Part}
use Rattle.tds_service.specs.Line as lines
use Rattle.tds_service.specs.Line.{Line, LineStage, Idle, Sending, Reading, Cancelling, Broken, Act, line_turn, marks}
use Rattle.tds_service.specs.Refusing.{packets, refusal_in}
use Rattle.tds_service.specs.History.{Done, acts_of, done_by, history, line_after}
use Rattle.tds_service.specs.Lending.{MarksBy, MarksReused, marking, reset_of}
use Rattle.tds_service.specs.Service.{Place, Seat, Service, Call, Lease, Resume, Ask, Put, Finish, Cancel, GiveBack, Clean, Cleaned, Keep, Abandon, Came, Lost, Without, Reply, NotNow, Lent, Ticket, ServiceStep, acts, acts_unless, abandons, clean_place, cleaned, cleans, find_by, gives_back, has_lease, has_number, has_ticket, hears, is_idle, is_lendable, keeps_it, lends, loses, may_keep, nothing, on, on_one, opens, rests_cleaned, resumes, service_after, step, steps}
use Rattle.laws_conforming_server.proofs.Past.{same}

-- ---- Which connection it is

abbrev pub OnIt : {T : Type 0} → ℕ → ℕ → ServiceStep T → Type 0
OnIt lease n t = t.reply ≡ Lent lease n true → t.number ≡ n

opens_on : (T : Type 0) (lease n : ℕ) (s : Service) (b : Bool) → OnIt lease n (opens {T = T} s b)
opens_on T lease n s true e = let x : ⊥ = cc in absurd x
opens_on T lease n s false e = let x : ⊥ = cc in absurd x

lends_on : (T : Type 0) (lease n : ℕ) (s : Service) (found : Option Seat) → OnIt lease n (lends {T = T} s found)
lends_on T lease n s None e = opens_on T lease n s (nat_lt (length s.seats) s.max) e
lends_on T lease n s (Some c) e = cc

abbrev pub lent_if : {T : Type 0} → Bool → ServiceStep T → Service → ServiceStep T
lent_if b t s = if b then t else nothing s NotNow

if_on : {T : Type 0} (lease n : ℕ) (b : Bool) (t : ServiceStep T) (s : Service) → OnIt lease n t → OnIt lease n (lent_if b t s)
if_on lease n true t s o e = o e
if_on lease n false t s o e = let x : ⊥ = cc in absurd x

same_lent : (a b c n : ℕ) → Lent a b true ≡ Lent c n true → b ≡ n
same_lent a b c n e = cc

resumes_on : (T : Type 0) (lease n : ℕ) (s : Service) (test : Seat → Bool) (found : Option Seat) → OnIt lease n (resumes {T = T} s test found)
resumes_on T lease n s test None e = let x : ⊥ = cc in absurd x
resumes_on T lease n s test (Some c) e = if_on {T = T} lease n (is_idle c.line.stage) _ s (λ f. same_lent (suc s.given) c.number lease n f) e

cleans_on : (T : Type 0) (lease n : ℕ) (s : Service) (test : Seat → Bool) (found : Option Seat) → OnIt lease n (cleans {T = T} s test found)
cleans_on T lease n s test None e = let x : ⊥ = cc in absurd x
cleans_on T lease n s test (Some c) e = if_on {T = T} lease n (is_lendable c) _ s (λ f. same_lent (suc s.given) c.number lease n f) e

unless_on : {T : Type 0} (lease n : ℕ) (s : Service) (test : Seat → Bool) (c : Seat) (all : List (Act T)) (why : Option ClientRefusal) → OnIt lease n (acts_unless s test c all why)
unless_on lease n s test c all None e = let x : ⊥ = cc in absurd x
unless_on lease n s test c all (Some why) e = let x : ⊥ = cc in absurd x

acts_on : {T : Type 0} (lease n : ℕ) (s : Service) (test : Seat → Bool) (first : Act T) (all : List (Act T)) (found : Option Seat) → OnIt lease n (acts s test first all found)
acts_on lease n s test first all None e = let x : ⊥ = cc in absurd x
acts_on lease n s test first all (Some c) e = unless_on lease n s test c all (refusal_in (line_turn c.line first).answer) e

gives_on : (T : Type 0) (lease n : ℕ) (s : Service) (test : Seat → Bool) (found : Option Seat) → OnIt lease n (gives_back {T = T} s test found)
gives_on T lease n s test None e = let x : ⊥ = cc in absurd x
gives_on T lease n s test (Some c) e = let x : ⊥ = cc in absurd x

rests_on : (T : Type 0) (lease n : ℕ) (s : Service) (test : Seat → Bool) (c : Seat) (place : Option (Option Place)) → OnIt lease n (rests_cleaned {T = T} s test c place)
rests_on T lease n s test c None e = let x : ⊥ = cc in absurd x
rests_on T lease n s test c (Some place) e = let x : ⊥ = cc in absurd x

cleaned_on : (T : Type 0) (lease n : ℕ) (s : Service) (test : Seat → Bool) (found : Option Seat) → OnIt lease n (cleaned {T = T} s test found)
cleaned_on T lease n s test None e = let x : ⊥ = cc in absurd x
cleaned_on T lease n s test (Some c) e = rests_on T lease n s test c (clean_place c.place c.line) e

ticket_not : (a c n : ℕ) → Ticket a ≡ Lent c n true → ⊥
ticket_not a c n e = cc

keeps_on : (T : Type 0) (lease n : ℕ) (s : Service) (test : Seat → Bool) (found : Option Seat) → OnIt lease n (keeps_it {T = T} s test found)
keeps_on T lease n s test None e = let x : ⊥ = cc in absurd x
keeps_on T lease n s test (Some c) e = if_on {T = T} lease n (may_keep c) _ s (λ f. absurd (ticket_not (suc s.given) lease n f)) e

abandons_on : (T : Type 0) (lease n : ℕ) (s : Service) (test : Seat → Bool) (found : Option Seat) → OnIt lease n (abandons {T = T} s test found)
abandons_on T lease n s test None e = let x : ⊥ = cc in absurd x
abandons_on T lease n s test (Some c) e = let x : ⊥ = cc in absurd x

hears_on : {T : Type 0} (lease n : ℕ) (s : Service) (test : Seat → Bool) (part : Part T) (found : Option Seat) → OnIt lease n (hears {T = T} s test part found)
hears_on lease n s test part None e = let x : ⊥ = cc in absurd x
hears_on lease n s test part (Some c) e = let x : ⊥ = cc in absurd x

loses_on : (T : Type 0) (lease n : ℕ) (s : Service) (test : Seat → Bool) (found : Option Seat) → OnIt lease n (loses {T = T} s test found)
loses_on T lease n s test None e = let x : ⊥ = cc in absurd x
loses_on T lease n s test (Some c) e = let x : ⊥ = cc in absurd x

pub lent_on : {T : Type 0} (lease n : ℕ) (s : Service) (call : Call T) → OnIt lease n (step s call)
lent_on {T} lease n s Lease e = lends_on T lease n s (find_by is_lendable s.seats) e
lent_on {T} lease n s (Resume ticket) e = resumes_on T lease n s (has_ticket ticket) (find_by (has_ticket ticket) s.seats) e
lent_on lease n s (Ask other) e = acts_on lease n s (has_lease other) lines.Ask (lines.Ask ∷ []) (find_by (has_lease other) s.seats) e
lent_on lease n s (Put other count) e = acts_on lease n s (has_lease other) (lines.Send false) (packets count) (find_by (has_lease other) s.seats) e
lent_on lease n s (Finish other count) e = acts_on lease n s (has_lease other) (lines.Send true) (packets count ++ lines.Send true ∷ []) (find_by (has_lease other) s.seats) e
lent_on lease n s (Cancel other) e = acts_on lease n s (has_lease other) lines.Cancel (lines.Cancel ∷ []) (find_by (has_lease other) s.seats) e
lent_on {T} lease n s (GiveBack other) e = gives_on T lease n s (has_lease other) (find_by (has_lease other) s.seats) e
lent_on {T} lease n s (Clean number) e = cleans_on T lease n s (has_number number) (find_by (has_number number) s.seats) e
lent_on {T} lease n s (Cleaned other) e = cleaned_on T lease n s (has_lease other) (find_by (has_lease other) s.seats) e
lent_on {T} lease n s (Keep other) e = keeps_on T lease n s (has_lease other) (find_by (has_lease other) s.seats) e
lent_on {T} lease n s (Abandon ticket) e = abandons_on T lease n s (has_ticket ticket) (find_by (has_ticket ticket) s.seats) e
lent_on {T} lease n s (Came number part) e = hears_on {T = T} lease n s (has_number number) part (find_by (has_number number) s.seats) e
lent_on {T} lease n s (Lost number) e = loses_on T lease n s (has_number number) (find_by (has_number number) s.seats) e
lent_on lease n s (Without call) e = let x : ⊥ = cc in absurd x

-- ---- What was done there with it

marks_last : {T : Type 0} (s : Service) (before : List (Call T)) (call : Call T) → MarksReused (before ++ call ∷ []) (steps s (before ++ call ∷ []))
    → MarksBy call (step (service_after s before) call).reply (step (service_after s before) call).dones
marks_last s [] call m = m.0
marks_last s (first ∷ before) call m = marks_last (step s first).service before call m.1

one_behind : {T : Type 0} (b : Bool) (ds xs ys : List (Done T)) → on_one b ds (xs ++ ys) ≡ on_one b ds xs ++ ys
one_behind true ds xs ys = sym (append_assoc ds xs ys)
one_behind false ds xs ys = refl

on_last : {T : Type 0} (n : ℕ) (s : Service) (before : List (Call T)) (call : Call T)
    → on n (steps s (before ++ call ∷ [])) ≡ on n (steps s before) ++ on n (step (service_after s before) call ∷ [])
on_last n s [] call = refl
on_last {T} n s (first ∷ before) call =
    ap (λ (ds : List (Done T)). on_one ((step s first).number == n) (step s first).dones ds) (on_last n (step s first).service before call)
    ∙ one_behind ((step s first).number == n) (step s first).dones (on n (steps (step s first).service before)) (on n (step (service_after (step s first).service before) call ∷ []))

last_alone : {T : Type 0} (l : Line) (ds : List (Done T)) (d : Done T) → ds ++ d ∷ [] ≡ history l (acts_of (ds ++ d ∷ []))
    → d ≡ done_by d.act (line_turn (line_after l (acts_of ds)) d.act)
last_alone l [] d e = cc
last_alone {T} l (x ∷ ds) d e =
    let f : ds ++ d ∷ [] ≡ history (line_turn l x.act).line (acts_of (ds ++ d ∷ [])) = cc in
    last_alone (line_turn l x.act).line ds d f

marked_idle : (T : Type 0) (l : Line) (reset : Reset) (stage : LineStage) → lines.Marked ≡ (marks {T = T} l reset stage).answer → stage ≡ Idle
marked_idle T l reset Idle e = refl
marked_idle T l reset (Sending begun) e = let x : ⊥ = cc in absurd x
marked_idle T l reset Reading e = let x : ⊥ = cc in absurd x
marked_idle T l reset Cancelling e = let x : ⊥ = cc in absurd x
marked_idle T l reset (Broken fault) e = let x : ⊥ = cc in absurd x

-- It is idle behind what was done before.
pub lent_idle : {T : Type 0} (l : Line) (s : Service) (before : List (Call T)) (call : Call T) (lease n : ℕ)
    → MarksReused (before ++ call ∷ []) (steps s (before ++ call ∷ []))
    → on n (steps s (before ++ call ∷ [])) ≡ history l (acts_of (on n (steps s (before ++ call ∷ []))))
    → (step (service_after s before) call).reply ≡ Lent lease n true
    → (line_after l (acts_of (on n (steps s before)))).stage ≡ Idle
lent_idle {T} l s before call lease n m a e =
    let t : ServiceStep T = step (service_after s before) call in
    let ds : List (Done T) = on n (steps s before) in
    let d : t.dones ≡ marking (reset_of call) ∷ [] =
    subst (λ (r : Reply). MarksBy call r t.dones) e (marks_last s before call m) in
    let k : t.number ≡ n = lent_on lease n (service_after s before) call e in
    let h : on n (t ∷ []) ≡ marking (reset_of call) ∷ [] =
    ap (λ (b : Bool). on_one b t.dones []) (ap (λ (x : ℕ). x == n) k ∙ same n) ∙ ap (λ (xs : List (Done T)). xs ++ []) d in
    let w : on n (steps s (before ++ call ∷ [])) ≡ ds ++ marking (reset_of call) ∷ [] =
    on_last n s before call ∙ ap (λ (xs : List (Done T)). ds ++ xs) h in
    let x : ds ++ marking (reset_of call) ∷ [] ≡ history l (acts_of (ds ++ marking (reset_of call) ∷ [])) =
    sym w ∙ a ∙ ap (λ (xs : List (Done T)). history l (acts_of xs)) w in
    let y : lines.Marked ≡ (marks {T = T} (line_after l (acts_of ds)) (reset_of call) (line_after l (acts_of ds)).stage).answer =
    ap (λ (z : Done T). z.answer) (last_alone l ds (marking (reset_of call)) x) in
    marked_idle T (line_after l (acts_of ds)) (reset_of call) (line_after l (acts_of ds)).stage y
