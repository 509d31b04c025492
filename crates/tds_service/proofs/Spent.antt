-- The numbers of leases and tickets rise, and one that is unknown stays so.
use Rattle.std.proofs.Common.{subst, ◌≡◌, ◌∙◌, ◌<◌, ◌≤◌, ◌==◌, ◌&&◌, ℕ, suc, Bool, true, false, List, [], ◌∷◌, ◌++◌, length, refl, sym, ap, arith}
use Rattle.std.proofs.lemmas.Bool.Decides.{nat_tests}
use Rattle.std.specs.Prelude.{Option, Some, None, nat_lt, if◌then◌else◌}
use Rattle.tds_packet.specs.declared.status.Reset.TheVariants.{Full, KeepTransaction}
use Rattle.tds_service.specs.Parts.{Part}
use Rattle.tds_service.specs.Line.{Line, Act, LineStage, new_line}
use Rattle.tds_service.specs.Line as line
use Rattle.tds_client.specs.declared.fault.ClientRefusal.{ClientRefusal}
use Rattle.tds_service.specs.Refusing.{packets, refusal_in}
use Rattle.tds_service.specs.History.{line_after}
use Rattle.tds_service.specs.Lending.{IsWith, IsWithTicket, leased, nothing_known_of}
use Rattle.tds_service.specs.Service.{Place, Leased, Cleaning, No, NoMemory, acts_unless, cleans, cleaned, clean_place, rests_cleaned, rests_clean, is_clean, Kept, Free, Draining, Seat, Service, Call, Lease, Resume, Ask, Put, Finish, Cancel, GiveBack, Clean, Cleaned, Keep, Abandon, Came, Lost, Without, Reply, Unknown, NotNow, AllInUse, Lent, Ticket, Did, Back, ServiceStep, nothing, find_by, change_by, has_lease, has_ticket, has_number, is_lendable, holds, keeps, placed, does, rests, drained, is_idle, is_open, acts, opens, lends, resumes, gives_back, keeps_it, abandons, hears, loses, step, service_after}
use Rattle.tds_service.proofs.Tests.{below}

-- ---- Whose a connection is

-- A lease or a ticket owns no connection that is free or drains, and the number that is given next owns none yet.
pub record Owns (own : ℕ → Place → Bool) : Type 0 where
  pub free : (a : ℕ) → own a Free ≡ false
  pub draining : (a : ℕ) → own a Draining ≡ false
  pub leased : (a given : ℕ) → a ≤ given → own a (Leased (suc given)) ≡ false
  pub cleaning : (a given : ℕ) → a ≤ given → own a (Cleaning (suc given)) ≡ false
  pub kept : (a given : ℕ) → a ≤ given → own a (Kept (suc given)) ≡ false

not_next : (a given : ℕ) → a ≤ given → (suc given == a) ≡ false
not_next a given lt = below (suc given) a (omega (arith, lt))

leases : Owns holds
leases = record {
  free = λ a. refl;
  draining = λ a. refl;
  leased = λ a given lt. not_next a given lt;
  cleaning = λ a given lt. not_next a given lt;
  kept = λ a given lt. refl;
}

tickets : Owns keeps
tickets = record {
  free = λ a. refl;
  draining = λ a. refl;
  leased = λ a given lt. refl;
  cleaning = λ a given lt. refl;
  kept = λ a given lt. not_next a given lt;
}

abbrev owned : (ℕ → Place → Bool) → ℕ → Seat → Bool
owned own a c = own a c.place

-- The number that a reply gives.
abbrev gives : Reply → Option ℕ
gives Unknown = None
gives AllInUse = None
gives NotNow = None
gives (No why) = None
gives NoMemory = None
gives (Lent lease number had) = Some lease
gives (Ticket ticket) = Some ticket
gives Did = None
gives (Back place) = None

-- What a call keeps of an owner's number, and which number it gives.
pub record Keeps {T : Type 0} (own : ℕ → Place → Bool) (a : ℕ) (s : Service) (t : ServiceStep T) : Type 0 where
  pub rises : s.given ≤ t.service.given
  pub spent : a ≤ s.given → find_by (owned own a) s.seats ≡ None → find_by (owned own a) t.service.seats ≡ None
  pub fresh : (n : ℕ) → gives t.reply ≡ Some n → (s.given < n) × (n ≤ t.service.given)

module _ (own : ℕ → Place → Bool) (o : Owns own) where
  -- ---- What isn't found

  abbrev IsOther : ℕ → Option Place → Type 0
  IsOther a None = Unit {0}
  IsOther a (Some place) = own a place ≡ false

  none_of : (a : ℕ) (d : Seat) (ds : List Seat) (b : Bool) → own a d.place ≡ b → (if b then Some d else find_by (owned own a) ds) ≡ None
      → (own a d.place ≡ false) × (find_by (owned own a) ds ≡ None)
  none_of a d ds true e h = absurd (let u : ⊥ = cc in u)
  none_of a d ds false e h = (e, h)

  found_other_by : (a : ℕ) (test : Seat → Bool) (c d : Seat) (ds : List Seat) (t : Bool) → (if t then Some d else find_by test ds) ≡ Some c → own a d.place ≡ false
      → (find_by test ds ≡ Some c → own a c.place ≡ false) → own a c.place ≡ false
  found_other_by a test c d ds true e h ih = let same : d ≡ c = cc in ap (λ (x : Seat). own a x.place) (sym same) ∙ h
  found_other_by a test c d ds false e h ih = ih e

  -- a connection that is found isn't this lease's, where none is
  found_other : (a : ℕ) (test : Seat → Bool) (c : Seat) (cs : List Seat) → find_by test cs ≡ Some c → find_by (owned own a) cs ≡ None → own a c.place ≡ false
  found_other a test c [] e h = absurd (let u : ⊥ = cc in u)
  found_other a test c (d ∷ ds) e h =
      let n = none_of a d ds (own a d.place) refl h in
      found_other_by a test c d ds (test d) e n.0 (λ f. found_other a test c ds f n.1)

  placed_gone : (a n : ℕ) (place : Option Place) (l : Line) (cs : List Seat) → find_by (owned own a) cs ≡ None → IsOther a place → find_by (owned own a) (placed n place l cs) ≡ None
  placed_gone a n None l cs h other = h
  placed_gone a n (Some place) l cs h other = rw other h

  changed_gone_by : (a : ℕ) (test : Seat → Bool) (place : Option Place) (l : Line) (c : Seat) (cs : List Seat) (t : Bool) → own a c.place ≡ false → find_by (owned own a) cs ≡ None
      → IsOther a place → find_by (owned own a) (change_by test place l cs) ≡ None
      → find_by (owned own a) (if t then placed c.number place l cs else c ∷ change_by test place l cs) ≡ None
  changed_gone_by a test place l c cs true e h other ih = placed_gone a c.number place l cs h other
  changed_gone_by a test place l c cs false e h other ih = rw e ih

  changed_gone : (a : ℕ) (test : Seat → Bool) (place : Option Place) (l : Line) (cs : List Seat) → find_by (owned own a) cs ≡ None → IsOther a place
      → find_by (owned own a) (change_by test place l cs) ≡ None
  changed_gone a test place l [] h other = refl
  changed_gone a test place l (c ∷ cs) h other =
      let n = none_of a c cs (own a c.place) refl h in
      changed_gone_by a test place l c cs (test c) n.0 n.1 other (changed_gone a test place l cs n.1 other)

  added_gone : (a : ℕ) (d : Seat) (cs : List Seat) → find_by (owned own a) cs ≡ None → own a d.place ≡ false → find_by (owned own a) (cs ++ d ∷ []) ≡ None
  added_gone a d [] h e = rw e refl
  added_gone a d (c ∷ cs) h e =
      let n = none_of a c cs (own a c.place) refl h in
      rw n.0 (added_gone a d cs n.1 e)

  abbrev IsFresh : ℕ → ℕ → Reply → Type 0
  IsFresh before given reply = (n : ℕ) → gives reply ≡ Some n → (before < n) × (n ≤ given)

  nothing_keeps : {T : Type 0} (a : ℕ) (s : Service) (reply : Reply) → IsFresh s.given s.given reply → Keeps {T = T} own a s (nothing s reply)
  nothing_keeps a s reply fresh = record { rises = omega arith; spent = λ lt h. h; fresh = fresh }

  does_keeps : {T : Type 0} (a : ℕ) (s : Service) (given : ℕ) (test : Seat → Bool) (c : Seat) (place : Option Place) (done : List (Act T)) (reply : Reply) → s.given ≤ given
      → (a ≤ s.given → find_by (owned own a) s.seats ≡ None → IsOther a place) → IsFresh s.given given reply → Keeps own a s (does s given test c place done reply)
  does_keeps a s given test c place done reply up other fresh =
      record { rises = up; spent = λ lt h. changed_gone a test place (line_after c.line done) s.seats h (other lt h); fresh = fresh }

  next_fresh : (given : ℕ) (reply : Reply) → gives reply ≡ Some (suc given) → IsFresh given (suc given) reply
  next_fresh given reply is n e = let same : suc given ≡ n = cc in (omega (arith, same), omega (arith, same))

  none_given : (before given : ℕ) (reply : Reply) → gives reply ≡ None → IsFresh before given reply
  none_given before given reply is n e = absurd (let u : ⊥ = cc in u)

  rests_other : (a : ℕ) (stage : LineStage) → IsOther a (rests stage)
  rests_other a line.Idle = o.free a
  rests_other a (line.Sending begun) = o.draining a
  rests_other a line.Reading = o.draining a
  rests_other a line.Cancelling = o.draining a
  rests_other a (line.Broken fault) = tt

  drains_other : (a : ℕ) (b : Bool) → own a (if b then Free else Draining) ≡ false
  drains_other a true = o.free a
  drains_other a false = o.draining a

  drained_other : (a : ℕ) (place : Place) (stage : LineStage) → own a place ≡ false → own a (drained place stage) ≡ false
  drained_other a (Leased lease) stage e = e
  drained_other a (Cleaning lease) stage e = e
  drained_other a (Kept ticket) stage e = e
  drained_other a Free stage e = e
  drained_other a Draining stage e = drains_other a (is_idle stage)

  unknown : {T : Type 0} (a : ℕ) (s : Service) → Keeps {T = T} own a s (nothing s Unknown)
  unknown a s = nothing_keeps a s Unknown (none_given s.given s.given Unknown refl)

  not_now : {T : Type 0} (a : ℕ) (s : Service) → Keeps {T = T} own a s (nothing s NotNow)
  not_now a s = nothing_keeps a s NotNow (none_given s.given s.given NotNow refl)

  -- ---- Each call

  unless_keeps : {T : Type 0} (a : ℕ) (s : Service) (test : Seat → Bool) (c : Seat) (all : List (Act T)) (why : Option ClientRefusal) → find_by test s.seats ≡ Some c
      → Keeps own a s (acts_unless s test c all why)
  unless_keeps a s test c all None e =
      does_keeps a s s.given test c (Some c.place) all Did (omega arith) (λ lt h. found_other a test c s.seats e h) (none_given s.given s.given Did refl)
  unless_keeps a s test c all (Some why) e = nothing_keeps a s (No why) (none_given s.given s.given (No why) refl)

  acts_keep : {T : Type 0} (a : ℕ) (s : Service) (test : Seat → Bool) (first : Act T) (all : List (Act T)) (seat : Option Seat) → find_by test s.seats ≡ seat
      → Keeps own a s (acts s test first all seat)
  acts_keep a s test first all None e = unknown a s
  acts_keep a s test first all (Some c) e = unless_keeps a s test c all (refusal_in (line.line_turn c.line first).answer) e

  cleans_by : {T : Type 0} (a : ℕ) (s : Service) (test : Seat → Bool) (c : Seat) (may : Bool)
      → Keeps {T = T} own a s (if may
      then does s (suc s.given) test c (Some (Cleaning (suc s.given))) (line.Mark Full ∷ []) (Lent (suc s.given) c.number true)
      else nothing s NotNow)
  cleans_by a s test c true =
      does_keeps a s (suc s.given) test c (Some (Cleaning (suc s.given))) (line.Mark Full ∷ []) (Lent (suc s.given) c.number true) (omega arith) (λ lt h. o.cleaning a s.given lt)
      (next_fresh s.given (Lent (suc s.given) c.number true) refl)
  cleans_by a s test c false = not_now a s

  cleans_keep : {T : Type 0} (a : ℕ) (s : Service) (test : Seat → Bool) (seat : Option Seat) → Keeps {T = T} own a s (cleans s test seat)
  cleans_keep a s test None = unknown a s
  cleans_keep a s test (Some c) = cleans_by a s test c (is_lendable c)

  clean_other : (a : ℕ) (clean : Bool) → IsOther a (if clean then Some Free else None)
  clean_other a true = o.free a
  clean_other a false = tt

  abbrev OtherIn : ℕ → Option (Option Place) → Type 0
  OtherIn a None = Unit {0}
  OtherIn a (Some place) = IsOther a place

  rests_clean_other : (a : ℕ) (clean : Bool) (stage : LineStage) → OtherIn a (rests_clean clean stage)
  rests_clean_other a clean line.Idle = clean_other a clean
  rests_clean_other a clean (line.Sending begun) = tt
  rests_clean_other a clean line.Reading = tt
  rests_clean_other a clean line.Cancelling = tt
  rests_clean_other a clean (line.Broken fault) = tt

  rests_keep : {T : Type 0} (a : ℕ) (s : Service) (test : Seat → Bool) (c : Seat) (place : Option (Option Place)) → OtherIn a place → Keeps {T = T} own a s (rests_cleaned s test c place)
  rests_keep a s test c None other = not_now a s
  rests_keep a s test c (Some place) other =
      does_keeps a s s.given test c place [] (Back place) (omega arith) (λ lt h. other) (none_given s.given s.given (Back place) refl)

  clean_place_other : (a : ℕ) (place : Place) (l : Line) → OtherIn a (clean_place place l)
  clean_place_other a (Leased lease) l = tt
  clean_place_other a (Cleaning lease) l = rests_clean_other a (is_clean l.heard.mark l.heard.descriptor) l.stage
  clean_place_other a (Kept ticket) l = tt
  clean_place_other a Free l = tt
  clean_place_other a Draining l = tt

  cleaned_keep : {T : Type 0} (a : ℕ) (s : Service) (test : Seat → Bool) (seat : Option Seat) → Keeps {T = T} own a s (cleaned s test seat)
  cleaned_keep a s test None = unknown a s
  cleaned_keep a s test (Some c) = rests_keep a s test c (clean_place c.place c.line) (clean_place_other a c.place c.line)

  opens_keep : {T : Type 0} (a : ℕ) (s : Service) (room : Bool) → Keeps {T = T} own a s (opens s room)
  opens_keep a s false = nothing_keeps a s AllInUse (none_given s.given s.given AllInUse refl)
  opens_keep a s true = record {
    rises = omega arith;
    spent = λ lt h. added_gone a (record { number = suc s.last; place = Leased (suc s.given); line = new_line }) s.seats h (o.leased a s.given lt);
    fresh = next_fresh s.given (Lent (suc s.given) (suc s.last) false) refl;
  }

  lends_keep : {T : Type 0} (a : ℕ) (s : Service) (seat : Option Seat) → Keeps {T = T} own a s (lends s seat)
  lends_keep a s None = opens_keep a s (nat_lt (length s.seats) s.max)
  lends_keep a s (Some c) =
      does_keeps a s (suc s.given) is_lendable c (Some (Leased (suc s.given))) (line.Mark Full ∷ []) (Lent (suc s.given) c.number true) (omega arith) (λ lt h. o.leased a s.given lt)
      (next_fresh s.given (Lent (suc s.given) c.number true) refl)

  resumes_by : {T : Type 0} (a : ℕ) (s : Service) (test : Seat → Bool) (c : Seat) (idle : Bool)
      → Keeps {T = T} own a s (if idle
      then does s (suc s.given) test c (Some (Leased (suc s.given))) (line.Mark KeepTransaction ∷ []) (Lent (suc s.given) c.number true)
      else nothing s NotNow)
  resumes_by a s test c true =
      does_keeps a s (suc s.given) test c (Some (Leased (suc s.given))) (line.Mark KeepTransaction ∷ []) (Lent (suc s.given) c.number true) (omega arith) (λ lt h. o.leased a s.given lt)
      (next_fresh s.given (Lent (suc s.given) c.number true) refl)
  resumes_by a s test c false = not_now a s

  resumes_keep : {T : Type 0} (a : ℕ) (s : Service) (test : Seat → Bool) (seat : Option Seat) → Keeps {T = T} own a s (resumes s test seat)
  resumes_keep a s test None = unknown a s
  resumes_keep a s test (Some c) = resumes_by a s test c (is_idle c.line.stage)

  gives_keep : (T : Type 0) (a : ℕ) (s : Service) (test : Seat → Bool) (seat : Option Seat) → Keeps {T = T} own a s (gives_back s test seat)
  gives_keep T a s test None = unknown a s
  gives_keep T a s test (Some c) =
      let place = rests (line_after {T = T} c.line (line.Cancel ∷ [])).stage in
      does_keeps a s s.given test c place (line.Cancel ∷ []) (Back place) (omega arith) (λ lt h. rests_other a (line_after {T = T} c.line (line.Cancel ∷ [])).stage)
      (none_given s.given s.given (Back place) refl)

  keeps_by : {T : Type 0} (a : ℕ) (s : Service) (test : Seat → Bool) (c : Seat) (may : Bool)
      → Keeps {T = T} own a s (if may then does s (suc s.given) test c (Some (Kept (suc s.given))) [] (Ticket (suc s.given)) else nothing s NotNow)
  keeps_by a s test c true =
      does_keeps a s (suc s.given) test c (Some (Kept (suc s.given))) [] (Ticket (suc s.given)) (omega arith) (λ lt h. o.kept a s.given lt)
      (next_fresh s.given (Ticket (suc s.given)) refl)
  keeps_by a s test c false = not_now a s

  keeps_keep : {T : Type 0} (a : ℕ) (s : Service) (test : Seat → Bool) (seat : Option Seat) → Keeps {T = T} own a s (keeps_it s test seat)
  keeps_keep a s test None = unknown a s
  keeps_keep a s test (Some c) = keeps_by a s test c (is_idle c.line.stage && is_open c.line.heard.mark c.line.heard.descriptor)

  abandons_keep : {T : Type 0} (a : ℕ) (s : Service) (test : Seat → Bool) (seat : Option Seat) → Keeps {T = T} own a s (abandons s test seat)
  abandons_keep a s test None = unknown a s
  abandons_keep a s test (Some c) =
      does_keeps a s s.given test c (rests c.line.stage) [] (Back (rests c.line.stage)) (omega arith) (λ lt h. rests_other a c.line.stage)
      (none_given s.given s.given (Back (rests c.line.stage)) refl)

  hears_keep : {T : Type 0} (a : ℕ) (s : Service) (test : Seat → Bool) (part : Part T) (seat : Option Seat) → find_by test s.seats ≡ seat → Keeps own a s (hears s test part seat)
  hears_keep a s test part None e = unknown a s
  hears_keep a s test part (Some c) e =
      let stage = (line_after c.line (line.Come part ∷ [])).stage in
      does_keeps a s s.given test c (Some (drained c.place stage)) (line.Come part ∷ []) Did (omega arith) (λ lt h. drained_other a c.place stage (found_other a test c s.seats e h))
      (none_given s.given s.given Did refl)

  loses_keep : {T : Type 0} (a : ℕ) (s : Service) (test : Seat → Bool) (seat : Option Seat) → Keeps {T = T} own a s (loses s test seat)
  loses_keep a s test None = unknown a s
  loses_keep a s test (Some c) = does_keeps a s s.given test c None (line.Lose ∷ []) (Back None) (omega arith) (λ lt h. tt) (none_given s.given s.given (Back None) refl)

  pub step_keeps : {T : Type 0} (a : ℕ) (s : Service) (call : Call T) → Keeps own a s (step s call)
  step_keeps a s Lease = lends_keep a s (find_by is_lendable s.seats)
  step_keeps a s (Resume ticket) = resumes_keep a s (has_ticket ticket) (find_by (has_ticket ticket) s.seats)
  step_keeps a s (Ask lease) = acts_keep a s (has_lease lease) line.Ask (line.Ask ∷ []) (find_by (has_lease lease) s.seats) refl
  step_keeps a s (Put lease count) = acts_keep a s (has_lease lease) (line.Send false) (packets count) (find_by (has_lease lease) s.seats) refl
  step_keeps a s (Finish lease count) = acts_keep a s (has_lease lease) (line.Send true) (packets count ++ line.Send true ∷ []) (find_by (has_lease lease) s.seats) refl
  step_keeps a s (Cancel lease) = acts_keep a s (has_lease lease) line.Cancel (line.Cancel ∷ []) (find_by (has_lease lease) s.seats) refl
  step_keeps {T} a s (GiveBack lease) = gives_keep T a s (has_lease lease) (find_by (has_lease lease) s.seats)
  step_keeps a s (Clean number) = cleans_keep a s (has_number number) (find_by (has_number number) s.seats)
  step_keeps a s (Cleaned lease) = cleaned_keep a s (has_lease lease) (find_by (has_lease lease) s.seats)
  step_keeps a s (Keep lease) = keeps_keep a s (has_lease lease) (find_by (has_lease lease) s.seats)
  step_keeps a s (Abandon ticket) = abandons_keep a s (has_ticket ticket) (find_by (has_ticket ticket) s.seats)
  step_keeps a s (Came number part) = hears_keep a s (has_number number) part (find_by (has_number number) s.seats) refl
  step_keeps a s (Lost number) = loses_keep a s (has_number number) (find_by (has_number number) s.seats)
  step_keeps a s (Without call) = nothing_keeps a s NoMemory (none_given s.given s.given NoMemory refl)

-- ---- All calls

pub fresh : {T : Type 0} (s : Service) (call : Call T) (lease number : ℕ) (had : Bool) → (step s call).reply ≡ Lent lease number had
    → (s.given < lease) × (lease ≤ (step s call).service.given)
fresh s call lease number had e = (step_keeps holds leases 0 s call).fresh lease (ap gives e)

pub ticket_fresh : {T : Type 0} (s : Service) (call : Call T) (ticket : ℕ) → (step s call).reply ≡ Ticket ticket → (s.given < ticket) × (ticket ≤ (step s call).service.given)
ticket_fresh s call ticket e = (step_keeps holds leases 0 s call).fresh ticket (ap gives e)

pub rises : {T : Type 0} (s : Service) (calls : List (Call T)) → s.given ≤ (service_after s calls).given
rises s [] = omega arith
rises s (call ∷ calls) =
    let one = (step_keeps holds leases 0 s call).rises in
    let more = rises (step s call).service calls in
    omega (arith, one, more)

spent_by : {T : Type 0} (own : ℕ → Place → Bool) (o : Owns own) (s : Service) (calls : List (Call T)) (a : ℕ) → a ≤ s.given → find_by (owned own a) s.seats ≡ None
    → find_by (owned own a) (service_after s calls).seats ≡ None
spent_by own o s [] a lt h = h
spent_by own o s (call ∷ calls) a lt h =
    let k = step_keeps own o a s call in
    let up = k.rises in
    spent_by own o (step s call).service calls a (omega (arith, lt, up)) (k.spent lt h)

pub spent : {T : Type 0} (s : Service) (calls : List (Call T)) (a : ℕ) → a ≤ s.given → find_by (has_lease a) s.seats ≡ None
    → find_by (has_lease a) (service_after s calls).seats ≡ None
spent s calls a lt h = spent_by holds leases s calls a lt h

pub ticket_spent : {T : Type 0} (s : Service) (calls : List (Call T)) (a : ℕ) → a ≤ s.given → find_by (has_ticket a) s.seats ≡ None
    → find_by (has_ticket a) (service_after s calls).seats ≡ None
ticket_spent s calls a lt h = spent_by keeps tickets s calls a lt h

-- ---- A call with a lease or a ticket that isn't known

none_as : (s : Service) (a b : ℕ) → b ≡ a → find_by (has_lease a) s.seats ≡ None → find_by (has_lease b) s.seats ≡ None
none_as s a b is h = subst (λ (k : ℕ). find_by (has_lease k) s.seats ≡ None) (sym is) h

pub with_unknown : (T : Type 0) (s : Service) (call : Call T) (lease : ℕ) → IsWith lease call → find_by (has_lease lease) s.seats ≡ None → step s call ≡ nothing_known_of T s
with_unknown T s Lease lease is h = absurd is
with_unknown T s (Resume ticket) lease is h = absurd is
with_unknown T s (Ask other) lease is h = ap (acts {T = T} s (has_lease other) line.Ask (line.Ask ∷ [])) (none_as s lease other is h)
with_unknown T s (Put other count) lease is h = ap (acts {T = T} s (has_lease other) (line.Send false) (packets count)) (none_as s lease other is h)
with_unknown T s (Finish other count) lease is h = ap (acts {T = T} s (has_lease other) (line.Send true) (packets count ++ line.Send true ∷ [])) (none_as s lease other is h)
with_unknown T s (Cancel other) lease is h = ap (acts {T = T} s (has_lease other) line.Cancel (line.Cancel ∷ [])) (none_as s lease other is h)
with_unknown T s (Clean number) lease is h = absurd is
with_unknown T s (Cleaned other) lease is h = ap (cleaned {T = T} s (has_lease other)) (none_as s lease other is h)
with_unknown T s (Without call) lease is h = absurd is
with_unknown T s (GiveBack other) lease is h = ap (gives_back {T = T} s (has_lease other)) (none_as s lease other is h)
with_unknown T s (Keep other) lease is h = ap (keeps_it {T = T} s (has_lease other)) (none_as s lease other is h)
with_unknown T s (Abandon ticket) lease is h = absurd is
with_unknown T s (Came number part) lease is h = absurd is
with_unknown T s (Lost number) lease is h = absurd is

no_ticket : (s : Service) (a b : ℕ) → b ≡ a → find_by (has_ticket a) s.seats ≡ None → find_by (has_ticket b) s.seats ≡ None
no_ticket s a b is h = subst (λ (k : ℕ). find_by (has_ticket k) s.seats ≡ None) (sym is) h

pub with_no_ticket : (T : Type 0) (s : Service) (call : Call T) (ticket : ℕ) → IsWithTicket ticket call → find_by (has_ticket ticket) s.seats ≡ None → step s call ≡ nothing_known_of T s
with_no_ticket T s Lease ticket is h = absurd is
with_no_ticket T s (Resume other) ticket is h = ap (resumes {T = T} s (has_ticket other)) (no_ticket s ticket other is h)
with_no_ticket T s (Ask lease) ticket is h = absurd is
with_no_ticket T s (Put lease count) ticket is h = absurd is
with_no_ticket T s (Finish lease count) ticket is h = absurd is
with_no_ticket T s (Cancel lease) ticket is h = absurd is
with_no_ticket T s (GiveBack lease) ticket is h = absurd is
with_no_ticket T s (Clean number) ticket is h = absurd is
with_no_ticket T s (Cleaned lease) ticket is h = absurd is
with_no_ticket T s (Keep lease) ticket is h = absurd is
with_no_ticket T s (Abandon other) ticket is h = ap (abandons {T = T} s (has_ticket other)) (no_ticket s ticket other is h)
with_no_ticket T s (Came number part) ticket is h = absurd is
with_no_ticket T s (Lost number) ticket is h = absurd is
with_no_ticket T s (Without call) ticket is h = absurd is

-- ---- Whether a lease is refused

refused_by : (T : Type 0) (s : Service) (b : Bool) → nat_lt (length s.seats) s.max ≡ b → (opens {T = T} s b).reply ≡ AllInUse → s.max ≤ length s.seats
refused_by T s true e h = absurd (let u : ⊥ = cc in u)
refused_by T s false e h = grind (arith, nat_tests)

refused_at : (T : Type 0) (s : Service) (seat : Option Seat) → (lends {T = T} s seat).reply ≡ AllInUse → (seat ≡ None) × (s.max ≤ length s.seats)
refused_at T s (Some c) h = absurd (let u : ⊥ = cc in u)
refused_at T s None h = (refl, refused_by T s (nat_lt (length s.seats) s.max) refl h)

pub refused : (T : Type 0) (s : Service) → leased T s ≡ AllInUse → (find_by is_lendable s.seats ≡ None) × (s.max ≤ length s.seats)
refused T s h = refused_at T s (find_by is_lendable s.seats) h

full : (s : Service) → s.max ≤ length s.seats → nat_lt (length s.seats) s.max ≡ false
full s h = grind (arith, nat_tests)

only_at : (T : Type 0) (s : Service) (seat : Option Seat) → seat ≡ None → s.max ≤ length s.seats → (lends {T = T} s seat).reply ≡ AllInUse
only_at T s (Some c) e h = absurd (let u : ⊥ = cc in u)
only_at T s None e h = ap (λ (b : Bool). (opens {T = T} s b).reply) (full s h)

pub only : (T : Type 0) (s : Service) → find_by is_lendable s.seats ≡ None → s.max ≤ length s.seats → leased T s ≡ AllInUse
only T s e h = only_at T s (find_by is_lendable s.seats) e h
