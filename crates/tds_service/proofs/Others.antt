-- A call leaves all other connections as they are.
use Rattle.std.proofs.Common.{◌≡◌, ◌≢◌, ◌∙◌, ◌==◌, ℕ, suc, Bool, true, false, List, [], ◌∷◌, ◌++◌, length, refl, arith}
use Rattle.std.proofs.lemmas.Bool.Decides.{nat_tests}
use Rattle.std.specs.Prelude.{Option, Some, None, nat_lt, if◌then◌else◌}
use Rattle.tds_packet.specs.declared.status.Reset.TheVariants.{Full, KeepTransaction}
use Rattle.tds_client.specs.declared.fault.ClientRefusal.{ClientRefusal}
use Rattle.tds_service.specs.Parts.{Part}
use Rattle.tds_service.specs.Line as line
use Rattle.tds_service.specs.Line.{Act}
use Rattle.tds_service.specs.History.{line_after}
use Rattle.tds_service.specs.Refusing.{packets, refusal_in}
use Rattle.tds_service.specs.Service.{Place, Leased, Cleaning, Kept, Seat, Service, Call, Lease, Resume, Ask, Put, Finish, Cancel, GiveBack, Clean, Cleaned, Keep, Abandon, Came, Lost, Without, Reply, Unknown, NotNow, No, NoMemory, AllInUse, Lent, Ticket, Did, Back, ServiceStep, nothing, seat_numbered, find_by, has_lease, has_ticket, has_number, is_lendable, does, rests, drained, is_idle, may_keep, acts, acts_unless, cleans, cleaned, clean_place, rests_cleaned, opens, lends, resumes, gives_back, keeps_it, abandons, hears, loses, step}
use Rattle.tds_service.proofs.Numbered.{change_other}

added_by : (b : Bool) (c d : Seat) (x y : Option Seat) → (x ≡ Some c → y ≡ Some c) → (if b then Some d else x) ≡ Some c → (if b then Some d else y) ≡ Some c
added_by true c d x y f e = e
added_by false c d x y f e = f e

added : (n : ℕ) (c d : Seat) (cs : List Seat) → seat_numbered n cs ≡ Some c → seat_numbered n (cs ++ d ∷ []) ≡ Some c
added n c d [] e = absurd (let u : ⊥ = cc in u)
added n c d (x ∷ cs) e = added_by (x.number == n) c x (seat_numbered n cs) (seat_numbered n (cs ++ d ∷ [])) (added n c d cs) e

differs : (m n : ℕ) → m ≢ n → (m == n) ≡ false
differs m n h = grind (arith, nat_tests)

module _ (T : Type 0) (n : ℕ) (c : Seat) (s : Service) where
  abbrev Stays : ServiceStep T → Type 0
  Stays t = t.number ≢ n → seat_numbered n s.seats ≡ Some c → seat_numbered n t.service.seats ≡ Some c

  idle_stays : (reply : Reply) → Stays (nothing s reply)
  idle_stays reply ne e = e

  does_stays : (given : ℕ) (test : Seat → Bool) (d : Seat) (place : Option Place) (xs : List (Act T)) (reply : Reply) → find_by test s.seats ≡ Some d → Stays (does s given test d place xs reply)
  does_stays given test d place xs reply found ne e = change_other test n d place (line_after d.line xs) s.seats (differs d.number n ne) found ∙ e

  if_stays : (b : Bool) (t u : ServiceStep T) → Stays t → Stays u → Stays (if b then t else u)
  if_stays true t u h k = h
  if_stays false t u h k = k

  unless_stays : (test : Seat → Bool) (d : Seat) (all : List (Act T)) (why : Option ClientRefusal) → find_by test s.seats ≡ Some d → Stays (acts_unless s test d all why)
  unless_stays test d all None found = does_stays s.given test d (Some d.place) all Did found
  unless_stays test d all (Some why) found = idle_stays (No why)

  acts_stay : (test : Seat → Bool) (first : Act T) (all : List (Act T)) (seat : Option Seat) → find_by test s.seats ≡ seat → Stays (acts s test first all seat)
  acts_stay test first all None found = idle_stays Unknown
  acts_stay test first all (Some d) found = unless_stays test d all (refusal_in (line.line_turn d.line first).answer) found

  opens_stay : (room : Bool) → Stays (opens s room)
  opens_stay false = idle_stays AllInUse
  opens_stay true = λ ne e. added n c (record { number = suc s.last; place = Leased (suc s.given); line = line.new_line }) s.seats e

  lends_stay : (seat : Option Seat) → find_by is_lendable s.seats ≡ seat → Stays (lends s seat)
  lends_stay None found = opens_stay (nat_lt (length s.seats) s.max)
  lends_stay (Some d) found = does_stays (suc s.given) is_lendable d (Some (Leased (suc s.given))) (line.Mark Full ∷ []) (Lent (suc s.given) d.number true) found

  resumes_stay : (test : Seat → Bool) (seat : Option Seat) → find_by test s.seats ≡ seat → Stays (resumes s test seat)
  resumes_stay test None found = idle_stays Unknown
  resumes_stay test (Some d) found =
      if_stays (is_idle d.line.stage) (does s (suc s.given) test d (Some (Leased (suc s.given))) (line.Mark KeepTransaction ∷ []) (Lent (suc s.given) d.number true)) (nothing s NotNow)
      (does_stays (suc s.given) test d (Some (Leased (suc s.given))) (line.Mark KeepTransaction ∷ []) (Lent (suc s.given) d.number true) found) (idle_stays NotNow)

  gives_back_stay : (test : Seat → Bool) (seat : Option Seat) → find_by test s.seats ≡ seat → Stays (gives_back s test seat)
  gives_back_stay test None found = idle_stays Unknown
  gives_back_stay test (Some d) found =
      let place = rests (line_after {T = T} d.line (line.Cancel ∷ [])).stage in
      does_stays s.given test d place (line.Cancel ∷ []) (Back place) found

  cleans_stay : (test : Seat → Bool) (seat : Option Seat) → find_by test s.seats ≡ seat → Stays (cleans s test seat)
  cleans_stay test None found = idle_stays Unknown
  cleans_stay test (Some d) found =
      if_stays (is_lendable d) (does s (suc s.given) test d (Some (Cleaning (suc s.given))) (line.Mark Full ∷ []) (Lent (suc s.given) d.number true)) (nothing s NotNow)
      (does_stays (suc s.given) test d (Some (Cleaning (suc s.given))) (line.Mark Full ∷ []) (Lent (suc s.given) d.number true) found) (idle_stays NotNow)

  rests_stay : (test : Seat → Bool) (d : Seat) (place : Option (Option Place)) → find_by test s.seats ≡ Some d → Stays (rests_cleaned s test d place)
  rests_stay test d None found = idle_stays NotNow
  rests_stay test d (Some place) found = does_stays s.given test d place [] (Back place) found

  cleaned_stay : (test : Seat → Bool) (seat : Option Seat) → find_by test s.seats ≡ seat → Stays (cleaned s test seat)
  cleaned_stay test None found = idle_stays Unknown
  cleaned_stay test (Some d) found = rests_stay test d (clean_place d.place d.line) found

  keeps_stay : (test : Seat → Bool) (seat : Option Seat) → find_by test s.seats ≡ seat → Stays (keeps_it s test seat)
  keeps_stay test None found = idle_stays Unknown
  keeps_stay test (Some d) found =
      if_stays (may_keep d) (does s (suc s.given) test d (Some (Kept (suc s.given))) [] (Ticket (suc s.given))) (nothing s NotNow)
      (does_stays (suc s.given) test d (Some (Kept (suc s.given))) [] (Ticket (suc s.given)) found) (idle_stays NotNow)

  abandons_stay : (test : Seat → Bool) (seat : Option Seat) → find_by test s.seats ≡ seat → Stays (abandons s test seat)
  abandons_stay test None found = idle_stays Unknown
  abandons_stay test (Some d) found = does_stays s.given test d (rests d.line.stage) [] (Back (rests d.line.stage)) found

  hears_stay : (test : Seat → Bool) (part : Part T) (seat : Option Seat) → find_by test s.seats ≡ seat → Stays (hears s test part seat)
  hears_stay test part None found = idle_stays Unknown
  hears_stay test part (Some d) found =
      does_stays s.given test d (Some (drained d.place (line_after d.line (line.Come part ∷ [])).stage)) (line.Come part ∷ []) Did found

  loses_stay : (test : Seat → Bool) (seat : Option Seat) → find_by test s.seats ≡ seat → Stays (loses s test seat)
  loses_stay test None found = idle_stays Unknown
  loses_stay test (Some d) found = does_stays s.given test d None (line.Lose ∷ []) (Back None) found

  pub others_stay : (call : Call T) → Stays (step s call)
  others_stay Lease = lends_stay (find_by is_lendable s.seats) refl
  others_stay (Resume ticket) = resumes_stay (has_ticket ticket) (find_by (has_ticket ticket) s.seats) refl
  others_stay (Ask lease) = acts_stay (has_lease lease) line.Ask (line.Ask ∷ []) (find_by (has_lease lease) s.seats) refl
  others_stay (Put lease count) = acts_stay (has_lease lease) (line.Send false) (packets count) (find_by (has_lease lease) s.seats) refl
  others_stay (Finish lease count) = acts_stay (has_lease lease) (line.Send true) (packets count ++ line.Send true ∷ []) (find_by (has_lease lease) s.seats) refl
  others_stay (Cancel lease) = acts_stay (has_lease lease) line.Cancel (line.Cancel ∷ []) (find_by (has_lease lease) s.seats) refl
  others_stay (GiveBack lease) = gives_back_stay (has_lease lease) (find_by (has_lease lease) s.seats) refl
  others_stay (Clean number) = cleans_stay (has_number number) (find_by (has_number number) s.seats) refl
  others_stay (Cleaned lease) = cleaned_stay (has_lease lease) (find_by (has_lease lease) s.seats) refl
  others_stay (Keep lease) = keeps_stay (has_lease lease) (find_by (has_lease lease) s.seats) refl
  others_stay (Abandon ticket) = abandons_stay (has_ticket ticket) (find_by (has_ticket ticket) s.seats) refl
  others_stay (Came number part) = hears_stay (has_number number) part (find_by (has_number number) s.seats) refl
  others_stay (Lost number) = loses_stay (has_number number) (find_by (has_number number) s.seats) refl
  others_stay (Without call) = idle_stays NoMemory
