-- What is done on a connection comes out as on a connection alone.
use Rattle.std.proofs.Common.{◌≡◌, ◌∙◌, ◌<◌, ◌≤◌, ◌⊎◌, ◌==◌, ◌&&◌, ℕ, suc, Bool, true, false, List, [], ◌∷◌, ◌++◌, length, refl, sym, ap, subst, arith, inl, inr}
use Rattle.std.proofs.lemmas.Bool.Decides.{nat_tests}
use Rattle.std.specs.Prelude.{Option, Some, None, nat_lt, if◌then◌else◌}
use Rattle.tds_packet.specs.declared.status.Reset.TheVariants.{Full, KeepTransaction}
use Rattle.tds_service.specs.Parts.{Part}
use Rattle.tds_service.specs.Line.{Line, new_line, Act}
use Rattle.tds_service.specs.Line as line
use Rattle.tds_client.specs.declared.fault.ClientRefusal.{ClientRefusal}
use Rattle.tds_service.specs.Refusing.{packets, refusal_in}
use Rattle.tds_service.specs.History.{Done, done_by, history, line_after, acts_of}
use Rattle.tds_service.specs.Service.{Place, Leased, Cleaning, Kept, Seat, Service, new_service, Call, Lease, Resume, Ask, Put, Finish, Cancel, GiveBack, Clean, Cleaned, Keep, Abandon, Came, Lost, Without, Reply, Unknown, NotNow, No, NoMemory, AllInUse, Lent, Ticket, Did, Back, ServiceStep, nothing, seat_numbered, find_by, change_by, has_lease, has_ticket, has_number, is_lendable, does, rests, drained, is_idle, is_open, acts, acts_unless, cleans, cleaned, clean_place, rests_cleaned, opens, lends, resumes, gives_back, keeps_it, abandons, hears, loses, step, service_after, steps, on_one, on}
use Rattle.tds_service.proofs.Numbered.{is_found, change_other, change_out, change_here, change_unique, added_other, added_here, added_unique, Unique, same_number}

-- ---- Histories joined

pub acts_of_history : {T : Type 0} (l : Line) (xs : List (Act T)) → acts_of (history l xs) ≡ xs
acts_of_history l [] = refl
acts_of_history l (x ∷ xs) = ap (λ ys. x ∷ ys) (acts_of_history (line.line_turn l x).line xs)

pub acts_of_both : {T : Type 0} (a b : List (Done T)) → acts_of (a ++ b) ≡ acts_of a ++ acts_of b
acts_of_both [] b = refl
acts_of_both (d ∷ ds) b = ap (λ ys. d.act ∷ ys) (acts_of_both ds b)

pub history_both : {T : Type 0} (l : Line) (xs ys : List (Act T)) → history l (xs ++ ys) ≡ history l xs ++ history (line_after l xs) ys
history_both l [] ys = refl
history_both l (x ∷ xs) ys = ap (λ ds. done_by x (line.line_turn l x) ∷ ds) (history_both (line.line_turn l x).line xs ys)

joins : {T : Type 0} (l : Line) (xs : List (Act T)) (rest : List (Done T)) → rest ≡ history (line_after l xs) (acts_of rest)
    → history l xs ++ rest ≡ history l (acts_of (history l xs ++ rest))
joins l xs rest h =
    ap (λ (ds : List (Done _)). history l xs ++ ds) h ∙ sym (history_both l xs (acts_of rest))
    ∙ ap (λ (ys : List (Act _)). history l (ys ++ acts_of rest)) (sym (acts_of_history l xs)) ∙ ap (history l) (sym (acts_of_both (history l xs) rest))

-- ---- One call

-- no connection has a number that was not used
pub record Tidy (s : Service) : Type 0 where
  pub fresh : (m : ℕ) → s.last < m → seat_numbered m s.seats ≡ None
  pub unique : Unique s.seats

-- the connection of this number is so; or it is gone; or it is still to come
abbrev pub Fits : Option Seat → ℕ → ℕ → Line → Type 0
Fits (Some c) n last l = c.line ≡ l
Fits None n last l = (n ≤ last) ⊎ (l ≡ new_line)

abbrev pub FitsIn : Service → ℕ → Line → Type 0
FitsIn s n l = Fits (seat_numbered n s.seats) n s.last l

pub record IsAlone {T : Type 0} (n : ℕ) (l : Line) (t : ServiceStep T) : Type 0 where
  pub tidy : Tidy t.service
  pub here : (t.number == n) ≡ true → (xs : List (Act T)) × (t.dones ≡ history l xs) × FitsIn t.service n (line_after l xs)
  pub other : (t.number == n) ≡ false → FitsIn t.service n l

nothing_alone : {T : Type 0} (n : ℕ) (l : Line) (s : Service) (reply : Reply) → Tidy s → FitsIn s n l → IsAlone {T = T} n l (nothing s reply)
nothing_alone n l s reply tidy fits = record { tidy = tidy; here = λ e. ([], refl, fits); other = λ e. fits }

-- a number that is found was used
used : (s : Service) (n : ℕ) (c : Seat) → Tidy s → seat_numbered n s.seats ≡ Some c → (b : Bool) → nat_lt s.last n ≡ b → n ≤ s.last
used s n c tidy e true f =
    let lt : s.last < n = grind (arith, nat_tests) in
    let none : seat_numbered n s.seats ≡ None = tidy.fresh n lt in
    let u : Some c ≡ None = sym e ∙ none in cc
used s n c tidy e false f = grind (arith, nat_tests)

pub fits_here : (s : Service) (n : ℕ) (c : Seat) (l : Line) (found : Option Seat) → found ≡ Some c → Fits found n s.last l → c.line ≡ l
fits_here s n c l (Some d) e fits = let same : d ≡ c = cc in ap (λ (x : Seat). x.line) (sym same) ∙ fits
fits_here s n c l None e fits = cc

does_here : {T : Type 0} (n : ℕ) (l : Line) (s : Service) (given : ℕ) (test : Seat → Bool) (c : Seat) (place : Option Place) (xs : List (Act T)) (reply : Reply)
    → Tidy s → find_by test s.seats ≡ Some c → c.number ≡ n → c.line ≡ l
    → FitsIn (does s given test c place xs reply).service n (line_after l xs)
does_here n l s given test c None xs reply tidy e is same =
    let gone : seat_numbered n (change_by test None (line_after c.line xs) s.seats) ≡ None =
    subst (λ (k : ℕ). seat_numbered k (change_by test None (line_after c.line xs) s.seats) ≡ None) is (change_out test c (line_after c.line xs) s.seats tidy.unique e) in
    let under : n ≤ s.last = subst (λ (k : ℕ). k ≤ s.last) is (used s c.number c tidy (is_found test c s.seats tidy.unique e) (nat_lt s.last c.number) refl) in
    subst (λ (x : Option Seat). Fits x n s.last (line_after l xs)) (sym gone) (inl under)
does_here {T} n l s given test c (Some place) xs reply tidy e is same =
    let new : Seat = record { number = c.number; place = place; line = line_after c.line xs } in
    let here : seat_numbered n (change_by test (Some place) (line_after c.line xs) s.seats) ≡ Some new =
    subst (λ (k : ℕ). seat_numbered k (change_by test (Some place) (line_after c.line xs) s.seats) ≡ Some new) is
    (change_here test c place (line_after c.line xs) s.seats tidy.unique e) in
    subst (λ (x : Option Seat). Fits x n s.last (line_after l xs)) (sym here) (ap (λ (k : Line). line_after {T = T} k xs) same)

does_alone : {T : Type 0} (n : ℕ) (l : Line) (s : Service) (given : ℕ) (test : Seat → Bool) (c : Seat) (place : Option Place) (xs : List (Act T)) (reply : Reply)
    → Tidy s → FitsIn s n l → find_by test s.seats ≡ Some c → IsAlone n l (does s given test c place xs reply)
does_alone n l s given test c place xs reply tidy fits e =
    let numbered : seat_numbered c.number s.seats ≡ Some c = is_found test c s.seats tidy.unique e in
    let under : c.number ≤ s.last = used s c.number c tidy numbered (nat_lt s.last c.number) refl in
    record {
      tidy = record {
        fresh = λ m lt. let ne : (c.number == m) ≡ false = grind (arith, nat_tests) in change_other test m c place (line_after c.line xs) s.seats ne e ∙ tidy.fresh m lt;
        unique = change_unique test c place (line_after c.line xs) s.seats tidy.unique e;
      };
      here = λ f.
          let is : c.number ≡ n = same_number c.number n f in
          let at_n : seat_numbered n s.seats ≡ Some c = subst (λ (k : ℕ). seat_numbered k s.seats ≡ Some c) is numbered in
          let same : c.line ≡ l = fits_here s n c l (seat_numbered n s.seats) at_n fits in
          (xs, ap (λ (k : Line). history k xs) same, does_here n l s given test c place xs reply tidy e is same);
      other = λ f. subst (λ (x : Option Seat). Fits x n s.last l) (sym (change_other test n c place (line_after c.line xs) s.seats f e)) fits;
    }

-- ---- Each call

unless_alone : {T : Type 0} (n : ℕ) (l : Line) (s : Service) (test : Seat → Bool) (c : Seat) (all : List (Act T)) (why : Option ClientRefusal) → Tidy s → FitsIn s n l
    → find_by test s.seats ≡ Some c → IsAlone n l (acts_unless s test c all why)
unless_alone n l s test c all None tidy fits e = does_alone n l s s.given test c (Some c.place) all Did tidy fits e
unless_alone n l s test c all (Some why) tidy fits e = nothing_alone n l s (No why) tidy fits

acts_alone : {T : Type 0} (n : ℕ) (l : Line) (s : Service) (test : Seat → Bool) (first : Act T) (all : List (Act T)) (seat : Option Seat) → Tidy s → FitsIn s n l
    → find_by test s.seats ≡ seat → IsAlone n l (acts s test first all seat)
acts_alone n l s test first all None tidy fits e = nothing_alone n l s Unknown tidy fits
acts_alone n l s test first all (Some c) tidy fits e = unless_alone n l s test c all (refusal_in (line.line_turn c.line first).answer) tidy fits e

cleans_by : {T : Type 0} (n : ℕ) (l : Line) (s : Service) (test : Seat → Bool) (c : Seat) (b : Bool) → Tidy s → FitsIn s n l → find_by test s.seats ≡ Some c
    → IsAlone {T = T} n l (if b then does s (suc s.given) test c (Some (Cleaning (suc s.given))) (line.Mark Full ∷ []) (Lent (suc s.given) c.number true) else nothing s NotNow)
cleans_by n l s test c true tidy fits e =
    does_alone n l s (suc s.given) test c (Some (Cleaning (suc s.given))) (line.Mark Full ∷ []) (Lent (suc s.given) c.number true) tidy fits e
cleans_by n l s test c false tidy fits e = nothing_alone n l s NotNow tidy fits

cleans_alone : {T : Type 0} (n : ℕ) (l : Line) (s : Service) (test : Seat → Bool) (seat : Option Seat) → Tidy s → FitsIn s n l → find_by test s.seats ≡ seat
    → IsAlone {T = T} n l (cleans s test seat)
cleans_alone n l s test None tidy fits e = nothing_alone n l s Unknown tidy fits
cleans_alone n l s test (Some c) tidy fits e = cleans_by n l s test c (is_lendable c) tidy fits e

rests_alone : {T : Type 0} (n : ℕ) (l : Line) (s : Service) (test : Seat → Bool) (c : Seat) (place : Option (Option Place)) → Tidy s → FitsIn s n l → find_by test s.seats ≡ Some c
    → IsAlone {T = T} n l (rests_cleaned s test c place)
rests_alone n l s test c None tidy fits e = nothing_alone n l s NotNow tidy fits
rests_alone n l s test c (Some place) tidy fits e = does_alone n l s s.given test c place [] (Back place) tidy fits e

cleaned_alone : {T : Type 0} (n : ℕ) (l : Line) (s : Service) (test : Seat → Bool) (seat : Option Seat) → Tidy s → FitsIn s n l → find_by test s.seats ≡ seat
    → IsAlone {T = T} n l (cleaned s test seat)
cleaned_alone n l s test None tidy fits e = nothing_alone n l s Unknown tidy fits
cleaned_alone n l s test (Some c) tidy fits e = rests_alone n l s test c (clean_place c.place c.line) tidy fits e

opens_fits : (n : ℕ) (l : Line) (s : Service) (d : Seat) (b : Bool) → d.number ≡ suc s.last → d.line ≡ new_line → Tidy s → FitsIn s n l → (suc s.last == n) ≡ b
    → (found : Option Seat) → seat_numbered n s.seats ≡ found → Fits (seat_numbered n (s.seats ++ d ∷ [])) n (suc s.last) l
opens_fits n l s d false is new tidy fits e (Some c) f =
    let ne : (d.number == n) ≡ false = ap (λ (k : ℕ). k == n) is ∙ e in
    let fits_c : Fits (Some c) n s.last l = subst (λ (x : Option Seat). Fits x n s.last l) f fits in
    subst (λ (x : Option Seat). Fits x n (suc s.last) l) (sym (added_other n d s.seats ne ∙ f)) fits_c
opens_fits n l s d false is new tidy fits e None f =
    let ne : (d.number == n) ≡ false = ap (λ (k : ℕ). k == n) is ∙ e in
    let fits_n : Fits None n s.last l = subst (λ (x : Option Seat). Fits x n s.last l) f fits in
    subst (λ (x : Option Seat). Fits x n (suc s.last) l) (sym (added_other n d s.seats ne ∙ f))
    (elim fits_n [ inl h ↦ inl (omega arith) | inr h ↦ inr h ])
opens_fits n l s d true is new tidy fits e found f =
    let at_n : suc s.last ≡ n = same_number (suc s.last) n e in
    let none : seat_numbered n s.seats ≡ None = tidy.fresh n (omega (arith, at_n)) in
    let fits_n : Fits None n s.last l = subst (λ (x : Option Seat). Fits x n s.last l) none fits in
    let none_d : seat_numbered d.number s.seats ≡ None = subst (λ (k : ℕ). seat_numbered k s.seats ≡ None) (sym (is ∙ at_n)) none in
    let here : seat_numbered n (s.seats ++ d ∷ []) ≡ Some d = subst (λ (k : ℕ). seat_numbered k (s.seats ++ d ∷ []) ≡ Some d) (is ∙ at_n) (added_here d s.seats none_d) in
    subst (λ (x : Option Seat). Fits x n (suc s.last) l) (sym here)
    (elim fits_n [ inl h ↦ absurd (omega (arith, at_n)) | inr h ↦ new ∙ sym h ])

opens_alone : {T : Type 0} (n : ℕ) (l : Line) (s : Service) (room : Bool) → Tidy s → FitsIn s n l → IsAlone {T = T} n l (opens s room)
opens_alone n l s false tidy fits = nothing_alone n l s AllInUse tidy fits
opens_alone n l s true tidy fits =
    let d : Seat = record { number = suc s.last; place = Leased (suc s.given); line = new_line } in
    let after = opens_fits n l s d (suc s.last == n) refl refl tidy fits refl (seat_numbered n s.seats) refl in
    record {
      tidy = record {
        fresh = λ m lt. let ne : (suc s.last == m) ≡ false = grind (arith, nat_tests) in added_other m d s.seats ne ∙ tidy.fresh m (omega arith);
        unique = added_unique d s.seats tidy.unique (tidy.fresh (suc s.last) (omega arith));
      };
      here = λ e. ([], refl, after);
      other = λ e. after;
    }

lends_alone : {T : Type 0} (n : ℕ) (l : Line) (s : Service) (seat : Option Seat) → Tidy s → FitsIn s n l → find_by is_lendable s.seats ≡ seat → IsAlone {T = T} n l (lends s seat)
lends_alone n l s None tidy fits e = opens_alone n l s (nat_lt (length s.seats) s.max) tidy fits
lends_alone n l s (Some c) tidy fits e =
    does_alone n l s (suc s.given) is_lendable c (Some (Leased (suc s.given))) (line.Mark Full ∷ []) (Lent (suc s.given) c.number true) tidy fits e

resumes_by : {T : Type 0} (n : ℕ) (l : Line) (s : Service) (test : Seat → Bool) (c : Seat) (b : Bool) → Tidy s → FitsIn s n l → find_by test s.seats ≡ Some c
    → IsAlone {T = T} n l (if b then does s (suc s.given) test c (Some (Leased (suc s.given))) (line.Mark KeepTransaction ∷ []) (Lent (suc s.given) c.number true) else nothing s NotNow)
resumes_by n l s test c true tidy fits e =
    does_alone n l s (suc s.given) test c (Some (Leased (suc s.given))) (line.Mark KeepTransaction ∷ []) (Lent (suc s.given) c.number true) tidy fits e
resumes_by n l s test c false tidy fits e = nothing_alone n l s NotNow tidy fits

resumes_alone : {T : Type 0} (n : ℕ) (l : Line) (s : Service) (test : Seat → Bool) (seat : Option Seat) → Tidy s → FitsIn s n l → find_by test s.seats ≡ seat
    → IsAlone {T = T} n l (resumes s test seat)
resumes_alone n l s test None tidy fits e = nothing_alone n l s Unknown tidy fits
resumes_alone n l s test (Some c) tidy fits e = resumes_by n l s test c (is_idle c.line.stage) tidy fits e

gives_back_alone : {T : Type 0} (n : ℕ) (l : Line) (s : Service) (test : Seat → Bool) (seat : Option Seat) → Tidy s → FitsIn s n l → find_by test s.seats ≡ seat
    → IsAlone {T = T} n l (gives_back s test seat)
gives_back_alone n l s test None tidy fits e = nothing_alone n l s Unknown tidy fits
gives_back_alone {T} n l s test (Some c) tidy fits e =
    let place = rests (line_after {T = T} c.line (line.Cancel ∷ [])).stage in
    does_alone n l s s.given test c place (line.Cancel ∷ []) (Back place) tidy fits e

keeps_by : {T : Type 0} (n : ℕ) (l : Line) (s : Service) (test : Seat → Bool) (c : Seat) (b : Bool) → Tidy s → FitsIn s n l → find_by test s.seats ≡ Some c
    → IsAlone {T = T} n l (if b then does s (suc s.given) test c (Some (Kept (suc s.given))) [] (Ticket (suc s.given)) else nothing s NotNow)
keeps_by n l s test c true tidy fits e = does_alone n l s (suc s.given) test c (Some (Kept (suc s.given))) [] (Ticket (suc s.given)) tidy fits e
keeps_by n l s test c false tidy fits e = nothing_alone n l s NotNow tidy fits

keeps_alone : {T : Type 0} (n : ℕ) (l : Line) (s : Service) (test : Seat → Bool) (seat : Option Seat) → Tidy s → FitsIn s n l → find_by test s.seats ≡ seat
    → IsAlone {T = T} n l (keeps_it s test seat)
keeps_alone n l s test None tidy fits e = nothing_alone n l s Unknown tidy fits
keeps_alone n l s test (Some c) tidy fits e =
    keeps_by n l s test c (is_idle c.line.stage && is_open c.line.heard.mark c.line.heard.descriptor) tidy fits e

abandons_alone : {T : Type 0} (n : ℕ) (l : Line) (s : Service) (test : Seat → Bool) (seat : Option Seat) → Tidy s → FitsIn s n l → find_by test s.seats ≡ seat
    → IsAlone {T = T} n l (abandons s test seat)
abandons_alone n l s test None tidy fits e = nothing_alone n l s Unknown tidy fits
abandons_alone n l s test (Some c) tidy fits e = does_alone n l s s.given test c (rests c.line.stage) [] (Back (rests c.line.stage)) tidy fits e

hears_alone : {T : Type 0} (n : ℕ) (l : Line) (s : Service) (test : Seat → Bool) (part : Part T) (seat : Option Seat) → Tidy s → FitsIn s n l → find_by test s.seats ≡ seat
    → IsAlone n l (hears s test part seat)
hears_alone n l s test part None tidy fits e = nothing_alone n l s Unknown tidy fits
hears_alone n l s test part (Some c) tidy fits e =
    does_alone n l s s.given test c (Some (drained c.place (line_after c.line (line.Come part ∷ [])).stage)) (line.Come part ∷ []) Did tidy fits e

loses_alone : {T : Type 0} (n : ℕ) (l : Line) (s : Service) (test : Seat → Bool) (seat : Option Seat) → Tidy s → FitsIn s n l → find_by test s.seats ≡ seat
    → IsAlone {T = T} n l (loses s test seat)
loses_alone n l s test None tidy fits e = nothing_alone n l s Unknown tidy fits
loses_alone n l s test (Some c) tidy fits e = does_alone n l s s.given test c None (line.Lose ∷ []) (Back None) tidy fits e

pub step_alone : {T : Type 0} (n : ℕ) (l : Line) (s : Service) (call : Call T) → Tidy s → FitsIn s n l → IsAlone n l (step s call)
step_alone n l s Lease tidy fits = lends_alone n l s (find_by is_lendable s.seats) tidy fits refl
step_alone n l s (Resume ticket) tidy fits = resumes_alone n l s (has_ticket ticket) (find_by (has_ticket ticket) s.seats) tidy fits refl
step_alone n l s (Ask lease) tidy fits = acts_alone n l s (has_lease lease) line.Ask (line.Ask ∷ []) (find_by (has_lease lease) s.seats) tidy fits refl
step_alone n l s (Put lease count) tidy fits = acts_alone n l s (has_lease lease) (line.Send false) (packets count) (find_by (has_lease lease) s.seats) tidy fits refl
step_alone n l s (Finish lease count) tidy fits = acts_alone n l s (has_lease lease) (line.Send true) (packets count ++ line.Send true ∷ []) (find_by (has_lease lease) s.seats) tidy fits refl
step_alone n l s (Cancel lease) tidy fits = acts_alone n l s (has_lease lease) line.Cancel (line.Cancel ∷ []) (find_by (has_lease lease) s.seats) tidy fits refl
step_alone n l s (GiveBack lease) tidy fits = gives_back_alone n l s (has_lease lease) (find_by (has_lease lease) s.seats) tidy fits refl
step_alone n l s (Clean number) tidy fits = cleans_alone n l s (has_number number) (find_by (has_number number) s.seats) tidy fits refl
step_alone n l s (Cleaned lease) tidy fits = cleaned_alone n l s (has_lease lease) (find_by (has_lease lease) s.seats) tidy fits refl
step_alone n l s (Keep lease) tidy fits = keeps_alone n l s (has_lease lease) (find_by (has_lease lease) s.seats) tidy fits refl
step_alone n l s (Abandon ticket) tidy fits = abandons_alone n l s (has_ticket ticket) (find_by (has_ticket ticket) s.seats) tidy fits refl
step_alone n l s (Came number part) tidy fits = hears_alone n l s (has_number number) part (find_by (has_number number) s.seats) tidy fits refl
step_alone n l s (Lost number) tidy fits = loses_alone n l s (has_number number) (find_by (has_number number) s.seats) tidy fits refl
step_alone n l s (Without call) tidy fits = nothing_alone n l s NoMemory tidy fits

-- ---- All calls

alone_by : {T : Type 0} (n : ℕ) (l : Line) (t : ServiceStep T) (b : Bool) (rest : List (Done T)) → (t.number == n) ≡ b → IsAlone n l t
    → ((k : Line) → FitsIn t.service n k → rest ≡ history k (acts_of rest))
    → on_one b t.dones rest ≡ history l (acts_of (on_one b t.dones rest))
alone_by n l t false rest e k ih = ih l (k.other e)
alone_by n l t true rest e k ih =
    let h = k.here e in
    subst (λ (ds : List (Done _)). ds ++ rest ≡ history l (acts_of (ds ++ rest))) (sym h.1) (joins l h.0 rest (ih (line_after l h.0) h.2))

pub alone : {T : Type 0} (n : ℕ) (l : Line) (s : Service) (calls : List (Call T)) → Tidy s → FitsIn s n l
    → on n (steps s calls) ≡ history l (acts_of (on n (steps s calls)))
alone n l s [] tidy fits = refl
alone n l s (call ∷ calls) tidy fits =
    let k = step_alone n l s call tidy fits in
    alone_by n l (step s call) ((step s call).number == n) (on n (steps (step s call).service calls)) refl k
    (λ l f. alone n l (step s call).service calls k.tidy f)

-- ---- What is left

line_after_both : {T : Type 0} (l : Line) (xs ys : List (Act T)) → line_after l (xs ++ ys) ≡ line_after (line_after l xs) ys
line_after_both l [] ys = refl
line_after_both l (x ∷ xs) ys = line_after_both (line.line_turn l x).line xs ys

left_by : {T : Type 0} (n : ℕ) (l : Line) (t : ServiceStep T) (b : Bool) (rest : List (Done T)) (found : Line) → (t.number == n) ≡ b → IsAlone n l t
    → ((k : Line) → FitsIn t.service n k → found ≡ line_after k (acts_of rest)) → found ≡ line_after l (acts_of (on_one b t.dones rest))
left_by n l t false rest found e k ih = ih l (k.other e)
left_by n l t true rest found e k ih =
    let h = k.here e in
    let acts_are = ap (λ (ds : List (Done _)). acts_of (ds ++ rest)) h.1 ∙ (acts_of_both (history l h.0) rest ∙ ap (λ (ys : List (Act _)). ys ++ acts_of rest) (acts_of_history l h.0)) in
    ih (line_after l h.0) h.2 ∙ sym (ap (line_after l) acts_are ∙ line_after_both l h.0 (acts_of rest))

left : {T : Type 0} (n : ℕ) (l : Line) (s : Service) (calls : List (Call T)) (c : Seat) → Tidy s → FitsIn s n l
    → seat_numbered n (service_after s calls).seats ≡ Some c → c.line ≡ line_after l (acts_of (on n (steps s calls)))
left n l s [] c tidy fits e = fits_here s n c l (seat_numbered n s.seats) e fits
left n l s (call ∷ calls) c tidy fits e =
    let k = step_alone n l s call tidy fits in
    left_by n l (step s call) ((step s call).number == n) (on n (steps (step s call).service calls)) c.line refl k
    (λ l f. left n l (step s call).service calls c k.tidy f e)

pub line_by_history : {T : Type 0} (max n : ℕ) (calls : List (Call T)) (c : Seat) → seat_numbered n (service_after (new_service max) calls).seats ≡ Some c
    → c.line ≡ line_after new_line (acts_of (on n (steps (new_service max) calls)))
line_by_history max n calls c e = left n new_line (new_service max) calls c (record { fresh = λ m lt. refl; unique = tt }) (inr refl) e

pub each_alone : {T : Type 0} (max n : ℕ) (calls : List (Call T))
    → on n (steps (new_service max) calls) ≡ history new_line (acts_of (on n (steps (new_service max) calls)))
each_alone max n calls = alone n new_line (new_service max) calls (record { fresh = λ m lt. refl; unique = tt }) (inr refl)
