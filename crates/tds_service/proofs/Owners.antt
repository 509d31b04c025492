-- What is told is told to a request that the lease asked which holds the connection.
use Rattle.std.proofs.Common.{◌≡◌, ◌==◌, ◌&&◌, ℕ, suc, Bool, true, false, List, [], ◌∷◌, ◌++◌, length, refl, sym, ap, subst, arith, inr}
use Rattle.std.specs.Prelude.{Option, Some, None, nat_lt, if◌then◌else◌}
use Rattle.tds_packet.specs.declared.status.Reset.TheVariants.{Full, KeepTransaction}
use Rattle.tds_client.specs.declared.fault.ClientRefusal.{ClientRefusal}
use Rattle.tds_service.specs.Parts.{Part}
use Rattle.tds_service.specs.Line.{Line, new_line, Act, LineStage, line_turn, reads, skips, skips_to_end, marks, asks, sends, cancels, comes, line_loses}
use Rattle.tds_service.specs.Line as line
use Rattle.tds_service.specs.History.{Done, history, line_after}
use Rattle.tds_service.specs.Refusing.{packets, refusal_in}
use Rattle.tds_service.specs.Owning.{Asker, asker_by, AreOwn, OwnHere, asker_here, OwnAlong}
use Rattle.tds_service.specs.Service as calls
use Rattle.tds_service.specs.Service.{Place, Leased, Cleaning, Kept, Free, Draining, Seat, Service, new_service, Call, Reply, Unknown, NotNow, AllInUse, No, NoMemory, Lent, Ticket, Did, Back, ServiceStep, nothing, seat_numbered, find_by, change_by, has_lease, has_ticket, has_number, holds, keeps, is_lendable, is_idle, is_free, may_keep, rests, rests_clean, clean_place, drained, is_clean, lease_in, lease_at, does, acts_unless, rests_cleaned, step}
use Rattle.tds_service.proofs.Alone.{Tidy, Fits, FitsIn, step_alone}
use Rattle.tds_service.proofs.Numbered.{is_found, change_other, change_out, change_here, added_other, added_here, same_number}
use Rattle.tds_service.proofs.Lends.{free_idle, idle_both}
use Rattle.tds_service.proofs.Leases.{meets}
use Rattle.tds_service.proofs.Owned.{OwnedAt, Owned, OwnedIn, seat_behind, Keeps, marked_keeps, ask_keeps, put_keeps, finish_keeps, cancel_keeps, lost_keeps, kept_keeps, cleaned_keeps, abandon_keeps, came_keeps}

-- ---- A call

pub record Goes {T : Type 0} (n : ℕ) (s : Service) (call : Call T) (t : ServiceStep T) : Type 0 where
  pub own : (asker : Option Asker) → OwnedIn (seat_numbered n s.seats) asker → OwnHere (t.number == n) asker (lease_at (seat_numbered n s.seats)) t.dones
  pub next : (asker : Option Asker) → OwnedIn (seat_numbered n s.seats) asker → OwnedIn (seat_numbered n t.service.seats) (asker_here (t.number == n) asker call t.dones)

by_nothing : {T : Type 0} (asker : Option Asker) (call : Call T) → asker_by asker call [] ≡ asker
by_nothing asker calls.Lease = refl
by_nothing asker (calls.Resume ticket) = refl
by_nothing asker (calls.Ask lease) = refl
by_nothing asker (calls.Put lease count) = refl
by_nothing asker (calls.Finish lease count) = refl
by_nothing asker (calls.Cancel lease) = refl
by_nothing asker (calls.GiveBack lease) = refl
by_nothing asker (calls.Clean number) = refl
by_nothing asker (calls.Cleaned lease) = refl
by_nothing asker (calls.Keep lease) = refl
by_nothing asker (calls.Abandon ticket) = refl
by_nothing asker (calls.Came number part) = refl
by_nothing asker (calls.Lost number) = refl
by_nothing asker (calls.Without call) = refl

nothing_own : (T : Type 0) (b : Bool) (asker : Option Asker) (holder : Option ℕ) → OwnHere {T = T} b asker holder []
nothing_own T true asker holder = tt
nothing_own T false asker holder = tt

nothing_asked : {T : Type 0} (b : Bool) (asker : Option Asker) (call : Call T) → asker_here b asker call [] ≡ asker
nothing_asked true asker call = by_nothing asker call
nothing_asked false asker call = refl

nothing_goes : {T : Type 0} (n : ℕ) (s : Service) (call : Call T) (reply : Reply) → Goes n s call (nothing s reply)
nothing_goes n s call reply = record {
  own = λ asker h. nothing_own _ (0 == n) asker (lease_at (seat_numbered n s.seats));
  next = λ asker h. subst (λ (a : Option Asker). OwnedIn (seat_numbered n s.seats) a) (sym (nothing_asked (0 == n) asker call)) h;
}

changed_is : (test : Seat → Bool) (d : Seat) (place : Option Place) (l : Line) (s : Service) → Tidy s → find_by test s.seats ≡ Some d
    → seat_numbered d.number (change_by test place l s.seats) ≡ seat_behind d.number place l
changed_is test d None l s tidy e = change_out test d l s.seats tidy.unique e
changed_is test d (Some place) l s tidy e = change_here test d place l s.seats tidy.unique e

own_here : {T : Type 0} (n : ℕ) (s : Service) (c : Seat) (ds : List (Done T)) (asker : Option Asker) (b : Bool) → (c.number == n) ≡ b
    → seat_numbered c.number s.seats ≡ Some c → OwnedIn (seat_numbered n s.seats) asker → (Owned c asker → AreOwn asker (lease_in c.place) ds)
    → OwnHere b asker (lease_at (seat_numbered n s.seats)) ds
own_here n s c ds asker false e found h f = tt
own_here n s c ds asker true e found h f =
    let is : c.number ≡ n = same_number c.number n e in
    let at : seat_numbered n s.seats ≡ Some c = subst (λ (k : ℕ). seat_numbered k s.seats ≡ Some c) is found in
    subst (λ (x : Option Seat). AreOwn asker (lease_at x) ds) (sym at) (f (subst (λ (x : Option Seat). OwnedIn x asker) at h))

next_here : {T : Type 0} (n : ℕ) (s : Service) (call : Call T) (test : Seat → Bool) (c : Seat) (place : Option Place) (l : Line) (ds : List (Done T)) (asker : Option Asker) (b : Bool)
    → (c.number == n) ≡ b → Tidy s → find_by test s.seats ≡ Some c → OwnedIn (seat_numbered n s.seats) asker
    → (Owned c asker → OwnedIn (seat_behind c.number place l) (asker_by asker call ds))
    → OwnedIn (seat_numbered n (change_by test place l s.seats)) (asker_here b asker call ds)
next_here n s call test c place l ds asker false e tidy found h f =
    subst (λ (x : Option Seat). OwnedIn x asker) (sym (change_other test n c place l s.seats e found)) h
next_here n s call test c place l ds asker true e tidy found h f =
    let is : c.number ≡ n = same_number c.number n e in
    let at : seat_numbered n s.seats ≡ Some c = subst (λ (k : ℕ). seat_numbered k s.seats ≡ Some c) is (is_found test c s.seats tidy.unique found) in
    let new : seat_numbered n (change_by test place l s.seats) ≡ seat_behind c.number place l =
    subst (λ (k : ℕ). seat_numbered k (change_by test place l s.seats) ≡ seat_behind c.number place l) is (changed_is test c place l s tidy found) in
    subst (λ (x : Option Seat). OwnedIn x (asker_by asker call ds)) (sym new) (f (subst (λ (x : Option Seat). OwnedIn x asker) at h))

does_goes : {T : Type 0} (n : ℕ) (s : Service) (given : ℕ) (call : Call T) (test : Seat → Bool) (c : Seat) (place : Option Place) (xs : List (Act T)) (reply : Reply)
    → Tidy s → find_by test s.seats ≡ Some c → Keeps call c place xs → Goes n s call (does s given test c place xs reply)
does_goes n s given call test c place xs reply tidy e k = record {
  own = λ asker h. own_here n s c (history c.line xs) asker (c.number == n) refl (is_found test c s.seats tidy.unique e) h (k.own asker);
  next = λ asker h. next_here n s call test c place (line_after c.line xs) (history c.line xs) asker (c.number == n) refl tidy e h (k.next asker);
}

added_owned : (n : ℕ) (s : Service) (d : Seat) (asker : Option Asker) (b : Bool) → (d.number == n) ≡ b → d.line ≡ new_line → seat_numbered d.number s.seats ≡ None
    → OwnedIn (seat_numbered n s.seats) asker → OwnedIn (seat_numbered n (s.seats ++ d ∷ [])) asker
added_owned n s d asker false e new none h = subst (λ (x : Option Seat). OwnedIn x asker) (sym (added_other n d s.seats e)) h
added_owned n s d asker true e new none h =
    let at : seat_numbered n (s.seats ++ d ∷ []) ≡ Some d = subst (λ (k : ℕ). seat_numbered k (s.seats ++ d ∷ []) ≡ Some d) (same_number d.number n e) (added_here d s.seats none) in
    subst (λ (x : Option Seat). OwnedIn x asker) (sym at) (subst (λ (l : Line). OwnedAt l.stage d.place l.asked asker) (sym new) tt)

opens_goes : {T : Type 0} (n : ℕ) (s : Service) (call : Call T) (room : Bool) → Tidy s → Goes n s call (calls.opens s room)
opens_goes n s call false tidy = nothing_goes n s call AllInUse
opens_goes n s call true tidy =
    let d : Seat = record { number = suc s.last; place = Leased (suc s.given); line = new_line } in
    record {
      own = λ asker h. nothing_own _ (0 == n) asker (lease_at (seat_numbered n s.seats));
      next = λ asker h.
          subst (λ (a : Option Asker). OwnedIn (seat_numbered n (s.seats ++ d ∷ [])) a) (sym (nothing_asked (0 == n) asker call))
          (added_owned n s d asker (d.number == n) refl refl (tidy.fresh (suc s.last) (omega arith)) h);
    }

unless_goes : {T : Type 0} (n : ℕ) (s : Service) (call : Call T) (test : Seat → Bool) (c : Seat) (all : List (Act T)) (why : Option ClientRefusal) → Tidy s → find_by test s.seats ≡ Some c
    → Keeps call c (Some c.place) all → Goes n s call (acts_unless s test c all why)
unless_goes n s call test c all None tidy e k = does_goes n s s.given call test c (Some c.place) all Did tidy e k
unless_goes n s call test c all (Some why) tidy e k = nothing_goes n s call (No why)

acts_goes : {T : Type 0} (n : ℕ) (s : Service) (call : Call T) (test : Seat → Bool) (first : Act T) (all : List (Act T)) (seat : Option Seat) → Tidy s → find_by test s.seats ≡ seat
    → ((c : Seat) → find_by test s.seats ≡ Some c → Keeps call c (Some c.place) all) → Goes n s call (calls.acts s test first all seat)
acts_goes n s call test first all None tidy e k = nothing_goes n s call Unknown
acts_goes n s call test first all (Some c) tidy e k = unless_goes n s call test c all (refusal_in (line_turn c.line first).answer) tidy e (k c e)

lends_goes : {T : Type 0} (n : ℕ) (s : Service) (seat : Option Seat) → Tidy s → find_by is_lendable s.seats ≡ seat → Goes {T = T} n s calls.Lease (calls.lends s seat)
lends_goes n s None tidy e = opens_goes n s calls.Lease (nat_lt (length s.seats) s.max) tidy
lends_goes n s (Some c) tidy e =
    does_goes n s (suc s.given) calls.Lease is_lendable c (Some (Leased (suc s.given))) (line.Mark Full ∷ []) (Lent (suc s.given) c.number true) tidy e
    (marked_keeps calls.Lease c (Leased (suc s.given)) Full (free_idle s.seats c e) (λ asker ds. refl))

resumes_goes_by : {T : Type 0} (n ticket : ℕ) (s : Service) (test : Seat → Bool) (c : Seat) (b : Bool) → is_idle c.line.stage ≡ b → Tidy s → find_by test s.seats ≡ Some c
    → Goes {T = T} n s (calls.Resume ticket) (if b then does s (suc s.given) test c (Some (Leased (suc s.given))) (line.Mark KeepTransaction ∷ []) (Lent (suc s.given) c.number true) else nothing s NotNow)
resumes_goes_by n ticket s test c true i tidy e =
    does_goes n s (suc s.given) (calls.Resume ticket) test c (Some (Leased (suc s.given))) (line.Mark KeepTransaction ∷ []) (Lent (suc s.given) c.number true) tidy e
    (marked_keeps (calls.Resume ticket) c (Leased (suc s.given)) KeepTransaction i (λ asker ds. refl))
resumes_goes_by n ticket s test c false i tidy e = nothing_goes n s (calls.Resume ticket) NotNow

resumes_goes : {T : Type 0} (n ticket : ℕ) (s : Service) (test : Seat → Bool) (seat : Option Seat) → Tidy s → find_by test s.seats ≡ seat → Goes {T = T} n s (calls.Resume ticket) (calls.resumes s test seat)
resumes_goes n ticket s test None tidy e = nothing_goes n s (calls.Resume ticket) Unknown
resumes_goes n ticket s test (Some c) tidy e = resumes_goes_by n ticket s test c (is_idle c.line.stage) refl tidy e

cleans_goes_by : {T : Type 0} (n number : ℕ) (s : Service) (test : Seat → Bool) (c : Seat) (b : Bool) → is_lendable c ≡ b → Tidy s → find_by test s.seats ≡ Some c
    → Goes {T = T} n s (calls.Clean number) (if b then does s (suc s.given) test c (Some (Cleaning (suc s.given))) (line.Mark Full ∷ []) (Lent (suc s.given) c.number true) else nothing s NotNow)
cleans_goes_by n number s test c true i tidy e =
    does_goes n s (suc s.given) (calls.Clean number) test c (Some (Cleaning (suc s.given))) (line.Mark Full ∷ []) (Lent (suc s.given) c.number true) tidy e
    (marked_keeps (calls.Clean number) c (Cleaning (suc s.given)) Full (idle_both (is_free c.place) (is_idle c.line.stage) i) (λ asker ds. refl))
cleans_goes_by n number s test c false i tidy e = nothing_goes n s (calls.Clean number) NotNow

cleans_goes : {T : Type 0} (n number : ℕ) (s : Service) (test : Seat → Bool) (seat : Option Seat) → Tidy s → find_by test s.seats ≡ seat → Goes {T = T} n s (calls.Clean number) (calls.cleans s test seat)
cleans_goes n number s test None tidy e = nothing_goes n s (calls.Clean number) Unknown
cleans_goes n number s test (Some c) tidy e = cleans_goes_by n number s test c (is_lendable c) refl tidy e

gives_goes : (T : Type 0) (n lease : ℕ) (s : Service) (test : Seat → Bool) (seat : Option Seat) → Tidy s → find_by test s.seats ≡ seat → Goes {T = T} n s (calls.GiveBack lease) (calls.gives_back s test seat)
gives_goes T n lease s test None tidy e = nothing_goes n s (calls.GiveBack lease) Unknown
gives_goes T n lease s test (Some c) tidy e =
    let place = rests (line_after {T = T} c.line (line.Cancel ∷ [])).stage in
    does_goes n s s.given (calls.GiveBack lease) test c place (line.Cancel ∷ []) (Back place) tidy e (cancel_keeps (calls.GiveBack lease) c place (λ asker ds. refl))

rests_goes : {T : Type 0} (n lease : ℕ) (s : Service) (test : Seat → Bool) (c : Seat) (place : Option (Option Place)) → clean_place c.place c.line ≡ place → Tidy s → find_by test s.seats ≡ Some c
    → Goes {T = T} n s (calls.Cleaned lease) (rests_cleaned s test c place)
rests_goes n lease s test c None f tidy e = nothing_goes n s (calls.Cleaned lease) NotNow
rests_goes n lease s test c (Some place) f tidy e = does_goes n s s.given (calls.Cleaned lease) test c place [] (Back place) tidy e (cleaned_keeps lease c place f)

cleaned_goes : {T : Type 0} (n lease : ℕ) (s : Service) (test : Seat → Bool) (seat : Option Seat) → Tidy s → find_by test s.seats ≡ seat → Goes {T = T} n s (calls.Cleaned lease) (calls.cleaned s test seat)
cleaned_goes n lease s test None tidy e = nothing_goes n s (calls.Cleaned lease) Unknown
cleaned_goes n lease s test (Some c) tidy e = rests_goes n lease s test c (clean_place c.place c.line) refl tidy e

keeps_goes_by : {T : Type 0} (n lease : ℕ) (s : Service) (test : Seat → Bool) (c : Seat) (b : Bool) → may_keep c ≡ b → Tidy s → find_by test s.seats ≡ Some c
    → Goes {T = T} n s (calls.Keep lease) (if b then does s (suc s.given) test c (Some (Kept (suc s.given))) [] (Ticket (suc s.given)) else nothing s NotNow)
keeps_goes_by n lease s test c true i tidy e =
    does_goes n s (suc s.given) (calls.Keep lease) test c (Some (Kept (suc s.given))) [] (Ticket (suc s.given)) tidy e (kept_keeps lease c (Kept (suc s.given)) (first_both (is_idle c.line.stage) _ i))
  where
    first_both : (a b : Bool) → (a && b) ≡ true → a ≡ true
    first_both true b f = refl
    first_both false b f = f
keeps_goes_by n lease s test c false i tidy e = nothing_goes n s (calls.Keep lease) NotNow

keeps_goes : {T : Type 0} (n lease : ℕ) (s : Service) (test : Seat → Bool) (seat : Option Seat) → Tidy s → find_by test s.seats ≡ seat → Goes {T = T} n s (calls.Keep lease) (calls.keeps_it s test seat)
keeps_goes n lease s test None tidy e = nothing_goes n s (calls.Keep lease) Unknown
keeps_goes n lease s test (Some c) tidy e = keeps_goes_by n lease s test c (may_keep c) refl tidy e

abandons_goes : {T : Type 0} (n ticket : ℕ) (s : Service) (seat : Option Seat) → Tidy s → find_by (has_ticket ticket) s.seats ≡ seat
    → Goes {T = T} n s (calls.Abandon ticket) (calls.abandons s (has_ticket ticket) seat)
abandons_goes n ticket s None tidy e = nothing_goes n s (calls.Abandon ticket) Unknown
abandons_goes n ticket s (Some c) tidy e =
    does_goes n s s.given (calls.Abandon ticket) (has_ticket ticket) c (rests c.line.stage) [] (Back (rests c.line.stage)) tidy e (abandon_keeps ticket c (meets (has_ticket ticket) s.seats c e))

hears_goes : {T : Type 0} (n number : ℕ) (s : Service) (test : Seat → Bool) (part : Part T) (seat : Option Seat) → Tidy s → find_by test s.seats ≡ seat
    → Goes n s (calls.Came number part) (calls.hears s test part seat)
hears_goes n number s test part None tidy e = nothing_goes n s (calls.Came number part) Unknown
hears_goes n number s test part (Some c) tidy e =
    does_goes n s s.given (calls.Came number part) test c (Some (drained c.place (line_after c.line (line.Come part ∷ [])).stage)) (line.Come part ∷ []) Did tidy e (came_keeps number part c)

loses_goes : {T : Type 0} (n number : ℕ) (s : Service) (test : Seat → Bool) (seat : Option Seat) → Tidy s → find_by test s.seats ≡ seat → Goes {T = T} n s (calls.Lost number) (calls.loses s test seat)
loses_goes n number s test None tidy e = nothing_goes n s (calls.Lost number) Unknown
loses_goes {T} n number s test (Some c) tidy e = does_goes n s s.given (calls.Lost number) test c None (line.Lose ∷ []) (Back None) tidy e (lost_keeps T number c)

holder : (lease : ℕ) (place : Place) → holds lease place ≡ true → lease_in place ≡ Some lease
holder lease (Leased other) e = ap Some (same_number other lease e)
holder lease (Cleaning other) e = ap Some (same_number other lease e)
holder lease (Kept ticket) e = absurd (let u : ⊥ = cc in u)
holder lease Free e = absurd (let u : ⊥ = cc in u)
holder lease Draining e = absurd (let u : ⊥ = cc in u)

step_goes : {T : Type 0} (n : ℕ) (s : Service) (call : Call T) → Tidy s → Goes n s call (step s call)
step_goes n s calls.Lease tidy = lends_goes n s (find_by is_lendable s.seats) tidy refl
step_goes n s (calls.Resume ticket) tidy = resumes_goes n ticket s (has_ticket ticket) (find_by (has_ticket ticket) s.seats) tidy refl
step_goes n s (calls.Ask lease) tidy =
    acts_goes n s (calls.Ask lease) (has_lease lease) line.Ask (line.Ask ∷ []) (find_by (has_lease lease) s.seats) tidy refl
    (λ c e. ask_keeps lease c (holder lease c.place (meets (has_lease lease) s.seats c e)))
step_goes {T} n s (calls.Put lease count) tidy =
    acts_goes n s (calls.Put lease count) (has_lease lease) (line.Send false) (packets count) (find_by (has_lease lease) s.seats) tidy refl (λ c e. put_keeps T lease count c)
step_goes {T} n s (calls.Finish lease count) tidy =
    acts_goes n s (calls.Finish lease count) (has_lease lease) (line.Send true) (packets count ++ line.Send true ∷ []) (find_by (has_lease lease) s.seats) tidy refl
    (λ c e. finish_keeps T lease count c)
step_goes n s (calls.Cancel lease) tidy =
    acts_goes n s (calls.Cancel lease) (has_lease lease) line.Cancel (line.Cancel ∷ []) (find_by (has_lease lease) s.seats) tidy refl
    (λ c e. cancel_keeps (calls.Cancel lease) c (Some c.place) (λ asker ds. refl))
step_goes {T} n s (calls.GiveBack lease) tidy = gives_goes T n lease s (has_lease lease) (find_by (has_lease lease) s.seats) tidy refl
step_goes n s (calls.Clean number) tidy = cleans_goes n number s (has_number number) (find_by (has_number number) s.seats) tidy refl
step_goes n s (calls.Cleaned lease) tidy = cleaned_goes n lease s (has_lease lease) (find_by (has_lease lease) s.seats) tidy refl
step_goes n s (calls.Keep lease) tidy = keeps_goes n lease s (has_lease lease) (find_by (has_lease lease) s.seats) tidy refl
step_goes n s (calls.Abandon ticket) tidy = abandons_goes n ticket s (find_by (has_ticket ticket) s.seats) tidy refl
step_goes n s (calls.Came number part) tidy = hears_goes n number s (has_number number) part (find_by (has_number number) s.seats) tidy refl
step_goes n s (calls.Lost number) tidy = loses_goes n number s (has_number number) (find_by (has_number number) s.seats) tidy refl
step_goes n s (calls.Without call) tidy = nothing_goes n s (calls.Without call) NoMemory

-- ---- All calls

fits_some : (n : ℕ) (s : Service) (x : Option Seat) → seat_numbered n s.seats ≡ x → (l : Line) × FitsIn s n l
fits_some n s (Some c) e = (c.line, subst (λ (x : Option Seat). Fits x n s.last c.line) (sym e) refl)
fits_some n s None e = (new_line, subst (λ (x : Option Seat). Fits x n s.last new_line) (sym e) (inr refl))

tidy_step : {T : Type 0} (s : Service) (call : Call T) → Tidy s → Tidy (step s call).service
tidy_step s call tidy =
    let l = fits_some 0 s (seat_numbered 0 s.seats) refl in
    (step_alone 0 l.0 s call tidy l.1).tidy

along : {T : Type 0} (n : ℕ) (asker : Option Asker) (s : Service) (calls : List (Call T)) → Tidy s → OwnedIn (seat_numbered n s.seats) asker → OwnAlong n asker s calls
along n asker s [] tidy h = tt
along n asker s (call ∷ calls) tidy h =
    let g = step_goes n s call tidy in (
      g.own asker h,
      along n (asker_here ((step s call).number == n) asker call (step s call).dones) (step s call).service calls (tidy_step s call tidy) (g.next asker h),
    )

pub told_to_asker : {T : Type 0} (max n : ℕ) (calls : List (Call T)) → OwnAlong n None (new_service max) calls
told_to_asker max n calls = along n None (new_service max) calls (record { fresh = λ m lt. refl; unique = tt }) tt
