-- A cleaning frees a connection only where it is idle and clean.
use Rattle.std.proofs.Common.{◌≡◌, ◌∙◌, ◌==◌, ℕ, Bool, true, false, List, [], ◌∷◌, refl, sym, ap, subst, inr}
use Rattle.std.specs.Prelude.{Option, Some, None}
use Rattle.tds_service.specs.Line.{Line, LineStage, Idle, Sending, Reading, Cancelling, Broken, new_line}
use Rattle.tds_service.specs.Service.{Place, Leased, Cleaning, Kept, Free, Draining, Seat, Service, Call, Back, ServiceStep, cleaned, clean_place, find_by, has_lease, is_clean, new_service, rests_clean, rests_cleaned, seat_numbered, service_after, on, step, steps}
use Rattle.tds_service.specs.History.{acts_of, line_after}
use Rattle.tds_service.proofs.Alone.{FitsIn, IsAlone, Tidy, step_alone}
use Rattle.tds_service.proofs.Numbered.{is_found}
use Rattle.laws_conforming_server.specs.Lawful.{AnyServer, IsLawful}
use Rattle.laws_conforming_server.specs.Link.{IsRun, Move, link_after, new_link}
use Rattle.laws_conforming_server.specs.Starting.{IsLeftClean, cleaning_over, owed_after}
use Rattle.laws_conforming_server.proofs.Lifted.{Alone, clean_there}

-- ---- A connection that a lease holds is the one of its number

tidy_by : {T : Type 0} (n : ℕ) (l : Line) (t : ServiceStep T) (calls : List (Call T)) (b : Bool) → (t.number == n) ≡ b → IsAlone n l t
    → ((k : Line) → FitsIn t.service n k → Tidy (service_after t.service calls)) → Tidy (service_after t.service calls)
tidy_by n l t calls false e k ih = ih l (k.other e)
tidy_by n l t calls true e k ih = let h = k.here e in ih _ h.2

tidy_after : {T : Type 0} (n : ℕ) (l : Line) (s : Service) (calls : List (Call T)) → Tidy s → FitsIn s n l → Tidy (service_after s calls)
tidy_after n l s [] tidy fits = tidy
tidy_after n l s (call ∷ calls) tidy fits =
    let k = step_alone n l s call tidy fits in
    tidy_by n l (step s call) calls ((step s call).number == n) refl k (λ m f. tidy_after n m (step s call).service calls k.tidy f)

new_tidy : (max : ℕ) → Tidy (new_service max)
new_tidy max = record { fresh = λ m lt. refl; unique = tt }

seat_is : {T : Type 0} (max lease : ℕ) (calls : List (Call T)) (c : Seat) → find_by (has_lease lease) (service_after (new_service max) calls).seats ≡ Some c
    → seat_numbered c.number (service_after (new_service max) calls).seats ≡ Some c
seat_is max lease calls c e =
    is_found (has_lease lease) c (service_after (new_service max) calls).seats (tidy_after 0 new_line (new_service max) calls (new_tidy max) (inr refl)).unique e

-- ---- It is idle and clean

pub record Frees (l : Line) : Type 0 where
  pub idle : l.stage ≡ Idle
  pub clean : is_clean l.heard.mark l.heard.descriptor ≡ true

frees_idle : (l : Line) (clean : Bool) (stage : LineStage) → l.stage ≡ stage → is_clean l.heard.mark l.heard.descriptor ≡ clean → rests_clean clean stage ≡ Some (Some Free) → Frees l
frees_idle l true Idle e f g = record { idle = e; clean = f }
frees_idle l false Idle e f g = let b : ⊥ = cc in absurd b
frees_idle l clean (Sending begun) e f g = let b : ⊥ = cc in absurd b
frees_idle l clean Reading e f g = let b : ⊥ = cc in absurd b
frees_idle l clean Cancelling e f g = let b : ⊥ = cc in absurd b
frees_idle l clean (Broken fault) e f g = let b : ⊥ = cc in absurd b

frees_place : (place : Place) (l : Line) → clean_place place l ≡ Some (Some Free) → Frees l
frees_place (Leased lease) l g = let b : ⊥ = cc in absurd b
frees_place (Cleaning lease) l g = frees_idle l (is_clean l.heard.mark l.heard.descriptor) l.stage refl refl g
frees_place (Kept ticket) l g = let b : ⊥ = cc in absurd b
frees_place Free l g = let b : ⊥ = cc in absurd b
frees_place Draining l g = let b : ⊥ = cc in absurd b

frees_by : (T : Type 0) (s : Service) (test : Seat → Bool) (c : Seat) (place : Option (Option Place)) → (rests_cleaned {T = T} s test c place).reply ≡ Back (Some Free) → place ≡ Some (Some Free)
frees_by T s test c None e = let b : ⊥ = cc in absurd b
frees_by T s test c (Some place) e = cc

reached_by : (T : Type 0) (s : Service) (test : Seat → Bool) (c : Seat) (place : Option (Option Place)) → place ≡ Some (Some Free) → (rests_cleaned {T = T} s test c place).number ≡ c.number
reached_by T s test c None e = let b : ⊥ = cc in absurd b
reached_by T s test c (Some place) e = refl

-- The connection that is freed.
pub record Freed (T : Type 0) (s : Service) (lease : ℕ) : Type 0 where
  pub seat : Seat
  pub found : find_by (has_lease lease) s.seats ≡ Some seat
  pub number : (cleaning_over T s lease).number ≡ seat.number
  pub frees : Frees seat.line

freed_by : (T : Type 0) (s : Service) (lease : ℕ) (seat : Option Seat) → find_by (has_lease lease) s.seats ≡ seat → (cleaned {T = T} s (has_lease lease) seat).reply ≡ Back (Some Free)
    → (c : Seat) × (find_by (has_lease lease) s.seats ≡ Some c) × ((cleaned {T = T} s (has_lease lease) seat).number ≡ c.number) × Frees c.line
freed_by T s lease None f e = let b : ⊥ = cc in absurd b
freed_by T s lease (Some c) f e =
    let g : clean_place c.place c.line ≡ Some (Some Free) = frees_by T s (has_lease lease) c (clean_place c.place c.line) e in
    (c, f, reached_by T s (has_lease lease) c (clean_place c.place c.line) g, frees_place c.place c.line g)

pub freed : (T : Type 0) (s : Service) (lease : ℕ) → (cleaning_over T s lease).reply ≡ Back (Some Free) → Freed T s lease
freed T s lease e =
    let f = freed_by T s lease (find_by (has_lease lease) s.seats) refl e in
    record { seat = f.0; found = f.1; number = f.2; frees = f.3 }

pub freed_seat : {T : Type 0} (max lease : ℕ) (calls : List (Call T)) (f : Freed T (service_after (new_service max) calls) lease)
    → seat_numbered (cleaning_over T (service_after (new_service max) calls) lease).number (service_after (new_service max) calls).seats ≡ Some f.seat
freed_seat {T} max lease calls f =
    subst (λ (n : ℕ). seat_numbered n (service_after (new_service max) calls).seats ≡ Some f.seat) (sym f.number) (seat_is max lease calls f.seat f.found)

pub clean_freed : {V T : Type 0} (engine : AnyServer V T) (max lease : ℕ) (calls : List (Call T)) (moves : List (Move T))
    → ((n : ℕ) → Alone (on n (steps (new_service max) calls)))
    → ((n : ℕ) (c : Seat) → seat_numbered n (service_after (new_service max) calls).seats ≡ Some c → c.line ≡ line_after new_line (acts_of (on n (steps (new_service max) calls))))
    → IsLawful engine → IsRun engine moves (on (cleaning_over T (service_after (new_service max) calls) lease).number (steps (new_service max) calls))
    → (cleaning_over T (service_after (new_service max) calls) lease).reply ≡ Back (Some Free)
    → IsLeftClean (owed_after engine None (new_link engine) moves) (link_after engine (new_link engine) moves)
clean_freed {V} {T} engine max lease calls moves alone by lawful run over =
    let f : Freed T (service_after (new_service max) calls) lease = freed T (service_after (new_service max) calls) lease over in
    let n : ℕ = (cleaning_over T (service_after (new_service max) calls) lease).number in
    let there : line_after new_line (acts_of (on n (steps (new_service max) calls))) ≡ f.seat.line = sym (by n f.seat (freed_seat max lease calls f)) in
    clean_there engine moves (on n (steps (new_service max) calls)) (alone n) lawful run
    (ap (λ (l : Line). l.stage) there ∙ f.frees.idle)
    (ap (λ (l : Line). is_clean l.heard.mark l.heard.descriptor) there ∙ f.frees.clean)
