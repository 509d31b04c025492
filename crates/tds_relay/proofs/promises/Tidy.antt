-- Numbers of connections and of leases are new, along any calls.
use Rattle.std.proofs.Common.{◌≡◌, ◌==◌, ◌≤◌, ℕ, suc, Bool, true, false, List, [], ◌∷◌, ◌++◌, length, refl, arith}
use Rattle.std.specs.Prelude.{Option, Some, None, nat_lt, if◌then◌else◌}
use Rattle.tds_client.specs.declared.fault.ClientRefusal.{ClientRefusal}
use Rattle.tds_wire.specs.declared.told.Token.{Token}
use Rattle.tds_service.specs.Parts.{Part}
use Rattle.tds_packet.specs.declared.status.Reset.TheVariants.{Full, KeepTransaction}
use Rattle.tds_service.specs.Line as line
use Rattle.tds_service.specs.Line.{Line, Act, LineStage, new_line}
use Rattle.tds_service.specs.History.{line_after}
use Rattle.tds_service.specs.Refusing.{packets, refusal_in}
use Rattle.tds_service.specs.Service as calls
use Rattle.tds_service.specs.Service.{Service, Call, Reply, ServiceStep, AllInUse, Place, Leased, Cleaning, Kept, Free, Draining, Seat, find_by, change_by, has_lease, has_ticket, has_number, holds, is_lendable, is_idle, may_keep, clean_place, drained, is_clean, rests_clean, rests_cleaned, does, nothing, acts_unless, opens, step, service_after, rests}
use Rattle.tds_relay.specs.Promises.{Each}
use Rattle.tds_relay.proofs.promises.Seats.{Distinct, Fits, each_weaker, each_added, each_found, each_changed, distinct_changed, distinct_added}

-- a lease that was given
abbrev pub WithinAt : ℕ → Place → Type 0
WithinAt given (Leased lease) = lease ≤ given
WithinAt given (Cleaning lease) = lease ≤ given
WithinAt given (Kept ticket) = Unit {0}
WithinAt given Free = Unit {0}
WithinAt given Draining = Unit {0}

abbrev pub WithinIn : ℕ → Seat → Type 0
WithinIn given c = WithinAt given c.place

abbrev pub UpTo : ℕ → Seat → Type 0
UpTo last c = c.number ≤ last

pub record Tidy (s : Service) : Type 0 where
  pub distinct : Distinct s.seats
  pub upto : Each (UpTo s.last) s.seats
  pub within : Each (WithinIn s.given) s.seats

pub record Rises (s t : Service) : Type 0 where
  pub tidy : Tidy t
  pub rises : s.given ≤ t.given

pub nothing_rises : (s : Service) → Tidy s → Rises s s
nothing_rises s tidy = record { tidy = tidy; rises = omega arith }

more_within : (given more : ℕ) (place : Place) → given ≤ more → WithinAt given place → WithinAt more place
more_within given more (Leased lease) le h = omega arith
more_within given more (Cleaning lease) le h = omega arith
more_within given more (Kept ticket) le h = tt
more_within given more Free le h = tt
more_within given more Draining le h = tt

abbrev PlacedWithin : ℕ → Option Place → Type 0
PlacedWithin given None = Unit {0}
PlacedWithin given (Some place) = WithinAt given place

fits_within : (given n : ℕ) (place : Option Place) (l : Line) → PlacedWithin given place → Fits (WithinIn given) n place l
fits_within given n None l h = tt
fits_within given n (Some place) l h = h

fits_upto : (last n : ℕ) (place : Option Place) (l : Line) → n ≤ last → Fits (UpTo last) n place l
fits_upto last n None l h = tt
fits_upto last n (Some place) l h = h

pub does_rises : {T : Type 0} (s : Service) (given : ℕ) (test : Seat → Bool) (c : Seat) (place : Option Place) (all : List (Act T)) (reply : Reply) → Tidy s → s.given ≤ given
    → find_by test s.seats ≡ Some c → PlacedWithin given place → Rises s (does s given test c place all reply).service
does_rises s given test c place all reply tidy le e p =
    let l = line_after c.line all in
    record {
      tidy = record {
        distinct = distinct_changed test place l s.seats tidy.distinct;
        upto = each_changed (UpTo s.last) (UpTo s.last) test place l c s.seats e tidy.distinct tidy.upto (λ x h other. h)
            (fits_upto s.last c.number place l (each_found (UpTo s.last) test c s.seats tidy.upto e));
        within = each_changed (WithinIn s.given) (WithinIn given) test place l c s.seats e tidy.distinct tidy.within (λ x h other. more_within s.given given x.place le h)
            (fits_within given c.number place l p);
      };
      rises = le;
    }

opens_rises : (s : Service) (room : Bool) → Tidy s → Rises s (opens {T = Token} s room).service
opens_rises s false tidy = nothing_rises s tidy
opens_rises s true tidy =
    let c : Seat = record { number = suc s.last; place = Leased (suc s.given); line = new_line } in
    record {
      tidy = record {
        distinct = distinct_added s.last c s.seats tidy.distinct tidy.upto (omega arith);
        upto = each_added (UpTo (suc s.last)) c s.seats (each_weaker (UpTo s.last) (UpTo (suc s.last)) (λ x h. omega arith) s.seats tidy.upto) (omega arith);
        within = each_added (WithinIn (suc s.given)) c s.seats
            (each_weaker (WithinIn s.given) (WithinIn (suc s.given)) (λ x h. more_within s.given (suc s.given) x.place (omega arith) h) s.seats tidy.within) (omega arith);
      };
      rises = omega arith;
    }

found_within : (s : Service) (test : Seat → Bool) (c : Seat) → Tidy s → find_by test s.seats ≡ Some c → WithinAt s.given c.place
found_within s test c tidy e = each_found (WithinIn s.given) test c s.seats tidy.within e

unless_rises : {T : Type 0} (s : Service) (test : Seat → Bool) (c : Seat) (all : List (Act T)) (why : Option ClientRefusal) → Tidy s → find_by test s.seats ≡ Some c
    → Rises s (acts_unless s test c all why).service
unless_rises s test c all None tidy e = does_rises s s.given test c (Some c.place) all calls.Did tidy (omega arith) e (found_within s test c tidy e)
unless_rises s test c all (Some why) tidy e = nothing_rises s tidy

acts_rises : {T : Type 0} (s : Service) (test : Seat → Bool) (first : Act T) (all : List (Act T)) (o : Option Seat) → find_by test s.seats ≡ o → Tidy s
    → Rises s (calls.acts s test first all o).service
acts_rises s test first all None e tidy = nothing_rises s tidy
acts_rises s test first all (Some c) e tidy = unless_rises s test c all (refusal_in (line.line_turn c.line first).answer) tidy e

rests_within : (given : ℕ) (stage : LineStage) → PlacedWithin given (rests stage)
rests_within given line.Idle = tt
rests_within given (line.Sending begun) = tt
rests_within given line.Reading = tt
rests_within given line.Cancelling = tt
rests_within given (line.Broken fault) = tt

drains_within : (given : ℕ) (b : Bool) → WithinAt given (if b then Free else Draining)
drains_within given true = tt
drains_within given false = tt

drained_within : (given : ℕ) (place : Place) (stage : LineStage) → WithinAt given place → WithinAt given (drained place stage)
drained_within given (Leased lease) stage h = h
drained_within given (Cleaning lease) stage h = h
drained_within given (Kept ticket) stage h = h
drained_within given Free stage h = h
drained_within given Draining stage h = drains_within given (is_idle stage)

lends_rises : (s : Service) (o : Option Seat) → find_by is_lendable s.seats ≡ o → Tidy s → Rises s (calls.lends {T = Token} s o).service
lends_rises s None e tidy = opens_rises s (nat_lt (length s.seats) s.max) tidy
lends_rises s (Some c) e tidy = does_rises {T = Token} s (suc s.given) is_lendable c (Some (Leased (suc s.given))) (line.Mark Full ∷ []) (calls.Lent (suc s.given) c.number true) tidy (omega arith) e (let u : suc s.given ≤ suc s.given = omega arith in u)

resumes_by : (s : Service) (test : Seat → Bool) (c : Seat) (b : Bool) → find_by test s.seats ≡ Some c → Tidy s
    → Rises s (if b then does {T = Token} s (suc s.given) test c (Some (Leased (suc s.given))) (line.Mark KeepTransaction ∷ []) (calls.Lent (suc s.given) c.number true) else nothing s calls.NotNow).service
resumes_by s test c true e tidy = does_rises {T = Token} s (suc s.given) test c (Some (Leased (suc s.given))) (line.Mark KeepTransaction ∷ []) (calls.Lent (suc s.given) c.number true) tidy (omega arith) e (let u : suc s.given ≤ suc s.given = omega arith in u)
resumes_by s test c false e tidy = nothing_rises s tidy

resumes_rises : (s : Service) (test : Seat → Bool) (o : Option Seat) → find_by test s.seats ≡ o → Tidy s → Rises s (calls.resumes {T = Token} s test o).service
resumes_rises s test None e tidy = nothing_rises s tidy
resumes_rises s test (Some c) e tidy = resumes_by s test c (is_idle c.line.stage) e tidy

gives_back_rises : (s : Service) (test : Seat → Bool) (o : Option Seat) → find_by test s.seats ≡ o → Tidy s → Rises s (calls.gives_back {T = Token} s test o).service
gives_back_rises s test None e tidy = nothing_rises s tidy
gives_back_rises s test (Some c) e tidy =
    let stage = (line_after {T = Token} c.line (line.Cancel ∷ [])).stage in
    does_rises {T = Token} s s.given test c (rests stage) (line.Cancel ∷ []) (calls.Back (rests stage)) tidy (omega arith) e (rests_within s.given stage)

cleans_by : (s : Service) (test : Seat → Bool) (c : Seat) (b : Bool) → find_by test s.seats ≡ Some c → Tidy s
    → Rises s (if b then does {T = Token} s (suc s.given) test c (Some (Cleaning (suc s.given))) (line.Mark Full ∷ []) (calls.Lent (suc s.given) c.number true) else nothing s calls.NotNow).service
cleans_by s test c true e tidy = does_rises {T = Token} s (suc s.given) test c (Some (Cleaning (suc s.given))) (line.Mark Full ∷ []) (calls.Lent (suc s.given) c.number true) tidy (omega arith) e (let u : suc s.given ≤ suc s.given = omega arith in u)
cleans_by s test c false e tidy = nothing_rises s tidy

cleans_rises : (s : Service) (test : Seat → Bool) (o : Option Seat) → find_by test s.seats ≡ o → Tidy s → Rises s (calls.cleans {T = Token} s test o).service
cleans_rises s test None e tidy = nothing_rises s tidy
cleans_rises s test (Some c) e tidy = cleans_by s test c (is_lendable c) e tidy

clean_if : (given : ℕ) (b : Bool) → PlacedWithin given (if b then Some Free else None)
clean_if given true = tt
clean_if given false = tt

abbrev AllPlaced : ℕ → Option (Option Place) → Type 0
AllPlaced given None = Unit {0}
AllPlaced given (Some place) = PlacedWithin given place

rests_clean_within : (given : ℕ) (clean : Bool) (stage : LineStage) → AllPlaced given (rests_clean clean stage)
rests_clean_within given clean line.Idle = clean_if given clean
rests_clean_within given clean (line.Sending begun) = tt
rests_clean_within given clean line.Reading = tt
rests_clean_within given clean line.Cancelling = tt
rests_clean_within given clean (line.Broken fault) = tt

clean_place_within : (given : ℕ) (place : Place) (l : Line) → AllPlaced given (clean_place place l)
clean_place_within given (Leased lease) l = tt
clean_place_within given (Cleaning lease) l = rests_clean_within given (is_clean l.heard.mark l.heard.descriptor) l.stage
clean_place_within given (Kept ticket) l = tt
clean_place_within given Free l = tt
clean_place_within given Draining l = tt

cleaned_by : (s : Service) (test : Seat → Bool) (c : Seat) (o : Option (Option Place)) → AllPlaced s.given o → find_by test s.seats ≡ Some c → Tidy s
    → Rises s (rests_cleaned {T = Token} s test c o).service
cleaned_by s test c None p e tidy = nothing_rises s tidy
cleaned_by s test c (Some place) p e tidy = does_rises {T = Token} s s.given test c place [] (calls.Back place) tidy (omega arith) e p

cleaned_rises : (s : Service) (test : Seat → Bool) (o : Option Seat) → find_by test s.seats ≡ o → Tidy s → Rises s (calls.cleaned {T = Token} s test o).service
cleaned_rises s test None e tidy = nothing_rises s tidy
cleaned_rises s test (Some c) e tidy = cleaned_by s test c (clean_place c.place c.line) (clean_place_within s.given c.place c.line) e tidy

keeps_by : (s : Service) (test : Seat → Bool) (c : Seat) (b : Bool) → find_by test s.seats ≡ Some c → Tidy s
    → Rises s (if b then does {T = Token} s (suc s.given) test c (Some (Kept (suc s.given))) [] (calls.Ticket (suc s.given)) else nothing s calls.NotNow).service
keeps_by s test c true e tidy = does_rises {T = Token} s (suc s.given) test c (Some (Kept (suc s.given))) [] (calls.Ticket (suc s.given)) tidy (omega arith) e tt
keeps_by s test c false e tidy = nothing_rises s tidy

keeps_rises : (s : Service) (test : Seat → Bool) (o : Option Seat) → find_by test s.seats ≡ o → Tidy s → Rises s (calls.keeps_it {T = Token} s test o).service
keeps_rises s test None e tidy = nothing_rises s tidy
keeps_rises s test (Some c) e tidy = keeps_by s test c (may_keep c) e tidy

abandons_rises : (s : Service) (test : Seat → Bool) (o : Option Seat) → find_by test s.seats ≡ o → Tidy s → Rises s (calls.abandons {T = Token} s test o).service
abandons_rises s test None e tidy = nothing_rises s tidy
abandons_rises s test (Some c) e tidy =
    does_rises {T = Token} s s.given test c (rests c.line.stage) [] (calls.Back (rests c.line.stage)) tidy (omega arith) e (rests_within s.given c.line.stage)

hears_rises : (s : Service) (test : Seat → Bool) (part : Part Token) (o : Option Seat) → find_by test s.seats ≡ o → Tidy s → Rises s (calls.hears s test part o).service
hears_rises s test part None e tidy = nothing_rises s tidy
hears_rises s test part (Some c) e tidy =
    let place = drained c.place (line_after c.line (line.Come part ∷ [])).stage in
    does_rises s s.given test c (Some place) (line.Come part ∷ []) calls.Did tidy (omega arith) e (drained_within s.given c.place _ (found_within s test c tidy e))

loses_rises : (s : Service) (test : Seat → Bool) (o : Option Seat) → find_by test s.seats ≡ o → Tidy s → Rises s (calls.loses {T = Token} s test o).service
loses_rises s test None e tidy = nothing_rises s tidy
loses_rises s test (Some c) e tidy = does_rises {T = Token} s s.given test c None (line.Lose ∷ []) (calls.Back None) tidy (omega arith) e tt

pub step_rises : (s : Service) (call : Call Token) → Tidy s → Rises s (step s call).service
step_rises s calls.Lease tidy = lends_rises s _ refl tidy
step_rises s (calls.Resume ticket) tidy = resumes_rises s (has_ticket ticket) _ refl tidy
step_rises s (calls.Ask lease) tidy = acts_rises {T = Token} s (has_lease lease) line.Ask (line.Ask ∷ []) _ refl tidy
step_rises s (calls.Put lease count) tidy = acts_rises {T = Token} s (has_lease lease) (line.Send false) (packets count) _ refl tidy
step_rises s (calls.Finish lease count) tidy = acts_rises {T = Token} s (has_lease lease) (line.Send true) (packets count ++ line.Send true ∷ []) _ refl tidy
step_rises s (calls.Cancel lease) tidy = acts_rises {T = Token} s (has_lease lease) line.Cancel (line.Cancel ∷ []) _ refl tidy
step_rises s (calls.GiveBack lease) tidy = gives_back_rises s (has_lease lease) _ refl tidy
step_rises s (calls.Clean number) tidy = cleans_rises s (has_number number) _ refl tidy
step_rises s (calls.Cleaned lease) tidy = cleaned_rises s (has_lease lease) _ refl tidy
step_rises s (calls.Keep lease) tidy = keeps_rises s (has_lease lease) _ refl tidy
step_rises s (calls.Abandon ticket) tidy = abandons_rises s (has_ticket ticket) _ refl tidy
step_rises s (calls.Came number part) tidy = hears_rises s (has_number number) part _ refl tidy
step_rises s (calls.Lost number) tidy = loses_rises s (has_number number) _ refl tidy
step_rises s (calls.Without call) tidy = nothing_rises s tidy

pub all_rise : (s : Service) (all : List (Call Token)) → Tidy s → Rises s (service_after s all)
all_rise s [] tidy = nothing_rises s tidy
all_rise s (call ∷ all) tidy =
    let one = step_rises s call tidy in
    let others = all_rise (step s call).service all one.tidy in
    record { tidy = others.tidy; rises = omega (arith, one.rises, others.rises) }

pub next_other : (given : ℕ) (place : Place) → WithinAt given place → holds (suc given) place ≡ false
next_other given (Leased lease) h = let u : (lease == suc given) ≡ false = grind arith in u
next_other given (Cleaning lease) h = let u : (lease == suc given) ≡ false = grind arith in u
next_other given (Kept ticket) h = refl
next_other given Free h = refl
next_other given Draining h = refl

-- The next lease is nobody's.
none_next : (given : ℕ) (cs : List Seat) → Each (WithinIn given) cs → find_by (has_lease (suc given)) cs ≡ None
none_next given [] h = refl
none_next given (c ∷ cs) h = rw (next_other given c.place h.0) (none_next given cs h.1)

pub next_is_new : (s : Service) → Tidy s → find_by (has_lease (suc s.given)) s.seats ≡ None
next_is_new s tidy = none_next s.given s.seats tidy.within
