-- Which connections a service has behind a call.
use Rattle.std.proofs.Common.{◌≡◌, ◌≢◌, ◌∙◌, ◌==◌, ℕ, suc, Bool, true, false, List, [], ◌∷◌, ◌++◌, Option, Some, None, is_some, inl, inr, refl, sym, ap, subst, if◌then◌else◌}
use Rattle.std.proofs.lemmas.Bool.{cases_eq, eqb-true}
use Rattle.tds_packet.specs.declared.status.Reset.TheVariants.{Full, KeepTransaction}
use Rattle.tds_client.specs.declared.fault.ClientRefusal.{ClientRefusal}
use Rattle.tds_wire.specs.declared.told.Token.{Token}
use Rattle.tds_service.specs.Parts.{Part}
use Rattle.tds_service.specs.Line as line
use Rattle.tds_service.specs.Line.{Line, Act}
use Rattle.tds_service.specs.History.{line_after}
use Rattle.tds_service.specs.Refusing.{packets, refusal_in}
use Rattle.tds_service.specs.Service as calls
use Rattle.tds_service.specs.Service.{Service, Call, Reply, ServiceStep, Place, Leased, Cleaning, Kept, Seat, find_by, change_by, has_lease, has_ticket, has_number, is_lendable, is_idle, may_keep, clean_place, drained, rests, rests_cleaned, does, nothing, acts_unless, seat_numbered, step, service_after}
use Rattle.tds_service.proofs.Numbered.{change_other, change_out}
use Rattle.tds_relay.specs.Pool as pool
use Rattle.tds_relay.specs.Pool.{Way, cleaning}
use Rattle.tds_relay.specs.Few.{HasNumber, SeatStays, has_seat}
use Rattle.tds_relay.specs.Ties.{is_sent, lost_by}
use Rattle.tds_relay.proofs.promises.Seats.{Distinct, found_meets}
use Rattle.tds_relay.proofs.promises.Tidy.{Tidy, step_rises}

pub differs : (b : Bool) (n m : ℕ) → (n == m) ≡ b → n ≢ m → (n == m) ≡ false
differs true n m e ne = absurd (ne (eqb-true n m e))
differs false n m e ne = e

pub unequal : (n m : ℕ) → n ≢ m → (n == m) ≡ false
unequal n m ne = differs (n == m) n m refl ne

-- ---- One is changed, and stays

either_some : (b : Bool) (c d : Seat) (x y : Option Seat) → is_some x ≡ is_some y → is_some (if b then Some c else x) ≡ is_some (if b then Some d else y)
either_some true c d x y e = refl
either_some false c d x y e = e

changed_by : (test : Seat → Bool) (n : ℕ) (place : Place) (l : Line) (c : Seat) (cs : List Seat) (b : Bool)
    → is_some (seat_numbered n (change_by test (Some place) l cs)) ≡ is_some (seat_numbered n cs)
    → is_some (seat_numbered n (if b then calls.placed c.number (Some place) l cs else c ∷ change_by test (Some place) l cs)) ≡ is_some (if c.number == n then Some c else seat_numbered n cs)
changed_by test n place l c cs true ih = either_some (c.number == n) (record { number = c.number; place = place; line = l }) c (seat_numbered n cs) (seat_numbered n cs) refl
changed_by test n place l c cs false ih = either_some (c.number == n) c c (seat_numbered n (change_by test (Some place) l cs)) (seat_numbered n cs) ih

changed : (test : Seat → Bool) (n : ℕ) (place : Place) (l : Line) (cs : List Seat) → is_some (seat_numbered n (change_by test (Some place) l cs)) ≡ is_some (seat_numbered n cs)
changed test n place l [] = refl
changed test n place l (c ∷ cs) = changed_by test n place l c cs (test c) (changed test n place l cs)

-- A call that takes none out, and adds none.
abbrev pub Keeps : Call Token → Type 0
Keeps calls.Lease = ⊥
Keeps (calls.Resume ticket) = Unit {0}
Keeps (calls.Ask lease) = Unit {0}
Keeps (calls.Put lease count) = Unit {0}
Keeps (calls.Finish lease count) = Unit {0}
Keeps (calls.Cancel lease) = Unit {0}
Keeps (calls.GiveBack lease) = ⊥
Keeps (calls.Clean number) = Unit {0}
Keeps (calls.Cleaned lease) = ⊥
Keeps (calls.Keep lease) = Unit {0}
Keeps (calls.Abandon ticket) = ⊥
Keeps (calls.Came number part) = Unit {0}
Keeps (calls.Lost number) = ⊥
Keeps (calls.Without call) = Unit {0}

module _ (s : Service) (n : ℕ) where
  abbrev Same : Service → Type 0
  Same t = has_seat n t ≡ has_seat n s

  pub does_same : (given : ℕ) (test : Seat → Bool) (c : Seat) (place : Place) (all : List (Act Token)) (reply : Reply) → Same (does s given test c (Some place) all reply).service
  does_same given test c place all reply = changed test n place (line_after c.line all) s.seats

  if_same : (b : Bool) (t u : ServiceStep Token) → Same t.service → Same u.service → Same (if b then t else u).service
  if_same true t u h k = h
  if_same false t u h k = k

  unless_same : (test : Seat → Bool) (c : Seat) (all : List (Act Token)) (why : Option ClientRefusal) → Same (acts_unless s test c all why).service
  unless_same test c all None = does_same s.given test c c.place all calls.Did
  unless_same test c all (Some why) = refl

  acts_same : (test : Seat → Bool) (first : Act Token) (all : List (Act Token)) (o : Option Seat) → Same (calls.acts s test first all o).service
  acts_same test first all None = refl
  acts_same test first all (Some c) = unless_same test c all (refusal_in (line.line_turn c.line first).answer)

  resumes_same : (test : Seat → Bool) (o : Option Seat) → Same (calls.resumes {T = Token} s test o).service
  resumes_same test None = refl
  resumes_same test (Some c) =
      if_same (is_idle c.line.stage) (does s (suc s.given) test c (Some (Leased (suc s.given))) (line.Mark KeepTransaction ∷ []) (calls.Lent (suc s.given) c.number true)) (nothing s calls.NotNow)
      (does_same (suc s.given) test c (Leased (suc s.given)) (line.Mark KeepTransaction ∷ []) (calls.Lent (suc s.given) c.number true)) refl

  cleans_same : (test : Seat → Bool) (o : Option Seat) → Same (calls.cleans {T = Token} s test o).service
  cleans_same test None = refl
  cleans_same test (Some c) =
      if_same (is_lendable c) (does s (suc s.given) test c (Some (Cleaning (suc s.given))) (line.Mark Full ∷ []) (calls.Lent (suc s.given) c.number true)) (nothing s calls.NotNow)
      (does_same (suc s.given) test c (Cleaning (suc s.given)) (line.Mark Full ∷ []) (calls.Lent (suc s.given) c.number true)) refl

  keeps_same : (test : Seat → Bool) (o : Option Seat) → Same (calls.keeps_it {T = Token} s test o).service
  keeps_same test None = refl
  keeps_same test (Some c) =
      if_same (may_keep c) (does s (suc s.given) test c (Some (Kept (suc s.given))) [] (calls.Ticket (suc s.given))) (nothing s calls.NotNow)
      (does_same (suc s.given) test c (Kept (suc s.given)) [] (calls.Ticket (suc s.given))) refl

  hears_same : (test : Seat → Bool) (part : Part Token) (o : Option Seat) → Same (calls.hears s test part o).service
  hears_same test part None = refl
  hears_same test part (Some c) =
      does_same s.given test c (drained c.place (line_after c.line (line.Come part ∷ [])).stage) (line.Come part ∷ []) calls.Did

  pub step_same : (call : Call Token) → Keeps call → Same (step s call).service
  step_same calls.Lease h = absurd h
  step_same (calls.Resume ticket) h = resumes_same (has_ticket ticket) (find_by (has_ticket ticket) s.seats)
  step_same (calls.Ask lease) h = acts_same (has_lease lease) line.Ask (line.Ask ∷ []) (find_by (has_lease lease) s.seats)
  step_same (calls.Put lease count) h = acts_same (has_lease lease) (line.Send false) (packets count) (find_by (has_lease lease) s.seats)
  step_same (calls.Finish lease count) h = acts_same (has_lease lease) (line.Send true) (packets count ++ line.Send true ∷ []) (find_by (has_lease lease) s.seats)
  step_same (calls.Cancel lease) h = acts_same (has_lease lease) line.Cancel (line.Cancel ∷ []) (find_by (has_lease lease) s.seats)
  step_same (calls.GiveBack lease) h = absurd h
  step_same (calls.Clean number) h = cleans_same (has_number number) (find_by (has_number number) s.seats)
  step_same (calls.Cleaned lease) h = absurd h
  step_same (calls.Keep lease) h = keeps_same (has_lease lease) (find_by (has_lease lease) s.seats)
  step_same (calls.Abandon ticket) h = absurd h
  step_same (calls.Came number part) h = hears_same (has_number number) part (find_by (has_number number) s.seats)
  step_same (calls.Lost number) h = absurd h
  step_same (calls.Without call) h = refl

-- ---- One is taken out, or stays

pub same_stays : (number : ℕ) (s t : Service) → ((n : ℕ) → has_seat n t ≡ has_seat n s) → SeatStays true number s t
same_stays number s t same = record { here = same number; others = λ other ne. same other }

pub all_same : (number : ℕ) (s t : Service) → SeatStays true number s t → (n : ℕ) → has_seat n t ≡ has_seat n s
all_same number s t h n = elim (cases_eq n number) [
  | inl is ↦ subst (λ (k : ℕ). has_seat k t ≡ has_seat k s) (sym is) h.here
  | inr ne ↦ h.others n ne
]

pub stays_refl : (number : ℕ) (s : Service) → SeatStays true number s s
stays_refl number s = record { here = refl; others = λ other ne. refl }

-- where there is none
pub unknown_stays : (stays : Bool) (number : ℕ) (s : Service) → seat_numbered number s.seats ≡ None → SeatStays stays number s s
unknown_stays true number s none = stays_refl number s
unknown_stays false number s none = record { here = ap is_some none; others = λ other ne. refl }

-- one call behind another
pub stays_both : (stays : Bool) (number : ℕ) (s t u : Service) → SeatStays true number s t → SeatStays stays number t u → SeatStays stays number s u
stays_both true number s t u h k = record { here = k.here ∙ h.here; others = λ other ne. k.others other ne ∙ h.others other ne }
stays_both false number s t u h k = record { here = k.here; others = λ other ne. k.others other ne ∙ h.others other ne }

-- behind one that took it out
pub gone_both : (stays : Bool) (number : ℕ) (s t u : Service) → SeatStays false number s t → SeatStays stays number t u → SeatStays false number s u
gone_both true number s t u h k = record { here = k.here ∙ h.here; others = λ other ne. k.others other ne ∙ h.others other ne }
gone_both false number s t u h k = record { here = k.here; others = λ other ne. k.others other ne ∙ h.others other ne }

module _ (s : Service) (distinct : Distinct s.seats) (number : ℕ) where
  abbrev StaysIf : Option Place → Service → Type 0
  StaysIf place t = SeatStays (is_some place) number s t

  put_stays : (given : ℕ) (test : Seat → Bool) (c : Seat) (place : Option Place) (all : List (Act Token)) (reply : Reply) → find_by test s.seats ≡ Some c → c.number ≡ number
      → StaysIf place (does s given test c place all reply).service
  put_stays given test c (Some place) all reply e is = same_stays number s (does s given test c (Some place) all reply).service (λ n. does_same s n given test c place all reply)
  put_stays given test c None all reply e is =
      let l = line_after c.line all in
      record {
        here = ap is_some (subst (λ (k : ℕ). seat_numbered k (change_by test None l s.seats) ≡ None) is (change_out test c l s.seats distinct e));
        others = λ other ne. ap is_some (change_other test other c None l s.seats (unequal c.number other (λ same. ne (sym same ∙ is))) e);
      }

  lost_by_stays : (o : Option Seat) → seat_numbered number s.seats ≡ o → SeatStays false number s (calls.loses {T = Token} s (has_number number) o).service
  lost_by_stays None e = record { here = ap is_some e; others = λ other ne. refl }
  lost_by_stays (Some c) e = put_stays s.given (has_number number) c None (line.Lose ∷ []) (calls.Back None) e (eqb-true c.number number (found_meets (has_number number) c s.seats e))

  pub lost_stays : SeatStays false number s (lost_by s number)
  lost_stays = lost_by_stays (seat_numbered number s.seats) refl

  gives_stays : (lease : ℕ) (o : Option Seat) (p : Option Place) → find_by (has_lease lease) s.seats ≡ o → HasNumber lease number s → (calls.gives_back {T = Token} s (has_lease lease) o).reply ≡ calls.Back p
      → StaysIf p (calls.gives_back {T = Token} s (has_lease lease) o).service
  gives_stays lease None p e on reply = absurd (let u : ⊥ = cc in u)
  gives_stays lease (Some c) p e on reply =
      let place = rests (line_after {T = Token} c.line (line.Cancel ∷ [])).stage in
      let same : place ≡ p = cc in
      subst (λ (q : Option Place). StaysIf q (does {T = Token} s s.given (has_lease lease) c place (line.Cancel ∷ []) (calls.Back place)).service) same
      (put_stays s.given (has_lease lease) c place (line.Cancel ∷ []) (calls.Back place) e (on c e))

  pub given_stays : (lease : ℕ) (p : Option Place) → HasNumber lease number s → (step {T = Token} s (calls.GiveBack lease)).reply ≡ calls.Back p → StaysIf p (step {T = Token} s (calls.GiveBack lease)).service
  given_stays lease p on reply = gives_stays lease (find_by (has_lease lease) s.seats) p refl on reply

  rests_stays : (lease : ℕ) (c : Seat) (o : Option (Option Place)) (p : Option Place) → find_by (has_lease lease) s.seats ≡ Some c → c.number ≡ number
      → (rests_cleaned {T = Token} s (has_lease lease) c o).reply ≡ calls.Back p → StaysIf p (rests_cleaned {T = Token} s (has_lease lease) c o).service
  rests_stays lease c None p e is reply = absurd (let u : ⊥ = cc in u)
  rests_stays lease c (Some place) p e is reply =
      let same : place ≡ p = cc in
      subst (λ (q : Option Place). StaysIf q (does {T = Token} s s.given (has_lease lease) c place [] (calls.Back place)).service) same
      (put_stays s.given (has_lease lease) c place [] (calls.Back place) e is)

  cleaned_by_stays : (lease : ℕ) (o : Option Seat) (p : Option Place) → find_by (has_lease lease) s.seats ≡ o → HasNumber lease number s → (calls.cleaned {T = Token} s (has_lease lease) o).reply ≡ calls.Back p
      → StaysIf p (calls.cleaned {T = Token} s (has_lease lease) o).service
  cleaned_by_stays lease None p e on reply = absurd (let u : ⊥ = cc in u)
  cleaned_by_stays lease (Some c) p e on reply = rests_stays lease c (clean_place c.place c.line) p e (on c e) reply

  pub cleaned_stays : (lease : ℕ) (p : Option Place) → HasNumber lease number s → (step {T = Token} s (calls.Cleaned lease)).reply ≡ calls.Back p → StaysIf p (step {T = Token} s (calls.Cleaned lease)).service
  cleaned_stays lease p on reply = cleaned_by_stays lease (find_by (has_lease lease) s.seats) p refl on reply

-- ---- Calls, one after the other

abbrev KeepAll : List (Call Token) → Type 0
KeepAll [] = Unit {0}
KeepAll (call ∷ all) = Keeps call × KeepAll all

all_keep : (s : Service) (n : ℕ) (all : List (Call Token)) → KeepAll all → has_seat n (service_after s all) ≡ has_seat n s
all_keep s n [] h = refl
all_keep s n (call ∷ all) h = all_keep (step s call).service n all h.1 ∙ step_same s n call h.0

then_lost : (s : Service) (number : ℕ) (all : List (Call Token)) → Tidy s → KeepAll all → SeatStays false number s (service_after s (all ++ calls.Lost number ∷ []))
then_lost s number [] tidy h = lost_stays s tidy.distinct number
then_lost s number (call ∷ all) tidy h =
    let t = (step s call).service in
    stays_both false number s t (service_after t (all ++ calls.Lost number ∷ [])) (same_stays number s t (λ n. step_same s n call h.0)) (then_lost t number all (step_rises s call tidy).tidy h.1)

cleaning_by : (s : Service) (number lease : ℕ) (way : Way) → Tidy s → SeatStays (is_sent way) number s (service_after s (pool.cleaning_by number lease way))
cleaning_by s number lease (pool.Sent put finish) tidy =
    let all : List (Call Token) = calls.Clean number ∷ calls.Ask lease ∷ calls.Put lease put ∷ calls.Finish lease finish ∷ [] in
    same_stays number s (service_after s all) (λ n. all_keep s n all (tt, (tt, (tt, (tt, tt)))))
cleaning_by s number lease pool.NotLent tidy = then_lost s number [] tidy tt
cleaning_by s number lease pool.NotAsked tidy = then_lost s number (calls.Clean number ∷ []) tidy (tt, tt)
cleaning_by s number lease pool.NotPut tidy = then_lost s number (calls.Clean number ∷ calls.Ask lease ∷ []) tidy (tt, (tt, tt))
cleaning_by s number lease (pool.NotEnded put) tidy = then_lost s number (calls.Clean number ∷ calls.Ask lease ∷ calls.Put lease put ∷ []) tidy (tt, (tt, (tt, tt)))

pub cleaning_stays : (s : Service) (number : ℕ) (way : Way) → Tidy s → SeatStays (is_sent way) number s (service_after s (cleaning s number way))
cleaning_stays s number way tidy = cleaning_by s number (suc s.given) way tidy
