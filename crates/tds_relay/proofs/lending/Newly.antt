-- Which connections come to be cleaned: by a call of the service, and by events.
use Rattle.std.proofs.Common.{◌≡◌, ◌≢◌, ◌∙◌, ◌==◌, ℕ, suc, Bool, true, false, List, [], ◌∷◌, ◌++◌, Option, Some, None, option_map, length, refl, sym, ap, subst, arith, if◌then◌else◌}
use Rattle.std.specs.Prelude.{nat_lt}
use Rattle.std.proofs.lemmas.Bool.{eqb-true}
use Rattle.tds_packet.specs.declared.status.Reset.TheVariants.{Full, KeepTransaction}
use Rattle.tds_client.specs.declared.fault.ClientRefusal.{ClientRefusal}
use Rattle.tds_wire.specs.declared.told.Token.{Token}
use Rattle.tds_service.specs.Parts.{Part}
use Rattle.tds_service.specs.Line as line
use Rattle.tds_service.specs.Line.{Line, Act, LineStage, new_line}
use Rattle.tds_service.specs.History.{line_after}
use Rattle.tds_service.specs.Refusing.{packets, refusal_in}
use Rattle.tds_service.specs.Service as calls
use Rattle.tds_service.specs.Service.{Service, Call, Reply, ServiceStep, Place, Leased, Cleaning, Kept, Free, Draining, Seat, find_by, change_by, has_lease, has_ticket, has_number, is_lendable, is_idle, is_clean, may_keep, clean_place, drained, rests, rests_clean, rests_cleaned, does, nothing, acts_unless, lease_at, seat_numbered, step, service_after}
use Rattle.tds_service.proofs.Numbered.{change_here, change_other, change_out, is_found}
use Rattle.tds_relay.specs.declared.pool.Hold.{Hold}
use Rattle.tds_relay.specs.Pool as pool
use Rattle.tds_relay.specs.Pool.{Pool, Event, Action, Way, Hearing, cleaned_by, cleaning, cleaning_by, find_key, find_lease, frees, lent_in, pool_after, releasing, settles, settles_of, ticket_in, turn}
use Rattle.tds_relay.specs.Places.{seated}
use Rattle.tds_relay.specs.Promises.{Each}
use Rattle.tds_relay.specs.Ties.{Causes, Connection, IsReached, LedOn, LedTo, Reaches, Turns}
use Rattle.tds_relay.proofs.promises.Seats.{found_meets}
use Rattle.tds_relay.proofs.promises.Tidy.{Tidy, step_rises}
use Rattle.tds_relay.proofs.spared.Held.{sound_at}

-- A call that cleans no connection of this number.
abbrev pub Off : ℕ → Call Token → Type 0
Off n (calls.Clean m) = n ≢ m
Off n _ = Unit {0}

abbrev pub AllOff : ℕ → List (Call Token) → Type 0
AllOff n [] = Unit {0}
AllOff n (call ∷ all) = Off n call × AllOff n all

-- This lease cleans the one of this number.
abbrev AtIn : ℕ → ℕ → List Seat → Type 0
AtIn n lease cs = option_map (λ (c : Seat). c.place) (seat_numbered n cs) ≡ Some (Cleaning lease)

abbrev pub At : ℕ → ℕ → Service → Type 0
At n lease s = AtIn n lease s.seats

place_of : (c : Seat) (lease : ℕ) (o : Option Seat) → o ≡ Some c → option_map (λ (x : Seat). x.place) o ≡ Some (Cleaning lease) → c.place ≡ Cleaning lease
place_of c lease o is at = let u : Some c.place ≡ Some (Cleaning lease) = sym (ap (option_map (λ (x : Seat). x.place)) is) ∙ at in cc

gone_at : (lease : ℕ) (o : Option Seat) → o ≡ None → option_map (λ (x : Seat). x.place) o ≡ Some (Cleaning lease) → ⊥
gone_at lease o is at =
    let u : None ≡ Some (Cleaning lease) = sym (ap (option_map (λ (x : Seat). x.place)) is) ∙ at in
    let v : ⊥ = cc in
    v

added_by : (n lease : ℕ) (c x : Seat) (cs : List Seat) (b : Bool) → (AtIn n lease (cs ++ c ∷ []) → AtIn n lease cs)
    → option_map (λ (y : Seat). y.place) (if b then Some x else seat_numbered n (cs ++ c ∷ [])) ≡ Some (Cleaning lease)
    → option_map (λ (y : Seat). y.place) (if b then Some x else seat_numbered n cs) ≡ Some (Cleaning lease)
added_by n lease c x cs true ih at = at
added_by n lease c x cs false ih at = ih at

added_last : (lease : ℕ) (c : Seat) (b : Bool) → c.place ≢ Cleaning lease → option_map (λ (y : Seat). y.place) (if b then Some c else None) ≡ Some (Cleaning lease) → ⊥
added_last lease c true other at = other (place_of c lease (Some c) refl at)
added_last lease c false other at = gone_at lease None refl at

added : (n lease : ℕ) (c : Seat) (cs : List Seat) → c.place ≢ Cleaning lease → AtIn n lease (cs ++ c ∷ []) → AtIn n lease cs
added n lease c [] other at = absurd (added_last lease c (c.number == n) other at)
added n lease c (x ∷ cs) other at = added_by n lease c x cs (x.number == n) (added n lease c cs other) at

leased_not : (one lease : ℕ) → Leased one ≡ Cleaning lease → ⊥
leased_not one lease e = let u : ⊥ = cc in u

kept_not : (one lease : ℕ) → Kept one ≡ Cleaning lease → ⊥
kept_not one lease e = let u : ⊥ = cc in u

some_place : (p : Place) (lease : ℕ) → Some p ≡ Some (Cleaning lease) → p ≡ Cleaning lease
some_place p lease e = cc

rests_not : (stage : LineStage) (lease : ℕ) → rests stage ≡ Some (Cleaning lease) → ⊥
rests_not line.Idle lease e = let u : ⊥ = cc in u
rests_not (line.Sending begun) lease e = let u : ⊥ = cc in u
rests_not line.Reading lease e = let u : ⊥ = cc in u
rests_not line.Cancelling lease e = let u : ⊥ = cc in u
rests_not (line.Broken fault) lease e = let u : ⊥ = cc in u

if_free : (clean : Bool) (lease : ℕ) (place : Option Place) → Some (if clean then Some Free else None) ≡ Some place → place ≡ Some (Cleaning lease) → ⊥
if_free true lease place e is = let u : ⊥ = cc in u
if_free false lease place e is = let u : ⊥ = cc in u

rests_clean_not : (clean : Bool) (stage : LineStage) (lease : ℕ) (place : Option Place) → rests_clean clean stage ≡ Some place → place ≡ Some (Cleaning lease) → ⊥
rests_clean_not clean line.Idle lease place e is = if_free clean lease place e is
rests_clean_not clean (line.Sending begun) lease place e is = let u : ⊥ = cc in u
rests_clean_not clean line.Reading lease place e is = let u : ⊥ = cc in u
rests_clean_not clean line.Cancelling lease place e is = let u : ⊥ = cc in u
rests_clean_not clean (line.Broken fault) lease place e is = let u : ⊥ = cc in u

clean_place_not : (p : Place) (l : Line) (lease : ℕ) (place : Option Place) → clean_place p l ≡ Some place → place ≡ Some (Cleaning lease) → ⊥
clean_place_not (Leased other) l lease place e is = let u : ⊥ = cc in u
clean_place_not (Cleaning other) l lease place e is = rests_clean_not (is_clean l.heard.mark l.heard.descriptor) l.stage lease place e is
clean_place_not (Kept ticket) l lease place e is = let u : ⊥ = cc in u
clean_place_not Free l lease place e is = let u : ⊥ = cc in u
clean_place_not Draining l lease place e is = let u : ⊥ = cc in u

if_drained : (idle : Bool) (lease : ℕ) → (if idle then Free else Draining) ≡ Cleaning lease → ⊥
if_drained true lease e = let u : ⊥ = cc in u
if_drained false lease e = let u : ⊥ = cc in u

drained_was : (p : Place) (stage : LineStage) (lease : ℕ) → drained p stage ≡ Cleaning lease → p ≡ Cleaning lease
drained_was (Leased other) stage lease e = e
drained_was (Cleaning other) stage lease e = e
drained_was (Kept ticket) stage lease e = e
drained_was Free stage lease e = e
drained_was Draining stage lease e = absurd (if_drained (is_idle stage) lease e)

module _ (n lease : ℕ) (s : Service) (tidy : Tidy s) where
  put_was : (test : Seat → Bool) (d : Seat) (place : Option Place) (l : Line) → find_by test s.seats ≡ Some d → d.number ≡ n → (place ≡ Some (Cleaning lease) → d.place ≡ Cleaning lease)
      → AtIn n lease (change_by test place l s.seats) → At n lease s
  put_was test d None l e number was at =
      absurd (gone_at lease (seat_numbered n (change_by test None l s.seats)) (subst (λ (k : ℕ). seat_numbered k (change_by test None l s.seats) ≡ None) number (change_out test d l s.seats tidy.distinct e)) at)
  put_was test d (Some place) l e number was at =
      let here : seat_numbered n (change_by test (Some place) l s.seats) ≡ Some (record { number = d.number; place = place; line = l }) =
      subst (λ (k : ℕ). seat_numbered k (change_by test (Some place) l s.seats) ≡ Some (record { number = d.number; place = place; line = l })) number (change_here test d place l s.seats tidy.distinct e) in
      let is : place ≡ Cleaning lease = place_of (record { number = d.number; place = place; line = l }) lease (seat_numbered n (change_by test (Some place) l s.seats)) here at in
      let there : seat_numbered n s.seats ≡ Some d = subst (λ (k : ℕ). seat_numbered k s.seats ≡ Some d) number (is_found test d s.seats tidy.distinct e) in
      ap (option_map (λ (c : Seat). c.place)) there ∙ ap (λ (p : Place). Some p) (was (ap (λ (p : Place). Some p) is))

  does_by : (test : Seat → Bool) (d : Seat) (place : Option Place) (l : Line) (b : Bool) → (d.number == n) ≡ b → find_by test s.seats ≡ Some d → (d.number ≡ n → place ≡ Some (Cleaning lease) → d.place ≡ Cleaning lease)
      → AtIn n lease (change_by test place l s.seats) → At n lease s
  does_by test d place l true is e was at = put_was test d place l e (eqb-true d.number n is) (was (eqb-true d.number n is)) at
  does_by test d place l false is e was at = sym (ap (option_map (λ (c : Seat). c.place)) (change_other test n d place l s.seats is e)) ∙ at

  does_was : (given : ℕ) (test : Seat → Bool) (d : Seat) (place : Option Place) (all : List (Act Token)) (reply : Reply) → find_by test s.seats ≡ Some d
      → (d.number ≡ n → place ≡ Some (Cleaning lease) → d.place ≡ Cleaning lease) → At n lease (does s given test d place all reply).service → At n lease s
  does_was given test d place all reply e was at = does_by test d place (line_after d.line all) (d.number == n) refl e was at

  if_was : (b : Bool) (t u : ServiceStep Token) → (At n lease t.service → At n lease s) → (At n lease u.service → At n lease s) → At n lease (if b then t else u).service → At n lease s
  if_was true t u h k at = h at
  if_was false t u h k at = k at

  opens_was : (room : Bool) → At n lease (calls.opens {T = Token} s room).service → At n lease s
  opens_was false at = at
  opens_was true at = added n lease (record { number = suc s.last; place = Leased (suc s.given); line = new_line }) s.seats (leased_not (suc s.given) lease) at

  lends_was : (o : Option Seat) → find_by is_lendable s.seats ≡ o → At n lease (calls.lends {T = Token} s o).service → At n lease s
  lends_was None e at = opens_was (nat_lt (length s.seats) s.max) at
  lends_was (Some d) e at =
      does_was (suc s.given) is_lendable d (Some (Leased (suc s.given))) (line.Mark Full ∷ []) (calls.Lent (suc s.given) d.number true) e
      (λ number is. absurd (leased_not (suc s.given) lease (some_place (Leased (suc s.given)) lease is))) at

  resumes_was : (ticket : ℕ) (o : Option Seat) → find_by (has_ticket ticket) s.seats ≡ o → At n lease (calls.resumes {T = Token} s (has_ticket ticket) o).service → At n lease s
  resumes_was ticket None e at = at
  resumes_was ticket (Some d) e at =
      if_was (is_idle d.line.stage) (does s (suc s.given) (has_ticket ticket) d (Some (Leased (suc s.given))) (line.Mark KeepTransaction ∷ []) (calls.Lent (suc s.given) d.number true)) (nothing s calls.NotNow)
      (does_was (suc s.given) (has_ticket ticket) d (Some (Leased (suc s.given))) (line.Mark KeepTransaction ∷ []) (calls.Lent (suc s.given) d.number true) e
      (λ number is. absurd (leased_not (suc s.given) lease (some_place (Leased (suc s.given)) lease is)))) (λ x. x) at

  unless_was : (test : Seat → Bool) (d : Seat) (all : List (Act Token)) (why : Option ClientRefusal) → find_by test s.seats ≡ Some d → At n lease (acts_unless s test d all why).service → At n lease s
  unless_was test d all None e at = does_was s.given test d (Some d.place) all calls.Did e (λ number is. some_place d.place lease is) at
  unless_was test d all (Some why) e at = at

  acts_was : (test : Seat → Bool) (first : Act Token) (all : List (Act Token)) (o : Option Seat) → find_by test s.seats ≡ o → At n lease (calls.acts s test first all o).service → At n lease s
  acts_was test first all None e at = at
  acts_was test first all (Some d) e at = unless_was test d all (refusal_in (line.line_turn d.line first).answer) e at

  gives_was : (other : ℕ) (o : Option Seat) → find_by (has_lease other) s.seats ≡ o → At n lease (calls.gives_back {T = Token} s (has_lease other) o).service → At n lease s
  gives_was other None e at = at
  gives_was other (Some d) e at =
      let stage : LineStage = (line_after {T = Token} d.line (line.Cancel ∷ [])).stage in
      does_was s.given (has_lease other) d (rests stage) (line.Cancel ∷ []) (calls.Back (rests stage)) e (λ number is. absurd (rests_not stage lease is)) at

  cleans_was : (m : ℕ) (o : Option Seat) → n ≢ m → find_by (has_number m) s.seats ≡ o → At n lease (calls.cleans {T = Token} s (has_number m) o).service → At n lease s
  cleans_was m None off e at = at
  cleans_was m (Some d) off e at =
      if_was (is_lendable d) (does {T = Token} s (suc s.given) (has_number m) d (Some (Cleaning (suc s.given))) (line.Mark Full ∷ []) (calls.Lent (suc s.given) d.number true)) (nothing s calls.NotNow)
      (does_was (suc s.given) (has_number m) d (Some (Cleaning (suc s.given))) (line.Mark Full ∷ []) (calls.Lent (suc s.given) d.number true) e
      (λ number is. absurd (off (sym number ∙ eqb-true d.number m (found_meets (has_number m) d s.seats e))))) (λ x. x) at

  rests_was : (test : Seat → Bool) (d : Seat) (o : Option (Option Place)) → clean_place d.place d.line ≡ o → find_by test s.seats ≡ Some d → At n lease (rests_cleaned {T = Token} s test d o).service → At n lease s
  rests_was test d None c e at = at
  rests_was test d (Some place) c e at = does_was s.given test d place [] (calls.Back place) e (λ number is. absurd (clean_place_not d.place d.line lease place c is)) at

  cleaned_was : (test : Seat → Bool) (o : Option Seat) → find_by test s.seats ≡ o → At n lease (calls.cleaned {T = Token} s test o).service → At n lease s
  cleaned_was test None e at = at
  cleaned_was test (Some d) e at = rests_was test d (clean_place d.place d.line) refl e at

  keeps_was : (test : Seat → Bool) (o : Option Seat) → find_by test s.seats ≡ o → At n lease (calls.keeps_it {T = Token} s test o).service → At n lease s
  keeps_was test None e at = at
  keeps_was test (Some d) e at =
      if_was (may_keep d) (does s (suc s.given) test d (Some (Kept (suc s.given))) [] (calls.Ticket (suc s.given))) (nothing s calls.NotNow)
      (does_was (suc s.given) test d (Some (Kept (suc s.given))) [] (calls.Ticket (suc s.given)) e (λ number is. absurd (kept_not (suc s.given) lease (some_place (Kept (suc s.given)) lease is)))) (λ x. x) at

  abandons_was : (test : Seat → Bool) (o : Option Seat) → find_by test s.seats ≡ o → At n lease (calls.abandons {T = Token} s test o).service → At n lease s
  abandons_was test None e at = at
  abandons_was test (Some d) e at = does_was s.given test d (rests d.line.stage) [] (calls.Back (rests d.line.stage)) e (λ number is. absurd (rests_not d.line.stage lease is)) at

  hears_was : (test : Seat → Bool) (part : Part Token) (o : Option Seat) → find_by test s.seats ≡ o → At n lease (calls.hears s test part o).service → At n lease s
  hears_was test part None e at = at
  hears_was test part (Some d) e at =
      let stage : LineStage = (line_after d.line (line.Come part ∷ [])).stage in
      does_was s.given test d (Some (drained d.place stage)) (line.Come part ∷ []) calls.Did e (λ number is. drained_was d.place stage lease (some_place (drained d.place stage) lease is)) at

  loses_was : (test : Seat → Bool) (o : Option Seat) → find_by test s.seats ≡ o → At n lease (calls.loses {T = Token} s test o).service → At n lease s
  loses_was test None e at = at
  loses_was test (Some d) e at = does_was s.given test d None (line.Lose ∷ []) (calls.Back None) e (λ number is. (let u : ⊥ = cc in absurd u)) at

  step_was : (call : Call Token) → Off n call → At n lease (step s call).service → At n lease s
  step_was calls.Lease off at = lends_was (find_by is_lendable s.seats) refl at
  step_was (calls.Resume ticket) off at = resumes_was ticket (find_by (has_ticket ticket) s.seats) refl at
  step_was (calls.Ask other) off at = acts_was (has_lease other) line.Ask (line.Ask ∷ []) (find_by (has_lease other) s.seats) refl at
  step_was (calls.Put other count) off at = acts_was (has_lease other) (line.Send false) (packets count) (find_by (has_lease other) s.seats) refl at
  step_was (calls.Finish other count) off at = acts_was (has_lease other) (line.Send true) (packets count ++ line.Send true ∷ []) (find_by (has_lease other) s.seats) refl at
  step_was (calls.Cancel other) off at = acts_was (has_lease other) line.Cancel (line.Cancel ∷ []) (find_by (has_lease other) s.seats) refl at
  step_was (calls.GiveBack other) off at = gives_was other (find_by (has_lease other) s.seats) refl at
  step_was (calls.Clean m) off at = cleans_was m (find_by (has_number m) s.seats) off refl at
  step_was (calls.Cleaned other) off at = cleaned_was (has_lease other) (find_by (has_lease other) s.seats) refl at
  step_was (calls.Keep other) off at = keeps_was (has_lease other) (find_by (has_lease other) s.seats) refl at
  step_was (calls.Abandon ticket) off at = abandons_was (has_ticket ticket) (find_by (has_ticket ticket) s.seats) refl at
  step_was (calls.Came m part) off at = hears_was (has_number m) part (find_by (has_number m) s.seats) refl at
  step_was (calls.Lost m) off at = loses_was (has_number m) (find_by (has_number m) s.seats) refl at
  step_was (calls.Without call) off at = at

pub all_was : (n lease : ℕ) (s : Service) (all : List (Call Token)) → Tidy s → AllOff n all → At n lease (service_after s all) → At n lease s
all_was n lease s [] tidy off at = at
all_was n lease s (call ∷ all) tidy off at =
    step_was n lease s tidy call off.0 (all_was n lease (step s call).service all (step_rises s call tidy).tidy off.1 at)

-- ---- By events

cleaning_off : (n m lease : ℕ) (way : Way) → n ≢ m → AllOff n (cleaning_by m lease way)
cleaning_off n m lease (pool.Sent put finish) off = (off, (tt, (tt, (tt, tt))))
cleaning_off n m lease pool.NotLent off = (tt, tt)
cleaning_off n m lease pool.NotAsked off = (off, (tt, tt))
cleaning_off n m lease pool.NotPut off = (off, (tt, (tt, tt)))
cleaning_off n m lease (pool.NotEnded put) off = (off, (tt, (tt, (tt, tt))))

if_off : (n : ℕ) (b : Bool) (xs ys : List (Call Token)) → AllOff n xs → AllOff n ys → AllOff n (if b then xs else ys)
if_off n true xs ys h k = h
if_off n false xs ys h k = k

releasing_off : (n : ℕ) (s : Service) (other m : ℕ) (gives : Bool) (way : Way) → n ≢ m → AllOff n (releasing s other m gives way)
releasing_off n s other m false way off = (tt, tt)
releasing_off n s other m true way off =
    let given = step {T = Token} s (calls.GiveBack other) in
    (tt, if_off n (frees given.reply) (cleaning given.service m way) [] (cleaning_off n m (suc given.service.given) way off) tt)

pub cleaned_off : (n : ℕ) (s : Service) (m l : ℕ) → AllOff n (cleaned_by s m l)
cleaned_off n s m l = (tt, if_off n (frees (step {T = Token} s (calls.Cleaned l)).reply) [] (calls.Lost m ∷ []) tt (tt, tt))

settles_of_off : (n : ℕ) (s : Service) (m l : ℕ) (way : Way) (o : Option Hold) → AllOff n (settles_of s m l way o)
settles_of_off n s m l way (Some h) = tt
settles_of_off n s m l way None = cleaned_off n s m l

settles_off : (n : ℕ) (holds : List Hold) (s : Service) (m : ℕ) (way : Way) (o : Option ℕ) → n ≢ m → AllOff n (settles holds s m way o)
settles_off n holds s m way (Some l) off = settles_of_off n s m l way (find_lease l holds)
settles_off n holds s m way None off = cleaning_off n m (suc s.given) way off

action_off : (n other : ℕ) (action : Action) → Off n (pool.call_of other action)
action_off n other pool.Asks = tt
action_off n other (pool.Puts count) = tt
action_off n other (pool.Ends count) = tt
action_off n other pool.Stops = tt

-- An event by which no connection of this number comes to be cleaned.
abbrev pub OffEvent : ℕ → Pool → Event → Type 0
OffEvent n d (pool.Brings gives way) = ⊥
OffEvent n d (pool.Leaves key gives way) = (h : Hold) → find_key key d.holds ≡ Some h → n ≢ h.number
OffEvent n d (pool.Comes m part way) = n ≢ m
OffEvent n d _ = Unit {0}

module _ (n lease : ℕ) (d : Pool) (tidy : Tidy d.service) where
  abbrev Was : Pool → Type 0
  Was e = At n lease e.service → At n lease d.service

  moved : (all : List (Call Token)) → AllOff n all → At n lease (service_after d.service all) → At n lease d.service
  moved all off at = all_was n lease d.service all tidy off at

  serves_by_was : (k : ℕ) (others : List ℕ) (o : Option pool.Loan) → Was (pool.serves_by d k others o).pool
  serves_by_was k others None = λ at. at
  serves_by_was k others (Some loan) = moved (calls.Lease ∷ []) (tt, tt)

  serves_was : (waiting : List ℕ) → Was (pool.serves d waiting).pool
  serves_was [] = λ at. at
  serves_was (k ∷ others) = serves_by_was k others (lent_in (step {T = Token} d.service calls.Lease).reply)

  does_event : (action : Action) (o : Option Hold) → Was (pool.holder_does d action o).pool
  does_event action None = λ at. at
  does_event action (Some h) = moved (pool.call_of h.lease action ∷ []) (action_off n h.lease action, tt)

  leaves_was : (key : ℕ) (gives : Bool) (way : Way) (o : Option Hold) → ((h : Hold) → o ≡ Some h → n ≢ h.number) → Was (pool.leaves d key gives way o).pool
  leaves_was key gives way None off = λ at. at
  leaves_was key gives way (Some h) off = moved (releasing d.service h.lease h.number gives way) (releasing_off n d.service h.lease h.number gives way (off h refl))

  renews_by_was : (h : Hold) (ticket : ℕ) (o : Option pool.Loan) (resumes : Bool) → Was (pool.renews_by d h ticket o resumes).pool
  renews_by_was h ticket o false = moved (calls.Keep h.lease ∷ calls.Lost h.number ∷ []) (tt, (tt, tt))
  renews_by_was h ticket None true = moved (calls.Keep h.lease ∷ calls.Lost h.number ∷ []) (tt, (tt, tt))
  renews_by_was h ticket (Some loan) true = moved (calls.Keep h.lease ∷ calls.Resume ticket ∷ []) (tt, (tt, tt))

  keeps_by_was : (h : Hold) (resumes : Bool) (o : Option ℕ) → Was (pool.keeps_by d h resumes (step {T = Token} d.service (calls.Keep h.lease)).service o).pool
  keeps_by_was h resumes None = λ at. at
  keeps_by_was h resumes (Some ticket) =
      renews_by_was h ticket (lent_in (step {T = Token} (step {T = Token} d.service (calls.Keep h.lease)).service (calls.Resume ticket)).reply) resumes

  renews_was : (resumes : Bool) (o : Option Hold) → Was (pool.renews d resumes o).pool
  renews_was resumes None = λ at. at
  renews_was resumes (Some h) = keeps_by_was h resumes (ticket_in (step {T = Token} d.service (calls.Keep h.lease)).reply)

  comes_was : (m : ℕ) (part : Part Token) (s : Service) (way : Way) (o : Option ℕ) (hearing : Hearing) → n ≢ m → Was (pool.comes_by d (calls.Came m part) s m way o hearing).pool
  comes_was m part s way o pool.Goes off = moved (calls.Came m part ∷ []) (tt, tt)
  comes_was m part s way o pool.Settled off = moved (calls.Came m part ∷ settles d.holds s m way o) (tt, settles_off n d.holds s m way o off)
  comes_was m part s way o pool.Wrong off = moved (calls.Came m part ∷ calls.Lost m ∷ []) (tt, (tt, tt))

  turn_was : (event : Event) → OffEvent n d event → Was (turn d event).pool
  turn_was (pool.Waits key) off = λ at. at
  turn_was (pool.Unwaits key) off = λ at. at
  turn_was pool.Serves off = serves_was d.line
  turn_was (pool.Brings gives way) off = absurd off
  turn_was (pool.Does key action) off = does_event action (find_key key d.holds)
  turn_was (pool.Leaves key gives way) off = leaves_was key gives way (find_key key d.holds) off
  turn_was (pool.Renews key resumes) off = renews_was resumes (find_key key d.holds)
  turn_was (pool.Comes m part way) off =
      let heard = step {T = Token} d.service (calls.Came m part) in
      comes_was m part heard.service way (lease_at (seat_numbered m d.service.seats)) (pool.hearing heard.dones) off
  turn_was (pool.Loses m) off = moved (calls.Lost m ∷ []) (tt, tt)

-- ---- At pools that were reached

-- Where one of this number is cleaned, it was by the same lease.
abbrev pub Cleaned : ℕ → Pool → Pool → Type 0
Cleaned n d e = (lease : ℕ) → seated e n ≡ Some (Cleaning lease) → seated d n ≡ Some (Cleaning lease)

-- So it is with each.
abbrev pub NoneCleaned : Pool → Pool → Type 0
NoneCleaned d e = (n : ℕ) → Cleaned n d e

pub turned_was : (n : ℕ) (event : Event) (d e : Pool) (before after : List ℕ) → IsReached d → Turns event d e before after → OffEvent n d event → Cleaned n d e
turned_was n event d e before after reached t off = λ lease at.
    turn_was n lease d (sound_at d reached).tidy event off (subst (λ (x : Pool). seated x n ≡ Some (Cleaning lease)) t.pool_is at)

-- what comes on another connection causes
caused_off : (n m : ℕ) (d : Pool) (event : Event) → n ≢ m → Causes (Connection m) event → OffEvent n d event
caused_off n m d (pool.Waits key) ne by = tt
caused_off n m d (pool.Unwaits key) ne by = tt
caused_off n m d pool.Serves ne by = tt
caused_off n m d (pool.Brings gives way) ne by = let u : ⊥ = cc in absurd u
caused_off n m d (pool.Does key action) ne by = tt
caused_off n m d (pool.Leaves key gives way) ne by = let u : ⊥ = cc in absurd u
caused_off n m d (pool.Renews key resumes) ne by = tt
caused_off n m d (pool.Comes k part way) ne by = λ same. (let one : Connection m ≡ Connection k = by in let two : m ≡ k = cc in ne (same ∙ sym two))
caused_off n m d (pool.Loses k) ne by = tt

after_both : (d : Pool) (xs ys : List Event) → pool_after d (xs ++ ys) ≡ pool_after (pool_after d xs) ys
after_both d [] ys = refl
after_both d (x ∷ xs) ys = after_both (turn d x).pool xs ys

next_reached : (d : Pool) (event : Event) → IsReached d → IsReached (turn d event).pool
next_reached d event r = (r.0, r.1 ++ event ∷ [], after_both (pool.new_pool r.0) r.1 (event ∷ []) ∙ ap (λ (x : Pool). (turn x event).pool) r.2)

after_was : (n m lease : ℕ) (d : Pool) (events : List Event) → n ≢ m → IsReached d → Each (Causes (Connection m)) events → At n lease (pool_after d events).service → At n lease d.service
after_was n m lease d [] ne reached by at = at
after_was n m lease d (event ∷ events) ne reached by at =
    turn_was n lease d (sound_at d reached).tidy event (caused_off n m d event ne by.0)
    (after_was n m lease (turn d event).pool events ne (next_reached d event reached) by.1 at)

pub led_was : (n m : ℕ) (d e : Pool) → n ≢ m → IsReached d → LedTo (Connection m) d e → Cleaned n d e
led_was n m d e ne reached goes = λ lease at.
    let h : Reaches (Connection m) d e = goes d (record { events = []; are = refl; caused = tt }) in
    after_was n m lease d h.events ne reached h.caused (subst (λ (x : Pool). seated x n ≡ Some (Cleaning lease)) (sym h.are) at)

pub other_number : (n : ℕ) → n ≢ suc n
other_number n = λ e. (let u : ⊥ = omega (arith, e) in u)

pub on_was : (d e : Pool) → IsReached d → LedOn d e → NoneCleaned d e
on_was d e reached goes = λ n. led_was n (suc n) d e (other_number n) reached (goes (Connection (suc n)))
