-- Each call of the table, as the machine's.
use Rattle.std.proofs.Common.{◌≡◌, ◌∙◌, ◌&&◌, ◌==◌, ◌<◌, ◌≤◌, ◌+◌, ℕ, zero, suc, Bool, true, false, List, [], ◌∷◌, ◌++◌, length, get_or, take, drop, refl, sym, ap, subst, arith}
use Rattle.std.proofs.Math.ListN.{set}
use Rattle.std.proofs.lemmas.Bool.Decides.{nat_tests}
use Rattle.std.proofs.lemmas.List.{append-nil, get_or-take, length-append, length-drop, length-take-le, take-append-le}
use Rattle.std.specs.Prelude.{Option, Some, None, Result, Ok, Err, IfOk, IfErr, ◌-◌, nat_lt, if◌then◌else◌}
use Rattle.tds_client.specs.declared.fault.ClientRefusal.{ClientRefusal}
use Rattle.tds_packet.specs.declared.status.Reset.{Reset}
use Rattle.tds_packet.specs.declared.status.Reset.TheVariants.{Full, KeepTransaction}
use Rattle.tds_wire.specs.declared.told.Token.{Token}
use Rattle.tds_service.specs.declared.place.Rest.{Rest}
use Rattle.tds_service.specs.History.{line_after}
use Rattle.tds_service.specs.Line as line
use Rattle.tds_service.specs.Line.{Line, Act, Mark, Cancel, Come, Lose, LineStage, line_turn}
use Rattle.tds_service.specs.Parts.{Part}
use Rattle.tds_service.specs.Refusing.{refusal_in}
use Rattle.tds_service.specs.Service as calls
use Rattle.tds_service.specs.Service.{Place, Leased, Cleaning, Kept, Seat, Service, ServiceStep, Reply, Lent, Ticket, Did, Back, NotNow, drained, has_number, has_ticket, is_free, is_idle, is_lendable, may_keep, clean_place, rests, does, nothing, opens, find_by}
use Rattle.tds_service.specs.Table.{StepsIn, rest_of}
use Rattle.tds_service.specs.Ties.{Appends, AreBytes}
use Rattle.tds_c.specs.declared.service.keeping.Chosen.{Chosen}
use Rattle.tds_c.specs.declared.service.keeping.Chosen.TheVariants as chosens
use Rattle.tds_c.specs.declared.service.plain.TdsSeat.{TdsSeat}
use Rattle.tds_c.specs.declared.service.plain.TdsService.{TdsService}
use Rattle.tds_c.specs.declared.service.seat.Wanted.{Wanted}
use Rattle.tds_c.specs.service.Calls.{Held}
use Rattle.tds_c.specs.service.Chosen.{chosen_allows, chosen_call, chosen_place, chosen_reset, chosen_test}
use Rattle.tds_c.specs.service.Plain.{line_of, place_of, seat_of, seats_of, stage_of}
use Rattle.tds_c.specs.service.Table.{Becomes, FirstMet, wanted_test}
use Rattle.tds_c.proofs.service.Tables.{met_at, found_at, does_alike, does_gone, put_in, same_get}

-- ---- The connection that is found

some_at : (cs : List TdsSeat) (i : ℕ) → i < length cs → (c : TdsSeat) × (c ≡ get_or cs i c)
some_at [] i lt = absurd (omega arith)
some_at (c ∷ cs) zero lt = (c, refl)
some_at (c ∷ cs) (suc i) lt = some_at cs i (omega arith)

pub record Here (test : Seat → Bool) (count : ℕ) (seats : List TdsSeat) (i : ℕ) : Type 0 where
  pub first : FirstMet test (take count seats) i
  pub under : i < count
  pub within : i < length seats
  pub seat : TdsSeat
  pub at : seat ≡ get_or seats i seat
  pub at_used : seat ≡ get_or (take count seats) i seat
  pub found : find_by test (seats_of (take count seats)) ≡ Some (seat_of seat)
  pub meets : test (seat_of seat) ≡ true

-- whatever the default
pub same_seat : (test : Seat → Bool) (count : ℕ) (seats : List TdsSeat) (i : ℕ) (here : Here test count seats i) (d : TdsSeat) → get_or seats i d ≡ here.seat
same_seat test count seats i here d = same_get seats i d here.seat here.within ∙ sym here.at

pub here_in : (test : Seat → Bool) (count : ℕ) (seats : List TdsSeat) (i : ℕ) → count ≤ length seats → FirstMet test (take count seats) i → Here test count seats i
here_in test count seats i le first =
    let len : length (take count seats) ≡ count = length-take-le count seats le in
    let under : i < count = omega (arith, len, first.within) in
    let within : i < length seats = omega (arith, under, le) in
    let some = some_at seats i within in
    let at_used = some.1 ∙ sym (get_or-take count seats i some.0 under) in
    record {
      first = first;
      under = under;
      within = within;
      seat = some.0;
      at = some.1;
      at_used = at_used;
      found = found_at test some.0 (take count seats) i first.within first.here first.before ∙ ap (λ (x : TdsSeat). Some (seat_of x)) (sym at_used);
      meets =
          ap (λ (x : TdsSeat). test (seat_of x)) at_used ∙ (sym (met_at test some.0 (take count seats) i first.within) ∙ first.here);
    }

pub chosen_here : (chosen : Chosen) (wanted : Wanted) (count : ℕ) (seats : List TdsSeat) (i : ℕ)
    → count ≤ length seats → wanted_test wanted ≡ chosen_test chosen → FirstMet (wanted_test wanted) (take count seats) i → Here (chosen_test chosen) count seats i
chosen_here chosen wanted count seats i le is first =
    here_in (chosen_test chosen) count seats i le (subst (λ (test : Seat → Bool). FirstMet test (take count seats) i) is first)

-- ---- By what a call answers

pub both_ok : {A E : Type 0} (r : Result A E) (P Q R : A → Type 0) → ((x : A) → P x → Q x → R x) → IfOk r P → IfOk r Q → IfOk r R
both_ok (Ok x) P Q R f p q = f x p q
both_ok (Err e) P Q R f p q = tt

pub on_err : {A E : Type 0} (r : Result A E) (P Q : E → Type 0) → ((e : E) → P e → Q e) → IfErr r P → IfErr r Q
on_err (Ok x) P Q f h = tt
on_err (Err e) P Q f h = f e h

-- ---- Lending

and_right : (a b : Bool) → (a && b) ≡ true → b ≡ true
and_right true b e = e
and_right false b e = absurd (let u : ⊥ = cc in u)

pub lendable_idle : (c : TdsSeat) → is_lendable (seat_of c) ≡ true → is_idle (stage_of c.client) ≡ true
lendable_idle c e = and_right (is_free (place_of c)) (is_idle (stage_of c.client)) e

pub chosen_idle : (chosen : Chosen) (c : TdsSeat) → chosen_allows chosen (seat_of c) ≡ true → is_idle (stage_of c.client) ≡ true
chosen_idle (chosens.Kept ticket) c e = e
chosen_idle (chosens.Unclean number) c e = lendable_idle c e

abbrev had_of : Reply → Bool
had_of calls.Unknown = true
had_of calls.AllInUse = true
had_of calls.NotNow = true
had_of (calls.No why) = true
had_of calls.NoMemory = true
had_of (calls.Lent lease number had) = had
had_of (calls.Ticket ticket) = true
had_of calls.Did = true
had_of (calls.Back place) = true

reached : (b : Bool) (n : ℕ) → true ≡ b → n ≡ (if b then n else 0)
reached true n e = refl
reached false n e = absurd (let u : ⊥ = cc in u)

unreached : (b : Bool) (n : ℕ) → b ≡ false → 0 ≡ (if b then n else 0)
unreached true n e = absurd (let u : ⊥ = cc in u)
unreached false n e = refl

if_done : {T : Type 0} (P : ServiceStep T → Type 0) (t u : ServiceStep T) (b : Bool) → b ≡ true → P t → P (if b then t else u)
if_done P t u true e h = h
if_done P t u false e h = absurd (let v : ⊥ = cc in v)

pub if_refused : {T : Type 0} (s : Service) (t : ServiceStep T) (b : Bool) → b ≡ false → (if b then t else nothing s NotNow) ≡ nothing s NotNow
if_refused s t true e = absurd (let v : ⊥ = cc in v)
if_refused s t false e = refl

module _ (s new : Service) (c : Seat) (lease l n : ℕ) (had : Bool) where
  -- the lease is the next one
  abbrev lent_by : (Seat → Bool) → Place → Reset → ℕ → ServiceStep Token
  lent_by test place reset g = does s g test c (Some place) (Mark reset ∷ []) (Lent g c.number true)

  pub leases : find_by is_lendable s.seats ≡ Some c → lease ≡ s.given + 1 → StepsIn (lent_by is_lendable (Leased lease) Full lease) new (Lent l n had) n [] []
      → StepsIn (calls.lends {T = Token} s (find_by is_lendable s.seats)) new (Lent l n had) (if had then n else 0) [] []
  leases found is did =
      let next : lease ≡ suc s.given = is ∙ (let e : s.given + 1 ≡ suc s.given = omega arith in e) in
      let lent = subst (λ (g : ℕ). StepsIn (lent_by is_lendable (Leased g) Full g) new (Lent l n had) n [] []) next did in
      subst (λ (m : ℕ). StepsIn (calls.lends {T = Token} s (find_by is_lendable s.seats)) new (Lent l n had) m [] []) (reached had n (ap had_of lent.reply_is))
      (subst (λ (x : Option Seat). StepsIn (calls.lends {T = Token} s x) new (Lent l n had) n [] []) (sym found) lent)

  pub lends_chosen : (chosen : Chosen) → find_by (chosen_test chosen) s.seats ≡ Some c → chosen_allows chosen c ≡ true → lease ≡ s.given + 1
      → StepsIn (lent_by (chosen_test chosen) (chosen_place chosen lease) (chosen_reset chosen) lease) new (Lent l n had) n [] []
      → StepsIn (calls.step s (chosen_call chosen)) new (Lent l n had) n [] []
  lends_chosen chosen found allows is did =
      let next : lease ≡ suc s.given = is ∙ (let e : s.given + 1 ≡ suc s.given = omega arith in e) in
      chosen_lent chosen found allows (subst (λ (g : ℕ). StepsIn (lent_by (chosen_test chosen) (chosen_place chosen g) (chosen_reset chosen) g) new (Lent l n had) n [] []) next did)
    where
      steps_lent : ServiceStep Token → Type 0
      steps_lent t = StepsIn t new (Lent l n had) n [] []

      chosen_lent : (chosen : Chosen) → find_by (chosen_test chosen) s.seats ≡ Some c → chosen_allows chosen c ≡ true
          → steps_lent (lent_by (chosen_test chosen) (chosen_place chosen (suc s.given)) (chosen_reset chosen) (suc s.given)) → steps_lent (calls.step s (chosen_call chosen))
      chosen_lent (chosens.Kept ticket) found idle lent =
          subst (λ (x : Option Seat). steps_lent (calls.resumes {T = Token} s (has_ticket ticket) x)) (sym found)
          (if_done steps_lent (lent_by (has_ticket ticket) (Leased (suc s.given)) KeepTransaction (suc s.given)) (nothing s NotNow) (is_idle c.line.stage) idle lent)
      chosen_lent (chosens.Unclean number) found lendable lent =
          subst (λ (x : Option Seat). steps_lent (calls.cleans {T = Token} s (has_number number) x)) (sym found)
          (if_done steps_lent (lent_by (has_number number) (Cleaning (suc s.given)) Full (suc s.given)) (nothing s NotNow) (is_lendable c) lendable lent)

-- one that isn't there, or can't be lent
pub chosen_unknown : (s : Service) (chosen : Chosen) → find_by (chosen_test chosen) s.seats ≡ None → calls.step {T = Token} s (chosen_call chosen) ≡ nothing s calls.Unknown
chosen_unknown s (chosens.Kept ticket) none = ap (calls.resumes {T = Token} s (has_ticket ticket)) none
chosen_unknown s (chosens.Unclean number) none = ap (calls.cleans {T = Token} s (has_number number)) none

pub not_lent : (s : Service) (chosen : Chosen) (c : Seat) → find_by (chosen_test chosen) s.seats ≡ Some c → chosen_allows chosen c ≡ false
    → calls.step {T = Token} s (chosen_call chosen) ≡ nothing s NotNow
not_lent s (chosens.Kept ticket) c found e =
    ap (calls.resumes {T = Token} s (has_ticket ticket)) found
    ∙ if_refused s (does s (suc s.given) (has_ticket ticket) c (Some (Leased (suc s.given))) (Mark KeepTransaction ∷ []) (Lent (suc s.given) c.number true)) (is_idle c.line.stage) e
not_lent s (chosens.Unclean number) c found e =
    ap (calls.cleans {T = Token} s (has_number number)) found
    ∙ if_refused s (does s (suc s.given) (has_number number) c (Some (Cleaning (suc s.given))) (Mark Full ∷ []) (Lent (suc s.given) c.number true)) (is_lendable c) e

pub not_kept : (s : Service) (test : Seat → Bool) (c : Seat) → find_by test s.seats ≡ Some c → may_keep c ≡ false
    → calls.keeps_it {T = Token} s test (find_by test s.seats) ≡ nothing s NotNow
not_kept s test c found e =
    ap (calls.keeps_it {T = Token} s test) found
    ∙ if_refused s (does s (suc s.given) test c (Some (Kept (suc s.given))) [] (Ticket (suc s.given))) (may_keep c) e

-- a new one
pub opened : (s new : Service) (l n : ℕ) (had : Bool) → find_by is_lendable s.seats ≡ None → had ≡ false
    → StepsIn (opens {T = Token} s (nat_lt (length s.seats) s.max)) new (Lent l n had) 0 [] []
    → StepsIn (calls.lends {T = Token} s (find_by is_lendable s.seats)) new (Lent l n had) (if had then n else 0) [] []
opened s new l n had none is did =
    subst (λ (m : ℕ). StepsIn (calls.lends {T = Token} s (find_by is_lendable s.seats)) new (Lent l n had) m [] []) (unreached had n is)
    (subst (λ (x : Option Seat). StepsIn (calls.lends {T = Token} s x) new (Lent l n had) 0 [] []) (sym none) did)

-- ---- Keeping

pub keeps : (s : Service) (test : Seat → Bool) (count ticket : ℕ) (seats : List TdsSeat) (i : ℕ) (here : Here test count seats i) (x y : TdsSeat)
    → s ≡ record { max = length seats; last = s.last; given = s.given; seats = seats_of (take count seats) } → x ≡ here.seat
    → may_keep (seat_of x) ≡ true → ticket ≡ s.given + 1
    → seat_of y ≡ record { number = x.number; place = Kept ticket; line = line_of x }
    → (number : ℕ) × StepsIn (calls.keeps_it {T = Token} s test (find_by test s.seats))
    (record { max = length (set seats i y); last = s.last; given = ticket; seats = seats_of (take count (set seats i y)) }) (Ticket ticket) number [] []
keeps s test count ticket seats i here x y table same may is put =
    let c = here.seat in
    let g = s.given in
    let u : Service = record { max = length seats; last = s.last; given = g; seats = seats_of (take count seats) } in
    let next : ticket ≡ suc g = is ∙ (let e : g + 1 ≡ suc g = omega arith in e) in
    let new : Service = record { max = length (set seats i y); last = s.last; given = ticket; seats = seats_of (take count (set seats i y)) } in
    let was = put ∙ ap (λ (z : TdsSeat). let t : Seat = record { number = z.number; place = Kept ticket; line = line_of z } in t) same in
    let did = put_in s.last ticket count seats i y here.under ∙ does_alike u ticket test (Kept ticket) [] (Ticket ticket) (take count seats) i c y refl here.first here.at_used was in
    let kept : ServiceStep Token = does u ticket test (seat_of c) (Some (Kept ticket)) [] (Ticket ticket) in
    let steps : StepsIn kept new (Ticket ticket) c.number [] [] = record { service_is = did; reply_is = refl; number_is = refl; bytes = ([], refl, refl) } in
    let by = subst (λ (k : ℕ). StepsIn (does u k test (seat_of c) (Some (Kept k)) [] (Ticket k)) new (Ticket ticket) c.number [] []) next steps in
    let may_here = ap (λ (z : TdsSeat). may_keep (seat_of z)) (sym same) ∙ may in
    let whole = if_done (λ (t : ServiceStep Token). StepsIn t new (Ticket ticket) c.number [] []) (does u (suc g) test (seat_of c) (Some (Kept (suc g))) [] (Ticket (suc g))) (nothing u NotNow) (may_keep (seat_of c)) may_here by in (
      c.number,
      subst (λ (t : Service). StepsIn (calls.keeps_it {T = Token} t test (find_by test t.seats)) new (Ticket ticket) c.number [] []) (sym table)
          (subst (λ (x : Option Seat). StepsIn (calls.keeps_it {T = Token} u test x) new (Ticket ticket) c.number [] []) (sym here.found) whole),
    )

-- ---- Nobody holds it any more

-- it stays in the table
pub settles : (last given count : ℕ) (seats : List TdsSeat) (i : ℕ) (test : Seat → Bool) (place : Place) (all : List (Act Token)) (reply : Reply) (rest : Rest) (c m y : TdsSeat)
    → i < count → FirstMet test (take count seats) i → c ≡ get_or seats i c → m.number ≡ c.number → line_of m ≡ line_after (line_of c) all
    → seat_of y ≡ record { number = m.number; place = place; line = line_of m } → rest_of rest ≡ Some place
    → (record { max = length (set seats i y); last = last; given = given; seats = seats_of (take count (set seats i y)) })
    ≡ (does (record { max = length seats; last = last; given = given; seats = seats_of (take count seats) }) given test (seat_of c) (rest_of rest) all reply).service
settles last given count seats i test place all reply rest c m y lt first at number moved put rests =
    let u : Service = record { max = length seats; last = last; given = given; seats = seats_of (take count seats) } in
    let new = put ∙ (ap (λ (n : ℕ). let t : Seat = record { number = n; place = place; line = line_of m } in t) number
    ∙ ap (λ (l : Line). let t : Seat = record { number = c.number; place = place; line = l } in t) moved) in
    put_in last given count seats i y lt
    ∙ (does_alike u given test place all reply (take count seats) i c y refl first (at ∙ sym (get_or-take count seats i c lt)) new
    ∙ ap (λ (p : Option Place). (does u given test (seat_of c) p all reply).service) (sym rests))

-- it is taken out
pub closes : (last given count : ℕ) (seats front : List TdsSeat) (i : ℕ) (test : Seat → Bool) (all : List (Act Token)) (reply : Reply) (c : TdsSeat)
    → count ≤ length seats → i < count → FirstMet test (take count seats) i → length front ≡ length (take count seats)
    → take (length (take count seats) - 1) front ≡ take i (take count seats) ++ drop (i + 1) (take count seats)
    → (record { max = length (front ++ drop count seats); last = last; given = given; seats = seats_of (take (count - 1) (front ++ drop count seats)) })
    ≡ (does (record { max = length seats; last = last; given = given; seats = seats_of (take count seats) }) given test (seat_of c) None all reply).service
closes last given count seats front i test all reply c le lt first len moved =
    let u : Service = record { max = length seats; last = last; given = given; seats = seats_of (take count seats) } in
    let used : length (take count seats) ≡ count = length-take-le count seats le in
    let whole : length (front ++ drop count seats) ≡ length seats =
    length-append front (drop count seats) ∙ (let h : length front + length (drop count seats) ≡ length seats = omega (arith, len, used, le, length-drop count seats) in h) in
    let under : count - 1 ≤ length front = omega (arith, len, used) in
    let kept = take-append-le (count - 1) front (drop count seats) under ∙ (ap (λ (k : ℕ). take (k - 1) front) (sym used) ∙ moved) in
    ap (λ (n : ℕ). let t : Service = record { max = n; last = last; given = given; seats = seats_of (take (count - 1) (front ++ drop count seats)) } in t) whole
    ∙ (ap (λ (cs : List TdsSeat). let t : Service = record { max = length seats; last = last; given = given; seats = seats_of cs } in t) kept
    ∙ does_gone u given test all reply (take count seats) i c refl first)

-- ---- A loss

lost_sent : (l : Line) (s : LineStage) → (line.line_loses {T = Token} l s).sent ≡ []
lost_sent l line.Idle = refl
lost_sent l (line.Sending begun) = refl
lost_sent l line.Reading = refl
lost_sent l line.Cancelling = refl
lost_sent l (line.Broken fault) = refl

pub same_number : (m n : ℕ) → (m == n) ≡ true → m ≡ n
same_number m n e = grind (arith, nat_tests)

pub loses : (s new : Service) (number count : ℕ) (seats : List TdsSeat) (i : ℕ) (here : Here (has_number number) count seats i)
    → s.seats ≡ seats_of (take count seats)
    → new ≡ (does {T = Token} s s.given (has_number number) (seat_of here.seat) None (Lose ∷ []) (Back None)).service
    → StepsIn (calls.loses {T = Token} s (has_number number) (find_by (has_number number) s.seats)) new (Back None) number [] []
loses s new number count seats i here table did =
    let l = line_of here.seat in
    let found = ap (find_by (has_number number)) table ∙ here.found in
    subst (λ (x : Option Seat). StepsIn (calls.loses {T = Token} s (has_number number) x) new (Back None) number [] []) (sym found)
    (record {
      service_is = did;
      reply_is = refl;
      number_is = same_number here.seat.number number here.meets;
      bytes = subst (λ ps. Appends (ps ++ []) [] []) (sym (lost_sent l l.stage)) ([], refl, refl);
    })

-- ---- The end of a lease

pub gives_back : (s new : Service) (test : Seat → Bool) (count : ℕ) (seats : List TdsSeat) (i : ℕ) (here : Here test count seats i) (x m : TdsSeat) (rest : Rest) (bytes written : List ℕ)
    → s.seats ≡ seats_of (take count seats) → x ≡ here.seat
    → line_of m ≡ (line_turn {T = Token} (line_of x) Cancel).line → rest_of rest ≡ rests (stage_of m.client)
    → AreBytes (line_turn {T = Token} (line_of x) Cancel).sent written → bytes ≡ written
    → new ≡ (does {T = Token} s s.given test (seat_of here.seat) (rest_of rest) (Cancel ∷ []) (Back (rest_of rest))).service
    → StepsIn (calls.gives_back {T = Token} s test (find_by test s.seats)) new (Back (rest_of rest)) x.number [] bytes
gives_back s new test count seats i here x m rest bytes written table same moved rested sent is did =
    let c = here.seat in
    let l = line_of c in
    let found = ap (find_by test) table ∙ here.found in
    let goes = ap (λ (z : TdsSeat). (line_turn {T = Token} (line_of z) Cancel).line) same in
    let place : rest_of rest ≡ rests (line_after {T = Token} l (Cancel ∷ [])).stage = rested ∙ ap (λ (k : Line). rests k.stage) (moved ∙ goes) in
    let out = subst (λ (z : TdsSeat). AreBytes (line_turn {T = Token} (line_of z) Cancel).sent written) same sent in
    subst (λ (o : Option Seat). StepsIn (calls.gives_back {T = Token} s test o) new (Back (rest_of rest)) x.number [] bytes) (sym found)
    (subst (λ (p : Option Place). StepsIn (does {T = Token} s s.given test (seat_of c) p (Cancel ∷ []) (Back p)) new (Back (rest_of rest)) x.number [] bytes) place
    (record {
      service_is = did;
      reply_is = refl;
      number_is = ap (λ (z : TdsSeat). z.number) (sym same);
      bytes = (written, is, subst (λ ps. AreBytes ps written) (sym (append-nil (line_turn {T = Token} l Cancel).sent)) out);
    }))

pub abandons : (s new : Service) (test : Seat → Bool) (count : ℕ) (seats : List TdsSeat) (i : ℕ) (here : Here test count seats i) (x : TdsSeat) (rest : Rest)
    → s.seats ≡ seats_of (take count seats) → x ≡ here.seat → rest_of rest ≡ rests (stage_of x.client)
    → new ≡ (does {T = Token} s s.given test (seat_of here.seat) (rest_of rest) [] (Back (rest_of rest))).service
    → StepsIn (calls.abandons {T = Token} s test (find_by test s.seats)) new (Back (rest_of rest)) x.number [] []
abandons s new test count seats i here x rest table same rested did =
    let c = here.seat in
    let found = ap (find_by test) table ∙ here.found in
    let place : rest_of rest ≡ rests (stage_of c.client) = rested ∙ ap (λ (z : TdsSeat). rests (stage_of z.client)) same in
    subst (λ (o : Option Seat). StepsIn (calls.abandons {T = Token} s test o) new (Back (rest_of rest)) x.number [] []) (sym found)
    (subst (λ (p : Option Place). StepsIn (does {T = Token} s s.given test (seat_of c) p [] (Back p)) new (Back (rest_of rest)) x.number [] []) place
    (record { service_is = did; reply_is = refl; number_is = ap (λ (z : TdsSeat). z.number) (sym same); bytes = ([], refl, refl) }))

pub cleaned : (s new : Service) (test : Seat → Bool) (count : ℕ) (seats : List TdsSeat) (i : ℕ) (here : Here test count seats i) (x : TdsSeat) (rest : Rest)
    → s.seats ≡ seats_of (take count seats) → x ≡ here.seat → Some (rest_of rest) ≡ clean_place (place_of x) (line_of x)
    → new ≡ (does {T = Token} s s.given test (seat_of here.seat) (rest_of rest) [] (Back (rest_of rest))).service
    → StepsIn (calls.cleaned {T = Token} s test (find_by test s.seats)) new (Back (rest_of rest)) x.number [] []
cleaned s new test count seats i here x rest table same rested did =
    let c = here.seat in
    let found = ap (find_by test) table ∙ here.found in
    let place : Some (rest_of rest) ≡ clean_place (place_of c) (line_of c) = rested ∙ ap (λ (z : TdsSeat). clean_place (place_of z) (line_of z)) same in
    subst (λ (o : Option Seat). StepsIn (calls.cleaned {T = Token} s test o) new (Back (rest_of rest)) x.number [] []) (sym found)
    (subst (λ (p : Option (Option Place)). StepsIn (calls.rests_cleaned {T = Token} s test (seat_of c) p) new (Back (rest_of rest)) x.number [] []) place
    (record { service_is = did; reply_is = refl; number_is = ap (λ (z : TdsSeat). z.number) (sym same); bytes = ([], refl, refl) }))

pub not_cleaned : (s : Service) (test : Seat → Bool) (count : ℕ) (seats : List TdsSeat) (i : ℕ) (here : Here test count seats i) (x : TdsSeat)
    → s.seats ≡ seats_of (take count seats) → x ≡ here.seat → None ≡ clean_place (place_of x) (line_of x)
    → calls.cleaned {T = Token} s test (find_by test s.seats) ≡ nothing s NotNow
not_cleaned s test count seats i here x table same rested =
    let c = here.seat in
    let place : None ≡ clean_place (place_of c) (line_of c) = rested ∙ ap (λ (z : TdsSeat). clean_place (place_of z) (line_of z)) same in
    ap (calls.cleaned {T = Token} s test) (ap (find_by test) table ∙ here.found) ∙ ap (calls.rests_cleaned {T = Token} s test (seat_of c)) (sym place)

-- ---- A table with its array

pub held_same : (s t : TdsService) (seats others : List TdsSeat) → s ≡ t → seats ≡ others
    → (let h : Held = record { service = s; seats = seats } in h) ≡ record { service = t; seats = others }
held_same s t seats others e f =
    ap (λ (x : TdsService). let h : Held = record { service = x; seats = seats } in h) e ∙ ap (λ (cs : List TdsSeat). let h : Held = record { service = t; seats = cs } in h) f

-- ---- What is done on a seat's client

pub becomes : (c y : TdsSeat) (place : Place) (all : List (Act Token)) → Becomes c y place all
    → seat_of y ≡ record { number = c.number; place = place; line = line_after (line_of c) all }
becomes c y place all b =
    ap (λ (n : ℕ). let t : Seat = record { number = n; place = place_of y; line = line_of y } in t) b.number_is
    ∙ (ap (λ (p : Place). let t : Seat = record { number = c.number; place = p; line = line_of y } in t) b.place_is
    ∙ ap (λ (l : Line). let t : Seat = record { number = c.number; place = place; line = l } in t) b.line_is)

pub acts_by_lease : (last given count : ℕ) (seats : List TdsSeat) (i : ℕ) (test : Seat → Bool) (c y : TdsSeat) (first : Act Token) (all : List (Act Token))
    → count ≤ length seats → FirstMet test (take count seats) i → c ≡ get_or seats i c → refusal_in (line_turn (line_of c) first).answer ≡ None → Becomes c y (place_of c) all
    → (let t : Service = record { max = length (set seats i y); last = last; given = given; seats = seats_of (take count (set seats i y)) } in t)
    ≡ (calls.acts (record { max = length seats; last = last; given = given; seats = seats_of (take count seats) }) test first all (find_by test (seats_of (take count seats)))).service
acts_by_lease last given count seats i test c y first all le met at may b =
    let s : Service = record { max = length seats; last = last; given = given; seats = seats_of (take count seats) } in
    let here = here_in test count seats i le met in
    let same = at ∙ (same_get seats i c here.seat here.within ∙ sym here.at) in
    let found = here.found ∙ ap (λ (x : TdsSeat). Some (seat_of x)) (sym same) in
    let at_used = at ∙ sym (get_or-take count seats i c here.under) in
    put_in last given count seats i y here.under
    ∙ (does_alike s given test (place_of c) all Did (take count seats) i c y refl met at_used (becomes c y (place_of c) all b)
    ∙ (ap (λ (o : Option ClientRefusal). (calls.acts_unless s test (seat_of c) all o).service) (sym may)
    ∙ ap (λ (o : Option Seat). (calls.acts s test first all o).service) (sym found)))

pub comes_by_number : (last given count : ℕ) (seats : List TdsSeat) (i number : ℕ) (c y : TdsSeat) (part : Part Token)
    → count ≤ length seats → FirstMet (has_number number) (take count seats) i → c ≡ get_or seats i c → Becomes c y (drained (place_of c) (line_of y).stage) (Come part ∷ [])
    → (let t : Service = record { max = length (set seats i y); last = last; given = given; seats = seats_of (take count (set seats i y)) } in t)
    ≡ (calls.hears (record { max = length seats; last = last; given = given; seats = seats_of (take count seats) }) (has_number number) part (find_by (has_number number) (seats_of (take count seats)))).service
comes_by_number last given count seats i number c y part le met at b =
    let s : Service = record { max = length seats; last = last; given = given; seats = seats_of (take count seats) } in
    let test = has_number number in
    let all = Come part ∷ [] in
    let here = here_in test count seats i le met in
    let same = at ∙ (same_get seats i c here.seat here.within ∙ sym here.at) in
    let found = here.found ∙ ap (λ (x : TdsSeat). Some (seat_of x)) (sym same) in
    let at_used = at ∙ sym (get_or-take count seats i c here.under) in
    let place = drained (place_of c) (line_after (line_of c) all).stage in
    let new = becomes c y (drained (place_of c) (line_of y).stage) all b
    ∙ ap (λ (l : Line). let t : Seat = record { number = c.number; place = drained (place_of c) l.stage; line = line_after (line_of c) all } in t) b.line_is in
    put_in last given count seats i y here.under
    ∙ (does_alike s given test place all Did (take count seats) i c y refl met at_used new
    ∙ ap (λ (o : Option Seat). (calls.hears s test part o).service) (sym found))
