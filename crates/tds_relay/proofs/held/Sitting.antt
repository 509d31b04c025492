-- A connection that is held is lent by the lease that its hold names, behind any call but its own.
use Rattle.std.proofs.Common.{◌≡◌, ◌∙◌, ◌==◌, ◌≤◌, ℕ, suc, Bool, true, false, List, [], ◌∷◌, ◌++◌, length, refl, sym, ap, subst, arith}
use Rattle.std.specs.Prelude.{Option, Some, None, nat_lt, if◌then◌else◌}
use Rattle.std.proofs.lemmas.Bool.{eqb-true}
use Rattle.tds_packet.specs.declared.status.Reset.TheVariants.{Full, KeepTransaction}
use Rattle.tds_client.specs.declared.fault.ClientRefusal.{ClientRefusal}
use Rattle.tds_wire.specs.declared.told.Token.{Token}
use Rattle.tds_service.specs.Parts.{Part}
use Rattle.tds_service.specs.Line as line
use Rattle.tds_service.specs.Line.{Line, Act, LineStage, new_line}
use Rattle.tds_service.specs.History.{line_after}
use Rattle.tds_service.specs.Refusing.{packets, refusal_in}
use Rattle.tds_service.specs.Service as calls
use Rattle.tds_service.specs.Service.{Service, Call, Reply, ServiceStep, Place, Leased, Cleaning, Kept, Free, Draining, Seat, find_by, change_by, has_lease, has_ticket, has_number, is_lendable, is_idle, may_keep, clean_place, drained, rests, rests_cleaned, does, nothing, acts_unless, lease_at, seat_numbered, step, service_after}
use Rattle.tds_service.proofs.Numbered.{added_here, added_other, change_here, change_other, change_out, is_found}
use Rattle.tds_service.proofs.Tests.{above, below}
use Rattle.tds_relay.specs.declared.pool.Hold.{Hold}
use Rattle.tds_relay.specs.Pool as pool
use Rattle.tds_relay.specs.Pool.{Pool, Event, Action, Way, PoolTurn, Hearing, find_key, find_lease, without_lease, without_number, holding, moves, cleaning, cleaning_by, releasing, frees, lent_in, ticket_in, turn}
use Rattle.tds_relay.specs.Promises.{Each}
use Rattle.tds_relay.proofs.promises.Seats.{Distinct, each_found, found_meets}
use Rattle.tds_relay.proofs.promises.Tidy.{Tidy, UpTo, step_rises}

pub record Sits (s : Service) (x : Hold) : Type 0 where
  pub low : x.number ≤ s.last
  pub lent : (c : Seat) → seat_numbered x.number s.seats ≡ Some c → c.place ≡ Leased x.lease

-- A call that doesn't give this lease back, nor keeps its connection.
abbrev pub Lets : ℕ → Call Token → Type 0
Lets lease calls.Lease = Unit {0}
Lets lease (calls.Resume ticket) = Unit {0}
Lets lease (calls.Ask other) = Unit {0}
Lets lease (calls.Put other count) = Unit {0}
Lets lease (calls.Finish other count) = Unit {0}
Lets lease (calls.Cancel other) = Unit {0}
Lets lease (calls.GiveBack other) = (lease == other) ≡ false
Lets lease (calls.Clean m) = Unit {0}
Lets lease (calls.Cleaned other) = Unit {0}
Lets lease (calls.Keep other) = (lease == other) ≡ false
Lets lease (calls.Abandon ticket) = Unit {0}
Lets lease (calls.Came m part) = Unit {0}
Lets lease (calls.Lost m) = Unit {0}
Lets lease (calls.Without call) = Unit {0}

module _ (s : Service) (x : Hold) (distinct : Distinct s.seats) (sits : Sits s x) where
  abbrev Puts : Option Place → Type 0
  Puts None = Unit {0}
  Puts (Some place) = place ≡ Leased x.lease

  put_at : (test : Seat → Bool) (d c : Seat) (place : Option Place) (l : Line) → find_by test s.seats ≡ Some d → d.number ≡ x.number → Puts place
      → seat_numbered x.number (change_by test place l s.seats) ≡ Some c → c.place ≡ Leased x.lease
  put_at test d c None l e number p found =
      let gone : seat_numbered x.number (change_by test None l s.seats) ≡ None =
      subst (λ (k : ℕ). seat_numbered k (change_by test None l s.seats) ≡ None) number (change_out test d l s.seats distinct e) in
      absurd (let u : None ≡ Some c = sym gone ∙ found in let v : ⊥ = cc in v)
  put_at test d c (Some place) l e number p found =
      let here : seat_numbered x.number (change_by test (Some place) l s.seats) ≡ Some (record { number = d.number; place = place; line = l }) =
      subst (λ (k : ℕ). seat_numbered k (change_by test (Some place) l s.seats) ≡ Some (record { number = d.number; place = place; line = l })) number (change_here test d place l s.seats distinct e) in
      let d2 : Seat = record { number = d.number; place = place; line = l } in
      let same : c ≡ d2 = (let u : Some c ≡ Some d2 = sym found ∙ here in cc) in
      ap (λ (y : Seat). y.place) same ∙ p

  does_at : (test : Seat → Bool) (d c : Seat) (place : Option Place) (l : Line) (b : Bool) → (d.number == x.number) ≡ b → find_by test s.seats ≡ Some d → (d.place ≡ Leased x.lease → Puts place)
      → seat_numbered x.number (change_by test place l s.seats) ≡ Some c → c.place ≡ Leased x.lease
  does_at test d c place l true is e p found =
      let number : d.number ≡ x.number = eqb-true d.number x.number is in
      let was : seat_numbered x.number s.seats ≡ Some d = subst (λ (k : ℕ). seat_numbered k s.seats ≡ Some d) number (is_found test d s.seats distinct e) in
      put_at test d c place l e number (p (sits.lent d was)) found
  does_at test d c place l false is e p found = sits.lent c (sym (change_other test x.number d place l s.seats is e) ∙ found)

  does_sits : (given : ℕ) (test : Seat → Bool) (d : Seat) (place : Option Place) (all : List (Act Token)) (reply : Reply) → find_by test s.seats ≡ Some d → (d.place ≡ Leased x.lease → Puts place)
      → Sits (does s given test d place all reply).service x
  does_sits given test d place all reply e p =
      record { low = sits.low; lent = λ c found. does_at test d c place (line_after d.line all) (d.number == x.number) refl e p found }

  if_sits : (b : Bool) (t u : ServiceStep Token) → (b ≡ true → Sits t.service x) → Sits u.service x → Sits (if b then t else u).service x
  if_sits true t u h k = h refl
  if_sits false t u h k = k

  -- a test that no lent connection meets
  unmet : (test : Seat → Bool) (d : Seat) (place : Option Place) → find_by test s.seats ≡ Some d → (d.place ≡ Leased x.lease → test d ≡ false) → d.place ≡ Leased x.lease → Puts place
  unmet test d place e fails is = absurd (let u : true ≡ false = sym (found_meets test d s.seats e) ∙ fails is in let v : ⊥ = cc in v)

  unlendable : (d : Seat) → d.place ≡ Leased x.lease → is_lendable d ≡ false
  unlendable d is = rw is refl

  unkept : (ticket : ℕ) (d : Seat) → d.place ≡ Leased x.lease → has_ticket ticket d ≡ false
  unkept ticket d is = rw is refl

  opens_sits : (room : Bool) → Sits (calls.opens {T = Token} s room).service x
  opens_sits false = sits
  opens_sits true =
      let c : Seat = record { number = suc s.last; place = Leased (suc s.given); line = new_line } in
      let low : x.number ≤ s.last = sits.low in
      let ne : (suc s.last == x.number) ≡ false = below (suc s.last) x.number (omega arith) in
      record { low = omega arith; lent = λ d found. sits.lent d (sym (added_other x.number c s.seats ne) ∙ found) }

  lends_sits : (o : Option Seat) → find_by is_lendable s.seats ≡ o → Sits (calls.lends {T = Token} s o).service x
  lends_sits None e = opens_sits (nat_lt (length s.seats) s.max)
  lends_sits (Some d) e =
      does_sits (suc s.given) is_lendable d (Some (Leased (suc s.given))) (line.Mark Full ∷ []) (calls.Lent (suc s.given) d.number true) e
      (unmet is_lendable d (Some (Leased (suc s.given))) e (unlendable d))

  resumes_sits : (ticket : ℕ) (o : Option Seat) → find_by (has_ticket ticket) s.seats ≡ o → Sits (calls.resumes {T = Token} s (has_ticket ticket) o).service x
  resumes_sits ticket None e = sits
  resumes_sits ticket (Some d) e =
      if_sits (is_idle d.line.stage) (does s (suc s.given) (has_ticket ticket) d (Some (Leased (suc s.given))) (line.Mark KeepTransaction ∷ []) (calls.Lent (suc s.given) d.number true)) (nothing s calls.NotNow)
      (λ is. does_sits (suc s.given) (has_ticket ticket) d (Some (Leased (suc s.given))) (line.Mark KeepTransaction ∷ []) (calls.Lent (suc s.given) d.number true) e
      (unmet (has_ticket ticket) d (Some (Leased (suc s.given))) e (unkept ticket d))) sits

  unless_sits : (test : Seat → Bool) (d : Seat) (all : List (Act Token)) (why : Option ClientRefusal) → find_by test s.seats ≡ Some d → Sits (acts_unless s test d all why).service x
  unless_sits test d all None e = does_sits s.given test d (Some d.place) all calls.Did e (λ is. is)
  unless_sits test d all (Some why) e = sits

  acts_sit : (test : Seat → Bool) (first : Act Token) (all : List (Act Token)) (o : Option Seat) → find_by test s.seats ≡ o → Sits (calls.acts s test first all o).service x
  acts_sit test first all None e = sits
  acts_sit test first all (Some d) e = unless_sits test d all (refusal_in (line.line_turn d.line first).answer) e

  another : (other : ℕ) (d : Seat) → (x.lease == other) ≡ false → d.place ≡ Leased x.lease → has_lease other d ≡ false
  another other d ne is = rw is ne

  gives_sit : (other : ℕ) (o : Option Seat) → (x.lease == other) ≡ false → find_by (has_lease other) s.seats ≡ o → Sits (calls.gives_back {T = Token} s (has_lease other) o).service x
  gives_sit other None ne e = sits
  gives_sit other (Some d) ne e =
      let place = rests (line_after {T = Token} d.line (line.Cancel ∷ [])).stage in
      does_sits s.given (has_lease other) d place (line.Cancel ∷ []) (calls.Back place) e (unmet (has_lease other) d place e (another other d ne))

  lendable_not : (d : Seat) (place : Option Place) → is_lendable d ≡ true → d.place ≡ Leased x.lease → Puts place
  lendable_not d place free is = absurd (let u : true ≡ false = sym free ∙ unlendable d is in let v : ⊥ = cc in v)

  cleans_sit : (m : ℕ) (o : Option Seat) → find_by (has_number m) s.seats ≡ o → Sits (calls.cleans {T = Token} s (has_number m) o).service x
  cleans_sit m None e = sits
  cleans_sit m (Some d) e =
      if_sits (is_lendable d) (does {T = Token} s (suc s.given) (has_number m) d (Some (Cleaning (suc s.given))) (line.Mark Full ∷ []) (calls.Lent (suc s.given) d.number true)) (nothing s calls.NotNow)
      (λ free. does_sits (suc s.given) (has_number m) d (Some (Cleaning (suc s.given))) (line.Mark Full ∷ []) (calls.Lent (suc s.given) d.number true) e (lendable_not d (Some (Cleaning (suc s.given))) free)) sits

  uncleaned : (place : Place) (l : Line) (o : Option (Option Place)) → clean_place place l ≡ o → place ≡ Leased x.lease → o ≡ None
  uncleaned place l o e is = sym e ∙ ap (λ (p : Place). clean_place p l) is

  rests_sit : (test : Seat → Bool) (d : Seat) (o : Option (Option Place)) → clean_place d.place d.line ≡ o → find_by test s.seats ≡ Some d → Sits (rests_cleaned {T = Token} s test d o).service x
  rests_sit test d None is e = sits
  rests_sit test d (Some place) is e =
      does_sits s.given test d place [] (calls.Back place) e
      (λ lent. absurd (let u : Some place ≡ None = uncleaned d.place d.line (Some place) is lent in let v : ⊥ = cc in v))

  cleaned_sits : (test : Seat → Bool) (o : Option Seat) → find_by test s.seats ≡ o → Sits (calls.cleaned {T = Token} s test o).service x
  cleaned_sits test None e = sits
  cleaned_sits test (Some d) e = rests_sit test d (clean_place d.place d.line) refl e

  keeps_sit : (other : ℕ) (o : Option Seat) → (x.lease == other) ≡ false → find_by (has_lease other) s.seats ≡ o → Sits (calls.keeps_it {T = Token} s (has_lease other) o).service x
  keeps_sit other None ne e = sits
  keeps_sit other (Some d) ne e =
      if_sits (may_keep d) (does {T = Token} s (suc s.given) (has_lease other) d (Some (Kept (suc s.given))) [] (calls.Ticket (suc s.given))) (nothing s calls.NotNow)
      (λ may. does_sits (suc s.given) (has_lease other) d (Some (Kept (suc s.given))) [] (calls.Ticket (suc s.given)) e (unmet (has_lease other) d (Some (Kept (suc s.given))) e (another other d ne))) sits

  abandons_sit : (ticket : ℕ) (o : Option Seat) → find_by (has_ticket ticket) s.seats ≡ o → Sits (calls.abandons {T = Token} s (has_ticket ticket) o).service x
  abandons_sit ticket None e = sits
  abandons_sit ticket (Some d) e =
      does_sits s.given (has_ticket ticket) d (rests d.line.stage) [] (calls.Back (rests d.line.stage)) e (unmet (has_ticket ticket) d (rests d.line.stage) e (unkept ticket d))

  stays_drained : (place : Place) (stage : LineStage) → place ≡ Leased x.lease → drained place stage ≡ Leased x.lease
  stays_drained place stage is = ap (λ (p : Place). drained p stage) is

  hears_sit : (test : Seat → Bool) (part : Part Token) (o : Option Seat) → find_by test s.seats ≡ o → Sits (calls.hears s test part o).service x
  hears_sit test part None e = sits
  hears_sit test part (Some d) e =
      let stage = (line_after d.line (line.Come part ∷ [])).stage in
      does_sits s.given test d (Some (drained d.place stage)) (line.Come part ∷ []) calls.Did e (λ is. stays_drained d.place stage is)

  loses_sit : (test : Seat → Bool) (o : Option Seat) → find_by test s.seats ≡ o → Sits (calls.loses {T = Token} s test o).service x
  loses_sit test None e = sits
  loses_sit test (Some d) e = does_sits s.given test d None (line.Lose ∷ []) (calls.Back None) e (λ is. tt)

  pub sits_behind : (call : Call Token) → Lets x.lease call → Sits (step s call).service x
  sits_behind calls.Lease h = lends_sits (find_by is_lendable s.seats) refl
  sits_behind (calls.Resume ticket) h = resumes_sits ticket (find_by (has_ticket ticket) s.seats) refl
  sits_behind (calls.Ask other) h = acts_sit (has_lease other) line.Ask (line.Ask ∷ []) (find_by (has_lease other) s.seats) refl
  sits_behind (calls.Put other count) h = acts_sit (has_lease other) (line.Send false) (packets count) (find_by (has_lease other) s.seats) refl
  sits_behind (calls.Finish other count) h = acts_sit (has_lease other) (line.Send true) (packets count ++ line.Send true ∷ []) (find_by (has_lease other) s.seats) refl
  sits_behind (calls.Cancel other) h = acts_sit (has_lease other) line.Cancel (line.Cancel ∷ []) (find_by (has_lease other) s.seats) refl
  sits_behind (calls.GiveBack other) h = gives_sit other (find_by (has_lease other) s.seats) h refl
  sits_behind (calls.Clean m) h = cleans_sit m (find_by (has_number m) s.seats) refl
  sits_behind (calls.Cleaned other) h = cleaned_sits (has_lease other) (find_by (has_lease other) s.seats) refl
  sits_behind (calls.Keep other) h = keeps_sit other (find_by (has_lease other) s.seats) h refl
  sits_behind (calls.Abandon ticket) h = abandons_sit ticket (find_by (has_ticket ticket) s.seats) refl
  sits_behind (calls.Came m part) h = hears_sit (has_number m) part (find_by (has_number m) s.seats) refl
  sits_behind (calls.Lost m) h = loses_sit (has_number m) (find_by (has_number m) s.seats) refl
  sits_behind (calls.Without call) h = sits

-- ---- Calls, one after the other

abbrev pub LetsAll : ℕ → List (Call Token) → Type 0
LetsAll lease [] = Unit {0}
LetsAll lease (call ∷ all) = Lets lease call × LetsAll lease all

pub all_sit : (s : Service) (x : Hold) (all : List (Call Token)) → Tidy s → LetsAll x.lease all → Sits s x → Sits (service_after s all) x
all_sit s x [] tidy h sits = sits
all_sit s x (call ∷ all) tidy h sits = all_sit (step s call).service x all (step_rises s call tidy).tidy h.1 (sits_behind s x tidy.distinct sits call h.0)

-- ---- One that is lent

module _ (s : Service) (tidy : Tidy s) (key : ℕ) where
  abbrev LentSits : ServiceStep Token → Type 0
  LentSits t = (loan : pool.Loan) → lent_in t.reply ≡ Some loan → Sits t.service (holding key loan.lease loan.number)

  placed_sits : (given : ℕ) (test : Seat → Bool) (d : Seat) (all : List (Act Token)) → find_by test s.seats ≡ Some d
      → LentSits (does s given test d (Some (Leased given)) all (calls.Lent given d.number true))
  placed_sits given test d all e loan is =
      let l = line_after d.line all in
      let d2 : Seat = record { number = d.number; place = Leased given; line = l } in
      let one : pool.Loan = record { lease = given; number = d.number } in
      let here : seat_numbered d.number (change_by test (Some (Leased given)) l s.seats) ≡ Some d2 = change_here test d (Leased given) l s.seats tidy.distinct e in
      let low : d.number ≤ s.last = each_found (UpTo s.last) test d s.seats tidy.upto e in
      let sits : Sits (does s given test d (Some (Leased given)) all (calls.Lent given d.number true)).service (holding key given d.number) = record {
        low = low;
        lent = λ c found. (let same : c ≡ d2 = (let u : Some c ≡ Some d2 = sym found ∙ here in cc) in ap (λ (y : Seat). y.place) same);
      } in
      let same : one ≡ loan = cc in
      subst (λ (y : pool.Loan). Sits (does s given test d (Some (Leased given)) all (calls.Lent given d.number true)).service (holding key y.lease y.number)) same sits

  none_sits : (reply : Reply) → lent_in reply ≡ None → LentSits (nothing s reply)
  none_sits reply none loan is = absurd (let u : None ≡ Some loan = sym none ∙ is in let v : ⊥ = cc in v)

  numbered_none : (last : ℕ) (cs : List Seat) → Each (UpTo last) cs → seat_numbered (suc last) cs ≡ None
  numbered_none last [] h = refl
  numbered_none last (c ∷ cs) h =
      let le : c.number ≤ last = h.0 in
      let ne : (c.number == suc last) ≡ false = above c.number (suc last) (omega arith) in
      rw ne (numbered_none last cs h.1)

  opened_sits : (room : Bool) → LentSits (calls.opens {T = Token} s room)
  opened_sits false loan is = none_sits calls.AllInUse refl loan is
  opened_sits true loan is =
      let c : Seat = record { number = suc s.last; place = Leased (suc s.given); line = new_line } in
      let one : pool.Loan = record { lease = suc s.given; number = suc s.last } in
      let here : seat_numbered (suc s.last) (s.seats ++ c ∷ []) ≡ Some c = added_here c s.seats (numbered_none s.last s.seats tidy.upto) in
      let sits : Sits (calls.opens {T = Token} s true).service (holding key (suc s.given) (suc s.last)) = record {
        low = (let le : suc s.last ≤ suc s.last = omega arith in le);
        lent = λ d found. (let same : d ≡ c = (let u : Some d ≡ Some c = sym found ∙ here in cc) in ap (λ (y : Seat). y.place) same);
      } in
      let same : one ≡ loan = cc in
      subst (λ (y : pool.Loan). Sits (calls.opens {T = Token} s true).service (holding key y.lease y.number)) same sits

  lent_by : (o : Option Seat) → find_by is_lendable s.seats ≡ o → LentSits (calls.lends {T = Token} s o)
  lent_by None e = opened_sits (nat_lt (length s.seats) s.max)
  lent_by (Some d) e = placed_sits (suc s.given) is_lendable d (line.Mark Full ∷ []) e

  pub lent_sits : LentSits (step s calls.Lease)
  lent_sits = lent_by (find_by is_lendable s.seats) refl

  resumed_if : (ticket : ℕ) (d : Seat) (b : Bool) → find_by (has_ticket ticket) s.seats ≡ Some d
      → LentSits (if b then does s (suc s.given) (has_ticket ticket) d (Some (Leased (suc s.given))) (line.Mark KeepTransaction ∷ []) (calls.Lent (suc s.given) d.number true) else nothing s calls.NotNow)
  resumed_if ticket d true e = placed_sits (suc s.given) (has_ticket ticket) d (line.Mark KeepTransaction ∷ []) e
  resumed_if ticket d false e = none_sits calls.NotNow refl

  resumed_by : (ticket : ℕ) (o : Option Seat) → find_by (has_ticket ticket) s.seats ≡ o → LentSits (calls.resumes {T = Token} s (has_ticket ticket) o)
  resumed_by ticket None e = none_sits calls.Unknown refl
  resumed_by ticket (Some d) e = resumed_if ticket d (is_idle d.line.stage) e

  pub resumed_sits : (ticket : ℕ) → LentSits (step s (calls.Resume ticket))
  resumed_sits ticket = resumed_by ticket (find_by (has_ticket ticket) s.seats) refl
