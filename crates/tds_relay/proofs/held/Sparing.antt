-- A connection that is lent, behind calls of others: it is as it was, and nothing goes out there.
use Rattle.std.proofs.Common.{◌≡◌, ◌∙◌, ◌==◌, ℕ, suc, Bool, true, false, List, [], ◌∷◌, ◌++◌, length, refl, sym, subst}
use Rattle.std.specs.Prelude.{Option, Some, None, nat_lt, if◌then◌else◌}
use Rattle.std.proofs.lemmas.Bool.{eqb-true}
use Rattle.tds_packet.specs.declared.status.Reset.TheVariants.{Full, KeepTransaction}
use Rattle.tds_client.specs.declared.fault.ClientRefusal.{ClientRefusal}
use Rattle.tds_wire.specs.declared.told.Token.{Token}
use Rattle.tds_service.specs.Parts.{Part}
use Rattle.tds_service.specs.Line as line
use Rattle.tds_service.specs.Line.{Line, Act, new_line}
use Rattle.tds_service.specs.History.{Done, history, line_after}
use Rattle.tds_service.specs.Refusing.{packets, refusal_in}
use Rattle.tds_service.specs.Service as calls
use Rattle.tds_service.specs.Service.{Service, Call, Reply, ServiceStep, Place, Leased, Cleaning, Kept, Free, Draining, Seat, find_by, change_by, has_lease, has_ticket, has_number, holds, is_lendable, may_keep, clean_place, drained, rests, rests_cleaned, does, nothing, acts_unless, on, on_one, seat_numbered, step, steps, service_after, is_idle}
use Rattle.tds_service.proofs.Numbered.{change_other, is_found}
use Rattle.tds_relay.proofs.promises.Seats.{Distinct, found_meets}
use Rattle.tds_relay.proofs.promises.Tidy.{Tidy, step_rises}

-- A call that isn't by this lease, nor comes on this connection, nor closes it.
abbrev pub Spares : ℕ → ℕ → Call Token → Type 0
Spares lease n calls.Lease = Unit {0}
Spares lease n (calls.Resume ticket) = Unit {0}
Spares lease n (calls.Ask other) = (lease == other) ≡ false
Spares lease n (calls.Put other count) = (lease == other) ≡ false
Spares lease n (calls.Finish other count) = (lease == other) ≡ false
Spares lease n (calls.Cancel other) = (lease == other) ≡ false
Spares lease n (calls.GiveBack other) = (lease == other) ≡ false
Spares lease n (calls.Clean m) = Unit {0}
Spares lease n (calls.Cleaned other) = (lease == other) ≡ false
Spares lease n (calls.Keep other) = (lease == other) ≡ false
Spares lease n (calls.Abandon ticket) = Unit {0}
Spares lease n (calls.Came m part) = (n == m) ≡ false
Spares lease n (calls.Lost m) = (n == m) ≡ false
Spares lease n (calls.Without call) = Unit {0}

pub record Spared (n : ℕ) (c : Seat) (t : ServiceStep Token) : Type 0 where
  pub stays : seat_numbered n t.service.seats ≡ Some c
  pub quiet : (others : List (Done Token)) → on_one (t.number == n) t.dones others ≡ others

pub none_on : (b : Bool) (others : List (Done Token)) → on_one b [] others ≡ others
none_on true others = refl
none_on false others = refl

other_on : (b : Bool) (ds others : List (Done Token)) → b ≡ false → on_one b ds others ≡ others
other_on true ds others e = absurd (let u : ⊥ = cc in u)
other_on false ds others e = refl

added_by : (b : Bool) (c d : Seat) (x y : Option Seat) → (x ≡ Some c → y ≡ Some c) → (if b then Some d else x) ≡ Some c → (if b then Some d else y) ≡ Some c
added_by true c d x y f e = e
added_by false c d x y f e = f e

added : (n : ℕ) (c d : Seat) (cs : List Seat) → seat_numbered n cs ≡ Some c → seat_numbered n (cs ++ d ∷ []) ≡ Some c
added n c d [] e = absurd (let u : ⊥ = cc in u)
added n c d (x ∷ cs) e = added_by (x.number == n) c x (seat_numbered n cs) (seat_numbered n (cs ++ d ∷ [])) (added n c d cs) e

module _ (s : Service) (c : Seat) (lease : ℕ) (lent : c.place ≡ Leased lease) (distinct : Distinct s.seats) (there : seat_numbered c.number s.seats ≡ Some c) where
  abbrev Does : ServiceStep Token → Type 0
  Does t = Spared c.number c t

  nothing_spares : (reply : Reply) → Does (nothing s reply)
  nothing_spares reply = record { stays = there; quiet = λ others. none_on (0 == c.number) others }

  apart_by : (test : Seat → Bool) (d : Seat) (b : Bool) → (d.number == c.number) ≡ b → find_by test s.seats ≡ Some d → test c ≡ false → b ≡ false
  apart_by test d true is e fails =
      let number : d.number ≡ c.number = eqb-true d.number c.number is in
      let found : seat_numbered c.number s.seats ≡ Some d = subst (λ (k : ℕ). seat_numbered k s.seats ≡ Some d) number (is_found test d s.seats distinct e) in
      let same : d ≡ c = cc in
      let meets : test c ≡ true = subst (λ (x : Seat). test x ≡ true) same (found_meets test d s.seats e) in
      absurd (let u : true ≡ false = sym meets ∙ fails in let v : ⊥ = cc in v)
  apart_by test d false is e fails = refl

  does_spares : (given : ℕ) (test : Seat → Bool) (d : Seat) (place : Option Place) (all : List (Act Token)) (reply : Reply) → find_by test s.seats ≡ Some d → test c ≡ false
      → Does (does s given test d place all reply)
  does_spares given test d place all reply e fails =
      let other : (d.number == c.number) ≡ false = let b : (d.number == c.number) ≡ false = apart_by test d (d.number == c.number) refl e fails in b in
      record {
        stays = change_other test c.number d place (line_after d.line all) s.seats other e ∙ there;
        quiet = λ others. other_on (d.number == c.number) (history d.line all) others other;
      }

  if_spares : (b : Bool) (t u : ServiceStep Token) → (b ≡ true → Does t) → Does u → Does (if b then t else u)
  if_spares true t u h k = h refl
  if_spares false t u h k = k

  its : (other : ℕ) → (lease == other) ≡ false → has_lease other c ≡ false
  its other e = rw lent e

  unkept : (ticket : ℕ) → has_ticket ticket c ≡ false
  unkept ticket = rw lent refl

  unlendable : is_lendable c ≡ false
  unlendable = rw lent refl

  opens_spares : (room : Bool) → Does (calls.opens {T = Token} s room)
  opens_spares false = nothing_spares calls.AllInUse
  opens_spares true = record {
    stays = added c.number c (record { number = suc s.last; place = Leased (suc s.given); line = new_line }) s.seats there;
    quiet = λ others. none_on (0 == c.number) others;
  }

  lends_spares : (o : Option Seat) → find_by is_lendable s.seats ≡ o → Does (calls.lends {T = Token} s o)
  lends_spares None e = opens_spares (nat_lt (length s.seats) s.max)
  lends_spares (Some d) e = does_spares (suc s.given) is_lendable d (Some (Leased (suc s.given))) (line.Mark Full ∷ []) (calls.Lent (suc s.given) d.number true) e unlendable

  resumes_spares : (ticket : ℕ) (o : Option Seat) → find_by (has_ticket ticket) s.seats ≡ o → Does (calls.resumes {T = Token} s (has_ticket ticket) o)
  resumes_spares ticket None e = nothing_spares calls.Unknown
  resumes_spares ticket (Some d) e =
      if_spares (is_idle d.line.stage) (does s (suc s.given) (has_ticket ticket) d (Some (Leased (suc s.given))) (line.Mark KeepTransaction ∷ []) (calls.Lent (suc s.given) d.number true)) (nothing s calls.NotNow)
      (λ is. does_spares (suc s.given) (has_ticket ticket) d (Some (Leased (suc s.given))) (line.Mark KeepTransaction ∷ []) (calls.Lent (suc s.given) d.number true) e (unkept ticket)) (nothing_spares calls.NotNow)

  unless_spares : (test : Seat → Bool) (d : Seat) (all : List (Act Token)) (why : Option ClientRefusal) → find_by test s.seats ≡ Some d → test c ≡ false → Does (acts_unless s test d all why)
  unless_spares test d all None e fails = does_spares s.given test d (Some d.place) all calls.Did e fails
  unless_spares test d all (Some why) e fails = nothing_spares (calls.No why)

  acts_spare : (test : Seat → Bool) (first : Act Token) (all : List (Act Token)) (o : Option Seat) → find_by test s.seats ≡ o → test c ≡ false → Does (calls.acts s test first all o)
  acts_spare test first all None e fails = nothing_spares calls.Unknown
  acts_spare test first all (Some d) e fails = unless_spares test d all (refusal_in (line.line_turn d.line first).answer) e fails

  gives_spare : (test : Seat → Bool) (o : Option Seat) → find_by test s.seats ≡ o → test c ≡ false → Does (calls.gives_back {T = Token} s test o)
  gives_spare test None e fails = nothing_spares calls.Unknown
  gives_spare test (Some d) e fails =
      let place = rests (line_after {T = Token} d.line (line.Cancel ∷ [])).stage in
      does_spares s.given test d place (line.Cancel ∷ []) (calls.Back place) e fails

  -- one that is lent can't be cleaned
  cleans_by : (m : ℕ) (d : Seat) (b : Bool) → has_number m c ≡ b → find_by (has_number m) s.seats ≡ Some d → is_lendable d ≡ true
      → Does (does {T = Token} s (suc s.given) (has_number m) d (Some (Cleaning (suc s.given))) (line.Mark Full ∷ []) (calls.Lent (suc s.given) d.number true))
  cleans_by m d true is e free =
      let number : c.number ≡ m = eqb-true c.number m is in
      let found : seat_numbered m s.seats ≡ Some c = subst (λ (k : ℕ). seat_numbered k s.seats ≡ Some c) number there in
      let same : d ≡ c = cc in
      let free : is_lendable c ≡ true = subst (λ (x : Seat). is_lendable x ≡ true) same free in
      absurd (let u : true ≡ false = sym free ∙ unlendable in let v : ⊥ = cc in v)
  cleans_by m d false is e free =
      does_spares (suc s.given) (has_number m) d (Some (Cleaning (suc s.given))) (line.Mark Full ∷ []) (calls.Lent (suc s.given) d.number true) e is

  cleans_spare : (m : ℕ) (o : Option Seat) → find_by (has_number m) s.seats ≡ o → Does (calls.cleans {T = Token} s (has_number m) o)
  cleans_spare m None e = nothing_spares calls.Unknown
  cleans_spare m (Some d) e =
      if_spares (is_lendable d) (does {T = Token} s (suc s.given) (has_number m) d (Some (Cleaning (suc s.given))) (line.Mark Full ∷ []) (calls.Lent (suc s.given) d.number true)) (nothing s calls.NotNow)
      (λ free. cleans_by m d (has_number m c) refl e free) (nothing_spares calls.NotNow)

  rests_spare : (test : Seat → Bool) (d : Seat) (o : Option (Option Place)) → find_by test s.seats ≡ Some d → test c ≡ false → Does (rests_cleaned {T = Token} s test d o)
  rests_spare test d None e fails = nothing_spares calls.NotNow
  rests_spare test d (Some place) e fails = does_spares s.given test d place [] (calls.Back place) e fails

  cleaned_spares : (test : Seat → Bool) (o : Option Seat) → find_by test s.seats ≡ o → test c ≡ false → Does (calls.cleaned {T = Token} s test o)
  cleaned_spares test None e fails = nothing_spares calls.Unknown
  cleaned_spares test (Some d) e fails = rests_spare test d (clean_place d.place d.line) e fails

  keeps_spare : (test : Seat → Bool) (o : Option Seat) → find_by test s.seats ≡ o → test c ≡ false → Does (calls.keeps_it {T = Token} s test o)
  keeps_spare test None e fails = nothing_spares calls.Unknown
  keeps_spare test (Some d) e fails =
      if_spares (may_keep d) (does {T = Token} s (suc s.given) test d (Some (Kept (suc s.given))) [] (calls.Ticket (suc s.given))) (nothing s calls.NotNow)
      (λ may. does_spares (suc s.given) test d (Some (Kept (suc s.given))) [] (calls.Ticket (suc s.given)) e fails) (nothing_spares calls.NotNow)

  abandons_spare : (test : Seat → Bool) (o : Option Seat) → find_by test s.seats ≡ o → test c ≡ false → Does (calls.abandons {T = Token} s test o)
  abandons_spare test None e fails = nothing_spares calls.Unknown
  abandons_spare test (Some d) e fails = does_spares s.given test d (rests d.line.stage) [] (calls.Back (rests d.line.stage)) e fails

  hears_spare : (test : Seat → Bool) (part : Part Token) (o : Option Seat) → find_by test s.seats ≡ o → test c ≡ false → Does (calls.hears s test part o)
  hears_spare test part None e fails = nothing_spares calls.Unknown
  hears_spare test part (Some d) e fails =
      does_spares s.given test d (Some (drained d.place (line_after d.line (line.Come part ∷ [])).stage)) (line.Come part ∷ []) calls.Did e fails

  loses_spare : (test : Seat → Bool) (o : Option Seat) → find_by test s.seats ≡ o → test c ≡ false → Does (calls.loses {T = Token} s test o)
  loses_spare test None e fails = nothing_spares calls.Unknown
  loses_spare test (Some d) e fails = does_spares s.given test d None (line.Lose ∷ []) (calls.Back None) e fails

  pub spares : (call : Call Token) → Spares lease c.number call → Does (step s call)
  spares calls.Lease h = lends_spares (find_by is_lendable s.seats) refl
  spares (calls.Resume ticket) h = resumes_spares ticket (find_by (has_ticket ticket) s.seats) refl
  spares (calls.Ask other) h = acts_spare (has_lease other) line.Ask (line.Ask ∷ []) (find_by (has_lease other) s.seats) refl (its other h)
  spares (calls.Put other count) h = acts_spare (has_lease other) (line.Send false) (packets count) (find_by (has_lease other) s.seats) refl (its other h)
  spares (calls.Finish other count) h = acts_spare (has_lease other) (line.Send true) (packets count ++ line.Send true ∷ []) (find_by (has_lease other) s.seats) refl (its other h)
  spares (calls.Cancel other) h = acts_spare (has_lease other) line.Cancel (line.Cancel ∷ []) (find_by (has_lease other) s.seats) refl (its other h)
  spares (calls.GiveBack other) h = gives_spare (has_lease other) (find_by (has_lease other) s.seats) refl (its other h)
  spares (calls.Clean m) h = cleans_spare m (find_by (has_number m) s.seats) refl
  spares (calls.Cleaned other) h = cleaned_spares (has_lease other) (find_by (has_lease other) s.seats) refl (its other h)
  spares (calls.Keep other) h = keeps_spare (has_lease other) (find_by (has_lease other) s.seats) refl (its other h)
  spares (calls.Abandon ticket) h = abandons_spare (has_ticket ticket) (find_by (has_ticket ticket) s.seats) refl (unkept ticket)
  spares (calls.Came m part) h = hears_spare (has_number m) part (find_by (has_number m) s.seats) refl h
  spares (calls.Lost m) h = loses_spare (has_number m) (find_by (has_number m) s.seats) refl h
  spares (calls.Without call) h = nothing_spares calls.NoMemory

-- ---- One after the other

abbrev pub SparesAll : ℕ → ℕ → List (Call Token) → Type 0
SparesAll lease n [] = Unit {0}
SparesAll lease n (call ∷ all) = Spares lease n call × SparesAll lease n all

pub if_all_spare : (lease n : ℕ) (b : Bool) (xs ys : List (Call Token)) → SparesAll lease n xs → SparesAll lease n ys → SparesAll lease n (if b then xs else ys)
if_all_spare lease n true xs ys h k = h
if_all_spare lease n false xs ys h k = k

abbrev Remains : ℕ → Seat → Service → List (Call Token) → Type 0
Remains n c s all = (seat_numbered n (service_after s all).seats ≡ Some c) × (on n (steps s all) ≡ [])

all_remains : (s : Service) (c : Seat) (lease : ℕ) (all : List (Call Token)) → c.place ≡ Leased lease → Tidy s → seat_numbered c.number s.seats ≡ Some c
    → SparesAll lease c.number all → Remains c.number c s all
all_remains s c lease [] lent tidy there h = (there, refl)
all_remains s c lease (call ∷ all) lent tidy there h =
    let one = spares s c lease lent tidy.distinct there call h.0 in
    let more = all_remains (step s call).service c lease all lent (step_rises s call tidy).tidy one.stays h.1 in
    (more.0, one.quiet (on c.number (steps (step s call).service all)) ∙ more.1)

-- It stays as it was, and nothing goes out there.
pub remains : (s : Service) (c : Seat) (n lease : ℕ) (all : List (Call Token)) → c.number ≡ n → c.place ≡ Leased lease → Tidy s → seat_numbered n s.seats ≡ Some c
    → SparesAll lease n all → Remains n c s all
remains s c n lease all number lent tidy there h =
    let P : ℕ → Type 0 = λ (k : ℕ). seat_numbered k s.seats ≡ Some c → SparesAll lease k all → Remains k c s all in
    let Q : P c.number = λ t x. all_remains s c lease all lent tidy t x in
    let R : P n = subst P number Q in
    R there h
