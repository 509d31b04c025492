-- TokenParsers stand where they stood, behind any call of the service that reads nothing.
use Rattle.std.proofs.Common.{◌≡◌, ◌≢◌, ◌∙◌, ◌==◌, ◌≤◌, ℕ, suc, Bool, true, false, List, [], ◌∷◌, ◌++◌, length, inl, inr, refl, sym, ap, subst, arith}
use Rattle.std.specs.Prelude.{◌⊎◌, Option, Some, None, nat_lt, if◌then◌else◌}
use Rattle.std.proofs.lemmas.Bool.Decides.{nat_tests}
use Rattle.tds_client.specs.declared.fault.ClientRefusal.{ClientRefusal}
use Rattle.tds_wire.specs.declared.features.Features.{Features}
use Rattle.tds_wire.specs.declared.told.Token.{Token}
use Rattle.tds_wire.specs.Reading.{Parser}
use Rattle.tds_packet.specs.declared.status.Reset.TheVariants.{Full, KeepTransaction}
use Rattle.tds_service.specs.declared.seat.Seat as seats
use Rattle.tds_service.specs.declared.service.Service as services
use Rattle.tds_service.specs.Beginning.{Begins, BeginsAt, MakesAlike}
use Rattle.tds_service.specs.Line as line
use Rattle.tds_service.specs.Line.{Line, Act, new_line}
use Rattle.tds_service.specs.History.{line_after}
use Rattle.tds_service.specs.Parts.{Part}
use Rattle.tds_service.specs.Refusing.{packets, refusal_in}
use Rattle.tds_service.specs.Service as calls
use Rattle.tds_service.specs.Service.{Service, Call, Reply, ServiceStep, Place, Leased, Cleaning, Kept, Seat, find_by, change_by, has_lease, has_ticket, has_number, is_lendable, is_idle, may_keep, clean_place, drained, rests_cleaned, does, nothing, acts_unless, opens, seat_numbered, step, service_after, new_service}
use Rattle.tds_service.specs.Sizes.{KeepsSize}
use Rattle.tds_service.specs.Table.{Keeps, KeepsOthers, StepsIn, reading_by, reading_on, seat_in, seats_in, service_in}
use Rattle.tds_service.proofs.Numbered.{added_other, same_number}
use Rattle.tds_service.proofs.Tests.{below}
use Rattle.tds_relay.specs.TokenParsers.{AllStand, IsLed, IsUnread, OfSize, StandsAt, There, Unread}
use Rattle.tds_relay.proofs.promises.Seats.{each_found, found_meets, none_changed}
use Rattle.tds_relay.proofs.promises.Tidy.{Tidy, UpTo, all_rise}

-- ---- Services that calls led to

after_all : (s : Service) (xs ys : List (Call Token)) → service_after s (xs ++ ys) ≡ service_after (service_after s xs) ys
after_all s [] ys = refl
after_all s (x ∷ xs) ys = after_all (step s x).service xs ys

pub led_on : (s t : Service) (call : Call Token) → t ≡ (step s call).service → IsLed s → IsLed t
led_on s t call is led = (
  led.0,
  led.1 ++ call ∷ [],
  after_all (new_service led.0) led.1 (call ∷ []) ∙ ap (λ (x : Service). (step x call).service) led.2 ∙ sym is,
)

pub led_tidy : (s : Service) → IsLed s → Tidy s
led_tidy s led = subst Tidy led.2 (all_rise (new_service led.0) led.1 (record { distinct = tt; upto = tt; within = tt })).tidy

-- ---- What a call leaves of a service

-- whether it may open a new connection
abbrev pub Opens : Call Token → Type 0
Opens calls.Lease = Unit {0}
Opens (calls.Resume ticket) = ⊥
Opens (calls.Ask lease) = ⊥
Opens (calls.Put lease count) = ⊥
Opens (calls.Finish lease count) = ⊥
Opens (calls.Cancel lease) = ⊥
Opens (calls.GiveBack lease) = ⊥
Opens (calls.Clean number) = ⊥
Opens (calls.Cleaned lease) = ⊥
Opens (calls.Keep lease) = ⊥
Opens (calls.Abandon ticket) = ⊥
Opens (calls.Came number part) = ⊥
Opens (calls.Lost number) = ⊥
Opens (calls.Without call) = ⊥

module _ (s : Service) (P : Service → Type 0) (same : P s)
    (changed : (given : ℕ) (test : Seat → Bool) (place : Option Place) (l : Line) → P (record { max = s.max; last = s.last; given = given; seats = change_by test place l s.seats })) where
  if_so : (b : Bool) (t u : ServiceStep Token) → P t.service → P u.service → P (if b then t else u).service
  if_so true t u h k = h
  if_so false t u h k = k

  opens_so : P (opens {T = Token} s true).service → (b : Bool) → P (opens {T = Token} s b).service
  opens_so opened true = opened
  opens_so opened false = same

  does_so : (given : ℕ) (test : Seat → Bool) (c : Seat) (place : Option Place) (all : List (Act Token)) (reply : Reply) → P (does s given test c place all reply).service
  does_so given test c place all reply = changed given test place (line_after c.line all)

  unless_so : (test : Seat → Bool) (c : Seat) (all : List (Act Token)) (why : Option ClientRefusal) → P (acts_unless s test c all why).service
  unless_so test c all None = does_so s.given test c (Some c.place) all calls.Did
  unless_so test c all (Some why) = same

  acts_so : (test : Seat → Bool) (first : Act Token) (all : List (Act Token)) (o : Option Seat) → P (calls.acts s test first all o).service
  acts_so test first all None = same
  acts_so test first all (Some c) = unless_so test c all (refusal_in (line.line_turn c.line first).answer)

  lends_so : P (opens {T = Token} s true).service → (o : Option Seat) → P (calls.lends {T = Token} s o).service
  lends_so opened None = opens_so opened (nat_lt (length s.seats) s.max)
  lends_so opened (Some c) = does_so (suc s.given) is_lendable c (Some (Leased (suc s.given))) (line.Mark Full ∷ []) (calls.Lent (suc s.given) c.number true)

  resumes_so : (test : Seat → Bool) (o : Option Seat) → P (calls.resumes {T = Token} s test o).service
  resumes_so test None = same
  resumes_so test (Some c) =
      if_so (is_idle c.line.stage) (does s (suc s.given) test c (Some (Leased (suc s.given))) (line.Mark KeepTransaction ∷ []) (calls.Lent (suc s.given) c.number true)) (nothing s calls.NotNow)
      (does_so (suc s.given) test c (Some (Leased (suc s.given))) (line.Mark KeepTransaction ∷ []) (calls.Lent (suc s.given) c.number true)) same

  gives_so : (test : Seat → Bool) (o : Option Seat) → P (calls.gives_back {T = Token} s test o).service
  gives_so test None = same
  gives_so test (Some c) =
      let place = calls.rests (line_after {T = Token} c.line (line.Cancel ∷ [])).stage in
      does_so s.given test c place (line.Cancel ∷ []) (calls.Back place)

  cleans_so : (test : Seat → Bool) (o : Option Seat) → P (calls.cleans {T = Token} s test o).service
  cleans_so test None = same
  cleans_so test (Some c) =
      if_so (is_lendable c) (does s (suc s.given) test c (Some (Cleaning (suc s.given))) (line.Mark Full ∷ []) (calls.Lent (suc s.given) c.number true)) (nothing s calls.NotNow)
      (does_so (suc s.given) test c (Some (Cleaning (suc s.given))) (line.Mark Full ∷ []) (calls.Lent (suc s.given) c.number true)) same

  cleaned_by_so : (test : Seat → Bool) (c : Seat) (o : Option (Option Place)) → P (rests_cleaned {T = Token} s test c o).service
  cleaned_by_so test c None = same
  cleaned_by_so test c (Some place) = does_so s.given test c place [] (calls.Back place)

  cleaned_so : (test : Seat → Bool) (o : Option Seat) → P (calls.cleaned {T = Token} s test o).service
  cleaned_so test None = same
  cleaned_so test (Some c) = cleaned_by_so test c (clean_place c.place c.line)

  keeps_so : (test : Seat → Bool) (o : Option Seat) → P (calls.keeps_it {T = Token} s test o).service
  keeps_so test None = same
  keeps_so test (Some c) =
      if_so (may_keep c) (does s (suc s.given) test c (Some (Kept (suc s.given))) [] (calls.Ticket (suc s.given))) (nothing s calls.NotNow)
      (does_so (suc s.given) test c (Some (Kept (suc s.given))) [] (calls.Ticket (suc s.given))) same

  abandons_so : (test : Seat → Bool) (o : Option Seat) → P (calls.abandons {T = Token} s test o).service
  abandons_so test None = same
  abandons_so test (Some c) = does_so s.given test c (calls.rests c.line.stage) [] (calls.Back (calls.rests c.line.stage))

  hears_so : (test : Seat → Bool) (part : Part Token) (o : Option Seat) → P (calls.hears s test part o).service
  hears_so test part None = same
  hears_so test part (Some c) =
      does_so s.given test c (Some (drained c.place (line_after c.line (line.Come part ∷ [])).stage)) (line.Come part ∷ []) calls.Did

  loses_so : (test : Seat → Bool) (o : Option Seat) → P (calls.loses {T = Token} s test o).service
  loses_so test None = same
  loses_so test (Some c) = does_so s.given test c None (line.Lose ∷ []) (calls.Back None)

  pub step_so : (call : Call Token) → (Opens call → P (opens {T = Token} s true).service) → P (step s call).service
  step_so calls.Lease opened = lends_so (opened tt) (find_by is_lendable s.seats)
  step_so (calls.Resume ticket) opened = resumes_so (has_ticket ticket) (find_by (has_ticket ticket) s.seats)
  step_so (calls.Ask lease) opened = acts_so (has_lease lease) line.Ask (line.Ask ∷ []) (find_by (has_lease lease) s.seats)
  step_so (calls.Put lease count) opened = acts_so (has_lease lease) (line.Send false) (packets count) (find_by (has_lease lease) s.seats)
  step_so (calls.Finish lease count) opened = acts_so (has_lease lease) (line.Send true) (packets count ++ line.Send true ∷ []) (find_by (has_lease lease) s.seats)
  step_so (calls.Cancel lease) opened = acts_so (has_lease lease) line.Cancel (line.Cancel ∷ []) (find_by (has_lease lease) s.seats)
  step_so (calls.GiveBack lease) opened = gives_so (has_lease lease) (find_by (has_lease lease) s.seats)
  step_so (calls.Clean number) opened = cleans_so (has_number number) (find_by (has_number number) s.seats)
  step_so (calls.Cleaned lease) opened = cleaned_so (has_lease lease) (find_by (has_lease lease) s.seats)
  step_so (calls.Keep lease) opened = keeps_so (has_lease lease) (find_by (has_lease lease) s.seats)
  step_so (calls.Abandon ticket) opened = abandons_so (has_ticket ticket) (find_by (has_ticket ticket) s.seats)
  step_so (calls.Came number part) opened = hears_so (has_number number) part (find_by (has_number number) s.seats)
  step_so (calls.Lost number) opened = loses_so (has_number number) (find_by (has_number number) s.seats)
  step_so (calls.Without call) opened = same

-- A number that was given, and of which there is no connection, is of none.
pub record Leaves (n : ℕ) (s t : Service) : Type 0 where
  pub rises : s.last ≤ t.last
  pub gone : seat_numbered n s.seats ≡ None → seat_numbered n t.seats ≡ None

pub step_leaves : (n : ℕ) (s : Service) (call : Call Token) → n ≤ s.last → Leaves n s (step s call).service
step_leaves n s call low =
    step_so s (Leaves n s) (record { rises = omega arith; gone = λ e. e })
    (λ given test place l. record { rises = omega arith; gone = λ e. none_changed n test place l s.seats e })
    call
    (λ o. record {
      rises = omega arith;
      gone = λ e. added_other n (record { number = suc s.last; place = Leased (suc s.given); line = new_line }) s.seats (below (suc s.last) n (omega arith)) ∙ e;
    })

last_stays : (s : Service) (call : Call Token) → (Opens call → ⊥) → (step s call).service.last ≡ s.last
last_stays s call never = step_so s (λ t. t.last ≡ s.last) refl (λ given test place l. refl) call (λ o. absurd (never o))

-- ---- Where parsers stand

none_seat_by : (test : Seat → Bool) (c : seats.Seat) (cs : List seats.Seat) (b : Bool) → test (seat_in c) ≡ b → (if b then Some c.connection.parser else reading_by test cs) ≡ None
    → (reading_by test cs ≡ None → find_by test (seats_in cs) ≡ None) → find_by test (seats_in (c ∷ cs)) ≡ None
none_seat_by test c cs true e h ih = absurd (let u : ⊥ = cc in u)
none_seat_by test c cs false e h ih = rw e (ih h)

none_seat : (test : Seat → Bool) (cs : List seats.Seat) → reading_by test cs ≡ None → find_by test (seats_in cs) ≡ None
none_seat test [] h = refl
none_seat test (c ∷ cs) h = none_seat_by test c cs (test (seat_in c)) refl h (none_seat test cs)

none_read_by : (test : Seat → Bool) (c : seats.Seat) (cs : List seats.Seat) (b : Bool) → test (seat_in c) ≡ b → (if b then Some (seat_in c) else find_by test (seats_in cs)) ≡ None
    → (find_by test (seats_in cs) ≡ None → reading_by test cs ≡ None) → reading_by test (c ∷ cs) ≡ None
none_read_by test c cs true e h ih = absurd (let u : ⊥ = cc in u)
none_read_by test c cs false e h ih = rw e (ih h)

none_read : (test : Seat → Bool) (cs : List seats.Seat) → find_by test (seats_in cs) ≡ None → reading_by test cs ≡ None
none_read test [] h = refl
none_read test (c ∷ cs) h = none_read_by test c cs (test (seat_in c)) refl h (none_read test cs)

pub unread_seat : (n : ℕ) (s : services.Service) → reading_on n s ≡ None → seat_numbered n (service_in s).seats ≡ None
unread_seat n s h = none_seat (has_number n) s.seats.items h

pub seat_unread : (n : ℕ) (s : services.Service) → seat_numbered n (service_in s).seats ≡ None → reading_on n s ≡ None
seat_unread n s h = none_read (has_number n) s.seats.items h

stays_by : (r now : Parser) (o p : Option Parser) → ((q : Parser) → o ≡ Some q → p ≡ Some q) → (o ≡ None → p ≡ None) → ((q : Parser) → o ≡ Some q → q ≡ r) → p ≡ Some now → now ≡ r
stays_by r now None p keeps gone there is = absurd (let u : None ≡ Some now = sym (gone refl) ∙ is in let v : ⊥ = cc in v)
stays_by r now (Some q) p keeps gone there is = (let u : Some now ≡ Some q = sym is ∙ keeps q refl in let v : now ≡ q = cc in v) ∙ there q refl

pub nothing_there : (r now : Parser) (o : Option Parser) → o ≡ None → o ≡ Some now → now ≡ r
nothing_there r now o none is = absurd (let u : None ≡ Some now = sym none ∙ is in let v : ⊥ = cc in v)

pub differ : (n m : ℕ) → (n == m) ≡ false → n ≢ m
differ n m e same = let u : ⊥ = grind arith in u

-- whoever is there has a number that was given
low_by : (n : ℕ) (s : Service) (o : Option Seat) → Tidy s → seat_numbered n s.seats ≡ o → (o ≡ None → ⊥) → n ≤ s.last
low_by n s None tidy e there = absurd (there refl)
low_by n s (Some c) tidy e there =
    let low : c.number ≤ s.last = each_found (UpTo s.last) (has_number n) c s.seats tidy.upto e in
    subst (λ (k : ℕ). k ≤ s.last) (same_number c.number n (found_meets (has_number n) c s.seats e)) low

pub low_there : (n : ℕ) (s : services.Service) (now : Parser) → IsLed (service_in s) → reading_on n s ≡ Some now → n ≤ s.last
low_there n s now led is =
    low_by n (service_in s) (seat_numbered n (service_in s).seats) (led_tidy (service_in s) led) refl
    (λ none. let u : None ≡ Some now = sym (seat_unread n s none) ∙ is in let v : ⊥ = cc in v)

-- A connection that comes to be there begins as the service was told.
abbrev Begun : services.Service → services.Service → ℕ → Type 0
Begun old new n = (now : Parser) → IsLed (service_in old) → reading_on n old ≡ None → reading_on n new ≡ Some now → Begins old.most old.features now

-- none comes to be there whose number was given
none_low : (old new : services.Service) (call : Call Token) (n : ℕ) → service_in new ≡ (step (service_in old) call).service → n ≤ old.last → reading_on n old ≡ None → reading_on n new ≡ None
none_low old new call n is low none =
    let left = subst (Leaves n (service_in old)) (sym is) (step_leaves n (service_in old) call low) in
    seat_unread n new (left.gone (unread_seat n old none))

-- by a call that opens none
pub none_begun : (old new : services.Service) (call : Call Token) (n : ℕ) → service_in new ≡ (step (service_in old) call).service → (Opens call → ⊥) → Begun old new n
none_begun old new call n is never now led none there =
    let last_is : new.last ≡ old.last = ap (λ (s : Service). s.last) is ∙ last_stays (service_in old) call never in
    let low : n ≤ new.last = low_there n new now (led_on (service_in old) (service_in new) call is led) there in
    let gone : reading_on n new ≡ None = none_low old new call n is (subst (λ (k : ℕ). n ≤ k) last_is low) none in
    absurd (let u : None ≡ Some now = sym gone ∙ there in let v : ⊥ = cc in v)

begins_by : (most : ℕ) (features : Features) (old new : services.Service) (n : ℕ) (now : Parser) (o : Option Parser) → reading_on n old ≡ o → ((q : Parser) → o ≡ Some q → reading_on n new ≡ Some q)
    → Begun old new n → IsUnread most features n old → reading_on n new ≡ Some now → Begins most features now
begins_by most features old new n now None e keeps begun h there =
    subst (λ (m : ℕ). Begins m features now) h.told.0 (subst (λ (f : Features). Begins old.most f now) h.told.1 (begun now h.led e there))
begins_by most features old new n now (Some q) e keeps begun h there =
    let same : q ≡ now = (let u : Some q ≡ Some now = sym (keeps q refl) ∙ there in cc) in
    subst (Begins most features) same (h.begins q e)

-- where it has read nothing
pub unread_one : (most : ℕ) (features : Features) (old new : services.Service) (call : Call Token) (n : ℕ) → service_in new ≡ (step (service_in old) call).service → MakesAlike old new
    → ((q : Parser) → reading_on n old ≡ Some q → reading_on n new ≡ Some q) → Begun old new n → IsUnread most features n old → IsUnread most features n new
unread_one most features old new call n is alike keeps begun h = record {
  led = led_on (service_in old) (service_in new) call is h.led;
  told = (alike.0 ∙ h.told.0, alike.1 ∙ h.told.1);
  begins = λ now. begins_by most features old new n now (reading_on n old) refl keeps begun h;
}

-- where this one stays
pub stand_one : (old new : services.Service) (call : Call Token) (n : ℕ) (r : Parser) → service_in new ≡ (step (service_in old) call).service
    → ((q : Parser) → reading_on n old ≡ Some q → reading_on n new ≡ Some q) → StandsAt n r old → StandsAt n r new
stand_one old new call n r is keeps h =
    let left = subst (Leaves n (service_in old)) (sym is) (step_leaves n (service_in old) call h.given) in
    record {
      led = led_on (service_in old) (service_in new) call is h.led;
      given = (let low : n ≤ old.last = h.given in let more : old.last ≤ new.last = left.rises in omega (arith, low, more));
      there = λ now. stays_by r now (reading_on n old) (reading_on n new) keeps (λ e. seat_unread n new (left.gone (unread_seat n old e))) h.there;
    }

-- Nothing is read by a call that keeps all.
call_stand : (old new : services.Service) (call : Call Token) → service_in new ≡ (step (service_in old) call).service → MakesAlike old new → KeepsSize old new → Keeps old new → ((n : ℕ) → Begun old new n) → AllStand old new
call_stand old new call is alike sized keeps begun n (There r) h = stand_one old new call n r is (keeps n) h
call_stand old new call is alike sized keeps begun n (Unread most features) h = unread_one most features old new call n is alike (keeps n) (begun n) h
call_stand old new call is alike sized keeps begun n (OfSize size) h = sized size h

pub keeps_stand : (old new : services.Service) (call : Call Token) → service_in new ≡ (step (service_in old) call).service → (Opens call → ⊥) → MakesAlike old new → KeepsSize old new → Keeps old new → AllStand old new
keeps_stand old new call is never alike sized keeps = call_stand old new call is alike sized keeps (λ n. none_begun old new call n is never)

-- one that is refused
pub same_stand : (old new : services.Service) → service_in new ≡ service_in old → MakesAlike old new → KeepsSize old new → Keeps old new → AllStand old new
same_stand old new is alike sized keeps = keeps_stand old new (calls.Without calls.Lease) is (λ opened. opened) alike sized keeps

-- ---- One that is lent

-- None is opened, or the next one.
abbrev OpensNext : Service → Service → ℕ → Bool → Type 0
OpensNext s t number had = (t.last ≡ s.last) ⊎ ((had ≡ false) × (number ≡ suc s.last) × (t.last ≡ suc s.last))

opens_next : (s : Service) (b : Bool) (lease number : ℕ) (had : Bool) → (opens {T = Token} s b).reply ≡ calls.Lent lease number had → OpensNext s (opens {T = Token} s b).service number had
opens_next s false lease number had e = inl refl
opens_next s true lease number had e = inr (let u : had ≡ false = cc in u, let u : number ≡ suc s.last = cc in u, refl)

lends_next : (s : Service) (o : Option Seat) (lease number : ℕ) (had : Bool) → (calls.lends {T = Token} s o).reply ≡ calls.Lent lease number had → OpensNext s (calls.lends {T = Token} s o).service number had
lends_next s None lease number had e = opens_next s (nat_lt (length s.seats) s.max) lease number had e
lends_next s (Some c) lease number had e = inl refl

at_most_next : (n last : ℕ) (b : Bool) → (n == suc last) ≡ b → n ≤ suc last → (n ≡ suc last) ⊎ (n ≤ last)
at_most_next n last true e low = inl (same_number n (suc last) e)
at_most_next n last false e low = inr (grind (arith, nat_tests))

lent_begun : (old new : services.Service) (number : ℕ) (had : Bool) (n : ℕ) → service_in new ≡ (step {T = Token} (service_in old) calls.Lease).service → OpensNext (service_in old) (service_in new) number had
    → (had ≡ false → BeginsAt number old new) → Begun old new n
lent_begun old new number had n is next begins now led none there =
    let low : n ≤ new.last = low_there n new now (led_on (service_in old) (service_in new) calls.Lease is led) there in
    let was_not : (n ≤ old.last) → Begins old.most old.features now =
    λ was.
    absurd (let gone : reading_on n new ≡ None = none_low old new calls.Lease n is was none in let u : None ≡ Some now = sym gone ∙ there in let v : ⊥ = cc in v) in
    elim next [
      | inl same ↦ was_not (subst (λ (k : ℕ). n ≤ k) same low)
      | inr opened ↦
          elim (at_most_next n old.last (n == suc old.last) refl (subst (λ (k : ℕ). n ≤ k) opened.2 low)) [
            | inl is_next ↦
                let same : number ≡ n = opened.1 ∙ sym is_next in
                let b = begins opened.0 (subst (λ (k : ℕ). reading_on k old ≡ None) (sym same) none) in
                let at : b.0 ≡ now = (let u : Some b.0 ≡ Some now = sym (subst (λ (k : ℕ). reading_on k new ≡ Some b.0) same b.1) ∙ there in cc) in
                subst (Begins old.most old.features) at b.2
            | inr was ↦ was_not was
          ]
    ]

-- A new one has read nothing.
pub lease_stand : (old new : services.Service) (lease number n : ℕ) (had : Bool) (before after : List ℕ) → StepsIn (step {T = Token} (service_in old) calls.Lease) (service_in new) (calls.Lent lease number had) n before after
    → MakesAlike old new → KeepsSize old new → Keeps old new → (had ≡ false → BeginsAt number old new) → AllStand old new
lease_stand old new lease number n had before after one alike sized keeps begins =
    let s = service_in old in
    let next : OpensNext s (service_in new) number had =
    subst (λ (t : Service). OpensNext s t number had) (sym one.service_is) (lends_next s (find_by is_lendable s.seats) lease number had one.reply_is) in
    call_stand old new calls.Lease one.service_is alike sized keeps (λ k. lent_begun old new number had k one.service_is next begins)

unread_gone : (most : ℕ) (features : Features) (old new : services.Service) (call : Call Token) (n : ℕ) → service_in new ≡ (step (service_in old) call).service → MakesAlike old new
    → reading_on n new ≡ None → IsUnread most features n old → IsUnread most features n new
unread_gone most features old new call n is alike none h = record {
  led = led_on (service_in old) (service_in new) call is h.led;
  told = (alike.0 ∙ h.told.0, alike.1 ∙ h.told.1);
  begins = λ now there. absurd (let u : None ≡ Some now = sym none ∙ there in let v : ⊥ = cc in v);
}

gone_by : (old new : services.Service) (call : Call Token) (number n : ℕ) (r : Parser) (b : Bool) → (n == number) ≡ b → service_in new ≡ (step (service_in old) call).service
    → KeepsOthers number old new → (IsLed (service_in old) → seat_numbered number (service_in new).seats ≡ None) → StandsAt n r old → StandsAt n r new
gone_by old new call number n r true e is keeps gone h =
    let same : n ≡ number = same_number n number e in
    let none : reading_on n new ≡ None = seat_unread n new (subst (λ (k : ℕ). seat_numbered k (service_in new).seats ≡ None) (sym same) (gone h.led)) in
    let left = subst (Leaves n (service_in old)) (sym is) (step_leaves n (service_in old) call h.given) in
    record {
      led = led_on (service_in old) (service_in new) call is h.led;
      given = (let low : n ≤ old.last = h.given in let more : old.last ≤ new.last = left.rises in omega (arith, low, more));
      there = λ now. nothing_there r now (reading_on n new) none;
    }
gone_by old new call number n r false e is keeps gone h = stand_one old new call n r is (λ q. keeps n q (differ n number e)) h

unread_by : (most : ℕ) (features : Features) (old new : services.Service) (call : Call Token) (number n : ℕ) (b : Bool) → (n == number) ≡ b → service_in new ≡ (step (service_in old) call).service
    → (Opens call → ⊥) → MakesAlike old new → KeepsOthers number old new → (IsLed (service_in old) → seat_numbered number (service_in new).seats ≡ None) → IsUnread most features n old → IsUnread most features n new
unread_by most features old new call number n true e is never alike keeps gone h =
    unread_gone most features old new call n is alike
    (seat_unread n new (subst (λ (k : ℕ). seat_numbered k (service_in new).seats ≡ None) (sym (same_number n number e)) (gone h.led))) h
unread_by most features old new call number n false e is never alike keeps gone h =
    unread_one most features old new call n is alike (λ q. keeps n q (differ n number e)) (none_begun old new call n is never) h

-- or by one behind which this one is there no more
pub gone_stand : (old new : services.Service) (call : Call Token) (number : ℕ) → service_in new ≡ (step (service_in old) call).service → (Opens call → ⊥) → MakesAlike old new → KeepsSize old new → KeepsOthers number old new
    → (IsLed (service_in old) → seat_numbered number (service_in new).seats ≡ None) → AllStand old new
gone_stand old new call number is never alike sized keeps gone n (OfSize size) h = sized size h
gone_stand old new call number is never alike sized keeps gone n (There r) h = gone_by old new call number n r (n == number) refl is keeps gone h
gone_stand old new call number is never alike sized keeps gone n (Unread most features) h = unread_by most features old new call number n (n == number) refl is never alike keeps gone h
