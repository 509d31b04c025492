-- What the client of a lease's connection holds, behind a change of one connection.
use Rattle.std.proofs.Common.{◌≡◌, ◌≢◌, ◌∙◌, ◌==◌, ◌<◌, ◌+◌, ℕ, zero, suc, Bool, true, false, List, [], ◌∷◌, ◌++◌, length, get_or, take, drop, refl, sym, ap, subst, arith}
use Rattle.std.proofs.Math.ListN.{set}
use Rattle.std.proofs.lemmas.Bool.Decides.{nat_tests}
use Rattle.std.specs.Prelude.{Option, Some, Result, Ok, Err, IfOk, OnOk, ◌&&◌, if◌then◌else◌}
use Rattle.tds_client.specs.declared.fault.ClientRefusal.{ClientRefusal}
use Rattle.tds_client.specs.declared.message.MessageKind.{MessageKind}
use Rattle.tds_client.specs.Sending as sending
use Rattle.tds_client.specs.Sending.{Effect}
use Rattle.tds_client.specs.Session.{ClientSession}
use Rattle.tds_client.specs.Streams.{opened}
use Rattle.tds_service.specs.declared.place.Place as code_place
use Rattle.tds_service.specs.declared.place.Rest.{Rest}
use Rattle.tds_service.specs.declared.place.Rest.TheVariants as resting
use Rattle.tds_service.specs.declared.seat.Seat as code
use Rattle.tds_service.specs.declared.service.Service as services
use Rattle.tds_service.specs.Line.{LineStage}
use Rattle.tds_service.specs.Service.{Place, Leased, Cleaning, Kept, Free, Draining, Seat, drained, find_by, has_lease, has_number, holds, is_free, is_idle, is_lendable, keeps, lease_in}
use Rattle.tds_service.specs.Table.{client_by, client_of, met, place_of, rest_of, seat_in, seats_in, without_closed, DoesAt, IsAt, TurnsInto, BeginsMessage}
use Rattle.tds_service.specs.Ties.{line_in}
use Rattle.tds_service.proofs.Numbered.{same_number}
use Rattle.tds_service.proofs.Tables.{Here, meets_here, taken_set}

pub on_done : {A E : Type 0} (r : Result A E) (P : A → Type 0) (Q : Type 0) → ((x : A) → P x → Q) → IfOk r P → OnOk r Q
on_done (Ok x) P Q f h = f x h
on_done (Err e) P Q f h = tt

-- ---- Who holds a seat

not_other : (a l lease : ℕ) → a ≡ lease → l ≢ lease → (a == l) ≡ false
not_other a l lease e other = grind (arith, nat_tests)

same_lease : (a b : ℕ) → Some a ≡ Some b → a ≡ b
same_lease a b e = let u : a ≡ b = cc in u

-- a seat of one lease is of no other
other_holder : (l lease : ℕ) (place : Place) → holds lease place ≡ true → l ≢ lease → holds l place ≡ false
other_holder l lease (Leased a) e other = not_other a l lease (same_number a lease e) other
other_holder l lease (Cleaning a) e other = not_other a l lease (same_number a lease e) other
other_holder l lease (Kept a) e other = refl
other_holder l lease Free e other = refl
other_holder l lease Draining e other = refl

pub other_held : (l lease : ℕ) (place : Place) → lease_in place ≡ Some lease → l ≢ lease → holds l place ≡ false
other_held l lease (Leased a) e other = not_other a l lease (same_lease a lease e) other
other_held l lease (Cleaning a) e other = not_other a l lease (same_lease a lease e) other
other_held l lease (Kept a) e other = refl
other_held l lease Free e other = refl
other_held l lease Draining e other = refl

-- a free one, or one that is kept, is of none
free_held : (l : ℕ) (place : Place) → is_free place ≡ true → holds l place ≡ false
free_held l (Leased a) e = absurd (let u : ⊥ = cc in u)
free_held l (Cleaning a) e = absurd (let u : ⊥ = cc in u)
free_held l (Kept a) e = refl
free_held l Free e = refl
free_held l Draining e = refl

pub kept_held : (l ticket : ℕ) (place : Place) → keeps ticket place ≡ true → holds l place ≡ false
kept_held l ticket (Leased a) e = absurd (let u : ⊥ = cc in u)
kept_held l ticket (Cleaning a) e = absurd (let u : ⊥ = cc in u)
kept_held l ticket (Kept a) e = refl
kept_held l ticket Free e = refl
kept_held l ticket Draining e = refl

both_first : (a b : Bool) → (a && b) ≡ true → a ≡ true
both_first true b e = refl
both_first false b e = absurd (let u : ⊥ = cc in u)

pub lendable_held : (l : ℕ) (c : Seat) → is_lendable c ≡ true → has_lease l c ≡ false
lendable_held l c e = free_held l c.place (both_first (is_free c.place) (is_idle c.line.stage) e)

drained_none : (l : ℕ) (b : Bool) → holds l (if b then Free else Draining) ≡ false
drained_none l true = refl
drained_none l false = refl

pub drained_held : (l : ℕ) (place : Place) (stage : LineStage) → holds l place ≡ false → holds l (drained place stage) ≡ false
drained_held l (Leased a) stage e = e
drained_held l (Cleaning a) stage e = e
drained_held l (Kept a) stage e = refl
drained_held l Free stage e = refl
drained_held l Draining stage e = drained_none l (is_idle stage)

-- ---- The list of seats

client_first : (test : Seat → Bool) (d : code.Seat) (cs : List code.Seat) (i : ℕ) → i < length cs → met test cs i ≡ true → ((k : ℕ) → k < i → met test cs k ≡ false)
    → client_by test cs ≡ Some ((get_or cs i d).connection.client)
client_first test d [] i lt here before = absurd (omega arith)
client_first test d (c ∷ cs) zero lt here before = rw here refl
client_first test d (c ∷ cs) (suc i) lt here before =
    let first : test (seat_in c) ≡ false = before 0 (omega arith) in
    rw first (client_first test d cs i (omega arith) here (λ k h. before (suc k) (omega arith)))

client_set : (test : Seat → Bool) (y : code.Seat) (cs : List code.Seat) (i : ℕ) → i < length cs → ((k : ℕ) → k < i → met test cs k ≡ false) → test (seat_in y) ≡ true
    → client_by test (set cs i y) ≡ Some y.connection.client
client_set test y [] i lt before e = absurd (omega arith)
client_set test y (c ∷ cs) zero lt before e = rw e refl
client_set test y (c ∷ cs) (suc i) lt before e =
    let first : test (seat_in c) ≡ false = before 0 (omega arith) in
    rw first (client_set test y cs i (omega arith) (λ k h. before (suc k) (omega arith)) e)

-- a seat that doesn't meet the test is another, which doesn't either
kept_set : (test : Seat → Bool) (d y : code.Seat) (cs : List code.Seat) (i : ℕ) → i < length cs → test (seat_in (get_or cs i d)) ≡ false → test (seat_in y) ≡ false
    → client_by test (set cs i y) ≡ client_by test cs
kept_set test d y [] i lt was is = absurd (omega arith)
kept_set test d y (c ∷ cs) zero lt was is = let e : test (seat_in c) ≡ false = was in rw e (rw is refl)
kept_set test d y (c ∷ cs) (suc i) lt was is =
    ap (λ (x : Option ClientSession). if test (seat_in c) then Some c.connection.client else x) (kept_set test d y cs i (omega arith) was is)

-- it is taken out
kept_taken : (test : Seat → Bool) (d : code.Seat) (cs : List code.Seat) (i : ℕ) → i < length cs → test (seat_in (get_or cs i d)) ≡ false
    → client_by test (take i cs ++ drop (i + 1) cs) ≡ client_by test cs
kept_taken test d [] i lt was = absurd (omega arith)
kept_taken test d (c ∷ cs) zero lt was = let e : test (seat_in c) ≡ false = was in rw e refl
kept_taken test d (c ∷ cs) (suc i) lt was =
    let e : suc i + 1 ≡ suc (i + 1) = omega arith in
    ap (λ (k : ℕ). client_by test (take (suc i) (c ∷ cs) ++ drop k (c ∷ cs))) e
    ∙ ap (λ (x : Option ClientSession). if test (seat_in c) then Some c.connection.client else x) (kept_taken test d cs i (omega arith) was)

-- one is added
pub kept_added : (test : Seat → Bool) (d : code.Seat) (cs : List code.Seat) → test (seat_in d) ≡ false → client_by test (cs ++ d ∷ []) ≡ client_by test cs
kept_added test d [] e = rw e refl
kept_added test d (c ∷ cs) e = ap (λ (x : Option ClientSession). if test (seat_in c) then Some c.connection.client else x) (kept_added test d cs e)

-- a seat that is found is another than the one of this number: that one is another, or is taken out
same_seat : (a b : Seat) → Some a ≡ Some b → a ≡ b
same_seat a b e = let u : a ≡ b = cc in u

found_first : (test : Seat → Bool) (c : code.Seat) (cs : List code.Seat) (found : Seat) → test (seat_in c) ≡ true → find_by test (seats_in (c ∷ cs)) ≡ Some found → found ≡ seat_in c
found_first test c cs found e is =
    let same : find_by test (seats_in (c ∷ cs)) ≡ Some (seat_in c) = rw e refl in
    same_seat found (seat_in c) (sym is ∙ same)

off_cons : (test : Seat → Bool) (c : code.Seat) (news cs : List code.Seat) (found : Seat) (b : Bool) → test (seat_in c) ≡ b → (find_by test (seats_in cs) ≡ Some found → client_by test news ≡ client_by test cs)
    → find_by test (seats_in (c ∷ cs)) ≡ Some found → client_by test (c ∷ news) ≡ client_by test (c ∷ cs)
off_cons test c news cs found true e f is = rw e refl
off_cons test c news cs found false e f is =
    let same : find_by test (seats_in (c ∷ cs)) ≡ find_by test (seats_in cs) = rw e refl in
    rw e (f (sym same ∙ is))

off_other : (test : Seat → Bool) (number : ℕ) (c y : code.Seat) (cs : List code.Seat) (found : Seat) (b : Bool) → test (seat_in c) ≡ b → find_by test (seats_in (c ∷ cs)) ≡ Some found → found.number ≢ number
    → c.number ≡ number → (test (seat_in c) ≡ false → test (seat_in y) ≡ false) → client_by test (y ∷ cs) ≡ client_by test (c ∷ cs)
off_other test number c y cs found true e is other numbered held = absurd (other (ap (λ (s : Seat). s.number) (found_first test c cs found e is) ∙ numbered))
off_other test number c y cs found false e is other numbered held = let f : test (seat_in y) ≡ false = held e in rw e (rw f refl)

off_out : (test : Seat → Bool) (number : ℕ) (c : code.Seat) (cs : List code.Seat) (found : Seat) (b : Bool) → test (seat_in c) ≡ b → find_by test (seats_in (c ∷ cs)) ≡ Some found → found.number ≢ number
    → c.number ≡ number → client_by test cs ≡ client_by test (c ∷ cs)
off_out test number c cs found true e is other numbered = absurd (other (ap (λ (s : Seat). s.number) (found_first test c cs found e is) ∙ numbered))
off_out test number c cs found false e is other numbered = rw e refl

off_set : (test : Seat → Bool) (number : ℕ) (found : Seat) (d y : code.Seat) (cs : List code.Seat) (i : ℕ) → i < length cs → find_by test (seats_in cs) ≡ Some found → found.number ≢ number
    → (get_or cs i d).number ≡ number → (test (seat_in (get_or cs i d)) ≡ false → test (seat_in y) ≡ false) → client_by test (set cs i y) ≡ client_by test cs
off_set test number found d y [] i lt is other numbered held = absurd (omega arith)
off_set test number found d y (c ∷ cs) zero lt is other numbered held = off_other test number c y cs found (test (seat_in c)) refl is other numbered held
off_set test number found d y (c ∷ cs) (suc i) lt is other numbered held =
    off_cons test c (set cs i y) cs found (test (seat_in c)) refl (λ behind. off_set test number found d y cs i (omega arith) behind other numbered held) is

off_taken : (test : Seat → Bool) (number : ℕ) (found : Seat) (d : code.Seat) (cs : List code.Seat) (i : ℕ) → i < length cs → find_by test (seats_in cs) ≡ Some found → found.number ≢ number
    → (get_or cs i d).number ≡ number → client_by test (take i cs ++ drop (i + 1) cs) ≡ client_by test cs
off_taken test number found d [] i lt is other numbered = absurd (omega arith)
off_taken test number found d (c ∷ cs) zero lt is other numbered = off_out test number c cs found (test (seat_in c)) refl is other numbered
off_taken test number found d (c ∷ cs) (suc i) lt is other numbered =
    let e : suc i + 1 ≡ suc (i + 1) = omega arith in
    ap (λ (k : ℕ). client_by test (take (suc i) (c ∷ cs) ++ drop k (c ∷ cs))) e
    ∙ off_cons test c (take i cs ++ drop (i + 1) cs) cs found (test (seat_in c)) refl (λ behind. off_taken test number found d cs i (omega arith) behind other numbered) is

-- ---- In a service

pub other_held_here : (l lease : ℕ) (items lent : List code.Seat) (i : ℕ) (here : Here (has_lease lease) items lent i) → l ≢ lease → has_lease l (seat_in here.seat) ≡ false
other_held_here l lease items lent i here other = other_holder l lease (place_of here.seat.place) (meets_here (has_lease lease) items lent i here) other

numbered_at : (number : ℕ) (items lent : List code.Seat) (i : ℕ) (here : Here (has_number number) items lent i) → (get_or items i here.seat).number ≡ number
numbered_at number items lent i here = ap (λ (x : code.Seat). x.number) (sym here.at) ∙ same_number here.seat.number number (meets_here (has_number number) items lent i here)

-- the client of a lease
pub held_here : (lease : ℕ) (old : services.Service) (lent : List code.Seat) (i : ℕ) (here : Here (has_lease lease) old.seats.items lent i) → client_of lease old ≡ Some here.seat.connection.client
held_here lease old lent i here =
    client_first (has_lease lease) here.seat old.seats.items i here.first.within here.first.here here.first.before ∙ ap (λ (x : code.Seat). Some x.connection.client) (sym here.at)

-- the seat of a lease has another client
pub moves_here : (lease : ℕ) (old new : services.Service) (lent news : List code.Seat) (i : ℕ) (here : Here (has_lease lease) old.seats.items lent i) (y : code.Seat)
    → lent ≡ old.seats.items → news ≡ set lent i y → new.seats.items ≡ news → y.place ≡ here.seat.place
    → TurnsInto lease old new here.seat.connection.client y.connection.client
moves_here lease old new lent news i here y same changed is place =
    let items = old.seats.items in
    let test = has_lease lease in
    record {
      was = held_here lease old lent i here;
      is =
          ap (client_by test) (is ∙ (changed ∙ ap (λ (cs : List code.Seat). set cs i y) same))
          ∙ client_set test y items i here.first.within here.first.before (ap (λ (p : code_place.Place). holds lease (place_of p)) place ∙ meets_here test items lent i here);
    }

-- it began a message; it did what it does
pub opens_here : (kind : MessageKind) (lease : ℕ) (old new : services.Service) (lent news : List code.Seat) (i : ℕ) (here : Here (has_lease lease) old.seats.items lent i) (y : code.Seat)
    → lent ≡ old.seats.items → news ≡ set lent i y → new.seats.items ≡ news → y.place ≡ here.seat.place → y.connection.client ≡ opened here.seat.connection.client kind → BeginsMessage kind lease old new
opens_here kind lease old new lent news i here y same changed is place began =
    let s = here.seat.connection.client in
    (s, subst (λ (x : ClientSession). TurnsInto lease old new s x) began (moves_here lease old new lent news i here y same changed is place))

pub does_here : (act : ClientSession → Result (Effect (Unit {0})) ClientRefusal) (lease : ℕ) (old new : services.Service) (lent news : List code.Seat) (i : ℕ) (here : Here (has_lease lease) old.seats.items lent i) (y : code.Seat)
    (before after : List ℕ) → lent ≡ old.seats.items → news ≡ set lent i y → new.seats.items ≡ news → y.place ≡ here.seat.place
    → sending.Does (act here.seat.connection.client) tt y.connection.client before after → DoesAt act lease old new before after
does_here act lease old new lent news i here y before after same changed is place did =
    record {
      session = here.seat.connection.client;
      next = y.connection.client;
      moves = moves_here lease old new lent news i here y same changed is place;
      does = did;
    }

-- a seat that the lease doesn't hold is another, which it doesn't hold either
pub stays_here : (l : ℕ) (test : Seat → Bool) (items now : List code.Seat) (lent news : List code.Seat) (i : ℕ) (here : Here test items lent i) (y : code.Seat)
    → lent ≡ items → news ≡ set lent i y → now ≡ news → has_lease l (seat_in here.seat) ≡ false → has_lease l (seat_in y) ≡ false
    → client_by (has_lease l) now ≡ client_by (has_lease l) items
stays_here l test items now lent news i here y same changed news_are was is =
    ap (client_by (has_lease l)) (news_are ∙ (changed ∙ ap (λ (cs : List code.Seat). set cs i y) same))
    ∙ kept_set (has_lease l) here.seat y items i here.first.within (ap (λ (x : code.Seat). has_lease l (seat_in x)) (sym here.at) ∙ was) is

-- the seat of a lease that stays where it is
pub keeps_clients : (lease : ℕ) (items now : List code.Seat) (lent news : List code.Seat) (i : ℕ) (here : Here (has_lease lease) items lent i) (y : code.Seat)
    → lent ≡ items → news ≡ set lent i y → now ≡ news → y.place ≡ here.seat.place → (l : ℕ) → l ≢ lease → client_by (has_lease l) now ≡ client_by (has_lease l) items
keeps_clients lease items now lent news i here y same changed is place = λ l other.
    let was = other_held_here l lease items lent i here other in
    stays_here l (has_lease lease) items now lent news i here y same changed is was (ap (λ (p : code_place.Place). holds l (place_of p)) place ∙ was)

-- a seat that nobody holds any more, or that is taken out
pub stays_resting : (l : ℕ) (rest : Rest) (test : Seat → Bool) (items now : List code.Seat) (lent news : List code.Seat) (i : ℕ) (here : Here test items lent i) (y : code.Seat)
    → lent ≡ items → news ≡ set lent i y → now ≡ without_closed rest i news → IsAt (rest_of rest) y.place → has_lease l (seat_in here.seat) ≡ false
    → client_by (has_lease l) now ≡ client_by (has_lease l) items
stays_resting l resting.Free test items now lent news i here y same changed is at was = stays_here l test items now lent news i here y same changed is was (ap (holds l) at)
stays_resting l resting.Draining test items now lent news i here y same changed is at was = stays_here l test items now lent news i here y same changed is was (ap (holds l) at)
stays_resting l resting.Closed test items now lent news i here y same changed is at was =
    ap (client_by (has_lease l)) (is ∙ (ap (without_closed resting.Closed i) (changed ∙ ap (λ (cs : List code.Seat). set cs i y) same) ∙ taken_set i items y here.first.within))
    ∙ kept_taken (has_lease l) here.seat items i here.first.within (ap (λ (x : code.Seat). has_lease l (seat_in x)) (sym here.at) ∙ was)

pub keeps_clients_resting : (lease : ℕ) (rest : Rest) (items now : List code.Seat) (lent news : List code.Seat) (i : ℕ) (here : Here (has_lease lease) items lent i) (y : code.Seat)
    → lent ≡ items → news ≡ set lent i y → now ≡ without_closed rest i news → IsAt (rest_of rest) y.place → (l : ℕ) → l ≢ lease → client_by (has_lease l) now ≡ client_by (has_lease l) items
keeps_clients_resting lease rest items now lent news i here y same changed is at = λ l other.
    stays_resting l rest (has_lease lease) items now lent news i here y same changed is at
    (other_held_here l lease items lent i here other)

-- a seat that no lease holds is lent by this one
pub lends_clients : (lease : ℕ) (test : Seat → Bool) (items now : List code.Seat) (lent news : List code.Seat) (i : ℕ) (here : Here test items lent i) (y : code.Seat)
    → lent ≡ items → news ≡ set lent i y → now ≡ news → ((l : ℕ) → has_lease l (seat_in here.seat) ≡ false) → lease_in (place_of y.place) ≡ Some lease → (l : ℕ) → l ≢ lease → client_by (has_lease l) now ≡ client_by (has_lease l) items
lends_clients lease test items now lent news i here y same changed is was by = λ l other.
    stays_here l test items now lent news i here y same changed is (was l) (other_held l lease (place_of y.place) by other)

-- the connection of a number is another, or is taken out
pub off_here : (number : ℕ) (items now : List code.Seat) (lent news : List code.Seat) (i : ℕ) (here : Here (has_number number) items lent i) (y : code.Seat)
    → lent ≡ items → news ≡ set lent i y → now ≡ news → place_of y.place ≡ drained (place_of here.seat.place) (line_in y.connection).stage
    → (l : ℕ) (found : Seat) → find_by (has_lease l) (seats_in items) ≡ Some found → found.number ≢ number → client_by (has_lease l) now ≡ client_by (has_lease l) items
off_here number items now lent news i here y same changed is place = λ l found at other.
    ap (client_by (has_lease l)) (is ∙ (changed ∙ ap (λ (cs : List code.Seat). set cs i y) same))
    ∙ off_set (has_lease l) number found here.seat y items i here.first.within at other (numbered_at number items lent i here)
    (λ e. ap (holds l) place ∙ drained_held l (place_of here.seat.place) (line_in y.connection).stage (ap (λ (x : code.Seat). has_lease l (seat_in x)) here.at ∙ e))

pub off_gone : (number : ℕ) (items now : List code.Seat) (lent : List code.Seat) (i : ℕ) (here : Here (has_number number) items lent i)
    → now ≡ take i items ++ drop (i + 1) items
    → (l : ℕ) (found : Seat) → find_by (has_lease l) (seats_in items) ≡ Some found → found.number ≢ number → client_by (has_lease l) now ≡ client_by (has_lease l) items
off_gone number items now lent i here is = λ l found at other.
    ap (client_by (has_lease l)) is ∙ off_taken (has_lease l) number found here.seat items i here.first.within at other (numbered_at number items lent i here)
