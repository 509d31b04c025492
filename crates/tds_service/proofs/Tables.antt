-- The table of the code, and the machine's.
use Rattle.std.proofs.Common.{◌≡◌, ◌∙◌, ◌&&◌, ◌<◌, ◌+◌, ℕ, zero, suc, Bool, true, false, List, [], ◌∷◌, ◌++◌, length, get_or, take, drop, refl, sym, ap, subst, arith}
use Rattle.std.proofs.Math.ListN.{set}
use Rattle.std.proofs.lemmas.List.{append-nil}
use Rattle.std.specs.Prelude.{Option, Some, None, Result, Ok, Err, IfErr, if◌then◌else◌}
use Rattle.tds_wire.specs.declared.told.Token.{Token}
use Rattle.tds_packet.specs.declared.status.Reset.{Reset}
use Rattle.tds_client.specs.declared.fault.ClientRefusal.{ClientRefusal}
use Rattle.tds_client.specs.declared.fault.ClientRefusal.TheVariants as clients
use Rattle.tds_client.specs.declared.state.Cancelled.{Cancelled}
use Rattle.tds_client.specs.declared.state.Cancelled.TheVariants as hows
use Rattle.tds_client.specs.Sending.{IsRefusal}
use Rattle.tds_service.specs.declared.refusal.Refusal.{Refusal}
use Rattle.tds_service.specs.declared.refusal.Refusal.TheVariants as refusals
use Rattle.tds_service.specs.declared.place.Rest.{Rest}
use Rattle.tds_service.specs.declared.place.Rest.TheVariants as resting
use Rattle.tds_service.specs.declared.seat.Seat as code
use Rattle.tds_service.specs.History.{history, line_after}
use Rattle.tds_service.specs.Line as line
use Rattle.tds_service.specs.Line.{Line, Act, Answer, LineStage, line_turn, asks, sends, cancels, marks}
use Rattle.tds_service.specs.Line.{line_loses}
use Rattle.tds_service.specs.Refusing.{refusal_in}
use Rattle.tds_service.specs.Service.{Place, Free, Draining, Seat, Service, ServiceStep, Reply, NotNow, Lent, Did, is_idle, is_free, is_lendable, nothing, find_by, change_by, placed, acts, acts_unless, does}
use Rattle.tds_service.specs.Table.{place_of, seat_in, seats_in, met, FirstMet, IsAt, RefusedBy, RefusesIn, StepsIn, refusal_of, rest_of, without_closed}
use Rattle.tds_service.specs.Ties.{line_in, cancel_answer, sent_in, Does, DoesAll, Appends}

-- ---- Finding

pub met_at : (test : Seat → Bool) (d : code.Seat) (cs : List code.Seat) (i : ℕ) → i < length cs → met test cs i ≡ test (seat_in (get_or cs i d))
met_at test d [] i lt = absurd (omega arith)
met_at test d (c ∷ cs) zero lt = refl
met_at test d (c ∷ cs) (suc i) lt = met_at test d cs i (omega arith)

pub same_get : (cs : List code.Seat) (i : ℕ) (d e : code.Seat) → i < length cs → get_or cs i d ≡ get_or cs i e
same_get [] i d e lt = absurd (omega arith)
same_get (c ∷ cs) zero d e lt = refl
same_get (c ∷ cs) (suc i) d e lt = same_get cs i d e (omega arith)

-- where none meets the test, none is found
pub none_met : (test : Seat → Bool) (cs : List code.Seat) → ((k : ℕ) → k < length cs → met test cs k ≡ false) → find_by test (seats_in cs) ≡ None
none_met test [] h = refl
none_met test (c ∷ cs) h =
    let first : test (seat_in c) ≡ false = h 0 (omega arith) in
    rw first (none_met test cs (λ k lt. h (suc k) (omega arith)))

-- what is found is what stands at the first index
pub found_at : (test : Seat → Bool) (d : code.Seat) (cs : List code.Seat) (i : ℕ) → i < length cs → met test cs i ≡ true → ((k : ℕ) → k < i → met test cs k ≡ false)
    → find_by test (seats_in cs) ≡ Some (seat_in (get_or cs i d))
found_at test d [] i lt here before = absurd (omega arith)
found_at test d (c ∷ cs) zero lt here before = rw here refl
found_at test d (c ∷ cs) (suc i) lt here before =
    let first : test (seat_in c) ≡ false = before 0 (omega arith) in
    rw first (found_at test d cs i (omega arith) here (λ k h. before (suc k) (omega arith)))

pub is_found_at : (test : Seat → Bool) (cs : List code.Seat) (i : ℕ) (c : code.Seat) → FirstMet test cs i → c ≡ get_or cs i c → find_by test (seats_in cs) ≡ Some (seat_in c)
is_found_at test cs i c first at =
    found_at test c cs i first.within first.here first.before ∙ ap (λ (x : code.Seat). Some (seat_in x)) (sym at)

-- a change there is the machine's
pub changed_at : (test : Seat → Bool) (d y : code.Seat) (place : Place) (l : Line) (cs : List code.Seat) (i : ℕ)
    → i < length cs → met test cs i ≡ true → ((k : ℕ) → k < i → met test cs k ≡ false)
    → seat_in y ≡ record { number = (get_or cs i d).number; place = place; line = l }
    → seats_in (set cs i y) ≡ change_by test (Some place) l (seats_in cs)
changed_at test d y place l [] i lt here before is = absurd (omega arith)
changed_at test d y place l (c ∷ cs) zero lt here before is = rw here (ap (λ (s : Seat). s ∷ seats_in cs) is)
changed_at test d y place l (c ∷ cs) (suc i) lt here before is =
    let first : test (seat_in c) ≡ false = before 0 (omega arith) in
    rw first (ap (λ ss. seat_in c ∷ ss) (changed_at test d y place l cs i (omega arith) here (λ k h. before (suc k) (omega arith)) is))

-- so is taking it out
pub removed_at : (test : Seat → Bool) (l : Line) (cs : List code.Seat) (i : ℕ) → i < length cs → met test cs i ≡ true → ((k : ℕ) → k < i → met test cs k ≡ false)
    → seats_in (take i cs ++ drop (suc i) cs) ≡ change_by test None l (seats_in cs)
removed_at test l [] i lt here before = absurd (omega arith)
removed_at test l (c ∷ cs) zero lt here before = rw here refl
removed_at test l (c ∷ cs) (suc i) lt here before =
    let first : test (seat_in c) ≡ false = before 0 (omega arith) in
    rw first (ap (λ ss. seat_in c ∷ ss) (removed_at test l cs i (omega arith) here (λ k h. before (suc k) (omega arith))))

-- something stands there
pub some_at : (cs : List code.Seat) (i : ℕ) → i < length cs → (c : code.Seat) × (c ≡ get_or cs i c)
some_at [] i lt = absurd (omega arith)
some_at (c ∷ cs) zero lt = (c, refl)
some_at (c ∷ cs) (suc i) lt = some_at cs i (omega arith)

abbrev pub with_seats : Service → List Seat → Service
with_seats s seats = record { max = s.max; last = s.last; given = s.given; seats = seats }

-- ---- Doing

-- What is done to the seat at the first index is what the machine does there.
pub does_alike : (s : Service) (given : ℕ) (test : Seat → Bool) (place : Place) (all : List (Act Token)) (reply : Reply) (cs : List code.Seat) (i : ℕ) (c y : code.Seat)
    → s.seats ≡ seats_in cs → FirstMet test cs i → c ≡ get_or cs i c → y.number ≡ c.number → place_of y.place ≡ place → line_in y.connection ≡ line_after (line_in c.connection) all
    → (record { max = s.max; last = s.last; given = given; seats = seats_in (set cs i y) }) ≡ (does s given test (seat_in c) (Some place) all reply).service
does_alike s given test place all reply cs i c y table first at number is does =
    let new : seat_in y ≡ record { number = (get_or cs i c).number; place = place; line = line_after (line_in c.connection) all } =
    ap (λ (n : ℕ). let x : Seat = record { number = n; place = place_of y.place; line = line_in y.connection } in x) (number ∙ ap (λ (x : code.Seat). x.number) at)
    ∙ (ap (λ p. let x : Seat = record { number = (get_or cs i c).number; place = p; line = line_in y.connection } in x) is
    ∙ ap (λ (l : Line). let x : Seat = record { number = (get_or cs i c).number; place = place; line = l } in x) does) in
    ap (λ ss. let t : Service = record { max = s.max; last = s.last; given = given; seats = ss } in t)
    (changed_at test c y place (line_after (line_in c.connection) all) cs i first.within first.here first.before new
    ∙ ap (change_by test (Some place) (line_after (line_in c.connection) all)) (sym table))

pub does_gone : (s : Service) (given : ℕ) (test : Seat → Bool) (all : List (Act Token)) (reply : Reply) (cs : List code.Seat) (i : ℕ) (c : code.Seat)
    → s.seats ≡ seats_in cs → FirstMet test cs i
    → (record { max = s.max; last = s.last; given = given; seats = seats_in (take i cs ++ drop (i + 1) cs) }) ≡ (does s given test (seat_in c) None all reply).service
does_gone s given test all reply cs i c table first =
    ap (λ ss. let t : Service = record { max = s.max; last = s.last; given = given; seats = ss } in t)
    (ap (λ (k : ℕ). seats_in (take i cs ++ drop k cs)) (let e : i + 1 ≡ suc i = omega arith in e)
    ∙ removed_at test (line_after (line_in c.connection) all) cs i first.within first.here first.before
    ∙ ap (change_by test None (line_after (line_in c.connection) all)) (sym table))

-- one act is acts
pub one_is_all : (act : Act Token) (old new : Line) (answer : Answer) (before after : List ℕ) → Does act old new answer before after → DoesAll (act ∷ []) old new before after
one_is_all act old new answer before after does = record {
  line_is = does.line_is;
  bytes = subst (λ packets. Appends packets before after) (sym (append-nil (line_turn old act).sent)) does.bytes;
}

-- Acts on the connection at the first index are the machine's call.
pub acts_alike : (s : Service) (test : Seat → Bool) (first : Act Token) (all : List (Act Token)) (cs : List code.Seat) (i : ℕ) (c y : code.Seat) (before after : List ℕ)
    → s.seats ≡ seats_in cs → FirstMet test cs i → c ≡ get_or cs i c → y.number ≡ c.number → y.place ≡ c.place
    → DoesAll all (line_in c.connection) (line_in y.connection) before after
    → refusal_in (line_turn (line_in c.connection) first).answer ≡ None
    → ((record { max = s.max; last = s.last; given = s.given; seats = seats_in (set cs i y) }) ≡ (acts s test first all (find_by test s.seats)).service)
    × ((acts s test first all (find_by test s.seats)).reply ≡ Did)
    × ((acts s test first all (find_by test s.seats)).number ≡ c.number)
    × Appends (sent_in (acts s test first all (find_by test s.seats)).dones) before after
acts_alike s test first all cs i c y before after table met at number place did may =
    let found : find_by test s.seats ≡ Some (seat_in c) = ap (find_by test) table ∙ is_found_at test cs i c met at in
    let P = λ (t : ServiceStep Token).
    ((record { max = s.max; last = s.last; given = s.given; seats = seats_in (set cs i y) }) ≡ t.service) × (t.reply ≡ Did) × (t.number ≡ c.number) × Appends (sent_in t.dones) before after in
    subst (λ (x : Option Seat). P (acts s test first all x)) (sym found)
    (subst (λ (x : Option ClientRefusal). P (acts_unless s test (seat_in c) all x)) (sym may) (
      does_alike s s.given test (place_of c.place) all Did cs i c y table met at number (ap place_of place) did.line_is,
      refl,
      refl,
      did.bytes,
    ))

-- ---- Refusing

asks_never : (l : Line) (s : LineStage) → refusal_in (asks {T = Token} l s).answer ≡ Some clients.Memory → ⊥
asks_never l line.Idle e = cc
asks_never l (line.Sending begun) e = cc
asks_never l line.Reading e = cc
asks_never l line.Cancelling e = cc
asks_never l (line.Broken fault) e = cc

sends_never : (l : Line) (last : Bool) (s : LineStage) → refusal_in (sends {T = Token} l last s).answer ≡ Some clients.Memory → ⊥
sends_never l last line.Idle e = cc
sends_never l last (line.Sending begun) e = cc
sends_never l last line.Reading e = cc
sends_never l last line.Cancelling e = cc
sends_never l last (line.Broken fault) e = cc

cancels_never : (l : Line) (s : LineStage) → refusal_in (cancels {T = Token} l s).answer ≡ Some clients.Memory → ⊥
cancels_never l line.Idle e = cc
cancels_never l (line.Sending false) e = cc
cancels_never l (line.Sending true) e = cc
cancels_never l line.Reading e = cc
cancels_never l line.Cancelling e = cc
cancels_never l (line.Broken fault) e = cc

pub ask_never : (l : Line) → refusal_in (line_turn {T = Token} l line.Ask).answer ≡ Some clients.Memory → ⊥
ask_never l e = asks_never l l.stage e

pub send_never : (l : Line) (last : Bool) → refusal_in (line_turn {T = Token} l (line.Send last)).answer ≡ Some clients.Memory → ⊥
send_never l last e = sends_never l last l.stage e

pub cancel_never : (l : Line) → refusal_in (line_turn {T = Token} l line.Cancel).answer ≡ Some clients.Memory → ⊥
cancel_never l e = cancels_never l l.stage e

-- A cancel that is done is no refusal.
pub cancelled_fine : (n : ℕ) (how : Cancelled) → refusal_in (cancel_answer n how) ≡ None
cancelled_fine n hows.Nothing = refl
cancelled_fine n hows.Already = refl
cancelled_fine n hows.Unsent = refl
cancelled_fine n hows.Asked = refl

-- ---- Lending

marked_by : (l : Line) (reset : Reset) (s : LineStage) → (marks {T = Token} l reset s).answer ≡ line.Marked → is_idle s ≡ true
marked_by l reset line.Idle e = refl
marked_by l reset (line.Sending begun) e = absurd (let u : ⊥ = cc in u)
marked_by l reset line.Reading e = absurd (let u : ⊥ = cc in u)
marked_by l reset line.Cancelling e = absurd (let u : ⊥ = cc in u)
marked_by l reset (line.Broken fault) e = absurd (let u : ⊥ = cc in u)

busy_by : (l : Line) (reset : Reset) (s : LineStage) (why : ClientRefusal) → (marks {T = Token} l reset s).answer ≡ line.Refused why → is_idle s ≡ false
busy_by l reset line.Idle why e = absurd (let u : ⊥ = cc in u)
busy_by l reset (line.Sending begun) why e = refl
busy_by l reset line.Reading why e = refl
busy_by l reset line.Cancelling why e = refl
busy_by l reset (line.Broken fault) why e = refl

-- a mark is taken where it is idle, and refused where it isn't
pub marked_idle : (l : Line) (reset : Reset) → (line_turn {T = Token} l (line.Mark reset)).answer ≡ line.Marked → is_idle l.stage ≡ true
marked_idle l reset e = marked_by l reset l.stage e

pub refused_busy : (l : Line) (reset : Reset) (why : ClientRefusal) → (line_turn {T = Token} l (line.Mark reset)).answer ≡ line.Refused why → is_idle l.stage ≡ false
refused_busy l reset why e = busy_by l reset l.stage why e

not_and : (a b : Bool) → b ≡ false → (a && b) ≡ false
not_and true b e = e
not_and false b e = refl

pub busy_not_lendable : (c : Seat) → is_idle c.line.stage ≡ false → is_lendable c ≡ false
busy_not_lendable c e = not_and (is_free c.place) (is_idle c.line.stage) e

pub lends_alike : (s : Service) (test : Seat → Bool) (place : Place) (reset : Reset) (lease : ℕ) (cs : List code.Seat) (i : ℕ) (c y : code.Seat)
    → lease ≡ suc s.given → s.seats ≡ seats_in cs → FirstMet test cs i → c ≡ get_or cs i c → y.number ≡ c.number → place_of y.place ≡ place
    → Does (line.Mark reset) (line_in c.connection) (line_in y.connection) line.Marked [] []
    → StepsIn (does s (suc s.given) test (seat_in c) (Some place) (line.Mark reset ∷ []) (Lent (suc s.given) c.number true))
    (record { max = s.max; last = s.last; given = lease; seats = seats_in (set cs i y) }) (Lent lease c.number true) c.number [] []
lends_alike s test place reset lease cs i c y is table met at number placed did =
    let all = one_is_all (line.Mark reset) (line_in c.connection) (line_in y.connection) line.Marked [] [] did in
    record {
      service_is =
          ap (λ (g : ℕ). let t : Service = record { max = s.max; last = s.last; given = g; seats = seats_in (set cs i y) } in t) is
          ∙ does_alike s (suc s.given) test place (line.Mark reset ∷ []) (Lent (suc s.given) c.number true) cs i c y table met at number placed all.line_is;
      reply_is = ap (λ (g : ℕ). Lent g c.number true) (sym is);
      number_is = refl;
      bytes = all.bytes;
    }

unless_refuses : (s : Service) (test : Seat → Bool) (c : Seat) (all : List (Act Token)) (x : Option ClientRefusal) (why : ClientRefusal) → IsRefusal x why
    → (x ≡ Some clients.Memory → ⊥) → RefusesIn s (acts_unless s test c all x) (refusal_of why)
unless_refuses s test c all None why is never = subst (λ (w : ClientRefusal). RefusesIn s (acts_unless s test c all None) (refusal_of w)) (sym is) (λ numbers. refl)
unless_refuses s test c all (Some clients.NotIdle) why is never = subst (λ (w : ClientRefusal). RefusesIn s (acts_unless s test c all (Some clients.NotIdle)) (refusal_of w)) (sym is) refl
unless_refuses s test c all (Some clients.NotSending) why is never = subst (λ (w : ClientRefusal). RefusesIn s (acts_unless s test c all (Some clients.NotSending)) (refusal_of w)) (sym is) refl
unless_refuses s test c all (Some clients.Broken) why is never = subst (λ (w : ClientRefusal). RefusesIn s (acts_unless s test c all (Some clients.Broken)) (refusal_of w)) (sym is) refl
unless_refuses s test c all (Some clients.Memory) why is never = absurd (never refl)

-- A connection's refusal at the first index is the machine's.
pub refuses_alike : (s : Service) (test : Seat → Bool) (first : Act Token) (all : List (Act Token)) (cs : List code.Seat) (i : ℕ) (c : code.Seat) (refusal : Refusal)
    → s.seats ≡ seats_in cs → FirstMet test cs i → c ≡ get_or cs i c
    → RefusedBy (refusal_in (line_turn (line_in c.connection) first).answer) refusal
    → (refusal_in (line_turn (line_in c.connection) first).answer ≡ Some clients.Memory → ⊥)
    → RefusesIn s (acts s test first all (find_by test s.seats)) refusal
refuses_alike s test first all cs i c refusal table met at by never =
    let found : find_by test s.seats ≡ Some (seat_in c) = ap (find_by test) table ∙ is_found_at test cs i c met at in
    subst (λ (x : Option Seat). RefusesIn s (acts s test first all x) refusal) (sym found)
    (subst (λ (r : Refusal). RefusesIn s (acts_unless s test (seat_in c) all (refusal_in (line_turn (line_in c.connection) first).answer)) r) (sym by.1)
    (unless_refuses s test (seat_in c) all (refusal_in (line_turn (line_in c.connection) first).answer) by.0 by.2 never))

-- ---- By what a call answers

pub on_err : {A E : Type 0} (r : Result A E) (P Q : E → Type 0) → ((e : E) → P e → Q e) → IfErr r P → IfErr r Q
on_err (Ok x) P Q f h = tt
on_err (Err e) P Q f h = f e h

-- The first connection that is wanted, in the table that it was looked for in, in the one that was lent, and in the service.
pub record Here (test : Seat → Bool) (items lent : List code.Seat) (index : ℕ) : Type 0 where
  pub first : FirstMet test items index
  pub seat : code.Seat
  pub at : seat ≡ get_or items index seat
  pub at_lent : seat ≡ get_or lent index seat

pub here_in : (test : Seat → Bool) (items looked lent : List code.Seat) (index : ℕ) → looked ≡ items → lent ≡ items → FirstMet test looked index → Here test items lent index
here_in test items looked lent index is same first =
    let first : FirstMet test items index = subst (λ (cs : List code.Seat). FirstMet test cs index) is first in
    let some = some_at items index first.within in
    record { first = first; seat = some.0; at = some.1; at_lent = subst (λ (cs : List code.Seat). some.0 ≡ get_or cs index some.0) (sym same) some.1 }

-- ---- What a lending answers

pub steps_as : (t : ServiceStep Token) (new next : Service) (reply other : Reply) (number n : ℕ) → next ≡ new → reply ≡ other → number ≡ n
    → StepsIn t new reply number [] [] → StepsIn t next other n [] []
steps_as t new next reply other number n e f g h = record {
  service_is = e ∙ h.service_is;
  reply_is = h.reply_is ∙ f;
  number_is = h.number_is ∙ g;
  bytes = h.bytes;
}

pub lent_same : (a b m n : ℕ) (had : Bool) → b ≡ a → n ≡ m → had ≡ true → Lent a m true ≡ Lent b n had
lent_same a b m n had e f g = let u : Lent b n had ≡ Lent a m true = cc in sym u

pub lends_here : (s : Service) (test : Seat → Bool) (place : ℕ → Place) (reset : Reset) (lease number : ℕ) (items lent news : List code.Seat) (i : ℕ) (here : Here test items lent i) (y : code.Seat)
    → lease ≡ suc s.given → s.seats ≡ seats_in items → lent ≡ items → news ≡ set lent i y → y.number ≡ here.seat.number → place_of y.place ≡ place lease → number ≡ here.seat.number
    → Does (line.Mark reset) (line_in here.seat.connection) (line_in y.connection) line.Marked [] []
    → StepsIn (does s (suc s.given) test (seat_in here.seat) (Some (place (suc s.given))) (line.Mark reset ∷ []) (Lent (suc s.given) here.seat.number true))
    (record { max = s.max; last = s.last; given = lease; seats = seats_in news }) (Lent lease number true) number [] []
lends_here s test place reset lease number items lent news i here y is table same changed numbered placed at did =
    let k = lends_alike s test (place (suc s.given)) reset lease items i here.seat y is table here.first here.at numbered (placed ∙ ap place is) did in
    let t = does {T = Token} s (suc s.given) test (seat_in here.seat) (Some (place (suc s.given))) (line.Mark reset ∷ []) (Lent (suc s.given) here.seat.number true) in
    let news_are = changed ∙ ap (λ (cs : List code.Seat). set cs i y) same in
    steps_as t (record { max = s.max; last = s.last; given = lease; seats = seats_in (set items i y) }) (record { max = s.max; last = s.last; given = lease; seats = seats_in news })
    (Lent lease here.seat.number true) (Lent lease number true) here.seat.number number
    (ap (λ (cs : List code.Seat). let x : Service = record { max = s.max; last = s.last; given = lease; seats = seats_in cs } in x) news_are)
    (ap (λ (n : ℕ). Lent lease n true) (sym at)) (sym at) k

pub found_here : (test : Seat → Bool) (items lent : List code.Seat) (i : ℕ) (here : Here test items lent i) → find_by test (seats_in items) ≡ Some (seat_in here.seat)
found_here test items lent i here = is_found_at test items i here.seat here.first here.at

pub meets_here : (test : Seat → Bool) (items lent : List code.Seat) (i : ℕ) (here : Here test items lent i) → test (seat_in here.seat) ≡ true
meets_here test items lent i here =
    ap (λ (x : code.Seat). test (seat_in x)) here.at ∙ sym (met_at test here.seat items i here.first.within) ∙ here.first.here

pub not_now_in : (s : Service) (t : ServiceStep Token) (b : Bool) → b ≡ false → RefusesIn s (if b then t else nothing s NotNow) refusals.NotNow
not_now_in s t true e = absurd (let u : ⊥ = cc in u)
not_now_in s t false e = refl

pub done_in : (P : ServiceStep Token → Type 0) (t other : ServiceStep Token) (b : Bool) → b ≡ true → P t → P (if b then t else other)
done_in P t other true e h = h
done_in P t other false e h = absurd (let u : ⊥ = cc in u)

pub length_in : (cs : List code.Seat) → length (seats_in cs) ≡ length cs
length_in [] = refl
length_in (c ∷ cs) = ap suc (length_in cs)

pub seats_added : (cs : List code.Seat) (c : code.Seat) → seats_in (cs ++ c ∷ []) ≡ seats_in cs ++ seat_in c ∷ []
seats_added [] c = refl
seats_added (d ∷ cs) c = ap (λ ss. seat_in d ∷ ss) (seats_added cs c)

-- ---- Giving back

pub taken_set : (i : ℕ) (cs : List code.Seat) (y : code.Seat) → i < length cs → take i (set cs i y) ++ drop (i + 1) (set cs i y) ≡ take i cs ++ drop (i + 1) cs
taken_set i [] y lt = absurd (omega arith)
taken_set zero (c ∷ cs) y lt = refl
taken_set (suc i) (c ∷ cs) y lt =
    let e : suc i + 1 ≡ suc (i + 1) = omega arith in
    ap (λ (k : ℕ). take (suc i) (c ∷ set cs i y) ++ drop k (c ∷ set cs i y)) e
    ∙ (ap (λ (ds : List code.Seat). c ∷ ds) (taken_set i cs y (omega arith))
    ∙ ap (λ (k : ℕ). take (suc i) (c ∷ cs) ++ drop k (c ∷ cs)) (sym e))

pub rests_here : (s : Service) (test : Seat → Bool) (all : List (Act Token)) (rest : Rest) (reply : Reply) (items lent news out : List code.Seat) (i : ℕ) (here : Here test items lent i) (y : code.Seat)
    → s.seats ≡ seats_in items → lent ≡ items → news ≡ set lent i y → out ≡ without_closed rest i news → y.number ≡ here.seat.number
    → line_in y.connection ≡ line_after (line_in here.seat.connection) all → IsAt (rest_of rest) y.place
    → with_seats s (seats_in out) ≡ (does s s.given test (seat_in here.seat) (rest_of rest) all reply).service
rests_here s test all rest reply items lent news out i here y table same changed closed numbered did at =
    let news_are = changed ∙ ap (λ (cs : List code.Seat). set cs i y) same in
    let outs = closed ∙ ap (without_closed rest i) news_are in
    ap (λ (cs : List code.Seat). with_seats s (seats_in cs)) outs ∙ by rest at
  where
    by : (rest : Rest) → IsAt (rest_of rest) y.place → with_seats s (seats_in (without_closed rest i (set items i y))) ≡ (does s s.given test (seat_in here.seat) (rest_of rest) all reply).service
    by resting.Free at = does_alike s s.given test Free all reply items i here.seat y table here.first here.at numbered at did
    by resting.Draining at = does_alike s s.given test Draining all reply items i here.seat y table here.first here.at numbered at did
    by resting.Closed at =
        ap (λ (cs : List code.Seat). with_seats s (seats_in cs)) (taken_set i items y here.first.within)
        ∙ does_gone s s.given test all reply items i here.seat table here.first

lost_sent : (l : Line) (s : LineStage) → (line_loses {T = Token} l s).sent ≡ []
lost_sent l line.Idle = refl
lost_sent l (line.Sending begun) = refl
lost_sent l line.Reading = refl
lost_sent l line.Cancelling = refl
lost_sent l (line.Broken fault) = refl

pub lost_bytes : (l : Line) → Appends (sent_in (history l (line.Lose ∷ []))) [] []
lost_bytes l = subst (λ ps. Appends (ps ++ []) [] []) (sym (lost_sent l l.stage)) ([], refl, refl)

-- ---- Cancelling, also where it is broken

kept_by : (l : Line) (s : LineStage) (why : ClientRefusal) → IsRefusal (refusal_in (cancels {T = Token} l s).answer) why → (why ≡ clients.Memory → ⊥)
    → (l ≡ (cancels {T = Token} l s).line) × ((cancels {T = Token} l s).sent ≡ [])
kept_by l line.Idle why is other = absurd (other is)
kept_by l (line.Sending false) why is other = absurd (other is)
kept_by l (line.Sending true) why is other = absurd (other is)
kept_by l line.Reading why is other = absurd (other is)
kept_by l line.Cancelling why is other = absurd (other is)
kept_by l (line.Broken fault) why is other = (refl, refl)

pub cancel_kept : (l : Line) (why : ClientRefusal) (out : List ℕ) → IsRefusal (refusal_in (line_turn {T = Token} l line.Cancel).answer) why → (why ≡ clients.Memory → ⊥)
    → DoesAll (line.Cancel ∷ []) l l out out
cancel_kept l why out is other =
    let k = kept_by l l.stage why is other in
    record { line_is = k.0; bytes = subst (λ ps. Appends (ps ++ []) out out) (sym k.1) ([], sym (append-nil out), refl) }
