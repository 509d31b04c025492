-- What is told of the requests in the end is what the model tells, in the order in which they were asked.
use Rattle.std.proofs.Common.{◌≡◌, ◌∙◌, ◌<◌, ◌≤◌, ◌+◌, ◌-◌, ℕ, zero, suc, List, [], ◌∷◌, ◌++◌, length, map, take, drop, reverse, slice_index_or, slice_set, Bool, true, false, eqb, Option, Some, None, refl, sym, ap, subst, append_assoc, append-nil, arith}
use Rattle.std.specs.Prelude.{slice_get, find}
use Rattle.std.specs.List.{AllByRecursion}
use Rattle.std.proofs.lemmas.Bool.{eq-eqb, ne_eqb}
use Rattle.std.proofs.lemmas.Grind.{reverse_onto}
use Rattle.std.proofs.lemmas.List.{map-set, drop_more, drop_all, take_all}
use Rattle.tds_session.specs.Session.{SessionState}
use Rattle.tds_token.specs.declared.token.Token.{Token}
use Rattle.tds_world.specs.declared.report.RequestReport.{RequestReport}
use Rattle.tds_world.specs.declared.report.RequestStatus.{RequestStatus}
use Rattle.tds_world.specs.Connection.{Connection, records, joined, is_cut}
use Rattle.tds_world.specs.Observed.{request_report, record_on, report_if, report_on, request_reports}
use Rattle.tds_world.specs.Record as world
use Rattle.tds_world.specs.World.{World, numbered}
use Rattle.tds_play.specs.Lending.{standing_by}
use Rattle.tds_play.specs.Links.{behind, newest_first, newest_there, report_of}
use Rattle.tds_world.specs.Order.{number_if, numbers_on, IsInOrder, RequestsInOrder}
use Rattle.tds_play.specs.Pipe.{Pipe}
use Rattle.tds_play.specs.Plays.{RepresentsConnection, RepresentConnections}
use Rattle.tds_play.specs.Requests.{MatchesRecord, AreOlder, IsNewest}
use Rattle.tds_play.specs.declared.link.Link.{Link}
use Rattle.tds_play.specs.Seats.{Seated, Seat}
use Rattle.tds_play.specs.declared.request.Record.{Record}

-- ---- The requests of a connection

-- Requests and what each stands for.
abbrev pub MatchRecords : ℕ → Bool → List Record → List world.Record → Type 0
MatchRecords number cut [] [] = Unit {0}
MatchRecords number cut [] (q ∷ qs) = ⊥
MatchRecords number cut (r ∷ rs) [] = ⊥
MatchRecords number cut (r ∷ rs) (q ∷ qs) = MatchesRecord number cut r q × MatchRecords number cut rs qs

all_older : (number : ℕ) (cut : Bool) (rs : List Record) (qs : List world.Record) → AreOlder number cut rs qs → MatchRecords number cut rs qs
all_older number cut [] [] h = tt
all_older number cut [] (q ∷ qs) h = absurd h
all_older number cut (r ∷ rs) [] h = absurd h
all_older number cut (r ∷ rs) (q ∷ qs) h = (h.0.0, all_older number cut rs qs h.1)

and_last : (number : ℕ) (cut : Bool) (rs : List Record) (qs : List world.Record) (r : Record) (q : world.Record)
    → MatchRecords number cut rs qs → MatchesRecord number cut r q → MatchRecords number cut (rs ++ r ∷ []) (qs ++ q ∷ [])
and_last number cut [] [] r q h last = (last, tt)
and_last number cut [] (p ∷ ps) r q h last = absurd h
and_last number cut (s ∷ ss) [] r q h last = absurd h
and_last number cut (s ∷ ss) (p ∷ ps) r q h last = (h.0, and_last number cut ss ps r q h.1 last)

all_requests : (number : ℕ) (cut : Bool) (rs : List Record) (qs : List world.Record) (r : Option Record) (q : Option world.Record)
    → AreOlder number cut rs qs → IsNewest number cut r q → MatchRecords number cut (behind rs r) (joined qs q)
all_requests number cut rs qs None None h n = all_older number cut rs qs h
all_requests number cut rs qs None (Some q) h n = absurd n
all_requests number cut rs qs (Some r) None h n = absurd n
all_requests number cut rs qs (Some r) (Some q) h n = and_last number cut rs qs r q (all_older number cut rs qs h) n

-- ---- What is left to be told

-- Of connection n these requests are left, the oldest last, where the next request has this number and
-- those that are left were asked on these connections.
pub record LeftOn (n number : ℕ) (asked_on : List ℕ) (stack : List Record) (c : Connection) : Type 0 where
  pub left : List Record
  pub told : List world.Record
  pub ahead : List world.Record
  pub stacked : stack ≡ reverse left
  pub parts : records c ≡ told ++ ahead
  pub alike : MatchRecords n (is_cut c.standing) left ahead
  pub numbers : map (λ q. q.number) ahead ≡ numbers_on n number asked_on
  pub before : AllByRecursion (λ q. q.number < number) told

-- So it is of each connection, of which the first has number n.
abbrev pub AllLeft : ℕ → ℕ → List ℕ → List (List Record) → List Connection → Type 0
AllLeft n number asked_on [] [] = Unit {0}
AllLeft n number asked_on [] (c ∷ cs) = ⊥
AllLeft n number asked_on (s ∷ ss) [] = ⊥
AllLeft n number asked_on (s ∷ ss) (c ∷ cs) = LeftOn n number asked_on s c × AllLeft (suc n) number asked_on ss cs

cut_is : (b : Bool) (p : _) → is_cut (standing_by b p) ≡ b
cut_is true p = refl
cut_is false p = refl

left_at_first : {E S : Type 0} (n size : ℕ) (engine : E) (link : Link E S) (seat : Seat) (pipe : Option Pipe) (c : Connection) (asked_on : List ℕ)
    → RepresentsConnection n size engine link seat pipe c → IsInOrder n asked_on c → LeftOn n 1 asked_on (newest_first link) c
left_at_first n size engine link seat pipe c asked_on p o =
    let cut : link.is_cut ≡ is_cut c.standing = sym (cut_is link.is_cut seat.place) ∙ ap is_cut p.standing in
    record {
      left = behind link.past.items link.current;
      told = [];
      ahead = records c;
      stacked = refl;
      parts = refl;
      alike = subst (λ b. MatchRecords n b (behind link.past.items link.current) (records c)) cut (all_requests n link.is_cut link.past.items c.past link.current c.current p.older p.newest);
      numbers = o.numbers;
      before = tt;
    }

all_at_first : {E S : Type 0} (n size : ℕ) (engine : E) (links : List (Seated E S)) (pipes : ℕ → Option Pipe) (cs : List Connection) (asked_on : List ℕ)
    → RepresentConnections n size engine links pipes cs
    → ((i m : ℕ) (c : Connection) → m ≡ n + i → slice_get cs i ≡ Some c → IsInOrder m asked_on c)
    → AllLeft n 1 asked_on (map newest_there links) cs
all_at_first n size engine [] pipes [] asked_on p o = tt
all_at_first n size engine [] pipes (c ∷ cs) asked_on p o = absurd p
all_at_first n size engine (l ∷ ls) pipes [] asked_on p o = absurd p
all_at_first n size engine (l ∷ ls) pipes (c ∷ cs) asked_on p o = (
  left_at_first n size engine l.link l.seat (pipes n) c asked_on p.0 (o 0 n c (omega arith) refl),
  all_at_first (suc n) size engine ls pipes cs asked_on p.1 (λ i m d e at. o (suc i) m d (omega (arith, e)) at),
)

-- ---- The next request

more_before : (k : ℕ) (qs : List world.Record) → AllByRecursion (λ q. q.number < k) qs → AllByRecursion (λ q. q.number < suc k) qs
more_before k [] h = tt
more_before k (q ∷ qs) h = (omega (arith, h.0), more_before k qs h.1)

one_before : (k : ℕ) (qs : List world.Record) (q : world.Record) → AllByRecursion (λ p. p.number < k) qs → q.number ≡ k → AllByRecursion (λ p. p.number < suc k) (qs ++ q ∷ [])
one_before k [] q h e = (omega (arith, e), tt)
one_before k (p ∷ ps) q h e = (omega (arith, h.0), one_before k ps q h.1 e)

-- The records before it have lower numbers, so it is the one that is found.
found_behind : (k : ℕ) (told : List world.Record) (q : world.Record) (qs : List world.Record) → AllByRecursion (λ p. p.number < k) told → q.number ≡ k
    → find (λ p. eqb p.number k) (told ++ q ∷ qs) ≡ Some q
found_behind k [] q qs h e = rw (eq-eqb q.number k e) refl
found_behind k (p ∷ ps) q qs h e =
    let low : p.number < k = h.0 in
    let differs : ¬ (p.number ≡ k) = λ same. omega (arith, low, same) in
    rw (ne_eqb p.number k differs) (found_behind k ps q qs h.1 e)

-- A request that was asked on another connection.
left_on : (n k m : ℕ) (ms : List ℕ) (s : List Record) (c : Connection) → ¬ (m ≡ n) → LeftOn n k (m ∷ ms) s c → LeftOn n (suc k) ms s c
left_on n k m ms s c differs h = record {
  left = h.left;
  told = h.told;
  ahead = h.ahead;
  stacked = h.stacked;
  parts = h.parts;
  alike = h.alike;
  numbers = h.numbers ∙ ap (λ b. number_if b k (numbers_on n (suc k) ms)) (ne_eqb m n differs);
  before = more_before k h.told h.before;
}

all_left_on : (n k m : ℕ) (ms : List ℕ) (ss : List (List Record)) (cs : List Connection) → m < n → AllLeft n k (m ∷ ms) ss cs → AllLeft n (suc k) ms ss cs
all_left_on n k m ms [] [] low h = tt
all_left_on n k m ms [] (c ∷ cs) low h = absurd h
all_left_on n k m ms (s ∷ ss) [] low h = absurd h
all_left_on n k m ms (s ∷ ss) (c ∷ cs) low h =
    (left_on n k m ms s c (λ same. omega (arith, low, same)) h.0, all_left_on (suc n) k m ms ss cs (omega (arith, low)) h.1)

-- The next request, which was asked on connection m, and what is left behind it.
pub record NextOn (m k : ℕ) (ms : List ℕ) (s : List Record) (c : Connection) : Type 0 where
  pub left : List Record
  pub next : Record
  pub request : world.Record
  pub last : s ≡ left ++ next ∷ []
  pub is : MatchesRecord m (is_cut c.standing) next request
  pub found : record_on k c ≡ Some request
  pub rest : LeftOn m (suc k) ms left c

next_on : (m k : ℕ) (ms : List ℕ) (s : List Record) (c : Connection) (left : List Record) (ahead : List world.Record) (told : List world.Record)
    → s ≡ reverse left → records c ≡ told ++ ahead → MatchRecords m (is_cut c.standing) left ahead
    → map (λ q. q.number) ahead ≡ k ∷ numbers_on m (suc k) ms → AllByRecursion (λ q. q.number < k) told → NextOn m k ms s c
next_on m k ms s c [] [] told stacked parts alike numbers before = absurd (cc)
next_on m k ms s c [] (q ∷ qs) told stacked parts alike numbers before = absurd alike
next_on m k ms s c (r ∷ rs) [] told stacked parts alike numbers before = absurd alike
next_on m k ms s c (r ∷ rs) (q ∷ qs) told stacked parts alike numbers before =
    let same : q.number ≡ k = cc in
    let rest : map (λ p. p.number) qs ≡ numbers_on m (suc k) ms = cc in
    record {
      left = reverse rs;
      next = r;
      request = q;
      last = stacked ∙ reverse_onto rs r [];
      is = alike.0;
      found = ap (find (λ p. eqb p.number k)) parts ∙ found_behind k told q qs before same;
      rest = record {
        left = rs;
        told = told ++ q ∷ [];
        ahead = qs;
        stacked = refl;
        parts = parts ∙ sym (append_assoc told (q ∷ []) qs);
        alike = alike.1;
        numbers = rest;
        before = one_before k told q before same;
      };
    }

next_of_left : (m k : ℕ) (ms : List ℕ) (s : List Record) (c : Connection) → LeftOn m k (m ∷ ms) s c → NextOn m k ms s c
next_of_left m k ms s c h =
    next_on m k ms s c h.left h.ahead h.told h.stacked h.parts h.alike (h.numbers ∙ ap (λ b. number_if b k (numbers_on m (suc k) ms)) (eq-eqb m m refl)) h.before

-- The same among all connections.
pub record NextAt (n i m k : ℕ) (ms : List ℕ) (ss : List (List Record)) (cs : List Connection) (c : Connection) : Type 0 where
  pub stack : List Record
  pub on : NextOn m k ms stack c
  pub there : slice_get ss i ≡ Some stack
  pub rest : AllLeft n (suc k) ms (slice_set ss i on.left) cs

next_at : (n i m k : ℕ) (ms : List ℕ) (ss : List (List Record)) (cs : List Connection) (c : Connection)
    → AllLeft n k (m ∷ ms) ss cs → m ≡ n + i → slice_get cs i ≡ Some c → NextAt n i m k ms ss cs c
next_at n i m k ms [] [] c h e at = absurd (cc)
next_at n i m k ms [] (d ∷ ds) c h e at = absurd h
next_at n i m k ms (s ∷ ss) [] c h e at = absurd h
next_at n zero m k ms (s ∷ ss) (d ∷ ds) c h e at =
    let here : m ≡ n = omega (arith, e) in
    let same : d ≡ c = cc in
    let left : LeftOn m k (m ∷ ms) s c = subst (λ (x : ℕ). LeftOn x k (m ∷ ms) s c) (sym here) (subst (LeftOn n k (m ∷ ms) s) same h.0) in
    let on : NextOn m k ms s c = next_of_left m k ms s c left in
    record {
      stack = s;
      on = on;
      there = refl;
      rest = (
        subst (LeftOn n (suc k) ms on.left) (sym same) (subst (λ (x : ℕ). LeftOn x (suc k) ms on.left c) here on.rest),
        all_left_on (suc n) k m ms ss ds (omega (arith, e)) h.1,
      );
    }
next_at n (suc i) m k ms (s ∷ ss) (d ∷ ds) c h e at =
    let next : NextAt (suc n) i m k ms ss ds c = next_at (suc n) i m k ms ss ds c h.1 (omega (arith, e)) at in
    record {
      stack = next.stack;
      on = next.on;
      there = next.there;
      rest = (left_on n k m ms s d (λ same. omega (arith, e, same)) h.0, next.rest);
    }

-- ---- The reports

reported : ℕ → ℕ → RequestStatus → Option SessionState → List Token → RequestReport
reported lease conn status ran tokens = record { lease = lease; conn = conn; status = status; ran = ran; tokens = tokens }

report_alike : (m : ℕ) (cut : Bool) (r : Record) (q : world.Record) → MatchesRecord m cut r q → report_of m r ≡ request_report cut q
unfolding reported
report_alike m cut r q h =
    ap (λ x. reported x m r.status r.ran r.tokens.items) h.lease
    ∙ ap (λ x. reported q.lease x r.status r.ran r.tokens.items) (sym h.conn)
    ∙ ap (λ x. reported q.lease q.conn x r.ran r.tokens.items) h.status
    ∙ ap (λ x. reported q.lease q.conn (request_report cut q).status x r.tokens.items) h.ran
    ∙ ap (reported q.lease q.conn (request_report cut q).status q.ran) h.tokens

abbrev IsKnown : World → ℕ → Type 0
IsKnown w n = (c : Connection) × (numbered w.connections n ≡ Some c)

-- These reports were given, the next request has this number, and so much is left.
pub record Telling (w : World) (number : ℕ) (asked_on : List ℕ) (stacks : List (List Record)) (reports : List RequestReport) : Type 0 where
  pub left : AllLeft 1 number asked_on stacks w.connections
  pub known : AllByRecursion (IsKnown w) asked_on
  pub whole : reports ++ request_reports w number asked_on ≡ request_reports w 1 w.asked_on

-- One more was given.
pub record TellsNext (w : World) (number m : ℕ) (ms : List ℕ) (stacks : List (List Record)) (reports : List RequestReport) : Type 0 where
  pub before : List Record
  pub next : Record
  pub there : numbered stacks m ≡ Some (before ++ next ∷ [])
  pub then : Telling w (suc number) ms (slice_set stacks (m - 1) before) (reports ++ report_of m next ∷ [])

tells_known : (w : World) (number i : ℕ) (ms : List ℕ) (stacks : List (List Record)) (reports : List RequestReport) (c : Connection)
    → slice_get w.connections i ≡ Some c → Telling w number (suc i ∷ ms) stacks reports → TellsNext w number (suc i) ms stacks reports
tells_known w number i ms stacks reports c at t =
    let next : NextAt 1 i (suc i) number ms stacks w.connections c = next_at 1 i (suc i) number ms stacks w.connections c t.left (omega arith) at in
    let on = next.on in
    let place : i ≡ suc i - 1 = omega arith in
    let told : report_on number (numbered w.connections (suc i)) ≡ report_of (suc i) on.next ∷ [] =
    ap (report_on number) at ∙ ap (report_if (is_cut c.standing)) on.found
    ∙ ap (λ x. x ∷ []) (sym (report_alike (suc i) (is_cut c.standing) on.next on.request on.is)) in
    record {
      before = on.left;
      next = on.next;
      there = next.there ∙ ap Some on.last;
      then = record {
        left = subst (λ (x : ℕ). AllLeft 1 (suc number) ms (slice_set stacks x on.left) w.connections) place next.rest;
        known = t.known.1;
        whole =
            append_assoc reports (report_of (suc i) on.next ∷ []) (request_reports w (suc number) ms)
            ∙ ap (λ xs. reports ++ (xs ++ request_reports w (suc number) ms)) (sym told)
            ∙ t.whole;
      };
    }

pub tells_next : (w : World) (number m : ℕ) (ms : List ℕ) (stacks : List (List Record)) (reports : List RequestReport)
    → Telling w number (m ∷ ms) stacks reports → TellsNext w number m ms stacks reports
tells_next w number zero ms stacks reports t = let none = t.known.0.1 in absurd (cc)
tells_next w number (suc i) ms stacks reports t = tells_known w number i ms stacks reports t.known.0.0 t.known.0.1 t

pub telling_at_first : {E S : Type 0} (size : ℕ) (engine : E) (links : List (Seated E S)) (pipes : ℕ → Option Pipe) (w : World)
    → RepresentConnections 1 size engine links pipes w.connections → RequestsInOrder w → Telling w 1 w.asked_on (map newest_there links) []
telling_at_first size engine links pipes w p o = record {
  left = all_at_first 1 size engine links pipes w.connections w.asked_on p
      (λ i m c e at.
      let number : m ≡ suc i = omega (arith, e) in
      subst (λ (x : ℕ). IsInOrder x w.asked_on c) (sym number) (o.each (suc i) c at));
  known = o.known;
  whole = refl;
}

-- ---- A turn of the loop

-- What taking the next request of connection m answers, and leaves.
abbrev pub Takes : ℕ → List (List Record) → Option Record → List (List Record) → Type 0
Takes m stacks result after =
    (before : List Record) (r : Record) → numbered stacks m ≡ Some (before ++ r ∷ []) → (result ≡ Some r) × (after ≡ slice_set stacks (m - 1) before)

turn : (w : World) (asked : List ℕ) (i d : ℕ) (stacks : List (List Record)) (reports : List RequestReport)
    → asked ≡ w.asked_on → i < length asked → Telling w (i + 1) (drop i w.asked_on) stacks reports
    → TellsNext w (i + 1) (slice_index_or asked i d) (drop (i + 1) w.asked_on) stacks reports
turn w asked i d stacks reports same less t =
    let next : drop i w.asked_on ≡ slice_index_or asked i d ∷ drop (i + 1) w.asked_on =
    ap (drop i) (sym same) ∙ drop_more asked i d less ∙ ap (λ xs. slice_index_or asked i d ∷ drop (i + 1) xs) same in
    tells_next w (i + 1) (slice_index_or asked i d) (drop (i + 1) w.asked_on) stacks reports
    (subst (λ (xs : List ℕ). Telling w (i + 1) xs stacks reports) next t)

pub tells_one_more : (w : World) (asked : List ℕ) (i d : ℕ) (stacks after : List (List Record)) (reports then : List RequestReport) (result : Option Record) (got : Record)
    → asked ≡ w.asked_on → i < length asked → Takes (slice_index_or asked i d) stacks result after
    → result ≡ Some got → then ≡ reports ++ report_of (slice_index_or asked i d) got ∷ []
    → Telling w (i + 1) (drop i w.asked_on) stacks reports → Telling w (i + 1 + 1) (drop (i + 1) w.asked_on) after then
tells_one_more w asked i d stacks after reports then result got same less takes is told t =
    let m : ℕ = slice_index_or asked i d in
    let next : TellsNext w (i + 1) m (drop (i + 1) w.asked_on) stacks reports = turn w asked i d stacks reports same less t in
    let taken = takes next.before next.next next.there in
    let first = taken.0 in
    let it : next.next ≡ got = cc in
    let number : suc (i + 1) ≡ i + 1 + 1 = omega arith in
    subst (λ (k : ℕ). Telling w k (drop (i + 1) w.asked_on) after then) number
    (subst (λ (xs : List (List Record)). Telling w (suc (i + 1)) (drop (i + 1) w.asked_on) xs then) (sym taken.1)
    (subst (λ (xs : List RequestReport). Telling w (suc (i + 1)) (drop (i + 1) w.asked_on) (slice_set stacks (m - 1) next.before) xs)
    (ap (λ r. reports ++ report_of m r ∷ []) it ∙ sym told) next.then))

pub one_is_left : (w : World) (asked : List ℕ) (i d : ℕ) (stacks after : List (List Record)) (reports : List RequestReport) (result : Option Record)
    → asked ≡ w.asked_on → i < length asked → Takes (slice_index_or asked i d) stacks result after → result ≡ None
    → Telling w (i + 1) (drop i w.asked_on) stacks reports → ⊥
one_is_left w asked i d stacks after reports result same less takes none t =
    let next : TellsNext w (i + 1) (slice_index_or asked i d) (drop (i + 1) w.asked_on) stacks reports = turn w asked i d stacks reports same less t in
    let taken = takes next.before next.next next.there in
    let first = taken.0 in
    absurd (cc)

pub all_told : (w : World) (i : ℕ) (asked : List ℕ) (stacks : List (List Record)) (reports : List RequestReport) → asked ≡ w.asked_on → length asked ≤ i
    → Telling w (i + 1) (drop i w.asked_on) stacks reports → reports ≡ request_reports w 1 w.asked_on
all_told w i asked stacks reports same over t =
    let none : drop i w.asked_on ≡ [] = ap (drop i) (sym same) ∙ drop_all i asked over in
    sym (append-nil reports) ∙ ap (λ xs. reports ++ request_reports w (i + 1) xs) (sym none) ∙ t.whole

-- What is written to a slice of a whole vector is the vector then.
pub written_back : {A : Type 0} (n : ℕ) (old new : List A) → length new ≡ length old → n ≡ length old → take n (new ++ drop (length new) old) ≡ new
written_back n old new same all =
    let none : drop (length new) old ≡ [] = drop_all (length new) old (omega (arith, same)) in
    ap (λ xs. take n (new ++ xs)) none ∙ ap (take n) (append-nil new) ∙ take_all n new (omega (arith, same, all))

-- ---- The oldest that is left is taken

last_of : {A : Type 0} (xs : List A) (x d : A) → slice_index_or (xs ++ x ∷ []) (length xs) d ≡ x
last_of [] x d = refl
last_of (y ∷ ys) x d = last_of ys x d

all_but_last : {A : Type 0} (xs : List A) (x : A) → take (length xs) (xs ++ x ∷ []) ≡ xs
all_but_last [] x = refl
all_but_last (y ∷ ys) x = ap (λ zs. y ∷ zs) (all_but_last ys x)

one_longer : {A : Type 0} (xs : List A) (x : A) → length (xs ++ x ∷ []) ≡ suc (length xs)
one_longer [] x = refl
one_longer (y ∷ ys) x = ap suc (one_longer ys x)

at_place : {V : Type 0} (items : V → List Record) (xs : List V) (i : ℕ) (d : V) (s : List Record) → slice_get (map items xs) i ≡ Some s → items (slice_index_or xs i d) ≡ s
at_place items [] i d s e = absurd (cc)
at_place items (x ∷ xs) zero d s e = cc
at_place items (x ∷ xs) (suc i) d s e = at_place items xs i d s e

pub taken_last : {V : Type 0} (items : V → List Record) (xs : List V) (conn n : ℕ) (d popped : V) (result : Option Record) (left : List Record) (r : Record)
    → numbered (map items xs) conn ≡ Some (left ++ r ∷ []) → n ≡ length (items (slice_index_or xs (conn - 1) d))
    → (0 < n → result ≡ Some (slice_index_or (items (slice_index_or xs (conn - 1) d)) (n - 1) r)) → items popped ≡ take (n - 1) (items (slice_index_or xs (conn - 1) d))
    → (result ≡ Some r) × (map items (slice_set xs (conn - 1) popped) ≡ slice_set (map items xs) (conn - 1) left)
taken_last items xs zero n d popped result left r there count value rest = absurd (cc)
taken_last items xs (suc i) n d popped result left r there count value rest =
    let place : suc i - 1 ≡ i = omega arith in
    let was : _ = slice_index_or xs (suc i - 1) d in
    let stack : items was ≡ left ++ r ∷ [] =
    ap (λ (x : ℕ). items (slice_index_or xs x d)) place ∙ at_place items xs i d (left ++ r ∷ []) there in
    let long : n ≡ suc (length left) = count ∙ ap length stack ∙ one_longer left r in
    let less : n - 1 ≡ length left = omega (arith, long) in (
      value (omega (arith, long)) ∙ ap (λ (x : ℕ). Some (slice_index_or (items was) x r)) less ∙ ap (λ ys. Some (slice_index_or ys (length left) r)) stack
          ∙ ap Some (last_of left r r),
      map-set items xs (suc i - 1) popped
          ∙ ap (slice_set (map items xs) (suc i - 1)) (rest ∙ ap (λ (x : ℕ). take x (items was)) less ∙ ap (take (length left)) stack ∙ all_but_last left r),
    )
