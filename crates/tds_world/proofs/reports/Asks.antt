-- The requests that a report shows as asked are the model's, each by its number.
use Rattle.std.proofs.Common.{◌≡◌, ◌≤◌, ◌<◌, ◌+◌, ◌-◌, ℕ, zero, suc, List, [], ◌∷◌, ◌++◌, map, Bool, true, false, cond, length, eqb, refl, sym, ap, subst, ◌∙◌, Option, Some, None, arith}
use Rattle.std.proofs.lemmas.Bool.Decides.{nat_tests}
use Rattle.std.specs.List.{AllByRecursion}
use Rattle.std.specs.Prelude.{◌==◌, find, slice_get}
use Rattle.tds_request.specs.declared.request.Request.{Request}
use Rattle.tds_session.specs.Answer.{Answers}
use Rattle.tds_world.specs.declared.event.Event.{Event}
use Rattle.tds_world.specs.declared.event.Event.TheVariants as event
use Rattle.tds_world.specs.declared.event.Setup.{Setup}
use Rattle.tds_world.specs.declared.outcome.Outcome.{Outcome}
use Rattle.tds_world.specs.declared.report.Place.{Place}
use Rattle.tds_world.specs.declared.report.Place.TheVariants as place
use Rattle.tds_world.specs.declared.report.RequestReport.{RequestReport}
use Rattle.tds_world.specs.declared.report.Snapshot.{Snapshot}
use Rattle.tds_world.specs.Caller.{asks}
use Rattle.tds_world.specs.Cleaning.{can_clean, clean_request, cleaning_record, cleans}
use Rattle.tds_world.specs.Connection.{Connection, records, is_idle, Standing, In, Cut, is_cut}
use Rattle.tds_world.specs.Events.{about, acts, asks_by, cleans_by, settles, happens_at, happens, world_after}
use Rattle.tds_world.specs.Laws.{OfEachRequest, request_in, request_on}
use Rattle.tds_world.specs.Observed.{record_on, snapshot_of, seen, snapshots_from, event_report, event_reports, request_report, report_if, report_on, request_reports}
use Rattle.tds_world.specs.Order.{number_if, numbers_on, RequestsInOrder}
use Rattle.tds_world.specs.Pool.{Acted, Refuses, Does, is_free}
use Rattle.tds_world.specs.Record.{Record, new_record, Whole, packets_of}
use Rattle.tds_packet.specs.Resets.{header_descriptor}
use Rattle.tds_world.specs.Reports.{Ask, asked_by, asked_in, OfEachAskFrom, snapshot_in}
use Rattle.tds_world.specs.World.{World, Found, Missing, Here, Opens, new_world, numbered, next_number, put, put_numbered}
use Rattle.tds_world.proofs.events.Agreement.{happens_agrees, new_agrees}
use Rattle.tds_world.proofs.events.Grows.{Grown, after_grow}
use Rattle.tds_world.proofs.events.Places.{StandsFor, FoundWith, about_stands, Agrees}
use Rattle.tds_world.proofs.events.Words.{OfSome}
use Rattle.tds_world.proofs.events.Worlds.{at_number}
use Rattle.tds_world.proofs.requests.Given.{Follows, Later, growth, in_grown}
use Rattle.tds_world.proofs.requests.Order.{requests_in_order, asked_then, notes_asked}

-- Its header names the transaction that its client was in, as the snapshot after its event shows it, or
-- none where the connection is cleaned.
pub record NamesShown (n : ℕ) (shown : List Snapshot) (descriptor : ℕ) : Type 0 where
  pub snapshot : Snapshot
  pub is : snapshot_in n shown ≡ Some snapshot
  pub named : descriptor ≡ header_descriptor snapshot.mark snapshot.descriptor

abbrev pub NamesOwn : Bool → ℕ → List Snapshot → ℕ → Type 0
NamesOwn false n shown descriptor = NamesShown n shown descriptor
NamesOwn true n shown descriptor = descriptor ≡ 0

-- The request of this number, asked on connection n, is the one that was asked so.
pub record IsAsked (w : World) (number n : ℕ) (a : Ask) : Type 0 where
  pub request : Record
  pub there : request_on w n number ≡ Some request
  pub numbered : a.number ≡ number
  pub lease : request.lease ≡ a.lease
  pub asks : request.asking.request ≡ a.request
  pub names : NamesOwn a.cleans n a.snapshots request.asking.descriptor

-- So it is with the requests that were asked on these connections, of which the first has this number.
abbrev pub AreAsked : World → ℕ → List ℕ → List Ask → Type 0
AreAsked w number [] [] = Unit {0}
AreAsked w number [] (a ∷ xs) = ⊥
AreAsked w number (n ∷ ns) [] = ⊥
AreAsked w number (n ∷ ns) (a ∷ xs) = IsAsked w number n a × AreAsked w (suc number) ns xs

-- ---- They stay

asked_stays : (w v : World) (number n : ℕ) (a : Ask) → Grown Follows w.connections v.connections → IsAsked w number n a → IsAsked v number n a
asked_stays w v number n a g h =
    let later : (p : Record) × (request_in number (numbered v.connections n) ≡ Some p) × Later h.request p =
    in_grown number n w.connections v.connections h.request g h.there in
    record {
      request = later.0;
      there = later.1;
      numbered = h.numbered;
      lease = later.2.lease ∙ h.lease;
      asks = ap (λ x. x.request) later.2.asking ∙ h.asks;
      names = subst (NamesOwn a.cleans n a.snapshots) (sym (ap (λ x. x.descriptor) later.2.asking)) h.names;
    }

all_stay : (w v : World) (number : ℕ) (ns : List ℕ) (xs : List Ask) → Grown Follows w.connections v.connections → AreAsked w number ns xs → AreAsked v number ns xs
all_stay w v number [] [] g h = tt
all_stay w v number [] (a ∷ xs) g h = h
all_stay w v number (n ∷ ns) [] g h = h
all_stay w v number (n ∷ ns) (a ∷ xs) g h = (asked_stays w v number n a g h.0, all_stay w v (suc number) ns xs g h.1)

-- ---- A new one

one_more : (w : World) (number n : ℕ) (a : Ask) (ns : List ℕ) (xs : List Ask) → AreAsked w number ns xs → IsAsked w (number + length ns) n a → AreAsked w number (ns ++ n ∷ []) (xs ++ a ∷ [])
one_more w number n a [] [] h x = (subst (λ k. IsAsked w k n a) (let end : number + 0 ≡ number = omega arith in end) x, tt)
one_more w number n a [] (b ∷ bs) h x = absurd h
one_more w number n a (m ∷ ms) [] h x = absurd h
one_more w number n a (m ∷ ms) (b ∷ bs) h x =
    (h.0, one_more w (suc number) n a ms bs h.1 (subst (λ k. IsAsked w k n a) (let end : number + suc (length ms) ≡ suc number + length ms = omega arith in end) x))

-- No request has a number that is greater than how many were asked.
less_if : (b : Bool) (k m : ℕ) (xs : List ℕ) → k < m → AllByRecursion (λ x. x < m) xs → AllByRecursion (λ x. x < m) (number_if b k xs)
less_if true k m xs l h = (l, h)
less_if false k m xs l h = h

all_less : (n k m : ℕ) (ns : List ℕ) → k + length ns ≤ m → AllByRecursion (λ x. x < m) (numbers_on n k ns)
all_less n k m [] l = tt
all_less n k m (i ∷ is) l =
    let more : suc k + length is ≤ m = omega arith in
    less_if (eqb i n) k m (numbers_on n (suc k) is) (omega arith) (all_less n (suc k) m is more)

pub by_numbers : (P : ℕ → Type 0) (qs : List Record) → AllByRecursion P (map (λ (q : Record). q.number) qs) → AllByRecursion (λ (q : Record). P q.number) qs
by_numbers P [] h = tt
by_numbers P (q ∷ qs) h = (h.0, by_numbers P qs h.1)

pub other_number : (a b : ℕ) → a < b → eqb a b ≡ false
other_number a b l = grind (arith, nat_tests)

pub same_number : (a : ℕ) → eqb a a ≡ true
same_number a = grind (arith, nat_tests)

pub else_is : {A : Type 0} (b : Bool) (x y : A) → b ≡ false → cond b x y ≡ y
else_is true x y e = absurd (cc)
else_is false x y e = refl

pub then_is : {A : Type 0} (b : Bool) (x y : A) → b ≡ true → cond b x y ≡ x
then_is true x y e = refl
then_is false x y e = absurd (cc)

find_newest : (qs : List Record) (q : Record) → AllByRecursion (λ (p : Record). p.number < q.number) qs → find (λ (p : Record). p.number == q.number) (qs ++ q ∷ []) ≡ Some q
find_newest [] q h = then_is (eqb q.number q.number) (Some q) None (same_number q.number)
find_newest (p ∷ ps) q h =
    else_is (eqb p.number q.number) (Some p) (find (λ (x : Record). x.number == q.number) (ps ++ q ∷ [])) (other_number p.number q.number h.0)
    ∙ find_newest ps q h.1

put_at : (cs : List Connection) (k : ℕ) (c d : Connection) → slice_get cs k ≡ Some c → slice_get (put k d cs) k ≡ Some d
put_at [] k c d e = absurd (cc)
put_at (x ∷ xs) zero c d e = refl
put_at (x ∷ xs) (suc k) c d e = put_at xs k c d e

pub put_there : (cs : List Connection) (n : ℕ) (c d : Connection) → numbered cs n ≡ Some c → numbered (put_numbered n d cs) n ≡ Some d
put_there cs zero c d e = absurd (cc)
put_there cs (suc k) c d e = put_at cs k c d e

-- What is seen of a connection that isn't cut.
after_seen : (k m : ℕ) (c : Connection) (s : Standing) (shown : List Snapshot) → k < m → snapshot_in m (seen k c s ++ shown) ≡ snapshot_in m shown
after_seen k m c (In p) shown l = else_is (eqb k m) (Some (snapshot_of k c p)) (snapshot_in m shown) (other_number k m l)
after_seen k m c Cut shown l = refl

first_seen : (k : ℕ) (c : Connection) (s : Standing) (p : Place) (shown : List Snapshot) → s ≡ In p → snapshot_in k (seen k c s ++ shown) ≡ Some (snapshot_of k c p)
first_seen k c s p shown e = subst (λ x. snapshot_in k (seen k c x ++ shown) ≡ Some (snapshot_of k c p)) (sym e) (then_is (eqb k k) (Some (snapshot_of k c p)) (snapshot_in k shown) (same_number k))

seen_at : (k i : ℕ) (cs : List Connection) (d : Connection) (p : Place) → slice_get cs i ≡ Some d → d.standing ≡ In p → snapshot_in (k + i) (snapshots_from k cs) ≡ Some (snapshot_of (k + i) d p)
seen_at k i [] d p e s = absurd (cc)
seen_at k zero (c ∷ cs) d p e s =
    let same : c ≡ d = cc in
    let here : snapshot_in k (snapshots_from k (c ∷ cs)) ≡ Some (snapshot_of k c p) = first_seen k c c.standing p (snapshots_from (suc k) cs) (ap (λ (x : Connection). x.standing) same ∙ s) in
    subst (λ m. snapshot_in m (snapshots_from k (c ∷ cs)) ≡ Some (snapshot_of m d p)) (let end : k ≡ k + 0 = omega arith in end)
    (subst (λ x. snapshot_in k (snapshots_from k (c ∷ cs)) ≡ Some (snapshot_of k x p)) same here)
seen_at k (suc i) (c ∷ cs) d p e s =
    after_seen k (k + suc i) c c.standing (snapshots_from (suc k) cs) (omega arith)
    ∙ subst (λ m. snapshot_in m (snapshots_from (suc k) cs) ≡ Some (snapshot_of m d p)) (let end : suc k + i ≡ k + suc i = omega arith in end) (seen_at (suc k) i cs d p e s)

pub snapshot_there : (cs : List Connection) (n : ℕ) (d : Connection) (p : Place) → numbered cs n ≡ Some d → d.standing ≡ In p → snapshot_in n (snapshots_from 1 cs) ≡ Some (snapshot_of n d p)
snapshot_there cs zero d p e s = absurd (cc)
snapshot_there cs (suc i) d p e s =
    subst (λ m. snapshot_in m (snapshots_from 1 cs) ≡ Some (snapshot_of m d p)) (let end : 1 + i ≡ suc i = omega arith in end) (seen_at 1 i cs d p e s)

pub nothing_more : {A : Type 0} (xs : List A) → xs ≡ xs ++ []
nothing_more [] = refl
nothing_more (x ∷ xs) = ap (λ ys. x ∷ ys) (nothing_more xs)

pub one_behind : {A : Type 0} (xs ys zs : List A) → (xs ++ ys) ++ zs ≡ xs ++ (ys ++ zs)
one_behind [] ys zs = refl
one_behind (x ∷ xs) ys zs = ap (λ ws. x ∷ ws) (one_behind xs ys zs)

-- ---- One event

-- What is told of an event in this world makes the requests that were asked before it these.
abbrev Asks : Event → List Ask → Outcome × World → Type 0
Asks e xs p = AreAsked p.1 1 p.1.asked_on (xs ++ asked_by e (event_report p) p.0)

no_more : (w : World) (ns : List ℕ) (xs : List Ask) → AreAsked w 1 ns xs → AreAsked w 1 ns (xs ++ [])
no_more w ns xs h = subst (AreAsked w 1 ns) (nothing_more xs) h

new_there : (w : World) (number lease n : ℕ) (q : Request) (c : Connection) → number ≡ next_number w.asked_on → numbered w.connections n ≡ Some c → RequestsInOrder w → request_in number (numbered (put_numbered n (asks number lease n q c) w.connections) n) ≡ Some (new_record number lease n q c.mark c.heard)
new_there w number lease n q c k i o =
    let less : AllByRecursion (λ x. x < number) (numbers_on n 1 w.asked_on) = all_less n 1 number w.asked_on (omega arith) in
    let lower : AllByRecursion (λ (p : Record). p.number < number) (records c) =
    by_numbers (λ x. x < number) (records c) (subst (AllByRecursion (λ x. x < number)) (sym (o.each n c i).numbers) less) in
    ap (request_in number) (put_there w.connections n c (asks number lease n q c) i)
    ∙ find_newest (records c) (new_record number lease n q c.mark c.heard) lower

asks_one : (b : Bool) (w : World) (lease n : ℕ) (q : Request) (c : Connection) (xs : List Ask) → numbered w.connections n ≡ Some c → c.standing ≡ In (place.Leased lease) → RequestsInOrder w → Grown Follows w.connections (settles (event.Ask lease q) n w (asks_by b (next_number w.asked_on) lease n q c)).1.connections → AreAsked w 1 w.asked_on xs → Asks (event.Ask lease q) xs (settles (event.Ask lease q) n w (asks_by b (next_number w.asked_on) lease n q c))
asks_one false w lease n q c xs i s o g h = no_more w w.asked_on xs h
asks_one true w lease n q c xs i s o g h =
    let d : Connection = asks (next_number w.asked_on) lease n q c in
    let p = settles (event.Ask lease q) n w (asks_by true (next_number w.asked_on) lease n q c) in
    let a : Ask = record { number = next_number w.asked_on; lease = lease; request = q; cleans = false; snapshots = (event_report p).snapshots } in
    let next : next_number w.asked_on ≡ 1 + length w.asked_on = omega arith in
    one_more p.1 1 n a w.asked_on xs (all_stay w p.1 1 w.asked_on xs g h) (subst (λ k. IsAsked p.1 k n a) next (record {
      request = new_record (next_number w.asked_on) lease n q c.mark c.heard;
      there = new_there w (next_number w.asked_on) lease n q c refl i o;
      numbered = refl;
      lease = refl;
      asks = refl;
      names = record {
        snapshot = snapshot_of n d (place.Leased lease);
        is = snapshot_there (put_numbered n d w.connections) n d (place.Leased lease) (put_there w.connections n c d i) s;
        named = refl;
      };
    }))

ask_found : (setup : Setup) (answers : Answers) (lease : ℕ) (q : Request) (w : World) (f : Found) (xs : List Ask) → FoundWith w (StandsFor (event.Ask lease q)) f → RequestsInOrder w → Grown Follows w.connections (happens_at setup answers (event.Ask lease q) w f).1.connections → AreAsked w 1 w.asked_on xs → Asks (event.Ask lease q) xs (happens_at setup answers (event.Ask lease q) w f)
ask_found setup answers lease q w (Missing why) xs s o g h = no_more w w.asked_on xs h
ask_found setup answers lease q w (Here n c) xs s o g h = asks_one (is_idle c) w lease n q c xs s.0 s.1 o g h
ask_found setup answers lease q w (Opens n) xs s o g h =
    let v : World = (happens_at setup answers (event.Ask lease q) w (Opens n)).1 in
    no_more v w.asked_on xs (all_stay w v 1 w.asked_on xs g h)

-- A cleaning asks too: what it sends leaves who it is.
clean_there : (w : World) (room number lease n : ℕ) (c : Connection) → number ≡ next_number w.asked_on → numbered w.connections n ≡ Some c → RequestsInOrder w → let q : Record = cleaning_record lease number n c in request_in number (numbered (put_numbered n (cleans room lease number n c) w.connections) n) ≡ Some (record q { left = []; out = Whole (packets_of q.out + 1) })
clean_there w room number lease n c k i o =
    let q : Record = cleaning_record lease number n c in
    let sent : Record = record q { left = []; out = Whole (packets_of q.out + 1) } in
    let less : AllByRecursion (λ x. x < number) (numbers_on n 1 w.asked_on) = all_less n 1 number w.asked_on (omega arith) in
    let lower : AllByRecursion (λ (p : Record). p.number < number) (records c) =
    by_numbers (λ x. x < number) (records c) (subst (AllByRecursion (λ x. x < number)) (sym (o.each n c i).numbers) less) in
    ap (request_in number) (put_there w.connections n c (cleans room lease number n c) i) ∙ find_newest (records c) sent lower

cleans_one : (k room : ℕ) (free can : Bool) (w : World) (n : ℕ) (c : Connection) (xs : List Ask) → numbered w.connections n ≡ Some c → RequestsInOrder w → let p = settles (event.Clean k) n w (cleans_by free can room (next_number w.leases) (next_number w.asked_on) n c) in Grown Follows w.connections p.1.connections → AreAsked w 1 w.asked_on xs → Asks (event.Clean k) xs p
cleans_one k room false can w n c xs i o g h = no_more w w.asked_on xs h
cleans_one k room true false w n c xs i o g h = no_more w w.asked_on xs h
cleans_one k room true true w n c xs i o g h =
    let l : ℕ = next_number w.leases in
    let number : ℕ = next_number w.asked_on in
    let q : Record = cleaning_record l number n c in
    let p = settles (event.Clean k) n w (cleans_by true true room l number n c) in
    let a : Ask = record { number = number; lease = l; request = clean_request; cleans = true; snapshots = [] } in
    let next : number ≡ 1 + length w.asked_on = omega arith in
    one_more p.1 1 n a w.asked_on xs (all_stay w p.1 1 w.asked_on xs g h) (subst (λ m. IsAsked p.1 m n a) next (record {
      request = record q { left = []; out = Whole (packets_of q.out + 1) };
      there = clean_there w room number l n c refl i o;
      numbered = refl;
      lease = refl;
      asks = refl;
      names = refl;
    }))

clean_found : (setup : Setup) (answers : Answers) (k : ℕ) (w : World) (f : Found) (xs : List Ask) → FoundWith w (StandsFor (event.Clean k)) f → RequestsInOrder w → Grown Follows w.connections (happens_at setup answers (event.Clean k) w f).1.connections → AreAsked w 1 w.asked_on xs → Asks (event.Clean k) xs (happens_at setup answers (event.Clean k) w f)
clean_found setup answers k w (Missing why) xs s o g h = no_more w w.asked_on xs h
clean_found setup answers k w (Here n c) xs s o g h =
    cleans_one k (setup.packet_size - 8) (is_free c.standing) (can_clean (setup.packet_size - 8) (next_number w.leases) (next_number w.asked_on) n c) w n c xs s.0 o g h
clean_found setup answers k w (Opens n) xs s o g h =
    let v : World = (happens_at setup answers (event.Clean k) w (Opens n)).1 in
    no_more v w.asked_on xs (all_stay w v 1 w.asked_on xs g h)

-- No other event asks.
settles_none : (e : Event) (n : ℕ) (w : World) (a : Acted) → asked_then e n w.asked_on ≡ w.asked_on → (settles e n w a).1.asked_on ≡ w.asked_on
settles_none e n w (Refuses why) k = refl
settles_none e n w (Does what c) k = notes_asked e n c.heard (record w { connections = put_numbered n c w.connections }) ∙ k

found_none : (setup : Setup) (answers : Answers) (e : Event) (w : World) (f : Found) → ((n : ℕ) → asked_then e n w.asked_on ≡ w.asked_on) → (happens_at setup answers e w f).1.asked_on ≡ w.asked_on
found_none setup answers e w (Missing why) k = refl
found_none setup answers e w (Here n c) k = settles_none e n w (acts setup answers w e n c) (k n)
found_none setup answers e w (Opens n) k = refl

no_ask : (w v : World) (xs : List Ask) → Grown Follows w.connections v.connections → v.asked_on ≡ w.asked_on → AreAsked w 1 w.asked_on xs → AreAsked v 1 v.asked_on (xs ++ [])
no_ask w v xs g e h = subst (λ ns. AreAsked v 1 ns (xs ++ [])) (sym e) (no_more v w.asked_on xs (all_stay w v 1 w.asked_on xs g h))

at_event : (setup : Setup) (answers : Answers) (e : Event) (w : World) (xs : List Ask) → ((n : ℕ) → asked_then e n w.asked_on ≡ w.asked_on) → Grown Follows w.connections (happens_at setup answers e w (about setup w e)).1.connections → AreAsked w 1 w.asked_on xs → AreAsked (happens_at setup answers e w (about setup w e)).1 1 (happens_at setup answers e w (about setup w e)).1.asked_on (xs ++ [])
at_event setup answers e w xs k g h =
    no_ask w (happens_at setup answers e w (about setup w e)).1 xs g (found_none setup answers e w (about setup w e) k) h

happens_asks : (setup : Setup) (answers : Answers) (e : Event) (w : World) (xs : List Ask) → Agrees w → RequestsInOrder w → Grown Follows w.connections (happens setup answers e w).1.connections → AreAsked w 1 w.asked_on xs → Asks e xs (happens setup answers e w)
happens_asks setup answers event.RestartServer w xs a o g h = no_ask w (happens setup answers event.RestartServer w).1 xs g refl h
happens_asks setup answers event.RestartClient w xs a o g h = no_ask w (happens setup answers event.RestartClient w).1 xs g refl h
happens_asks setup answers (event.Ask l q) w xs a o g h =
    ask_found setup answers l q w (about setup w (event.Ask l q)) xs (about_stands setup w (event.Ask l q) a) o g h
happens_asks setup answers (event.Clean k) w xs a o g h =
    clean_found setup answers k w (about setup w (event.Clean k)) xs (about_stands setup w (event.Clean k) a) o g h
happens_asks setup answers event.Lease w xs a o g h = at_event setup answers event.Lease w xs (λ n. refl) g h
happens_asks setup answers (event.Resume t) w xs a o g h = at_event setup answers (event.Resume t) w xs (λ n. refl) g h
happens_asks setup answers (event.GiveBack l) w xs a o g h = at_event setup answers (event.GiveBack l) w xs (λ n. refl) g h
happens_asks setup answers (event.Keep l) w xs a o g h = at_event setup answers (event.Keep l) w xs (λ n. refl) g h
happens_asks setup answers (event.Abandon t) w xs a o g h = at_event setup answers (event.Abandon t) w xs (λ n. refl) g h
happens_asks setup answers (event.Send l) w xs a o g h = at_event setup answers (event.Send l) w xs (λ n. refl) g h
happens_asks setup answers (event.Cancel l) w xs a o g h = at_event setup answers (event.Cancel l) w xs (λ n. refl) g h
happens_asks setup answers (event.Work n) w xs a o g h = at_event setup answers (event.Work n) w xs (λ n. refl) g h
happens_asks setup answers (event.ToServer n k) w xs a o g h = at_event setup answers (event.ToServer n k) w xs (λ n. refl) g h
happens_asks setup answers (event.ToClient n k) w xs a o g h = at_event setup answers (event.ToClient n k) w xs (λ n. refl) g h
happens_asks setup answers (event.Cut n) w xs a o g h = at_event setup answers (event.Cut n) w xs (λ n. refl) g h

-- ---- Any events

after_asks : (setup : Setup) (answers : Answers) (events : List Event) (w : World) (xs : List Ask) → Agrees w → ((later : List Event) → RequestsInOrder (world_after setup answers later w)) → AreAsked w 1 w.asked_on xs → AreAsked (world_after setup answers events w) 1 (world_after setup answers events w).asked_on (xs ++ asked_in events (event_reports setup answers events w))
after_asks setup answers [] w xs a o h = no_more w w.asked_on xs h
after_asks setup answers (e ∷ es) w xs a o h =
    let p : Outcome × World = happens setup answers e w in
    let v : World = world_after setup answers es p.1 in
    let ys : List Ask = asked_by e (event_report p) p.0 in
    subst (AreAsked v 1 v.asked_on) (one_behind xs ys (asked_in es (event_reports setup answers es p.1)))
    (after_asks setup answers es p.1 (xs ++ ys) (happens_agrees setup answers e w a) (λ later. o (e ∷ later))
    (happens_asks setup answers e w xs a (o []) (after_grow setup answers Follows (e ∷ []) w (growth setup answers) a) h))

pub all_asked : (setup : Setup) (answers : Answers) (events : List Event) → AreAsked (world_after setup answers events new_world) 1 (world_after setup answers events new_world).asked_on (asked_in events (event_reports setup answers events new_world))
all_asked setup answers events =
    after_asks setup answers events new_world [] new_agrees (requests_in_order setup answers) tt

-- ---- What is told of them

pub found_has : (P : Record → Type 0) (f : Record → Bool) (qs : List Record) (q : Record) → AllByRecursion P qs → find f qs ≡ Some q → P q
found_has P f [] q h e = absurd (cc)
found_has P f (p ∷ ps) q h e = by_test (f p) e (found_has P f ps q h.1)
  where
    by_test : (b : Bool) → cond b (Some p) (find f ps) ≡ Some q → (find f ps ≡ Some q → P q) → P q
    by_test true i k = subst P (let same : p ≡ q = cc in same) h.0
    by_test false i k = k i

-- A request of a world, of which P holds, is reported alone under its number.
pub record IsReported (P : Connection → Record → Type 0) (number : ℕ) (o : Option Connection) (q : Record) : Type 0 where
  pub on : Connection
  pub is : o ≡ Some on
  pub found : record_on number on ≡ Some q
  pub holds : P on q
  pub alone : report_on number o ≡ request_report (is_cut on.standing) q ∷ []

pub on_some : (P : Connection → Record → Type 0) (number : ℕ) (o : Option Connection) (q : Record) → OfSome (λ c. AllByRecursion (P c) (records c)) o → request_in number o ≡ Some q → IsReported P number o q
on_some P number None q h e = absurd (cc)
on_some P number (Some c) q h e = record {
  on = c;
  is = refl;
  found = e;
  holds = found_has (P c) (λ (x : Record). x.number == number) (records c) q h e;
  alone = ap (report_if (is_cut c.standing)) e;
}

pub each_reported : (P : Connection → Record → Type 0) (R : Ask → RequestReport → Type 0) (w : World) (number : ℕ) (ns : List ℕ) (xs : List Ask) → ((k n : ℕ) (a : Ask) (h : IsAsked w k n a) (r : IsReported P k (numbered w.connections n) h.request) → R a (request_report (is_cut r.on.standing) h.request)) → OfEachRequest P w → AreAsked w number ns xs → OfEachAskFrom number R xs (request_reports w number ns)
each_reported P R w number [] [] f p h = tt
each_reported P R w number [] (a ∷ xs) f p h = h
each_reported P R w number (n ∷ ns) [] f p h = absurd h
each_reported P R w number (n ∷ ns) (a ∷ xs) f p h =
    let q : Record = h.0.request in
    let r : IsReported P number (numbered w.connections n) q =
    on_some P number (numbered w.connections n) q (at_number (λ c. AllByRecursion (P c) (records c)) w.connections n p) h.0.there in
    subst (λ rs. OfEachAskFrom number R (a ∷ xs) (rs ++ request_reports w (suc number) ns)) (sym r.alone)
    (h.0.numbered, f number n a h.0 r, each_reported P R w (suc number) ns xs f p h.1)
