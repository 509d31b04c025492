-- What a lease's requests are told, as reports show it, is what they would be told alone.
use Rattle.std.proofs.Common.{◌≡◌, ◌<◌, ℕ, suc, List, [], ◌∷◌, ◌++◌, map, Bool, true, false, cond, eqb, refl, sym, ap, subst, ◌∙◌, Option, Some, None, arith}
use Rattle.std.proofs.lemmas.Bool.Decides.{nat_tests}
use Rattle.std.specs.List.{AllByRecursion}
use Rattle.std.specs.Prelude.{◌==◌, ◌&&◌, filter, find}
use Rattle.tds_session.specs.declared.attention.OnAttention.{OnAttention}
use Rattle.tds_session.specs.Answer.{Answers}
use Rattle.tds_world.specs.declared.event.Event.{Event}
use Rattle.tds_world.specs.declared.event.Event.TheVariants as event
use Rattle.tds_world.specs.declared.event.Setup.{Setup}
use Rattle.tds_world.specs.declared.outcome.Opened.{Opened}
use Rattle.tds_world.specs.declared.outcome.Opened.TheVariants as opened
use Rattle.tds_world.specs.declared.outcome.Outcome.{Outcome}
use Rattle.tds_world.specs.declared.outcome.Outcome.TheVariants as outcome
use Rattle.tds_world.specs.declared.report.EventReport.{EventReport}
use Rattle.tds_world.specs.declared.report.RequestReport.{RequestReport}
use Rattle.tds_world.specs.alone.Alone.{BlindToNumbers, Exchange, exchange_of, exchanges_of, progress_of, RunsAlone, AsIfAlone, own_session, session_from}
use Rattle.tds_world.specs.alone.AloneShown.{far_on, far_in, is_shown_finished, exchange_shown, exchanges_shown, LeaseShown, lease_in, own_by, ShowsAsIfAlone}
use Rattle.tds_world.specs.Connection.{Connection, records, is_cut}
use Rattle.tds_world.specs.limits.Descriptors.{UseFewDescriptors, AreFewEvents}
use Rattle.tds_world.specs.Events.{happens, world_after}
use Rattle.tds_world.specs.Lawful.{Lawful}
use Rattle.tds_world.specs.Observed.{event_reports, observed, request_report, request_reports}
use Rattle.tds_world.specs.Order.{number_if, numbers_on, RequestsInOrder}
use Rattle.tds_world.specs.Phase.{Phase, Settled, phase_of, status_by}
use Rattle.tds_world.specs.Record.{Record, Fate, Open, Cancelled, is_finished}
use Rattle.tds_world.specs.Reports.{Ask, asked_in}
use Rattle.tds_world.specs.World.{World, Holding, new_world, numbered}
use Rattle.tds_world.proofs.alone.AsIfAlone.{alone_after}
use Rattle.tds_world.proofs.events.Adds.{GivenAs, Extends}
use Rattle.tds_world.proofs.events.Words.{OfSome}
use Rattle.tds_world.proofs.events.Worlds.{at_number}
use Rattle.tds_world.proofs.reports.Answered.{reported, same_some}
use Rattle.tds_world.proofs.reports.Asks.{AreAsked, IsReported, all_asked, found_has}
use Rattle.tds_world.proofs.reports.FirstRuns.{some_same, find_there, one_lower, behind, one_behind}
use Rattle.tds_world.proofs.reports.Leased.{CameBy, FromTicket, NotedAs, happens_noted, leases_stay}
use Rattle.tds_world.proofs.requests.Order.{requests_in_order}

-- What came of the requests of this lease among these.
abbrev of_lease : ℕ → Connection → List Record → List Exchange
of_lease l c qs = map (exchange_of c) (filter (λ (q : Record). q.lease == l) qs)

-- ---- The next request of a connection

-- Of the requests of connection c, those that are numbered below k, and the rest, which were asked on
-- these connections.
record Split (k m : ℕ) (ns : List ℕ) (c : Connection) (rest : List Record) : Type 0 where
  before : List Record
  whole : before ++ rest ≡ records c
  lower : AllByRecursion (λ (p : Record). p.number < k) before
  numbers : map (λ (q : Record). q.number) rest ≡ numbers_on m k ns

record Next (k m : ℕ) (ns : List ℕ) (c : Connection) (q : Record) (rest : List Record) : Type 0 where
  more : List Record
  is : rest ≡ q ∷ more
  split : Split (suc k) m ns c more

next_of : (k m : ℕ) (ns : List ℕ) (c : Connection) (q : Record) (before rest : List Record) → before ++ rest ≡ records c → AllByRecursion (λ (p : Record). p.number < k) before → map (λ (q : Record). q.number) rest ≡ k ∷ numbers_on m (suc k) ns → find (λ (p : Record). p.number == k) (records c) ≡ Some q → Next k m ns c q rest
next_of k m ns c q before [] s l e f = absurd (cc)
next_of k m ns c q before (x ∷ rest) s l e f =
    let is : x.number ≡ k = cc in
    let later : map (λ (q : Record). q.number) rest ≡ numbers_on m (suc k) ns = cc in
    let same : x ≡ q = some_same x q (sym (find_there k before x rest l is) ∙ (ap (find (λ (p : Record). p.number == k)) s ∙ f)) in
    record {
      more = rest;
      is = ap (λ y. y ∷ rest) same;
      split = record {
        before = before ++ x ∷ [];
        whole = one_behind before x rest ∙ s;
        lower = behind (λ (p : Record). p.number < suc k) before x (one_lower k before l) (omega arith);
        numbers = later;
      };
    }

passes_other : (k m n : ℕ) (ns : List ℕ) (c : Connection) (rest : List Record) → eqb n m ≡ false → Split k m (n ∷ ns) c rest → Split (suc k) m ns c rest
passes_other k m n ns c rest e h = record {
  before = h.before;
  whole = h.whole;
  lower = one_lower k h.before h.lower;
  numbers = h.numbers ∙ ap (λ b. number_if b k (numbers_on m (suc k) ns)) e;
}

passes_own : (k m n : ℕ) (ns : List ℕ) (c : Connection) (q : Record) (rest : List Record) → eqb n m ≡ true → find (λ (p : Record). p.number == k) (records c) ≡ Some q → Split k m (n ∷ ns) c rest → Next k m ns c q rest
passes_own k m n ns c q rest e f h =
    next_of k m ns c q h.before rest h.whole h.lower (h.numbers ∙ ap (λ b. number_if b k (numbers_on m (suc k) ns)) e) f

is_number : (a b : ℕ) → eqb a b ≡ true → a ≡ b
is_number a b e = grind (arith, nat_tests)

-- One that is found by its number has it.
found_number : (k : ℕ) (qs : List Record) (q : Record) → find (λ (p : Record). p.number == k) qs ≡ Some q → q.number ≡ k
found_number k [] q e = absurd (cc)
found_number k (p ∷ ps) q e = by_test (eqb p.number k) refl e (found_number k ps q)
  where
    by_test : (b : Bool) → eqb p.number k ≡ b → cond b (Some p) (find (λ (x : Record). x.number == k) ps) ≡ Some q → (find (λ (x : Record). x.number == k) ps ≡ Some q → q.number ≡ k) → q.number ≡ k
    by_test true t i f = let same : p ≡ q = cc in subst (λ (x : Record). x.number ≡ k) same (is_number p.number k t)
    by_test false t i f = f i

none_are : (rest : List Record) → map (λ (q : Record). q.number) rest ≡ [] → [] ≡ rest
none_are [] e = refl
none_are (x ∷ xs) e = absurd (cc)

-- ---- One request

shown_as : (fate : Fate) (cut : Bool) (p : Phase) → is_shown_finished (status_by fate cut p) ≡ is_finished fate
shown_as Open true Settled = refl
shown_as Open false Settled = refl
shown_as Cancelled true Settled = refl
shown_as Cancelled false Settled = refl
shown_as fate cut p = refl

one_shown : (w : World) (m : ℕ) (a : Ask) (q : Record) (c : Connection) (cut : Bool) → numbered w.connections m ≡ Some c → q.conn ≡ m → a.number ≡ q.number → q.asking.request ≡ a.request → exchange_shown (far_in w) a (request_report cut q) ≡ exchange_of c q
one_shown w m a q c cut t e n r =
    let got : far_on a.number (numbered w.connections q.conn) ≡ progress_of c q.number =
    ap (λ i. far_on a.number (numbered w.connections i)) e
    ∙ (ap (far_on a.number) t ∙ ap (progress_of c) n) in
    ap (λ x. record { request = x; ran = q.ran; got = far_on a.number (numbered w.connections q.conn); given = q.given; finished = is_shown_finished (status_by q.fate cut (phase_of q)) }) (sym r)
    ∙ (ap (λ x. record { request = q.asking.request; ran = q.ran; got = x; given = q.given; finished = is_shown_finished (status_by q.fate cut (phase_of q)) }) got
    ∙ ap (λ x. record { request = q.asking.request; ran = q.ran; got = progress_of c q.number; given = q.given; finished = x }) (shown_as q.fate cut (phase_of q)))

-- ---- All of them

abbrev if_same : Bool → Bool → Bool
if_same x y = x && y

-- Of the connection, by its lease.
by_lease : (b : Bool) (x y : Exchange) (c : Connection) (q : Record) (l : ℕ) (more : List Record) (xs : List Exchange) → x ≡ y → y ≡ exchange_of c q → xs ≡ of_lease l c more → cond b (x ∷ xs) xs ≡ map (exchange_of c) (cond b (q ∷ filter (λ (p : Record). p.lease == l) more) (filter (λ (p : Record). p.lease == l) more))
by_lease true x y c q l more xs e f g = ap (λ z. z ∷ xs) (e ∙ f) ∙ ap (λ zs. exchange_of c q ∷ zs) g
by_lease false x y c q l more xs e f g = g

shown_by : (w : World) (a : Ask) (q : Record) (cut b : Bool) (n l m k : ℕ) (ns : List ℕ) (c : Connection) (rest : List Record) (xs : List Ask) (rs : List RequestReport) → eqb n m ≡ b → numbered w.connections m ≡ Some c → q.conn ≡ n → a.number ≡ k → q.asking.request ≡ a.request → (b ≡ true → find (λ (p : Record). p.number == k) (records c) ≡ Some q) → Split k m (n ∷ ns) c rest → ((other : List Record) → Split (suc k) m ns c other → exchanges_shown (far_in w) l m xs rs ≡ of_lease l c other)
    → exchanges_shown (far_in w) l m (a ∷ xs) (request_report cut q ∷ rs) ≡ of_lease l c rest
shown_by w a q cut true n l m k ns c rest xs rs e t i u r f s ih =
    let next : Next k m ns c q rest = passes_own k m n ns c q rest e (f refl) s in
    let mine : eqb q.conn m ≡ true = ap (λ x. eqb x m) i ∙ e in
    let same : n ≡ m = is_number n m e in
    let number : q.number ≡ k = found_number k (records c) q (f refl) in
    ap (λ b. cond (if_same b (eqb q.lease l)) (exchange_shown (far_in w) a (request_report cut q) ∷ exchanges_shown (far_in w) l m xs rs) (exchanges_shown (far_in w) l m xs rs)) mine
    ∙ (by_lease (eqb q.lease l) (exchange_shown (far_in w) a (request_report cut q)) (exchange_of c q) c q l next.more (exchanges_shown (far_in w) l m xs rs)
    (one_shown w m a q c cut t (i ∙ same) (u ∙ sym number) r) refl (ih next.more next.split)
    ∙ ap (of_lease l c) (sym next.is))
shown_by w a q cut false n l m k ns c rest xs rs e t i u r f s ih =
    let other : eqb q.conn m ≡ false = ap (λ x. eqb x m) i ∙ e in
    ap (λ b. cond (if_same b (eqb q.lease l)) (exchange_shown (far_in w) a (request_report cut q) ∷ exchanges_shown (far_in w) l m xs rs) (exchanges_shown (far_in w) l m xs rs)) other
    ∙ ih rest (passes_other k m n ns c rest e s)

all_shown : (w : World) (l m k : ℕ) (ns : List ℕ) (xs : List Ask) (c : Connection) → RequestsInOrder w → numbered w.connections m ≡ Some c → AreAsked w k ns xs → (rest : List Record) → Split k m ns c rest → exchanges_shown (far_in w) l m xs (request_reports w k ns) ≡ of_lease l c rest
all_shown w l m k [] [] c o t a rest s = ap (of_lease l c) (none_are rest s.numbers)
all_shown w l m k [] (x ∷ xs) c o t a rest s = absurd a
all_shown w l m k (n ∷ ns) [] c o t a rest s = absurd a
all_shown w l m k (n ∷ ns) (x ∷ xs) c o t a rest s =
    let q : Record = a.0.request in
    let r : IsReported (λ c x. Unit {0}) k (numbered w.connections n) q = reported w k n q a.0.there in
    let on : q.conn ≡ n = found_has (λ (x : Record). x.conn ≡ n) (λ (x : Record). x.number == k) (records r.on) q (o.each n r.on r.is).conns r.found in
    ap (λ rs. exchanges_shown (far_in w) l m (x ∷ xs) (rs ++ request_reports w (suc k) ns)) r.alone
    ∙ shown_by w x q (is_cut r.on.standing) (eqb n m) n l m k ns c rest xs (request_reports w (suc k) ns) refl t on a.0.numbered a.0.asks
    (λ e.
    let same : n ≡ m = is_number n m e in
    let here : r.on ≡ c = same_some (numbered w.connections m) r.on c (ap (λ i. numbered w.connections i) (sym same) ∙ r.is) t in
    ap (λ (y : Connection). find (λ (p : Record). p.number == k) (records y)) (sym here) ∙ r.found)
    s (λ other split. all_shown w l m (suc k) ns xs c o t a.1 other split)

-- Nothing was asked on a connection that isn't there.
none_shown : (w : World) (l m k : ℕ) (ns : List ℕ) (xs : List Ask) → RequestsInOrder w → numbered w.connections m ≡ None → AreAsked w k ns xs → exchanges_shown (far_in w) l m xs (request_reports w k ns) ≡ []
none_shown w l m k [] [] o t a = refl
none_shown w l m k [] (x ∷ xs) o t a = absurd a
none_shown w l m k (n ∷ ns) [] o t a = absurd a
none_shown w l m k (n ∷ ns) (x ∷ xs) o t a =
    let q : Record = a.0.request in
    let r : IsReported (λ c x. Unit {0}) k (numbered w.connections n) q = reported w k n q a.0.there in
    let on : q.conn ≡ n = found_has (λ (x : Record). x.conn ≡ n) (λ (x : Record). x.number == k) (records r.on) q (o.each n r.on r.is).conns r.found in
    ap (λ us. exchanges_shown (far_in w) l m (x ∷ xs) (us ++ request_reports w (suc k) ns)) r.alone
    ∙ (by_test (exchange_shown (far_in w) x (request_report (is_cut r.on.standing) q)) (exchanges_shown (far_in w) l m xs (request_reports w (suc k) ns)) r.on r.is q (eqb q.conn m) refl on
    ∙ none_shown w l m (suc k) ns xs o t a.1)
  where
    by_test : (y : Exchange) (ys : List Exchange) (d : Connection) → numbered w.connections n ≡ Some d → (q : Record) (b : Bool) → eqb q.conn m ≡ b → q.conn ≡ n → cond (if_same b (eqb q.lease l)) (y ∷ ys) ys ≡ ys
    by_test y ys d i q true e on =
        let same : n ≡ m = sym on ∙ is_number q.conn m e in
        let z : Some d ≡ None = sym i ∙ (ap (λ j. numbered w.connections j) same ∙ t) in absurd (cc)
    by_test y ys d i q false e on = refl

alone_for : (attention : OnAttention) (answers : Answers) (w : World) (l m : ℕ) (xs : List Ask) (o : Option Connection) → ((c : Connection) → numbered w.connections m ≡ Some c → RunsAlone attention answers (own_session (numbered w.leases l)) (exchanges_of l c)) → RequestsInOrder w → numbered w.connections m ≡ o → AreAsked w 1 w.asked_on xs → RunsAlone attention answers (own_session (numbered w.leases l)) (exchanges_shown (far_in w) l m xs (request_reports w 1 w.asked_on))
alone_for attention answers w l m xs None h o t a =
    subst (RunsAlone attention answers (own_session (numbered w.leases l))) (sym (none_shown w l m 1 w.asked_on xs o t a)) tt
alone_for attention answers w l m xs (Some c) h o t a =
    subst (RunsAlone attention answers (own_session (numbered w.leases l)))
    (sym (all_shown w l m 1 w.asked_on xs c o t a (records c) (record { before = []; whole = refl; lower = tt; numbers = (o.each m c t).numbers })))
    (h c t)

-- ---- How the lease's own session starts

-- A lease that came from a ticket was resumed.
resumed_by : (e : Event) (h : Option ℕ) → FromTicket e h → session_from h ≡ own_by opened.Resumed
resumed_by (event.Resume t) h f = ap session_from f
resumed_by e h f = absurd f

from_by : (e : Event) (o : Opened) (h : Option ℕ) → CameBy e o h → session_from h ≡ own_by o
from_by e opened.New h f = ap session_from f
from_by e opened.Reused h f = ap session_from f
from_by e opened.Resumed h f = resumed_by e h f

own_is : (e : Event) (o : Opened) (h : Holding) (k : Option Holding) → CameBy e o h.resumed → GivenAs h k → own_session k ≡ own_by o
own_is e o h None f g = absurd g
own_is e o h (Some k) f g = ap session_from g.0 ∙ from_by e o h.resumed f

abbrev AllAlone : OnAttention → Answers → World → List Ask → List RequestReport → Type 0
AllAlone attention answers v asks rs = (lease conn : ℕ) → RunsAlone attention answers (own_session (numbered v.leases lease)) (exchanges_shown (far_in v) lease conn asks rs)

-- Of one that is shown.
abbrev IsAlone : OnAttention → Answers → LeaseShown → Type 0
IsAlone attention answers x = RunsAlone attention answers (own_by x.opened) x.exchanges

told_alone : (attention : OnAttention) (answers : Answers) (v : World) (e : Event) (what : Outcome) (hs : List Holding) (asks : List Ask) (rs : List RequestReport) → NotedAs e what hs → Extends hs v.leases → AllAlone attention answers v asks rs → AllByRecursion (IsAlone attention answers) (lease_in (far_in v) asks rs what)
told_alone attention answers v e (outcome.Leased lease n o) hs asks rs f x g = (
  subst (λ own. RunsAlone attention answers own (exchanges_shown (far_in v) lease n asks rs)) (own_is e o f.0 (numbered v.leases lease) f.2 (x lease f.0 f.1)) (g lease n),
  tt,
)
told_alone attention answers v e (outcome.GivenBack x0) hs asks rs f x g = tt
told_alone attention answers v e what hs asks rs f x g = tt

each_alone : (setup : Setup) (answers : Answers) (events : List Event) (w : World) (asks : List Ask) (rs : List RequestReport) → AllAlone setup.on_attention answers (world_after setup answers events w) asks rs → AllByRecursion (λ (r : EventReport). AllByRecursion (IsAlone setup.on_attention answers) (lease_in (far_in (world_after setup answers events w)) asks rs r.outcome)) (event_reports setup answers events w)
each_alone setup answers [] w asks rs g = tt
each_alone setup answers (e ∷ es) w asks rs g = (
  told_alone setup.on_attention answers (world_after setup answers (e ∷ es) w) e (happens setup answers e w).0 (happens setup answers e w).1.leases asks rs (happens_noted setup answers e w) (leases_stay setup answers es (happens setup answers e w).1) g,
  each_alone setup answers es (happens setup answers e w).1 asks rs g,
)

-- Where a world is as if alone, so is what is told of it.
pub shown_alone : (setup : Setup) (answers : Answers) (events : List Event) → let w : World = world_after setup answers events new_world in AsIfAlone setup.on_attention answers w → ShowsAsIfAlone setup.on_attention answers (far_in w) events (observed setup answers events)
shown_alone setup answers events alone =
    let v : World = world_after setup answers events new_world in
    let asks : List Ask = asked_in events (event_reports setup answers events new_world) in
    each_alone setup answers events new_world asks (request_reports v 1 v.asked_on)
    (λ lease conn.
    alone_for setup.on_attention answers v lease conn asks (numbered v.connections conn)
    (λ c t.
    let f : (x : ℕ) → RunsAlone setup.on_attention answers (own_session (numbered v.leases x)) (exchanges_of x c) =
    subst (OfSome (λ d. (x : ℕ) → RunsAlone setup.on_attention answers (own_session (numbered v.leases x)) (exchanges_of x d))) t
    (at_number (λ d. (x : ℕ) → RunsAlone setup.on_attention answers (own_session (numbered v.leases x)) (exchanges_of x d)) v.connections conn alone) in
    f lease)
    (requests_in_order setup answers events) refl (all_asked setup answers events))

pub as_if_alone_is_shown : (setup : Setup) (answers : Answers) → Lawful answers → BlindToNumbers answers → UseFewDescriptors answers → (events : List Event) → AreFewEvents events → ShowsAsIfAlone setup.on_attention answers (far_in (world_after setup answers events new_world)) events (observed setup answers events)
as_if_alone_is_shown setup answers l b u events h = shown_alone setup answers events (alone_after setup answers l b u events h)
