-- A request that is open is reported as finished when it was answered, and one that was cancelled as
-- acknowledged.
use Rattle.std.proofs.Common.{◌≡◌, ◌<◌, ℕ, suc, List, [], ◌∷◌, ◌++◌, Bool, true, false, refl, sym, ap, subst, ◌∙◌, Option, Some, None, arith}
use Rattle.std.specs.List.{AllByRecursion}
use Rattle.std.specs.Prelude.{◌==◌}
use Rattle.tds_session.specs.Answer.{Answers}
use Rattle.tds_world.specs.declared.event.Event.{Event}
use Rattle.tds_world.specs.declared.event.Setup.{Setup}
use Rattle.tds_world.specs.declared.report.RequestStatus.{RequestStatus}
use Rattle.tds_world.specs.declared.report.RequestStatus.TheVariants as status
use Rattle.tds_world.specs.Connection.{Connection, joined, records, is_cut}
use Rattle.tds_world.specs.Events.{world_after}
use Rattle.tds_world.specs.Lawful.{Lawful}
use Rattle.tds_world.specs.Laws.{request_in}
use Rattle.tds_world.specs.Newest.{AreBefore}
use Rattle.tds_world.specs.Observed.{observed, event_reports, record_on, report_on, request_report, request_reports}
use Rattle.tds_world.specs.Order.{RequestsInOrder}
use Rattle.tds_world.specs.Phase.{Cancelling, phase_by, phase_of, is_settled, status_by, request_status}
use Rattle.tds_world.specs.Record.{Record, Out, NotBegun, Begun, Whole, Fate, Open, Finished, Cancelled, Acknowledged, is_cancelled}
use Rattle.tds_world.specs.Reports.{Ask, asked_in}
use Rattle.tds_world.specs.rest.Rest.{Became, Finishes}
use Rattle.tds_world.specs.rest.RestShown.{BecomesOf, AreAnswered}
use Rattle.tds_world.specs.World.{World, new_world, numbered}
use Rattle.tds_world.proofs.events.Agreement.{new_agrees}
use Rattle.tds_world.proofs.events.Grows.{Grown, after_grow, after_both, after_agrees}
use Rattle.tds_world.proofs.events.Noted.{Each, always_in}
use Rattle.tds_world.proofs.events.Worlds.{at_number}
use Rattle.tds_world.proofs.reports.Asks.{AreAsked, IsReported, all_asked, found_has, on_some}
use Rattle.tds_world.proofs.reports.NoMore.{AsksMore, StillReported, after_more, all_any, still_reported}
use Rattle.tds_world.proofs.requests.Given.{Follows, growth}
use Rattle.tds_world.proofs.requests.Newest.{before}
use Rattle.tds_world.proofs.requests.Order.{requests_in_order}
use Rattle.tds_world.proofs.rest.NeverStuck.{of_there}
use Rattle.tds_world.proofs.rest.Older.{AreSettled, InOrderAndSettled, older_kept}

-- ---- What a status says

abbrev IsOpen : Fate → Out → Type 0
IsOpen fate out = (is_settled (phase_by fate out) ≡ false) × (is_cancelled fate ≡ false)

shown_open : (fate : Fate) (out : Out) → status_by fate false (phase_by fate out) ≡ status.Open → IsOpen fate out
shown_open Finished out e = absurd (cc)
shown_open Acknowledged out e = absurd (cc)
shown_open Cancelled NotBegun e = absurd (cc)
shown_open Cancelled (Begun n) e = absurd (cc)
shown_open Cancelled (Whole n) e = absurd (cc)
shown_open Open NotBegun e = (refl, refl)
shown_open Open (Begun n) e = (refl, refl)
shown_open Open (Whole n) e = (refl, refl)

shown_cancelling : (fate : Fate) (out : Out) → status_by fate false (phase_by fate out) ≡ status.Cancelling → phase_by fate out ≡ Cancelling
shown_cancelling Finished out e = absurd (cc)
shown_cancelling Acknowledged out e = absurd (cc)
shown_cancelling Cancelled NotBegun e = absurd (cc)
shown_cancelling Cancelled (Begun n) e = refl
shown_cancelling Cancelled (Whole n) e = refl
shown_cancelling Open NotBegun e = absurd (cc)
shown_cancelling Open (Begun n) e = absurd (cc)
shown_cancelling Open (Whole n) e = absurd (cc)

becomes : (s later : RequestStatus) → (s ≡ status.Open → later ≡ status.Finished) → (s ≡ status.Cancelling → later ≡ status.Acknowledged) → BecomesOf s later
becomes status.Open later f g = f refl
becomes status.Cancelling later f g = g refl
becomes s later f g = tt

-- ---- The newest request

each_newest : (P : Record → Type 0) (past : List Record) (o : Option Record) → AllByRecursion P past → ((q : Record) → o ≡ Some q → P q) → AllByRecursion P (joined past o)
each_newest P past None h f = h
each_newest P [] (Some q) h f = (f q refl, tt)
each_newest P (p ∷ ps) (Some q) h f = (h.0, each_newest P ps (Some q) h.1 f)

settled_not : (c : Connection) (qs : List Record) → AreSettled qs → AllByRecursion (λ (q : Record). is_settled (phase_of q) ≡ false → c.current ≡ Some q) qs
settled_not c [] h = tt
settled_not c (q ∷ qs) h = (λ e. let z : true ≡ false = sym h.0 ∙ e in absurd (cc), settled_not c qs h.1)

-- One that isn't settled is the newest one.
open_is_newest : (c : Connection) (k : ℕ) (q : Record) → AreSettled c.past → record_on k c ≡ Some q → is_settled (phase_of q) ≡ false → c.current ≡ Some q
open_is_newest c k q h e =
    found_has (λ (x : Record). is_settled (phase_of x) ≡ false → c.current ≡ Some x) (λ (x : Record). x.number == k) (records c) q
    (each_newest (λ (x : Record). is_settled (phase_of x) ≡ false → c.current ≡ Some x) c.past c.current (settled_not c c.past h) (λ x i z. i)) e

lower_not : (d : Connection) (m : ℕ) (qs : List Record) → AllByRecursion (λ (p : Record). p.number < m) qs → AllByRecursion (λ (q : Record). q.number ≡ m → d.current ≡ Some q) qs
lower_not d m [] h = tt
lower_not d m (q ∷ qs) h = (λ e. let z : q.number < m = h.0 in absurd (omega arith), lower_not d m qs h.1)

-- One that has the newest one's number is the newest one.
same_is_newest : (d : Connection) (k m : ℕ) (q : Record) → d.current ≡ Some q → AreBefore d.current d.past → (p : Record) → record_on k d ≡ Some p → p.number ≡ q.number → p ≡ q
same_is_newest d k m q i b p e n =
    let lower : AllByRecursion (λ (x : Record). x.number < q.number) d.past = subst (λ o. AreBefore o d.past) i b in
    let newest : d.current ≡ Some p =
    found_has (λ (x : Record). x.number ≡ q.number → d.current ≡ Some x) (λ (x : Record). x.number == k) (records d) p
    (each_newest (λ (x : Record). x.number ≡ q.number → d.current ≡ Some x) d.past d.current (lower_not d q.number d.past lower) (λ x j z. j)) e n in
    let same : Some p ≡ Some q = sym newest ∙ i in
    cc

-- ---- One request

-- Its connection, and that of the later world.
pub record Then (setup : Setup) (answers : Answers) (w v : World) (n : ℕ) (c d : Connection) : Type 0 where
  pub first : numbered w.connections n ≡ Some c
  pub whole : is_cut c.standing ≡ false
  pub older : AreSettled c.past
  pub there : numbered v.connections n ≡ Some d
  pub before : AreBefore d.current d.past
  pub finished : (q : Record) → c.current ≡ Some q → is_cancelled q.fate ≡ false → Became d q.number Finished
  pub acknowledged : (q : Record) → c.current ≡ Some q → phase_of q ≡ Cancelling → Became d q.number Acknowledged

pub same_some : {A : Type 0} (o : Option A) (x y : A) → o ≡ Some x → o ≡ Some y → x ≡ y
same_some o x y e f = let z : Some x ≡ Some y = sym e ∙ f in cc

became_of : (d : Connection) (k m : ℕ) (fate : Fate) (p : Record) → AreBefore d.current d.past → Became d m fate → record_on k d ≡ Some p → p.number ≡ m → p.fate ≡ fate
became_of d k m fate p b h e n =
    let same : p ≡ h.request = same_is_newest d k m h.request h.newest b p e (n ∙ sym h.same) in
    ap (λ (x : Record). x.fate) same ∙ h.became

answered_on : (setup : Setup) (answers : Answers) (w v : World) (n k : ℕ) (c d : Connection) (q p : Record) (cut : Bool) → Then setup answers w v n c d → record_on k c ≡ Some q → record_on k d ≡ Some p → p.number ≡ q.number → BecomesOf (request_status false q) (request_status cut p)
answered_on setup answers w v n k c d q p cut t e f m =
    becomes (request_status false q) (request_status cut p)
    (λ s.
    let o : IsOpen q.fate q.out = shown_open q.fate q.out s in
    let fate : p.fate ≡ Finished = became_of d k q.number Finished p t.before (t.finished q (open_is_newest c k q t.older e o.0) o.1) f m in
    ap (λ x. status_by x cut (phase_by x p.out)) fate)
    (λ s.
    let o : phase_of q ≡ Cancelling = shown_cancelling q.fate q.out s in
    let fate : p.fate ≡ Acknowledged = became_of d k q.number Acknowledged p t.before (t.acknowledged q (open_is_newest c k q t.older e (ap is_settled o)) o) f m in
    ap (λ x. status_by x cut (phase_by x p.out)) fate)

-- ---- All of them

pub reported : (w : World) (k m : ℕ) (q : Record) → request_in k (numbered w.connections m) ≡ Some q → IsReported (λ c x. Unit {0}) k (numbered w.connections m) q
reported w k m q e = on_some (λ c x. Unit {0}) k (numbered w.connections m) q (at_number (λ c. AllByRecursion (λ (x : Record). Unit {0}) (records c)) w.connections m (all_any w.connections)) e

one_answered : (setup : Setup) (answers : Answers) (w v : World) (n k m : ℕ) (c d : Connection) (q : Record) (r : IsReported (λ c x. Unit {0}) k (numbered w.connections m) q) (s : StillReported v m k q) → RequestsInOrder w → Then setup answers w v n c d → q.conn ≡ n → BecomesOf (request_report (is_cut r.on.standing) q).status (request_report (is_cut s.1.on.standing) s.0).status
one_answered setup answers w v n k m c d q r s o t e =
    let on : q.conn ≡ m = found_has (λ (x : Record). x.conn ≡ m) (λ (x : Record). x.number == k) (records r.on) q (o.each m r.on r.is).conns r.found in
    let same : m ≡ n = sym on ∙ e in
    let here : r.on ≡ c = same_some (numbered w.connections n) r.on c (ap (λ i. numbered w.connections i) (sym same) ∙ r.is) t.first in
    let there : s.1.on ≡ d = same_some (numbered v.connections n) s.1.on d (ap (λ i. numbered v.connections i) (sym same) ∙ s.1.is) t.there in
    subst (λ b. BecomesOf (request_status b q) (request_status (is_cut s.1.on.standing) s.0)) (sym (ap (λ (x : Connection). is_cut x.standing) here ∙ t.whole))
    (answered_on setup answers w v n k c d q s.0 (is_cut s.1.on.standing) t (ap (λ (x : Connection). record_on k x) (sym here) ∙ r.found) (ap (λ (x : Connection). record_on k x) (sym there) ∙ s.1.found) s.2.number)

all_answered : (setup : Setup) (answers : Answers) (w v : World) (n k : ℕ) (c d : Connection) (ns more : List ℕ) (xs : List Ask) → RequestsInOrder w → Then setup answers w v n c d → Grown Follows w.connections v.connections → AreAsked w k ns xs → AreAnswered n (request_reports w k ns) (request_reports v k (ns ++ more))
all_answered setup answers w v n k c d [] more xs o t g a = tt
all_answered setup answers w v n k c d (m ∷ ms) more [] o t g a = absurd a
all_answered setup answers w v n k c d (m ∷ ms) more (x ∷ xs) o t g a =
    let q : Record = a.0.request in
    let r : IsReported (λ c x. Unit {0}) k (numbered w.connections m) q = reported w k m q a.0.there in
    let s : StillReported v m k q = still_reported w v m k q g a.0.there in
    let one : AreAnswered n (request_report (is_cut r.on.standing) q ∷ request_reports w (suc k) ms) (request_report (is_cut s.1.on.standing) s.0 ∷ request_reports v (suc k) (ms ++ more)) = (
      λ e. one_answered setup answers w v n k m c d q r s o t e,
      all_answered setup answers w v n (suc k) c d ms more xs o t g a.1,
    ) in
    subst (λ rs. AreAnswered n (rs ++ request_reports w (suc k) ms) (report_on k (numbered v.connections m) ++ request_reports v (suc k) (ms ++ more))) (sym r.alone)
    (subst (λ rs. AreAnswered n (request_report (is_cut r.on.standing) q ∷ request_reports w (suc k) ms) (rs ++ request_reports v (suc k) (ms ++ more))) (sym s.1.alone) one)

pub are_answered : (setup : Setup) (answers : Answers) (events more : List Event) (n : ℕ) (c : Connection) → Lawful answers → numbered (world_after setup answers events new_world).connections n ≡ Some c → is_cut c.standing ≡ false → Finishes setup answers (world_after setup answers events new_world) n c more → AreAnswered n (observed setup answers events).requests (observed setup answers (events ++ more)).requests
are_answered setup answers events more n c l e s f =
    let w : World = world_after setup answers events new_world in
    let v : World = world_after setup answers more w in
    let d : Connection = f.brings.after in
    let earlier : Each InOrderAndSettled w = always_in setup answers InOrderAndSettled events (older_kept setup answers l) in
    let later : Each InOrderAndSettled v = subst (Each InOrderAndSettled) (after_both setup answers events more new_world) (always_in setup answers InOrderAndSettled (events ++ more) (older_kept setup answers l)) in
    let t : Then setup answers w v n c d = record {
      first = e;
      whole = s;
      older = (of_there (InOrderAndSettled w) w n c e earlier).1;
      there = f.brings.there;
      before = before _ d.past d.current (of_there (InOrderAndSettled v) v n d f.brings.there later).0.1;
      finished = f.finished;
      acknowledged = f.acknowledged;
    } in
    let m : AsksMore w.asked_on v.asked_on = after_more setup answers more w in
    let grown : Grown Follows w.connections v.connections = after_grow setup answers Follows more w (growth setup answers) (after_agrees setup answers events new_world new_agrees) in
    subst (λ u. AreAnswered n (request_reports w 1 w.asked_on) (request_reports u 1 u.asked_on)) (sym (after_both setup answers events more new_world))
    (subst (λ ns. AreAnswered n (request_reports w 1 w.asked_on) (request_reports v 1 ns)) (sym m.1)
    (all_answered setup answers w v n 1 c d w.asked_on m.0 (asked_in events (event_reports setup answers events new_world)) (requests_in_order setup answers events) t grown (all_asked setup answers events)))
