-- The transaction that a ticket keeps is the one that its connection's client was in when it was made.
use Rattle.std.proofs.Common.{◌≡◌, ◌<◌, ℕ, zero, suc, List, [], ◌∷◌, ◌++◌, map, length, Bool, true, false, cond, eqb, ◌-◌, refl, ap, subst, ◌∙◌, Option, Some, None, arith}
use Rattle.std.proofs.lemmas.Bool.Decides.{nat_tests}
use Rattle.std.specs.Prelude.{◌==◌, ◌||◌, slice_get}
use Rattle.tds_request.specs.declared.request.Request.{Request}
use Rattle.tds_session.specs.Answer.{Answers}
use Rattle.tds_session.specs.Session.{SessionState}
use Rattle.tds_world.specs.declared.event.Event.{Event}
use Rattle.tds_world.specs.declared.event.Event.TheVariants as event
use Rattle.tds_world.specs.declared.event.Setup.{Setup}
use Rattle.tds_world.specs.declared.outcome.Opened.TheVariants as opened
use Rattle.tds_world.specs.declared.outcome.Outcome.{Outcome}
use Rattle.tds_world.specs.declared.outcome.Outcome.TheVariants as outcome
use Rattle.tds_world.specs.declared.report.EventReport.{EventReport}
use Rattle.tds_world.specs.declared.report.Place.TheVariants as place
use Rattle.tds_world.specs.declared.report.Report.{Report}
use Rattle.tds_world.specs.declared.report.Snapshot.{Snapshot}
use Rattle.tds_world.specs.Cleaning.{can_clean}
use Rattle.tds_world.specs.Connection.{Connection, phase, is_idle, Standing, In, Cut}
use Rattle.tds_world.specs.Events.{about, acts, asks_by, cleans_by, sends_in, settles, happens_at, happens, world_after}
use Rattle.tds_world.specs.Lawful.{Lawful}
use Rattle.tds_world.specs.Laws.{HasKept, StartsFrom, StartsUnder}
use Rattle.tds_world.specs.Observed.{snapshot_of, snapshots, event_report, event_reports, observed}
use Rattle.tds_world.specs.Phase.{Phase, Asked, Sending}
use Rattle.tds_world.specs.Pool.{is_free, gives_back_at, abandons_at, keeps_by, is_full}
use Rattle.tds_world.specs.Record.{Record}
use Rattle.tds_world.specs.Reports.{AlwaysTold, asked_in, first_run, snapshot_in, kept_in, IsInKept, KeepsIfResumed, OfEachOutcome, ShowsKeptTransaction}
use Rattle.tds_world.specs.World.{World, Holding, Found, Missing, Here, Opens, new_world, numbered, next_number, holding, holding_ended, ended_at, ended_numbered}
use Rattle.tds_world.proofs.events.Adds.{GivenAs, Extends, adds_same}
use Rattle.tds_world.proofs.events.Agreement.{happens_agrees, new_agrees}
use Rattle.tds_world.proofs.events.Happens.{happens_cases}
use Rattle.tds_world.proofs.events.Places.{StandsFor, FoundWith, about_stands, Agrees}
use Rattle.tds_world.proofs.reports.Asks.{put_there, snapshot_there, all_asked}
use Rattle.tds_world.proofs.reports.FirstRuns.{all_halves, starts}
use Rattle.tds_world.proofs.reports.Leased.{NotedAs, happens_adds, happens_noted, extends_then, leases_stay}
use Rattle.tds_world.proofs.requests.FreshStarts.{fresh_start}
use Rattle.tds_world.proofs.requests.Order.{requests_in_order}
use Rattle.tds_world.proofs.requests.Ready.{last_numbered}

-- ---- Where a ticket is made

-- A ticket is told only where it is made, on a connection that is kept then.
record IsMade (ts : List Holding) (t : ℕ) (v : World) : Type 0 where
  pub number : t ≡ next_number ts
  pub longer : length v.tickets ≡ next_number ts
  pub conn : ℕ
  pub on : Connection
  pub there : numbered v.connections conn ≡ Some on
  pub stands : on.standing ≡ In (place.Kept t)
  pub ticket : Holding
  pub noted : numbered v.tickets t ≡ Some ticket
  pub descriptor : ticket.descriptor ≡ on.heard

abbrev Made : List Holding → Outcome → World → Type 0
Made ts (outcome.Kept t) v = IsMade ts t v
Made ts o v = length v.tickets ≡ length ts

abbrev Makes : World → Outcome × World → Type 0
Makes w p = Made w.tickets p.0 p.1

length_ended_at : (n : ℕ) (hs : List Holding) → length (ended_at n hs) ≡ length hs
length_ended_at n [] = refl
length_ended_at zero (h ∷ hs) = refl
length_ended_at (suc n) (h ∷ hs) = ap suc (length_ended_at n hs)

length_ended : (n : ℕ) (hs : List Holding) → length (ended_numbered n hs) ≡ length hs
length_ended zero hs = refl
length_ended (suc n) hs = length_ended_at n hs

length_all_ended : (hs : List Holding) → length (map holding_ended hs) ≡ length hs
length_all_ended [] = refl
length_all_ended (h ∷ hs) = ap suc (length_all_ended hs)

one_longer : (hs : List Holding) (h : Holding) → length (hs ++ h ∷ []) ≡ next_number hs
one_longer [] h = refl
one_longer (x ∷ xs) h = ap suc (one_longer xs h)

back : (l n : ℕ) (w : World) (s : Standing) (c : Connection) → Makes w (settles (event.GiveBack l) n w (gives_back_at s c))
back l n w (In p) c = refl
back l n w Cut c = refl

abandoned : (t n : ℕ) (w : World) (s : Standing) (c : Connection) → Makes w (settles (event.Abandon t) n w (abandons_at s c))
abandoned t n w (In p) c = length_ended t w.tickets
abandoned t n w Cut c = length_ended t w.tickets

kept : (l n : ℕ) (w : World) (idle nothing : Bool) (c : Connection) → numbered w.connections n ≡ Some c → Makes w (settles (event.Keep l) n w (keeps_by idle nothing (next_number w.tickets) c))
kept l n w false nothing c i = refl
kept l n w true true c i = refl
kept l n w true false c i =
    let d : Connection = record c { standing = In (place.Kept (next_number w.tickets)) } in
    record {
      number = refl;
      longer = one_longer w.tickets (holding n c.heard None);
      conn = n;
      on = d;
      there = put_there w.connections n c d i;
      stands = refl;
      ticket = holding n c.heard None;
      noted = last_numbered w.tickets (holding n c.heard None);
      descriptor = refl;
    }

asked : (l n : ℕ) (w : World) (b : Bool) (number : ℕ) (q : Request) (c : Connection) → Makes w (settles (event.Ask l q) n w (asks_by b number l n q c))
asked l n w true number q c = refl
asked l n w false number q c = refl

sent : (l n : ℕ) (w : World) (p : Phase) (room : ℕ) (current : Option Record) (c : Connection) → Makes w (settles (event.Send l) n w (sends_in p room current c))
sent l n w Asked room None c = refl
sent l n w Sending room None c = refl
sent l n w p room current c = refl

cleaned : (k n : ℕ) (w : World) (free can : Bool) (room lease number : ℕ) (c : Connection) → Makes w (settles (event.Clean k) n w (cleans_by free can room lease number n c))
cleaned k n w false can room lease number c = refl
cleaned k n w true false room lease number c = refl
cleaned k n w true true room lease number c = refl

acted : (setup : Setup) (answers : Answers) (w : World) (e : Event) (n : ℕ) (c : Connection) → numbered w.connections n ≡ Some c → Makes w (settles e n w (acts setup answers w e n c))
acted setup answers w (event.Resume t) n c i = length_ended t w.tickets
acted setup answers w (event.GiveBack l) n c i = back l n w c.standing c
acted setup answers w (event.Keep l) n c i = kept l n w (is_idle c) (c.heard == 0 || is_full c.mark) c i
acted setup answers w (event.Abandon t) n c i = abandoned t n w c.standing c
acted setup answers w (event.Clean k) n c i =
    cleaned k n w (is_free c.standing) (can_clean (setup.packet_size - 8) (next_number w.leases) (next_number w.asked_on) n c) (setup.packet_size - 8) (next_number w.leases) (next_number w.asked_on) c
acted setup answers w (event.Ask l q) n c i = asked l n w (is_idle c) (next_number w.asked_on) q c
acted setup answers w (event.Send l) n c i = sent l n w (phase c) (setup.packet_size - 8) c.current c
acted setup answers w e n c i = refl

found_makes : (setup : Setup) (answers : Answers) (e : Event) (w : World) (f : Found) → FoundWith w (StandsFor e) f → Makes w (happens_at setup answers e w f)
found_makes setup answers e w (Missing why) s = refl
found_makes setup answers e w (Here n c) s = acted setup answers w e n c s.0
found_makes setup answers e w (Opens n) s = refl

at_event : (setup : Setup) (answers : Answers) (e : Event) (w : World) → Agrees w → Makes w (happens_at setup answers e w (about setup w e))
at_event setup answers e w a = found_makes setup answers e w (about setup w e) (about_stands setup w e a)

happens_makes : (setup : Setup) (answers : Answers) (e : Event) (w : World) → Agrees w → Makes w (happens setup answers e w)
happens_makes setup answers e w a =
    happens_cases setup answers w (λ e r. Makes w r)
    refl
    (length_all_ended w.tickets)
    (λ e. at_event setup answers e w a) e

-- ---- What is shown when it is made

-- These snapshots show the connection that this ticket keeps, with its descriptor.
pub record IsKept (t : ℕ) (h : Holding) (shown : List Snapshot) : Type 0 where
  pub snapshot : Snapshot
  pub seen : snapshot_in snapshot.conn shown ≡ Some snapshot
  pub place : snapshot.place ≡ place.Kept t
  pub descriptor : h.descriptor ≡ snapshot.descriptor

tickets_stay : (setup : Setup) (answers : Answers) (events : List Event) (w : World) → Extends w.tickets (world_after setup answers events w).tickets
tickets_stay setup answers [] w = (adds_same w w.connections).tickets
tickets_stay setup answers (e ∷ es) w =
    extends_then w.tickets (happens setup answers e w).1.tickets (world_after setup answers es (happens setup answers e w).1).tickets
    (happens_adds setup answers e w).tickets (tickets_stay setup answers es (happens setup answers e w).1)

none_beyond_at : (hs : List Holding) (i : ℕ) (h : Holding) → slice_get hs i ≡ Some h → i < length hs
none_beyond_at [] i h e = absurd (cc)
none_beyond_at (x ∷ xs) zero h e = omega arith
none_beyond_at (x ∷ xs) (suc i) h e = let less : i < length xs = none_beyond_at xs i h e in omega arith

none_beyond : (hs : List Holding) (t : ℕ) (h : Holding) → numbered hs t ≡ Some h → length hs < t → ⊥
none_beyond hs zero h e l = absurd (cc)
none_beyond hs (suc i) h e l = let less : i < length hs = none_beyond_at hs i h e in absurd (omega arith)

given_descriptor : (h : Holding) (o : Option Holding) (k : Holding) → GivenAs h o → o ≡ Some k → k.descriptor ≡ h.descriptor
given_descriptor h None k g e = absurd g
given_descriptor h (Some m) k g e = ap (λ (x : Holding). x.descriptor) (let same : k ≡ m = cc in same) ∙ g.1

made_kept : (ts : List Holding) (t : ℕ) (w v : World) (h : Holding) → IsMade ts t w → Extends w.tickets v.tickets → numbered v.tickets t ≡ Some h → IsKept t h (snapshots w)
made_kept ts t w v h m x i = record {
  snapshot = snapshot_of m.conn m.on (place.Kept t);
  seen = snapshot_there w.connections m.conn m.on (place.Kept t) m.there m.stands;
  place = refl;
  descriptor = given_descriptor m.ticket (numbered v.tickets t) h (x t m.ticket m.noted) i ∙ m.descriptor;
}

beyond : (k t n : ℕ) → k ≡ suc n → n < t → eqb k t ≡ false → k < t
beyond k t n e l f = grind (arith, nat_tests)

kept_step : (ts : List Holding) (k t : ℕ) (w v : World) (h : Holding) (later : List Snapshot) → IsMade ts k w → Extends w.tickets v.tickets → numbered v.tickets t ≡ Some h → length ts < t → (length w.tickets < t → IsKept t h later) → IsKept t h (cond (k == t) (snapshots w) later)
kept_step ts k t w v h later m x i l f = by_test (eqb k t) refl
  where
    by_test : (b : Bool) → eqb k t ≡ b → IsKept t h (cond b (snapshots w) later)
    by_test true e =
        let same : k ≡ t = grind (arith, nat_tests) in
        made_kept ts t w v h (subst (λ y. IsMade ts y w) same m) x i
    by_test false e =
        let less : k < t = beyond k t (length ts) m.number l e in
        let longer : length w.tickets ≡ suc (length ts) = m.longer in
        let number : k ≡ suc (length ts) = m.number in
        f (omega arith)

passes : {X : Type 0} (n m t : ℕ) → n ≡ m → m < t → (n < t → X) → X
passes n m t e l f = f (omega arith)

told_kept : (o : Outcome) (ts : List Holding) (t : ℕ) (w v : World) (h : Holding) (rs : List EventReport) → Made ts o w → Extends w.tickets v.tickets → numbered v.tickets t ≡ Some h → length ts < t → (length w.tickets < t → IsKept t h (kept_in t rs)) → IsKept t h (kept_in t (event_report (o, w) ∷ rs))
told_kept (outcome.Kept k) ts t w v h rs m x i l f = kept_step ts k t w v h (kept_in t rs) m x i l f
told_kept o ts t w v h rs m x i l f = passes (length w.tickets) (length ts) t m l f

ticket_kept : (setup : Setup) (answers : Answers) (events : List Event) (w : World) (t : ℕ) (h : Holding) → Agrees w → numbered (world_after setup answers events w).tickets t ≡ Some h → length w.tickets < t → IsKept t h (kept_in t (event_reports setup answers events w))
ticket_kept setup answers [] w t h a i l = absurd (none_beyond w.tickets t h i l)
ticket_kept setup answers (e ∷ es) w t h a i l =
    let p : Outcome × World = happens setup answers e w in
    told_kept p.0 w.tickets t p.1 (world_after setup answers es p.1) h (event_reports setup answers es p.1)
    (happens_makes setup answers e w a) (tickets_stay setup answers es p.1) i l
    (ticket_kept setup answers es p.1 t h (happens_agrees setup answers e w a) i)

any_kept : (setup : Setup) (answers : Answers) (events : List Event) (t : ℕ) (h : Holding) → numbered (world_after setup answers events new_world).tickets t ≡ Some h → IsKept t h (kept_in t (event_reports setup answers events new_world))
any_kept setup answers events zero h i = absurd (let e : None ≡ Some h = i in cc)
any_kept setup answers events (suc k) h i = ticket_kept setup answers events new_world (suc k) h new_agrees i (omega arith)

-- ---- The law

in_kept : (v : World) (r : Report) (t : ℕ) (o : Option Holding) (s : SessionState) → numbered v.tickets t ≡ o → HasKept o s → ((h : Holding) → numbered v.tickets t ≡ Some h → IsKept t h (kept_in t r.events)) → IsInKept t r s
in_kept v r t None s e x f = absurd x
in_kept v r t (Some h) s e x f =
    let k : IsKept t h (kept_in t r.events) = f h e in
    record { snapshot = k.snapshot; shown = k.seen; place = k.place; settings = x.0; descriptor = x.1 ∙ k.descriptor }

from_lease : (v : World) (t : ℕ) (h : Holding) (o : Option Holding) (s : SessionState) → h.resumed ≡ Some t → GivenAs h o → StartsUnder v o s → HasKept (numbered v.tickets t) s
from_lease v t h None s e g x = absurd g
from_lease v t h (Some k) s e g x = subst (λ y. StartsFrom v y s) (g.0 ∙ e) x

-- What is known of the world at the end.
pub record AtEnd (v : World) (r : Report) : Type 0 where
  pub starts : (lease : ℕ) (s : SessionState) → first_run lease r.requests ≡ Some s → StartsUnder v (numbered v.leases lease) s
  pub kept : (t : ℕ) (h : Holding) → numbered v.tickets t ≡ Some h → IsKept t h (kept_in t r.events)

resumed_keeps : (v : World) (r : Report) (t : ℕ) (what : Outcome) (hs : List Holding) → AtEnd v r → NotedAs (event.Resume t) what hs → Extends hs v.leases → KeepsIfResumed r (event.Resume t) what
resumed_keeps v r t (outcome.Leased lease n opened.New) hs z f x = tt
resumed_keeps v r t (outcome.Leased lease n opened.Reused) hs z f x = tt
resumed_keeps v r t (outcome.Leased lease n opened.Resumed) hs z f x = λ s i.
    in_kept v r t (numbered v.tickets t) s refl (from_lease v t f.0 (numbered v.leases lease) s f.2 (x lease f.0 f.1) (z.starts lease s i)) (z.kept t)
resumed_keeps v r t (outcome.GivenBack a) hs z f x = tt
resumed_keeps v r t what hs z f x = tt

event_keeps : (v : World) (r : Report) (e : Event) (what : Outcome) (hs : List Holding) → AtEnd v r → NotedAs e what hs → Extends hs v.leases → KeepsIfResumed r e what
event_keeps v r (event.Resume t) what hs z f x = resumed_keeps v r t what hs z f x
event_keeps v r e what hs z f x = tt

pub each_keeps : (setup : Setup) (answers : Answers) (events : List Event) (w : World) (r : Report) → AtEnd (world_after setup answers events w) r → OfEachOutcome (KeepsIfResumed r) events (event_reports setup answers events w)
each_keeps setup answers [] w r z = tt
each_keeps setup answers (e ∷ es) w r z =
    let p : Outcome × World = happens setup answers e w in (
      event_keeps (world_after setup answers es p.1) r e p.0 p.1.leases z (happens_noted setup answers e w) (leases_stay setup answers es p.1),
      each_keeps setup answers es p.1 r z,
    )

-- What holds at the end.
pub at_end : (setup : Setup) (answers : Answers) (events : List Event) → Lawful answers → AtEnd (world_after setup answers events new_world) (observed setup answers events)
at_end setup answers events l =
    let v : World = world_after setup answers events new_world in
    record {
      starts = λ lease s e.
          starts v lease 1 v.asked_on (asked_in events (event_reports setup answers events new_world)) s (fresh_start setup answers l events) (all_asked setup answers events) (all_halves v lease (requests_in_order setup answers events)) e;
      kept = any_kept setup answers events;
    }

pub kept_transaction_is_shown : (setup : Setup) (answers : Answers) → Lawful answers → AlwaysTold setup answers ShowsKeptTransaction
kept_transaction_is_shown setup answers l events =
    each_keeps setup answers events new_world (observed setup answers events) (at_end setup answers events l)
