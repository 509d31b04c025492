-- How each lease that a report shows as given came by its connection, and so which session it finds.
use Rattle.std.proofs.Common.{◌≡◌, ℕ, List, [], ◌∷◌, Bool, true, false, ◌-◌, refl, subst, ◌∙◌, Option, Some, None}
use Rattle.std.specs.List.{AllByRecursion}
use Rattle.std.specs.Prelude.{◌==◌, ◌||◌}
use Rattle.tds_request.specs.declared.request.Request.{Request}
use Rattle.tds_session.specs.Answer.{Answers}
use Rattle.tds_session.specs.Session.{SessionState}
use Rattle.tds_world.specs.declared.event.Event.{Event}
use Rattle.tds_world.specs.declared.event.Event.TheVariants as event
use Rattle.tds_world.specs.declared.event.Setup.{Setup}
use Rattle.tds_world.specs.declared.outcome.Opened.{Opened}
use Rattle.tds_world.specs.declared.outcome.Opened.TheVariants as opened
use Rattle.tds_world.specs.declared.outcome.Outcome.{Outcome}
use Rattle.tds_world.specs.declared.outcome.Outcome.TheVariants as outcome
use Rattle.tds_world.specs.declared.report.EventReport.{EventReport}
use Rattle.tds_world.specs.declared.report.RequestReport.{RequestReport}
use Rattle.tds_world.specs.Cleaning.{can_clean}
use Rattle.tds_world.specs.Connection.{Connection, phase, is_idle, Standing, In, Cut}
use Rattle.tds_world.specs.Events.{about, acts, asks_by, cleans_by, sends_in, settles, happens_at, happens, world_after}
use Rattle.tds_world.specs.Lawful.{Lawful}
use Rattle.tds_world.specs.Laws.{HasKept, StartsFrom, StartsUnder}
use Rattle.tds_world.specs.Observed.{event_reports, request_reports}
use Rattle.tds_world.specs.Phase.{Phase, Asked, Sending}
use Rattle.tds_world.specs.Pool.{Acted, Refuses, Does, is_free, gives_back_at, abandons_at, keeps_by, is_full, opens}
use Rattle.tds_world.specs.Record.{Record}
use Rattle.tds_world.specs.Reports.{AlwaysShown, asked_in, first_run, StartsBy, StartsIfLeased, ShowsFreshStart}
use Rattle.tds_world.specs.World.{World, Holding, Found, Missing, Here, Opens, new_world, numbered, next_number, holding, put_numbered}
use Rattle.tds_world.proofs.events.Adds.{GivenAs, Extends, Adds, adds_same, notes_add, restart_adds}
use Rattle.tds_world.proofs.events.Happens.{happens_cases}
use Rattle.tds_world.proofs.reports.Asks.{all_asked}
use Rattle.tds_world.proofs.reports.FirstRuns.{all_halves, starts}
use Rattle.tds_world.proofs.requests.FreshStarts.{fresh_start}
use Rattle.tds_world.proofs.requests.Order.{requests_in_order}
use Rattle.tds_world.proofs.requests.Ready.{last_numbered}

-- ---- What the world notes is never forgotten

settles_adds : (e : Event) (n : ℕ) (w : World) (a : Acted) → Adds w (settles e n w a).1
settles_adds e n w (Refuses why) = adds_same w w.connections
settles_adds e n w (Does what c) = notes_add e n c.heard w (put_numbered n c w.connections)

found_adds : (setup : Setup) (answers : Answers) (e : Event) (w : World) (f : Found) → Adds w (happens_at setup answers e w f).1
found_adds setup answers e w (Missing why) = adds_same w w.connections
found_adds setup answers e w (Here n c) = settles_adds e n w (acts setup answers w e n c)
found_adds setup answers e w (Opens n) = settles_adds event.Lease n w (opens setup.on_attention (next_number w.leases) n)

pub happens_adds : (setup : Setup) (answers : Answers) (e : Event) (w : World) → Adds w (happens setup answers e w).1
happens_adds setup answers e w =
    happens_cases setup answers w (λ e r. Adds w r.1)
    (adds_same w _)
    (restart_adds w)
    (λ e. found_adds setup answers e w (about setup w e)) e

given_then : (h : Holding) (o : Option Holding) (r : Option Holding) → GivenAs h o → ((k : Holding) → o ≡ Some k → GivenAs k r) → GivenAs h r
given_then h None r g f = absurd g
given_then h (Some k) None g f = absurd (f k refl)
given_then h (Some k) (Some m) g f = ((f k refl).0 ∙ g.0, (f k refl).1 ∙ g.1)

pub extends_then : (hs ks ms : List Holding) → Extends hs ks → Extends ks ms → Extends hs ms
extends_then hs ks ms f g l h e = given_then h (numbered ks l) (numbered ms l) (f l h e) (g l)

-- Each lease and each ticket, over any events.
pub leases_stay : (setup : Setup) (answers : Answers) (events : List Event) (w : World) → Extends w.leases (world_after setup answers events w).leases
leases_stay setup answers [] w = (adds_same w w.connections).leases
leases_stay setup answers (e ∷ es) w =
    extends_then w.leases (happens setup answers e w).1.leases (world_after setup answers es (happens setup answers e w).1).leases
    (happens_adds setup answers e w).leases (leases_stay setup answers es (happens setup answers e w).1)

-- ---- How a lease came by its connection

abbrev pub FromTicket : Event → Option ℕ → Type 0
FromTicket (event.Resume ticket) resumed = resumed ≡ Some ticket
FromTicket e resumed = ⊥

abbrev pub CameBy : Event → Opened → Option ℕ → Type 0
CameBy e opened.New resumed = resumed ≡ None
CameBy e opened.Reused resumed = resumed ≡ None
CameBy e opened.Resumed resumed = FromTicket e resumed

-- Of a lease that is told the world notes where it came from.
abbrev pub NotedAs : Event → Outcome → List Holding → Type 0
NotedAs e (outcome.Leased lease n o) hs = (h : Holding) × (numbered hs lease ≡ Some h) × CameBy e o h.resumed
NotedAs e o hs = Unit {0}

abbrev pub IsNoted : Event → Outcome × World → Type 0
IsNoted e p = NotedAs e p.0 p.1.leases

back : (l n : ℕ) (w : World) (s : Standing) (c : Connection) → IsNoted (event.GiveBack l) (settles (event.GiveBack l) n w (gives_back_at s c))
back l n w (In p) c = tt
back l n w Cut c = tt

abandoned : (t n : ℕ) (w : World) (s : Standing) (c : Connection) → IsNoted (event.Abandon t) (settles (event.Abandon t) n w (abandons_at s c))
abandoned t n w (In p) c = tt
abandoned t n w Cut c = tt

kept : (l n : ℕ) (w : World) (idle nothing : Bool) (ticket : ℕ) (c : Connection) → IsNoted (event.Keep l) (settles (event.Keep l) n w (keeps_by idle nothing ticket c))
kept l n w false nothing ticket c = tt
kept l n w true true ticket c = tt
kept l n w true false ticket c = tt

asked : (l n : ℕ) (w : World) (b : Bool) (number : ℕ) (q : Request) (c : Connection) → IsNoted (event.Ask l q) (settles (event.Ask l q) n w (asks_by b number l n q c))
asked l n w true number q c = tt
asked l n w false number q c = tt

sent : (l n : ℕ) (w : World) (p : Phase) (room : ℕ) (current : Option Record) (c : Connection) → IsNoted (event.Send l) (settles (event.Send l) n w (sends_in p room current c))
sent l n w Asked room None c = tt
sent l n w Sending room None c = tt
sent l n w p room current c = tt

cleaned : (k n : ℕ) (w : World) (free can : Bool) (room lease number : ℕ) (c : Connection) → IsNoted (event.Clean k) (settles (event.Clean k) n w (cleans_by free can room lease number n c))
cleaned k n w false can room lease number c = tt
cleaned k n w true false room lease number c = tt
cleaned k n w true true room lease number c = tt

acted : (setup : Setup) (answers : Answers) (w : World) (e : Event) (n : ℕ) (c : Connection) → IsNoted e (settles e n w (acts setup answers w e n c))
acted setup answers w event.Lease n c = (holding n c.heard None, last_numbered w.leases (holding n c.heard None), refl)
acted setup answers w (event.Resume t) n c = (holding n c.heard (Some t), last_numbered w.leases (holding n c.heard (Some t)), refl)
acted setup answers w (event.GiveBack l) n c = back l n w c.standing c
acted setup answers w (event.Keep l) n c = kept l n w (is_idle c) (c.heard == 0 || is_full c.mark) (next_number w.tickets) c
acted setup answers w (event.Abandon t) n c = abandoned t n w c.standing c
acted setup answers w (event.Clean k) n c =
    cleaned k n w (is_free c.standing) (can_clean (setup.packet_size - 8) (next_number w.leases) (next_number w.asked_on) n c) (setup.packet_size - 8) (next_number w.leases) (next_number w.asked_on) c
acted setup answers w (event.Ask l q) n c = asked l n w (is_idle c) (next_number w.asked_on) q c
acted setup answers w (event.Send l) n c = sent l n w (phase c) (setup.packet_size - 8) c.current c
acted setup answers w e n c = tt

found_noted : (setup : Setup) (answers : Answers) (e : Event) (w : World) (f : Found) → IsNoted e (happens_at setup answers e w f)
found_noted setup answers e w (Missing why) = tt
found_noted setup answers e w (Here n c) = acted setup answers w e n c
found_noted setup answers e w (Opens n) = (holding n 0 None, last_numbered w.leases (holding n 0 None), refl)

pub happens_noted : (setup : Setup) (answers : Answers) (e : Event) (w : World) → IsNoted e (happens setup answers e w)
happens_noted setup answers e w =
    happens_cases setup answers w (λ e r. IsNoted e r)
    tt
    tt
    (λ e. found_noted setup answers e w (about setup w e)) e

-- ---- The law

none_settled : (v : World) (o : Option ℕ) (s : SessionState) → o ≡ None → StartsFrom v o s → StartsFrom v None s
none_settled v o s e h = subst (λ x. StartsFrom v x s) e h

kept_settled : (o : Option Holding) (s : SessionState) → HasKept o s → StartsBy opened.Resumed s
kept_settled None s h = absurd h
kept_settled (Some t) s h = h.0

ticket_settled : (v : World) (e : Event) (o : Option ℕ) (s : SessionState) → FromTicket e o → StartsFrom v o s → StartsBy opened.Resumed s
ticket_settled v e (Some t) s f h = kept_settled (numbered v.tickets t) s h
ticket_settled v e None s f h = h.0

starts_by : (v : World) (e : Event) (o : Opened) (h k : Option ℕ) (s : SessionState) → CameBy e o h → k ≡ h → StartsFrom v k s → StartsBy o s
starts_by v e opened.New h k s f i g = none_settled v k s (i ∙ f) g
starts_by v e opened.Reused h k s f i g = none_settled v k s (i ∙ f) g
starts_by v e opened.Resumed h k s f i g = ticket_settled v e h s f (subst (λ x. StartsFrom v x s) i g)

lease_starts : (v : World) (e : Event) (o : Opened) (h : Holding) (k : Option Holding) (s : SessionState) → CameBy e o h.resumed → GivenAs h k → StartsUnder v k s → StartsBy o s
lease_starts v e o h None s f g x = absurd g
lease_starts v e o h (Some k) s f g x = starts_by v e o h.resumed k.resumed s f g.0 x

told_starts : (v : World) (e : Event) (what : Outcome) (hs : List Holding) (rs : List RequestReport) → NotedAs e what hs → Extends hs v.leases → ((lease : ℕ) (s : SessionState) → first_run lease rs ≡ Some s → StartsUnder v (numbered v.leases lease) s) → StartsIfLeased rs what
told_starts v e (outcome.Leased lease n o) hs rs f x g = λ s i. lease_starts v e o f.0 (numbered v.leases lease) s f.2 (x lease f.0 f.1) (g lease s i)
told_starts v e what hs rs f x g = tt

each_starts : (setup : Setup) (answers : Answers) (events : List Event) (w : World) (rs : List RequestReport) → ((lease : ℕ) (s : SessionState) → first_run lease rs ≡ Some s → StartsUnder (world_after setup answers events w) (numbered (world_after setup answers events w).leases lease) s) → AllByRecursion (λ (r : EventReport). StartsIfLeased rs r.outcome) (event_reports setup answers events w)
each_starts setup answers [] w rs g = tt
each_starts setup answers (e ∷ es) w rs g = (
  told_starts (world_after setup answers (e ∷ es) w) e (happens setup answers e w).0 (happens setup answers e w).1.leases rs (happens_noted setup answers e w) (leases_stay setup answers es (happens setup answers e w).1) g,
  each_starts setup answers es (happens setup answers e w).1 rs g,
)

pub fresh_start_is_shown : (setup : Setup) (answers : Answers) → Lawful answers → AlwaysShown setup answers ShowsFreshStart
fresh_start_is_shown setup answers l events =
    let v : World = world_after setup answers events new_world in
    each_starts setup answers events new_world (request_reports v 1 v.asked_on)
    (λ lease s e. starts v lease 1 v.asked_on (asked_in events (event_reports setup answers events new_world)) s (fresh_start setup answers l events) (all_asked setup answers events) (all_halves v lease (requests_in_order setup answers events)) e)
