-- A connection that a report shows as lent is idle.
use Rattle.std.proofs.Common.{◌≡◌, ℕ, List, [], ◌∷◌, length, Bool, true, false, ◌-◌, refl, sym, subst, Option, Some, None}
use Rattle.std.specs.List.{AllByRecursion}
use Rattle.std.specs.Prelude.{◌==◌, ◌||◌, slice_get}
use Rattle.tds_request.specs.declared.request.Request.{Request}
use Rattle.tds_session.specs.Answer.{Answers}
use Rattle.tds_world.specs.declared.event.Event.{Event}
use Rattle.tds_world.specs.declared.event.Event.TheVariants as event
use Rattle.tds_world.specs.declared.event.Setup.{Setup}
use Rattle.tds_world.specs.declared.outcome.Outcome.{Outcome}
use Rattle.tds_world.specs.declared.report.ClientView.TheVariants as view
use Rattle.tds_world.specs.declared.report.Place.TheVariants as place
use Rattle.tds_world.specs.Cleaning.{can_clean}
use Rattle.tds_world.specs.Connection.{Connection, new_connection, phase, is_idle, Standing, In, Cut}
use Rattle.tds_world.specs.Events.{about, acts, asks_by, cleans_by, sends_in, settles, happens_at, happens, world_after}
use Rattle.tds_world.specs.Lawful.{Lawful}
use Rattle.tds_world.specs.Lending.{LendsIdle}
use Rattle.tds_world.specs.Observed.{snapshot_of, snapshots, snapshots_from, event_reports}
use Rattle.tds_world.specs.Phase.{Phase, Settled, Asked, Sending, state_of, is_settled}
use Rattle.tds_world.specs.Pool.{is_free, gives_back_at, abandons_at, keeps_by, is_full}
use Rattle.tds_world.specs.Record.{Record}
use Rattle.tds_world.specs.Reports.{AlwaysShown, IsLent, LentIfLeased, IsLentIdle, ShowsLendsIdle}
use Rattle.tds_world.specs.World.{World, Found, Missing, Here, Opens, new_world, numbered, next_number, put, put_numbered}
use Rattle.tds_world.proofs.events.Agreement.{happens_agrees, new_agrees}
use Rattle.tds_world.proofs.events.Happens.{happens_cases}
use Rattle.tds_world.proofs.events.Places.{StandsFor, FoundWith, about_stands, Agrees}
use Rattle.tds_world.proofs.reports.Asks.{put_there, snapshot_there}
use Rattle.tds_world.proofs.requests.Lending.{lends_idle}

idle_view : (p : Phase) → is_settled p ≡ true → state_of p ≡ view.Idle
idle_view Settled e = refl
idle_view p e = absurd (cc)

lent : (lease n : ℕ) (cs : List Connection) (d : Connection) → numbered cs n ≡ Some d → d.standing ≡ In (place.Leased lease) → is_idle d ≡ true → IsLent lease n (snapshots_from 1 cs)
lent lease n cs d i s h = record {
  snapshot = snapshot_of n d (place.Leased lease);
  shown = snapshot_there cs n d (place.Leased lease) i s;
  client = idle_view (phase d) h;
  place = refl;
}

put_end : (cs : List Connection) (d : Connection) → slice_get (put (length cs) d cs) (length cs) ≡ Some d
put_end [] d = refl
put_end (c ∷ cs) d = put_end cs d

put_last : (cs : List Connection) (n : ℕ) (d : Connection) → n ≡ next_number cs → numbered (put_numbered n d cs) n ≡ Some d
put_last cs n d e = subst (λ m. numbered (put_numbered m d cs) m ≡ Some d) (sym e) (put_end cs d)

-- ---- Each event

abbrev Lends : Outcome × World → Type 0
Lends p = LentIfLeased p.0 (snapshots p.1)

back : (l n : ℕ) (w : World) (s : Standing) (c : Connection) → Lends (settles (event.GiveBack l) n w (gives_back_at s c))
back l n w (In p) c = tt
back l n w Cut c = tt

abandoned : (t n : ℕ) (w : World) (s : Standing) (c : Connection) → Lends (settles (event.Abandon t) n w (abandons_at s c))
abandoned t n w (In p) c = tt
abandoned t n w Cut c = tt

kept : (l n : ℕ) (w : World) (idle nothing : Bool) (ticket : ℕ) (c : Connection) → Lends (settles (event.Keep l) n w (keeps_by idle nothing ticket c))
kept l n w false nothing ticket c = tt
kept l n w true true ticket c = tt
kept l n w true false ticket c = tt

asked : (l n : ℕ) (w : World) (b : Bool) (number : ℕ) (q : Request) (c : Connection) → Lends (settles (event.Ask l q) n w (asks_by b number l n q c))
asked l n w true number q c = tt
asked l n w false number q c = tt

sent : (l n : ℕ) (w : World) (p : Phase) (room : ℕ) (current : Option Record) (c : Connection) → Lends (settles (event.Send l) n w (sends_in p room current c))
sent l n w Asked room None c = tt
sent l n w Sending room None c = tt
sent l n w p room current c = tt

cleaned : (k n : ℕ) (w : World) (free can : Bool) (room lease number : ℕ) (c : Connection) → Lends (settles (event.Clean k) n w (cleans_by free can room lease number n c))
cleaned k n w false can room lease number c = tt
cleaned k n w true false room lease number c = tt
cleaned k n w true true room lease number c = tt

acted : (setup : Setup) (answers : Answers) (w : World) (e : Event) (n : ℕ) (c : Connection) → LendsIdle setup w → about setup w e ≡ Here n c → numbered w.connections n ≡ Some c → Lends (settles e n w (acts setup answers w e n c))
acted setup answers w event.Lease n c h a i =
    lent (next_number w.leases) n (put_numbered n _ w.connections) _ (put_there w.connections n c _ i) refl (h.lease n c a)
acted setup answers w (event.Resume t) n c h a i =
    lent (next_number w.leases) n (put_numbered n _ w.connections) _ (put_there w.connections n c _ i) refl (h.resume t n c a)
acted setup answers w (event.GiveBack l) n c h a i = back l n w c.standing c
acted setup answers w (event.Keep l) n c h a i = kept l n w (is_idle c) (c.heard == 0 || is_full c.mark) (next_number w.tickets) c
acted setup answers w (event.Abandon t) n c h a i = abandoned t n w c.standing c
acted setup answers w (event.Clean k) n c h a i =
    cleaned k n w (is_free c.standing) (can_clean (setup.packet_size - 8) (next_number w.leases) (next_number w.asked_on) n c) (setup.packet_size - 8) (next_number w.leases) (next_number w.asked_on) c
acted setup answers w (event.Ask l q) n c h a i = asked l n w (is_idle c) (next_number w.asked_on) q c
acted setup answers w (event.Send l) n c h a i = sent l n w (phase c) (setup.packet_size - 8) c.current c
acted setup answers w e n c h a i = tt

found_lends : (setup : Setup) (answers : Answers) (e : Event) (w : World) (f : Found) → LendsIdle setup w → about setup w e ≡ f → FoundWith w (StandsFor e) f → Lends (happens_at setup answers e w f)
found_lends setup answers e w (Missing why) h a s = tt
found_lends setup answers e w (Here n c) h a s = acted setup answers w e n c h a s.0
found_lends setup answers e w (Opens n) h a s =
    let d : Connection = new_connection setup.on_attention (place.Leased (next_number w.leases)) in
    lent (next_number w.leases) n (put_numbered n d w.connections) d (put_last w.connections n d s) refl refl

at_event : (setup : Setup) (answers : Answers) (e : Event) (w : World) → LendsIdle setup w → Agrees w → Lends (happens_at setup answers e w (about setup w e))
at_event setup answers e w h a = found_lends setup answers e w (about setup w e) h refl (about_stands setup w e a)

happens_lends : (setup : Setup) (answers : Answers) (e : Event) (w : World) → LendsIdle setup w → Agrees w → Lends (happens setup answers e w)
happens_lends setup answers e w h a =
    happens_cases setup answers w (λ e r. Lends r)
    tt
    tt
    (λ e. at_event setup answers e w h a) e

each_lends : (setup : Setup) (answers : Answers) (events : List Event) (w : World) → ((later : List Event) → LendsIdle setup (world_after setup answers later w)) → Agrees w → AllByRecursion IsLentIdle (event_reports setup answers events w)
each_lends setup answers [] w h a = tt
each_lends setup answers (e ∷ es) w h a =
    (λ x. happens_lends setup answers e w (h []) a, each_lends setup answers es (happens setup answers e w).1 (λ later. h (e ∷ later)) (happens_agrees setup answers e w a))

pub lends_idle_is_shown : (setup : Setup) (answers : Answers) → Lawful answers → AlwaysShown setup answers ShowsLendsIdle
lends_idle_is_shown setup answers l events = each_lends setup answers events new_world (lends_idle setup answers l) new_agrees
