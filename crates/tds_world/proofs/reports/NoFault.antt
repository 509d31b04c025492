-- No event comes to a fault.
use Rattle.std.proofs.Common.{ℕ, List, [], ◌∷◌, Bool, true, false, ◌-◌, refl, Option, None}
use Rattle.std.specs.List.{AllByRecursion}
use Rattle.std.specs.Prelude.{◌==◌, ◌||◌}
use Rattle.tds_request.specs.declared.request.Request.{Request}
use Rattle.tds_session.specs.Answer.{Answers}
use Rattle.tds_world.specs.declared.event.Event.{Event}
use Rattle.tds_world.specs.declared.event.Event.TheVariants as event
use Rattle.tds_world.specs.declared.event.Setup.{Setup}
use Rattle.tds_world.specs.Cleaning.{can_clean}
use Rattle.tds_world.specs.Connection.{Connection, phase, is_idle, Standing, In, Cut}
use Rattle.tds_world.specs.Events.{about, acts, asks_by, cleans_by, sends_in, settles, happens_at, happens}
use Rattle.tds_world.specs.Observed.{event_reports}
use Rattle.tds_world.specs.Phase.{Phase, Asked, Sending}
use Rattle.tds_world.specs.Pool.{Acted, Refuses, Does, is_free, gives_back_at, abandons_at, keeps_by, is_full}
use Rattle.tds_world.specs.Record.{Record}
use Rattle.tds_world.specs.Reports.{AlwaysShown, IsNoFault, IsWithoutFault, ShowsNoFault}
use Rattle.tds_world.specs.World.{World, Found, Missing, Here, Opens, new_world, next_number}
use Rattle.tds_world.proofs.events.Happens.{happens_cases}

-- It is refused, or its outcome is no fault.
abbrev Fine : Acted → Type 0
Fine (Refuses why) = Unit {0}
Fine (Does what c) = IsNoFault what

back : (s : Standing) (c : Connection) → Fine (gives_back_at s c)
back (In p) c = tt
back Cut c = tt

abandoned : (s : Standing) (c : Connection) → Fine (abandons_at s c)
abandoned (In p) c = tt
abandoned Cut c = tt

kept : (idle nothing : Bool) (ticket : ℕ) (c : Connection) → Fine (keeps_by idle nothing ticket c)
kept false nothing ticket c = tt
kept true true ticket c = tt
kept true false ticket c = tt

asked : (b : Bool) (number lease n : ℕ) (q : Request) (c : Connection) → Fine (asks_by b number lease n q c)
asked true number lease n q c = tt
asked false number lease n q c = tt

sent : (p : Phase) (room : ℕ) (current : Option Record) (c : Connection) → Fine (sends_in p room current c)
sent Asked room None c = tt
sent Sending room None c = tt
sent p room current c = tt

cleaned : (free can : Bool) (room lease number n : ℕ) (c : Connection) → Fine (cleans_by free can room lease number n c)
cleaned false can room lease number n c = tt
cleaned true false room lease number n c = tt
cleaned true true room lease number n c = tt

acted : (setup : Setup) (answers : Answers) (w : World) (e : Event) (n : ℕ) (c : Connection) → Fine (acts setup answers w e n c)
acted setup answers w (event.GiveBack l) n c = back c.standing c
acted setup answers w (event.Keep l) n c = kept (is_idle c) (c.heard == 0 || is_full c.mark) (next_number w.tickets) c
acted setup answers w (event.Abandon t) n c = abandoned c.standing c
acted setup answers w (event.Clean k) n c =
    cleaned (is_free c.standing) (can_clean (setup.packet_size - 8) (next_number w.leases) (next_number w.asked_on) n c) (setup.packet_size - 8) (next_number w.leases) (next_number w.asked_on) n c
acted setup answers w (event.Ask l q) n c = asked (is_idle c) (next_number w.asked_on) l n q c
acted setup answers w (event.Send l) n c = sent (phase c) (setup.packet_size - 8) c.current c
acted setup answers w e n c = tt

settled : (e : Event) (n : ℕ) (w : World) (a : Acted) → Fine a → IsNoFault (settles e n w a).0
settled e n w (Refuses why) h = tt
settled e n w (Does what c) h = h

at_found : (setup : Setup) (answers : Answers) (e : Event) (w : World) (f : Found) → IsNoFault (happens_at setup answers e w f).0
at_found setup answers e w (Missing why) = tt
at_found setup answers e w (Here n c) = settled e n w (acts setup answers w e n c) (acted setup answers w e n c)
at_found setup answers e w (Opens n) = tt

happens_fine : (setup : Setup) (answers : Answers) (e : Event) (w : World) → IsNoFault (happens setup answers e w).0
happens_fine setup answers e w =
    happens_cases setup answers w (λ e r. IsNoFault r.0)
    tt
    tt
    (λ e. at_found setup answers e w (about setup w e)) e

each_fine : (setup : Setup) (answers : Answers) (events : List Event) (w : World) → AllByRecursion IsWithoutFault (event_reports setup answers events w)
each_fine setup answers [] w = tt
each_fine setup answers (e ∷ es) w =
    (record { outcome = happens_fine setup answers e w; lost = refl }, each_fine setup answers es (happens setup answers e w).1)

pub no_fault : (setup : Setup) (answers : Answers) → AlwaysShown setup answers ShowsNoFault
no_fault setup answers events = each_fine setup answers events new_world
