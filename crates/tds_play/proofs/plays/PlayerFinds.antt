-- A play finds the connection of an event where its world does, and is cut as its world is.
use Rattle.std.proofs.Common.{◌≡◌, ◌∙◌, ℕ, suc, List, map, Option, Some, refl, sym, ap, subst}
use Rattle.tds_session.specs.Answer.{Answers}
use Rattle.tds_world.specs.declared.event.Event.{Event}
use Rattle.tds_world.specs.declared.event.Event.TheVariants as event
use Rattle.tds_world.specs.declared.event.Setup.{Setup}
use Rattle.tds_world.specs.declared.outcome.Outcome.{Outcome}
use Rattle.tds_world.specs.declared.outcome.Outcome.TheVariants as outcome
use Rattle.tds_world.specs.declared.outcome.Refusal.{Refusal}
use Rattle.tds_world.specs.Connection.{Connection, Standing, cut, is_cut}
use Rattle.tds_world.specs.Events.{happens, settles}
use Rattle.tds_world.specs.Lending.{LendsIdle}
use Rattle.tds_world.specs.Losses.{Loss, Nothing, Failed, bringing, met}
use Rattle.tds_world.specs.World.{World}
use Rattle.tds_play.specs.declared.link.EventDone.{EventDone}
use Rattle.tds_play.specs.declared.player.Player.{Player}
use Rattle.tds_play.specs.Lending.{Found, Here, standing_of}
use Rattle.tds_play.specs.Holdings.{all_ended}
use Rattle.tds_play.specs.Noted.{about_of}
use Rattle.tds_play.specs.Pipe.{Pipe}
use Rattle.tds_play.specs.Player.{RefinesEvent, IsFound, RepresentsWorld, all_of}
use Rattle.tds_play.specs.Pooled.{numbers_kept, numbers_leased}
use Rattle.tds_play.specs.Steps.{HoldsAs, HoldsBy, SameSetup}
use Rattle.tds_play.specs.Plays.{RepresentConnections, acts_on, holdings_of}
use Rattle.tds_play.specs.Seen.{done_as}
use Rattle.tds_play.proofs.AllPlayed.{same_standings}
use Rattle.tds_play.proofs.Found.{HappensBy, IsAboutOne, Settles, happens_found, link_found}
use Rattle.tds_play.proofs.Held.{all_held}
use Rattle.tds_play.proofs.Lent.{lends_alike}

-- What the player's lists say of it and what the world's do.
about_world : {E S : Type 0} (setup : Setup) (engine : E) (w : World) (e : Event) (player : Player E S) (pipes : ℕ → Option Pipe) → RepresentsWorld setup engine player pipes w
    → about_of e (map standing_of (all_of player)) player.max (numbers_leased player.leases) (numbers_kept player.tickets) ≡ about_of e (map (λ c. c.standing) w.connections) setup.max (holdings_of w.leases) (holdings_of w.tickets)
about_world setup engine w e player pipes is =
    let standings : map standing_of (all_of player) ≡ map (λ c. c.standing) w.connections = same_standings 1 setup.packet_size engine (all_of player) pipes w.connections is.connections in
    ap (λ (ss : List Standing). about_of e ss player.max (numbers_leased player.leases) (numbers_kept player.tickets)) standings
    ∙ ap (λ (max : ℕ). about_of e (map (λ c. c.standing) w.connections) max (numbers_leased player.leases) (numbers_kept player.tickets)) is.max
    ∙ ap (λ (leases : List (Option ℕ)). about_of e (map (λ c. c.standing) w.connections) setup.max leases (numbers_kept player.tickets)) is.leases
    ∙ ap (λ (tickets : List (Option ℕ)). about_of e (map (λ c. c.standing) w.connections) setup.max (holdings_of w.leases) tickets) is.tickets

-- What the model makes of an event, by what the player found.
pub found_alike : {E S : Type 0} (setup : Setup) (engine : E) (answers : Answers) (w : World) (e : Event) (player : Player E S) (pipes : ℕ → Option Pipe) (f : Found) → RepresentsWorld setup engine player pipes w → LendsIdle setup w → IsAboutOne e → f ≡ about_of e (map standing_of (all_of player)) player.max (numbers_leased player.leases) (numbers_kept player.tickets) → HappensBy setup answers w e f (happens setup answers e w)
found_alike setup engine answers w e player pipes f is idle one found =
    let same : f ≡ about_of e (map (λ c. c.standing) w.connections) setup.max (holdings_of w.leases) (holdings_of w.tickets) =
    found ∙ about_world setup engine w e player pipes is in
    subst (λ (g : Found). HappensBy setup answers w e g (happens setup answers e w)) (sym same)
    (happens_found setup answers w e (lends_alike setup w) idle one)

-- An event that is refused before it comes to a connection.
pub missing_alike : {E S : Type 0} (setup : Setup) (engine : E) (answers : Answers) (w : World) (e : Event) (player : Player E S) (pipes : ℕ → Option Pipe) (done : EventDone) (why : Refusal)
    → RepresentsWorld setup engine player pipes w → done ≡ done_as (outcome.Refused why) → happens setup answers e w ≡ (outcome.Refused why, w)
    → RefinesEvent setup engine answers done player pipes e w
missing_alike setup engine answers w e player pipes done why is refused same =
    subst (λ (d : EventDone). RefinesEvent setup engine answers d player pipes e w) (sym refused) (record {
      outcome = ap (λ (next : Outcome × World). next.0) (sym same);
      then = subst (RepresentsWorld setup engine player pipes) (ap (λ (next : Outcome × World). next.1) (sym same)) is;
    })

-- The server is restarted: every connection is cut.
pub server_restarts : {E S : Type 0} (setup : Setup) (engine : E) (answers : Answers) (w : World) (player new : Player E S) (pipes pipes' : ℕ → Option Pipe) → RepresentsWorld setup engine player pipes w → RepresentConnections 1 setup.packet_size engine (all_of new) pipes' (map cut w.connections) → SameSetup player new → HoldsAs player new → RefinesEvent setup engine answers (done_as outcome.RestartedServer) new pipes' event.RestartServer w
server_restarts setup engine answers w player new pipes pipes' is all kept holds = record {
  outcome = refl;
  then = record {
    connections = all;
    leases = holds.leases_are ∙ is.leases;
    tickets = holds.tickets_are ∙ is.tickets;
    asked = holds.asked_are ∙ is.asked;
    engine_is = kept.engine_is ∙ is.engine_is;
    max = kept.max_is ∙ is.max;
    size = kept.size_is ∙ is.size;
    told = kept.told_is ∙ is.told;
  };
}

-- The client is restarted: every lease and ticket ends too.
pub client_restarts : {E S : Type 0} (setup : Setup) (engine : E) (answers : Answers) (w : World) (player new : Player E S) (pipes pipes' : ℕ → Option Pipe) → RepresentsWorld setup engine player pipes w → RepresentConnections 1 setup.packet_size engine (all_of new) pipes' (map cut w.connections) → SameSetup player new → HoldsBy new (all_ended (numbers_leased player.leases)) (all_ended (numbers_kept player.tickets)) player.asked_on.items → RefinesEvent setup engine answers (done_as outcome.RestartedClient) new pipes' event.RestartClient w
client_restarts setup engine answers w player new pipes pipes' is all kept holds = record {
  outcome = refl;
  then = record {
    connections = all;
    leases = holds.leases_are ∙ ap all_ended is.leases ∙ all_held w.leases;
    tickets = holds.tickets_are ∙ ap all_ended is.tickets ∙ all_held w.tickets;
    asked = holds.asked_are ∙ is.asked;
    engine_is = kept.engine_is ∙ is.engine_is;
    max = kept.max_is ∙ is.max;
    size = kept.size_is ∙ is.size;
    told = kept.told_is ∙ is.told;
  };
}

-- ---- A delivery of other bytes

some_one : {A : Type 0} (x y : A) → Some x ≡ Some y → x ≡ y
some_one x y e = cc

-- It is about the same connection.
about_bringing : (k : ℕ) (e : Event) (standings : List Standing) (max : ℕ) (leases tickets : List (Option ℕ)) → about_of (bringing k e) standings max leases tickets ≡ about_of e standings max leases tickets
about_bringing k event.Lease standings max leases tickets = refl
about_bringing k e standings max leases tickets = refl

one_bringing : (k : ℕ) (e : Event) → IsAboutOne e → IsAboutOne (bringing k e)
one_bringing k event.Lease one = one
one_bringing k e one = one

about_met : (l : Loss) (e : Event) (standings : List Standing) (max : ℕ) (leases tickets : List (Option ℕ)) → about_of (met l e) standings max leases tickets ≡ about_of e standings max leases tickets
about_met Nothing e standings max leases tickets = refl
about_met (Failed k) e standings max leases tickets = about_bringing k e standings max leases tickets

one_met : (l : Loss) (e : Event) → IsAboutOne e → IsAboutOne (met l e)
one_met Nothing e one = one
one_met (Failed k) e one = one_bringing k e one

-- ---- An event on the connection that the player found

-- The connection of the model, and what an event does there, whatever it loses.
pub record FoundHere (setup : Setup) (answers : Answers) (w : World) (e : Event) (place : ℕ) : Type 0 where
  pub connection : Connection
  pub is : IsFound setup answers w e place connection

pub found_here : {E S : Type 0} (setup : Setup) (engine : E) (answers : Answers) (w : World) (e : Event) (player : Player E S) (pipes : ℕ → Option Pipe) (place : ℕ)
    → RepresentsWorld setup engine player pipes w → LendsIdle setup w → IsAboutOne e
    → Here place ≡ about_of e (map standing_of (all_of player)) player.max (numbers_leased player.leases) (numbers_kept player.tickets)
    → FoundHere setup answers w e place
found_here setup engine answers w e player pipes place is idle one found =
    let by : (l : Loss) → Settles setup answers w (met l e) place (happens setup answers (met l e) w) = (λ l.
    found_alike setup engine answers w (met l e) player pipes (Here place) is idle (one_met l e one)
    (found ∙ sym (about_met l e (map standing_of (all_of player)) player.max (numbers_leased player.leases) (numbers_kept player.tickets)))) in
    let here : Settles setup answers w e place (happens setup answers e w) = by Nothing in
    let c : Connection = here.connection in
    record {
      connection = c;
      is = record {
        there = here.there;
        settles = λ l.
            (by l).settles
            ∙ ap (λ (d : Connection). settles (met l e) (suc place) w (acts_on setup answers w (met l e) (suc place) d)) (some_one (by l).connection c (sym (by l).there ∙ here.there));
        link = link_found setup w e place c (found ∙ about_world setup engine w e player pipes is) here.there (is_cut c.standing) refl;
        ready = here.ready;
      };
    }
