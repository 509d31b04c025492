-- What the whole player stands for in the model, and what the model promises of a world.
use Rattle.std.specs.Prelude.{ℕ, suc, ◌≡◌, ◌<◌, List, length, false, Option, Some, slice_get}
use Rattle.tds_session.specs.Answer.{Answers}
use Rattle.tds_world.specs.declared.event.Event.{Event}
use Rattle.tds_world.specs.declared.event.Setup.{Setup}
use Rattle.tds_world.specs.Connection.{Connection, is_cut}
use Rattle.tds_world.specs.Events.{happens, settles}
use Rattle.tds_world.specs.Laws.{OfEachConnection}
use Rattle.tds_world.specs.Lending.{LendsIdle}
use Rattle.tds_world.specs.Losses.{Loss, link_of, met, world_then}
use Rattle.tds_world.specs.World.{World}
use Rattle.tds_play.specs.declared.link.EventDone.{EventDone}
use Rattle.tds_play.specs.declared.player.Player.{Player}
use Rattle.tds_play.specs.Pipe.{Pipe}
use Rattle.tds_play.specs.Pooled.{AreKnown, ArePooled, all_in, numbers_kept, numbers_leased}
use Rattle.tds_play.specs.Seats.{Seated}
use Rattle.tds_pool.specs.Connections.{connections}
use Rattle.tds_play.specs.Plays.{RepresentConnections, IsReady, MayLose, acts_on, holdings_of, loss_of}
use Rattle.tds_ends.specs.ModelGives.{ModelGives}

-- The connections of a player, each in the seat that its pool has for it.
abbrev pub all_of : {E S : Type 0} → Player E S → List (Seated E S)
all_of player = all_in player.links.items player.pool

-- What holds of every player: its pool has the connections that aren't cut, and its leases and tickets stand for
-- connections of it.
pub record AreHeld {E S : Type 0} (player : Player E S) : Type 0 where
  pub pooled : ArePooled player.max player.size player.links.items player.pool
  pub known : AreKnown player.leases player.tickets player.links.items (connections player.pool)

-- The player and the world: the connections, leases, tickets and requests are the world's.
pub record RepresentsWorld {E S : Type 0} (setup : Setup) (engine : E) (player : Player E S) (pipes : ℕ → Option Pipe)
    (w : World) : Type 0 where
  pub connections : RepresentConnections 1 setup.packet_size engine (all_of player) pipes w.connections
  pub leases : numbers_leased player.leases ≡ holdings_of w.leases
  pub tickets : numbers_kept player.tickets ≡ holdings_of w.tickets
  pub asked : player.asked_on.items ≡ w.asked_on
  pub engine_is : player.engine ≡ engine
  pub max : player.max ≡ setup.max
  pub told : player.on_attention ≡ setup.on_attention
  pub size : player.size ≡ setup.packet_size

-- In this world an event, whatever it loses, settles on the connection at this place, whose link it uses
-- where it may be lost.
pub record IsFound (setup : Setup) (answers : Answers) (w : World) (e : Event) (place : ℕ) (c : Connection)
    : Type 0 where
  pub there : slice_get w.connections place ≡ Some c
  pub settles : (l : Loss) → happens setup answers (met l e) w
      ≡ settles (met l e) (suc place) w (acts_on setup answers w (met l e) (suc place) c)
  pub link : MayLose (is_cut c.standing) e → link_of setup w e ≡ Some (suc place)
  pub ready : is_cut c.standing ≡ false → IsReady e c

-- An event, as it was met, came to in the play what it came to in the model, and the player is the
-- world after it and after the cut where it was lost.
pub record RefinesEvent {E S : Type 0} (setup : Setup) (engine : E) (answers : Answers) (done : EventDone)
    (player : Player E S) (pipes : ℕ → Option Pipe) (e : Event) (w : World) : Type 0 where
  pub outcome : done.outcome ≡ (happens setup answers (met (loss_of done) e) w).0
  pub then : RepresentsWorld setup engine player pipes
      (world_then setup answers w (record { event = e; loss = loss_of done }))

-- There are so few of each that their numbers fit.
pub record IsSmall (w : World) : Type 0 where
  pub connections : length w.connections < 20000
  pub leases : length w.leases < 20000
  pub tickets : length w.tickets < 20000
  pub asked : length w.asked_on < 20000

-- What the model promises of a world before an event.
pub record ModelGivesEach (E : Type 0) (answers : Answers) (setup : Setup) (w : World) : Type 0 where
  pub each : OfEachConnection (ModelGives E answers setup.packet_size) w
  pub idle : LendsIdle setup w
  pub small : IsSmall w
