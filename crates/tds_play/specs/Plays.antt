-- What a play stands for in the model: each connection, the leases and tickets, and the connections of
-- the requests.
use Rattle.std.specs.Prelude.{ℕ, suc, ◌≡◌, List, [], ◌∷◌, map, min, Bool, true, false, is_none, Option, Some, None, if◌then◌else◌}
use Rattle.tds_packet.specs.declared.kind.Direction.TheVariants.{ToServer, ToClient}
use Rattle.tds_session.specs.Answer.{Answers}
use Rattle.tds_play.specs.declared.link.EventDone.{EventDone}
use Rattle.tds_play.specs.declared.link.Link.{Link}
use Rattle.tds_client.specs.Session.{ClientSession, unless_idle}
use Rattle.tds_play.specs.Seats.{Seat, Seated, seated}
use Rattle.tds_play.specs.Between.{RepresentsEnds}
use Rattle.tds_play.specs.Lending.{standing_by}
use Rattle.tds_play.specs.Pipe.{Pipe, is_cut_at, traffic}
use Rattle.tds_play.specs.Requests.{AreOlder, IsNewest}
use Rattle.tds_world.specs.declared.event.Event.{Event}
use Rattle.tds_world.specs.declared.event.Event.TheVariants as event
use Rattle.tds_world.specs.declared.event.Setup.{Setup}
use Rattle.tds_world.specs.declared.outcome.AbandonOutcome.TheVariants as abandoned
use Rattle.tds_world.specs.declared.outcome.GiveBackOutcome.TheVariants as given_back
use Rattle.tds_world.specs.declared.outcome.Outcome.{Outcome}
use Rattle.tds_world.specs.declared.outcome.Outcome.TheVariants as outcome
use Rattle.tds_world.specs.declared.outcome.Refusal.TheVariants.{UnknownConnection, ConnectionCut}
use Rattle.tds_world.specs.Connection.{Connection, Standing, In, Cut, cut, is_idle, up_underway, down_underway}
use Rattle.tds_world.specs.Arrivals.{to_server, to_client}
use Rattle.tds_world.specs.Entries.{up_bytes, down_bytes}
use Rattle.tds_world.specs.Events.{acts}
use Rattle.tds_world.specs.Lane.{sent_bytes, come_bytes}
use Rattle.tds_world.specs.Losses.{Loss, came_in, loss_by}
use Rattle.tds_world.specs.Caller.{cancels}
use Rattle.tds_world.specs.Pool.{Acted, Refuses, Does, comes_back, place_back, returned_as}
use Rattle.tds_world.specs.World.{World, Holding}

-- ---- A connection

-- A connection that isn't cut: both ends, with this engine and this greatest size of packets.
pub record RepresentsLive {E S : Type 0} (size : ℕ) (engine : E) (link : Link E S) (seat : Seat)
    (pipe : Option Pipe) (c : Connection) : Type 0 where
  pub stands : RepresentsEnds link seat pipe c
  pub engine_is : link.server.engine ≡ engine
  pub size_is : seat.client.size ≡ size
  pub server_reads : link.server_reader.direction ≡ ToServer
  pub server_size : link.server_reader.size ≡ size
  pub client_reads : link.client_reader.direction ≡ ToClient
  pub client_size : link.client_reader.size ≡ size

-- The connection of this number, in its seat, and the model's. One that is cut was cut at the carrier; that no other
-- one was is a part of `IsTied`.
pub record RepresentsConnection {E S : Type 0} (number size : ℕ) (engine : E) (link : Link E S) (seat : Seat)
    (pipe : Option Pipe) (c : Connection) : Type 0 where
  pub numbered : link.number ≡ number
  pub standing : standing_by link.is_cut seat.place ≡ c.standing
  pub older : AreOlder number link.is_cut link.past.items c.past
  pub newest : IsNewest number link.is_cut link.current c.current
  pub to_server : (traffic pipe ToServer).handed ≡ sent_bytes up_bytes c.to_server
  pub to_client : (traffic pipe ToClient).handed ≡ sent_bytes down_bytes c.to_client
  pub came_up : (traffic pipe ToServer).came ≡ come_bytes up_bytes c.to_server
  pub came_down : (traffic pipe ToClient).came ≡ come_bytes down_bytes c.to_client
  pub lives : link.is_cut ≡ false → RepresentsLive size engine link seat pipe c
  pub gone : link.is_cut ≡ true → is_cut_at pipe ≡ true

-- ---- An event on it

-- What an event comes to whose connection is cut.
abbrev pub on_cut : Event → Connection → Acted
on_cut (event.GiveBack lease) c = Does (outcome.GivenBack given_back.Closed) c
on_cut (event.Abandon ticket) c = Does (outcome.Abandoned abandoned.Closed) c
on_cut (event.Clean n) c = Refuses UnknownConnection
on_cut (event.Work n) c = Refuses UnknownConnection
on_cut (event.ToServer n count) c = Refuses UnknownConnection
on_cut (event.ToClient n count) c = Refuses UnknownConnection
on_cut (event.Cut n) c = Refuses UnknownConnection
on_cut e c = Refuses ConnectionCut

-- What an event does to a connection, of this number, that may be cut.
abbrev pub acts_at : Standing → Setup → Answers → World → Event → ℕ → Connection → Acted
acts_at (In place) setup answers w e n c = acts setup answers w e n c
acts_at Cut setup answers w e n c = on_cut e c

abbrev pub acts_on : Setup → Answers → World → Event → ℕ → Connection → Acted
acts_on setup answers w e n c = acts_at c.standing setup answers w e n c

-- The outcome of it, and the connection then.
abbrev pub outcome_of : Acted → Outcome
outcome_of (Refuses why) = outcome.Refused why
outcome_of (Does what d) = what

abbrev pub after : Acted → Connection → Connection
after (Refuses why) c = c
after (Does what d) c = d

-- A connection, cut where the carrier failed.
abbrev pub cut_where : Bool → Connection → Connection
cut_where true c = cut c
cut_where false c = c

-- What an event came to on its connection is what the model's act comes to, and the connection is the
-- model's then; where the carrier failed, it is cut in both.
pub record RefinesAct {E S : Type 0} (number size : ℕ) (engine : E) (done : EventDone) (link : Link E S)
    (seat : Seat) (pipe : Option Pipe) (acted : Acted) (c : Connection) : Type 0 where
  pub outcome : done.outcome ≡ outcome_of acted
  pub played : RepresentsConnection number size engine link seat pipe (cut_where done.lost (after acted c))

-- What was underway on a connection is cancelled, and its lease ended: it stands for what comes back, idle
-- where its client is.
pub record ComesBack {E S : Type 0} (number size : ℕ) (engine : E) (link : Link E S) (client : ClientSession)
    (pipe : Option Pipe) (c : Connection) : Type 0 where
  pub idle : is_none (unless_idle client.stage) ≡ is_idle (cancels c)
  pub outcome : outcome.GivenBack (returned_as (is_none (unless_idle client.stage))) ≡ outcome_of (comes_back (cancels c))
  pub played : RepresentsConnection number size engine link
      (seated (place_back (is_none (unless_idle client.stage))) client) pipe (after (comes_back (cancels c)) c)

-- A delivery, each way, of so many bytes at most.
abbrev pub delivers_up : Answers → ℕ → Connection → Acted
delivers_up answers count c = Does (outcome.ToServer (min count (up_underway c))) (to_server answers count c)

abbrev pub delivers_down : ℕ → Connection → Acted
delivers_down count c = Does (outcome.ToClient (min count (down_underway c))) (to_client count c)

-- So many bytes a delivery was met to bring: where the carrier failed, those that had come.
abbrev pub count_by : Bool → Outcome → ℕ → ℕ
count_by true o count = came_in o
count_by false o count = count

abbrev pub count_of : EventDone → ℕ → ℕ
count_of done count = count_by done.lost done.outcome count

-- What an event lost: nothing, or what came before the carrier failed.
abbrev pub loss_of : EventDone → Loss
loss_of done = loss_by done.lost done.outcome

-- Which events may be lost on a connection that is cut or isn't: those that hand bytes over or bring
-- some. A lease is lost only where it opens a connection.
abbrev pub MayLose : Bool → Event → Type 0
MayLose true e = ⊥
MayLose false (event.GiveBack lease) = Unit {0}
MayLose false (event.Clean n) = Unit {0}
MayLose false (event.Send lease) = Unit {0}
MayLose false (event.Cancel lease) = Unit {0}
MayLose false (event.Work n) = Unit {0}
MayLose false (event.ToServer n count) = Unit {0}
MayLose false (event.ToClient n count) = Unit {0}
MayLose false e = ⊥

-- A connection that is lent is idle, and so is one that was kept. A restart is about all connections, and about
-- none alone.
abbrev pub IsReady : Event → Connection → Type 0
IsReady event.Lease c = is_idle c ≡ true
IsReady (event.Resume ticket) c = is_idle c ≡ true
IsReady (event.Abandon ticket) c = is_idle c ≡ true
IsReady event.RestartServer c = ⊥
IsReady event.RestartClient c = ⊥
IsReady e c = Unit {0}

-- ---- All of them

-- The connections, of which the first has this number.
abbrev pub RepresentConnections : {E S : Type 0} → ℕ → ℕ → E → List (Seated E S) → (ℕ → Option Pipe)
    → List Connection → Type 0
RepresentConnections number size engine [] pipes [] = Unit {0}
RepresentConnections number size engine [] pipes (c ∷ cs) = ⊥
RepresentConnections number size engine (x ∷ xs) pipes [] = ⊥
RepresentConnections number size engine (x ∷ xs) pipes (c ∷ cs) =
    RepresentsConnection number size engine x.link x.seat (pipes number) c
    × RepresentConnections (suc number) size engine xs pipes cs

-- Leases or tickets: the connection of each that has not ended.
abbrev pub held_by : Holding → Option ℕ
held_by h = if h.over then None else Some h.conn

abbrev pub holdings_of : List Holding → List (Option ℕ)
holdings_of hs = map held_by hs
