-- An event on one connection of a player: what it made of that connection, of the leases, tickets and requests,
-- and of nothing else.
use Rattle.std.specs.Prelude.{ℕ, suc, ◌≡◌, ◌<◌, ◌≤◌, List, [], ◌∷◌, ◌++◌, length, true, false, Option, Some, None, slice_get, slice_set}
use Rattle.tds_client.specs.Session.{new_session}
use Rattle.tds_packet.specs.declared.kind.Direction.{Direction}
use Rattle.tds_session.specs.Answer.{Answers}
use Rattle.tds_ends.specs.ModelGives.{IsCountable, ModelGives}
use Rattle.tds_world.specs.declared.event.Event.{Event}
use Rattle.tds_world.specs.declared.event.Setup.{Setup}
use Rattle.tds_world.specs.declared.outcome.Opened.TheVariants as opened
use Rattle.tds_world.specs.declared.outcome.Outcome.{Outcome}
use Rattle.tds_world.specs.declared.outcome.Outcome.TheVariants as outcome
use Rattle.tds_world.specs.declared.outcome.Refusal.{Refusal}
use Rattle.tds_world.specs.declared.report.Place.TheVariants.{Leased}
use Rattle.tds_world.specs.Connection.{Connection, new_connection}
use Rattle.tds_world.specs.Losses.{bringing, marked, met, world_with}
use Rattle.tds_world.specs.Observed.{request_reports}
use Rattle.tds_world.specs.Order.{RequestsInOrder}
use Rattle.tds_world.specs.World.{World, new_world}
use Rattle.tds_world.specs.declared.report.EventReport.{EventReport}
use Rattle.tds_world.specs.declared.report.RequestReport.{RequestReport}
use Rattle.tds_play.specs.declared.link.EventDone.{EventDone}
use Rattle.tds_play.specs.declared.link.Link.{Link}
use Rattle.tds_play.specs.declared.player.Player.{Player}
use Rattle.tds_play.specs.declared.seat.Held.{Held}
use Rattle.tds_play.specs.Failures.{Fails, FailsAs, FailsNoMore, HasNoFailure, LiveAreSound, Open, calls_of}
use Rattle.tds_play.specs.Noted.{asked_after, leases_after, tickets_after}
use Rattle.tds_play.specs.Pipe.{AreFaithfulTo, AreSameBeyond, BegunEvent, IsFaithful, Pipe, traffic}
use Rattle.tds_play.specs.Player.{AreHeld, ModelGivesEach, RepresentsWorld, all_of}
use Rattle.tds_play.specs.Plays.{IsReady, MayLose, RefinesAct, RepresentsConnection, acts_on, after, cut_where, loss_of}
use Rattle.tds_play.specs.Pooled.{IsGone, numbers_kept, numbers_leased, seat_in}
use Rattle.tds_play.specs.Reads.{AllRead, Answers as Answered, IsReading, ReadsOn}
use Rattle.tds_play.specs.Seats.{seated}
use Rattle.tds_play.specs.Ties.{AreTied, KeepsTies, OpensTies}
use Rattle.tds_play.specs.WholePlay.{IsReportOfPlay}

-- ---- What isn't of one connection

-- What a player is made with.
pub record SameSetup {E S : Type 0} (old new : Player E S) : Type 0 where
  pub engine_is : new.engine ≡ old.engine
  pub max_is : new.max ≡ old.max
  pub size_is : new.size ≡ old.size
  pub told_is : new.on_attention ≡ old.on_attention

-- It has at most so many connections, leases and tickets.
pub record AreFew {E S : Type 0} (most : ℕ) (player : Player E S) : Type 0 where
  pub links_few : length player.links.items ≤ most
  pub leases_few : length player.leases ≤ most
  pub tickets_few : length player.tickets ≤ most

-- One more of each at most.
abbrev pub GrowsByOne : {E S : Type 0} → Player E S → Player E S → Type 0
GrowsByOne old new = (most : ℕ) → AreFew most old → AreFew (suc most) new

-- Its leases, tickets and requests by the numbers of their connections are these.
pub record HoldsBy {E S : Type 0} (player : Player E S) (leases tickets : List (Option ℕ)) (asked : List ℕ)
    : Type 0 where
  pub leases_are : numbers_leased player.leases ≡ leases
  pub tickets_are : numbers_kept player.tickets ≡ tickets
  pub asked_are : player.asked_on.items ≡ asked

-- Those that were there, as they were.
abbrev pub HoldsAs : {E S : Type 0} → Player E S → Player E S → Type 0
HoldsAs old new =
    HoldsBy new (numbers_leased old.leases) (numbers_kept old.tickets) old.asked_on.items

-- Behind an event on the connection of this number.
abbrev pub HoldsBehind : {E S : Type 0} → Event → ℕ → Player E S → Player E S → Type 0
HoldsBehind e conn old new =
    HoldsBy new (leases_after e conn (numbers_leased old.leases)) (tickets_after e conn (numbers_kept old.tickets))
    (asked_after e conn old.asked_on.items)

-- An event that was refused is not noted, and one that applied is.
pub record IsNoted {E S : Type 0} (e : Event) (conn : ℕ) (old new : Player E S) (o : Outcome) : Type 0 where
  pub refused : (why : Refusal) → o ≡ outcome.Refused why → HoldsAs old new
  pub applied : ((why : Refusal) → o ≡ outcome.Refused why → ⊥) → HoldsBehind e conn old new

-- ---- The connection

-- What an event came to on the connection at a place, over a carrier that was told of these events, and is of
-- no other one. The connection was the one, and is the other.
pub record StepsAt {E S : Type 0} (answers : E → Answers) (e : Event) (place : ℕ) (old new : Player E S)
    (pipes pipes' : ℕ → Option Pipe) (told still : List BegunEvent) (done : EventDone) : Type 0 where
  pub was : Held E S
  pub now : Held E S
  pub at : slice_get old.links.items place ≡ Some was
  pub number : was.link.number ≡ suc place
  pub links : new.links.items ≡ slice_set old.links.items place now
  pub all : all_of new ≡ slice_set (all_of old) place (record { link = now.link; seat = seat_in now new.pool })
  pub held : AreHeld new
  pub same_number : now.link.number ≡ was.link.number
  pub ties : KeepsTies was.link.number now.link pipes pipes' told still
  pub failed : HasNoFailure (pipes was.link.number)
      → FailsAs (calls_of e) done now.link (pipes' was.link.number)
  pub gone : was.link.is_cut ≡ true → (pipes' ≡ pipes) × (now.link ≡ was.link) × (done.lost ≡ false)
  pub loses : done.lost ≡ true → MayLose was.link.is_cut e
  pub reads : (size : ℕ)
      → IsReading size was.link (seat_in was old.pool).client.columns (pipes was.link.number)
      → ReadsOn size e done.outcome now.link (seat_in now new.pool).client.columns (pipes was.link.number)
      (pipes' was.link.number)
  pub setup : SameSetup old new
  pub grows : GrowsByOne old new
  pub noted : IsNoted e (suc place) old new done.outcome
  pub refines : (setup : Setup) (engine : E) (w : World) (c : Connection)
      → IsFaithful (pipes' was.link.number)
      → RepresentsWorld setup engine old pipes w → ModelGivesEach E (answers engine) setup w
      → ModelGives E (answers engine) setup.packet_size c
      → RepresentsConnection was.link.number setup.packet_size engine was.link (seat_in was old.pool)
      (pipes was.link.number) c
      → (was.link.is_cut ≡ false → IsReady e c)
      → ((k : ℕ) → IsCountable (after (acts_on setup (answers engine) w (bringing k e) was.link.number c) c))
      → RefinesAct was.link.number setup.packet_size engine done now.link (seat_in now new.pool)
      (pipes' was.link.number) (acts_on setup (answers engine) w (met (loss_of done) e) was.link.number c) c

-- ---- A connection that is lent, opened or cut

-- The connection of this number is lent again: its holder is this lease.
pub record ReusesAs {E S : Type 0} (conn lease : ℕ) (old new : Player E S) : Type 0 where
  pub place : ℕ
  pub conn_is : conn ≡ suc place
  pub was : Held E S
  pub at : slice_get old.links.items place ≡ Some was
  pub links : new.links.items ≡ slice_set old.links.items place (record was { holder = lease })
  pub rest : new ≡ record old { links = new.links }

-- A connection of this number was opened, which the pool has, and whose holder is this lease. Where the carrier
-- failed, the pool has lost it.
pub record OpensAs {E S : Type 0} (conn lease : ℕ) (old new : Player E S) (pipes pipes' : ℕ → Option Pipe)
    (told still : List BegunEvent) (done : EventDone) : Type 0 where
  pub link : Link E S
  pub links : new.links.items ≡ old.links.items ++ record { link = link; holder = lease } ∷ []
  pub rest : new ≡ record old { links = new.links; pool = new.pool }
  pub live : done.lost ≡ false → new.pool ≡ old.pool
  pub gone : done.lost ≡ true → IsGone conn old.pool new.pool
  pub outcome : done.outcome ≡ outcome.Leased lease conn opened.New
  pub number : link.number ≡ conn
  pub uncut : link.is_cut ≡ done.lost
  pub ties : OpensTies conn link pipes pipes' told still
  pub failed : Fails (Open ∷ []) done.lost (pipes' conn)
  pub reading : IsReading old.size link None (pipes' conn)
  pub nothing : (d : Direction) → (traffic (pipes' conn) d).came ≡ []
  pub played : RepresentsConnection conn old.size old.engine link
      (seated (Leased lease) (new_session old.size)) (pipes' conn)
      (cut_where done.lost (new_connection old.on_attention (Leased lease)))

-- Connections were cut, over a carrier that was told of these events, and is of no other one: what each cut
-- keeps.
pub record CutsSome {E S : Type 0} (old new : Player E S) (pipes pipes' : ℕ → Option Pipe) (told still : List BegunEvent)
    : Type 0 where
  pub tied : AreTied (all_of new) pipes'
  pub held : AreHeld new
  pub count : length new.links.items ≡ length old.links.items
  pub rest : new ≡ record old { links = new.links; pool = new.pool }
  pub begun : still ≡ told
  pub others : AreSameBeyond (length new.links.items) pipes pipes'
  pub faithful : (count : ℕ) → AreFaithfulTo count pipes' → AreFaithfulTo count pipes
  pub sound : LiveAreSound (all_of old) pipes → LiveAreSound (all_of new) pipes'
  pub reads : (size : ℕ) (so_far : Answered) → AllRead size (all_of old) pipes so_far
      → AllRead size (all_of new) pipes' so_far
  pub failed : (n : ℕ) → FailsNoMore (pipes n) (pipes' n)

-- The connection at a place is cut, and its pool has it no longer.
pub record CutsAt {E S : Type 0} (place : ℕ) (old new : Player E S) : Type 0 where
  pub was : Held E S
  pub now : Held E S
  pub at : slice_get old.links.items place ≡ Some was
  pub links : new.links.items ≡ slice_set old.links.items place now
  pub cut : now.link.is_cut ≡ true
  pub rest : new ≡ record old { links = new.links; pool = new.pool }

-- The first so many connections are cut.
abbrev pub AreCutTo : {E S : Type 0} → ℕ → List (Held E S) → Type 0
AreCutTo {E} {S} count hs =
    (i : ℕ) (h : Held E S) → i < count → slice_get hs i ≡ Some h → h.link.is_cut ≡ true

-- ---- Behind all events

-- Behind these events, of which this is told, a player stands for the model's world, and with what is told of
-- the requests there it is the report of a whole play.
pub record StandsThen {E S : Type 0} (setup : Setup) (engine : E) (answers : Answers) (events : List Event)
    (reports : List EventReport) (player : Player E S) (pipes : ℕ → Option Pipe) : Type 0 where
  pub world : RepresentsWorld setup engine player pipes
      (world_with setup answers (marked events reports) new_world)
  pub order : RequestsInOrder (world_with setup answers (marked events reports) new_world)
  pub whole : (requests : List RequestReport)
      → requests ≡ request_reports (world_with setup answers (marked events reports) new_world) 1
      (world_with setup answers (marked events reports) new_world).asked_on
      → IsReportOfPlay setup answers events (record { events = reports; requests = requests }) pipes
