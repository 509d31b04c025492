-- A connection that is whole never hangs: whatever happened on it, it comes to rest by what is left to
-- do, and by a cancel and what is underway then, unless the pool is cleaning it.
use Rattle.std.specs.Prelude.{ℕ, zero, suc, ◌≡◌, ◌≢◌, ◌-◌, ◌*◌, ◌≤◌, List, [], ◌∷◌, ◌++◌, length, replicate, false, Option, Some}
use Rattle.tds_session.specs.Answer.{Answers}
use Rattle.tds_world.specs.declared.event.Event.{Event}
use Rattle.tds_world.specs.declared.event.Event.TheVariants as event
use Rattle.tds_world.specs.declared.event.Setup.{Setup}
use Rattle.tds_world.specs.declared.report.Place.{Place}
use Rattle.tds_world.specs.declared.report.Place.TheVariants as place
use Rattle.tds_world.specs.Arrivals.{to_server, works}
use Rattle.tds_world.specs.Caller.{cancels}
use Rattle.tds_world.specs.Connection.{Connection, Standing, In, Cut, phase, up_underway, down_underway}
use Rattle.tds_world.specs.Events.{sends_in, world_after}
use Rattle.tds_world.specs.Laws.{IsQuiet, OfEachConnection}
use Rattle.tds_world.specs.Phase.{Phase, Settled, Asked, Sending, Reading, Cancelling, phase_of}
use Rattle.tds_world.specs.Pool.{Acted, Refuses, Does}
use Rattle.tds_world.specs.Record.{Record, Fate, Finished, Acknowledged, is_cancelled}
use Rattle.tds_world.specs.World.{World, Here, numbered, by_number}

-- Where a connection stands that came to rest: one that was draining is free.
abbrev pub rested_at : Place → Place
rested_at place.Draining = place.Free
rested_at place.Free = place.Free
rested_at (place.Leased lease) = place.Leased lease
rested_at (place.Kept ticket) = place.Kept ticket

abbrev pub rested : Standing → Standing
rested (In p) = In (rested_at p)
rested Cut = Cut

-- From c a connection came to rest: nobody waits on it, it is quiet, and it stands where it stood, or
-- is free.
pub record ComesToRest (c after : Connection) : Type 0 where
  pub idle : phase after ≡ Settled
  pub quiet : IsQuiet after
  pub stands : after.standing ≡ rested c.standing

-- These events bring connection n, which is c, to rest.
pub record BringsToRest (setup : Setup) (answers : Answers) (w : World) (n : ℕ) (c : Connection)
    (events : List Event) : Type 0 where
  pub after : Connection
  pub there : numbered (world_after setup answers events w).connections n ≡ Some after
  pub rests : ComesToRest c after

-- With a cancel

-- Its lease cancels, if a lease has it. Then so many bytes come to its server, and so many to its
-- client.
abbrev pub arriving : ℕ → ℕ → ℕ → List Event
arriving n up down = event.ToServer n up ∷ event.ToClient n down ∷ []

abbrev pub stopping : Standing → ℕ → ℕ → ℕ → List Event
stopping (In (place.Leased lease)) n up down = event.Cancel lease ∷ arriving n up down
stopping Cut n up down = []
stopping _ n up down = arriving n up down

-- So many bytes are all that is underway to the server, and then all that is to the client.
pub record AreAll (answers : Answers) (c : Connection) (up down : ℕ) : Type 0 where
  pub up_all : up_underway c ≤ up
  pub down_all : down_underway (to_server answers up c) ≤ down

-- What the pool asks when it cleans a connection nobody cancels: so it is with one that drains while its
-- answer is read. It comes to rest by what is left to do alone.
abbrev pub CanCancel : Standing → Phase → Type 0
CanCancel s p = s ≡ In place.Draining → p ≢ Reading

-- So it is with each connection. Where no event cleans, it always is.
abbrev pub AllCanCancel : World → Type 0
AllCanCancel w = OfEachConnection (λ c. CanCancel c.standing (phase c)) w

abbrev pub IsNoCleaning : Event → Type 0
IsNoCleaning (event.Clean n) = ⊥
IsNoCleaning e = Unit {0}

-- Each connection that isn't cut, and isn't being cleaned, comes to rest by at most three events.
abbrev pub CanStop : Setup → Answers → World → Type 0
CanStop setup answers w =
    (n : ℕ) (c : Connection) (up down : ℕ)
    → by_number w n ≡ Here n c → CanCancel c.standing (phase c)
    → AreAll answers (cancels c) up down
    → BringsToRest setup answers w n c (stopping c.standing n up down)

-- Without a cancel

-- Its lease sends so many packets; so many bytes come to its server, which works so often; and so
-- many bytes come to its client.
abbrev pub answering : ℕ → ℕ → ℕ → ℕ → List Event
answering n up steps down =
    event.ToServer n up ∷ (replicate steps (event.Work n) ++ event.ToClient n down ∷ [])

abbrev pub finishing : Standing → ℕ → ℕ → ℕ → ℕ → ℕ → List Event
finishing (In (place.Leased lease)) n packets up steps down =
    replicate packets (event.Send lease) ++ answering n up steps down
finishing Cut n packets up steps down = []
finishing _ n packets up steps down = answering n up steps down

-- A change, so many times.
abbrev pub times : {A : Type 0} → ℕ → (A → A) → A → A
times zero change x = x
times (suc n) change x = times n change (change x)

-- The newest request sends its next packet, if one is left.
abbrev pub after_act : Connection → Acted → Connection
after_act c (Refuses why) = c
after_act c (Does what after) = after

abbrev pub sends_next : ℕ → Connection → Connection
sends_next room c = after_act c (sends_in (phase c) room c.current c)

-- So many packets, each with so much room, hold what is left of the newest request.
pub record HoldsAll (room packets : ℕ) (q : Record) : Type 0 where
  pub some : 1 ≤ packets
  pub all : length q.left ≤ packets * room

abbrev pub HoldAll : ℕ → ℕ → Phase → Option Record → Type 0
HoldAll room packets Asked (Some q) = HoldsAll room packets q
HoldAll room packets Sending (Some q) = HoldsAll room packets q
HoldAll room packets p o = Unit {0}

-- So many packets hold all that is left; so many bytes are all that is underway to the server then;
-- so many steps all that are due; and so many bytes all that is underway to the client.
pub record AreEnough (room : ℕ) (answers : Answers) (c : Connection) (packets up steps down : ℕ)
    : Type 0 where
  pub packets_all : HoldAll room packets (phase c) c.current
  pub up_all : up_underway (times packets (sends_next room) c) ≤ up
  pub steps_all : length (to_server answers up (times packets (sends_next room) c)).due ≤ steps
  pub down_all :
      down_underway (times steps works (to_server answers up (times packets (sends_next room) c)))
      ≤ down

-- The newest request of a connection has this number, and this became of it.
pub record Became (c : Connection) (number : ℕ) (fate : Fate) : Type 0 where
  pub request : Record
  pub newest : c.current ≡ Some request
  pub same : request.number ≡ number
  pub became : request.fate ≡ fate

-- They bring it to rest. Its newest request is finished, unless it was cancelled; and acknowledged, if
-- it was cancelled after its first packet and nobody had answered that.
pub record Finishes (setup : Setup) (answers : Answers) (w : World) (n : ℕ) (c : Connection)
    (events : List Event) : Type 0 where
  pub brings : BringsToRest setup answers w n c events
  pub finished : (q : Record) → c.current ≡ Some q → is_cancelled q.fate ≡ false
      → Became brings.after q.number Finished
  pub acknowledged : (q : Record) → c.current ≡ Some q → phase_of q ≡ Cancelling
      → Became brings.after q.number Acknowledged

-- Each connection that isn't cut comes to rest by what is left to do.
abbrev pub CanFinish : Setup → Answers → World → Type 0
CanFinish setup answers w =
    (n : ℕ) (c : Connection) (packets up steps down : ℕ)
    → by_number w n ≡ Here n c
    → AreEnough (setup.packet_size - 8) answers c packets up steps down
    → Finishes setup answers w n c (finishing c.standing n packets up steps down)

-- Never stuck.
pub record NeverStuck (setup : Setup) (answers : Answers) (w : World) : Type 0 where
  pub stops : CanStop setup answers w
  pub finishes : CanFinish setup answers w

-- There are counts that are enough, with a cancel and without one.
pub record AreThere (setup : Setup) (answers : Answers) (c : Connection) : Type 0 where
  pub all : (up : ℕ) × (down : ℕ) × AreAll answers (cancels c) up down
  pub enough :
      (packets : ℕ) × (up : ℕ) × (steps : ℕ) × (down : ℕ)
      × AreEnough (setup.packet_size - 8) answers c packets up steps down
