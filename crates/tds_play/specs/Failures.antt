-- Which calls of a carrier failed, and which events are marked lost for it.
use Rattle.std.specs.Prelude.{ℕ, zero, suc, slice_index_or, ◌≡◌, ◌≢◌, ◌⊎◌, ◌≤◌, ◌<◌, ◌==◌, List, [], ◌∷◌, ◌++◌, length, Bool, true, false, Option, Some, None, if◌then◌else◌}
use Rattle.tds_packet.specs.declared.kind.Direction.{Direction}
use Rattle.tds_packet.specs.declared.kind.Direction.TheVariants.{ToServer, ToClient}
use Rattle.tds_session.specs.Answer.{Answers}
use Rattle.tds_play.specs.declared.link.EventDone.{EventDone}
use Rattle.tds_play.specs.declared.link.Link.{Link}
use Rattle.tds_play.specs.Seats.{Seated}
use Rattle.tds_play.specs.Pipe.{Pipe, traffic_of}
use Rattle.tds_world.specs.declared.event.Event.{Event}
use Rattle.tds_world.specs.declared.event.Event.TheVariants as event
use Rattle.tds_world.specs.declared.event.Setup.{Setup}
use Rattle.tds_world.specs.Losses.{Loss, Nothing, Failed, Played, link_of, world_then, world_with}
use Rattle.tds_world.specs.World.{World, new_world}

-- ---- Calls that failed

-- A call that may fail.
pub data Call : Type 0 where
  Open : Call
  Send : (direction : Direction) → Call
  Carry : (direction : Direction) → Call

-- How often it failed on a connection that may be unknown.
abbrev pub failures : Option Pipe → Call → ℕ
failures None call = 0
failures (Some p) Open = p.open_failures
failures (Some p) (Send d) = (traffic_of p d).send_failures
failures (Some p) (Carry d) = (traffic_of p d).carry_failures

-- None failed.
abbrev pub HasNoFailure : Option Pipe → Type 0
HasNoFailure pipe = (call : Call) → failures pipe call ≡ 0

-- No call failed on any connection.
abbrev pub FailNowhere : (ℕ → Option Pipe) → Type 0
FailNowhere pipes = (n : ℕ) → HasNoFailure (pipes n)

-- As many failed of each.
abbrev pub FailsNoMore : Option Pipe → Option Pipe → Type 0
FailsNoMore before after = (call : Call) → failures after call ≡ failures before call

abbrev pub IsOneOf : Call → List Call → Type 0
IsOneOf call [] = ⊥
IsOneOf call (c ∷ cs) = (call ≡ c) ⊎ IsOneOf call cs

-- At least one failed, and each that did is one of these.
pub record HasFailed (calls : List Call) (pipe : Option Pipe) : Type 0 where
  pub some : (call : Call) × (failures pipe call ≢ 0)
  pub each : (call : Call) → failures pipe call ≢ 0 → IsOneOf call calls

-- Some of these failed where the connection was lost, and else none.
abbrev pub Fails : List Call → Bool → Option Pipe → Type 0
Fails calls true pipe = HasFailed calls pipe
Fails calls false pipe = HasNoFailure pipe

-- ---- An event

-- The calls that an event makes on the connection whose link it uses.
abbrev pub calls_of : Event → List Call
calls_of event.Lease = Open ∷ []
calls_of (event.GiveBack lease) = Send ToServer ∷ []
calls_of (event.Clean n) = Send ToServer ∷ []
calls_of (event.Send lease) = Send ToServer ∷ []
calls_of (event.Cancel lease) = Send ToServer ∷ []
calls_of (event.Work n) = Send ToClient ∷ []
calls_of (event.ToServer n count) = Carry ToServer ∷ Send ToClient ∷ []
calls_of (event.ToClient n count) = Carry ToClient ∷ []
calls_of e = []

-- The failures of a connection are those of calls that this event makes.
abbrev pub IsFailureOf : Event → Option Pipe → Type 0
IsFailureOf e pipe = HasFailed (calls_of e) pipe

-- An event came to this on a connection without a failure: some of these calls failed exactly where it
-- was lost, and then the connection is cut.
pub record FailsAs {E S : Type 0} (calls : List Call) (done : EventDone) (link : Link E S) (pipe : Option Pipe)
    : Type 0 where
  pub failed : Fails calls done.lost pipe
  pub cut : done.lost ≡ true → link.is_cut ≡ true

-- ---- All connections

-- A connection that isn't cut has no failure.
abbrev pub LiveAreSound : {E S : Type 0} → List (Seated E S) → (ℕ → Option Pipe) → Type 0
LiveAreSound {E} {S} links pipes =
    (i : ℕ) (d : Seated E S) → i < length links → (slice_index_or links i d).link.is_cut ≡ false
    → HasNoFailure (pipes (suc i))

-- The connection at a place, of so many that were opened.
abbrev pub known_at : ℕ → ℕ → Option Pipe → Option Pipe
known_at zero place p = None
known_at (suc count) zero p = p
known_at (suc count) (suc place) p = known_at count place p

abbrev pub all_known : ℕ → (ℕ → Option Pipe) → ℕ → Option Pipe
all_known count pipes place = known_at count place (pipes (suc place))

-- Where an event was lost it is on the connection whose link it uses, which had no failure, and no other
-- one fails; where it wasn't, none does.
abbrev pub FailsOn : Event → Bool → Option ℕ → (ℕ → Option Pipe) → (ℕ → Option Pipe) → Type 0
FailsOn e true link before after =
    (place : ℕ) × (link ≡ Some (suc place)) × HasNoFailure (before place) × IsFailureOf e (after place)
    × ((other : ℕ) → other ≢ place → FailsNoMore (before other) (after other))
FailsOn e false link before after = (place : ℕ) → FailsNoMore (before place) (after place)

-- ---- A play

-- The failures of a connection on which these events were lost. It is one at most, since it is cut then.
abbrev pub AccountFor : List Event → Option Pipe → Type 0
AccountFor [] pipe = HasNoFailure pipe
AccountFor (e ∷ []) pipe = IsFailureOf e pipe
AccountFor (e ∷ f ∷ es) pipe = ⊥

-- An event that was lost on the connection of this number.
abbrev pub lost_by : Loss → Option ℕ → ℕ → Event → List Event
lost_by Nothing link n e = []
lost_by (Failed came) None n e = []
lost_by (Failed came) (Some m) n e = if m == n then e ∷ [] else []

-- The events of a play that were lost on it, from this world on.
abbrev pub lost_on : Setup → Answers → ℕ → List Played → World → List Event
lost_on setup answers n [] w = []
lost_on setup answers n (p ∷ ps) w =
    lost_by p.loss (link_of setup w p.event) n p.event ++ lost_on setup answers n ps (world_then setup answers w p)

-- An event that is lost uses the link of a connection.
abbrev pub UsesLink : Loss → Option ℕ → Type 0
UsesLink Nothing link = Unit {0}
UsesLink (Failed came) None = ⊥
UsesLink (Failed came) (Some n) = Unit {0}

abbrev pub UseLinks : Setup → Answers → List Played → World → Type 0
UseLinks setup answers [] w = Unit {0}
UseLinks setup answers (p ∷ ps) w =
    UsesLink p.loss (link_of setup w p.event) × UseLinks setup answers ps (world_then setup answers w p)

-- Exactly the failures of the carrier are told: each event that is marked lost uses a link, and the
-- failures of each connection are those of its one lost event, or none.
pub record TellFailures (setup : Setup) (answers : Answers) (ps : List Played) (pipes : ℕ → Option Pipe)
    : Type 0 where
  pub links : UseLinks setup answers ps new_world
  pub failures : (n : ℕ) → 0 < n → n ≤ length (world_with setup answers ps new_world).connections
      → AccountFor (lost_on setup answers n ps new_world) (pipes n)
