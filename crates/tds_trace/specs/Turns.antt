-- The calls of a play, event by event: those of each event are such as a carrier may be asked in it, in that
-- order, and do there what the event does in the model.
use Rattle.std.specs.Prelude.{ℕ, suc, ◌≡◌, ◌<◌, ◌==◌, List, [], ◌∷◌, ◌++◌, length, Bool, true, false, Option, Some, None, if◌then◌else◌}
use Rattle.std.specs.List.{AllByRecursion, fold}
use Rattle.tds_play.specs.Calls.{CarrierDoes, next_there}
use Rattle.tds_play.specs.Pipe.{BegunEvent, IsOpen, IsUncut, MayCarry, MaySend, Pipe, brought_on, cut_pipe, new_pipe, sent_on}
use Rattle.tds_session.specs.Answer.{Answers}
use Rattle.tds_trace.specs.declared.call.Call.{Call}
use Rattle.tds_trace.specs.declared.call.Made.{Made}
use Rattle.tds_trace.specs.declared.call.Made.TheVariants as made
use Rattle.tds_world.specs.declared.event.Setup.{Setup}
use Rattle.tds_world.specs.Losses.{Played, world_then}
use Rattle.tds_world.specs.World.{World, new_world}

-- ---- A call

-- How many failures a call is.
abbrev pub failures : Bool → ℕ
failures true = 1
failures false = 0

-- What there is of a connection behind a call on it that failed, or didn't.
abbrev pub made_on : Made → Bool → Option Pipe → Option Pipe
made_on made.Open failed p = Some (new_pipe (failures failed))
made_on (made.Send d bytes) failed p = sent_on p d bytes.items (failures failed)
made_on (made.Carry d bytes) failed p = brought_on p d bytes.items failed
made_on made.Cut failed p = cut_pipe p

-- What there is of this connection behind these calls.
abbrev pub left_of : List Call → ℕ → Option Pipe → Option Pipe
left_of calls n p = fold (λ q c. if c.conn == n then made_on c.made c.failed q else q) p calls

-- What a call of `carry` may bring where there was `before` of the connection when the event began and is `now`:
-- some bytes, or none where it fails.
abbrev pub MayBring : List ℕ → Bool → Option Pipe → Option Pipe → Type 0
MayBring bytes false before now = (0 < length bytes) × IsOpen now × MayCarry true before now
MayBring bytes true before now = (bytes ≡ []) × IsOpen now × MayCarry true before now

-- A call that a carrier which is told of events may be asked there, as `EventCarrier` requires, and that may be
-- answered so. A cut doesn't fail.
abbrev pub MayBe : Made → Bool → Option Pipe → Option Pipe → Type 0
MayBe made.Open failed before now = before ≡ now
MayBe (made.Send d bytes) failed before now = (0 < length bytes.items) × IsOpen now × MaySend true before now
MayBe (made.Carry d bytes) failed before now = MayBring bytes.items failed before now
MayBe made.Cut failed before now = (failed ≡ false) × IsUncut now

-- ---- The calls of an event

-- Each of these is such a call, behind those in front of it.
abbrev pub MayAllBe : List Call → List Call → (ℕ → Option Pipe) → Type 0
MayAllBe front [] before = Unit {0}
MayAllBe front (c ∷ cs) before =
    MayBe c.made c.failed (before c.conn) (left_of front c.conn (before c.conn)) × MayAllBe (front ++ c ∷ []) cs before

-- Calls of the event of this number, which began where there was this of each connection.
pub record AreCallsIn (event : ℕ) (before : ℕ → Option Pipe) (calls : List Call) : Type 0 where
  pub numbered : AllByRecursion (λ (c : Call). c.event ≡ event) calls
  pub may : MayAllBe [] calls before

-- ---- The calls at a carrier

-- The calls of each event of which a carrier was told, one event behind the other: they take what there was of each
-- connection when the event began to what there was when the next one did, or in the end.
abbrev pub AreCallsSince : List BegunEvent → (ℕ → Option Pipe) → List Call → Type 0
AreCallsSince [] last calls = calls ≡ []
AreCallsSince (b ∷ bs) last calls =
    (own : List Call) × (later : List Call) × (calls ≡ own ++ later) × AreCallsIn b.event b.pipes own
    × ((n : ℕ) → next_there bs last n ≡ left_of own n (b.pipes n)) × AreCallsSince bs last later

-- The number of the newest of these events, or of one before them.
abbrev pub newest : List BegunEvent → Option ℕ → Option ℕ
newest [] o = o
newest (b ∷ bs) o = newest bs (Some b.event)

-- All calls that a carrier was asked which was new at first, each in an event of which it was told. The newest event
-- has this number; where there is none, it was asked nothing.
pub record IsRecordOf (event : Option ℕ) (calls : List Call) (told : List BegunEvent) (last : ℕ → Option Pipe) : Type 0 where
  pub now : event ≡ newest told None
  pub begins : (n : ℕ) → next_there told last n ≡ None
  pub each : AreCallsSince told last calls

-- ---- The calls of a play

-- The calls of each of these events, the first of which has this number, one event behind the other. Each event does
-- what it does in the model, where what there was of each connection is what the calls in front left.
abbrev pub DoInTurn : Setup → Answers → ℕ → List Played → World → (ℕ → Option Pipe) → List Call → Type 0
DoInTurn setup answers n [] w before calls = calls ≡ []
DoInTurn setup answers n (p ∷ ps) w before calls =
    (own : List Call) × (later : List Call) × (calls ≡ own ++ later) × AreCallsIn n before own
    × CarrierDoes setup answers w p before (λ m. left_of own m (before m))
    × DoInTurn setup answers (suc n) ps (world_then setup answers w p) (λ m. left_of own m (before m)) later

-- The calls of a play from nothing.
abbrev pub AreCallsOfPlay : Setup → Answers → List Played → List Call → Type 0
AreCallsOfPlay setup answers ps calls = DoInTurn setup answers 1 ps new_world (λ n. None) calls
