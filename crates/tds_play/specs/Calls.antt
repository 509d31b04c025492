-- What each event of a play does at its carrier: the calls that it makes there, by what they leave.
use Rattle.std.specs.Prelude.{Bool, true, ℕ, suc, ◌≡◌, List, [], ◌∷◌, ◌++◌, length, Option}
use Rattle.tds_session.specs.Answer.{Answers}
use Rattle.tds_world.specs.declared.event.Setup.{Setup}
use Rattle.tds_world.specs.Losses.{Played, is_lost, link_of, world_then}
use Rattle.tds_world.specs.World.{World, new_world}
use Rattle.tds_play.specs.Failures.{FailsOn, TellFailures, all_known}
use Rattle.tds_play.specs.Pipe.{AreSameBeyond, BegunEvent, Pipe}
use Rattle.tds_play.specs.WholePlay.{CarriesBytesOf, CutsThoseOf, HandsBytesOf}

-- What was handed over on each connection, what came there, and whether it is cut, is the world's.
pub record StandsAs (w : World) (pipes : ℕ → Option Pipe) : Type 0 where
  pub handed : HandsBytesOf w pipes
  pub came : CarriesBytesOf w pipes
  pub cut : CutsThoseOf w pipes

-- What an event does at a carrier, between its beginning and that of the next one: it hands over, lets come and cuts
-- what takes the world before it to the world after it, on those connections and on no other. Where it is
-- marked lost, calls that it makes fail, on the connection whose link it uses; where it isn't, none fails.
pub record CarrierDoes (setup : Setup) (answers : Answers) (w : World) (p : Played) (before after : ℕ → Option Pipe)
    : Type 0 where
  pub begins : StandsAs w before
  pub ends : StandsAs (world_then setup answers w p) after
  pub others : AreSameBeyond (length (world_then setup answers w p).connections) before after
  pub fails : FailsOn p.event (is_lost p.loss) (link_of setup w p.event)
      (all_known (length w.connections) before)
      (all_known (length (world_then setup answers w p).connections) after)

-- What there is when the next event begins, or in the end.
abbrev pub next_there : List BegunEvent → (ℕ → Option Pipe) → ℕ → Option Pipe
next_there [] last = last
next_there (b ∷ bs) last = b.pipes

-- These are the beginnings of these events in order, the first of which has this number, and each does what
-- it does in the model before the next one begins.
abbrev pub DoInTurn : Setup → Answers → ℕ → List Played → List BegunEvent → (ℕ → Option Pipe) → World → Type 0
DoInTurn setup answers n [] [] last w = Unit {0}
DoInTurn setup answers n [] (b ∷ bs) last w = ⊥
DoInTurn setup answers n (p ∷ ps) [] last w = ⊥
DoInTurn setup answers n (p ∷ ps) (b ∷ bs) last w =
    (b.event ≡ n) × CarrierDoes setup answers w p b.pipes (next_there bs last)
    × DoInTurn setup answers (suc n) ps bs last (world_then setup answers w p)

-- The calls of a play from nothing: where each event began, which is what its carrier was told of, where it is
-- told at all, and what the event did there.
pub record MakesCalls (is_told : Bool) (setup : Setup) (answers : Answers) (ps : List Played) (old new : List BegunEvent)
    (pipes : ℕ → Option Pipe) : Type 0 where
  pub told : List BegunEvent
  pub since : is_told ≡ true → new ≡ old ++ told
  pub calls : DoInTurn setup answers 1 ps told pipes new_world

-- In which event calls failed: in each that is marked lost, calls that it makes; in any other one, none.
abbrev pub FailInTurn : Setup → Answers → List Played → List BegunEvent → (ℕ → Option Pipe) → World → Type 0
FailInTurn setup answers [] [] last w = Unit {0}
FailInTurn setup answers [] (b ∷ bs) last w = ⊥
FailInTurn setup answers (p ∷ ps) [] last w = ⊥
FailInTurn setup answers (p ∷ ps) (b ∷ bs) last w =
    FailsOn p.event (is_lost p.loss) (link_of setup w p.event) (all_known (length w.connections) b.pipes)
    (all_known (length (world_then setup answers w p).connections) (next_there bs last))
    × FailInTurn setup answers ps bs last (world_then setup answers w p)

-- Exactly the events in which calls failed are marked lost: event by event, and over the whole run.
pub record MarksFailures (is_told : Bool) (setup : Setup) (answers : Answers) (ps : List Played)
    (old new : List BegunEvent) (pipes : ℕ → Option Pipe) : Type 0 where
  pub told : List BegunEvent
  pub since : is_told ≡ true → new ≡ old ++ told
  pub each : FailInTurn setup answers ps told pipes new_world
  pub whole : TellFailures setup answers ps pipes
