-- Why no session of a play runs out of transaction descriptors: each step uses one at most, an answer
-- has few steps, and a play few events.
use Rattle.std.specs.Prelude.{ℕ, suc, ◌≤◌, List, [], ◌∷◌, length}
use Rattle.std.specs.List.{AllByRecursion}
use Rattle.tds_request.specs.declared.request.Request.{Request}
use Rattle.tds_request.specs.Layout.{Fits}
use Rattle.tds_session.specs.Answer.{Answers, Step}
use Rattle.tds_session.specs.Session.{SessionState}
use Rattle.tds_world.specs.declared.event.Event.{Event}
use Rattle.tds_world.specs.alone.Alone.{own_steps}
use Rattle.tds_world.specs.Bounds.{IsEvent}

-- From this session on, each step uses one descriptor at most, and none comes back.
abbrev pub UseOneEach : SessionState → List Step → Type 0
UseOneEach s [] = Unit {0}
UseOneEach s (t ∷ ts) =
    (s.next_descriptor ≤ t.after.next_descriptor)
    × (t.after.next_descriptor ≤ suc s.next_descriptor)
    × UseOneEach t.after ts

-- The steps of an answer, at most.
abbrev pub most_steps : ℕ
most_steps = 4096

-- Answers that use few descriptors, to requests that have a spelling.
pub record UseFewDescriptors (answers : Answers) : Type 0 where
  pub each : (s : SessionState) (q : Request) → UseOneEach s (own_steps answers s q)
  pub short : (s : SessionState) (q : Request) → Fits q → length (own_steps answers s q) ≤ most_steps

-- The events of a schedule after which descriptors are left, at most: far more than a play has.
abbrev pub most_events : ℕ
most_events = 4294967295

-- Events of the program, and so few.
pub record AreFewEvents (events : List Event) : Type 0 where
  pub known : AllByRecursion IsEvent events
  pub few : length events ≤ most_events
