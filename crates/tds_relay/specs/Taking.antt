-- What is taken of an application's bytes in a call, one piece behind the other.
use Rattle.std.specs.Prelude.{◌≡◌, ◌⊎◌, ℕ, List, [], ◌∷◌, drop, length, Option, Some, None, Result, Ok, Err}
use Rattle.tds_front.specs.declared.fault.FrontFault.{FrontFault}
use Rattle.tds_front.specs.declared.front.Fed.{Fed}
use Rattle.tds_front.specs.Bytes.{fed}
use Rattle.tds_relay.specs.Core.{End, Open, Over, end_at}
use Rattle.tds_relay.specs.Machine.{Machine, Step, Takes, CausesStep, MayAll, after, after_all}
use Rattle.tds_relay.specs.Promises.{Each}
use Rattle.tds_relay.specs.Ties.{Application}

-- Nothing more is taken of an application: it is to be closed, or isn't there.
abbrev pub IsDeaf : Option End → Type 0
IsDeaf None = Unit {0}
IsDeaf (Some (Open front withdrawn asks)) = ⊥
IsDeaf (Some (Over why)) = Unit {0}

-- how many of these bytes its end takes at once: all of them, where it is to be closed by them
abbrev pub count_by : Result Fed FrontFault → List ℕ → ℕ
count_by (Ok fed) bytes = fed.count
count_by (Err fault) bytes = length bytes

abbrev pub bytes_left_by : List ℕ → Option End → List ℕ
bytes_left_by bytes (Some (Open front withdrawn asks)) = drop (count_by (fed front bytes).brings bytes) bytes
bytes_left_by bytes end = bytes

-- Steps take these bytes, each what the one before has left, up to these.
abbrev pub AreTaken : ℕ → Machine → List Step → List ℕ → List ℕ → Type 0
AreTaken key h [] bytes left = bytes ≡ left
AreTaken key h (Takes other more ∷ steps) bytes left =
    (other ≡ key) × (more ≡ bytes) × AreTaken key (after h (Takes other more)) steps (bytes_left_by bytes (end_at h.core.ends key)) left
AreTaken key h (step ∷ steps) bytes left = AreTaken key (after h step) steps bytes left

-- By steps that it causes an application's bytes were taken, up to these; or it is to be closed.
pub record Tells (key : ℕ) (old : Machine) (bytes left : List ℕ) (new : Machine) : Type 0 where
  pub steps : List Step
  pub are : after_all old steps ≡ new
  pub may : MayAll old steps
  pub caused : Each (CausesStep (Application key)) steps
  pub rest : List ℕ
  pub takes : AreTaken key old steps bytes rest
  pub all : (rest ≡ left) ⊎ IsDeaf (end_at new.core.ends key)

-- Whatever was taken before, these bytes are taken behind it, up to these.
abbrev pub TellsOn : ℕ → List ℕ → List ℕ → Machine → Machine → Type 0
TellsOn key left rest old new = (first : Machine) (bytes : List ℕ) → Tells key first bytes left old → Tells key first bytes rest new
