-- The fields of a cursor.
use Rattle.std.specs.Prelude.{◌≡◌, ◌<◌, ◌≤◌, ℕ, length}
use Rattle.tds_wire.specs.Walking.{Walk}
use Rattle.tds_wire.specs.declared.cursor.Step.{Step}
use Rattle.tds_wire.specs.declared.fault.WireFault.{WireFault}
use Rattle.tds_wire.specs.declared.due.Standing.TheVariants.{Failing}
use Rattle.tds_wire.specs.Bytes.{standing}
use Rattle.tds_wire.specs.declared.due.Due.TheVariants.{Token}
use Rattle.tds_wire.specs.declared.cursor.Step.TheVariants as steps

-- between two tokens, within its bounds
pub record IsBetween (w : Walk) : Type 0 where
  pub due : w.at.due ≡ Token
  pub columns : length w.columns ≤ 4096
  pub nulls : length w.nulls ≡ 512

-- it isn't broken
abbrev pub IsOn : Walk → Type 0
IsOn w = (fault : WireFault) → standing w.at.due ≡ Failing fault → ⊥

-- a call takes no more bytes than it was given
abbrev pub IsWithin : Step → ℕ → Type 0
IsWithin (steps.Over count) n = count ≤ n
IsWithin steps.Within n = Unit {0}
IsWithin (steps.Failed fault count) n = count ≤ n

-- and at least one, where it passes the end of a token
abbrev pub Moves : Step → ℕ → Type 0
Moves (steps.Over count) n = 0 < count
Moves steps.Within n = Unit {0}
Moves (steps.Failed fault count) n = Unit {0}

-- the end of a token is between two
abbrev pub EndsBetween : Step → Walk → Type 0
EndsBetween (steps.Over count) w = IsBetween w
EndsBetween steps.Within w = Unit {0}
EndsBetween (steps.Failed fault count) w = Unit {0}
