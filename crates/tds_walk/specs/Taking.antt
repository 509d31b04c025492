-- A token that stands whole, and the walk that takes it.
use Rattle.std.specs.Prelude.{◌≡◌, ℕ, List, drop, IsSome, Some}
use Rattle.tds_wire.specs.declared.memory.Memory.{Memory}
use Rattle.tds_wire.specs.declared.told.Token.{Token}
use Rattle.tds_wire.specs.Reading.{Parser, Sees, next_token}
use Rattle.tds_walk.specs.declared.walk.TdsWire.{TdsWire}
use Rattle.tds_walk.specs.Wire.{inside_from}
use Rattle.tds_walk.specs.WireCalls.{reading_from}

-- The value is a walk that has passed nothing of the next token.
pub record IsReadyValue (p : TdsWire) : Type 0 where
  pub inside : IsSome (inside_from p.inside)
  pub due : p.due.due ≡ 0
  pub whole : p.refused.fault ≡ 0
  pub head : p.head_count ≡ 0
  pub passed : p.passed ≡ 0

-- The next token of the parser that it is is this one, and behind its bytes the new value is the parser.
abbrev pub TakesToken : Memory → TdsWire → TdsWire → Token → ℕ → List ℕ → Type 0
TakesToken memory old new token n piece =
    (r : Parser) → reading_from old memory ≡ Some r
    → (next : Parser) × (reading_from new memory ≡ Some next) × (next_token r piece ≡ Sees token next (drop n piece))
