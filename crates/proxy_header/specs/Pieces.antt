-- A header that comes in pieces.
use Rattle.std.specs.Prelude.{◌≡◌, ℕ, ◌≤◌, List, ◌++◌, take, length}
use Rattle.proxy_header.specs.declared.header.Found.{Found}
use Rattle.proxy_header.specs.declared.header.Found.TheVariants.{Missing, Whole, Wrong}
use Rattle.proxy_header.specs.declared.reader.Taken.{Taken}
use Rattle.proxy_header.specs.declared.reader.Taken.TheVariants as taken
use Rattle.proxy_header.specs.Header.{header_in}

-- what is found there says so; where more is to come the whole piece belongs to the header
abbrev pub Says : Found → (count all : ℕ) → Taken → Type 0
Says (Missing missing) count all taken.More = count ≡ all
Says (Whole source) count all (taken.Whole named) = named ≡ source
Says Wrong count all taken.Wrong = Unit {0}
Says found count all taken = ⊥

-- of a piece that came behind these bytes so many were taken, and this came of it
pub record TakesOfHeader (before piece : List ℕ) (count : ℕ) (what : Taken) (after : List ℕ) : Type 0 where
  pub within : count ≤ length piece
  pub appended : after ≡ before ++ take count piece
  pub said : Says (header_in after) count (length piece) what
