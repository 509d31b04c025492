-- What a vector keeps.
use Rattle.std.specs.Prelude.{◌≡◌, List, ℕ, length, take}

-- The new items begin with the old ones.
abbrev pub IsKept : List ℕ → List ℕ → Type 0
IsKept old new = take (length old) new ≡ old
