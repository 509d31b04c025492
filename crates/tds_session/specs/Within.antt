-- Numbers between two bounds.
use Rattle.std.specs.Prelude.{ℕ, ◌≤◌}

-- a number from low to high
pub record IsWithin (low high n : ℕ) : Type 0 where
  pub least : low ≤ n
  pub most : n ≤ high
