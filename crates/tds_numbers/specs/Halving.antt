-- What a search by halves knows.
use Rattle.std.specs.Prelude.{ℕ, ◌+◌, ◌-◌, ◌^◌, ◌<◌, ◌≤◌}

-- of so many numbers, each by its place, this one stands nowhere but from low up to high
pub record Halves (count : ℕ) (at : ℕ → ℕ) (number low high : ℕ) : Type 0 where
  pub within : high ≤ count
  pub below : (place : ℕ) → place < low → at place < number
  pub above : (place : ℕ) → high ≤ place → place < count → number < at place

-- a search from low up to high, which may take `most` steps behind its first ones, has taken so many, and what is left does
pub record Lasts (most first steps low high : ℕ) : Type 0 where
  pub within : steps ≤ first + most
  pub few : high < low + 2 ^ (first + most - steps)
