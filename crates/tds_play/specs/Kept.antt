-- The bytes of one direction of a connection, as a carrier in memory keeps them.
use Rattle.std.specs.Prelude.{ℕ, List, [], ◌++◌}

pub record Kept : Type 0 where
  pub handed : List ℕ  -- the bytes that were handed over, in order
  pub came : List ℕ  -- those of them that came out

abbrev pub nothing_kept : Kept
nothing_kept = record { handed = []; came = [] }

-- These bytes were handed over.
abbrev pub kept_with : Kept → List ℕ → Kept
kept_with k bytes = record k { handed = k.handed ++ bytes }

-- These bytes came out.
abbrev pub kept_after : Kept → List ℕ → Kept
kept_after k bytes = record k { came = k.came ++ bytes }
