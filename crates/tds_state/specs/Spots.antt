-- Bytes at a place of others.
use Rattle.std.specs.Prelude.{ℕ, Bool, List, [], ◌∷◌, length, take, drop, Option, Some, None}
use Rattle.std.specs.Int.{w32, from_le_bytes}
use Rattle.std.specs.Str.{bytes_eq}

abbrev pub bytes_stand : List ℕ → ℕ → List ℕ → Bool
bytes_stand bytes at part = bytes_eq (take (length part) (drop at bytes)) part

-- the number that four bytes spell, and no more than these, the lowest first
unfoldable pub four_bytes : List ℕ → Option ℕ
four_bytes (a ∷ b ∷ c ∷ d ∷ []) = Some (from_le_bytes w32 (a ∷ b ∷ c ∷ d ∷ []))
four_bytes other = None
