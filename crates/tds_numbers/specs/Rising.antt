-- Numbers that rise.
use Rattle.std.specs.Prelude.{ℕ, ◌<◌, List, length, slice_index}

-- each is above those before it
abbrev pub Rises : List ℕ → Type 0
Rises numbers = (i j : ℕ) → i < j → j < length numbers → slice_index numbers i < slice_index numbers j
