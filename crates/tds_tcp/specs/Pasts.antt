-- Bytes of which only snapshots are kept.
use Rattle.std.specs.Prelude.{ℕ, List, map}
use Rattle.std.specs.declared.snapshot.Snapshot.{Snapshot}

-- What each snapshot shows.
abbrev pub bytes_seen : List (Snapshot ℕ) → List ℕ
bytes_seen seen = map (λ s. s.value) seen
