-- What is known by a key that is never used again. A key is a place in a slab, and above that how many keys
-- were given before it.
use Rattle.std.specs.Prelude.{ℕ, ◌%◌, ◌≡◌, ◌≢◌, ◌==◌, Option, Some, None, if◌then◌else◌}
use Rattle.slab.specs.Slab.{Slab, get}
use Rattle.relay_logins.specs.declared.table.Entry.{Entry}

-- what stands at a place, where it has this key
abbrev pub of_key : {T : Type 0} → ℕ → Option (Entry T) → Option T
of_key key None = None
of_key key (Some entry) = if entry.key == key then Some entry.value else None

-- what is known by a key
abbrev pub known : {T : Type 0} → Slab (Entry T) → ℕ → Option T
known slab key = of_key key (get slab (key % 16384))

-- what is known by each other key stays
abbrev pub OthersStay : {T : Type 0} → ℕ → Slab (Entry T) → Slab (Entry T) → Type 0
OthersStay key old new = (other : ℕ) → other ≢ key → known new other ≡ known old other
