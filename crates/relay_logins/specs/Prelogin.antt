-- What a server answers to PRELOGIN (MS-TDS 2.2.6.5).
use Rattle.std.specs.Prelude.{ℕ, ◌+◌, ◌*◌, ◌==◌, ◌||◌, Bool, false, List, ◌∷◌, slice_index_or, if◌then◌else◌}

-- the byte of encryption there demands it, or doesn't stand in the answer
abbrev pub demands_at : List ℕ → ℕ → Bool
demands_at answer place = (slice_index_or answer place 1 == 1) || (slice_index_or answer place 1 == 3)

-- of these options, up to their end, the first one that is of encryption demands it
unfoldable pub demands_from : List ℕ → List ℕ → Bool
demands_from answer (kind ∷ high ∷ low ∷ first ∷ second ∷ rest) =
    if kind == 1 then demands_at answer (256 * high + low)
    else if kind == 255 then false else demands_from answer rest
demands_from answer _ = false
