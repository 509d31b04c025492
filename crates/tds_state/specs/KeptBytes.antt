-- Bytes that are kept, the first of all that come, up to a most.
use Rattle.std.specs.Prelude.{ℕ, ◌+◌, nat_lt, not, Bool, List, [], ◌++◌, length, take}
use Rattle.tds_state.specs.declared.kept.Kept.TheInside.{Inside}

pub record KeptBytes : Type 0 where
  pub bytes : List ℕ
  pub most : ℕ

abbrev pub keeping_of : Inside → KeptBytes
keeping_of k = record { bytes = k.bytes.items; most = k.most }

-- none is kept yet
abbrev pub no_bytes_kept : ℕ → KeptBytes
no_bytes_kept most = record { bytes = []; most = most }

-- of these and more, as many as there is room for
abbrev pub with_more_kept : KeptBytes → List ℕ → KeptBytes
with_more_kept k more = record k { bytes = take k.most (k.bytes ++ more) }

-- whether so many more can be kept
abbrev pub has_room : KeptBytes → ℕ → Bool
has_room k count = not (nat_lt k.most (length k.bytes + count))
