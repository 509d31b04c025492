-- How rows stand beside the layout of tds_wire.
use Rattle.std.specs.Prelude.{◌≡◌, ◌≤◌, ℕ, zero, suc, ◌+◌, ◌-◌, ◌/◌, ◌==◌, ◌&&◌, ◌||◌, Bool, true, false, List, [], ◌∷◌, ◌++◌, drop, get_or, length, take, Option, Some, None, ◌⊎◌}
use Rattle.tds_wire.specs.declared.shape.Shape.{Shape}
use Rattle.tds_wire.specs.Layout.{Read, Got, ◌>>=◌, Seen, is_null, with_columns}
use Rattle.tds_rows.specs.declared.place.Place.{Place}
use Rattle.tds_rows.specs.declared.place.RowColumn.{RowColumn}
use Rattle.tds_rows.specs.Finding.{column_shapes}
use Rattle.tds_rows.specs.Places.{value_closing, is_absent, lead, two_from}

-- the first byte of a ROW, or of an NBCROW
abbrev pub begins_row : ℕ → Bool
begins_row byte = (byte == 0xD1) || (byte == 0xD2)

-- a row whose values were found, as the layout passes it
abbrev pub passed_as : Seen → Read (List Place) → Read Seen
passed_as s r = r >>= λ ps rest. Got s rest

-- where a value's own bytes begin, and how many bytes belong to it: its prefix, its own bytes and what closes it; none where a null bitmap
-- leaves it out
abbrev pub start_of : Bool → ℕ → Shape → List ℕ → ℕ
start_of true at s bytes = at
start_of false at s bytes = at + lead s bytes

abbrev pub extent : Bool → Shape → List ℕ → Place → ℕ
extent true s bytes p = p.length
extent false s bytes p = lead s bytes + (p.length + value_closing s (is_absent s bytes))

-- the places of values divide bytes, from this one of a row on up to those that are left
unfoldable pub Divides : Bool → List ℕ → ℕ → List Shape → ℕ → List ℕ → List Place → List ℕ → Type 0
Divides with_nulls nulls i [] at bytes [] rest = bytes ≡ rest
Divides with_nulls nulls i (s ∷ shapes) at bytes (p ∷ ps) rest =
    (p.start ≡ start_of (with_nulls && is_null nulls i) at s bytes) × (extent (with_nulls && is_null nulls i) s bytes p ≤ length bytes)
    × Divides with_nulls nulls (i + 1) shapes (at + extent (with_nulls && is_null nulls i) s bytes p) (drop (extent (with_nulls && is_null nulls i) s bytes p) bytes) ps rest
Divides with_nulls nulls i [] at bytes (p ∷ ps) rest = ⊥
Divides with_nulls nulls i (s ∷ shapes) at bytes [] rest = ⊥

-- The places divide a row, which begins at this place of bytes, behind its first byte, and an NBCROW behind its null bitmap.
abbrev pub DividesBehind : Bool → ℕ → List Shape → List ℕ → List Place → List ℕ → Type 0
DividesBehind false at shapes bytes found rest = Divides false [] 0 shapes (at + 1) (drop (at + 1) bytes) found rest
DividesBehind true at shapes bytes found rest =
    Divides true (take ((length shapes + 7) / 8) (drop (at + 1) bytes)) 0 shapes (at + 1 + (length shapes + 7) / 8) (drop (at + 1 + (length shapes + 7) / 8) bytes) found rest

abbrev pub DividesRow : ℕ → List Shape → List ℕ → List Place → List ℕ → Type 0
DividesRow at shapes bytes found rest = DividesBehind (get_or bytes at 0 == 0xD2) at shapes bytes found rest

-- They divide so many rows: each begins where the one before it has ended, and nothing stands between them.
unfoldable pub DividesRows : ℕ → List Shape → List ℕ → List Place → List ℕ → Type 0
DividesRows zero shapes bytes found rest = (found ≡ []) × (bytes ≡ rest)
DividesRows (suc rows) shapes bytes found rest = (before : List Place) × (last : List Place) × (middle : List ℕ) × (found ≡ before ++ last)
    × DividesRows rows shapes bytes before middle × DividesRow (length bytes - length middle) shapes bytes last rest

-- The columns that are known behind a COLMETADATA: those that it describes; where it describes none, those from before.
abbrev pub behind_metadata : Seen → Option (List RowColumn) → Seen
behind_metadata s None = s
behind_metadata s (Some columns) = with_columns s (column_shapes columns)

abbrev pub described_as : Seen → Read (Option (List RowColumn)) → Read Seen
described_as s r = r >>= λ found rest. Got (behind_metadata s found) rest

-- A walk that has room for so many columns has room for those that a COLMETADATA counts.
abbrev pub HasRoomFor : ℕ → List ℕ → Type 0
HasRoomFor most bytes = (two_from 1 bytes ≡ 65535) ⊎ (two_from 1 bytes ≤ most)
