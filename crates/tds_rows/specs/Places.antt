-- Where the values of a row stand (MS-TDS 2.2.5.2, 2.2.7.15, 2.2.7.19). How far a value goes is what the layout of tds_wire passes of it; of
-- these bytes the first ones are its prefix, and the last ones may close it.
use Rattle.std.specs.Prelude.{ℕ, zero, suc, ◌+◌, ◌-◌, ◌*◌, ◌/◌, ◌==◌, ◌&&◌, ◌||◌, Bool, true, false, List, [], ◌∷◌, ◌++◌, length, get_or, if◌then◌else◌}
use Rattle.tds_wire.specs.declared.fault.WireFault.TheVariants.{UnknownToken, NoColumns}
use Rattle.tds_wire.specs.declared.shape.Shape.{Shape}
use Rattle.tds_wire.specs.declared.shape.Shape.TheVariants as shape
use Rattle.tds_wire.specs.Layout.{Read, Got, Wrong, ◌>>=◌, one, value, bitmap, is_null}
use Rattle.tds_rows.specs.declared.place.Place.{Place}

-- the numbers of two and four bytes from this one on, the lowest byte first
abbrev pub two_from : ℕ → List ℕ → ℕ
two_from at bytes = get_or bytes at 0 + 256 * get_or bytes (at + 1) 0

abbrev pub four_from : ℕ → List ℕ → ℕ
four_from at bytes = get_or bytes at 0 + 256 * get_or bytes (at + 1) 0 + 65536 * get_or bytes (at + 2) 0 + 16777216 * get_or bytes (at + 3) 0

-- The bytes before a value's own: its count; a text pointer behind its count, with a timestamp and the value's count; the length of a value
-- in parts.
abbrev pub lead : Shape → List ℕ → ℕ
lead (shape.Fixed n) bytes = 0
lead shape.Byte bytes = 1
lead shape.Short bytes = 2
lead shape.Long bytes = 4
lead shape.Pointer bytes = if get_or bytes 0 0 == 0 then 1 else get_or bytes 0 0 + 13
lead shape.Parts bytes = 8

-- Whether a value is null, by its prefix: NULLTYPE always is; a count of 0 in one byte, and of a variant; all ones in two, four and eight
-- bytes; no text pointer.
abbrev pub is_absent : Shape → List ℕ → Bool
is_absent (shape.Fixed n) bytes = n == 0
is_absent shape.Byte bytes = get_or bytes 0 0 == 0
is_absent shape.Short bytes = two_from 0 bytes == 65535
is_absent shape.Long bytes = (four_from 0 bytes == 0) || (four_from 0 bytes == 4294967295)
is_absent shape.Pointer bytes = (get_or bytes 0 0 == 0) || (four_from (get_or bytes 0 0 + 9) bytes == 4294967295)
is_absent shape.Parts bytes = (four_from 0 bytes == 4294967295) && (four_from 4 bytes == 4294967295)

-- the empty part behind a value in parts
abbrev pub value_closing : Shape → Bool → ℕ
value_closing shape.Parts absent = if absent then 0 else 4
value_closing _ absent = 0

abbrev pub null_mark : Bool → ℕ
null_mark absent = if absent then 1 else 0

-- the place of a value of which the layout passes so many of these bytes
abbrev pub value_place : ℕ → Shape → List ℕ → ℕ → Place
value_place at s bytes passed = record {
  start = at + lead s bytes;
  length = passed - (lead s bytes + value_closing s (is_absent s bytes));
  null = null_mark (is_absent s bytes);
}

-- a value that begins here in its row
abbrev pub value_at : ℕ → Shape → List ℕ → Read Place
value_at at s bytes = value s bytes >>= λ u rest. Got (value_place at s bytes (length bytes - length rest)) rest

-- one whose bit is set in a null bitmap has no bytes
abbrev pub no_value : ℕ → Place
no_value at = record { start = at; length = 0; null = 1 }

abbrev pub column_value_at : Bool → ℕ → Shape → List ℕ → Read Place
column_value_at true at s bytes = Got (no_value at) bytes
column_value_at false at s bytes = value_at at s bytes

-- the values of a row from this column on
unfoldable pub values_placed : Bool → List ℕ → ℕ → List Shape → ℕ → List ℕ → Read (List Place)
values_placed with_nulls nulls i [] at bytes = Got [] bytes
values_placed with_nulls nulls i (s ∷ others) at bytes = column_value_at (with_nulls && is_null nulls i) at s bytes >>= λ p rest.
    values_placed with_nulls nulls (i + 1) others (at + (length bytes - length rest)) rest >>= λ ps more. Got (p ∷ ps) more

-- behind the first byte, which stands at this place, of a ROW, and of an NBCROW
abbrev pub row_behind : ℕ → List Shape → List ℕ → Read (List Place)
row_behind at shapes bytes = values_placed false [] 0 shapes (at + 1) bytes

abbrev pub null_row_behind : ℕ → List Shape → List ℕ → Read (List Place)
null_row_behind at shapes bytes = bitmap ((length shapes + 7) / 8) [] bytes >>= λ bits rest. values_placed true bits 0 shapes (at + 1 + (length shapes + 7) / 8) rest

-- the values of the row that bytes begin with, whose first byte stands at this place
unfoldable pub row_placed : ℕ → List Shape → List ℕ → Read (List Place)
row_placed at shapes bytes = one bytes >>= λ byte rest.
    if byte == 0xD1 then (if length shapes == 0 then Wrong NoColumns rest else row_behind at shapes rest)
    else if byte == 0xD2 then (if length shapes == 0 then Wrong NoColumns rest else null_row_behind at shapes rest)
    else Wrong UnknownToken rest

abbrev pub placed_row : List Shape → List ℕ → Read (List Place)
placed_row shapes bytes = row_placed 0 shapes bytes

-- The values of so many rows, one behind the other: one row more stands behind those before it, at the place behind their bytes.
unfoldable pub rows_placed : ℕ → List Shape → List ℕ → Read (List Place)
rows_placed zero shapes bytes = Got [] bytes
rows_placed (suc rows) shapes bytes = rows_placed rows shapes bytes >>= λ found rest.
    row_placed (length bytes - length rest) shapes rest >>= λ more last. Got (found ++ more) last
