-- What a COLMETADATA says of its columns (MS-TDS 2.2.7.4): how far each field goes is what the layout of tds_wire passes of it.
use Rattle.std.specs.Prelude.{ℕ, zero, suc, ◌+◌, ◌-◌, ◌*◌, ◌%◌, ◌==◌, ◌||◌, Bool, List, [], ◌∷◌, length, get_or, if◌then◌else◌, Option, Some, None}
use Rattle.tds_wire.specs.declared.fault.WireFault.TheVariants.{UnknownToken}
use Rattle.tds_wire.specs.declared.features.Features.{Features}
use Rattle.tds_wire.specs.declared.shape.Shape.{Shape}
use Rattle.tds_wire.specs.declared.shape.Shape.TheVariants as shape
use Rattle.tds_wire.specs.declared.types.TypeInfo.{TypeInfo}
use Rattle.tds_wire.specs.declared.types.TypeInfo.TheVariants as info
use Rattle.tds_wire.specs.Layout.{Read, Got, Wrong, ◌>>=◌, one, two, four, run, cipher_if, info_at, is_ciphered, key_table, key_values, long_name, name, table_at}
use Rattle.tds_wire.specs.Memory.{column_of}
use Rattle.tds_wire.specs.Types.{type_of}
use Rattle.tds_rows.specs.declared.place.RowColumn.{RowColumn}
use Rattle.tds_rows.specs.Places.{four_from, two_from}

-- a value of a key, and a key, as the layout passes them
abbrev pub key_value : List ℕ → Read (Unit {0})
key_value bytes = two bytes >>= λ m a. run m a >>= λ u b. name b >>= λ v c. long_name c >>= λ x d. name d

abbrev pub column_key : List ℕ → Read (Unit {0})
column_key bytes = run 20 bytes >>= λ u a. one a >>= λ m b. key_values (m % 256) b

-- TIMEN, DATETIME2N, DATETIMEOFFSETN: behind the type stands the scale, and no size
abbrev pub is_scaled : ℕ → Bool
is_scaled kind = (kind == 0x29) || (kind == 0x2A) || (kind == 0x2B)

abbrev pub fixed_size : Shape → ℕ
fixed_size (shape.Fixed n) = n
fixed_size _ = 0

-- the most bytes that a value has, by the type and what stands behind its byte; 0 where nothing says it
abbrev pub size_of : ℕ → TypeInfo → List ℕ → ℕ
size_of kind (info.Info n s) bytes =
    if n == 0 then fixed_size s
    else if (n == 1) || (n == 3) then (if is_scaled kind then 0 else get_or bytes 0 0)
    else four_from 0 bytes
size_of kind (info.Limited collated) bytes = two_from 0 bytes
size_of kind info.Xml bytes = 0
size_of kind info.Made bytes = two_from 0 bytes
size_of kind info.Unknown bytes = 0

-- of a decimal
abbrev pub precision_of : TypeInfo → List ℕ → ℕ
precision_of (info.Info n s) bytes = if n == 3 then get_or bytes 1 0 else 0
precision_of _ bytes = 0

abbrev pub scale_of : ℕ → TypeInfo → List ℕ → ℕ
scale_of kind (info.Info n s) bytes = if n == 3 then get_or bytes 2 0 else if is_scaled kind then get_or bytes 0 0 else 0
scale_of kind _ bytes = 0

-- five bytes from this one on
abbrev pub five_from : ℕ → List ℕ → List ℕ
five_from at bytes = get_or bytes at 0 ∷ get_or bytes (at + 1) 0 ∷ get_or bytes (at + 2) 0 ∷ get_or bytes (at + 3) 0 ∷ get_or bytes (at + 4) 0 ∷ []

abbrev pub no_collation : List ℕ
no_collation = 0 ∷ 0 ∷ 0 ∷ 0 ∷ 0 ∷ []

-- behind the size
abbrev pub collation_of : TypeInfo → List ℕ → List ℕ
collation_of (info.Info n s) bytes = if n == 9 then five_from 4 bytes else no_collation
collation_of (info.Limited collated) bytes = if collated then five_from 2 bytes else no_collation
collation_of info.Xml bytes = no_collation
collation_of info.Made bytes = no_collation
collation_of info.Unknown bytes = no_collation

-- a column of this type, whose name has so many units, before so many bytes of a token of so many
abbrev pub described_column : ℕ → ℕ → ℕ → List ℕ → Shape → ℕ → ℕ → RowColumn
described_column user flags kind bytes s start count = record {
  name_start = start;
  name_length = 2 * count;
  size = size_of kind (type_of kind) bytes;
  user_type = user;
  flags = flags;
  kind = kind;
  precision = precision_of (type_of kind) bytes;
  scale = scale_of kind (type_of kind) bytes;
  collation = collation_of (type_of kind) bytes;
  shape = column_of s;
}

-- behind a column's type up to its name: how many units that has
unfoldable pub name_units : Shape → Bool → List ℕ → Read ℕ
name_units s ciphered bytes = table_at s bytes >>= λ u a. cipher_if ciphered 2 a >>= λ v b. one b

-- the user's type, the flags and the type's byte
abbrev pub head_at : List ℕ → Read (ℕ × ℕ × ℕ)
head_at bytes = four bytes >>= λ user a. two a >>= λ flags b. one b >>= λ kind c. Got (user, flags, kind) c

-- a column, of a token of so many bytes
unfoldable pub described_at : Features → ℕ → List ℕ → Read RowColumn
described_at features size bytes = head_at bytes >>= λ h c. info_at (type_of h.2) c >>= λ s d. name_units s (is_ciphered features h.1) d >>= λ n e.
    run (2 * n) e >>= λ u rest. Got (described_column h.0 h.1 h.2 c s (size - length e) n) rest

unfoldable pub all_described : Features → ℕ → ℕ → List ℕ → Read (List RowColumn)
all_described features size zero bytes = Got [] bytes
all_described features size (suc n) bytes = described_at features size bytes >>= λ c rest. all_described features size n rest >>= λ cs more. Got (c ∷ cs) more

-- what a COLMETADATA describes: nothing where the count is 65,535
unfoldable pub listed_columns : Features → ℕ → ℕ → List ℕ → Read (Option (List RowColumn))
listed_columns features size n bytes =
    if n == 65535 then Got None bytes
    else (key_table features.encryption bytes >>= λ u rest. all_described features size n rest >>= λ cs more. Got (Some cs) more)

-- the COLMETADATA that bytes begin with
unfoldable pub metadata_at : Features → List ℕ → Read (Option (List RowColumn))
metadata_at features bytes = one bytes >>= λ byte rest.
    if byte == 0x81 then (two rest >>= λ n more. listed_columns features (length bytes) n more) else Wrong UnknownToken rest
