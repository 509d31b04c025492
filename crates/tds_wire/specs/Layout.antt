-- The layout of an answer's tokens (MS-TDS 2.2.5, 2.2.7): what is read from the front of bytes, field by field. Reading gives what the
-- field says and the bytes behind it, or finds that the bytes end first, or a fault, with the bytes behind the one at which it is found.
use Rattle.std.specs.Prelude.{ℕ, zero, suc, ◌+◌, ◌-◌, ◌*◌, ◌/◌, ◌%◌, ◌^◌, ◌==◌, ◌&&◌, ◌||◌, nat_lt, Bool, true, false, List, [], ◌∷◌, ◌++◌, length, if◌then◌else◌, slice_index}
use Rattle.std.specs.Int.RustNames.{bit_and}
use Rattle.tds_wire.specs.declared.fault.WireFault.{WireFault}
use Rattle.tds_wire.specs.declared.fault.WireFault.TheVariants.{UnknownToken, NoColumns, UnknownType, ManyColumns}
use Rattle.tds_wire.specs.declared.features.Features.{Features}
use Rattle.tds_wire.specs.declared.shape.Shape.{Shape}
use Rattle.tds_wire.specs.declared.shape.Shape.TheVariants as shape
use Rattle.tds_wire.specs.declared.types.TypeInfo.{TypeInfo}
use Rattle.tds_wire.specs.declared.types.TypeInfo.TheVariants as info
use Rattle.tds_wire.specs.Types.{type_of}

pub data Read (A : Type 0) : Type 0 where
  Got : A → List ℕ → Read A
  Short : Read A
  Wrong : WireFault → List ℕ → Read A

-- One field behind another.
infixl 10 ◌>>=◌
abbrev pub ◌>>=◌ : {A B : Type 0} → Read A → (A → List ℕ → Read B) → Read B
(Got x rest) >>= f = f x rest
Short >>= f = Short
(Wrong fault rest) >>= f = Wrong fault rest

abbrev pub followed_by : {A B : Type 0} → Read A → (A → List ℕ → Read B) → Read B
followed_by r f = r >>= f

-- ---- Numbers, the lowest byte first, and runs of bytes

abbrev pub one : List ℕ → Read ℕ
one [] = Short
one (a ∷ rest) = Got a rest

abbrev pub two : List ℕ → Read ℕ
two [] = Short
two (a ∷ []) = Short
two (a ∷ b ∷ rest) = Got (a + 256 * b) rest

abbrev pub four : List ℕ → Read ℕ
four [] = Short
four (a ∷ []) = Short
four (a ∷ b ∷ []) = Short
four (a ∷ b ∷ c ∷ []) = Short
four (a ∷ b ∷ c ∷ d ∷ rest) = Got (a + 256 * b + 65536 * c + 16777216 * d) rest

unfoldable pub run : ℕ → List ℕ → Read (Unit {0})
run zero bytes = Got tt bytes
run (suc n) [] = Short
run (suc n) (byte ∷ bytes) = run n bytes

-- a text behind the count of its units, of two bytes each: in one byte (B_VARCHAR) and in two (US_VARCHAR)
abbrev pub name : List ℕ → Read (Unit {0})
name bytes = one bytes >>= λ n rest. run (2 * n) rest

abbrev pub long_name : List ℕ → Read (Unit {0})
long_name bytes = two bytes >>= λ n rest. run (2 * n) rest

-- ---- Values (2.2.5.2)

-- parts behind their counts, up to an empty one; there are no more of them than bytes
unfoldable pub parts : ℕ → List ℕ → Read (Unit {0})
parts zero bytes = Short
parts (suc most) bytes = four bytes >>= λ n rest. if n == 0 then Got tt rest else (run n rest >>= λ u more. parts most more)

abbrev pub value_in_parts : List ℕ → Read (Unit {0})
value_in_parts bytes = four bytes >>= λ low rest. four rest >>= λ high more.
    if (low == 4294967295) && (high == 4294967295) then Got tt more else parts (length more) more

abbrev pub long_value : List ℕ → Read (Unit {0})
long_value bytes = four bytes >>= λ n rest. if n == 4294967295 then Got tt rest else run n rest

unfoldable pub value : Shape → List ℕ → Read (Unit {0})
value (shape.Fixed n) bytes = run n bytes
value shape.Byte bytes = one bytes >>= λ n rest. run n rest
value shape.Short bytes = two bytes >>= λ n rest. if n == 65535 then Got tt rest else run n rest
value shape.Long bytes = long_value bytes
value shape.Pointer bytes = one bytes >>= λ n rest. if n == 0 then Got tt rest else (run (n + 8) rest >>= λ u more. long_value more)
value shape.Parts bytes = value_in_parts bytes

-- the bit of a column in a null bitmap, from the lowest one of the first byte on
abbrev pub is_null : List ℕ → ℕ → Bool
is_null nulls i = bit_and (slice_index nulls (i / 8) / 2 ^ (i % 8)) 1 == 1

-- the values of a row from this column on; where there is a null bitmap, those whose bit is set have no bytes
unfoldable pub values : Bool → List ℕ → ℕ → List Shape → List ℕ → Read (Unit {0})
values with_nulls nulls i [] bytes = Got tt bytes
values with_nulls nulls i (s ∷ others) bytes =
    if with_nulls && is_null nulls i
    then values with_nulls nulls (i + 1) others bytes
    else (value s bytes >>= λ u rest. values with_nulls nulls (i + 1) others rest)

-- ---- Types (2.2.5.4 to 2.2.5.6)

-- what stands behind a type's byte, and how its values are spelled
unfoldable pub info_at : TypeInfo → List ℕ → Read Shape
info_at (info.Info n s) bytes = run n bytes >>= λ u rest. Got s rest
info_at (info.Limited collated) bytes = two bytes >>= λ n rest. run (if collated then 5 else 0) rest >>= λ u more.
    Got (if n == 65535 then shape.Parts else shape.Short) more
info_at info.Xml bytes = one bytes >>= λ n rest. if n == 0 then Got shape.Parts rest
    else (name rest >>= λ u a. name a >>= λ v b. long_name b >>= λ x c. Got shape.Parts c)
info_at info.Made bytes = run 2 bytes >>= λ t rest. name rest >>= λ u a. name a >>= λ v b. name b >>= λ x c. long_name c >>= λ y d. Got shape.Parts d
info_at info.Unknown bytes = Wrong UnknownType bytes

abbrev pub type_at : List ℕ → Read Shape
type_at bytes = one bytes >>= λ b rest. info_at (type_of b) rest

-- Whether crypto metadata follow, by the flags of a column or a parameter: where the login's answer acknowledged column encryption.
abbrev pub is_ciphered : Features → ℕ → Bool
is_ciphered features flags = features.encryption && (flags / 2048 % 2 == 1)

-- Crypto metadata (2.2.7.4, 2.2.7.19): in a column the place of its key, of two bytes; the user's type; the type of what is encrypted; the
-- algorithm, by its number, or at 0 by its name; its kind and the version of its rules.
abbrev pub cipher_at : ℕ → List ℕ → Read (Unit {0})
cipher_at place bytes = run (place + 4) bytes >>= λ u a. type_at a >>= λ s b. one b >>= λ n c.
    if n == 0 then (one c >>= λ m d. run (2 * m + 2) d) else run 2 c

abbrev pub cipher_if : Bool → ℕ → List ℕ → Read (Unit {0})
cipher_if true place bytes = cipher_at place bytes
cipher_if false place bytes = Got tt bytes

-- ---- COLMETADATA (2.2.7.4)

-- the parts of a table's name, behind the type of a column with text pointers
unfoldable pub name_parts : ℕ → List ℕ → Read (Unit {0})
name_parts zero bytes = Got tt bytes
name_parts (suc n) bytes = long_name bytes >>= λ u rest. name_parts n rest

abbrev pub table_at : Shape → List ℕ → Read (Unit {0})
table_at (shape.Fixed n) bytes = Got tt bytes
table_at shape.Byte bytes = Got tt bytes
table_at shape.Short bytes = Got tt bytes
table_at shape.Long bytes = Got tt bytes
table_at shape.Pointer bytes = one bytes >>= λ n rest. name_parts (n % 256) rest
table_at shape.Parts bytes = Got tt bytes

-- so many columns, behind those that are known: the user's type, the flags, the type, the table's name, crypto metadata, the name
unfoldable pub columns_at : Features → ℕ → List Shape → List ℕ → Read (List Shape)
columns_at features zero known bytes = Got known bytes
columns_at features (suc n) known bytes = run 4 bytes >>= λ u a. two a >>= λ flags b. type_at b >>= λ s c. table_at s c >>= λ v d.
    cipher_if (is_ciphered features flags) 2 d >>= λ x e. name e >>= λ y f. columns_at features n (known ++ s ∷ []) f

-- the values of a key: each behind its length, the name of its store, the path there, the algorithm
unfoldable pub key_values : ℕ → List ℕ → Read (Unit {0})
key_values zero bytes = Got tt bytes
key_values (suc n) bytes = two bytes >>= λ m a. run m a >>= λ u b. name b >>= λ v c. long_name c >>= λ x d. name d >>= λ y e. key_values n e

-- keys: database, number, version and the metadata's version, then the values
unfoldable pub keys_at : ℕ → List ℕ → Read (Unit {0})
keys_at zero bytes = Got tt bytes
keys_at (suc n) bytes = run 20 bytes >>= λ u a. one a >>= λ m b. key_values (m % 256) b >>= λ v c. keys_at n c

abbrev pub key_table : Bool → List ℕ → Read (Unit {0})
key_table true bytes = two bytes >>= λ n rest. keys_at (n % 65536) rest
key_table false bytes = Got tt bytes

-- ---- Tokens

-- the first byte of a token, and the columns that are known behind it
pub record Seen : Type 0 where
  pub kind : ℕ
  pub columns : List Shape

abbrev pub with_columns : Seen → List Shape → Seen
with_columns s columns = record s { columns = columns }

-- COLMETADATA: where the count is 65,535, nothing is described, and what is known stays; over `most` it is a fault
unfoldable pub column_list : ℕ → Features → Seen → ℕ → List ℕ → Read Seen
column_list most features s n bytes =
    if n == 65535 then Got s bytes
    else if nat_lt most n then Wrong ManyColumns bytes
    else (key_table features.encryption bytes >>= λ u rest. columns_at features n [] rest >>= λ columns more. Got (with_columns s columns) more)

-- TABNAME, COLINFO, ORDER, ERROR, INFO, LOGINACK, SSPI: their length is in two bytes; that of SESSIONSTATE and FEDAUTHINFO is in four
abbrev pub has_length : ℕ → Bool
has_length byte = (byte == 0xA4) || (byte == 0xA5) || (byte == 0xA9) || (byte == 0xAA) || (byte == 0xAB) || (byte == 0xAD) || (byte == 0xED)

abbrev pub has_long_length : ℕ → Bool
has_long_length byte = (byte == 0xE4) || (byte == 0xEE)

abbrev pub counted : Seen → List ℕ → Read Seen
counted s bytes = two bytes >>= λ n rest. run n rest >>= λ u more. Got s more

abbrev pub long_counted : Seen → List ℕ → Read Seen
long_counted s bytes = four bytes >>= λ n rest. run n rest >>= λ u more. Got s more

-- DONE, DONEPROC, DONEINPROC: the status, the command and the count of rows, of eight bytes
abbrev pub is_done : ℕ → Bool
is_done byte = (byte == 0xFD) || (byte == 0xFE) || (byte == 0xFF)

abbrev pub passed : ℕ → Seen → List ℕ → Read Seen
passed n s bytes = run n bytes >>= λ u rest. Got s rest

-- ENVCHANGE: the length of its type and its values; but the values of type 15 each have a length of their own, which it does not count
abbrev pub promoted : Seen → List ℕ → Read Seen
promoted s bytes = four bytes >>= λ n a. run n a >>= λ u b. one b >>= λ m c. run m c >>= λ v d. Got s d

abbrev pub change : ℕ → Seen → List ℕ → Read Seen
change n s bytes = if n == 0 then Got s bytes else (one bytes >>= λ type rest. if type == 15 then promoted s rest else passed (n - 1) s rest)

-- FEATUREEXTACK: features, each behind its number and its length, up to the number 255
unfoldable pub features_at : ℕ → Seen → List ℕ → Read Seen
features_at zero s bytes = Short
features_at (suc most) s bytes = one bytes >>= λ n rest. if n == 255 then Got s rest
    else (four rest >>= λ count more. run count more >>= λ u others. features_at most s others)

-- RETURNVALUE: the parameter's place, its name, its status and the user's type, the flags, its type, crypto metadata, its value
unfoldable pub parameter : Features → Seen → List ℕ → Read Seen
parameter features s bytes = run 2 bytes >>= λ u a. one a >>= λ n b. run (2 * n + 5) b >>= λ v c. two c >>= λ flags d. type_at d >>= λ t e.
    cipher_if (is_ciphered features flags) 0 e >>= λ x f. value t f >>= λ y g. Got s g

-- ROW
abbrev pub row : Seen → List ℕ → Read Seen
row s bytes = if length s.columns == 0 then Wrong NoColumns bytes else (values false [] 0 s.columns bytes >>= λ u rest. Got s rest)

-- NBCROW: a null bitmap of one bit a column, and the values of those whose bit is clear
unfoldable pub bitmap : ℕ → List ℕ → List ℕ → Read (List ℕ)
bitmap zero known bytes = Got known bytes
bitmap (suc n) known bytes = one bytes >>= λ b rest. bitmap n (known ++ (b % 256) ∷ []) rest

abbrev pub null_row : Seen → List ℕ → Read Seen
null_row s bytes = if length s.columns == 0 then Wrong NoColumns bytes
    else (bitmap ((length s.columns + 7) / 8) [] bytes >>= λ bits rest. values true bits 0 s.columns rest >>= λ u more. Got s more)

-- DATACLASSIFICATION: labels, then types of information, each a name and an identifier; then of each column its properties, of a label and
-- a type of two bytes each. Where the login's answer acknowledged ranks (version 2), one of four bytes stands before the columns, and one
-- in each property.
unfoldable pub labels : ℕ → List ℕ → Read (Unit {0})
labels zero bytes = Got tt bytes
labels (suc n) bytes = name bytes >>= λ u a. name a >>= λ v b. labels n b

abbrev pub label_list : List ℕ → Read (Unit {0})
label_list bytes = two bytes >>= λ n rest. labels (n % 65536) rest

unfoldable pub properties : Bool → ℕ → List ℕ → Read (Unit {0})
properties ranks zero bytes = Got tt bytes
properties ranks (suc n) bytes = two bytes >>= λ m a. run (m * (if ranks then 8 else 4)) a >>= λ u b. properties ranks n b

abbrev pub classification : Bool → Seen → List ℕ → Read Seen
classification ranks s bytes = label_list bytes >>= λ u a. label_list a >>= λ v b. run (if ranks then 4 else 0) b >>= λ x c.
    two c >>= λ n d. properties ranks (n % 65536) d >>= λ y e. Got s e

-- a token whose first byte this is
unfoldable pub token_behind : ℕ → Features → ℕ → Seen → List ℕ → Read Seen
token_behind most features byte s bytes =
    if has_length byte then counted s bytes
    else if is_done byte then passed 12 s bytes
    else if byte == 0xD1 then row s bytes
    else if byte == 0xD2 then null_row s bytes
    else if byte == 0x81 then (two bytes >>= λ n rest. column_list most features s (n % 65536) rest)
    else if byte == 0xE3 then (two bytes >>= λ n rest. change (n % 65536) s rest)
    else if byte == 0x79 then passed 4 s bytes
    else if byte == 0xAC then parameter features s bytes
    else if has_long_length byte then long_counted s bytes
    else if byte == 0xAE then features_at (length bytes) s bytes
    else if byte == 0xA3 then classification features.ranks s bytes
    else Wrong UnknownToken bytes

-- a token at the front of the bytes
unfoldable pub token_at : ℕ → Features → Seen → List ℕ → Read Seen
token_at most features s bytes = one bytes >>= λ byte rest. token_behind most features byte (record s { kind = byte }) rest
