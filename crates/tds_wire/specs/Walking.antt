-- What each field of a token leads to: what is due behind it. None of it need be trusted where the
-- layout's law covers it.
use Rattle.std.specs.Prelude.{ℕ, zero, suc, ◌+◌, ◌-◌, ◌*◌, ◌%◌, ◌==◌, ◌&&◌, ◌||◌, nat_lt, Bool, true, false, List, [], ◌∷◌, ◌++◌, length, if◌then◌else◌, get_or, min, slice_set}
use Rattle.tds_wire.specs.declared.fault.WireFault.{WireFault}
use Rattle.tds_wire.specs.declared.fault.WireFault.TheVariants.{UnknownToken, NoColumns, UnknownType, ManyColumns}
use Rattle.tds_wire.specs.declared.features.Features.{Features}
use Rattle.tds_wire.specs.declared.shape.Shape.{Shape}
use Rattle.tds_wire.specs.declared.shape.Shape.TheVariants as shape
use Rattle.tds_wire.specs.declared.due.Field.{Field}
use Rattle.tds_wire.specs.declared.due.Field.TheVariants as field
use Rattle.tds_wire.specs.declared.due.TokenField.TheVariants as in_token
use Rattle.tds_wire.specs.declared.due.KeyField.TheVariants as in_key
use Rattle.tds_wire.specs.declared.due.ColumnField.TheVariants as in_column
use Rattle.tds_wire.specs.declared.due.TypeField.TheVariants as in_type
use Rattle.tds_wire.specs.declared.due.ValueField.TheVariants as in_value
use Rattle.tds_wire.specs.declared.due.LabelField.TheVariants as in_label
use Rattle.tds_wire.specs.declared.due.Next.{Next}
use Rattle.tds_wire.specs.declared.due.Next.TheVariants.{Ended, Then, Described, Parted, Ciphered, Named, Valued, KeyValued, Labelled, Classified}
use Rattle.tds_wire.specs.declared.due.Due.{Due}
use Rattle.tds_wire.specs.declared.due.Due.TheVariants.{Token, Number, Run, Broken}
use Rattle.tds_wire.specs.declared.due.Inside.{Inside}
use Rattle.tds_wire.specs.declared.due.Inside.TheVariants as inside
use Rattle.tds_wire.specs.declared.due.At.{At}
use Rattle.tds_wire.specs.declared.types.TypeInfo.{TypeInfo}
use Rattle.tds_wire.specs.declared.types.TypeInfo.TheVariants as info
use Rattle.tds_wire.specs.Layout.{has_length, has_long_length, is_ciphered, is_done, is_null}
use Rattle.tds_wire.specs.Numbers.{width_of, bytes_of}
use Rattle.tds_wire.specs.Types.{type_of}

-- Where the cursor is, the columns that it knows, the null bitmap, how many columns it has room
-- for, and what the login acknowledged.
pub record Walk : Type 0 where
  pub at : At
  pub columns : List Shape
  pub nulls : List ℕ
  pub most : ℕ
  pub features : Features

-- ---- What is due next

abbrev pub with_due : Walk → Due → Walk
with_due w due = record w { at = record w.at { due = due } }

abbrev pub number_due : Field → Due
number_due f = Number f (bytes_of (width_of f)) 0

abbrev pub with_number : Walk → Field → Walk
with_number w f = with_due w (number_due f)

abbrev pub with_run : Walk → ℕ → Next → Walk
with_run w n next = with_due w (Run n next)

-- a token has ended
abbrev pub ended : Walk → Walk
ended w = with_due w Token

abbrev pub broken : Walk → WireFault → Walk
broken w fault = with_due w (Broken fault)

abbrev pub with_inside : Walk → Inside → Walk
with_inside w i = record w { at = record w.at { inside = i } }

abbrev pub with_shape : Walk → Shape → Walk
with_shape w s = record w { at = record w.at { shape = s } }

abbrev pub with_left : Walk → ℕ → Walk
with_left w n = record w { at = record w.at { left = n } }

abbrev pub with_parts : Walk → ℕ → Walk
with_parts w n = record w { at = record w.at { parts = n } }

abbrev pub with_ciphered : Walk → Bool → Walk
with_ciphered w b = record w { at = record w.at { ciphered = b } }

-- ---- Values

-- the value of a column with bytes of this shape
abbrev pub value_due : Shape → Due
value_due (shape.Fixed n) = Run n Valued
value_due shape.Byte = number_due (field.Value in_value.ByteCount)
value_due shape.Short = number_due (field.Value in_value.ShortCount)
value_due shape.Long = number_due (field.Value in_value.LongCount)
value_due shape.Pointer = number_due (field.Value in_value.PointerCount)
value_due shape.Parts = number_due (field.Value in_value.PartsLow)

abbrev pub has_no_bytes : Shape → Bool
has_no_bytes (shape.Fixed n) = n == 0
has_no_bytes _ = false

abbrev pub shape_at : List Shape → ℕ → Shape
shape_at columns i = get_or columns i shape.Byte

abbrev pub is_skipped : Bool → List ℕ → List Shape → ℕ → Bool
is_skipped with_nulls nulls columns i =
    (with_nulls && is_null nulls i) || has_no_bytes (shape_at columns i)

-- the first column from this one on that has bytes, among so many
unfoldable pub next_value : Bool → List ℕ → List Shape → ℕ → ℕ → ℕ
next_value with_nulls nulls columns i zero = i
next_value with_nulls nulls columns i (suc left) =
    if is_skipped with_nulls nulls columns i
    then next_value with_nulls nulls columns (i + 1) left
    else i

abbrev pub inside_row : Bool → ℕ → Inside
inside_row true i = inside.NullRow i
inside_row false i = inside.Row i

-- the row goes on with this column
unfoldable pub at_column : Bool → Walk → ℕ → Walk
at_column with_nulls w i =
    if nat_lt i (length w.columns)
    then with_due (with_inside w (inside_row with_nulls i)) (value_due (shape_at w.columns i))
    else ended w

-- the row goes on with the first column from this one on that has bytes
abbrev pub row_from : Bool → Walk → ℕ → Walk
row_from with_nulls w i =
    at_column with_nulls w (next_value with_nulls w.nulls w.columns i (length w.columns - i))

-- a value has been passed
abbrev pub valued : Inside → Walk → Walk
valued (inside.Row i) w = row_from false w (min 65535 (i + 1))
valued (inside.NullRow i) w = row_from true w (min 65535 (i + 1))
valued _ w = ended w

-- ---- Columns and parameters

-- the user's type of a column, its flags and its type
abbrev pub column_begun : Walk → Walk
column_begun w = with_run w 4 (Then (field.Column in_column.Flags))

-- so many columns, or the end of the token
abbrev pub columns_begun : Inside → Walk → Walk
columns_begun (inside.Columns left) w = if left == 0 then ended w else column_begun w
columns_begun _ w = ended w

unfoldable pub parameter_typed : Walk → Walk
parameter_typed w = if has_no_bytes w.at.shape then ended w else with_due w (value_due w.at.shape)

-- crypto metadata
abbrev pub based : Inside → Walk → Walk
based (inside.Columns left) w =
    with_run (with_inside w (inside.ColumnBase left)) 6 (Then (field.Type in_type.Type))
based inside.Parameter w =
    with_run (with_inside w (inside.ParameterBase w.at.shape)) 4 (Then (field.Type in_type.Type))
based _ w = ended w

-- behind a column's type, and the name of its table where it has one
unfoldable pub behind_table : Walk → Walk
behind_table w =
    if w.at.ciphered then based w.at.inside w else with_number w (field.Column in_column.ColumnName)

abbrev pub behind_type : Shape → Walk → Walk
behind_type shape.Pointer w = with_number w (field.Column in_column.TableParts)
behind_type _ w = behind_table w

unfoldable pub column_described : Walk → Walk
column_described w =
    if nat_lt (length w.columns) w.most
    then behind_type w.at.shape (record w { columns = w.columns ++ w.at.shape ∷ [] })
    else broken w ManyColumns

unfoldable pub parameter_described : Walk → Walk
parameter_described w = if w.at.ciphered then based w.at.inside w else parameter_typed w

-- a type has been passed
abbrev pub described : Inside → Walk → Walk
described (inside.Columns left) w = column_described w
described inside.Parameter w = parameter_described w
described (inside.Row i) w = ended w
described (inside.NullRow i) w = ended w
described (inside.ColumnBase left) w = with_number w (field.Column in_column.Cipher)
described (inside.ParameterBase s) w = with_number w (field.Column in_column.Cipher)

-- crypto metadata have been passed
abbrev pub ciphered : Inside → Walk → Walk
ciphered (inside.ColumnBase left) w =
    with_number (with_inside w (inside.Columns left)) (field.Column in_column.ColumnName)
ciphered (inside.ParameterBase s) w =
    parameter_typed (with_shape (with_inside w inside.Parameter) s)
ciphered _ w = ended w

-- a part of a table's name has been passed
unfoldable pub parted : Walk → Walk
parted w =
    if nat_lt 1 w.at.parts
    then with_number (with_parts w (w.at.parts - 1)) (field.Column in_column.TablePart)
    else behind_table w

-- a column's name has been passed
abbrev pub named : Inside → Walk → Walk
named (inside.Columns left) w =
    if nat_lt 1 left then column_begun (with_inside w (inside.Columns (left - 1))) else ended w
named _ w = ended w

-- ---- Keys

abbrev pub key_begun : Walk → Walk
key_begun w = with_run w 20 (Then (field.Key in_key.KeyValues))

unfoldable pub key_passed : Walk → Walk
key_passed w =
    if nat_lt 1 w.at.left then key_begun (with_left w (w.at.left - 1))
    else columns_begun w.at.inside w

unfoldable pub key_valued : Walk → Walk
key_valued w =
    if nat_lt 1 w.at.parts
    then with_number (with_parts w (w.at.parts - 1)) (field.Key in_key.KeyValue) else key_passed w

-- ---- Data classification

abbrev pub behind_labels : Bool → Walk → Walk
behind_labels false w = with_number w (field.Label (in_label.Labels true))
behind_labels true w = if w.features.ranks
    then with_run w 4 (Then (field.Label in_label.SensitiveColumns))
    else with_number w (field.Label in_label.SensitiveColumns)

unfoldable pub labelled : Bool → Walk → Walk
labelled types w =
    if nat_lt 1 w.at.left
    then with_number (with_left w (w.at.left - 1)) (field.Label (in_label.LabelName types))
    else behind_labels types w

unfoldable pub classified : Walk → Walk
classified w =
    if nat_lt 1 w.at.left
    then with_number (with_left w (w.at.left - 1)) (field.Label in_label.Properties) else ended w

-- ---- Behind a run of bytes

abbrev pub go : Walk → Next → Walk
go w Ended = ended w
go w (Then f) = with_number w f
go w Described = described w.at.inside w
go w Parted = parted w
go w Ciphered = ciphered w.at.inside w
go w Named = named w.at.inside w
go w Valued = valued w.at.inside w
go w KeyValued = key_valued w
go w (Labelled types) = labelled types w
go w Classified = classified w

-- so many bytes are passed
unfoldable pub pass : Walk → ℕ → Next → Walk
pass w n next = if n == 0 then go w next else with_run w n next

-- ---- What each number says

-- a type, by its byte
abbrev pub typed : Walk → TypeInfo → Walk
typed w (info.Info bytes s) = pass (with_shape w s) bytes Described
typed w (info.Limited collated) = with_number w (field.Type (in_type.MaxLength collated))
typed w info.Xml = with_number (with_shape w shape.Parts) (field.Type in_type.Schema)
typed w info.Made = with_run (with_shape w shape.Parts) 2 (Then (field.Type in_type.UdtDatabase))
typed w info.Unknown = broken w UnknownType

abbrev pub with_kind : Walk → ℕ → Walk
with_kind w byte = record w { at = record w.at { kind = byte } }

abbrev pub row_begun : Walk → Walk
row_begun w = if length w.columns == 0 then broken w NoColumns else row_from false w 0

abbrev pub null_row_begun : Walk → Walk
null_row_begun w =
    if length w.columns == 0 then broken w NoColumns
    else with_number (with_inside w (inside.NullRow 0)) (field.Column in_column.Nulls)

-- a token, by its first byte
unfoldable pub begun : Walk → ℕ → Walk
begun w byte =
    if has_length byte then with_number w (field.Token in_token.Length)
    else if is_done byte then with_run w 12 Ended
    else if byte == 0xD1 then row_begun w
    else if byte == 0xD2 then null_row_begun w
    else if byte == 0x81 then with_number w (field.Token in_token.Columns)
    else if byte == 0xE3 then with_number w (field.Token in_token.ChangeLength)
    else if byte == 0x79 then with_run w 4 Ended
    else if byte == 0xAC
    then with_run (with_inside w inside.Parameter) 2 (Then (field.Column in_column.ParameterName))
    else if has_long_length byte then with_number w (field.Token in_token.LongLength)
    else if byte == 0xAE then with_number w (field.Token in_token.Feature)
    else if byte == 0xA3 then with_number w (field.Label (in_label.Labels false))
    else broken w UnknownToken

-- a count of columns, none of which is known now
abbrev pub in_columns : Walk → ℕ → Walk
in_columns w n = with_inside (record w { columns = [] }) (inside.Columns n)

abbrev pub columns_listed : Walk → ℕ → Walk
columns_listed w n =
    if w.features.encryption
    then with_number (in_columns w n) (field.Key in_key.Keys)
    else columns_begun (inside.Columns n) (in_columns w n)

unfoldable pub columns_counted : Walk → ℕ → Walk
columns_counted w n =
    if n == 65535 then ended w
    else if nat_lt w.most n then broken w ManyColumns
    else columns_listed w n

-- eight bits of the null bitmap, of which so many bytes came before
abbrev pub keeping : List ℕ → ℕ → ℕ → List ℕ
keeping nulls place byte = if nat_lt place 512 then slice_set nulls place byte else nulls

abbrev pub keeping_nulls : Walk → ℕ → ℕ → Walk
keeping_nulls w place byte = record w { nulls = keeping w.nulls place byte }

unfoldable pub nulls_taken : Walk → ℕ → ℕ → Walk
nulls_taken w place byte =
    if nat_lt (8 * (place + 1)) (length w.columns)
    then with_number
    (with_inside (keeping_nulls w place byte) (inside.NullRow (place + 1)))
    (field.Column in_column.Nulls)
    else row_from true (keeping_nulls w place byte) 0

abbrev pub null_byte : Inside → Walk → ℕ → Walk
null_byte (inside.NullRow i) w byte = nulls_taken w i byte
null_byte _ w byte = ended w

-- a number that has come
abbrev pub arrive : Walk → Field → ℕ → Walk
arrive w (field.Token in_token.Length) n = pass w n Ended
arrive w (field.Token in_token.LongLength) n = pass w n Ended
arrive w (field.Token in_token.ChangeLength) n =
    if n % 65536 == 0 then ended w
    else with_number w (field.Token (in_token.Change (n % 65536 - 1)))
arrive w (field.Token (in_token.Change left)) n =
    if n == 15 then with_number w (field.Token in_token.PromotedLength) else pass w left Ended
arrive w (field.Token in_token.PromotedLength) n =
    pass w n (Then (field.Token in_token.PromotedOld))
arrive w (field.Token in_token.PromotedOld) n = pass w n Ended
arrive w (field.Token in_token.Feature) n =
    if n == 255 then ended w else with_number w (field.Token in_token.FeatureLength)
arrive w (field.Token in_token.FeatureLength) n = pass w n (Then (field.Token in_token.Feature))
arrive w (field.Token in_token.Columns) n = columns_counted w (n % 65536)
arrive w (field.Key in_key.Keys) n =
    if n % 65536 == 0 then columns_begun w.at.inside w else key_begun (with_left w (n % 65536))
arrive w (field.Key in_key.KeyValues) n =
    if n % 256 == 0 then key_passed w
    else with_number (with_parts w (n % 256)) (field.Key in_key.KeyValue)
arrive w (field.Key in_key.KeyValue) n = pass w n (Then (field.Key in_key.KeyStore))
arrive w (field.Key in_key.KeyStore) n = pass w (2 * n) (Then (field.Key in_key.KeyPath))
arrive w (field.Key in_key.KeyPath) n = pass w (2 * n) (Then (field.Key in_key.KeyAlgorithm))
arrive w (field.Key in_key.KeyAlgorithm) n = pass w (2 * n) KeyValued
arrive w (field.Column in_column.ParameterName) n =
    with_run w (2 * n + 5) (Then (field.Column in_column.Flags))
arrive w (field.Column in_column.Flags) n =
    with_number (with_ciphered w (is_ciphered w.features n)) (field.Type in_type.Type)
arrive w (field.Type in_type.Type) n = typed w (type_of n)
arrive w (field.Type (in_type.MaxLength collated)) n =
    pass (with_shape w (if n == 65535 then shape.Parts else shape.Short))
    (if collated then 5 else 0)
    Described
arrive w (field.Type in_type.Schema) n =
    if n == 0 then go w Described else with_number w (field.Type in_type.XmlDatabase)
arrive w (field.Type in_type.XmlDatabase) n = pass w (2 * n) (Then (field.Type in_type.XmlOwner))
arrive w (field.Type in_type.XmlOwner) n = pass w (2 * n) (Then (field.Type in_type.XmlCollection))
arrive w (field.Type in_type.XmlCollection) n = pass w (2 * n) Described
arrive w (field.Type in_type.UdtDatabase) n = pass w (2 * n) (Then (field.Type in_type.UdtSchema))
arrive w (field.Type in_type.UdtSchema) n = pass w (2 * n) (Then (field.Type in_type.UdtName))
arrive w (field.Type in_type.UdtName) n = pass w (2 * n) (Then (field.Type in_type.UdtAssembly))
arrive w (field.Type in_type.UdtAssembly) n = pass w (2 * n) Described
arrive w (field.Column in_column.TableParts) n =
    if n % 256 == 0 then behind_table w
    else with_number (with_parts w (n % 256)) (field.Column in_column.TablePart)
arrive w (field.Column in_column.TablePart) n = pass w (2 * n) Parted
arrive w (field.Column in_column.Cipher) n =
    if n == 0 then with_number w (field.Column in_column.CipherName) else with_run w 2 Ciphered
arrive w (field.Column in_column.CipherName) n = with_run w (2 * n + 2) Ciphered
arrive w (field.Column in_column.ColumnName) n = pass w (2 * n) Named
arrive w (field.Column in_column.Nulls) n = null_byte w.at.inside w (n % 256)
arrive w (field.Value in_value.ByteCount) n = pass w n Valued
arrive w (field.Value in_value.ShortCount) n = if n == 65535 then go w Valued else pass w n Valued
arrive w (field.Value in_value.LongCount) n =
    if n == 4294967295 then go w Valued else pass w n Valued
arrive w (field.Value in_value.PointerCount) n =
    if n == 0 then go w Valued else with_run w (n + 8) (Then (field.Value in_value.LongCount))
arrive w (field.Value in_value.PartsLow) n =
    with_number w (field.Value (in_value.PartsHigh (n == 4294967295)))
arrive w (field.Value (in_value.PartsHigh ones)) n =
    if ones && (n == 4294967295) then go w Valued
    else with_number w (field.Value in_value.PartCount)
arrive w (field.Value in_value.PartCount) n =
    if n == 0 then go w Valued else with_run w n (Then (field.Value in_value.PartCount))
arrive w (field.Label (in_label.Labels types)) n =
    if n % 65536 == 0 then behind_labels types w
    else with_number (with_left w (n % 65536)) (field.Label (in_label.LabelName types))
arrive w (field.Label (in_label.LabelName types)) n =
    pass w (2 * n) (Then (field.Label (in_label.LabelId types)))
arrive w (field.Label (in_label.LabelId types)) n = pass w (2 * n) (Labelled types)
arrive w (field.Label in_label.SensitiveColumns) n =
    if n % 65536 == 0 then ended w
    else with_number (with_left w (n % 65536)) (field.Label in_label.Properties)
arrive w (field.Label in_label.Properties) n =
    pass w (n * (if w.features.ranks then 8 else 4)) Classified
