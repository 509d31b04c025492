-- What is due doesn't matter once it has come.
use Rattle.std.proofs.Common.{◌≡◌, refl, ap, ℕ, ◌+◌, ◌-◌, ◌*◌, ◌%◌, ◌==◌, ◌&&◌, nat_lt, Bool, true, false, [], ◌∷◌, ◌++◌, length, if◌then◌else◌}
use Rattle.tds_wire.specs.declared.fault.WireFault.TheVariants.{ManyColumns}
use Rattle.tds_wire.specs.declared.shape.Shape.{Shape}
use Rattle.tds_wire.specs.declared.shape.Shape.TheVariants as shape
use Rattle.tds_wire.specs.declared.types.TypeInfo.{TypeInfo}
use Rattle.tds_wire.specs.declared.types.TypeInfo.TheVariants as info
use Rattle.tds_wire.specs.declared.due.Field.{Field}
use Rattle.tds_wire.specs.declared.due.Field.TheVariants as field
use Rattle.tds_wire.specs.declared.due.TokenField.TheVariants as in_token
use Rattle.tds_wire.specs.declared.due.KeyField.TheVariants as in_key
use Rattle.tds_wire.specs.declared.due.ColumnField.TheVariants as in_column
use Rattle.tds_wire.specs.declared.due.TypeField.TheVariants as in_type
use Rattle.tds_wire.specs.declared.due.ValueField.TheVariants as in_value
use Rattle.tds_wire.specs.declared.due.LabelField.TheVariants as in_label
use Rattle.tds_wire.specs.declared.due.Next.{Next}
use Rattle.tds_wire.specs.declared.due.Next.TheVariants.{Ended, Then, Described, Parted, Ciphered, Named, Valued, KeyValued, Labelled, Classified}
use Rattle.tds_wire.specs.declared.due.Due.{Due}
use Rattle.tds_wire.specs.declared.due.Inside.{Inside}
use Rattle.tds_wire.specs.declared.due.Inside.TheVariants as inside
use Rattle.tds_wire.specs.Types.{type_of}
use Rattle.tds_wire.specs.Walking.{Walk, with_due, with_number, with_run, with_shape, with_left, with_parts, behind_type, behind_table, based, broken, at_column, columns_begun, columns_counted, column_described, parameter_described, parameter_typed, described, ciphered, parted, named, valued, go, pass, typed, nulls_taken, null_byte, arrive, key_begun, key_passed, key_valued, behind_labels, labelled, classified}

abbrev column_branch : Walk → Walk → Walk
column_branch w x = if nat_lt (length w.columns) w.most then x else broken w ManyColumns

based_due : (i : Inside) (w : Walk) (d : Due) → based i (with_due w d) ≡ based i w
based_due (inside.Columns left) w d = refl
based_due inside.Parameter w d = refl
based_due (inside.Row i) w d = refl
based_due (inside.NullRow i) w d = refl
based_due (inside.ColumnBase left) w d = refl
based_due (inside.ParameterBase s) w d = refl

table_due : (w : Walk) (d : Due) → behind_table (with_due w d) ≡ behind_table w
unfolding behind_table
table_due w d = ap (λ (x : Walk). if w.at.ciphered then x else with_number w (field.Column in_column.ColumnName)) (based_due w.at.inside w d)

type_due : (s : Shape) (w : Walk) (d : Due) → behind_type s (with_due w d) ≡ behind_type s w
type_due (shape.Fixed n) w d = table_due w d
type_due shape.Byte w d = table_due w d
type_due shape.Short w d = table_due w d
type_due shape.Long w d = table_due w d
type_due shape.Pointer w d = refl
type_due shape.Parts w d = table_due w d

parameter_due : (w : Walk) (d : Due) → parameter_described (with_due w d) ≡ parameter_described w
unfolding parameter_described parameter_typed
parameter_due w d = ap (λ (x : Walk). if w.at.ciphered then x else parameter_typed w) (based_due w.at.inside w d)

described_due : (i : Inside) (w : Walk) (d : Due) → described i (with_due w d) ≡ described i w
unfolding column_described
described_due (inside.Columns left) w d = ap (column_branch w) (type_due w.at.shape (record w { columns = w.columns ++ w.at.shape ∷ [] }) d)
described_due inside.Parameter w d = parameter_due w d
described_due (inside.Row i) w d = refl
described_due (inside.NullRow i) w d = refl
described_due (inside.ColumnBase left) w d = refl
described_due (inside.ParameterBase s) w d = refl

ciphered_due : (i : Inside) (w : Walk) (d : Due) → ciphered i (with_due w d) ≡ ciphered i w
unfolding parameter_typed
ciphered_due (inside.Columns left) w d = refl
ciphered_due inside.Parameter w d = refl
ciphered_due (inside.Row i) w d = refl
ciphered_due (inside.NullRow i) w d = refl
ciphered_due (inside.ColumnBase left) w d = refl
ciphered_due (inside.ParameterBase s) w d = refl

parted_due : (w : Walk) (d : Due) → parted (with_due w d) ≡ parted w
unfolding parted
parted_due w d = ap (λ (x : Walk). if nat_lt 1 w.at.parts then with_number (with_parts w (w.at.parts - 1)) (field.Column in_column.TablePart) else x) (table_due w d)

named_due : (i : Inside) (w : Walk) (d : Due) → named i (with_due w d) ≡ named i w
named_due (inside.Columns left) w d = refl
named_due inside.Parameter w d = refl
named_due (inside.Row i) w d = refl
named_due (inside.NullRow i) w d = refl
named_due (inside.ColumnBase left) w d = refl
named_due (inside.ParameterBase s) w d = refl

valued_due : (i : Inside) (w : Walk) (d : Due) → valued i (with_due w d) ≡ valued i w
unfolding at_column
valued_due (inside.Columns left) w d = refl
valued_due inside.Parameter w d = refl
valued_due (inside.Row i) w d = refl
valued_due (inside.NullRow i) w d = refl
valued_due (inside.ColumnBase left) w d = refl
valued_due (inside.ParameterBase s) w d = refl

begun_due : (i : Inside) (w : Walk) (d : Due) → columns_begun i (with_due w d) ≡ columns_begun i w
begun_due (inside.Columns left) w d = refl
begun_due inside.Parameter w d = refl
begun_due (inside.Row i) w d = refl
begun_due (inside.NullRow i) w d = refl
begun_due (inside.ColumnBase left) w d = refl
begun_due (inside.ParameterBase s) w d = refl

key_due : (w : Walk) (d : Due) → key_passed (with_due w d) ≡ key_passed w
unfolding key_passed
key_due w d = ap (λ (x : Walk). if nat_lt 1 w.at.left then key_begun (with_left w (w.at.left - 1)) else x) (begun_due w.at.inside w d)

key_valued_due : (w : Walk) (d : Due) → key_valued (with_due w d) ≡ key_valued w
unfolding key_valued
key_valued_due w d = ap (λ (x : Walk). if nat_lt 1 w.at.parts then with_number (with_parts w (w.at.parts - 1)) (field.Key in_key.KeyValue) else x) (key_due w d)

labels_due : (types : Bool) (w : Walk) (d : Due) → behind_labels types (with_due w d) ≡ behind_labels types w
labels_due false w d = refl
labels_due true w d = refl

labelled_due : (types : Bool) (w : Walk) (d : Due) → labelled types (with_due w d) ≡ labelled types w
unfolding labelled
labelled_due types w d = ap (λ (x : Walk). if nat_lt 1 w.at.left then with_number (with_left w (w.at.left - 1)) (field.Label (in_label.LabelName types)) else x) (labels_due types w d)

pub go_due : (w : Walk) (d : Due) (next : Next) → go (with_due w d) next ≡ go w next
unfolding classified
go_due w d Ended = refl
go_due w d (Then f) = refl
go_due w d Described = described_due w.at.inside w d
go_due w d Parted = parted_due w d
go_due w d Ciphered = ciphered_due w.at.inside w d
go_due w d Named = named_due w.at.inside w d
go_due w d Valued = valued_due w.at.inside w d
go_due w d KeyValued = key_valued_due w d
go_due w d (Labelled types) = labelled_due types w d
go_due w d Classified = refl

pass_due : (w : Walk) (d : Due) (n : ℕ) (next : Next) → pass (with_due w d) n next ≡ pass w n next
unfolding pass
pass_due w d n next = ap (λ (x : Walk). if n == 0 then x else with_run w n next) (go_due w d next)

either_due : (b : Bool) (w : Walk) (d : Due) (n : ℕ) → (if b then go (with_due w d) Valued else pass (with_due w d) n Valued) ≡ (if b then go w Valued else pass w n Valued)
either_due true w d n = go_due w d Valued
either_due false w d n = pass_due w d n Valued

typed_due : (w : Walk) (d : Due) (i : TypeInfo) → typed (with_due w d) i ≡ typed w i
typed_due w d (info.Info bytes s) = pass_due (with_shape w s) d bytes Described
typed_due w d (info.Limited collated) = refl
typed_due w d info.Xml = refl
typed_due w d info.Made = refl
typed_due w d info.Unknown = refl

null_due : (i : Inside) (w : Walk) (d : Due) (b : ℕ) → null_byte i (with_due w d) b ≡ null_byte i w b
unfolding nulls_taken at_column
null_due (inside.Columns left) w d b = refl
null_due inside.Parameter w d b = refl
null_due (inside.Row i) w d b = refl
null_due (inside.NullRow i) w d b = refl
null_due (inside.ColumnBase left) w d b = refl
null_due (inside.ParameterBase s) w d b = refl

pub arrive_due : (w : Walk) (d : Due) (f : Field) (n : ℕ) → arrive (with_due w d) f n ≡ arrive w f n
unfolding pass columns_counted
arrive_due w d (field.Token in_token.Length) n = refl
arrive_due w d (field.Token in_token.LongLength) n = refl
arrive_due w d (field.Token in_token.ChangeLength) n = refl
arrive_due w d (field.Token (in_token.Change left)) n = refl
arrive_due w d (field.Token in_token.PromotedLength) n = refl
arrive_due w d (field.Token in_token.PromotedOld) n = refl
arrive_due w d (field.Token in_token.Feature) n = refl
arrive_due w d (field.Token in_token.FeatureLength) n = refl
arrive_due w d (field.Token in_token.Columns) n = refl
arrive_due w d (field.Key in_key.Keys) n = ap (λ (x : Walk). if n % 65536 == 0 then x else key_begun (with_left w (n % 65536))) (begun_due w.at.inside w d)
arrive_due w d (field.Key in_key.KeyValues) n = ap (λ (x : Walk). if n % 256 == 0 then x else with_number (with_parts w (n % 256)) (field.Key in_key.KeyValue)) (key_due w d)
arrive_due w d (field.Key in_key.KeyValue) n = refl
arrive_due w d (field.Key in_key.KeyStore) n = refl
arrive_due w d (field.Key in_key.KeyPath) n = refl
arrive_due w d (field.Key in_key.KeyAlgorithm) n = pass_due w d (2 * n) KeyValued
arrive_due w d (field.Column in_column.ParameterName) n = refl
arrive_due w d (field.Column in_column.Flags) n = refl
arrive_due w d (field.Type in_type.Type) n = typed_due w d (type_of n)
arrive_due w d (field.Type (in_type.MaxLength collated)) n = pass_due (with_shape w (if n == 65535 then shape.Parts else shape.Short)) d (if collated then 5 else 0) Described
arrive_due w d (field.Type in_type.Schema) n = ap (λ (x : Walk). if n == 0 then x else with_number w (field.Type in_type.XmlDatabase)) (go_due w d Described)
arrive_due w d (field.Type in_type.XmlDatabase) n = refl
arrive_due w d (field.Type in_type.XmlOwner) n = refl
arrive_due w d (field.Type in_type.XmlCollection) n = pass_due w d (2 * n) Described
arrive_due w d (field.Type in_type.UdtDatabase) n = refl
arrive_due w d (field.Type in_type.UdtSchema) n = refl
arrive_due w d (field.Type in_type.UdtName) n = refl
arrive_due w d (field.Type in_type.UdtAssembly) n = pass_due w d (2 * n) Described
arrive_due w d (field.Column in_column.TableParts) n = ap (λ (x : Walk). if n % 256 == 0 then x else with_number (with_parts w (n % 256)) (field.Column in_column.TablePart)) (table_due w d)
arrive_due w d (field.Column in_column.TablePart) n = pass_due w d (2 * n) Parted
arrive_due w d (field.Column in_column.Cipher) n = refl
arrive_due w d (field.Column in_column.CipherName) n = refl
arrive_due w d (field.Column in_column.ColumnName) n = pass_due w d (2 * n) Named
arrive_due w d (field.Column in_column.Nulls) n = null_due w.at.inside w d (n % 256)
arrive_due w d (field.Value in_value.ByteCount) n = pass_due w d n Valued
arrive_due w d (field.Value in_value.ShortCount) n = either_due (n == 65535) w d n
arrive_due w d (field.Value in_value.LongCount) n = either_due (n == 4294967295) w d n
arrive_due w d (field.Value in_value.PointerCount) n = ap (λ (x : Walk). if n == 0 then x else with_run w (n + 8) (Then (field.Value in_value.LongCount))) (go_due w d Valued)
arrive_due w d (field.Value in_value.PartsLow) n = refl
arrive_due w d (field.Value (in_value.PartsHigh ones)) n = ap (λ (x : Walk). if ones && (n == 4294967295) then x else with_number w (field.Value in_value.PartCount)) (go_due w d Valued)
arrive_due w d (field.Value in_value.PartCount) n = ap (λ (x : Walk). if n == 0 then x else with_run w n (Then (field.Value in_value.PartCount))) (go_due w d Valued)
arrive_due w d (field.Label (in_label.Labels types)) n = ap (λ (x : Walk). if n % 65536 == 0 then x else with_number (with_left w (n % 65536)) (field.Label (in_label.LabelName types))) (labels_due types w d)
arrive_due w d (field.Label (in_label.LabelName types)) n = refl
arrive_due w d (field.Label (in_label.LabelId types)) n = pass_due w d (2 * n) (Labelled types)
arrive_due w d (field.Label in_label.SensitiveColumns) n = refl
arrive_due w d (field.Label in_label.Properties) n = pass_due w d (n * (if w.features.ranks then 8 else 4)) Classified
