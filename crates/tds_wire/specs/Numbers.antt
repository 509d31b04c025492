-- The numbers inside a token: how wide each one is, and what it is when another byte has come. The lowest byte comes first.
use Rattle.std.specs.Prelude.{ℕ, ◌+◌, ◌*◌, ◌/◌}
use Rattle.tds_wire.specs.declared.due.Field.{Field}
use Rattle.tds_wire.specs.declared.due.Field.TheVariants as field
use Rattle.tds_wire.specs.declared.due.TokenField.TheVariants as in_token
use Rattle.tds_wire.specs.declared.due.KeyField.TheVariants as in_key
use Rattle.tds_wire.specs.declared.due.ColumnField.TheVariants as in_column
use Rattle.tds_wire.specs.declared.due.TypeField.TheVariants as in_type
use Rattle.tds_wire.specs.declared.due.ValueField.TheVariants as in_value
use Rattle.tds_wire.specs.declared.due.LabelField.TheVariants as in_label
use Rattle.tds_wire.specs.declared.due.Width.{Width}
use Rattle.tds_wire.specs.declared.due.Width.TheVariants.{One, Two, Four}

abbrev pub width_of : Field → Width
width_of (field.Token in_token.Length) = Two
width_of (field.Token in_token.LongLength) = Four
width_of (field.Token in_token.ChangeLength) = Two
width_of (field.Token (in_token.Change left)) = One
width_of (field.Token in_token.PromotedLength) = Four
width_of (field.Token in_token.PromotedOld) = One
width_of (field.Token in_token.Feature) = One
width_of (field.Token in_token.FeatureLength) = Four
width_of (field.Token in_token.Columns) = Two
width_of (field.Key in_key.Keys) = Two
width_of (field.Key in_key.KeyValues) = One
width_of (field.Key in_key.KeyValue) = Two
width_of (field.Key in_key.KeyStore) = One
width_of (field.Key in_key.KeyPath) = Two
width_of (field.Key in_key.KeyAlgorithm) = One
width_of (field.Column in_column.ParameterName) = One
width_of (field.Column in_column.Flags) = Two
width_of (field.Type in_type.Type) = One
width_of (field.Type (in_type.MaxLength collated)) = Two
width_of (field.Type in_type.Schema) = One
width_of (field.Type in_type.XmlDatabase) = One
width_of (field.Type in_type.XmlOwner) = One
width_of (field.Type in_type.XmlCollection) = Two
width_of (field.Type in_type.UdtDatabase) = One
width_of (field.Type in_type.UdtSchema) = One
width_of (field.Type in_type.UdtName) = One
width_of (field.Type in_type.UdtAssembly) = Two
width_of (field.Column in_column.TableParts) = One
width_of (field.Column in_column.TablePart) = Two
width_of (field.Column in_column.Cipher) = One
width_of (field.Column in_column.CipherName) = One
width_of (field.Column in_column.ColumnName) = One
width_of (field.Column in_column.Nulls) = One
width_of (field.Value in_value.ByteCount) = One
width_of (field.Value in_value.ShortCount) = Two
width_of (field.Value in_value.LongCount) = Four
width_of (field.Value in_value.PointerCount) = One
width_of (field.Value in_value.PartsLow) = Four
width_of (field.Value (in_value.PartsHigh ones)) = Four
width_of (field.Value in_value.PartCount) = Four
width_of (field.Label (in_label.Labels types)) = Two
width_of (field.Label (in_label.LabelName types)) = One
width_of (field.Label (in_label.LabelId types)) = One
width_of (field.Label in_label.SensitiveColumns) = Two
width_of (field.Label in_label.Properties) = Two

abbrev pub bytes_of : Width → ℕ
bytes_of One = 1
bytes_of Two = 2
bytes_of Four = 4

-- a byte more
abbrev pub shifted : Width → ℕ → ℕ → ℕ
shifted One value byte = byte
shifted Two value byte = value / 256 + 256 * byte
shifted Four value byte = value / 256 + 16777216 * byte
