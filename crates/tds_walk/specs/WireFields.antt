-- The number that is due in a walk, as a number: its group, and its place there.
use Rattle.std.specs.Prelude.{ℕ, ◌==◌, true, false, Option, Some, None, if◌then◌else◌}
use Rattle.tds_wire.specs.declared.due.Field.{Field}
use Rattle.tds_wire.specs.declared.due.Field.TheVariants as field
use Rattle.tds_wire.specs.declared.due.TokenField.TheVariants as in_token
use Rattle.tds_wire.specs.declared.due.KeyField.TheVariants as in_key
use Rattle.tds_wire.specs.declared.due.ColumnField.TheVariants as in_column
use Rattle.tds_wire.specs.declared.due.TypeField.TheVariants as in_type
use Rattle.tds_wire.specs.declared.due.ValueField.TheVariants as in_value
use Rattle.tds_wire.specs.declared.due.LabelField.TheVariants as in_label
use Rattle.tds_walk.specs.declared.fields.FieldCode.{FieldCode}

-- of types, values and labels
unfoldable pub late_field_from : ℕ → Option Field
late_field_from n =
    if n == 0x31 then Some (field.Type in_type.Type)
    else if n == 0x32 then Some (field.Type (in_type.MaxLength false))
    else if n == 0x33 then Some (field.Type (in_type.MaxLength true))
    else if n == 0x34 then Some (field.Type in_type.Schema)
    else if n == 0x35 then Some (field.Type in_type.XmlDatabase)
    else if n == 0x36 then Some (field.Type in_type.XmlOwner)
    else if n == 0x37 then Some (field.Type in_type.XmlCollection)
    else if n == 0x38 then Some (field.Type in_type.UdtDatabase)
    else if n == 0x39 then Some (field.Type in_type.UdtSchema)
    else if n == 0x3A then Some (field.Type in_type.UdtName)
    else if n == 0x3B then Some (field.Type in_type.UdtAssembly)
    else if n == 0x41 then Some (field.Value in_value.ByteCount)
    else if n == 0x42 then Some (field.Value in_value.ShortCount)
    else if n == 0x43 then Some (field.Value in_value.LongCount)
    else if n == 0x44 then Some (field.Value in_value.PointerCount)
    else if n == 0x45 then Some (field.Value in_value.PartsLow)
    else if n == 0x46 then Some (field.Value (in_value.PartsHigh false))
    else if n == 0x47 then Some (field.Value (in_value.PartsHigh true))
    else if n == 0x48 then Some (field.Value in_value.PartCount)
    else if n == 0x51 then Some (field.Label (in_label.Labels false))
    else if n == 0x52 then Some (field.Label (in_label.Labels true))
    else if n == 0x53 then Some (field.Label (in_label.LabelName false))
    else if n == 0x54 then Some (field.Label (in_label.LabelName true))
    else if n == 0x55 then Some (field.Label (in_label.LabelId false))
    else if n == 0x56 then Some (field.Label (in_label.LabelId true))
    else if n == 0x57 then Some (field.Label in_label.SensitiveColumns)
    else if n == 0x58 then Some (field.Label in_label.Properties)
    else None

unfoldable pub field_from : FieldCode → Option Field
field_from c =
    if c.code == 0x01 then Some (field.Token in_token.Length)
    else if c.code == 0x02 then Some (field.Token in_token.LongLength)
    else if c.code == 0x03 then Some (field.Token in_token.ChangeLength)
    else if c.code == 0x04 then Some (field.Token (in_token.Change c.change))
    else if c.code == 0x05 then Some (field.Token in_token.PromotedLength)
    else if c.code == 0x06 then Some (field.Token in_token.PromotedOld)
    else if c.code == 0x07 then Some (field.Token in_token.Feature)
    else if c.code == 0x08 then Some (field.Token in_token.FeatureLength)
    else if c.code == 0x09 then Some (field.Token in_token.Columns)
    else if c.code == 0x11 then Some (field.Key in_key.Keys)
    else if c.code == 0x12 then Some (field.Key in_key.KeyValues)
    else if c.code == 0x13 then Some (field.Key in_key.KeyValue)
    else if c.code == 0x14 then Some (field.Key in_key.KeyStore)
    else if c.code == 0x15 then Some (field.Key in_key.KeyPath)
    else if c.code == 0x16 then Some (field.Key in_key.KeyAlgorithm)
    else if c.code == 0x21 then Some (field.Column in_column.ParameterName)
    else if c.code == 0x22 then Some (field.Column in_column.Flags)
    else if c.code == 0x23 then Some (field.Column in_column.TableParts)
    else if c.code == 0x24 then Some (field.Column in_column.TablePart)
    else if c.code == 0x25 then Some (field.Column in_column.Cipher)
    else if c.code == 0x26 then Some (field.Column in_column.CipherName)
    else if c.code == 0x27 then Some (field.Column in_column.ColumnName)
    else if c.code == 0x28 then Some (field.Column in_column.Nulls)
    else late_field_from c.code
