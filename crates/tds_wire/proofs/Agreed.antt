-- The columns that there is room for, and what a login acknowledged, stay.
use Rattle.std.proofs.Common.{◌≡◌, refl, sym, ◌∙◌, subst, ℕ, ◌*◌, ◌%◌, ◌==◌, nat_lt, Bool, true, false, List, [], ◌∷◌, ◌++◌, length, if◌then◌else◌}
use Rattle.tds_wire.specs.declared.shape.Shape.{Shape}
use Rattle.tds_wire.specs.declared.shape.Shape.TheVariants as shape
use Rattle.tds_wire.specs.declared.types.TypeInfo.{TypeInfo}
use Rattle.tds_wire.specs.declared.types.TypeInfo.TheVariants as info
use Rattle.tds_wire.specs.declared.due.Field.{Field}
use Rattle.tds_wire.specs.declared.due.Field.TheVariants as field
use Rattle.tds_wire.specs.declared.due.TokenField.TheVariants as in_token
use Rattle.tds_wire.specs.declared.due.KeyField.TheVariants as in_key
use Rattle.tds_wire.specs.declared.due.ColumnField.TheVariants as in_column
use Rattle.tds_wire.specs.declared.due.TypeField.TheVariants as in_type
use Rattle.tds_wire.specs.declared.due.ValueField.TheVariants as in_value
use Rattle.tds_wire.specs.declared.due.LabelField.TheVariants as in_label
use Rattle.tds_wire.specs.declared.due.Next.{Next}
use Rattle.tds_wire.specs.declared.due.Next.TheVariants.{Ended, Then, Described, Parted, Ciphered, Named, Valued, KeyValued, Labelled, Classified}
use Rattle.tds_wire.specs.declared.due.Inside.{Inside}
use Rattle.tds_wire.specs.declared.due.Inside.TheVariants as inside
use Rattle.tds_wire.specs.declared.due.Due.{Due}
use Rattle.tds_wire.specs.declared.due.Due.TheVariants.{Token, Number, Run, Broken}
use Rattle.tds_wire.specs.declared.due.Standing.{Standing}
use Rattle.tds_wire.specs.declared.due.Standing.TheVariants.{Between, Going, Failing}
use Rattle.tds_wire.specs.Types.{type_of}
use Rattle.tds_wire.specs.Layout.{has_length, has_long_length, is_done}
use Rattle.tds_wire.specs.Walking.{Walk, with_kind, with_inside, at_column, valued, columns_begun, parameter_typed, based, behind_table, behind_type, column_described, parameter_described, described, ciphered, parted, named, key_passed, key_valued, behind_labels, labelled, classified, go, pass, typed, row_begun, null_row_begun, begun, columns_listed, columns_counted, nulls_taken, keeping_nulls, null_byte, arrive}
use Rattle.tds_wire.specs.Bytes.{step_by, walk_step, standing, Went, Over, Within, Failed, went_by, went_on, to_end, onward}

-- both stay
abbrev pub Same : Walk → Walk → Type 0
Same w v = (v.most ≡ w.most) × (v.features ≡ w.features)

same : (w : Walk) → Same w w
same w = (refl, refl)

by : (b : Bool) (w x y : Walk) → Same w x → Same w y → Same w (if b then x else y)
by true w x y h k = h
by false w x y h k = k

then_same : (w v u : Walk) → Same w v → Same v u → Same w u
then_same w v u h k = (k.0 ∙ h.0, k.1 ∙ h.1)

-- ---- Rows

column_same : (nulls : Bool) (w : Walk) (i : ℕ) → Same w (at_column nulls w i)
unfolding at_column
column_same nulls w i = by (nat_lt i (length w.columns)) w _ _ (refl, refl) (refl, refl)

valued_same : (at : Inside) (w : Walk) → Same w (valued at w)
valued_same (inside.Columns left) w = same w
valued_same inside.Parameter w = same w
valued_same (inside.Row i) w = column_same false w _
valued_same (inside.NullRow i) w = column_same true w _
valued_same (inside.ColumnBase left) w = same w
valued_same (inside.ParameterBase s) w = same w

-- ---- Columns and parameters

begun_columns_same : (at : Inside) (w : Walk) → Same w (columns_begun at w)
begun_columns_same (inside.Columns left) w = by (left == 0) w _ _ (refl, refl) (refl, refl)
begun_columns_same inside.Parameter w = same w
begun_columns_same (inside.Row i) w = same w
begun_columns_same (inside.NullRow i) w = same w
begun_columns_same (inside.ColumnBase left) w = same w
begun_columns_same (inside.ParameterBase s) w = same w

parameter_same : (w : Walk) → Same w (parameter_typed w)
unfolding parameter_typed
parameter_same w = by _ w _ _ (refl, refl) (refl, refl)

based_same : (at : Inside) (w : Walk) → Same w (based at w)
based_same (inside.Columns left) w = same w
based_same inside.Parameter w = same w
based_same (inside.Row i) w = same w
based_same (inside.NullRow i) w = same w
based_same (inside.ColumnBase left) w = same w
based_same (inside.ParameterBase s) w = same w

table_same : (w : Walk) → Same w (behind_table w)
unfolding behind_table
table_same w = by w.at.ciphered w _ _ (based_same w.at.inside w) (refl, refl)

behind_type_same : (s : Shape) (w : Walk) → Same w (behind_type s w)
behind_type_same (shape.Fixed n) w = table_same w
behind_type_same shape.Byte w = table_same w
behind_type_same shape.Short w = table_same w
behind_type_same shape.Long w = table_same w
behind_type_same shape.Pointer w = same w
behind_type_same shape.Parts w = table_same w

column_described_same : (w : Walk) → Same w (column_described w)
unfolding column_described
column_described_same w =
    by _ w _ _ (let h = behind_type_same w.at.shape (record w { columns = w.columns ++ w.at.shape ∷ [] }) in (h.0, h.1)) (refl, refl)

parameter_described_same : (w : Walk) → Same w (parameter_described w)
unfolding parameter_described
parameter_described_same w = by w.at.ciphered w _ _ (based_same w.at.inside w) (parameter_same w)

described_same : (at : Inside) (w : Walk) → Same w (described at w)
described_same (inside.Columns left) w = column_described_same w
described_same inside.Parameter w = parameter_described_same w
described_same (inside.Row i) w = same w
described_same (inside.NullRow i) w = same w
described_same (inside.ColumnBase left) w = same w
described_same (inside.ParameterBase s) w = same w

ciphered_same : (at : Inside) (w : Walk) → Same w (ciphered at w)
ciphered_same (inside.Columns left) w = same w
ciphered_same inside.Parameter w = same w
ciphered_same (inside.Row i) w = same w
ciphered_same (inside.NullRow i) w = same w
ciphered_same (inside.ColumnBase left) w = same w
ciphered_same (inside.ParameterBase s) w =
    let h = parameter_same (record w { at = record w.at { inside = inside.Parameter; shape = s } }) in (h.0, h.1)

parted_same : (w : Walk) → Same w (parted w)
unfolding parted
parted_same w = by _ w _ _ (refl, refl) (table_same w)

named_same : (at : Inside) (w : Walk) → Same w (named at w)
named_same (inside.Columns left) w = by _ w _ _ (refl, refl) (refl, refl)
named_same inside.Parameter w = same w
named_same (inside.Row i) w = same w
named_same (inside.NullRow i) w = same w
named_same (inside.ColumnBase left) w = same w
named_same (inside.ParameterBase s) w = same w

-- ---- Keys and labels

key_passed_same : (w : Walk) → Same w (key_passed w)
unfolding key_passed
key_passed_same w = by _ w _ _ (refl, refl) (begun_columns_same w.at.inside w)

key_valued_same : (w : Walk) → Same w (key_valued w)
unfolding key_valued
key_valued_same w = by _ w _ _ (refl, refl) (key_passed_same w)

behind_labels_same : (types : Bool) (w : Walk) → Same w (behind_labels types w)
behind_labels_same false w = same w
behind_labels_same true w = by w.features.ranks w _ _ (refl, refl) (refl, refl)

labelled_same : (types : Bool) (w : Walk) → Same w (labelled types w)
unfolding labelled
labelled_same types w = by _ w _ _ (refl, refl) (behind_labels_same types w)

classified_same : (w : Walk) → Same w (classified w)
unfolding classified
classified_same w = by _ w _ _ (refl, refl) (refl, refl)

-- ---- Behind a run of bytes

go_same : (next : Next) (w : Walk) → Same w (go w next)
go_same Ended w = same w
go_same (Then f) w = same w
go_same Described w = described_same w.at.inside w
go_same Parted w = parted_same w
go_same Ciphered w = ciphered_same w.at.inside w
go_same Named w = named_same w.at.inside w
go_same Valued w = valued_same w.at.inside w
go_same KeyValued w = key_valued_same w
go_same (Labelled types) w = labelled_same types w
go_same Classified w = classified_same w

pass_same : (w : Walk) (n : ℕ) (next : Next) → Same w (pass w n next)
unfolding pass
pass_same w n next = by (n == 0) w _ _ (go_same next w) (refl, refl)

-- ---- Behind a number

typed_same : (t : TypeInfo) (w : Walk) → Same w (typed w t)
typed_same (info.Info bytes s) w = let h = pass_same (record w { at = record w.at { shape = s } }) bytes Described in (h.0, h.1)
typed_same (info.Limited collated) w = same w
typed_same info.Xml w = same w
typed_same info.Made w = same w
typed_same info.Unknown w = same w

listed_same : (w : Walk) (n : ℕ) → Same w (columns_listed w n)
listed_same w n =
    by w.features.encryption w _ _ (refl, refl)
    (let h = begun_columns_same (inside.Columns n) (with_inside (record w { columns = [] }) (inside.Columns n)) in (h.0, h.1))

counted_same : (w : Walk) (n : ℕ) → Same w (columns_counted w n)
unfolding columns_counted
counted_same w n = by (n == 65535) w _ _ (refl, refl) (by (nat_lt w.most n) w _ _ (refl, refl) (listed_same w n))

nulls_same : (w : Walk) (i n : ℕ) → Same w (nulls_taken w i n)
unfolding nulls_taken
nulls_same w i n = by _ w _ _ (refl, refl) (let h = column_same true (keeping_nulls w i n) _ in (h.0, h.1))

null_byte_same : (at : Inside) (w : Walk) (n : ℕ) → Same w (null_byte at w n)
null_byte_same (inside.Columns left) w n = same w
null_byte_same inside.Parameter w n = same w
null_byte_same (inside.Row i) w n = same w
null_byte_same (inside.NullRow i) w n = nulls_same w i n
null_byte_same (inside.ColumnBase left) w n = same w
null_byte_same (inside.ParameterBase s) w n = same w

limit_same : (w : Walk) (s : Shape) (n : ℕ) → Same w (pass (record w { at = record w.at { shape = s } }) n Described)
limit_same w s n = let h = pass_same (record w { at = record w.at { shape = s } }) n Described in (h.0, h.1)

arrive_same : (f : Field) (w : Walk) (n : ℕ) → Same w (arrive w f n)
arrive_same (field.Token in_token.Length) w n = pass_same w n Ended
arrive_same (field.Token in_token.LongLength) w n = pass_same w n Ended
arrive_same (field.Token in_token.ChangeLength) w n = by _ w _ _ (refl, refl) (refl, refl)
arrive_same (field.Token (in_token.Change left)) w n = by _ w _ _ (refl, refl) (pass_same w left Ended)
arrive_same (field.Token in_token.PromotedLength) w n = pass_same w n _
arrive_same (field.Token in_token.PromotedOld) w n = pass_same w n Ended
arrive_same (field.Token in_token.Feature) w n = by _ w _ _ (refl, refl) (refl, refl)
arrive_same (field.Token in_token.FeatureLength) w n = pass_same w n _
arrive_same (field.Token in_token.Columns) w n = counted_same w (n % 65536)
arrive_same (field.Key in_key.Keys) w n = by _ w _ _ (begun_columns_same w.at.inside w) (refl, refl)
arrive_same (field.Key in_key.KeyValues) w n = by _ w _ _ (key_passed_same w) (refl, refl)
arrive_same (field.Key in_key.KeyValue) w n = pass_same w n _
arrive_same (field.Key in_key.KeyStore) w n = pass_same w (2 * n) _
arrive_same (field.Key in_key.KeyPath) w n = pass_same w (2 * n) _
arrive_same (field.Key in_key.KeyAlgorithm) w n = pass_same w (2 * n) KeyValued
arrive_same (field.Column in_column.ParameterName) w n = same w
arrive_same (field.Column in_column.Flags) w n = (refl, refl)
arrive_same (field.Type in_type.Type) w n = typed_same (type_of n) w
arrive_same (field.Type (in_type.MaxLength collated)) w n = limit_same w _ _
arrive_same (field.Type in_type.Schema) w n = by _ w _ _ (described_same w.at.inside w) (refl, refl)
arrive_same (field.Type in_type.XmlDatabase) w n = pass_same w (2 * n) _
arrive_same (field.Type in_type.XmlOwner) w n = pass_same w (2 * n) _
arrive_same (field.Type in_type.XmlCollection) w n = pass_same w (2 * n) Described
arrive_same (field.Type in_type.UdtDatabase) w n = pass_same w (2 * n) _
arrive_same (field.Type in_type.UdtSchema) w n = pass_same w (2 * n) _
arrive_same (field.Type in_type.UdtName) w n = pass_same w (2 * n) _
arrive_same (field.Type in_type.UdtAssembly) w n = pass_same w (2 * n) Described
arrive_same (field.Column in_column.TableParts) w n = by _ w _ _ (table_same w) (refl, refl)
arrive_same (field.Column in_column.TablePart) w n = pass_same w (2 * n) Parted
arrive_same (field.Column in_column.Cipher) w n = by _ w _ _ (refl, refl) (refl, refl)
arrive_same (field.Column in_column.CipherName) w n = same w
arrive_same (field.Column in_column.ColumnName) w n = pass_same w (2 * n) Named
arrive_same (field.Column in_column.Nulls) w n = null_byte_same w.at.inside w (n % 256)
arrive_same (field.Value in_value.ByteCount) w n = pass_same w n Valued
arrive_same (field.Value in_value.ShortCount) w n = by _ w _ _ (valued_same w.at.inside w) (pass_same w n Valued)
arrive_same (field.Value in_value.LongCount) w n = by _ w _ _ (valued_same w.at.inside w) (pass_same w n Valued)
arrive_same (field.Value in_value.PointerCount) w n = by _ w _ _ (valued_same w.at.inside w) (refl, refl)
arrive_same (field.Value in_value.PartsLow) w n = same w
arrive_same (field.Value (in_value.PartsHigh ones)) w n = by _ w _ _ (valued_same w.at.inside w) (refl, refl)
arrive_same (field.Value in_value.PartCount) w n = by _ w _ _ (valued_same w.at.inside w) (refl, refl)
arrive_same (field.Label (in_label.Labels types)) w n = by _ w _ _ (behind_labels_same types w) (refl, refl)
arrive_same (field.Label (in_label.LabelName types)) w n = pass_same w (2 * n) _
arrive_same (field.Label (in_label.LabelId types)) w n = pass_same w (2 * n) (Labelled types)
arrive_same (field.Label in_label.SensitiveColumns) w n = by _ w _ _ (refl, refl) (refl, refl)
arrive_same (field.Label in_label.Properties) w n = pass_same w _ Classified

-- ---- Each byte

row_begun_same : (w : Walk) → Same w (row_begun w)
row_begun_same w = by _ w _ _ (refl, refl) (column_same false w _)

null_row_begun_same : (w : Walk) → Same w (null_row_begun w)
null_row_begun_same w = by _ w _ _ (refl, refl) (refl, refl)

begun_same : (w : Walk) (byte : ℕ) → Same w (begun w byte)
unfolding begun
begun_same w byte =
    by (has_length byte) w _ _ (refl, refl) (
    by (is_done byte) w _ _ (refl, refl) (
    by (byte == 0xD1) w _ _ (row_begun_same w) (
    by (byte == 0xD2) w _ _ (null_row_begun_same w) (
    by (byte == 0x81) w _ _ (refl, refl) (
    by (byte == 0xE3) w _ _ (refl, refl) (
    by (byte == 0x79) w _ _ (refl, refl) (
    by (byte == 0xAC) w _ _ (refl, refl) (
    by (has_long_length byte) w _ _ (refl, refl) (
    by (byte == 0xAE) w _ _ (refl, refl) (
    by (byte == 0xA3) w _ _ (refl, refl) (refl, refl)))))))))))

due_same : (d : Due) (w : Walk) (byte : ℕ) → Same w (step_by d w byte)
due_same Token w byte = let h = begun_same (with_kind w byte) byte in (h.0, h.1)
due_same (Number f left value) w byte = by _ w _ _ (refl, refl) (arrive_same f w _)
due_same (Run left next) w byte = by _ w _ _ (refl, refl) (go_same next w)
due_same (Broken fault) w byte = same w

step_same : (w : Walk) (byte : ℕ) → Same w (walk_step w byte)
unfolding walk_step
step_same w byte = due_same w.at.due w byte

-- ---- Bytes, one after another

-- where they lead, unless that is to a fault
abbrev pub Keeps : Walk → Went → Type 0
Keeps w (Over v rest) = Same w v
Keeps w (Within v) = Same w v
Keeps w (Failed fault rest) = Unit {0}

by_standing : (s : Standing) (w v : Walk) (bytes : List ℕ) (x : Went) → Same w v → Keeps w x → Keeps w (went_by s v bytes x)
by_standing Between w v bytes x h k = h
by_standing Going w v bytes x h k = k
by_standing (Failing fault) w v bytes x h k = tt

end_keeps : (w v : Walk) (bytes : List ℕ) → Same w v → Keeps w (to_end v bytes)
unfolding to_end
end_keeps w v [] h = by_standing (standing v.at.due) w v [] (Within v) h h
end_keeps w v (byte ∷ bytes) h =
    by_standing (standing v.at.due) w v (byte ∷ bytes) _ h (end_keeps w (walk_step v byte) bytes (then_same w v (walk_step v byte) h (step_same v byte)))

on_standing : (s : Standing) (w : Walk) (bytes : List ℕ) (x : Went) → Keeps w x → Keeps w (went_on s bytes x)
on_standing Between w bytes x k = k
on_standing Going w bytes x k = k
on_standing (Failing fault) w bytes x k = tt

onward_keeps : (w : Walk) (bytes : List ℕ) → Keeps w (onward w bytes)
unfolding onward
onward_keeps w [] = on_standing (standing w.at.due) w [] (Within w) (same w)
onward_keeps w (byte ∷ bytes) = on_standing (standing w.at.due) w (byte ∷ bytes) _ (end_keeps w (walk_step w byte) bytes (step_same w byte))

pub keeps_over : (w v : Walk) (bytes rest : List ℕ) → Over v rest ≡ onward w bytes → Same w v
keeps_over w v bytes rest e = let P : Went → Type 0 = λ x. Keeps w x in subst P (sym e) (onward_keeps w bytes)

pub keeps_within : (w v : Walk) (bytes : List ℕ) → Within v ≡ onward w bytes → Same w v
keeps_within w v bytes e = let P : Went → Type 0 = λ x. Keeps w x in subst P (sym e) (onward_keeps w bytes)
