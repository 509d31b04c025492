-- What stands in an event's array behind its word.
use Rattle.std.specs.Prelude.{ℕ, ◌^◌, ◌&&◌, nat_le, nat_lt, List, length, flat_map, Bool, if◌then◌else◌, Option, Some, None, option_map, option_and_then}
use Rattle.std.specs.Char.Escape.{encode_utf16}
use Rattle.std.specs.Str.{chars}
use Rattle.serde_json.specs.Data.{Data, Items, no_items, item}
use Rattle.std.specs.Option.{option_or}
use Rattle.serde_json.specs.Find.{as_number, as_str, as_u64}
use Rattle.tds_text.specs.declared.schedule.version.Version.{Version}
use Rattle.tds_text.specs.Versions.{may_begin_anew, may_clean}

-- Two values, if both are there.
abbrev pub both : {A B : Type 0} → Option A → Option B → Option (A × B)
both None b = None
both (Some a) None = None
both (Some a) (Some b) = Some (a, b)

-- A value, if it passes a test.
abbrev pub such : {A : Type 0} → (A → Bool) → Option A → Option A
such test None = None
such test (Some x) = if test x then Some x else None

-- A whole number: not negative, without a fraction or an exponent, and of 64 bits.
abbrev pub whole_number : Data → Option ℕ
whole_number value = option_and_then as_u64 (as_number value)

-- A whole number below a bound.
abbrev pub number_below : ℕ → Data → Option ℕ
number_below bound value = such (λ n. nat_lt n bound) (whole_number value)

-- The number of a lease, a ticket or a connection, or a count of bytes: it fits 32 bits.
abbrev pub number_of : Data → Option ℕ
number_of value = number_below (2 ^ 32) value

-- An isolation level, 0 to 5 (MS-TDS 2.2.6.9).
abbrev pub isolation_of : Data → Option ℕ
isolation_of value = number_below 6 value

-- A text in UTF-16 units: two for a character beyond U+FFFF.
abbrev pub units_of : List ℕ → List ℕ
units_of text = flat_map encode_utf16 (chars text)

-- Whether a text has 1 to 2,000 units (MS-TDS 2.2.6.7).
abbrev pub is_batch : List ℕ → Bool
is_batch units = nat_le 1 (length units) && nat_le (length units) 2000

-- A batch's text.
abbrev pub batch_of : Data → Option (List ℕ)
batch_of value = such is_batch (option_map units_of (as_str value))

-- Nothing, so that the event is this one.
abbrev pub alone : {A : Type 0} → A → Items → Option A
alone event no_items = Some event
alone event (item d ds) = None

-- One value.
abbrev pub one_field : {A : Type 0} → (Data → Option A) → Items → Option A
one_field reads no_items = None
one_field reads (item d no_items) = reads d
one_field reads (item d (item e ds)) = None

-- Two values, as they stand.
abbrev pub pair_of : Items → Option (Data × Data)
pair_of no_items = None
pair_of (item d no_items) = None
pair_of (item d (item e no_items)) = Some (d, e)
pair_of (item d (item e (item f ds))) = None

-- Two values, each read in its own way.
abbrev pub two_read : {A B : Type 0} → (Data → Option A) → (Data → Option B) → Option (Data × Data) → Option (A × B)
two_read first second None = None
two_read first second (Some p) = both (first p.0) (second p.1)

abbrev pub two_fields : {A B : Type 0} → (Data → Option A) → (Data → Option B) → Items → Option (A × B)
two_fields first second fields = two_read first second (pair_of fields)

-- A lease whose transaction ends, and nothing that begins.
abbrev pub lease_alone : Items → Option (ℕ × Option ℕ)
lease_alone fields = option_map (λ lease. (lease, None)) (one_field number_of fields)

-- A lease whose transaction ends, and the isolation level of the one that begins at once.
abbrev pub lease_and_next : Items → Option (ℕ × Option ℕ)
lease_and_next fields = option_map (λ p. (p.0, Some p.1)) (two_fields number_of isolation_of fields)

-- What stands behind `commit` and `rollback`: either, where the version has both.
abbrev pub ended_lease : Version → Items → Option (ℕ × Option ℕ)
ended_lease version fields = option_or (lease_alone fields) (if may_begin_anew version then lease_and_next fields else None)

-- What stands behind `clean`: the connection, where the version has it.
abbrev pub cleaned_one : Version → Items → Option ℕ
cleaned_one version fields = if may_clean version then one_field number_of fields else None
