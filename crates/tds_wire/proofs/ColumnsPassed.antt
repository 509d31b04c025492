-- Columns, their keys, and parameters are passed as the layout has them.
use Rattle.std.proofs.Common.{◌≡◌, refl, sym, ◌∙◌, rules, arith, ℕ, zero, suc, ◌+◌, ◌-◌, ◌*◌, ◌%◌, ◌≤◌, ◌==◌, nat_lt, Bool, true, false, List, [], ◌∷◌, ◌++◌, length, if◌then◌else◌}
use Rattle.std.proofs.lemmas.Bool.{lt-ltb, ltb-false}
use Rattle.tds_wire.specs.declared.fault.WireFault.TheVariants.{ManyColumns}
use Rattle.tds_wire.specs.declared.shape.Shape.{Shape}
use Rattle.tds_wire.specs.declared.shape.Shape.TheVariants as shape
use Rattle.tds_wire.specs.declared.due.Field.TheVariants as field
use Rattle.tds_wire.specs.declared.due.TokenField.TheVariants as in_token
use Rattle.tds_wire.specs.declared.due.KeyField.TheVariants as in_key
use Rattle.tds_wire.specs.declared.due.ColumnField.TheVariants as in_column
use Rattle.tds_wire.specs.declared.due.Next.TheVariants.{Then, Parted, Named, KeyValued}
use Rattle.tds_wire.specs.declared.due.Inside.TheVariants as inside
use Rattle.tds_wire.specs.Walking.{Walk, with_due, with_number, with_run, with_inside, with_shape, with_left, with_parts, ended, value_due, has_no_bytes, behind_type, behind_table, based, broken, column_begun, columns_begun, columns_counted, columns_listed, in_columns, column_described, parameter_described, parameter_typed, parted, named, key_begun, key_passed, key_valued}
use Rattle.tds_wire.specs.Bytes.{to_end, seen, seen_of}
use Rattle.tds_wire.specs.Layout.{Read, Got, Wrong, ◌>>=◌, one, two, run, name, long_name, value, is_ciphered, type_at, cipher_if, Seen, parameter, table_at, columns_at, column_list, key_values, keys_at, key_table, name_parts, with_columns}
use Rattle.std.proofs.lemmas.List.{length_push}
use Rattle.tds_wire.proofs.FieldsPassed.{same_bind, bind_bind, chain, number_seen, run_seen, pass_seen, via, name_seen, long_name_seen, ended_seen, broken_seen}
use Rattle.tds_wire.proofs.ValuesPassed.{value_seen, none_read}
use Rattle.tds_wire.proofs.TypesPassed.{type_seen, cipher_seen}

-- ---- RETURNVALUE

abbrev in_parameter : Walk → Walk
in_parameter w = with_inside w inside.Parameter

abbrev parameter_end : Walk → Unit {0} → List ℕ → Read Seen
parameter_end w u rest = Got (seen_of w) rest

parameter_value_by : (b : Bool) (w : Walk) (s : Shape) (rest : List ℕ) → has_no_bytes s ≡ b
    → seen (to_end (if b then ended (with_shape (in_parameter w) s) else with_due (with_shape (in_parameter w) s) (value_due s)) rest)
    ≡ (value s rest >>= parameter_end w)
parameter_value_by true w s rest h = ended_seen (with_shape (in_parameter w) s) rest ∙ rw (none_read s rest h) refl
parameter_value_by false w s rest h =
    value_seen (with_shape (in_parameter w) s) s rest h
    ∙ same_bind (value s rest) _ _ (λ u more q. ended_seen (with_shape (in_parameter w) s) more)

parameter_value : (w : Walk) (s : Shape) (rest : List ℕ)
    → seen (to_end (parameter_typed (with_shape (in_parameter w) s)) rest) ≡ (value s rest >>= parameter_end w)
unfolding parameter_typed
parameter_value w s rest = parameter_value_by (has_no_bytes s) w s rest refl

abbrev flagged : Walk → ℕ → Walk
flagged w flags = record w { at = record w.at { ciphered = is_ciphered w.features flags } }

parameter_by : (c : Bool) (w : Walk) (s : Shape) (rest : List ℕ)
    → seen (to_end (if c then based inside.Parameter (with_shape (in_parameter w) s) else parameter_typed (with_shape (in_parameter w) s)) rest)
    ≡ (cipher_if c 0 rest >>= λ x f. value s f >>= parameter_end w)
parameter_by true w s rest =
    cipher_seen (inside.ParameterBase s) 0 (with_shape w s) (λ f. value s f >>= parameter_end w) rest (λ v. refl) (λ t more. parameter_value w s more)
parameter_by false w s rest = parameter_value w s rest

parameter_described_seen : (w : Walk) (s : Shape) (rest : List ℕ)
    → seen (to_end (parameter_described (with_shape (in_parameter w) s)) rest)
    ≡ (cipher_if w.at.ciphered 0 rest >>= λ x f. value s f >>= parameter_end w)
unfolding parameter_described
parameter_described_seen w s rest = parameter_by w.at.ciphered w s rest

parameter_named : (w : Walk) (n : ℕ) (b : List ℕ)
    → seen (to_end (with_run (in_parameter w) (2 * n + 5) (Then (field.Column in_column.Flags))) b)
    ≡ (run (2 * n + 5) b >>= λ v c. two c >>= λ flags d. type_at d >>= λ t e. cipher_if (is_ciphered w.features flags) 0 e >>= λ x f. value t f >>= parameter_end w)
parameter_named w n b =
    let e : 2 * n + 5 ≡ suc (2 * n + 4) = omega arith in
    rw e (run_seen (in_parameter w) (2 * n + 4) (Then (field.Column in_column.Flags)) b
    ∙ same_bind (run (suc (2 * n + 4)) b) _ _ (λ v c p. number_seen (in_parameter w) (field.Column in_column.Flags) c
    ∙ same_bind (two c) _ _ (λ flags d q. type_seen (in_parameter (flagged w flags)) d
    ∙ same_bind (type_at d) _ _ (λ t e o. parameter_described_seen (flagged w flags) t e))))

pub parameter_seen : (w : Walk) (bytes : List ℕ)
    → seen (to_end (with_run (in_parameter w) 2 (Then (field.Column in_column.ParameterName))) bytes) ≡ parameter w.features (seen_of w) bytes
unfolding parameter
parameter_seen w bytes =
    run_seen (in_parameter w) 1 (Then (field.Column in_column.ParameterName)) bytes
    ∙ same_bind (run 2 bytes) _ _ (λ u a q. number_seen (in_parameter w) (field.Column in_column.ParameterName) a
    ∙ same_bind (one a) _ _ (λ n b p. parameter_named w n b))

-- ---- Columns

abbrev listing : Walk → ℕ → Walk
listing w n = with_inside w (inside.Columns n)

abbrev put : Walk → List Shape → List ℕ → Read Seen
put w columns rest = Got (with_columns (seen_of w) columns) rest

-- what is behind a column's name, where so many columns are to come
abbrev After : ℕ → Type 0
After n = (w : Walk) (d : List ℕ) → length w.columns + n ≤ w.most
    → seen (to_end (named (inside.Columns (suc n)) (listing w (suc n))) d) ≡ (columns_at w.features n w.columns d >>= put w)

-- the name, and what is behind it
abbrev name_on : Walk → ℕ → List ℕ → Read Seen
name_on w n b = name b >>= λ y d. columns_at w.features n w.columns d >>= put w

name_of : (n : ℕ) (w : Walk) (b : List ℕ) → After n → length w.columns + n ≤ w.most → seen (to_end (with_number (listing w (suc n)) (field.Column in_column.ColumnName)) b) ≡ name_on w n b
name_of n w b after few =
    name_seen (listing w (suc n)) (field.Column in_column.ColumnName) Named b refl (λ k. refl)
    ∙ same_bind (name b) _ (λ y d. columns_at w.features n w.columns d >>= put w) (λ y d q. after w d few)

-- crypto metadata before it, or none
abbrev cipher_on : Bool → Walk → ℕ → List ℕ → Read Seen
cipher_on c w n b = cipher_if c 2 b >>= λ x e. name_on w n e

cipher_by : (c : Bool) (n : ℕ) (w : Walk) (b : List ℕ) → After n → length w.columns + n ≤ w.most
    → seen (to_end (if c then based (inside.Columns (suc n)) (listing w (suc n)) else with_number (listing w (suc n)) (field.Column in_column.ColumnName)) b) ≡ cipher_on c w n b
cipher_by true n w b after few =
    cipher_seen (inside.ColumnBase (suc n)) 2 w (name_on w n) b (λ v. refl) (λ s rest. name_of n (with_shape w s) rest after few)
cipher_by false n w b after few = name_of n w b after few

behind_of : (n : ℕ) (w : Walk) (b : List ℕ) → After n → length w.columns + n ≤ w.most
    → seen (to_end (behind_table (listing w (suc n))) b) ≡ cipher_on w.at.ciphered w n b
unfolding behind_table
behind_of n w b after few = cipher_by w.at.ciphered n w b after few

-- the parts of a table's name before that
table_of : (k n : ℕ) (w : Walk) (b : List ℕ) → After n → length w.columns + n ≤ w.most
    → seen (to_end (with_number (with_parts (listing w (suc n)) (suc k)) (field.Column in_column.TablePart)) b) ≡ (name_parts (suc k) b >>= λ v c. cipher_on w.at.ciphered w n c)
unfolding name_parts parted
table_of zero n w b after few =
    long_name_seen (with_parts (listing w (suc n)) 1) (field.Column in_column.TablePart) Parted b refl (λ k. refl)
    ∙ chain (long_name b) _ (λ v c. cipher_on w.at.ciphered w n c) _ (λ u c q. behind_of n (with_parts w 1) c after few)
table_of (suc k) n w b after few =
    let t : nat_lt 1 (suc (suc k)) ≡ true = lt-ltb 1 (suc (suc k)) (omega arith) in
    let e : suc (suc k) - 1 ≡ suc k = omega arith in
    long_name_seen (with_parts (listing w (suc n)) (suc (suc k))) (field.Column in_column.TablePart) Parted b refl (λ k. refl)
    ∙ chain (long_name b) _ (λ v c. cipher_on w.at.ciphered w n c) _ (λ u c q. rw t (rw e (table_of k n w c after few)))

table_by : (m n : ℕ) (w : Walk) (c : List ℕ) → After n → length w.columns + n ≤ w.most
    → seen (to_end (if m == 0 then behind_table (listing w (suc n)) else with_number (with_parts (listing w (suc n)) m) (field.Column in_column.TablePart)) c)
    ≡ (name_parts m c >>= λ v d. cipher_on w.at.ciphered w n d)
unfolding name_parts
table_by zero n w c after few = behind_of n w c after few
table_by (suc m) n w c after few =
    let e : (suc m == 0) ≡ false = search rules in
    rw e (table_of m n w c after few)

behind_type_of : (s : Shape) (n : ℕ) (w : Walk) (b : List ℕ) → After n → length w.columns + n ≤ w.most
    → seen (to_end (behind_type s (listing w (suc n))) b) ≡ (table_at s b >>= λ v c. cipher_on w.at.ciphered w n c)
behind_type_of (shape.Fixed k) n w b after few = behind_of n w b after few
behind_type_of shape.Byte n w b after few = behind_of n w b after few
behind_type_of shape.Short n w b after few = behind_of n w b after few
behind_type_of shape.Long n w b after few = behind_of n w b after few
behind_type_of shape.Pointer n w b after few =
    via (listing w (suc n)) (field.Column in_column.TableParts) b (λ m c. name_parts (m % 256) c) (λ v c. cipher_on w.at.ciphered w n c)
    (λ m c q. table_by (m % 256) n w c after few)
behind_type_of shape.Parts n w b after few = behind_of n w b after few

-- the columns with one more
abbrev with_one : Walk → Shape → Walk
with_one w s = record (with_shape w s) { columns = w.columns ++ s ∷ [] }

described_seen : (s : Shape) (n : ℕ) (w : Walk) (b : List ℕ) → After n → length w.columns + suc n ≤ w.most
    → seen (to_end (column_described (with_shape (listing w (suc n)) s)) b)
    ≡ ((table_at s b >>= λ v d. cipher_if w.at.ciphered 2 d >>= λ x e. name e >>= λ y f. columns_at w.features n (w.columns ++ s ∷ []) f) >>= put w)
unfolding column_described
described_seen s n w b after few =
    let t : nat_lt (length w.columns) w.most ≡ true = lt-ltb (length w.columns) w.most (omega (arith, few)) in
    let p : length (w.columns ++ s ∷ []) ≡ length w.columns + 1 = length_push w.columns s in
    rw t (behind_type_of s n (with_one w s) b after (omega (arith, few, p))
    ∙ chain (table_at s b) _ (put w) _ (λ v d q. chain (cipher_if w.at.ciphered 2 d) _ (put w) _ (λ x e q. chain (name e) _ (put w) _ (λ y f q. refl))))

columns_by : (n : ℕ) (w : Walk) (bytes : List ℕ) → After n → length w.columns + suc n ≤ w.most
    → seen (to_end (column_begun (listing w (suc n))) bytes) ≡ (columns_at w.features (suc n) w.columns bytes >>= put w)
unfolding columns_at
columns_by n w bytes after few =
    run_seen (listing w (suc n)) 3 (Then (field.Column in_column.Flags)) bytes
    ∙ chain (run 4 bytes) _ (put w) _ (λ u a q. number_seen (listing w (suc n)) (field.Column in_column.Flags) a
    ∙ chain (two a) _ (put w) _ (λ flags b p. type_seen (listing (flagged w flags) (suc n)) b
    ∙ chain (type_at b) _ (put w) _ (λ s c o. described_seen s n (flagged w flags) c after few)))

after_last : After zero
unfolding columns_at
after_last w d few = ended_seen (listing w 1) d

after_more : (n : ℕ)
    → ((w : Walk) (bytes : List ℕ) → length w.columns + suc n ≤ w.most → seen (to_end (column_begun (listing w (suc n))) bytes) ≡ (columns_at w.features (suc n) w.columns bytes >>= put w))
    → After (suc n)
after_more n g w d few =
    let t : nat_lt 1 (suc (suc n)) ≡ true = lt-ltb 1 (suc (suc n)) (omega arith) in
    let e : suc (suc n) - 1 ≡ suc n = omega arith in
    rw t (rw e (g w d few))

columns_seen : (n : ℕ) (w : Walk) (bytes : List ℕ) → length w.columns + suc n ≤ w.most
    → seen (to_end (column_begun (listing w (suc n))) bytes) ≡ (columns_at w.features (suc n) w.columns bytes >>= put w)
columns_seen zero w bytes few = columns_by zero w bytes after_last few
columns_seen (suc n) w bytes few = columns_by (suc n) w bytes (after_more n (columns_seen n)) few

-- ---- Keys

abbrev next_on : (List ℕ → Read Seen) → Unit {0} → List ℕ → Read Seen
next_on k u rest = k rest

key_values_by : (m : ℕ) (w : Walk) (k : List ℕ → Read Seen) (bytes : List ℕ) → ((f : List ℕ) → seen (to_end (key_valued (with_parts w (suc m))) f) ≡ (key_values m f >>= next_on k))
    → seen (to_end (with_number (with_parts w (suc m)) (field.Key in_key.KeyValue)) bytes) ≡ (key_values (suc m) bytes >>= next_on k)
unfolding key_values
key_values_by m w k bytes after =
    number_seen (with_parts w (suc m)) (field.Key in_key.KeyValue) bytes
    ∙ chain (two bytes) _ (next_on k) _ (λ n a e. pass_seen (with_parts w (suc m)) n (Then (field.Key in_key.KeyStore)) a
    ∙ chain (run n a) _ (next_on k) _ (λ u b q. name_seen (with_parts w (suc m)) (field.Key in_key.KeyStore) (Then (field.Key in_key.KeyPath)) b refl (λ n. refl)
    ∙ chain (name b) _ (next_on k) _ (λ v c q. long_name_seen (with_parts w (suc m)) (field.Key in_key.KeyPath) (Then (field.Key in_key.KeyAlgorithm)) c refl (λ n. refl)
    ∙ chain (long_name c) _ (next_on k) _ (λ x d q. name_seen (with_parts w (suc m)) (field.Key in_key.KeyAlgorithm) KeyValued d refl (λ n. refl)
    ∙ chain (name d) _ (next_on k) _ (λ y f q. after f)))))

valued_last : (w : Walk) (k : List ℕ → Read Seen) (f : List ℕ) → seen (to_end (key_passed (with_parts w 1)) f) ≡ k f
    → seen (to_end (key_valued (with_parts w 1)) f) ≡ (key_values 0 f >>= next_on k)
unfolding key_values key_valued
valued_last w k f g = g

valued_more : (n : ℕ) (w : Walk) (k : List ℕ → Read Seen) (f : List ℕ) → seen (to_end (with_number (with_parts w (suc n)) (field.Key in_key.KeyValue)) f) ≡ (key_values (suc n) f >>= next_on k)
    → seen (to_end (key_valued (with_parts w (suc (suc n)))) f) ≡ (key_values (suc n) f >>= next_on k)
unfolding key_valued
valued_more n w k f g =
    let t : nat_lt 1 (suc (suc n)) ≡ true = lt-ltb 1 (suc (suc n)) (omega arith) in
    let e : suc (suc n) - 1 ≡ suc n = omega arith in
    rw t (rw e g)

key_values_seen : (m : ℕ) (w : Walk) (k : List ℕ → Read Seen) (bytes : List ℕ) → ((p : ℕ) (rest : List ℕ) → seen (to_end (key_passed (with_parts w p)) rest) ≡ k rest)
    → seen (to_end (with_number (with_parts w (suc m)) (field.Key in_key.KeyValue)) bytes) ≡ (key_values (suc m) bytes >>= next_on k)
key_values_seen zero w k bytes g = key_values_by zero w k bytes (λ f. valued_last w k f (g 1 f))
key_values_seen (suc n) w k bytes g = key_values_by (suc n) w k bytes (λ f. valued_more n w k f (key_values_seen n w k f g))

abbrev keyed : Walk → ℕ → ℕ → Walk
keyed w p l = with_left (with_parts w p) l

keys_by : (n m : ℕ) (w : Walk) (k : List ℕ → Read Seen) (b : List ℕ) → ((p : ℕ) (rest : List ℕ) → seen (to_end (key_passed (with_parts w p)) rest) ≡ (keys_at n rest >>= next_on k))
    → seen (to_end (if m == 0 then key_passed w else with_number (with_parts w m) (field.Key in_key.KeyValue)) b) ≡ ((key_values m b >>= λ v c. keys_at n c) >>= next_on k)
unfolding key_values
keys_by n zero w k b g = g w.at.parts b
keys_by n (suc m) w k b g =
    let e : (suc m == 0) ≡ false = search rules in
    rw e (key_values_seen m w (λ rest. keys_at n rest >>= next_on k) b g
    ∙ sym (bind_bind (key_values (suc m) b) (λ v c. keys_at n c) (next_on k)))

keys_more_by : (n : ℕ) (w : Walk) (p : ℕ) (k : List ℕ → Read Seen) (bytes : List ℕ)
    → ((p : ℕ) (rest : List ℕ) → seen (to_end (key_passed (keyed w p (suc n))) rest) ≡ (keys_at n rest >>= next_on k))
    → seen (to_end (key_begun (keyed w p (suc n))) bytes) ≡ (keys_at (suc n) bytes >>= next_on k)
unfolding keys_at
keys_more_by n w p k bytes after =
    run_seen (keyed w p (suc n)) 19 (Then (field.Key in_key.KeyValues)) bytes
    ∙ chain (run 20 bytes) _ (next_on k) _ (λ u a q. number_seen (keyed w p (suc n)) (field.Key in_key.KeyValues) a
    ∙ chain (one a) _ (next_on k) _ (λ m b e. keys_by n (m % 256) (keyed w p (suc n)) k b after))

passed_last : (w : Walk) (p : ℕ) (k : List ℕ → Read Seen) (rest : List ℕ) → seen (to_end (columns_begun w.at.inside (keyed w p 1)) rest) ≡ k rest
    → seen (to_end (key_passed (keyed w p 1)) rest) ≡ (keys_at 0 rest >>= next_on k)
unfolding keys_at key_passed
passed_last w p k rest g = g

passed_more : (n : ℕ) (w : Walk) (p : ℕ) (k : List ℕ → Read Seen) (rest : List ℕ) → seen (to_end (key_begun (keyed w p (suc n))) rest) ≡ (keys_at (suc n) rest >>= next_on k)
    → seen (to_end (key_passed (keyed w p (suc (suc n)))) rest) ≡ (keys_at (suc n) rest >>= next_on k)
unfolding key_passed
passed_more n w p k rest g =
    let t : nat_lt 1 (suc (suc n)) ≡ true = lt-ltb 1 (suc (suc n)) (omega arith) in
    let e : suc (suc n) - 1 ≡ suc n = omega arith in
    rw t (rw e g)

keys_seen : (n : ℕ) (w : Walk) (p : ℕ) (k : List ℕ → Read Seen) (bytes : List ℕ)
    → ((p l : ℕ) (rest : List ℕ) → seen (to_end (columns_begun w.at.inside (keyed w p l)) rest) ≡ k rest)
    → seen (to_end (key_begun (keyed w p (suc n))) bytes) ≡ (keys_at (suc n) bytes >>= next_on k)
keys_seen zero w p k bytes g = keys_more_by zero w p k bytes (λ p rest. passed_last w p k rest (g p 1 rest))
keys_seen (suc n) w p k bytes g = keys_more_by (suc n) w p k bytes (λ p rest. passed_more n w p k rest (keys_seen n w p k rest g))

-- ---- COLMETADATA

list_seen : (n : ℕ) (w : Walk) (bytes : List ℕ) → n ≤ w.most
    → seen (to_end (columns_begun (inside.Columns n) (in_columns w n)) bytes) ≡ (columns_at w.features n [] bytes >>= put w)
unfolding columns_at
list_seen zero w bytes few = ended_seen (in_columns w 0) bytes
list_seen (suc n) w bytes few =
    let e : (suc n == 0) ≡ false = search rules in
    rw e (columns_seen n (record w { columns = [] }) bytes (omega (arith, few)))

abbrev listed : Walk → ℕ → List ℕ → Read Seen
listed w n rest = columns_at w.features n [] rest >>= put w

table_seen_by : (m n : ℕ) (w : Walk) (rest : List ℕ) → n ≤ w.most
    → seen (to_end (if m == 0 then columns_begun (inside.Columns n) (in_columns w n) else key_begun (with_left (in_columns w n) m)) rest) ≡ (keys_at m rest >>= next_on (listed w n))
unfolding keys_at
table_seen_by zero n w rest few = list_seen n w rest few
table_seen_by (suc m) n w rest few =
    let e : (suc m == 0) ≡ false = search rules in
    rw e (keys_seen m (in_columns w n) w.at.parts (listed w n) rest (λ p l more. list_seen n (keyed w p l) more few))

listed_by : (b : Bool) (n : ℕ) (w : Walk) (bytes : List ℕ) → n ≤ w.most
    → seen (to_end (if b then with_number (in_columns w n) (field.Key in_key.Keys) else columns_begun (inside.Columns n) (in_columns w n)) bytes)
    ≡ (key_table b bytes >>= next_on (listed w n))
listed_by true n w bytes few =
    via (in_columns w n) (field.Key in_key.Keys) bytes (λ m rest. keys_at (m % 65536) rest) (next_on (listed w n)) (λ m rest e. table_seen_by (m % 65536) n w rest few)
listed_by false n w bytes few = list_seen n w bytes few

counted_by : (none many : Bool) (n : ℕ) (w : Walk) (bytes : List ℕ) → nat_lt w.most n ≡ many
    → seen (to_end (if none then ended w else if many then broken w ManyColumns else columns_listed w n) bytes)
    ≡ (if none then Got (seen_of w) bytes else if many then Wrong ManyColumns bytes
    else (key_table w.features.encryption bytes >>= λ u rest. columns_at w.features n [] rest >>= λ columns more. Got (with_columns (seen_of w) columns) more))
counted_by true many n w bytes h = ended_seen w bytes
counted_by false true n w bytes h = broken_seen w ManyColumns bytes
counted_by false false n w bytes h = listed_by w.features.encryption n w bytes (ltb-false w.most n h)

pub list_columns_seen : (w : Walk) (bytes : List ℕ)
    → seen (to_end (with_number w (field.Token in_token.Columns)) bytes) ≡ (two bytes >>= λ n rest. column_list w.most w.features (seen_of w) (n % 65536) rest)
unfolding column_list columns_counted
list_columns_seen w bytes =
    number_seen w (field.Token in_token.Columns) bytes
    ∙ same_bind (two bytes) _ _ (λ n rest e. counted_by (n % 65536 == 65535) (nat_lt w.most (n % 65536)) (n % 65536) w rest refl)
