-- Rows are passed as the layout has them.
use Rattle.std.proofs.Common.{◌≡◌, refl, sym, ◌∙◌, ap, rules, arith, ℕ, zero, suc, ◌+◌, ◌-◌, ◌*◌, ◌/◌, ◌%◌, ◌<◌, ◌≤◌, ◌==◌, ◌&&◌, nat_lt, Bool, true, false, List, [], ◌∷◌, ◌++◌, length, drop, if◌then◌else◌}
use Rattle.std.specs.Prelude.{◌||◌}
use Rattle.std.proofs.lemmas.Bool.{lt-ltb, le-ltb}
use Rattle.tds_wire.specs.declared.fault.WireFault.TheVariants.{NoColumns}
use Rattle.tds_wire.specs.declared.shape.Shape.{Shape}
use Rattle.tds_wire.specs.declared.shape.Shape.TheVariants as shape
use Rattle.tds_wire.specs.declared.due.Field.TheVariants as field
use Rattle.tds_wire.specs.declared.due.ColumnField.TheVariants as in_column
use Rattle.tds_wire.specs.declared.due.Inside.TheVariants as inside
use Rattle.tds_wire.specs.Walking.{Walk, with_due, with_number, with_inside, ended, value_due, has_no_bytes, broken, at_column, row_from, valued, next_value, is_skipped, inside_row, shape_at, row_begun, null_row_begun, keeping_nulls, nulls_taken}
use Rattle.tds_wire.specs.Bytes.{to_end, seen, seen_of}
use Rattle.tds_wire.specs.Layout.{Read, Got, Wrong, ◌>>=◌, one, value, is_null, Seen, values, bitmap, row, null_row}
use Rattle.std.specs.Prelude.{◌^◌, get_or, slice_set}
use Rattle.std.proofs.Common.{inl, inr, ◌⊎◌}
use Rattle.std.specs.Int.RustNames.{bit_and}
use Rattle.std.proofs.lemmas.Grind.{get_or-set_at}
use Rattle.std.proofs.lemmas.List.{drop_all, drop_more, get_or-set_other, get_or_push, length_push, length-set, get_or_append_left}
use Rattle.tds_wire.proofs.FieldsPassed.{same_bind, bind_bind, number_seen, ended_seen, broken_seen}
use Rattle.tds_wire.proofs.ValuesPassed.{value_seen, none_read}

-- ---- ROW

value_at_next : (b : Bool) (w : Walk) (i : ℕ) → i < length w.columns
    → next_value b w.nulls w.columns i (length w.columns - i)
    ≡ (if is_skipped b w.nulls w.columns i then next_value b w.nulls w.columns (i + 1) (length w.columns - (i + 1)) else i)
unfolding next_value
value_at_next b w i h =
    let e : length w.columns - i ≡ suc (length w.columns - (i + 1)) = omega (arith, h) in
    rw e refl

row_ends : (b : Bool) (w : Walk) (i : ℕ) → i ≡ length w.columns → row_from b w i ≡ ended w
unfolding next_value at_column
row_ends b w i h =
    let e : length w.columns - i ≡ 0 = omega (arith, h) in
    let t : nat_lt i (length w.columns) ≡ false = le-ltb i (length w.columns) (omega (arith, h)) in
    rw e (rw t refl)

row_skips : (b : Bool) (w : Walk) (i : ℕ) → i < length w.columns → is_skipped b w.nulls w.columns i ≡ true → row_from b w i ≡ row_from b w (i + 1)
row_skips b w i h s = ap (at_column b w) (value_at_next b w i h ∙ rw s refl)

row_reads : (b : Bool) (w : Walk) (i : ℕ) → i < length w.columns → is_skipped b w.nulls w.columns i ≡ false
    → row_from b w i ≡ with_due (with_inside w (inside_row b i)) (value_due (shape_at w.columns i))
unfolding at_column
row_reads b w i h s =
    let t : nat_lt i (length w.columns) ≡ true = lt-ltb i (length w.columns) h in
    let q : next_value b w.nulls w.columns i (length w.columns - i) ≡ i = value_at_next b w i h ∙ rw s refl in
    rw q (rw t refl)

valued_in : (b : Bool) (w : Walk) (i : ℕ) → i + 1 ≤ 65535 → valued (inside_row b i) w ≡ row_from b w (i + 1)
valued_in true w i h = ap (row_from true w) (omega (arith, h))
valued_in false w i h = ap (row_from false w) (omega (arith, h))

abbrev row_on : Walk → Unit {0} → List ℕ → Read Seen
row_on w u rest = Got (seen_of w) rest

or_false : (a c : Bool) → a ≡ false → (a || c) ≡ c
or_false true c h = absurd cc
or_false false c h = refl

or_true : (a c : Bool) → a ≡ true → (a || c) ≡ true
or_true true c h = refl
or_true false c h = absurd cc

values_by : (isnull none b : Bool) (w : Walk) (i : ℕ) (bytes : List ℕ) → i < length w.columns → length w.columns ≤ 65535
    → (b && is_null w.nulls i) ≡ isnull → has_no_bytes (shape_at w.columns i) ≡ none
    → ((v : Walk) (more : List ℕ) → v.columns ≡ w.columns → v.nulls ≡ w.nulls → seen_of v ≡ seen_of w
    → seen (to_end (row_from b v (i + 1)) more) ≡ (values b v.nulls (i + 1) (drop (i + 1) v.columns) more >>= row_on v))
    → seen (to_end (row_from b w i) bytes)
    ≡ ((if isnull then values b w.nulls (i + 1) (drop (i + 1) w.columns) bytes
    else (value (shape_at w.columns i) bytes >>= λ u rest. values b w.nulls (i + 1) (drop (i + 1) w.columns) rest)) >>= row_on w)
values_by true none b w i bytes l m n z g =
    ap (λ (x : Walk). seen (to_end x bytes)) (row_skips b w i l (or_true (b && is_null w.nulls i) _ n))
    ∙ g w bytes refl refl refl
values_by false true b w i bytes l m n z g =
    ap (λ (x : Walk). seen (to_end x bytes)) (row_skips b w i l (or_false (b && is_null w.nulls i) _ n ∙ z))
    ∙ (g w bytes refl refl refl ∙ rw (none_read (shape_at w.columns i) bytes z) refl)
values_by false false b w i bytes l m n z g =
    ap (λ (x : Walk). seen (to_end x bytes)) (row_reads b w i l (or_false (b && is_null w.nulls i) _ n ∙ z))
    ∙ (value_seen (with_inside w (inside_row b i)) (shape_at w.columns i) bytes z
    ∙ (same_bind (value (shape_at w.columns i) bytes) _ (λ u rest. values b w.nulls (i + 1) (drop (i + 1) w.columns) rest >>= row_on w)
    (λ u rest q. ap (λ (x : Walk). seen (to_end x rest)) (valued_in b (with_inside w (inside_row b i)) i (omega (arith, l, m)))
    ∙ g (with_inside w (inside_row b i)) rest refl refl refl)
    ∙ sym (bind_bind (value (shape_at w.columns i) bytes) (λ u rest. values b w.nulls (i + 1) (drop (i + 1) w.columns) rest) (row_on w))))

pub values_seen : (left : ℕ) (b : Bool) (w : Walk) (i : ℕ) (bytes : List ℕ) → i + left ≡ length w.columns → length w.columns ≤ 65535
    → seen (to_end (row_from b w i) bytes) ≡ (values b w.nulls i (drop i w.columns) bytes >>= row_on w)
unfolding values
values_seen zero b w i bytes e m =
    let d : drop i w.columns ≡ [] = drop_all i w.columns (omega (arith, e)) in
    rw d (ap (λ (x : Walk). seen (to_end x bytes)) (row_ends b w i (omega (arith, e))) ∙ ended_seen w bytes)
values_seen (suc left) b w i bytes e m =
    let l : i < length w.columns = omega (arith, e) in
    rw (drop_more w.columns i shape.Byte l) (values_by (b && is_null w.nulls i) (has_no_bytes (shape_at w.columns i)) b w i bytes l m refl refl
    (λ v more p q r. let c : length v.columns ≡ length w.columns = ap length p in values_seen left b v (i + 1) more (omega (arith, e, c)) (omega (arith, m, c))))

values_any : (columns : List Shape) (i : ℕ) (x y bytes : List ℕ) → values false x i columns bytes ≡ values false y i columns bytes
unfolding values
values_any [] i x y bytes = refl
values_any (s ∷ others) i x y bytes = same_bind (value s bytes) _ _ (λ u rest q. values_any others (i + 1) x y rest)

row_by : (r : Bool) (w : Walk) (bytes : List ℕ) → length w.columns ≤ 65535
    → seen (to_end (if r then broken w NoColumns else row_from false w 0) bytes) ≡ (if r then Wrong NoColumns bytes else (values false [] 0 w.columns bytes >>= row_on w))
row_by true w bytes m = broken_seen w NoColumns bytes
row_by false w bytes m =
    values_seen (length w.columns) false w 0 bytes (omega arith) m
    ∙ ap (λ (r : Read (Unit {0})). r >>= row_on w) (values_any w.columns 0 w.nulls [] bytes)

pub row_seen : (w : Walk) (bytes : List ℕ) → length w.columns ≤ 65535 → seen (to_end (row_begun w) bytes) ≡ row (seen_of w) bytes
row_seen w bytes m = row_by (length w.columns == 0) w bytes m

-- ---- NBCROW

abbrev keep : List ℕ → ℕ → ℕ → List ℕ
keep nulls place b = if nat_lt place 512 then slice_set nulls place b else nulls

record Agrees (nulls known : List ℕ) : Type 0 where
  cells : length nulls ≡ 512
  same : (j : ℕ) → j < length known → get_or nulls j 0 ≡ get_or known j 0

agrees_by : (nulls known : List ℕ) (b j : ℕ) → Agrees nulls known → length known < 512 → j < length known + 1 → (j ≡ length known) ⊎ (j < length known)
    → get_or (slice_set nulls (length known) b) j 0 ≡ get_or (known ++ b ∷ []) j 0
agrees_by nulls known b j g l h (inl e) =
    get_or-set_at nulls (length known) j b 0 e (omega (arith, g.cells, l)) ∙ sym (get_or_push known b 0 j (sym e))
agrees_by nulls known b j g l h (inr k) =
    get_or-set_other nulls (length known) j b 0 (omega (arith, k)) ∙ (g.same j k ∙ sym (get_or_append_left known (b ∷ []) 0 j k))

agrees_on : (nulls known : List ℕ) (b : ℕ) → Agrees nulls known → length known < 512 → Agrees (keep nulls (length known) b) (known ++ b ∷ [])
agrees_on nulls known b g l =
    let t : nat_lt (length known) 512 ≡ true = lt-ltb (length known) 512 l in
    let p : length (known ++ b ∷ []) ≡ length known + 1 = length_push known b in
    rw t (record {
      cells = length-set nulls (length known) b ∙ g.cells;
      same = λ j h. agrees_by nulls known b j g l (omega (arith, h, p)) (search rules);
    })

null_same : (nulls known : List ℕ) (i : ℕ) → Agrees nulls known → i / 8 < length known → is_null nulls i ≡ is_null known i
null_same nulls known i g h = ap (λ (x : ℕ). bit_and (x / 2 ^ (i % 8)) 1 == 1) (g.same (i / 8) h)

values_same : (columns : List Shape) (i : ℕ) (x y bytes : List ℕ) → ((j : ℕ) → j < i + length columns → is_null x j ≡ is_null y j)
    → values true x i columns bytes ≡ values true y i columns bytes
unfolding values
values_same [] i x y bytes h = refl
values_same (s ∷ others) i x y bytes h =
    let e : is_null x i ≡ is_null y i = h i (omega arith) in
    rw e (rw (values_same others (i + 1) x y bytes (λ j k. h j (omega (arith, k))))
    (ap (λ (r : Read (Unit {0})). if is_null y i then values true y (i + 1) others bytes else r)
    (same_bind (value s bytes) _ _ (λ u rest q. values_same others (i + 1) x y rest (λ j k. h j (omega (arith, k)))))))

abbrev nulls_on : Walk → List ℕ → List ℕ → Read Seen
nulls_on w bits rest = values true bits 0 w.columns rest >>= row_on w

row_of_nulls : (w : Walk) (known rest : List ℕ) → Agrees w.nulls known → length known ≡ (length w.columns + 7) / 8 → length w.columns ≤ 4096
    → seen (to_end (row_from true w 0) rest) ≡ nulls_on w known rest
row_of_nulls w known rest g e m =
    values_seen (length w.columns) true w 0 rest (omega arith) (omega (arith, m))
    ∙ ap (λ (r : Read (Unit {0})). r >>= row_on w) (values_same w.columns 0 w.nulls known rest (λ j h. null_same w.nulls known j g (omega (arith, h, e))))

nulls_seen : (k : ℕ) (w : Walk) (known bytes : List ℕ) → Agrees w.nulls known → length known + suc k ≡ (length w.columns + 7) / 8 → length w.columns ≤ 4096
    → seen (to_end (with_number (with_inside w (inside.NullRow (length known))) (field.Column in_column.Nulls)) bytes) ≡ (bitmap (suc k) known bytes >>= nulls_on w)
unfolding bitmap nulls_taken
nulls_seen zero w known bytes g e m =
    number_seen (with_inside w (inside.NullRow (length known))) (field.Column in_column.Nulls) bytes
    ∙ (same_bind (one bytes) _ (λ b rest. Got (known ++ (b % 256) ∷ []) rest >>= nulls_on w)
    (λ b rest q.
    let t : nat_lt (8 * (length known + 1)) (length w.columns) ≡ false = le-ltb (8 * (length known + 1)) (length w.columns) (omega (arith, e)) in
    let p : length (known ++ (b % 256) ∷ []) ≡ length known + 1 = length_push known (b % 256) in
    rw t (row_of_nulls (keeping_nulls (with_inside w (inside.NullRow (length known))) (length known) (b % 256)) (known ++ (b % 256) ∷ []) rest
    (agrees_on w.nulls known (b % 256) g (omega (arith, e, m))) (omega (arith, e, p)) m))
    ∙ sym (bind_bind (one bytes) (λ b rest. Got (known ++ (b % 256) ∷ []) rest) (nulls_on w)))
nulls_seen (suc k) w known bytes g e m =
    number_seen (with_inside w (inside.NullRow (length known))) (field.Column in_column.Nulls) bytes
    ∙ (same_bind (one bytes) _ (λ b rest. bitmap (suc k) (known ++ (b % 256) ∷ []) rest >>= nulls_on w)
    (λ b rest q.
    let t : nat_lt (8 * (length known + 1)) (length w.columns) ≡ true = lt-ltb (8 * (length known + 1)) (length w.columns) (omega (arith, e)) in
    let p : length (known ++ (b % 256) ∷ []) ≡ length known + 1 = length_push known (b % 256) in
    let v : Walk = keeping_nulls w (length known) (b % 256) in
    rw t (ap (λ (n : ℕ). seen (to_end (with_number (with_inside v (inside.NullRow n)) (field.Column in_column.Nulls)) rest)) (sym p)
    ∙ nulls_seen k v (known ++ (b % 256) ∷ []) rest (agrees_on w.nulls known (b % 256) g (omega (arith, e, m))) (omega (arith, e, p)) m))
    ∙ sym (bind_bind (one bytes) (λ b rest. bitmap (suc k) (known ++ (b % 256) ∷ []) rest) (nulls_on w)))

null_row_by : (n : ℕ) (w : Walk) (bytes : List ℕ) → length w.columns ≡ n → length w.nulls ≡ 512 → length w.columns ≤ 4096
    → seen (to_end (null_row_begun w) bytes) ≡ null_row (seen_of w) bytes
null_row_by zero w bytes h c m = let z : (length w.columns == 0) ≡ true = search (rules, h) in rw z (broken_seen w NoColumns bytes)
null_row_by (suc n) w bytes h c m =
    let z : (length w.columns == 0) ≡ false = search (rules, h) in
    let k : (length w.columns + 7) / 8 ≡ suc ((length w.columns + 7) / 8 - 1) = omega (arith, h) in
    rw z (rw k (nulls_seen ((length w.columns + 7) / 8 - 1) w [] bytes (record { cells = c; same = λ j l. absurd (omega (arith, l)) }) (omega (arith, k)) m))

pub null_row_seen : (w : Walk) (bytes : List ℕ) → length w.nulls ≡ 512 → length w.columns ≤ 4096
    → seen (to_end (null_row_begun w) bytes) ≡ null_row (seen_of w) bytes
null_row_seen w bytes d m = null_row_by (length w.columns) w bytes refl d m
