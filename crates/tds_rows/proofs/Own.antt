-- A value that begins at one of many bytes, by its own bytes.
use Rattle.std.proofs.Common.{◌≡◌, ◌∙◌, ◌≤◌, ◌<◌, ℕ, zero, suc, ◌+◌, ◌-◌, ◌==◌, false, List, [], ◌∷◌, ◌++◌, ◌⊎◌, inl, inr, length, drop, get_or, refl, sym, ap, arith, IfNone, None, Option, Some}
use Rattle.std.proofs.lemmas.List.{drop-drop, get_or-drop, length-drop}
use mir.Val.{bool_byte}
use Rattle.tds_wire.specs.declared.memory.Column.{Column}
use Rattle.tds_wire.specs.declared.shape.Shape.{Shape}
use Rattle.tds_wire.specs.declared.shape.Shape.TheVariants as shape
use Rattle.tds_wire.specs.Layout.{Got, Short, value}
use Rattle.tds_wire.specs.Memory.{shape_of}
use Rattle.tds_rows.specs.declared.place.Place.{Place}
use Rattle.tds_rows.specs.declared.place.RowColumn.{RowColumn}
use Rattle.tds_rows.specs.Finding.{column_shapes}
use Rattle.tds_rows.specs.Places.{is_absent, lead, null_mark, two_from, value_at, value_closing, values_placed}
use Rattle.tds_rows.specs.Short.{OwnsBytes}
use Rattle.tds_rows.proofs.Going.{column_step, with_front}
use Rattle.tds_rows.proofs.Passed.{byte_got, byte_none, byte_short, fixed_got, fixed_short, lacks, marks, short_got, short_none, short_null, short_short, stands}

-- ---- By a column's form

pub shape_fixed : (c : Column) → c.form ≡ 0 → shape_of c ≡ shape.Fixed c.bytes
unfolding shape_of
shape_fixed c e = rw e refl

pub shape_byte : (c : Column) → c.form ≡ 1 → shape_of c ≡ shape.Byte
unfolding shape_of
shape_byte c e = rw e refl

pub shape_short : (c : Column) → c.form ≡ 2 → shape_of c ≡ shape.Short
unfolding shape_of
shape_short c e = rw e refl

one_or_two : (n : ℕ) → (n ≡ 0 → ⊥) → n ≤ 2 → (n ≡ 1) ⊎ (n ≡ 2)
one_or_two zero o t = absurd (o refl)
one_or_two (suc zero) o t = inl refl
one_or_two (suc (suc zero)) o t = inr refl
one_or_two (suc (suc (suc n))) o t = absurd (omega (arith, t))

count_lacks_by : (c : Column) (at : ℕ) (bytes : List ℕ) → at ≤ length bytes → length bytes < at + c.form → (c.form ≡ 1) ⊎ (c.form ≡ 2)
    → value_at at (shape_of c) (drop at bytes) ≡ Short
count_lacks_by c at bytes l h (inl e) = rw (shape_byte c e) (lacks shape.Byte at (drop at bytes) (byte_none (drop at bytes) (omega (arith, h, e, l, length-drop at bytes))))
count_lacks_by c at bytes l h (inr e) = rw (shape_short c e) (lacks shape.Short at (drop at bytes) (short_none (drop at bytes) (omega (arith, h, e, l, length-drop at bytes))))

-- the bytes end in the count
pub count_lacks : (c : Column) (at : ℕ) (bytes : List ℕ) → (c.form ≡ 0 → ⊥) → c.form ≤ 2 → at ≤ length bytes → length bytes < at + c.form
    → value_at at (shape_of c) (drop at bytes) ≡ Short
count_lacks c at bytes o t l h = count_lacks_by c at bytes l h (one_or_two c.form o t)

-- ---- What it owns

got_at : (s : Shape) (at n end : ℕ) (p : Place) (bytes : List ℕ) → end ≡ at + n → end ≤ length bytes → value s (drop at bytes) ≡ Got tt (drop n (drop at bytes))
    → p.start ≡ at + lead s (drop at bytes) → p.length ≡ n - (lead s (drop at bytes) + value_closing s (is_absent s (drop at bytes)))
    → p.null ≡ null_mark (is_absent s (drop at bytes)) → value_at at s (drop at bytes) ≡ Got p (drop end bytes)
got_at s at n end p bytes k h e a b c =
    stands s at n p (drop at bytes) (omega (arith, k, h, length-drop at bytes)) e a b c
    ∙ ap (Got p) (drop-drop n at bytes ∙ ap (λ (m : ℕ). drop m bytes) (sym k))

first_at : (at : ℕ) (bytes : List ℕ) → get_or (drop at bytes) 0 0 ≡ get_or bytes at 0
first_at at bytes =
    let z : at + 0 ≡ at = omega arith in
    rw (get_or-drop at bytes 0 0) (rw z refl)

two_moved : (at : ℕ) (bytes : List ℕ) → two_from 0 (drop at bytes) ≡ two_from at bytes
two_moved at bytes =
    let z : at + 0 ≡ at = omega arith in
    rw (get_or-drop at bytes 0 0) (rw z (rw (get_or-drop at bytes 1 0) refl))

pub fixed_owns : (n at null : ℕ) (bytes : List ℕ) → null ≡ bool_byte (n == 0) → at ≤ length bytes → n < 65536 → OwnsBytes (shape.Fixed n) at bytes at n null
fixed_owns n at null bytes e l few = (
  omega arith,
  l,
  few,
  λ h. got_at (shape.Fixed n) at n (at + n) (record { start = at; length = n; null = null }) bytes refl h (fixed_got n (drop at bytes) (omega (arith, h, length-drop at bytes)))
      (omega arith) (omega arith) (e ∙ marks (n == 0)),
  λ h. lacks (shape.Fixed n) at (drop at bytes) (fixed_short n (drop at bytes) (omega (arith, h, l, length-drop at bytes))),
)

pub byte_owns : (at null : ℕ) (bytes : List ℕ) → null ≡ bool_byte (get_or bytes at 0 == 0) → at + 1 ≤ length bytes → get_or bytes at 0 < 65536
    → OwnsBytes shape.Byte at bytes (at + 1) (get_or bytes at 0) null
byte_owns at null bytes e l few =
    let n : ℕ = get_or bytes at 0 in
    let first : get_or (drop at bytes) 0 0 ≡ n = first_at at bytes in
    let some : 1 ≤ length (drop at bytes) = omega (arith, l, length-drop at bytes) in (
      omega arith,
      l,
      few,
      λ h. got_at shape.Byte at (1 + n) (at + 1 + n) (record { start = at + 1; length = n; null = null }) bytes (omega arith) h
          (byte_got (1 + n) (drop at bytes) (omega (arith, first)) (omega (arith, h, length-drop at bytes)))
          refl (omega arith) (e ∙ (marks (n == 0) ∙ ap (λ (k : ℕ). null_mark (k == 0)) (sym first))),
      λ h. lacks shape.Byte at (drop at bytes) (byte_short (drop at bytes) some (omega (arith, h, l, first, length-drop at bytes))),
    )

pub two_owns : (at n : ℕ) (bytes : List ℕ) → n ≡ two_from at bytes → (n == 65535) ≡ false → at + 2 ≤ length bytes → n < 65536 → OwnsBytes shape.Short at bytes (at + 2) n 0
two_owns at n bytes e f l few =
    let same : two_from 0 (drop at bytes) ≡ n = two_moved at bytes ∙ sym e in
    let g : (two_from 0 (drop at bytes) == 65535) ≡ false = ap (λ (k : ℕ). k == 65535) same ∙ f in
    let some : 2 ≤ length (drop at bytes) = omega (arith, l, length-drop at bytes) in (
      omega arith,
      l,
      few,
      λ h. got_at shape.Short at (2 + n) (at + 2 + n) (record { start = at + 2; length = n; null = 0 }) bytes (omega arith) h
          (short_got (2 + n) (drop at bytes) some g (omega (arith, same)) (omega (arith, h, length-drop at bytes)))
          refl (omega arith) (rw g refl),
      λ h. lacks shape.Short at (drop at bytes) (short_short (drop at bytes) some g (omega (arith, h, l, same, length-drop at bytes))),
    )

-- all ones in place of a count
pub none_owned : (at : ℕ) (bytes : List ℕ) → two_from at bytes ≡ 65535 → at + 2 ≤ length bytes → OwnsBytes shape.Short at bytes (at + 2) 0 1
none_owned at bytes e l =
    let ones : two_from 0 (drop at bytes) ≡ 65535 = two_moved at bytes ∙ e in
    let some : 2 ≤ length (drop at bytes) = omega (arith, l, length-drop at bytes) in (
      omega arith,
      l,
      omega arith,
      λ h. got_at shape.Short at 2 (at + 2 + 0) (record { start = at + 2; length = 0; null = 1 }) bytes (omega arith) h (short_null (drop at bytes) some ones)
          refl (omega arith) (rw ones refl),
      λ h. absurd (omega (arith, h, l)),
    )

-- ---- One column more of a ROW, by the byte that its value ends before

pub step_to : (columns : List RowColumn) (i : ℕ) (d : RowColumn) (front : List Place) (at end : ℕ) (p : Place) (bytes : List ℕ) → i < length columns → at ≤ end
    → end ≤ length bytes → value_at at (shape_of (get_or columns i d).shape) (drop at bytes) ≡ Got p (drop end bytes)
    → with_front front (values_placed false [] i (drop i (column_shapes columns)) at (drop at bytes))
    ≡ with_front (front ++ p ∷ []) (values_placed false [] (i + 1) (drop (i + 1) (column_shapes columns)) end (drop end bytes))
step_to columns i d front at end p bytes l on h e =
    let n : ℕ = end - at in
    let k : at + n ≡ end = omega (arith, on) in
    let same : drop n (drop at bytes) ≡ drop end bytes = drop-drop n at bytes ∙ ap (λ (m : ℕ). drop m bytes) k in
    column_step columns i d front false [] at n p (drop at bytes) false l refl (omega (arith, on, h, length-drop at bytes), e ∙ ap (Got p) (sym same))
    ∙ (ap (λ (xs : List ℕ). with_front (front ++ p ∷ []) (values_placed false [] (i + 1) (drop (i + 1) (column_shapes columns)) (at + n) xs)) same
    ∙ ap (λ (m : ℕ). with_front (front ++ p ∷ []) (values_placed false [] (i + 1) (drop (i + 1) (column_shapes columns)) m (drop end bytes))) k)

pub none_then : {A : Type 0} {P Q : Type 0} → (o : Option A) → IfNone o P → (P → Q) → IfNone o Q
none_then None h f = f h
none_then (Some x) h f = tt
