-- What the layout passes of a value, by its prefix.
use Rattle.std.proofs.Common.{◌≡◌, ◌∙◌, ◌≤◌, ◌<◌, ℕ, zero, suc, ◌+◌, ◌-◌, ◌==◌, ◌&&◌, Bool, true, false, List, length, drop, get_or, if◌then◌else◌, ◌⊎◌, inl, inr, refl, sym, ap, arith}
use mir.Val.{bool_byte}
use Rattle.std.proofs.lemmas.Bool.{cases_lt}
use Rattle.std.proofs.lemmas.List.{drop-drop, length-drop}
use Rattle.tds_wire.specs.declared.shape.Shape.{Shape}
use Rattle.tds_wire.specs.declared.shape.Shape.TheVariants as shape
use Rattle.tds_wire.specs.Layout.{Read, Got, Short, ◌>>=◌, four, run, long_value, parts, value, value_in_parts}
use Rattle.tds_rows.specs.declared.place.Place.{Place}
use Rattle.tds_rows.specs.Places.{value_closing, four_from, is_absent, lead, null_mark, value_place, two_from, value_at}
use Rattle.tds_rows.proofs.Fronts.{four_got, four_short, one_got, one_short, run_behind, run_cut, run_got, run_short, two_got, two_short}

-- ---- Where it stands

same_place : (p : Place) (start len null : ℕ) → p.start ≡ start → p.length ≡ len → p.null ≡ null → record { start = start; length = len; null = null } ≡ p
same_place p start len null a b c = rw (← a) (rw (← b) (rw (← c) refl))

pub stands : (s : Shape) (at n : ℕ) (p : Place) (bytes : List ℕ) → n ≤ length bytes → value s bytes ≡ Got tt (drop n bytes)
    → p.start ≡ at + lead s bytes → p.length ≡ n - (lead s bytes + value_closing s (is_absent s bytes)) → p.null ≡ null_mark (is_absent s bytes)
    → value_at at s bytes ≡ Got p (drop n bytes)
stands s at n p bytes h e a b c =
    let k : length bytes - length (drop n bytes) ≡ n = omega (arith, length-drop n bytes, h) in
    ap (λ (r : Read (Unit {0})). r >>= λ u rest. Got (value_place at s bytes (length bytes - length rest)) rest) e
    ∙ (ap (λ (m : ℕ). Got (value_place at s bytes m) (drop n bytes)) k
    ∙ ap (λ (x : Place). Got x (drop n bytes)) (same_place p _ _ _ a b c))

pub lacks : (s : Shape) (at : ℕ) (bytes : List ℕ) → value s bytes ≡ Short → value_at at s bytes ≡ Short
lacks s at bytes e = ap (λ (r : Read (Unit {0})). r >>= λ u rest. Got (value_place at s bytes (length bytes - length rest)) rest) e

pub marks : (b : Bool) → bool_byte b ≡ null_mark b
marks true = refl
marks false = refl

-- ---- What is passed

pub fixed_got : (n : ℕ) (bytes : List ℕ) → n ≤ length bytes → value (shape.Fixed n) bytes ≡ Got tt (drop n bytes)
unfolding value
fixed_got n bytes h = run_got n bytes h

pub fixed_short : (n : ℕ) (bytes : List ℕ) → length bytes < n → value (shape.Fixed n) bytes ≡ Short
unfolding value
fixed_short n bytes h = run_short n bytes h

pub byte_got : (n : ℕ) (bytes : List ℕ) → n ≡ 1 + get_or bytes 0 0 → n ≤ length bytes → value shape.Byte bytes ≡ Got tt (drop n bytes)
unfolding value
byte_got n bytes e h = rw (one_got bytes (omega (arith, e, h))) (run_behind 1 (get_or bytes 0 0) n bytes e h)

pub byte_none : (bytes : List ℕ) → length bytes < 1 → value shape.Byte bytes ≡ Short
unfolding value
byte_none bytes h = rw (one_short bytes h) refl

pub byte_short : (bytes : List ℕ) → 1 ≤ length bytes → length bytes < 1 + get_or bytes 0 0 → value shape.Byte bytes ≡ Short
unfolding value
byte_short bytes l h = rw (one_got bytes l) (run_cut 1 (get_or bytes 0 0) bytes l h)

pub short_null : (bytes : List ℕ) → 2 ≤ length bytes → two_from 0 bytes ≡ 65535 → value shape.Short bytes ≡ Got tt (drop 2 bytes)
unfolding value
short_null bytes l e =
    let t : (two_from 0 bytes == 65535) ≡ true = rw e refl in
    rw (two_got bytes l) (rw t refl)

pub short_got : (n : ℕ) (bytes : List ℕ) → 2 ≤ length bytes → (two_from 0 bytes == 65535) ≡ false → n ≡ 2 + two_from 0 bytes → n ≤ length bytes
    → value shape.Short bytes ≡ Got tt (drop n bytes)
unfolding value
short_got n bytes l f e h = rw (two_got bytes l) (rw f (run_behind 2 (two_from 0 bytes) n bytes e h))

pub short_none : (bytes : List ℕ) → length bytes < 2 → value shape.Short bytes ≡ Short
unfolding value
short_none bytes h = rw (two_short bytes h) refl

pub short_short : (bytes : List ℕ) → 2 ≤ length bytes → (two_from 0 bytes == 65535) ≡ false → length bytes < 2 + two_from 0 bytes → value shape.Short bytes ≡ Short
unfolding value
short_short bytes l f h = rw (two_got bytes l) (rw f (run_cut 2 (two_from 0 bytes) bytes l h))

-- a count in four bytes, behind so many others
long_null : (m : ℕ) (bytes : List ℕ) → m + 4 ≤ length bytes → four_from m bytes ≡ 4294967295 → long_value (drop m bytes) ≡ Got tt (drop (m + 4) bytes)
long_null m bytes l e =
    let t : (four_from m bytes == 4294967295) ≡ true = rw e refl in
    rw (four_got m bytes l) (rw t refl)

long_got : (m n : ℕ) (bytes : List ℕ) → m + 4 ≤ length bytes → (four_from m bytes == 4294967295) ≡ false → n ≡ m + 4 + four_from m bytes → n ≤ length bytes
    → long_value (drop m bytes) ≡ Got tt (drop n bytes)
long_got m n bytes l f e h = rw (four_got m bytes l) (rw f (run_behind (m + 4) (four_from m bytes) n bytes e h))

long_none : (m : ℕ) (bytes : List ℕ) → length bytes < m + 4 → long_value (drop m bytes) ≡ Short
long_none m bytes h = rw (four_short m bytes h) refl

long_short : (m : ℕ) (bytes : List ℕ) → m + 4 ≤ length bytes → (four_from m bytes == 4294967295) ≡ false → length bytes < m + 4 + four_from m bytes
    → long_value (drop m bytes) ≡ Short
long_short m bytes l f h = rw (four_got m bytes l) (rw f (run_cut (m + 4) (four_from m bytes) bytes l h))

pub variant_null : (bytes : List ℕ) → 4 ≤ length bytes → four_from 0 bytes ≡ 4294967295 → value shape.Long bytes ≡ Got tt (drop 4 bytes)
unfolding value
variant_null bytes l e = long_null 0 bytes l e

pub variant_got : (n : ℕ) (bytes : List ℕ) → 4 ≤ length bytes → (four_from 0 bytes == 4294967295) ≡ false → n ≡ 4 + four_from 0 bytes → n ≤ length bytes
    → value shape.Long bytes ≡ Got tt (drop n bytes)
unfolding value
variant_got n bytes l f e h = long_got 0 n bytes l f e h

pub variant_none : (bytes : List ℕ) → length bytes < 4 → value shape.Long bytes ≡ Short
unfolding value
variant_none bytes h = long_none 0 bytes h

pub variant_short : (bytes : List ℕ) → 4 ≤ length bytes → (four_from 0 bytes == 4294967295) ≡ false → length bytes < 4 + four_from 0 bytes
    → value shape.Long bytes ≡ Short
unfolding value
variant_short bytes l f h = long_short 0 bytes l f h

-- behind a text pointer
pub pointer_null : (bytes : List ℕ) → 1 ≤ length bytes → get_or bytes 0 0 ≡ 0 → value shape.Pointer bytes ≡ Got tt (drop 1 bytes)
unfolding value
pointer_null bytes l e =
    let t : (get_or bytes 0 0 == 0) ≡ true = rw e refl in
    rw (one_got bytes l) (rw t refl)

pub pointer_none : (bytes : List ℕ) → length bytes < 1 → value shape.Pointer bytes ≡ Short
unfolding value
pointer_none bytes h = rw (one_short bytes h) refl

abbrev after : List ℕ → Read (Unit {0})
after bytes = run (get_or bytes 0 0 + 8) (drop 1 bytes) >>= λ u more. long_value more

pointer_on : (bytes : List ℕ) → 1 ≤ length bytes → (get_or bytes 0 0 == 0) ≡ false → value shape.Pointer bytes ≡ after bytes
unfolding value
pointer_on bytes l f = rw (one_got bytes l) (rw f refl)

after_on : (bytes : List ℕ) → get_or bytes 0 0 + 9 ≤ length bytes → after bytes ≡ long_value (drop (get_or bytes 0 0 + 9) bytes)
after_on bytes h = rw (run_behind 1 (get_or bytes 0 0 + 8) (get_or bytes 0 0 + 9) bytes (omega arith) h) refl

after_cut : (bytes : List ℕ) → 1 ≤ length bytes → length bytes < get_or bytes 0 0 + 9 → after bytes ≡ Short
after_cut bytes l h = rw (run_cut 1 (get_or bytes 0 0 + 8) bytes l (omega (arith, h))) refl

pub pointer_absent : (bytes : List ℕ) → (get_or bytes 0 0 == 0) ≡ false → get_or bytes 0 0 + 13 ≤ length bytes
    → four_from (get_or bytes 0 0 + 9) bytes ≡ 4294967295 → value shape.Pointer bytes ≡ Got tt (drop (get_or bytes 0 0 + 13) bytes)
pointer_absent bytes f l e =
    let k : get_or bytes 0 0 + 9 + 4 ≡ get_or bytes 0 0 + 13 = omega arith in
    pointer_on bytes (omega (arith, l)) f
    ∙ (after_on bytes (omega (arith, l))
    ∙ (long_null (get_or bytes 0 0 + 9) bytes (omega (arith, l)) e ∙ ap (λ (n : ℕ). Got tt (drop n bytes)) k))

pub pointer_got : (n : ℕ) (bytes : List ℕ) → (get_or bytes 0 0 == 0) ≡ false → get_or bytes 0 0 + 13 ≤ length bytes
    → (four_from (get_or bytes 0 0 + 9) bytes == 4294967295) ≡ false → n ≡ get_or bytes 0 0 + 13 + four_from (get_or bytes 0 0 + 9) bytes → n ≤ length bytes
    → value shape.Pointer bytes ≡ Got tt (drop n bytes)
pointer_got n bytes f l g e h =
    pointer_on bytes (omega (arith, l)) f
    ∙ (after_on bytes (omega (arith, l)) ∙ long_got (get_or bytes 0 0 + 9) n bytes (omega (arith, l)) g (omega (arith, e)) h)

pub pointer_short : (bytes : List ℕ) → (get_or bytes 0 0 == 0) ≡ false → get_or bytes 0 0 + 13 ≤ length bytes
    → (four_from (get_or bytes 0 0 + 9) bytes == 4294967295) ≡ false → length bytes < get_or bytes 0 0 + 13 + four_from (get_or bytes 0 0 + 9) bytes
    → value shape.Pointer bytes ≡ Short
pointer_short bytes f l g h =
    pointer_on bytes (omega (arith, l)) f
    ∙ (after_on bytes (omega (arith, l)) ∙ long_short (get_or bytes 0 0 + 9) bytes (omega (arith, l)) g (omega (arith, h)))

cut_by : (bytes : List ℕ) → length bytes < get_or bytes 0 0 + 13 → 1 ≤ length bytes
    → (length bytes < get_or bytes 0 0 + 9) ⊎ (get_or bytes 0 0 + 9 ≤ length bytes) → after bytes ≡ Short
cut_by bytes h l (inl c) = after_cut bytes l c
cut_by bytes h l (inr c) = after_on bytes c ∙ long_none (get_or bytes 0 0 + 9) bytes (omega (arith, h))

pub pointer_cut : (bytes : List ℕ) → (get_or bytes 0 0 == 0) ≡ false → 1 ≤ length bytes → length bytes < get_or bytes 0 0 + 13
    → value shape.Pointer bytes ≡ Short
pointer_cut bytes f l h = pointer_on bytes l f ∙ cut_by bytes h l (cases_lt (length bytes) (get_or bytes 0 0 + 9))

-- ---- In parts

abbrev behind_whole_length : Bool → List ℕ → Read (Unit {0})
behind_whole_length absent bytes = if absent then Got tt (drop 8 bytes) else parts (length (drop 8 bytes)) (drop 8 bytes)

parts_on : (bytes : List ℕ) → 8 ≤ length bytes → value shape.Parts bytes ≡ behind_whole_length (is_absent shape.Parts bytes) bytes
unfolding value
parts_on bytes l =
    ap (λ (r : Read ℕ). r >>= λ low rest. four rest >>= λ high more. if (low == 4294967295) && (high == 4294967295) then Got tt more else parts (length more) more)
    (four_got 0 bytes (omega (arith, l)))
    ∙ ap (λ (r : Read ℕ). r >>= λ high more. if (four_from 0 bytes == 4294967295) && (high == 4294967295) then Got tt more else parts (length more) more)
    (four_got 4 bytes (omega (arith, l)))

pub parts_null : (bytes : List ℕ) → 8 ≤ length bytes → is_absent shape.Parts bytes ≡ true → value shape.Parts bytes ≡ Got tt (drop 8 bytes)
parts_null bytes l e = parts_on bytes l ∙ ap (λ (b : Bool). behind_whole_length b bytes) e

none_by : (bytes : List ℕ) → length bytes < 8 → (length bytes < 4) ⊎ (4 ≤ length bytes) → value_in_parts bytes ≡ Short
none_by bytes h (inl c) = rw (four_short 0 bytes c) refl
none_by bytes h (inr c) = rw (four_got 0 bytes c) (rw (four_short 4 bytes h) refl)

pub parts_none : (bytes : List ℕ) → length bytes < 8 → value shape.Parts bytes ≡ Short
unfolding value
parts_none bytes h = none_by bytes h (cases_lt (length bytes) 4)

pub parts_got : (n m : ℕ) (bytes : List ℕ) → 8 ≤ length bytes → is_absent shape.Parts bytes ≡ false → parts (length (drop 8 bytes)) (drop 8 bytes) ≡ Got tt (drop m (drop 8 bytes))
    → n ≡ 8 + m → value shape.Parts bytes ≡ Got tt (drop n bytes)
parts_got n m bytes l f e k =
    parts_on bytes l ∙ (ap (λ (b : Bool). behind_whole_length b bytes) f ∙ (e ∙ ap (Got tt) (drop-drop m 8 bytes ∙ ap (λ (i : ℕ). drop i bytes) (sym k))))

pub parts_short : (bytes : List ℕ) → 8 ≤ length bytes → is_absent shape.Parts bytes ≡ false → parts (length (drop 8 bytes)) (drop 8 bytes) ≡ Short
    → value shape.Parts bytes ≡ Short
parts_short bytes l f e = parts_on bytes l ∙ (ap (λ (b : Bool). behind_whole_length b bytes) f ∙ e)

-- so many parts at most: an empty one, another, or the bytes end
pub parts_zero : (bytes : List ℕ) → parts 0 bytes ≡ Short
unfolding parts
parts_zero bytes = refl

pub part_cut : (most m : ℕ) (bytes : List ℕ) → 0 < most → length bytes < m + 4 → parts most (drop m bytes) ≡ Short
unfolding parts
part_cut zero m bytes o h = absurd (omega (arith, o))
part_cut (suc most) m bytes o h = rw (four_short m bytes h) refl

pub part_end : (most m : ℕ) (bytes : List ℕ) → 0 < most → m + 4 ≤ length bytes → four_from m bytes ≡ 0 → parts most (drop m bytes) ≡ Got tt (drop (m + 4) bytes)
unfolding parts
part_end zero m bytes o l e = absurd (omega (arith, o))
part_end (suc most) m bytes o l e =
    let t : (four_from m bytes == 0) ≡ true = rw e refl in
    rw (four_got m bytes l) (rw t refl)

pub part_more : (most m n : ℕ) (bytes : List ℕ) → 0 < most → m + 4 ≤ length bytes → (four_from m bytes == 0) ≡ false → n ≡ m + 4 + four_from m bytes → n ≤ length bytes
    → parts most (drop m bytes) ≡ parts (most - 1) (drop n bytes)
unfolding parts
part_more zero m n bytes o l f e h = absurd (omega (arith, o))
part_more (suc most) m n bytes o l f e h =
    let k : suc most - 1 ≡ most = omega arith in
    rw (four_got m bytes l) (rw f (rw (run_behind (m + 4) (four_from m bytes) n bytes e h) (rw k refl)))

pub part_short : (most m : ℕ) (bytes : List ℕ) → 0 < most → m + 4 ≤ length bytes → (four_from m bytes == 0) ≡ false → length bytes < m + 4 + four_from m bytes
    → parts most (drop m bytes) ≡ Short
unfolding parts
part_short zero m bytes o l f h = absurd (omega (arith, o))
part_short (suc most) m bytes o l f h = rw (four_got m bytes l) (rw f (rw (run_cut (m + 4) (four_from m bytes) bytes l h) refl))
