-- The places of values divide a row.
use Rattle.std.proofs.Common.{◌≡◌, ◌∙◌, ◌≤◌, ◌<◌, ℕ, zero, suc, ◌+◌, ◌-◌, ◌*◌, ◌==◌, ◌&&◌, Bool, true, false, List, [], ◌∷◌, length, drop, if◌then◌else◌, ◌⊎◌, inl, inr, refl, sym, ap, subst, arith}
use Rattle.std.proofs.lemmas.Bool.{cases_lt}
use Rattle.std.proofs.lemmas.List.{drop-drop, length-drop}
use Rattle.tds_wire.specs.declared.shape.Shape.{Shape}
use Rattle.tds_wire.specs.declared.shape.Shape.TheVariants as shape
use Rattle.tds_wire.specs.Layout.{Read, Got, Short, Wrong, ◌>>=◌, four, is_null, long_value, parts, run, value, value_in_parts}
use Rattle.tds_rows.specs.declared.place.Place.{Place}
use Rattle.tds_rows.specs.Laws.{Divides, extent, start_of}
use Rattle.tds_rows.specs.Places.{value_closing, column_value_at, four_from, is_absent, lead, no_value, value_place, values_placed, value_at}
use Rattle.tds_rows.proofs.Fronts.{run_got, run_short}

-- what is read is so many bytes at the front, of which some at least belong to a value besides its own
pub record Takes (fewest : ℕ) (bytes left : List ℕ) : Type 0 where
  pub count : ℕ
  pub within : count ≤ length bytes
  pub rest : left ≡ drop count bytes
  pub least : fewest ≤ count

abbrev rest_of : {A : Type 0} → Read A → List ℕ
rest_of (Got x rest) = rest
rest_of Short = []
rest_of (Wrong fault rest) = rest

run_by : (n : ℕ) (u : Unit {0}) (bytes rest : List ℕ) → run n bytes ≡ Got u rest → (length bytes < n) ⊎ (n ≤ length bytes) → Takes n bytes rest
run_by n u bytes rest e (inl h) = absurd (let k = run_short n bytes h in cc)
run_by n u bytes rest e (inr h) = record { count = n; within = h; rest = sym (ap rest_of (sym (run_got n bytes h) ∙ e)); least = omega arith }

run_takes : (n : ℕ) (u : Unit {0}) (bytes rest : List ℕ) → run n bytes ≡ Got u rest → Takes n bytes rest
run_takes n u bytes rest e = run_by n u bytes rest e (cases_lt (length bytes) n)

-- behind so many others
behind : (m least : ℕ) (bytes rest : List ℕ) → m ≤ length bytes → Takes least (drop m bytes) rest → Takes (m + least) bytes rest
behind m least bytes rest h t = record {
  count = m + t.count;
  within = omega (arith, t.within, length-drop m bytes, h);
  rest = t.rest ∙ drop-drop t.count m bytes;
  least = omega (arith, t.least);
}

fewer : (a b : ℕ) (bytes rest : List ℕ) → a ≤ b → Takes b bytes rest → Takes a bytes rest
fewer a b bytes rest h t = record { count = t.count; within = t.within; rest = t.rest; least = omega (arith, t.least, h) }

nothing_more : (bytes : List ℕ) → Takes 0 bytes bytes
nothing_more bytes = record { count = 0; within = omega arith; rest = refl; least = omega arith }

long_if : (b : Bool) (n : ℕ) (u : Unit {0}) (bytes rest : List ℕ) → (if b then Got tt bytes else run n bytes) ≡ Got u rest → Takes 0 bytes rest
long_if true n u bytes rest e = subst (Takes 0 bytes) (ap rest_of e) (nothing_more bytes)
long_if false n u bytes rest e = fewer 0 n bytes rest (omega arith) (run_takes n u bytes rest e)

four_takes : (m : ℕ) (u : Unit {0}) (bytes rest : List ℕ) → long_value bytes ≡ Got u rest → Takes 4 bytes rest
four_takes m u [] rest e = absurd cc
four_takes m u (a ∷ []) rest e = absurd cc
four_takes m u (a ∷ b ∷ []) rest e = absurd cc
four_takes m u (a ∷ b ∷ c ∷ []) rest e = absurd cc
four_takes m u (a ∷ b ∷ c ∷ d ∷ bytes) rest e =
    behind 4 0 (a ∷ b ∷ c ∷ d ∷ bytes) rest (omega arith) (long_if (a + 256 * b + 65536 * c + 16777216 * d == 4294967295) (a + 256 * b + 65536 * c + 16777216 * d) u bytes rest e)

run_then_long : (n : ℕ) (u : Unit {0}) (bytes rest : List ℕ) → (run n bytes >>= λ v more. long_value more) ≡ Got u rest → (length bytes < n) ⊎ (n ≤ length bytes) → Takes (n + 4) bytes rest
run_then_long n u bytes rest e (inl h) = absurd (let k : (run n bytes >>= λ v more. long_value more) ≡ Short = ap (λ r. r >>= λ v more. long_value more) (run_short n bytes h) in cc)
run_then_long n u bytes rest e (inr h) =
    behind n 4 bytes rest h (four_takes 0 u (drop n bytes) rest (sym (ap (λ r. r >>= λ v more. long_value more) (run_got n bytes h)) ∙ e))

pointer_by : (z : Bool) (n : ℕ) (u : Unit {0}) (bytes rest : List ℕ) → (if z then Got tt bytes else (run (n + 8) bytes >>= λ v more. long_value more)) ≡ Got u rest
    → Takes (if z then 0 else n + 12) bytes rest
pointer_by true n u bytes rest e = subst (Takes 0 bytes) (ap rest_of e) (nothing_more bytes)
pointer_by false n u bytes rest e = fewer (n + 12) (n + 8 + 4) bytes rest (omega arith) (run_then_long (n + 8) u bytes rest e (cases_lt (length bytes) (n + 8)))

-- values in parts
parts_then : (most n : ℕ) (u : Unit {0}) (bytes rest : List ℕ) → ((more : List ℕ) → parts most more ≡ Got u rest → Takes 4 more rest)
    → (run n bytes >>= λ v more. parts most more) ≡ Got u rest → (length bytes < n) ⊎ (n ≤ length bytes) → Takes 0 bytes rest
parts_then most n u bytes rest h e (inl l) = absurd (let k : (run n bytes >>= λ v more. parts most more) ≡ Short = ap (λ r. r >>= λ v more. parts most more) (run_short n bytes l) in cc)
parts_then most n u bytes rest h e (inr l) =
    fewer 0 (n + 4) bytes rest (omega arith) (behind n 4 bytes rest l (h (drop n bytes) (sym (ap (λ r. r >>= λ v more. parts most more) (run_got n bytes l)) ∙ e)))

part_by : (z : Bool) (most n : ℕ) (u : Unit {0}) (bytes rest : List ℕ) → ((more : List ℕ) → parts most more ≡ Got u rest → Takes 4 more rest)
    → (if z then Got tt bytes else (run n bytes >>= λ v more. parts most more)) ≡ Got u rest → Takes 0 bytes rest
part_by true most n u bytes rest h e = subst (Takes 0 bytes) (ap rest_of e) (nothing_more bytes)
part_by false most n u bytes rest h e = parts_then most n u bytes rest h e (cases_lt (length bytes) n)

parts_takes : (most : ℕ) (u : Unit {0}) (bytes rest : List ℕ) → parts most bytes ≡ Got u rest → Takes 4 bytes rest
unfolding parts
parts_takes zero u bytes rest e = absurd cc
parts_takes (suc most) u [] rest e = absurd cc
parts_takes (suc most) u (a ∷ []) rest e = absurd cc
parts_takes (suc most) u (a ∷ b ∷ []) rest e = absurd cc
parts_takes (suc most) u (a ∷ b ∷ c ∷ []) rest e = absurd cc
parts_takes (suc most) u (a ∷ b ∷ c ∷ d ∷ bytes) rest e =
    behind 4 0 (a ∷ b ∷ c ∷ d ∷ bytes) rest (omega arith)
    (part_by (a + 256 * b + 65536 * c + 16777216 * d == 0) most (a + 256 * b + 65536 * c + 16777216 * d) u bytes rest (λ more k. parts_takes most u more rest k) e)

in_parts_by : (z : Bool) (u : Unit {0}) (bytes rest : List ℕ) → (if z then Got tt bytes else parts (length bytes) bytes) ≡ Got u rest → Takes (if z then 0 else 4) bytes rest
in_parts_by true u bytes rest e = subst (Takes 0 bytes) (ap rest_of e) (nothing_more bytes)
in_parts_by false u bytes rest e = parts_takes (length bytes) u bytes rest e

high_takes : (low : ℕ) (u : Unit {0}) (bytes rest : List ℕ)
    → (four bytes >>= λ high more. if (low == 4294967295) && (high == 4294967295) then Got tt more else parts (length more) more) ≡ Got u rest
    → Takes (4 + (if (low == 4294967295) && (four_from 0 bytes == 4294967295) then 0 else 4)) bytes rest
high_takes low u [] rest e = absurd cc
high_takes low u (a ∷ []) rest e = absurd cc
high_takes low u (a ∷ b ∷ []) rest e = absurd cc
high_takes low u (a ∷ b ∷ c ∷ []) rest e = absurd cc
high_takes low u (a ∷ b ∷ c ∷ d ∷ bytes) rest e =
    behind 4 _ (a ∷ b ∷ c ∷ d ∷ bytes) rest (omega arith)
    (in_parts_by ((low == 4294967295) && (a + 256 * b + 65536 * c + 16777216 * d == 4294967295)) u bytes rest e)

in_parts_takes : (u : Unit {0}) (bytes rest : List ℕ) → value_in_parts bytes ≡ Got u rest → Takes (4 + (4 + value_closing shape.Parts (is_absent shape.Parts bytes))) bytes rest
in_parts_takes u [] rest e = absurd cc
in_parts_takes u (a ∷ []) rest e = absurd cc
in_parts_takes u (a ∷ b ∷ []) rest e = absurd cc
in_parts_takes u (a ∷ b ∷ c ∷ []) rest e = absurd cc
in_parts_takes u (a ∷ b ∷ c ∷ d ∷ bytes) rest e =
    behind 4 _ (a ∷ b ∷ c ∷ d ∷ bytes) rest (omega arith) (high_takes (a + 256 * b + 65536 * c + 16777216 * d) u bytes rest e)

short_if : (b : Bool) (n : ℕ) (u : Unit {0}) (bytes rest : List ℕ) → (if b then Got tt bytes else run n bytes) ≡ Got u rest → Takes 0 bytes rest
short_if b n u bytes rest e = long_if b n u bytes rest e

abbrev pub around : Shape → List ℕ → ℕ
around s bytes = lead s bytes + value_closing s (is_absent s bytes)

pointer_least : (z : Bool) (n : ℕ) → (if z then 1 else n + 13) + 0 ≤ 1 + (if z then 0 else n + 12)
pointer_least true n = omega arith
pointer_least false n = omega arith

pub value_takes : (s : Shape) (u : Unit {0}) (bytes rest : List ℕ) → value s bytes ≡ Got u rest → Takes (around s bytes) bytes rest
unfolding value
value_takes (shape.Fixed n) u bytes rest e = fewer 0 n bytes rest (omega arith) (run_takes n u bytes rest e)
value_takes shape.Byte u [] rest e = absurd cc
value_takes shape.Byte u (b ∷ bytes) rest e = behind 1 0 (b ∷ bytes) rest (omega arith) (fewer 0 b bytes rest (omega arith) (run_takes b u bytes rest e))
value_takes shape.Short u [] rest e = absurd cc
value_takes shape.Short u (a ∷ []) rest e = absurd cc
value_takes shape.Short u (a ∷ b ∷ bytes) rest e = behind 2 0 (a ∷ b ∷ bytes) rest (omega arith) (short_if (a + 256 * b == 65535) (a + 256 * b) u bytes rest e)
value_takes shape.Long u bytes rest e = four_takes 0 u bytes rest e
value_takes shape.Pointer u [] rest e = absurd cc
value_takes shape.Pointer u (b ∷ bytes) rest e =
    fewer _ (1 + (if b == 0 then 0 else b + 12)) (b ∷ bytes) rest (pointer_least (b == 0) b) (behind 1 _ (b ∷ bytes) rest (omega arith) (pointer_by (b == 0) b u bytes rest e))
value_takes shape.Parts u bytes rest e = fewer _ (4 + (4 + value_closing shape.Parts (is_absent shape.Parts bytes))) bytes rest (omega arith) (in_parts_takes u bytes rest e)

-- ---- Rows

-- what was read of two fields, one behind the other
bind_got : {A B : Type 0} → (r : Read A) (f : A → List ℕ → Read B) (y : B) (rest : List ℕ) → (r >>= f) ≡ Got y rest
    → (x : A) × (more : List ℕ) × (r ≡ Got x more) × (f x more ≡ Got y rest)
bind_got (Got x more) f y rest e = (x, more, refl, e)
bind_got Short f y rest e = absurd cc
bind_got (Wrong fault more) f y rest e = absurd cc

abbrev value_of : {A : Type 0} → A → Read A → A
value_of d (Got x rest) = x
value_of d Short = d
value_of d (Wrong fault rest) = d

-- a value, and how many bytes belong to it
pub record Stood (skipped : Bool) (at : ℕ) (s : Shape) (bytes : List ℕ) (p : Place) (left : List ℕ) : Type 0 where
  pub start : p.start ≡ start_of skipped at s bytes
  pub within : extent skipped s bytes p ≤ length bytes
  pub count : length bytes - length left ≡ extent skipped s bytes p
  pub rest : left ≡ drop (extent skipped s bytes p) bytes

stood_by : (at : ℕ) (s : Shape) (bytes left : List ℕ) → Takes (around s bytes) bytes left → Stood false at s bytes (value_place at s bytes (length bytes - length left)) left
stood_by at s bytes left t =
    let k : length bytes - length left ≡ t.count = omega (arith, ap length t.rest, length-drop t.count bytes, t.within) in
    let e : lead s bytes + (length bytes - length left - (lead s bytes + value_closing s (is_absent s bytes)) + value_closing s (is_absent s bytes)) ≡ t.count = omega (arith, k, t.least) in
    record {
      start = refl;
      within = omega (arith, e, t.within);
      count = omega (arith, e, k);
      rest = t.rest ∙ ap (λ (n : ℕ). drop n bytes) (sym e);
    }

value_stood : (at : ℕ) (s : Shape) (bytes : List ℕ) (p : Place) (left : List ℕ) → value_at at s bytes ≡ Got p left → Stood false at s bytes p left
value_stood at s bytes p left e =
    let b = bind_got (value s bytes) (λ u rest. Got (value_place at s bytes (length bytes - length rest)) rest) p left e in
    let r : b.1 ≡ left = ap rest_of b.3 in
    let q : value_place at s bytes (length bytes - length b.1) ≡ p = ap (value_of p) b.3 in
    subst (λ (x : Place). Stood false at s bytes x left) q
    (subst (λ (xs : List ℕ). Stood false at s bytes (value_place at s bytes (length bytes - length b.1)) xs) r
    (stood_by at s bytes b.1 (value_takes s b.0 bytes b.1 b.2)))

none_stood : (at : ℕ) (s : Shape) (bytes : List ℕ) → Stood true at s bytes (no_value at) bytes
none_stood at s bytes = record { start = refl; within = omega arith; count = omega arith; rest = refl }

column_stood : (skipped : Bool) (at : ℕ) (s : Shape) (bytes : List ℕ) (p : Place) (left : List ℕ) → column_value_at skipped at s bytes ≡ Got p left → Stood skipped at s bytes p left
column_stood true at s bytes p left e =
    subst (λ (x : Place). Stood true at s bytes x left) (ap (value_of p) e) (subst (λ (xs : List ℕ). Stood true at s bytes (no_value at) xs) (ap rest_of e) (none_stood at s bytes))
column_stood false at s bytes p left e = value_stood at s bytes p left e

abbrev Columns : Bool → List ℕ → ℕ → List Shape → Type 0
Columns with_nulls nulls i shapes = (at : ℕ) (bytes : List ℕ) (found : List Place) (rest : List ℕ)
    → values_placed with_nulls nulls i shapes at bytes ≡ Got found rest → Divides with_nulls nulls i shapes at bytes found rest

more_divided : (skipped with_nulls : Bool) (nulls : List ℕ) (i : ℕ) (shapes : List Shape) (at : ℕ) (s : Shape) (bytes : List ℕ) (p : Place) (ps : List Place) (more rest : List ℕ)
    → Columns with_nulls nulls (i + 1) shapes → Stood skipped at s bytes p more
    → values_placed with_nulls nulls (i + 1) shapes (at + (length bytes - length more)) more ≡ Got ps rest
    → Divides with_nulls nulls (i + 1) shapes (at + extent skipped s bytes p) (drop (extent skipped s bytes p) bytes) ps rest
more_divided skipped with_nulls nulls i shapes at s bytes p ps more rest h t e =
    subst (λ (xs : List ℕ). Divides with_nulls nulls (i + 1) shapes (at + extent skipped s bytes p) xs ps rest) t.rest
    (subst (λ (n : ℕ). Divides with_nulls nulls (i + 1) shapes (at + n) more ps rest) t.count (h (at + (length bytes - length more)) more ps rest e))

pub divided : (with_nulls : Bool) (nulls : List ℕ) (i : ℕ) (shapes : List Shape) (at : ℕ) (bytes : List ℕ) (found : List Place) (rest : List ℕ)
    → values_placed with_nulls nulls i shapes at bytes ≡ Got found rest → Divides with_nulls nulls i shapes at bytes found rest
unfolding values_placed Divides
divided with_nulls nulls i [] at bytes [] rest e = ap rest_of e
divided with_nulls nulls i [] at bytes (p ∷ ps) rest e = absurd cc
divided with_nulls nulls i (s ∷ shapes) at bytes found rest e =
    let skipped = with_nulls && is_null nulls i in
    let b = bind_got (column_value_at skipped at s bytes) (λ p more. values_placed with_nulls nulls (i + 1) shapes (at + (length bytes - length more)) more >>= λ ps r. Got (p ∷ ps) r) found rest e in
    let p = b.0 in
    let more = b.1 in
    let c = bind_got (values_placed with_nulls nulls (i + 1) shapes (at + (length bytes - length more)) more) (λ ps r. Got (p ∷ ps) r) found rest b.3 in
    let t : Stood skipped at s bytes p more = column_stood skipped at s bytes p more b.2 in
    let r : c.1 ≡ rest = ap rest_of c.3 in
    let q : p ∷ c.0 ≡ found = ap (value_of found) c.3 in
    subst (λ (xs : List Place). Divides with_nulls nulls i (s ∷ shapes) at bytes xs rest) q
    (subst (λ (xs : List ℕ). Divides with_nulls nulls i (s ∷ shapes) at bytes (p ∷ c.0) xs) r (
      t.start,
      t.within,
      more_divided skipped with_nulls nulls i shapes at s bytes p c.0 more c.1 (λ k xs ys zs d. divided with_nulls nulls (i + 1) shapes k xs ys zs d) t c.2,
    ))
