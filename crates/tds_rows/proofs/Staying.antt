-- What was found of a row's first bytes stays as others come behind them.
use Rattle.std.proofs.Common.{◌≡◌, ◌∙◌, ◌≤◌, ◌<◌, ℕ, zero, suc, ◌+◌, ◌-◌, ◌*◌, ◌==◌, ◌&&◌, ◌||◌, Bool, true, false, List, [], ◌∷◌, ◌++◌, length, drop, get_or, if◌then◌else◌, ◌⊎◌, inl, inr, refl, sym, ap, arith}
use Rattle.std.proofs.Math.ListN.{get_or-append}
use Rattle.std.proofs.lemmas.Bool.{cases_lt}
use Rattle.std.proofs.lemmas.List.{length-append, length-drop}
use Rattle.tds_wire.specs.declared.shape.Shape.{Shape}
use Rattle.tds_wire.specs.declared.shape.Shape.TheVariants as shape
use Rattle.tds_wire.specs.Layout.{Read, Got, Short, Wrong, ◌>>=◌, is_null, long_value, parts, run, value}
use Rattle.tds_rows.specs.declared.place.Place.{Place}
use Rattle.tds_rows.specs.Places.{column_value_at, four_from, is_absent, lead, no_value, null_mark, value_closing, value_place, values_placed, value_at}
use Rattle.tds_rows.proofs.Divided.{Takes, around, value_takes}
use Rattle.tds_rows.proofs.Fronts.{run_got, run_short}

abbrev rest_of : {A : Type 0} → Read A → List ℕ
rest_of (Got x rest) = rest
rest_of Short = []
rest_of (Wrong fault rest) = rest

-- with these bytes behind
abbrev Goes : (List ℕ → Read (Unit {0})) → List ℕ → List ℕ → List ℕ → Type 0
Goes read bytes more rest = read (bytes ++ more) ≡ Got tt (rest ++ more)

here_on : (bytes more rest : List ℕ) → (let r : Read (Unit {0}) = Got tt bytes in r) ≡ Got tt rest → (let r : Read (Unit {0}) = Got tt (bytes ++ more) in r) ≡ Got tt (rest ++ more)
here_on bytes more rest e = ap (λ (xs : List ℕ). Got tt (xs ++ more)) (ap rest_of e)

run_on : (n : ℕ) (bytes more rest : List ℕ) → run n bytes ≡ Got tt rest → run n (bytes ++ more) ≡ Got tt (rest ++ more)
unfolding run
run_on zero bytes more rest e = here_on bytes more rest e
run_on (suc n) [] more rest e = absurd cc
run_on (suc n) (b ∷ bytes) more rest e = run_on n bytes more rest e

if_on : (z : Bool) (n : ℕ) (bytes more rest : List ℕ) → (if z then Got tt bytes else run n bytes) ≡ Got tt rest
    → (if z then Got tt (bytes ++ more) else run n (bytes ++ more)) ≡ Got tt (rest ++ more)
if_on true n bytes more rest e = here_on bytes more rest e
if_on false n bytes more rest e = run_on n bytes more rest e

long_on : (bytes more rest : List ℕ) → long_value bytes ≡ Got tt rest → long_value (bytes ++ more) ≡ Got tt (rest ++ more)
long_on [] more rest e = absurd cc
long_on (a ∷ []) more rest e = absurd cc
long_on (a ∷ b ∷ []) more rest e = absurd cc
long_on (a ∷ b ∷ c ∷ []) more rest e = absurd cc
long_on (a ∷ b ∷ c ∷ d ∷ bytes) more rest e = if_on (a + 256 * b + 65536 * c + 16777216 * d == 4294967295) (a + 256 * b + 65536 * c + 16777216 * d) bytes more rest e

-- one read behind a run of bytes
run_then : (n : ℕ) (f g : List ℕ → Read (Unit {0})) (bytes more rest : List ℕ) → ((xs : List ℕ) → f xs ≡ Got tt rest → g (xs ++ more) ≡ Got tt (rest ++ more))
    → (run n bytes >>= λ u x. f x) ≡ Got tt rest → (length bytes < n) ⊎ (n ≤ length bytes) → (run n (bytes ++ more) >>= λ u x. g x) ≡ Got tt (rest ++ more)
run_then n f g bytes more rest h e (inl l) = absurd (let k : (run n bytes >>= λ u x. f x) ≡ Short = ap (λ r. r >>= λ u x. f x) (run_short n bytes l) in cc)
run_then n f g bytes more rest h e (inr l) =
    ap (λ r. r >>= λ u x. g x) (run_on n bytes more (drop n bytes) (run_got n bytes l))
    ∙ h (drop n bytes) (sym (ap (λ r. r >>= λ u x. f x) (run_got n bytes l)) ∙ e)

pointer_on : (z : Bool) (n : ℕ) (bytes more rest : List ℕ) → (if z then Got tt bytes else (run (n + 8) bytes >>= λ u x. long_value x)) ≡ Got tt rest
    → (if z then Got tt (bytes ++ more) else (run (n + 8) (bytes ++ more) >>= λ u x. long_value x)) ≡ Got tt (rest ++ more)
pointer_on true n bytes more rest e = here_on bytes more rest e
pointer_on false n bytes more rest e = run_then (n + 8) long_value long_value bytes more rest (λ xs k. long_on xs more rest k) e (cases_lt (length bytes) (n + 8))

part_on : (z : Bool) (most others n : ℕ) (bytes more rest : List ℕ) → ((xs : List ℕ) → parts most xs ≡ Got tt rest → parts others (xs ++ more) ≡ Got tt (rest ++ more))
    → (if z then Got tt bytes else (run n bytes >>= λ u x. parts most x)) ≡ Got tt rest
    → (if z then Got tt (bytes ++ more) else (run n (bytes ++ more) >>= λ u x. parts others x)) ≡ Got tt (rest ++ more)
part_on true most others n bytes more rest h e = here_on bytes more rest e
part_on false most others n bytes more rest h e = run_then n (parts most) (parts others) bytes more rest h e (cases_lt (length bytes) n)

parts_on : (most others : ℕ) (bytes more rest : List ℕ) → most ≤ others → parts most bytes ≡ Got tt rest → parts others (bytes ++ more) ≡ Got tt (rest ++ more)
unfolding parts
parts_on zero others bytes more rest l e = absurd cc
parts_on (suc most) zero bytes more rest l e = absurd (omega (arith, l))
parts_on (suc most) (suc others) [] more rest l e = absurd cc
parts_on (suc most) (suc others) (a ∷ []) more rest l e = absurd cc
parts_on (suc most) (suc others) (a ∷ b ∷ []) more rest l e = absurd cc
parts_on (suc most) (suc others) (a ∷ b ∷ c ∷ []) more rest l e = absurd cc
parts_on (suc most) (suc others) (a ∷ b ∷ c ∷ d ∷ bytes) more rest l e =
    part_on (a + 256 * b + 65536 * c + 16777216 * d == 0) most others (a + 256 * b + 65536 * c + 16777216 * d) bytes more rest
    (λ xs k. parts_on most others xs more rest (omega (arith, l)) k) e

in_parts_on : (z : Bool) (bytes more rest : List ℕ) → (if z then Got tt bytes else parts (length bytes) bytes) ≡ Got tt rest
    → (if z then Got tt (bytes ++ more) else parts (length (bytes ++ more)) (bytes ++ more)) ≡ Got tt (rest ++ more)
in_parts_on true bytes more rest e = here_on bytes more rest e
in_parts_on false bytes more rest e = parts_on (length bytes) (length (bytes ++ more)) bytes more rest (omega (arith, length-append bytes more)) e

value_on : (s : Shape) (bytes more rest : List ℕ) → value s bytes ≡ Got tt rest → value s (bytes ++ more) ≡ Got tt (rest ++ more)
unfolding value
value_on (shape.Fixed n) bytes more rest e = run_on n bytes more rest e
value_on shape.Byte [] more rest e = absurd cc
value_on shape.Byte (b ∷ bytes) more rest e = run_on b bytes more rest e
value_on shape.Short [] more rest e = absurd cc
value_on shape.Short (a ∷ []) more rest e = absurd cc
value_on shape.Short (a ∷ b ∷ bytes) more rest e = if_on (a + 256 * b == 65535) (a + 256 * b) bytes more rest e
value_on shape.Long bytes more rest e = long_on bytes more rest e
value_on shape.Pointer [] more rest e = absurd cc
value_on shape.Pointer (b ∷ bytes) more rest e = pointer_on (b == 0) b bytes more rest e
value_on shape.Parts [] more rest e = absurd cc
value_on shape.Parts (a ∷ []) more rest e = absurd cc
value_on shape.Parts (a ∷ b ∷ []) more rest e = absurd cc
value_on shape.Parts (a ∷ b ∷ c ∷ []) more rest e = absurd cc
value_on shape.Parts (a ∷ b ∷ c ∷ d ∷ []) more rest e = absurd cc
value_on shape.Parts (a ∷ b ∷ c ∷ d ∷ p ∷ []) more rest e = absurd cc
value_on shape.Parts (a ∷ b ∷ c ∷ d ∷ p ∷ q ∷ []) more rest e = absurd cc
value_on shape.Parts (a ∷ b ∷ c ∷ d ∷ p ∷ q ∷ r ∷ []) more rest e = absurd cc
value_on shape.Parts (a ∷ b ∷ c ∷ d ∷ p ∷ q ∷ r ∷ s ∷ bytes) more rest e =
    in_parts_on ((a + 256 * b + 65536 * c + 16777216 * d == 4294967295) && (p + 256 * q + 65536 * r + 16777216 * s == 4294967295)) bytes more rest e

-- ---- Its prefix

byte_stays : (bytes more : List ℕ) (i : ℕ) → i < length bytes → get_or (bytes ++ more) i 0 ≡ get_or bytes i 0
byte_stays bytes more i l = get_or-append bytes more 0 i l

four_stays : (bytes more : List ℕ) (i : ℕ) → i + 4 ≤ length bytes → four_from i (bytes ++ more) ≡ four_from i bytes
four_stays bytes more i l =
    rw (byte_stays bytes more i (omega (arith, l))) (rw (byte_stays bytes more (i + 1) (omega (arith, l))) (rw (byte_stays bytes more (i + 2) (omega (arith, l)))
    (rw (byte_stays bytes more (i + 3) (omega (arith, l))) refl)))

lead_stays : (s : Shape) (bytes more : List ℕ) → lead s bytes ≤ length bytes → lead s (bytes ++ more) ≡ lead s bytes
lead_stays (shape.Fixed n) bytes more l = refl
lead_stays shape.Byte bytes more l = refl
lead_stays shape.Short bytes more l = refl
lead_stays shape.Long bytes more l = refl
lead_stays shape.Pointer [] more l = absurd (omega (arith, l))
lead_stays shape.Pointer (b ∷ bytes) more l = refl
lead_stays shape.Parts bytes more l = refl

pointer_null : (z : Bool) (n : ℕ) (bytes more : List ℕ) → (n == 0) ≡ z → (if z then 1 else n + 13) ≤ length bytes
    → (z || (four_from (n + 9) (bytes ++ more) == 4294967295)) ≡ (z || (four_from (n + 9) bytes == 4294967295))
pointer_null true n bytes more e l = refl
pointer_null false n bytes more e l = ap (λ (k : ℕ). k == 4294967295) (four_stays bytes more (n + 9) (omega (arith, l)))

null_stays : (s : Shape) (bytes more : List ℕ) → lead s bytes ≤ length bytes → is_absent s (bytes ++ more) ≡ is_absent s bytes
null_stays (shape.Fixed n) bytes more l = refl
null_stays shape.Byte [] more l = absurd (omega (arith, l))
null_stays shape.Byte (b ∷ bytes) more l = refl
null_stays shape.Short [] more l = absurd (omega (arith, l))
null_stays shape.Short (a ∷ []) more l = absurd (omega (arith, l))
null_stays shape.Short (a ∷ b ∷ bytes) more l = refl
null_stays shape.Long bytes more l = ap (λ (n : ℕ). (n == 0) || (n == 4294967295)) (four_stays bytes more 0 (omega (arith, l)))
null_stays shape.Pointer [] more l = absurd (omega (arith, l))
null_stays shape.Pointer (b ∷ bytes) more l = pointer_null (b == 0) b (b ∷ bytes) more refl l
null_stays shape.Parts bytes more l =
    ap (λ (n : ℕ). (n == 4294967295) && (four_from 4 (bytes ++ more) == 4294967295)) (four_stays bytes more 0 (omega (arith, l)))
    ∙ ap (λ (n : ℕ). (four_from 0 bytes == 4294967295) && (n == 4294967295)) (four_stays bytes more 4 (omega (arith, l)))

-- ---- A value's place

abbrev place_by : ℕ → ℕ → Shape → Bool → ℕ → Place
place_by at before s absent passed = record { start = at + before; length = passed - (before + value_closing s absent); null = null_mark absent }

passed_stays : (bytes more rest : List ℕ) (n : ℕ) → n ≤ length bytes → rest ≡ drop n bytes → length (bytes ++ more) - length (rest ++ more) ≡ length bytes - length rest
passed_stays bytes more rest n l e =
    omega (arith, length-append bytes more, length-append rest more, ap length e, length-drop n bytes, l)

place_stays : (at : ℕ) (s : Shape) (bytes more rest : List ℕ) → Takes (around s bytes) bytes rest
    → value_place at s (bytes ++ more) (length (bytes ++ more) - length (rest ++ more)) ≡ value_place at s bytes (length bytes - length rest)
place_stays at s bytes more rest t =
    let l : lead s bytes ≤ length bytes = omega (arith, t.within, t.least) in
    ap (λ (n : ℕ). place_by at n s (is_absent s (bytes ++ more)) (length (bytes ++ more) - length (rest ++ more))) (lead_stays s bytes more l)
    ∙ (ap (λ (b : Bool). place_by at (lead s bytes) s b (length (bytes ++ more) - length (rest ++ more))) (null_stays s bytes more l)
    ∙ ap (λ (n : ℕ). place_by at (lead s bytes) s (is_absent s bytes) n) (passed_stays bytes more rest t.count t.within t.rest))

abbrev place_of : Read Place → Place
place_of (Got p rest) = p
place_of Short = no_value 0
place_of (Wrong fault rest) = no_value 0

-- a value's place, where the layout passes it so
value_at_by : (at : ℕ) (s : Shape) (bytes more : List ℕ) (r : Read (Unit {0})) (p : Place) (rest : List ℕ) → value s bytes ≡ r
    → (r >>= λ u x. Got (value_place at s bytes (length bytes - length x)) x) ≡ Got p rest → value_at at s (bytes ++ more) ≡ Got p (rest ++ more)
value_at_by at s bytes more (Got u x) p rest e f =
    ap (λ r. r >>= λ v y. Got (value_place at s (bytes ++ more) (length (bytes ++ more) - length y)) y) (value_on s bytes more x e)
    ∙ (ap (λ (q : Place). Got q (x ++ more)) (place_stays at s bytes more x (value_takes s tt bytes x e) ∙ ap place_of f)
    ∙ ap (λ (xs : List ℕ). Got p (xs ++ more)) (ap rest_of f))
value_at_by at s bytes more Short p rest e f = absurd cc
value_at_by at s bytes more (Wrong fault x) p rest e f = absurd cc

column_on : (skipped : Bool) (at : ℕ) (s : Shape) (bytes more : List ℕ) (p : Place) (rest : List ℕ) → column_value_at skipped at s bytes ≡ Got p rest
    → column_value_at skipped at s (bytes ++ more) ≡ Got p (rest ++ more)
column_on true at s bytes more p rest e = ap (λ (q : Place). Got q (bytes ++ more)) (ap place_of e) ∙ ap (λ (xs : List ℕ). Got p (xs ++ more)) (ap rest_of e)
column_on false at s bytes more p rest e = value_at_by at s bytes more (value s bytes) p rest refl e

column_takes_by : (at : ℕ) (s : Shape) (bytes : List ℕ) (r : Read (Unit {0})) (p : Place) (rest : List ℕ) → value s bytes ≡ r
    → (r >>= λ u x. Got (value_place at s bytes (length bytes - length x)) x) ≡ Got p rest → Takes 0 bytes rest
column_takes_by at s bytes (Got u x) p rest e f =
    let t = value_takes s tt bytes x e in
    record { count = t.count; within = t.within; rest = sym (ap rest_of f) ∙ t.rest; least = omega arith }
column_takes_by at s bytes Short p rest e f = absurd cc
column_takes_by at s bytes (Wrong fault x) p rest e f = absurd cc

column_takes : (skipped : Bool) (at : ℕ) (s : Shape) (bytes : List ℕ) (p : Place) (rest : List ℕ) → column_value_at skipped at s bytes ≡ Got p rest → Takes 0 bytes rest
column_takes true at s bytes p rest e = record { count = 0; within = omega arith; rest = sym (ap rest_of e); least = omega arith }
column_takes false at s bytes p rest e = column_takes_by at s bytes (value s bytes) p rest refl e

-- ---- All of them

abbrev with_more : List ℕ → Read (List Place) → Read (List Place)
with_more more (Got ps rest) = Got ps (rest ++ more)
with_more more Short = Short
with_more more (Wrong fault rest) = Wrong fault rest

abbrev pushed : Place → Read (List Place) → Read (List Place)
pushed p r = r >>= λ ps rest. Got (p ∷ ps) rest

-- what is found of these columns stays
abbrev Stay : Bool → List ℕ → ℕ → List Shape → List ℕ → Type 0
Stay with_nulls nulls i shapes more = (at : ℕ) (bytes : List ℕ) (found : List Place) (rest : List ℕ) → values_placed with_nulls nulls i shapes at bytes ≡ Got found rest
    → values_placed with_nulls nulls i shapes at (bytes ++ more) ≡ Got found (rest ++ more)

others_stay : (with_nulls : Bool) (nulls : List ℕ) (i : ℕ) (shapes : List Shape) (more : List ℕ) (at : ℕ) (bytes : List ℕ) (p : Place) (r : Read (List Place)) (found : List Place) (rest : List ℕ)
    → Stay with_nulls nulls i shapes more → values_placed with_nulls nulls i shapes at bytes ≡ r → pushed p r ≡ Got found rest
    → pushed p (values_placed with_nulls nulls i shapes at (bytes ++ more)) ≡ Got found (rest ++ more)
others_stay with_nulls nulls i shapes more at bytes p (Got ps x) found rest h e f = ap (pushed p) (h at bytes ps x e) ∙ ap (with_more more) f
others_stay with_nulls nulls i shapes more at bytes p Short found rest h e f = absurd cc
others_stay with_nulls nulls i shapes more at bytes p (Wrong fault x) found rest h e f = absurd cc

abbrev then_others : Bool → List ℕ → ℕ → List Shape → ℕ → List ℕ → Read Place → Read (List Place)
then_others with_nulls nulls i shapes at bytes r = r >>= λ p rest. pushed p (values_placed with_nulls nulls (i + 1) shapes (at + (length bytes - length rest)) rest)

row_stays : (with_nulls : Bool) (nulls : List ℕ) (i : ℕ) (s : Shape) (shapes : List Shape) (more : List ℕ) (at : ℕ) (bytes : List ℕ) (skipped : Bool) (r : Read Place) (found : List Place) (rest : List ℕ)
    → Stay with_nulls nulls (i + 1) shapes more → column_value_at skipped at s bytes ≡ r → then_others with_nulls nulls i shapes at bytes r ≡ Got found rest
    → then_others with_nulls nulls i shapes at (bytes ++ more) (column_value_at skipped at s (bytes ++ more)) ≡ Got found (rest ++ more)
row_stays with_nulls nulls i s shapes more at bytes skipped (Got p x) found rest h e f =
    let t = column_takes skipped at s bytes p x e in
    ap (then_others with_nulls nulls i shapes at (bytes ++ more)) (column_on skipped at s bytes more p x e)
    ∙ (ap (λ (n : ℕ). pushed p (values_placed with_nulls nulls (i + 1) shapes (at + n) (x ++ more))) (passed_stays bytes more x t.count t.within t.rest)
    ∙ others_stay with_nulls nulls (i + 1) shapes more (at + (length bytes - length x)) x p _ found rest h refl f)
row_stays with_nulls nulls i s shapes more at bytes skipped Short found rest h e f = absurd cc
row_stays with_nulls nulls i s shapes more at bytes skipped (Wrong fault x) found rest h e f = absurd cc

pub places_stay : (with_nulls : Bool) (nulls : List ℕ) (i : ℕ) (shapes : List Shape) (more : List ℕ) → Stay with_nulls nulls i shapes more
unfolding values_placed
places_stay with_nulls nulls i [] more at bytes found rest e = ap (with_more more) e
places_stay with_nulls nulls i (s ∷ shapes) more at bytes found rest e =
    row_stays with_nulls nulls i s shapes more at bytes (with_nulls && is_null nulls i) (column_value_at (with_nulls && is_null nulls i) at s bytes) found rest
    (places_stay with_nulls nulls (i + 1) shapes more) refl e
