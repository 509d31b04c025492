-- Rows that are whole in a run of bytes.
use Rattle.std.proofs.Common.{◌≡◌, ◌∙◌, ◌≤◌, ◌<◌, ℕ, zero, suc, ◌+◌, ◌-◌, ◌*◌, ◌/◌, ◌==◌, nat_lt, Bool, true, false, List, [], ◌∷◌, length, drop, get_or, if◌then◌else◌, refl, sym, ap, arith, rules}
use Rattle.std.specs.Prelude.{min}
use Rattle.std.proofs.lemmas.Bool.{lt-ltb, le-ltb}
use Rattle.std.proofs.lemmas.List.{length-drop, length-take-le}
use Rattle.tds_wire.specs.declared.due.Due.{Due}
use Rattle.tds_wire.specs.declared.due.Due.TheVariants.{Token, Number, Run}
use Rattle.tds_wire.specs.declared.due.Field.TheVariants as field
use Rattle.tds_wire.specs.declared.due.Inside.{Inside}
use Rattle.tds_wire.specs.declared.due.Inside.TheVariants as inside
use Rattle.tds_wire.specs.declared.due.Next.TheVariants.{Valued}
use Rattle.tds_wire.specs.declared.due.ValueField.TheVariants as in_value
use Rattle.tds_wire.specs.declared.shape.Shape.TheVariants as shape
use Rattle.tds_wire.specs.declared.told.Token.{Token as AnyToken}
use Rattle.tds_wire.specs.declared.told.Told.TheVariants as told
use Rattle.tds_wire.specs.Bytes.{Over, onward, walk_step, to_end}
use Rattle.tds_wire.specs.Reading.{IsReady, Parser, Sees, front_of, next_token, token_with}
use Rattle.tds_wire.specs.Told.{told_of}
use Rattle.tds_wire.specs.Walking.{Walk, at_column, begun, ended, has_no_bytes, next_value, pass, row_from, shape_at, value_due, valued, with_due, with_inside, with_kind, with_run}
use Rattle.tds_wire.specs.Rows.{IsPassed, Passes, behind_row, past_row, row_token}

-- ---- Values

-- a row goes on the same whatever was due before
valued_due : (i : Inside) (w : Walk) (d : Due) → valued i (with_due w d) ≡ valued i w
unfolding at_column
valued_due (inside.Columns left) w d = refl
valued_due inside.Parameter w d = refl
valued_due (inside.Row i) w d = refl
valued_due (inside.NullRow i) w d = refl
valued_due (inside.ColumnBase left) w d = refl
valued_due (inside.ParameterBase s) w d = refl

goes_on : (w : Walk) (d : Due) (bytes : List ℕ) → to_end (valued w.at.inside (with_due w d)) bytes ≡ to_end (valued w.at.inside w) bytes
goes_on w d bytes = ap (λ (x : Walk). to_end x bytes) (valued_due w.at.inside w d)

run_passed : (n : ℕ) (w : Walk) (bytes : List ℕ) → suc n ≤ length bytes → to_end (with_run w (suc n) Valued) bytes ≡ to_end (valued w.at.inside w) (drop (suc n) bytes)
unfolding to_end walk_step
run_passed n w [] h = absurd (omega (arith, h))
run_passed zero w (b ∷ bytes) h = goes_on w (Run 1 Valued) bytes
run_passed (suc n) w (b ∷ bytes) h =
    let t : nat_lt 1 (suc (suc n)) ≡ true = lt-ltb 1 (suc (suc n)) (omega arith) in
    let m : suc (suc n) - 1 ≡ suc n = omega arith in
    rw t (rw m (run_passed n w bytes (omega (arith, h))))

-- a run that may have no bytes
pass_passed : (n : ℕ) (w : Walk) (d : Due) (bytes : List ℕ) → n ≤ length bytes → to_end (pass (with_due w d) n Valued) bytes ≡ to_end (valued w.at.inside w) (drop n bytes)
unfolding pass
pass_passed zero w d bytes h = goes_on w d bytes
pass_passed (suc n) w d bytes h =
    let e : (suc n == 0) ≡ false = search rules in
    rw e (run_passed n w bytes h)

pub fixed_passes : (n : ℕ) (bytes : List ℕ) → 0 < n → n ≤ length bytes → Passes (shape.Fixed n) n bytes
fixed_passes zero bytes some h = absurd (omega (arith, some))
fixed_passes (suc n) bytes some h = λ w. run_passed n w bytes h

byte_passed : (w : Walk) (b : ℕ) (bytes : List ℕ) → b ≤ length bytes → to_end (with_due w (value_due shape.Byte)) (b ∷ bytes) ≡ to_end (valued w.at.inside w) (drop b bytes)
unfolding to_end walk_step
byte_passed w b bytes h = pass_passed b w (value_due shape.Byte) bytes h

pub byte_passes : (n : ℕ) (bytes : List ℕ) → n ≡ 1 + get_or bytes 0 0 → n ≤ length bytes → Passes shape.Byte n bytes
byte_passes n [] e h = absurd (omega (arith, e, h))
byte_passes n (b ∷ bytes) e h = λ w.
    let k : n ≡ suc b = omega (arith, e) in
    rw k (byte_passed w b bytes (omega (arith, h, k)))

-- the number that two bytes spell
abbrev spelled : ℕ → ℕ → ℕ
spelled a b = (0 / 256 + 256 * a) / 256 + 256 * b

short_passed : (z : Bool) (w : Walk) (a b m : ℕ) (bytes : List ℕ) → (spelled a b == 65535) ≡ z → m ≡ (if z then 0 else spelled a b) → m ≤ length bytes
    → to_end (with_due w (value_due shape.Short)) (a ∷ b ∷ bytes) ≡ to_end (valued w.at.inside w) (drop m bytes)
unfolding to_end walk_step
short_passed true w a b m bytes e k h = rw e (rw k (goes_on w (Number (field.Value in_value.ShortCount) 1 (0 / 256 + 256 * a)) bytes))
short_passed false w a b m bytes e k h = rw e (rw k (pass_passed (spelled a b) w (Number (field.Value in_value.ShortCount) 1 (0 / 256 + 256 * a)) bytes (omega (arith, h, k))))

pub short_null : (bytes : List ℕ) → 2 ≤ length bytes → get_or bytes 0 0 + 256 * get_or bytes 1 0 ≡ 65535 → Passes shape.Short 2 bytes
short_null [] h e = absurd (omega (arith, h))
short_null (a ∷ []) h e = absurd (omega (arith, h))
short_null (a ∷ b ∷ bytes) h e = λ w.
    let n : spelled a b ≡ 65535 = omega (arith, e) in
    let z : (spelled a b == 65535) ≡ true = rw n refl in
    short_passed true w a b 0 bytes z refl (omega arith)

pub short_passes : (n : ℕ) (bytes : List ℕ) → 2 ≤ length bytes → (get_or bytes 0 0 + 256 * get_or bytes 1 0 == 65535) ≡ false
    → n ≡ get_or bytes 0 0 + 256 * get_or bytes 1 0 + 2 → n ≤ length bytes → Passes shape.Short n bytes
short_passes n [] h f e l = absurd (omega (arith, h))
short_passes n (a ∷ []) h f e l = absurd (omega (arith, h))
short_passes n (a ∷ b ∷ bytes) h f e l = λ w.
    let s : spelled a b ≡ a + 256 * b = omega arith in
    let k : n ≡ suc (suc (spelled a b)) = omega (arith, e, s) in
    let z : (spelled a b == 65535) ≡ false = rw s f in
    rw k (short_passed false w a b (spelled a b) bytes z refl (omega (arith, l, k)))

-- ---- Rows

-- the walk before a column: it was inside the one before
abbrev pub so_far : Walk → ℕ → Walk
so_far w i = with_inside (with_kind w 0xD1) (if i == 0 then w.at.inside else inside.Row (i - 1))

pub row_begins : (w : Walk) (bytes : List ℕ) → w.at.due ≡ Token → 0 < length w.columns → 0 < length bytes → get_or bytes 0 0 ≡ 0xD1
    → onward w bytes ≡ to_end (row_from false (so_far w 0) 0) (drop 1 bytes)
unfolding onward walk_step begun
row_begins w [] d some h e = absurd (omega (arith, h))
row_begins w (b ∷ bytes) d some h e =
    let z : (length w.columns == 0) ≡ false = search rules in
    rw d (rw e (rw z refl))

next_is : (w : Walk) (i : ℕ) → i < length w.columns → has_no_bytes (shape_at w.columns i) ≡ false → next_value false w.nulls w.columns i (length w.columns - i) ≡ i
unfolding next_value
next_is w i l n =
    let e : length w.columns - i ≡ suc (length w.columns - (i + 1)) = omega (arith, l) in
    rw e (rw n refl)

row_reads : (w : Walk) (i : ℕ) → i < length w.columns → has_no_bytes (shape_at w.columns i) ≡ false
    → row_from false w i ≡ with_due (with_inside w (inside.Row i)) (value_due (shape_at w.columns i))
unfolding at_column
row_reads w i l n =
    let t : nat_lt i (length w.columns) ≡ true = lt-ltb i (length w.columns) l in
    rw (next_is w i l n) (rw t refl)

row_ends : (w : Walk) (i : ℕ) → i ≡ length w.columns → row_from false w i ≡ ended w
unfolding next_value at_column
row_ends w i h =
    let e : length w.columns - i ≡ 0 = omega (arith, h) in
    let t : nat_lt i (length w.columns) ≡ false = le-ltb i (length w.columns) (omega (arith, h)) in
    rw e (rw t refl)

inside_next : (w : Walk) (i : ℕ) → inside.Row i ≡ (if i + 1 == 0 then w.at.inside else inside.Row (i + 1 - 1))
inside_next w i =
    let z : (i + 1 == 0) ≡ false = search rules in
    let k : i + 1 - 1 ≡ i = omega arith in
    rw z (rw k refl)

-- one column more
pub row_goes : (w : Walk) (i n : ℕ) (bytes : List ℕ) → i < length w.columns → length w.columns ≤ 4096
    → has_no_bytes (shape_at w.columns i) ≡ false → Passes (shape_at w.columns i) n bytes
    → to_end (row_from false (so_far w i) i) bytes ≡ to_end (row_from false (so_far w (i + 1)) (i + 1)) (drop n bytes)
row_goes w i n bytes l most none passes =
    let k : min 65535 (i + 1) ≡ i + 1 = omega (arith, l, most) in
    let u : Walk = with_inside (so_far w i) (inside.Row i) in
    ap (λ (x : Walk). to_end x bytes) (row_reads (so_far w i) i l none)
    ∙ (passes u
    ∙ (ap (λ (j : ℕ). to_end (row_from false u j) (drop n bytes)) k
    ∙ ap (λ (x : Inside). to_end (row_from false (with_inside (with_kind w 0xD1) x) (i + 1)) (drop n bytes)) (inside_next w i)))

is_over : (w : Walk) (bytes : List ℕ) → to_end (ended w) bytes ≡ Over (ended w) bytes
unfolding to_end
is_over w [] = refl
is_over w (b ∷ bytes) = refl

inside_last : (w : Walk) (n : ℕ) → 0 < n → (if n == 0 then w.at.inside else inside.Row (n - 1)) ≡ inside.Row (n - 1)
inside_last w zero h = absurd (omega (arith, h))
inside_last w (suc n) h =
    let z : (suc n == 0) ≡ false = search rules in
    rw z refl

-- behind the last one
pub row_over : (w : Walk) (i : ℕ) (bytes : List ℕ) → i ≡ length w.columns → 0 < length w.columns
    → to_end (row_from false (so_far w i) i) bytes ≡ Over (behind_row w) bytes
row_over w i bytes e some =
    ap (λ (x : Walk). to_end x bytes) (row_ends (so_far w i) i e)
    ∙ (is_over (so_far w i) bytes
    ∙ (ap (λ (j : ℕ). Over (ended (so_far w j)) bytes) e
    ∙ ap (λ (x : Inside). Over (ended (with_inside (with_kind w 0xD1) x)) bytes) (inside_last w (length w.columns) some)))

-- ---- The parser behind a row

front_length : (n : ℕ) (piece : List ℕ) → n ≤ length piece → length (front_of piece (drop n piece)) ≡ n
front_length n piece h =
    let k : length (drop n piece) ≡ length piece - n = length-drop n piece in
    let e : length piece - length (drop n piece) ≡ n = omega (arith, k, h) in
    rw e (length-take-le n piece h)

sees_row : (r : Parser) (n : ℕ) (piece : List ℕ) → IsReady r → n ≤ length piece → onward r.walk piece ≡ Over (behind_row r.walk) (drop n piece)
    → next_token r piece ≡ Sees (token_with r 0xD1 (front_of piece (drop n piece))) (past_row r n) (drop n piece)
unfolding next_token
sees_row r n piece ready few over =
    let k : length (front_of piece (drop n piece)) ≡ n = front_length n piece few in
    let e : min 18446744073709551615 (r.start + min 18446744073709551615 (0 + n)) ≡ min 18446744073709551615 (r.start + n) = omega arith in
    rw ready.whole (rw over (rw k (rw ready.passed (rw e (rw ready.head (search rules))))))

-- what is told of it
token_is : (r : Parser) (n : ℕ) (piece : List ℕ) → IsReady r → n ≤ length piece → n ≤ 18446744073709551615
    → token_with r 0xD1 (front_of piece (drop n piece)) ≡ row_token n r
unfolding told_of
token_is r n piece ready few counted =
    let k : length (front_of piece (drop n piece)) ≡ n = front_length n piece few in
    let e : min 18446744073709551615 (r.passed + length (front_of piece (drop n piece))) ≡ n = omega (arith, k, counted, ready.passed) in
    ap (λ (m : ℕ). record { kind = 0xD1; start = r.start; length = m; told = told.Other }) e

pub row_passed : (r : Parser) (n : ℕ) (piece : List ℕ) → IsReady r → n ≤ length piece → n ≤ 18446744073709551615
    → onward r.walk piece ≡ Over (behind_row r.walk) (drop n piece) → IsPassed n r (past_row r n) piece
row_passed r n piece ready few counted over =
    sees_row r n piece ready few over ∙ ap (λ (t : AnyToken). Sees t (past_row r n) (drop n piece)) (token_is r n piece ready few counted)

-- a parser that is ready, moved by a row: it was before a token
abbrev moved : Parser → ℕ → ℕ → Parser
moved r i start = record r { walk = record r.walk { at = record r.walk.at { kind = 0xD1; inside = inside.Row i } }; start = start }

pub moved_on : (r : Parser) (i n start : ℕ) → IsReady r → i ≡ length r.walk.columns - 1 → start ≡ min 18446744073709551615 (r.start + n) → past_row r n ≡ moved r i start
moved_on r i n start ready e f =
    ap (λ (k : ℕ). record r { walk = record r.walk { at = record r.walk.at { due = Token; kind = 0xD1; inside = inside.Row (length r.walk.columns - 1) } }; start = k }) (sym f)
    ∙ (ap (λ (k : ℕ). record r { walk = record r.walk { at = record r.walk.at { due = Token; kind = 0xD1; inside = inside.Row k } }; start = start }) (sym e)
    ∙ ap (λ (d : Due). record r { walk = record r.walk { at = record r.walk.at { due = d; kind = 0xD1; inside = inside.Row i } }; start = start }) (sym ready.walk.due))

pub ready_again : (r : Parser) (i start : ℕ) → IsReady r → IsReady (moved r i start)
ready_again r i start ready = record {
  walk = record { due = ready.walk.due; columns = ready.walk.columns; nulls = ready.walk.nulls };
  head = ready.head;
  passed = ready.passed;
  whole = ready.whole;
}
