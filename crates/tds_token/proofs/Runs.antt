-- Rows one behind the other, and the tokens that they are.
use Rattle.std.proofs.Common.{◌≡◌, ℕ, ℤ, zero, suc, ◌+◌, ◌-◌, ◌*◌, ◌≤◌, ◌<◌, false, eqb, ltb, List, [], ◌∷◌, ◌++◌, length, take, drop, Option, Some, None, Ok, refl, sym, ap, subst, ◌∙◌, append_assoc, arith}
use Rattle.std.proofs.Math.Seq.{take-append_seam}
use Rattle.std.proofs.lemmas.Bool.{le-ltb}
use Rattle.std.proofs.lemmas.List.{nil_from_length, length-append, length-drop, drop-append-le, take-append-le, take-append-drop}
use Rattle.tds_token.specs.declared.token.Token.TheVariants as tokens
use Rattle.tds_token.specs.Contents.{contents_of, with_token}
use Rattle.tds_token.specs.Cursor.{Cursor, step}
use Rattle.tds_token.specs.Layout.{int_bytes}
use Rattle.std.specs.List.{flat_map}
use Rattle.tds_token.specs.Reading.{token_at, token_behind, row_at}
use Rattle.tds_token.specs.Runs.{IsRowAt, row_of, behind_row, AreRowsTo, rows_of, IsRun, row_tokens, GivesInTurn, with_tokens, NoRow}
use Rattle.tds_token.specs.Texts.{AreColumns, IsBytes, ints_of}
use Rattle.tds_token.proofs.Behind.{contents_step}
use Rattle.tds_token.proofs.Fields.{IsBytes-drop}
use Rattle.tds_token.proofs.Tables.{ints_length}

-- ---- One row

behind_shorter : (n : ℕ) (bytes : List ℕ) → IsRowAt n bytes → length (behind_row n bytes) < length bytes
behind_shorter n [] is = absurd is
behind_shorter n (kind ∷ bytes) is = omega (arith, length-drop (4 * n) bytes)

behind_bytes : (n : ℕ) (bytes : List ℕ) → IsRowAt n bytes → IsBytes bytes → IsBytes (behind_row n bytes)
behind_bytes n [] is fits = absurd is
behind_bytes n (kind ∷ bytes) is fits = IsBytes-drop (4 * n) bytes (λ i. fits (suc i))

row_step : (n : ℕ) (bytes : List ℕ) → IsRowAt n bytes → (Some (Ok (tokens.Row (row_of n bytes))), record { bytes = behind_row n bytes; columns = Some n }) ≡ step (record { bytes = bytes; columns = Some n })
unfolding step token_at token_behind row_at
row_step n [] is = absurd is
row_step n (kind ∷ bytes) is =
    let long : ltb (length bytes) (4 * n) ≡ false = le-ltb _ _ is.1 in
    let full : eqb (length (kind ∷ bytes)) 0 ≡ false = search arith in
    rw (full, is.0, long) refl

-- ---- Counted from the front

one_more : (count n : ℕ) (bytes middle : List ℕ) → AreRowsTo count n bytes middle → IsRowAt n middle → AreRowsTo (suc count) n bytes (behind_row n middle)
unfolding AreRowsTo
one_more zero n bytes middle e is = (subst (IsRowAt n) (sym e) is, ap (behind_row n) e)
one_more (suc count) n bytes middle h is = (h.0, one_more count n (behind_row n bytes) middle h.1 is)

pub at_end : (count n : ℕ) (bytes middle rest : List ℕ) → AreRowsTo count n bytes middle → IsRowAt n middle → rest ≡ behind_row n middle → AreRowsTo (count + 1) n bytes rest
at_end count n bytes middle rest h is e =
    let more : count + 1 ≡ suc count = omega arith in
    rw (more, e) (one_more count n bytes middle h is)

pub none_yet : (n : ℕ) (bytes : List ℕ) → AreRowsTo 0 n bytes bytes
unfolding AreRowsTo
none_yet n bytes = refl

pub lengths : (count n : ℕ) (bytes rest : List ℕ) → AreRowsTo count n bytes rest → length rest ≤ length bytes
unfolding AreRowsTo
lengths zero n bytes rest e = omega (arith, ap length e)
lengths (suc count) n bytes rest h =
    omega (arith, behind_shorter n bytes h.0, lengths count n (behind_row n bytes) rest h.1)

-- ---- The bytes of the rows alone

front_of : (count n : ℕ) (bytes rest : List ℕ) → AreRowsTo count n bytes rest → (front : List ℕ) × (bytes ≡ front ++ rest)
unfolding AreRowsTo
front_of zero n bytes rest e = ([], e)
front_of (suc count) n [] rest h = absurd h.0
front_of (suc count) n (kind ∷ bytes) rest h =
    let f = front_of count n (drop (4 * n) bytes) rest h.1 in
    let whole : bytes ≡ (take (4 * n) bytes ++ f.0) ++ rest = sym (take-append-drop (4 * n) bytes) ∙ ap (λ (b : List ℕ). take (4 * n) bytes ++ b) f.1 ∙ sym (append_assoc (take (4 * n) bytes) f.0 rest) in
    (kind ∷ (take (4 * n) bytes ++ f.0), ap (λ (b : List ℕ). kind ∷ b) whole)

seam : (bytes front rest : List ℕ) → bytes ≡ front ++ rest → take (length bytes - length rest) bytes ≡ front
seam bytes front rest e =
    let n : length bytes - length rest ≡ length front = omega (arith, ap length e, length-append front rest) in
    rw (n, e) (take-append_seam front rest)

record Alone (count n : ℕ) (front rest : List ℕ) : Type 0 where
  pub rows : AreRowsTo count n front []
  pub run : IsRun n (front ++ rest) (rows_of count n front) rest

alone : (count n : ℕ) (front rest : List ℕ) → AreRowsTo count n (front ++ rest) rest → Alone count n front rest
unfolding AreRowsTo rows_of IsRun
alone zero n front rest e =
    record { rows = nil_from_length front (omega (arith, ap length e, length-append front rest)); run = e }
alone (suc count) n [] rest h =
    absurd (omega (arith, behind_shorter n rest h.0, lengths count n (behind_row n rest) rest h.1))
alone (suc count) n (kind ∷ front) rest h =
    let fewer = lengths count n (drop (4 * n) (front ++ rest)) rest h.1 in
    let within : 4 * n ≤ length front = omega (arith, h.0.1, fewer, length-append front rest, length-drop (4 * n) (front ++ rest)) in
    let behind : drop (4 * n) (front ++ rest) ≡ drop (4 * n) front ++ rest = drop-append-le (4 * n) front rest within in
    let values : take (4 * n) (front ++ rest) ≡ take (4 * n) front = take-append-le (4 * n) front rest within in
    let others = alone count n (drop (4 * n) front) rest (subst (λ (b : List ℕ). AreRowsTo count n b rest) behind h.1) in
    record {
      rows = ((h.0.0, within), others.rows);
      run = (h.0, ap ints_of (sym values), subst (λ (b : List ℕ). IsRun n b (rows_of count n (drop (4 * n) front)) rest) (sym behind) others.run);
    }

pub record Cut (count n : ℕ) (bytes rest : List ℕ) : Type 0 where
  pub rows : AreRowsTo count n (take (length bytes - length rest) bytes) []
  pub run : IsRun n bytes (rows_of count n (take (length bytes - length rest) bytes)) rest

pub cut : (count n : ℕ) (bytes rest : List ℕ) → AreRowsTo count n bytes rest → Cut count n bytes rest
cut count n bytes rest h =
    let f = front_of count n bytes rest h in
    let a = alone count n f.0 rest (subst (λ (b : List ℕ). AreRowsTo count n b rest) f.1 h) in
    let s = seam bytes f.0 rest f.1 in
    record {
      rows = rw s a.rows;
      run = rw s (subst (λ (b : List ℕ). IsRun n b (rows_of count n f.0) rest) (sym f.1) a.run);
    }

-- ---- The first and the others

pub first_is : (count n : ℕ) (bytes rest : List ℕ) → 0 < count → AreRowsTo count n bytes rest → IsRowAt n bytes
unfolding AreRowsTo
first_is zero n bytes rest some h = absurd (omega arith)
first_is (suc count) n bytes rest some h = h.0

pub others_are : (count n : ℕ) (bytes rest : List ℕ) → 0 < count → AreRowsTo count n bytes rest → AreRowsTo (count - 1) n (behind_row n bytes) rest
unfolding AreRowsTo
others_are zero n bytes rest some h = absurd (omega arith)
others_are (suc count) n bytes rest some h = let e : suc count - 1 ≡ count = omega arith in rw e h.1

pub first_and_others : (count n : ℕ) (bytes : List ℕ) → 0 < count → rows_of count n bytes ≡ row_of n bytes ∷ rows_of (count - 1) n (behind_row n bytes)
unfolding rows_of
first_and_others zero n bytes some = absurd (omega arith)
first_and_others (suc count) n bytes some = let e : suc count - 1 ≡ count = omega arith in rw e refl

pub no_rows : (n : ℕ) (bytes : List ℕ) → rows_of 0 n bytes ≡ []
unfolding rows_of
no_rows n bytes = refl

pub how_many : (count n : ℕ) (bytes : List ℕ) → count ≡ length (rows_of count n bytes)
unfolding rows_of
how_many zero n bytes = refl
how_many (suc count) n bytes = ap suc (how_many count n (behind_row n bytes))

pub are_run : (count n : ℕ) (bytes rest : List ℕ) → AreRowsTo count n bytes rest → IsRun n bytes (rows_of count n bytes) rest
unfolding AreRowsTo rows_of IsRun
are_run zero n bytes rest h = h
are_run (suc count) n bytes rest h = (h.0, refl, are_run count n (behind_row n bytes) rest h.1)

-- ---- As tokens

pub run_in_turn : (n : ℕ) (bytes : List ℕ) (rows : List (List ℤ)) (rest : List ℕ) → IsRun n bytes rows rest → GivesInTurn (record { bytes = bytes; columns = Some n }) (row_tokens rows) (record { bytes = rest; columns = Some n })
unfolding IsRun GivesInTurn
run_in_turn n bytes [] rest e = rw e refl
run_in_turn n bytes (values ∷ others) rest h =
    (record { bytes = behind_row n bytes; columns = Some n }, rw h.1 (row_step n bytes h.0), run_in_turn n (behind_row n bytes) others rest h.2)

pub run_contents : (n : ℕ) (bytes : List ℕ) (rows : List (List ℤ)) (rest : List ℕ) → AreColumns (Some n) → IsBytes bytes → IsRun n bytes rows rest
    → contents_of (Some n) bytes ≡ with_tokens (row_tokens rows) (contents_of (Some n) rest)
unfolding IsRun
run_contents n bytes [] rest known fits e = rw e refl
run_contents n bytes (values ∷ others) rest known fits h =
    contents_step (record { bytes = bytes; columns = Some n }) (record { bytes = behind_row n bytes; columns = Some n }) (Some (Ok (tokens.Row values))) known fits (rw h.1 (row_step n bytes h.0))
    ∙ ap (with_token (tokens.Row values)) (run_contents n (behind_row n bytes) others rest known (behind_bytes n bytes h.0 fits) h.2)

pub run_bytes : (n : ℕ) (bytes : List ℕ) (rows : List (List ℤ)) (rest : List ℕ) → IsBytes bytes → IsRun n bytes rows rest → IsBytes rest
unfolding IsRun
run_bytes n bytes [] rest fits e = subst IsBytes e fits
run_bytes n bytes (values ∷ others) rest fits h =
    run_bytes n (behind_row n bytes) others rest (behind_bytes n bytes h.0 fits) h.2

pub no_more_rows : (n : ℕ) (bytes : List ℕ) → (IsRowAt n bytes → ⊥) → NoRow (Some n) bytes
no_more_rows n bytes absent = λ values front rest after is split.
    let whole : bytes ≡ 0xD1 ∷ (flat_map int_bytes values ++ rest) = split ∙ ap (λ (f : List ℕ). f ++ rest) is.spelled in
    let under : Some n ≡ Some (length values) = is.under in
    let same : n ≡ length values = cc in
    let there : IsRowAt n (0xD1 ∷ (flat_map int_bytes values ++ rest)) = (refl, omega (arith, same, ints_length values, length-append (flat_map int_bytes values) rest)) in
    absent (subst (IsRowAt n) (sym whole) there)

pub no_columns_no_row : (bytes : List ℕ) → NoRow None bytes
no_columns_no_row bytes = λ values front rest after is split. let under : None ≡ Some (length values) = is.under in absurd cc

-- ---- As a reader of tokens shows them

pub stays : (here : Cursor) → GivesInTurn here [] here
unfolding GivesInTurn
stays here = refl

pub turn_by : (n : ℕ) (columns : Option ℕ) (bytes : List ℕ) (rows : List (List ℤ)) (rest : List ℕ) → Some n ≡ columns → IsRun n bytes rows rest
    → GivesInTurn (record { bytes = bytes; columns = columns }) (row_tokens rows) (record { bytes = rest; columns = columns })
turn_by n columns bytes rows rest e h =
    subst (λ (known : Option ℕ). GivesInTurn (record { bytes = bytes; columns = known }) (row_tokens rows) (record { bytes = rest; columns = known })) e (run_in_turn n bytes rows rest h)

pub contents_by_rows : (n : ℕ) (columns : Option ℕ) (bytes : List ℕ) (rows : List (List ℤ)) (rest : List ℕ) → Some n ≡ columns → AreColumns columns → IsBytes bytes → IsRun n bytes rows rest
    → contents_of columns bytes ≡ with_tokens (row_tokens rows) (contents_of columns rest)
contents_by_rows n columns bytes rows rest e known fits h =
    subst (λ (known : Option ℕ). contents_of known bytes ≡ with_tokens (row_tokens rows) (contents_of known rest)) e (run_contents n bytes rows rest (subst AreColumns (sym e) known) fits h)
