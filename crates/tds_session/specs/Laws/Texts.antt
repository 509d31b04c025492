-- The text of statements is read as them.
use Rattle.std.proofs.Common.{◌⊎◌, inl, inr, ◌≡◌, ◌≢◌, ◌≤◌, ◌<◌, ◌^◌, ℕ, suc, ◌-◌, ℤ, pos, negsuc, Bool, true, false, ◌||◌, not, ◌==◌, List, [], ◌∷◌, ◌++◌, length, map, Some, None, option_map, if◌then◌else◌, nat_le, decimal, codes, FitsSigned, refl, sym, ap, ◌∙◌, arith, lit<}
use Rattle.std.specs.Fmt.{signed_decimal}
use Rattle.std.specs.Int.{w32}
use Rattle.std.specs.List.{All, AllByRecursion, list_all, join_with_byte}
use Rattle.std.proofs.lemmas.Bool.Decides.{leb_tells, nat_tests}
use Rattle.std.proofs.lemmas.List.Elements.{All-head, All-tail}
use Rattle.std.proofs.lemmas.List.Folds.{list_all-append}
use Rattle.std.proofs.lemmas.Int.{to_z_pos}
use Rattle.std.proofs.Math.Facts.{to_z-neg, to_z-of_z, Fits-of_z, Fits-lt-pow}
use Rattle.std.proofs.Common.{to_z, of_z}
use Rattle.tds_session.specs.Within.{IsWithin}
use Rattle.tds_session.specs.Words.{piece_on, pieces, such, is_within, is_digit, is_letter_or_digit, is_word, numeral_value, number_within, signed_of, minus, fits_i32}
use Rattle.tds_session.specs.Language.{of_words, rows_of, set_of, statement_of, with_first, each_of, statements_of}
use Rattle.tds_session.specs.Spelling.{statement_text, Spells}
use Rattle.tds_session.specs.Statements.{IsStatement}
use Rattle.tds_session.specs.declared.statement.Statement.{Statement}
use Rattle.tds_session.specs.declared.statement.Statement.TheVariants as statement
use Rattle.tds_session.specs.Laws.Numerals.{both, joined, or_cases, within_tells, decimal_is_plain, decimal_is_number}
use Rattle.tds_session.specs.Laws.Spells.{is_within_is}

-- ---- pieces that hold no separator, joined and cut again

-- whether no unit is the separator
abbrev lacks : ℕ → List ℕ → Bool
lacks separator us = list_all (λ u. not (u == separator)) us

not_true : (b : Bool) → not b ≡ true → b ≡ false
not_true true h = absurd (let z : false ≡ true = h in cc)
not_true false h = refl

pieces_front : (c : ℕ) (w rest : List ℕ) → lacks c w ≡ true → pieces c (w ++ c ∷ rest) ≡ w ∷ pieces c rest
pieces_front c [] rest h = let e : (c == c) ≡ true = grind (arith, nat_tests) in ap (λ b. piece_on b c (pieces c rest)) e
pieces_front c (u ∷ w) rest h =
    let p = both (not (u == c)) (lacks c w) h in
    ap (λ b. piece_on b u (pieces c (w ++ c ∷ rest))) (not_true (u == c) p.0) ∙ ap (λ ps. piece_on false u ps) (pieces_front c w rest p.1)

pieces_last : (c : ℕ) (w : List ℕ) → lacks c w ≡ true → pieces c w ≡ w ∷ []
pieces_last c [] h = refl
pieces_last c (u ∷ w) h =
    let p = both (not (u == c)) (lacks c w) h in
    ap (λ b. piece_on b u (pieces c w)) (not_true (u == c) p.0) ∙ ap (λ ps. piece_on false u ps) (pieces_last c w p.1)

pieces_of_join : (c : ℕ) (w : List ℕ) (ws : List (List ℕ)) → lacks c w ≡ true → AllByRecursion (λ v. lacks c v ≡ true) ws → pieces c (join_with_byte c (w ∷ ws)) ≡ w ∷ ws
pieces_of_join c w [] h k = pieces_last c w h
pieces_of_join c w (x ∷ xs) h k = pieces_front c w (join_with_byte c (x ∷ xs)) h ∙ ap (λ ps. w ∷ ps) (pieces_of_join c x xs k.0 k.1)

-- ---- words hold neither a space nor a semicolon

not_unit : (u c : ℕ) → u ≢ c → not (u == c) ≡ true
not_unit u c h = grind (arith, nat_tests)

all_lack : (test : ℕ → Bool) (c : ℕ) → ((u : ℕ) → test u ≡ true → u ≢ c) → (us : List ℕ) → list_all test us ≡ true → lacks c us ≡ true
all_lack test c other [] h = refl
all_lack test c other (u ∷ us) h =
    let p = both (test u) (list_all test us) h in
    joined (not (u == c)) (lacks c us) (not_unit u c (other u p.0)) (all_lack test c other us p.1)

-- neither space nor semicolon
record IsBetween (us : List ℕ) : Type 0 where
  pub space : lacks 32 us ≡ true
  pub semicolon : lacks 59 us ≡ true

within_other : (low high c u : ℕ) → (c < low) ⊎ (high < c) → is_within low high u ≡ true → u ≢ c
within_other low high c u h k = λ e. let w = is_within_is low high u k in omega (arith, h, w.least, w.most, e)

digit_other : (u c : ℕ) → (c < 48) ⊎ (57 < c) → is_digit u ≡ true → u ≢ c
digit_other u c h k = within_other 48 57 c u h k

letter_other : (u c : ℕ) → (c ≡ 32) ⊎ (c ≡ 59) → is_letter_or_digit u ≡ true → u ≢ c
letter_other u c h k =
    or_cases (u ≢ c) (is_digit u || is_within 65 90 u) (is_within 97 122 u)
    (or_cases (u ≢ c) (is_digit u) (is_within 65 90 u)
    (λ t e. let w = is_within_is 48 57 u t in omega (arith, h, w.least, w.most, e))
    (λ t e. let w = is_within_is 65 90 u t in omega (arith, h, w.least, w.most, e)))
    (λ t e. let w = is_within_is 97 122 u t in omega (arith, h, w.least, w.most, e)) k

word_between : (w : List ℕ) → is_word w ≡ true → IsBetween w
word_between w h =
    let letters : list_all is_letter_or_digit w ≡ true = (both (is_within 1 200 (length w)) (list_all is_letter_or_digit w) h).1 in
    record { space = all_lack is_letter_or_digit 32 (λ u k. letter_other u 32 (inl refl) k) w letters; semicolon = all_lack is_letter_or_digit 59 (λ u k. letter_other u 59 (inr refl) k) w letters }

decimal_between : (n : ℕ) → n < 2 ^ 64 → IsBetween (decimal n)
decimal_between n h =
    let plain = decimal_is_plain n h in
    record { space = all_lack is_digit 32 (λ u k. digit_other u 32 (inl (lit< tt)) k) (decimal n) plain.digits; semicolon = all_lack is_digit 59 (λ u k. digit_other u 59 (inr (lit< tt)) k) (decimal n) plain.digits }

key_between : (key : ℕ) → IsWithin 97 122 key → IsBetween (key ∷ [])
key_between key h = record {
  space = joined (not (key == 32)) true (not_unit key 32 (λ e. omega (arith, h.least, e))) refl;
  semicolon = joined (not (key == 59)) true (not_unit key 59 (λ e. omega (arith, h.least, e))) refl;
}

-- ---- numbers are read again

number_again : (low high n : ℕ) → IsWithin low high n → high < 2 ^ 64 → number_within low high (decimal n) ≡ Some n
number_again low high n h small =
    ap (λ found. such (is_within low high) found) (decimal_is_number n (omega (arith, h.most, small)))
    ∙ ap (λ (b : Bool). if b then Some n else None) (within_tells low high n h.least h.most)

fits_by : (m : ℕ) (b : Bool) → nat_le m 2147483647 ≡ b → m < 4294967296 → fits_i32 (to_z w32 m) ≡ true
fits_by m true e h = ap fits_i32 (to_z_pos w32 m (grind (arith, leb_tells m 2147483647))) ∙ e
fits_by m false e h =
    let high : 2147483647 < m = grind (arith, leb_tells m 2147483647) in
    let same : 4294967296 - suc (4294967295 - m) ≡ m = omega (arith, h) in
    ap (λ x. fits_i32 (to_z w32 x)) (sym same) ∙ ap fits_i32 (to_z-neg w32 (4294967295 - m) (omega (arith, high)))
    ∙ (let low : 4294967295 - m ≤ 2147483647 = omega (arith, high) in grind (arith, leb_tells (4294967295 - m) 2147483647))

fits_again : (z : ℤ) → FitsSigned w32 z → fits_i32 z ≡ true
fits_again z h = ap fits_i32 (sym (to_z-of_z h)) ∙ fits_by (of_z w32 z) (nat_le (of_z w32 z) 2147483647) refl (Fits-lt-pow (Fits-of_z h))

signed_plain : (us : List ℕ) → list_all is_digit us ≡ true → 0 < length us → signed_of us ≡ option_map pos (numeral_value us)
signed_plain [] h k = absurd (omega (arith, k))
signed_plain (u ∷ us) h k =
    let other : u ≢ 45 = digit_other u 45 (inl (lit< tt)) (both (is_digit u) (list_all is_digit us) h).0 in
    ap (λ (b : Bool). if b then minus (numeral_value us) else option_map pos (numeral_value (u ∷ us))) (not_true (u == 45) (not_unit u 45 other))

i32_small : (n : ℕ) → nat_le n 2147483647 ≡ true → n < 2 ^ 31
i32_small n e = grind (arith, leb_tells n 2147483647)

signed_again : (z : ℤ) → fits_i32 z ≡ true → signed_of (signed_decimal z) ≡ Some z
signed_again (pos n) h =
    let plain = decimal_is_plain n (omega (arith, i32_small n h)) in
    signed_plain (decimal n) plain.digits plain.some ∙ ap (λ found. option_map pos found) (decimal_is_number n (omega (arith, i32_small n h)))
signed_again (negsuc n) h = ap minus (decimal_is_number (suc n) (omega (arith, i32_small n h)))

value_again : (z : ℤ) → FitsSigned w32 z → such fits_i32 (signed_of (signed_decimal z)) ≡ Some z
value_again z h =
    ap (λ found. such fits_i32 found) (signed_again z (fits_again z h)) ∙ ap (λ (b : Bool). if b then Some z else None) (fits_again z h)

value_between : (z : ℤ) → fits_i32 z ≡ true → IsBetween (signed_decimal z)
value_between (pos n) h = decimal_between n (omega (arith, i32_small n h))
value_between (negsuc n) h =
    let b = decimal_between (suc n) (omega (arith, i32_small n h)) in record { space = b.space; semicolon = b.semicolon }

-- ---- statements

limit : (low high n : ℕ) → IsWithin low high n → high < 2 ^ 64 → n < 2 ^ 64
limit low high n h small = omega (arith, h.most, small)

-- the text of a statement is read as it
again : (q : Statement) → IsStatement q → statement_of (statement_text q) ≡ Some q
again (statement.Say w) h =
    ap of_words (pieces_of_join 32 (codes "say") (w ∷ []) refl ((word_between w h).space, tt))
    ∙ ap (λ (b : Bool). option_map statement.Say (if b then Some w else None)) h
again (statement.Rows a n) h =
    ap of_words (pieces_of_join 32 (codes "rows") (decimal a ∷ decimal n ∷ []) refl ((decimal_between a (limit 0 1000000 a h.0 (lit< tt))).space, ((decimal_between n (limit 0 64 n h.1 (lit< tt))).space, tt)))
    ∙ ap (λ x. rows_of x (number_within 0 64 (decimal n))) (number_again 0 1000000 a h.0 (lit< tt))
    ∙ ap (λ y. rows_of (Some a) y) (number_again 0 64 n h.1 (lit< tt))
again (statement.Set key z) h =
    ap of_words (pieces_of_join 32 (codes "set") ((key ∷ []) ∷ signed_decimal z ∷ []) refl ((key_between key h.0).space, ((value_between z (fits_again z h.1)).space, tt)))
    ∙ ap (λ (b : Bool). set_of (if b then Some key else None) (such fits_i32 (signed_of (signed_decimal z)))) (within_tells 97 122 key h.0.least h.0.most)
    ∙ ap (λ y. set_of (Some key) y) (value_again z h.1)
again (statement.Get key) h =
    ap of_words (pieces_of_join 32 (codes "get") ((key ∷ []) ∷ []) refl ((key_between key h).space, tt))
    ∙ ap (λ (b : Bool). option_map statement.Get (if b then Some key else None)) (within_tells 97 122 key h.least h.most)
again statement.Begin h = refl
again statement.Commit h = refl
again statement.Rollback h = refl
again (statement.Fail n) h =
    ap of_words (pieces_of_join 32 (codes "fail") (decimal n ∷ []) refl ((decimal_between n (limit 1 999999 n h (lit< tt))).space, tt))
    ∙ ap (λ x. option_map statement.Fail x) (number_again 1 999999 n h (lit< tt))

-- and holds no semicolon
text_lacks : (q : Statement) → IsStatement q → lacks 59 (statement_text q) ≡ true
text_lacks (statement.Say w) h = (word_between w h).semicolon
text_lacks (statement.Rows a n) h =
    list_all-append (λ u. not (u == 59)) (decimal a) (32 ∷ decimal n)
    ∙ joined (lacks 59 (decimal a)) (lacks 59 (32 ∷ decimal n)) (decimal_between a (limit 0 1000000 a h.0 (lit< tt))).semicolon (decimal_between n (limit 0 64 n h.1 (lit< tt))).semicolon
text_lacks (statement.Set key z) h =
    joined (not (key == 59)) (lacks 59 (signed_decimal z)) (not_unit key 59 (λ e. let w : 97 ≤ key = h.0.least in omega (arith, w, e))) (value_between z (fits_again z h.1)).semicolon
text_lacks (statement.Get key) h = (key_between key h).semicolon
text_lacks statement.Begin h = refl
text_lacks statement.Commit h = refl
text_lacks statement.Rollback h = refl
text_lacks (statement.Fail n) h = (decimal_between n (limit 1 999999 n h (lit< tt))).semicolon

each_again : (qs : List Statement) → All IsStatement qs → each_of (map statement_of (map statement_text qs)) ≡ Some qs
each_again [] h = refl
each_again (q ∷ qs) h =
    ap (λ o. with_first o (each_of (map statement_of (map statement_text qs)))) (again q (All-head IsStatement q qs h))
    ∙ ap (λ r. with_first (Some q) r) (each_again qs (All-tail IsStatement q qs h))

texts_lack : (qs : List Statement) → All IsStatement qs → AllByRecursion (λ v. lacks 59 v ≡ true) (map statement_text qs)
texts_lack [] h = tt
texts_lack (q ∷ qs) h = (text_lacks q (All-head IsStatement q qs h), texts_lack qs (All-tail IsStatement q qs h))

-- the text of statements is read as them
pub spelled_is_read : (text : List ℕ) (found : List Statement) → Spells text found → statements_of text ≡ Some found
spelled_is_read text [] h = absurd (omega (arith, h.some))
spelled_is_read text (q ∷ qs) h =
    ap statements_of h.spelled
    ∙ ap (λ ps. each_of (map statement_of ps)) (pieces_of_join 59 (statement_text q) (map statement_text qs) (text_lacks q (All-head IsStatement q qs h.within)) (texts_lack qs (All-tail IsStatement q qs h.within)))
    ∙ each_again (q ∷ qs) h.within
