-- What is read of a statement's words is spelled by them.
use Rattle.std.proofs.Common.{◌≡◌, ◌<◌, ◌^◌, ℕ, zero, suc, ℤ, pos, Bool, true, false, ◌==◌, List, [], ◌∷◌, length, map, Option, Some, None, IfSome, option_map, if◌then◌else◌, nat_le, decimal, codes, refl, sym, ap, subst, ◌∙◌, arith, lit<}
use Rattle.std.specs.Fmt.{signed_decimal}
use Rattle.std.specs.List.{join_with_byte}
use Rattle.std.proofs.lemmas.Bool.Decides.{leb_tells, nat_tests}
use Rattle.std.proofs.lemmas.List.Splits.{join_with_byte-slice_split, length-slice_split}
use Rattle.std.proofs.lemmas.Slice.Eq.{bytes_eq-Decides}
use Rattle.tds_session.specs.Within.{IsWithin}
use Rattle.tds_session.specs.Words.{pieces, such, is_within, is_word, numeral_value, number_within, signed_of, minus, fits_i32, key_of}
use Rattle.tds_session.specs.Language.{is_name, one_word, two_words, three_words, rows_of, set_of, of_words, statement_of, with_first, each_of, statements_of}
use Rattle.tds_session.specs.Spelling.{words, statement_text, Spells}
use Rattle.tds_session.specs.Laws.Pieces.{pieces_are_split}
use Rattle.tds_session.specs.declared.statement.Statement.{Statement}
use Rattle.tds_session.specs.declared.statement.Statement.TheVariants as statement
use Rattle.tds_session.specs.Laws.Numerals.{number_is_decimal}
use Rattle.tds_session.specs.Laws.Spells.{made, mapped, number_is, such_passes, spells}

-- a name is spelled by its letters
name_is : (name word : List ℕ) → is_name name word ≡ true → word ≡ name
name_is name word e = (bytes_eq-Decides word name).0 e

-- by a name, or by what is left
named : {A : Type 0} (P : A → Type 0) (name word : List ℕ) (b : Bool) (x y : Option A) → is_name name word ≡ b
    → (word ≡ name → IfSome x P) → IfSome y P → IfSome (if b then x else y) P
named P name word true x y e f k = f (name_is name word e)
named P name word false x y e f k = k

such_is : {A : Type 0} (test : A → Bool) (b : Bool) (x : A) → IfSome (if b then Some x else None) (λ y. y ≡ x)
such_is test true x = refl
such_is test false x = tt

kept : {A : Type 0} (Q : A → Type 0) (test : A → Bool) (found : Option A) → IfSome found Q → IfSome (such test found) Q
kept Q test None h = tt
kept Q test (Some x) h = kept_by (test x)
  where
    kept_by : (b : Bool) → IfSome (if b then Some x else None) Q
    kept_by true = h
    kept_by false = tt

key_spelled : (us : List ℕ) → IfSome (key_of us) (λ key. us ≡ key ∷ [])
key_spelled [] = tt
key_spelled (u ∷ []) = kept (λ key. u ∷ [] ≡ key ∷ []) (is_within 97 122) (Some u) refl
key_spelled (u ∷ v ∷ us) = tt

number_spelled_by : (us : List ℕ) (found : Option ℕ) → numeral_value us ≡ found → IfSome found (λ n. n < 2 ^ 64 → us ≡ decimal n)
number_spelled_by us None e = tt
number_spelled_by us (Some n) e = λ small. number_is_decimal us n e small

number_spelled : (us : List ℕ) → IfSome (numeral_value us) (λ n. n < 2 ^ 64 → us ≡ decimal n)
number_spelled us = number_spelled_by us (numeral_value us) refl

two_facts : {A : Type 0} (P Q : A → Type 0) (found : Option A) → IfSome found P → IfSome found Q → IfSome found (λ x. P x × Q x)
two_facts P Q None h k = tt
two_facts P Q (Some x) h k = (h, k)

within_spelled : (low high : ℕ) (us : List ℕ) → high < 2 ^ 64 → IfSome (number_within low high us) (λ n. us ≡ decimal n)
within_spelled low high us small =
    mapped (λ n. IsWithin low high n × (n < 2 ^ 64 → us ≡ decimal n)) (λ n. us ≡ decimal n) (number_within low high us)
    (λ n h. h.1 (omega (arith, small, h.0.most)))
    (two_facts (λ n. IsWithin low high n) (λ n. n < 2 ^ 64 → us ≡ decimal n) (number_within low high us) (number_is low high us)
    (kept (λ n. n < 2 ^ 64 → us ≡ decimal n) (is_within low high) (numeral_value us) (number_spelled us)))

rows_spelled : (x y : List ℕ) (a b : Option ℕ) → IfSome a (λ n. x ≡ decimal n) → IfSome b (λ n. y ≡ decimal n)
    → IfSome (rows_of a b) (λ s. words (codes "rows" ∷ x ∷ y ∷ []) ≡ statement_text s)
rows_spelled x y None b h k = tt
rows_spelled x y (Some a) None h k = tt
rows_spelled x y (Some a) (Some b) h k = ap (λ v. words (codes "rows" ∷ v ∷ y ∷ [])) h ∙ ap (λ v. words (codes "rows" ∷ decimal a ∷ v ∷ [])) k

set_spelled : (x y : List ℕ) (a : Option ℕ) (b : Option ℤ) → IfSome a (λ key. x ≡ key ∷ []) → IfSome b (λ z. y ≡ signed_decimal z)
    → IfSome (set_of a b) (λ s. words (codes "set" ∷ x ∷ y ∷ []) ≡ statement_text s)
set_spelled x y None b h k = tt
set_spelled x y (Some a) None h k = tt
set_spelled x y (Some a) (Some b) h k = ap (λ v. words (codes "set" ∷ v ∷ y ∷ [])) h ∙ ap (λ v. words (codes "set" ∷ (a ∷ []) ∷ v ∷ [])) k

pub one_spelled : (w : List ℕ) → IfSome (one_word w) (λ s. words (w ∷ []) ≡ statement_text s)
one_spelled w =
    named (λ s. w ≡ statement_text s) (codes "begin") w (is_name (codes "begin") w) _ _ refl (λ e. e)
    (named (λ s. w ≡ statement_text s) (codes "commit") w (is_name (codes "commit") w) _ _ refl (λ e. e)
    (named (λ s. w ≡ statement_text s) (codes "rollback") w (is_name (codes "rollback") w) _ _ refl (λ e. e) tt))

pub two_spelled : (w x : List ℕ) → IfSome (two_words w x) (λ s. words (w ∷ x ∷ []) ≡ statement_text s)
two_spelled w x =
    named (λ s. words (w ∷ x ∷ []) ≡ statement_text s) (codes "say") w (is_name (codes "say") w) _ _ refl
    (λ e. made (λ s. words (w ∷ x ∷ []) ≡ statement_text s) (λ y. y ≡ x) statement.Say (such is_word (Some x)) (such_is is_word (is_word x) x)
    (λ y h. ap (λ v. words (v ∷ x ∷ [])) e ∙ ap (λ v. words (codes "say" ∷ v ∷ [])) (sym h)))
    (named (λ s. words (w ∷ x ∷ []) ≡ statement_text s) (codes "get") w (is_name (codes "get") w) _ _ refl
    (λ e. made (λ s. words (w ∷ x ∷ []) ≡ statement_text s) (λ key. x ≡ key ∷ []) statement.Get (key_of x) (key_spelled x)
    (λ key h. ap (λ v. words (v ∷ x ∷ [])) e ∙ ap (λ v. words (codes "get" ∷ v ∷ [])) h))
    (named (λ s. words (w ∷ x ∷ []) ≡ statement_text s) (codes "fail") w (is_name (codes "fail") w) _ _ refl
    (λ e. made (λ s. words (w ∷ x ∷ []) ≡ statement_text s) (λ n. x ≡ decimal n) statement.Fail (number_within 1 999999 x) (within_spelled 1 999999 x (lit< tt))
    (λ n h. ap (λ v. words (v ∷ x ∷ [])) e ∙ ap (λ v. words (codes "fail" ∷ v ∷ [])) h))
    tt))

small : (n : ℕ) → nat_le n 2147483647 ≡ true → n < 2 ^ 31
small n e = grind (arith, leb_tells n 2147483647)

minus_spelled : (u : ℕ) (us : List ℕ) (found : Option ℕ) → u ≡ 45 → IfSome found (λ n. n < 2 ^ 64 → us ≡ decimal n)
    → IfSome (minus found) (λ z. fits_i32 z ≡ true → u ∷ us ≡ signed_decimal z)
minus_spelled u us None e h = tt
minus_spelled u us (Some zero) e h = tt
minus_spelled u us (Some (suc n)) e h = λ fits. ap (λ v. v ∷ us) e ∙ ap (λ v. 45 ∷ v) (h (omega (arith, small n fits)))

plus_spelled : (us : List ℕ) (found : Option ℕ) → IfSome found (λ n. n < 2 ^ 64 → us ≡ decimal n)
    → IfSome (option_map pos found) (λ z. fits_i32 z ≡ true → us ≡ signed_decimal z)
plus_spelled us None h = tt
plus_spelled us (Some n) h = λ fits. h (omega (arith, small n fits))

signed_by : (u : ℕ) (us : List ℕ) (b : Bool) → (u == 45) ≡ b
    → IfSome (if b then minus (numeral_value us) else option_map pos (numeral_value (u ∷ us))) (λ z. fits_i32 z ≡ true → u ∷ us ≡ signed_decimal z)
signed_by u us true e = minus_spelled u us (numeral_value us) (grind (arith, nat_tests)) (number_spelled us)
signed_by u us false e = plus_spelled (u ∷ us) (numeral_value (u ∷ us)) (number_spelled (u ∷ us))

signed_spelled : (us : List ℕ) → IfSome (signed_of us) (λ z. fits_i32 z ≡ true → us ≡ signed_decimal z)
signed_spelled [] = tt
signed_spelled (u ∷ us) = signed_by u us (u == 45) refl

value_spelled : (us : List ℕ) → IfSome (such fits_i32 (signed_of us)) (λ z. us ≡ signed_decimal z)
value_spelled us =
    mapped (λ z. (fits_i32 z ≡ true) × (fits_i32 z ≡ true → us ≡ signed_decimal z)) (λ z. us ≡ signed_decimal z) (such fits_i32 (signed_of us)) (λ z h. h.1 h.0)
    (two_facts (λ z. fits_i32 z ≡ true) (λ z. fits_i32 z ≡ true → us ≡ signed_decimal z) (such fits_i32 (signed_of us)) (such_passes fits_i32 (signed_of us))
    (kept (λ z. fits_i32 z ≡ true → us ≡ signed_decimal z) fits_i32 (signed_of us) (signed_spelled us)))

renamed : (name w x y : List ℕ) (found : Option Statement) → w ≡ name → IfSome found (λ s. words (name ∷ x ∷ y ∷ []) ≡ statement_text s)
    → IfSome found (λ s. words (w ∷ x ∷ y ∷ []) ≡ statement_text s)
renamed name w x y found e h =
    mapped (λ s. words (name ∷ x ∷ y ∷ []) ≡ statement_text s) (λ s. words (w ∷ x ∷ y ∷ []) ≡ statement_text s) found
    (λ s k. ap (λ v. words (v ∷ x ∷ y ∷ [])) e ∙ k) h

pub three_spelled : (w x y : List ℕ) → IfSome (three_words w x y) (λ s. words (w ∷ x ∷ y ∷ []) ≡ statement_text s)
three_spelled w x y =
    named (λ s. words (w ∷ x ∷ y ∷ []) ≡ statement_text s) (codes "rows") w (is_name (codes "rows") w) _ _ refl
    (λ e. renamed (codes "rows") w x y (rows_of (number_within 0 1000000 x) (number_within 0 64 y)) e
    (rows_spelled x y (number_within 0 1000000 x) (number_within 0 64 y) (within_spelled 0 1000000 x (lit< tt)) (within_spelled 0 64 y (lit< tt))))
    (named (λ s. words (w ∷ x ∷ y ∷ []) ≡ statement_text s) (codes "set") w (is_name (codes "set") w) _ _ refl
    (λ e. renamed (codes "set") w x y (set_of (key_of x) (such fits_i32 (signed_of y))) e
    (set_spelled x y (key_of x) (such fits_i32 (signed_of y)) (key_spelled x) (value_spelled y)))
    tt)

words_spelled : (ws : List (List ℕ)) → IfSome (of_words ws) (λ s. words ws ≡ statement_text s)
words_spelled [] = tt
words_spelled (w ∷ []) = one_spelled w
words_spelled (w ∷ x ∷ []) = two_spelled w x
words_spelled (w ∷ x ∷ y ∷ []) = three_spelled w x y
words_spelled (w ∷ x ∷ y ∷ z ∷ ws) = tt

joined_again : (separator : ℕ) (text : List ℕ) → join_with_byte separator (pieces separator text) ≡ text
joined_again separator text = ap (λ ps. join_with_byte separator ps) (pieces_are_split separator text) ∙ join_with_byte-slice_split separator text

-- a statement that is read is spelled by its text
statement_spelled : (text : List ℕ) → IfSome (statement_of text) (λ s. text ≡ statement_text s)
statement_spelled text =
    mapped (λ s. words (pieces 32 text) ≡ statement_text s) (λ s. text ≡ statement_text s) (statement_of text)
    (λ s h. sym (joined_again 32 text) ∙ h) (words_spelled (pieces 32 text))

each_spelled_by : (text : List ℕ) (texts : List (List ℕ)) (q : Option Statement) (qs : Option (List Statement))
    → IfSome q (λ s. text ≡ statement_text s) → IfSome qs (λ l. texts ≡ map statement_text l) → IfSome (with_first q qs) (λ l. text ∷ texts ≡ map statement_text l)
each_spelled_by text texts None qs h k = tt
each_spelled_by text texts (Some q) None h k = tt
each_spelled_by text texts (Some q) (Some qs) h k = ap (λ t. t ∷ texts) h ∙ ap (λ ts. statement_text q ∷ ts) k

each_spelled : (texts : List (List ℕ)) → IfSome (each_of (map statement_of texts)) (λ l. texts ≡ map statement_text l)
each_spelled [] = refl
each_spelled (text ∷ texts) = each_spelled_by text texts (statement_of text) (each_of (map statement_of texts)) (statement_spelled text) (each_spelled texts)

some_piece : (separator : ℕ) (text : List ℕ) → 0 < length (pieces separator text)
some_piece separator text = rw (pieces_are_split separator text) (omega (arith, length-slice_split (λ u. u == separator) text))

length_map : {A B : Type 0} (f : A → B) (xs : List A) → length (map f xs) ≡ length xs
length_map f [] = refl
length_map f (x ∷ xs) = ap suc (length_map f xs)

-- what is read of a text is spelled by it
pub read_is_spelled : (text : List ℕ) (found : List Statement) → statements_of text ≡ Some found → Spells text found
read_is_spelled text found e =
    let P : Option (List Statement) → Type 0 = λ o. IfSome o (λ l. pieces 59 text ≡ map statement_text l) in
    let h : pieces 59 text ≡ map statement_text found = subst P e (each_spelled (pieces 59 text)) in
    record {
      some = omega (arith, some_piece 59 text, ap (λ (l : List (List ℕ)). length l) h, length_map statement_text found);
      within = spells text found e;
      spelled = sym (joined_again 59 text) ∙ ap (λ ps. join_with_byte 59 ps) h;
    }
