-- What a text spells are statements.
use Rattle.std.proofs.Common.{◌≡◌, ◌<◌, ◌^◌, ℕ, suc, ℤ, pos, negsuc, Bool, true, false, ◌&&◌, List, [], ◌∷◌, map, Option, Some, None, IfSome, option_map, if◌then◌else◌, nat_le, FitsSigned, refl, subst, arith, rules, codes}
use Rattle.std.proofs.Common.{Fits, ◌-◌}
use Rattle.std.proofs.Math.Facts.{sfits_to_z, to_z-neg}
use Rattle.std.proofs.lemmas.Int.{fits_signed_from_abs}
use Rattle.std.specs.Int.{w32}
use Rattle.std.specs.List.{All}
use Rattle.std.proofs.lemmas.List.Elements.{All-nil, All-cons}
use Rattle.std.proofs.lemmas.Bool.Decides.{leb_tells}
use Rattle.tds_session.specs.Within.{IsWithin}
use Rattle.tds_session.specs.Words.{pieces, such, is_within, is_word, numeral_value, number_within, signed_of, fits_i32, key_of}
use Rattle.tds_session.specs.Language.{is_name, one_word, two_words, three_words, rows_of, set_of, of_words, statement_of, with_first, each_of, statements_of}
use Rattle.tds_session.specs.Statements.{IsStatement}
use Rattle.tds_session.specs.declared.statement.Statement.{Statement}
use Rattle.tds_session.specs.declared.statement.Statement.TheVariants as statement

-- one of two options
pub either : {A : Type 0} (P : A → Type 0) (b : Bool) (x y : Option A) → IfSome x P → IfSome y P → IfSome (if b then x else y) P
either P true x y h k = h
either P false x y h k = k

-- what passed a test
passed : {A : Type 0} (test : A → Bool) (b : Bool) (x : A) → test x ≡ b → IfSome (if b then Some x else None) (λ y. test y ≡ true)
passed test true x e = e
passed test false x e = tt

pub such_passes : {A : Type 0} (test : A → Bool) (found : Option A) → IfSome (such test found) (λ x. test x ≡ true)
such_passes test None = tt
such_passes test (Some x) = passed test (test x) x refl

-- what a function makes of an option
pub made : {A B : Type 0} (P : B → Type 0) (Q : A → Type 0) (f : A → B) (found : Option A) → IfSome found Q → ((x : A) → Q x → P (f x)) → IfSome (option_map f found) P
made P Q f None h k = tt
made P Q f (Some x) h k = k x h

within_by : (low high n : ℕ) (a b : Bool) → nat_le low n ≡ a → nat_le n high ≡ b → (a && b) ≡ true → IsWithin low high n
within_by low high n true true e f h = record { least = grind (arith, leb_tells low n); most = grind (arith, leb_tells n high) }
within_by low high n true false e f h = absurd (let z : false ≡ true = h in cc)
within_by low high n false b e f h = absurd (let z : false ≡ true = h in cc)

pub is_within_is : (low high n : ℕ) → is_within low high n ≡ true → IsWithin low high n
is_within_is low high n h = within_by low high n (nat_le low n) (nat_le n high) refl refl h

small : (n : ℕ) (b : Bool) → nat_le n 2147483647 ≡ b → b ≡ true → n < 2 ^ 31
small n true e h = grind (arith, leb_tells n 2147483647)
small n false e h = absurd (let z : false ≡ true = h in cc)

fits_is : (z : ℤ) → fits_i32 z ≡ true → FitsSigned w32 z
fits_is (pos n) h = fits_signed_from_abs w32 (pos n) (small n (nat_le n 2147483647) refl h)
fits_is (negsuc n) h =
    let f : Fits w32 (4294967296 - suc n) = (let m : 4294967296 - suc n < 4294967296 = omega arith in search rules) in
    let P : ℤ → Type 0 = λ z. FitsSigned w32 z in subst P (to_z-neg w32 n (small n (nat_le n 2147483647) refl h)) (sfits_to_z f)

pub mapped : {A : Type 0} (P Q : A → Type 0) (found : Option A) → ((x : A) → P x → Q x) → IfSome found P → IfSome found Q
mapped P Q None f h = tt
mapped P Q (Some x) f h = f x h

key_is : (us : List ℕ) → IfSome (key_of us) (λ key. IsWithin 97 122 key)
key_is [] = tt
key_is (u ∷ []) = mapped (λ k. is_within 97 122 k ≡ true) (λ k. IsWithin 97 122 k) (such (is_within 97 122) (Some u)) (is_within_is 97 122) (such_passes (is_within 97 122) (Some u))
key_is (u ∷ v ∷ us) = tt

pub number_is : (low high : ℕ) (us : List ℕ) → IfSome (number_within low high us) (λ n. IsWithin low high n)
number_is low high us = mapped (λ k. is_within low high k ≡ true) (λ k. IsWithin low high k) (number_within low high us) (is_within_is low high) (such_passes (is_within low high) (numeral_value us))

rows_are : (a b : Option ℕ) → IfSome a (λ n. IsWithin 0 1000000 n) → IfSome b (λ n. IsWithin 0 64 n) → IfSome (rows_of a b) IsStatement
rows_are None b h k = tt
rows_are (Some a) None h k = tt
rows_are (Some a) (Some b) h k = (h, k)

set_is : (a : Option ℕ) (b : Option ℤ) → IfSome a (λ n. IsWithin 97 122 n) → IfSome b (λ z. FitsSigned w32 z) → IfSome (set_of a b) IsStatement
set_is None b h k = tt
set_is (Some a) None h k = tt
set_is (Some a) (Some b) h k = (h, k)

pub value_is : (us : List ℕ) → IfSome (such fits_i32 (signed_of us)) (λ z. FitsSigned w32 z)
value_is us = mapped (λ z. fits_i32 z ≡ true) (λ z. FitsSigned w32 z) (such fits_i32 (signed_of us)) fits_is (such_passes fits_i32 (signed_of us))

one_is : (w : List ℕ) → IfSome (one_word w) IsStatement
one_is w = either IsStatement (is_name (codes "begin") w) _ _ tt (either IsStatement (is_name (codes "commit") w) _ _ tt (either IsStatement (is_name (codes "rollback") w) _ _ tt tt))

two_are : (w x : List ℕ) → IfSome (two_words w x) IsStatement
two_are w x =
    either IsStatement (is_name (codes "say") w) _ _ (made IsStatement (λ y. is_word y ≡ true) statement.Say (such is_word (Some x)) (such_passes is_word (Some x)) (λ y h. h))
    (either IsStatement (is_name (codes "get") w) _ _ (made IsStatement (λ k. IsWithin 97 122 k) statement.Get (key_of x) (key_is x) (λ k h. h))
    (either IsStatement (is_name (codes "fail") w) _ _ (made IsStatement (λ n. IsWithin 1 999999 n) statement.Fail (number_within 1 999999 x) (number_is 1 999999 x) (λ n h. h)) tt))

three_are : (w x y : List ℕ) → IfSome (three_words w x y) IsStatement
three_are w x y =
    either IsStatement (is_name (codes "rows") w) _ _ (rows_are (number_within 0 1000000 x) (number_within 0 64 y) (number_is 0 1000000 x) (number_is 0 64 y))
    (either IsStatement (is_name (codes "set") w) _ _ (set_is (key_of x) (such fits_i32 (signed_of y)) (key_is x) (value_is y)) tt)

words_are : (ws : List (List ℕ)) → IfSome (of_words ws) IsStatement
words_are [] = tt
words_are (w ∷ []) = one_is w
words_are (w ∷ x ∷ []) = two_are w x
words_are (w ∷ x ∷ y ∷ []) = three_are w x y
words_are (w ∷ x ∷ y ∷ z ∷ ws) = tt

first_and_rest : (q : Option Statement) (qs : Option (List Statement)) → IfSome q IsStatement → IfSome qs (λ l. All IsStatement l) → IfSome (with_first q qs) (λ l. All IsStatement l)
first_and_rest None qs h k = tt
first_and_rest (Some q) None h k = tt
first_and_rest (Some q) (Some qs) h k = All-cons IsStatement q qs h k

each_is : (texts : List (List ℕ)) → IfSome (each_of (map statement_of texts)) (λ l. All IsStatement l)
each_is [] = All-nil IsStatement
each_is (text ∷ texts) = first_and_rest (statement_of text) (each_of (map statement_of texts)) (words_are (pieces 32 text)) (each_is texts)

pub spells : (text : List ℕ) (found : List Statement) → statements_of text ≡ Some found → All IsStatement found
spells text found e = let P : Option (List Statement) → Type 0 = λ o. IfSome o (λ l. All IsStatement l) in subst P e (each_is (pieces 59 text))
