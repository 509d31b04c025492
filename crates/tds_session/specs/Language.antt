-- The batch language: the statements that a text spells. Statements are separated by one `;`, none
-- of them empty, and their words by one space; nothing else stands in a text.
use Rattle.std.specs.Prelude.{ℕ, ℤ, List, [], ◌∷◌, map, Bool, if◌then◌else◌, Option, Some, None, option_map, codes}
use Rattle.std.specs.Str.{bytes_eq}
use Rattle.tds_session.specs.Words.{pieces, such, is_word, number_within, signed_of, fits_i32, key_of}
use Rattle.tds_session.specs.declared.statement.Statement.{Statement}
use Rattle.tds_session.specs.declared.statement.Statement.TheVariants as statement

-- whether a word is this name
abbrev pub is_name : List ℕ → List ℕ → Bool
is_name name word = bytes_eq word name

-- begin, commit and rollback
abbrev pub one_word : List ℕ → Option Statement
one_word w =
    if is_name (codes "begin") w then Some statement.Begin
    else (if is_name (codes "commit") w then Some statement.Commit
    else (if is_name (codes "rollback") w then Some statement.Rollback
    else None))

-- say, get and fail
abbrev pub two_words : List ℕ → List ℕ → Option Statement
two_words w x =
    if is_name (codes "say") w then option_map statement.Say (such is_word (Some x))
    else (if is_name (codes "get") w then option_map statement.Get (key_of x)
    else (if is_name (codes "fail") w then option_map statement.Fail (number_within 1 999999 x)
    else None))

-- a rows statement of its two numbers, if there are both
abbrev pub rows_of : Option ℕ → Option ℕ → Option Statement
rows_of (Some first) (Some count) = Some (statement.Rows first count)
rows_of _ _ = None

-- a set statement of its key and value, if there are both
abbrev pub set_of : Option ℕ → Option ℤ → Option Statement
set_of (Some key) (Some value) = Some (statement.Set key value)
set_of _ _ = None

-- rows and set
abbrev pub three_words : List ℕ → List ℕ → List ℕ → Option Statement
three_words w x y =
    if is_name (codes "rows") w then rows_of (number_within 0 1000000 x) (number_within 0 64 y)
    else (if is_name (codes "set") w then set_of (key_of x) (such fits_i32 (signed_of y))
    else None)

-- the statement of a list of words
abbrev pub of_words : List (List ℕ) → Option Statement
of_words (w ∷ []) = one_word w
of_words (w ∷ x ∷ []) = two_words w x
of_words (w ∷ x ∷ y ∷ []) = three_words w x y
of_words _ = None

-- the statement that a text without a semicolon spells
abbrev pub statement_of : List ℕ → Option Statement
statement_of text = of_words (pieces 32 text)

-- an element before the rest, if none is missing
abbrev pub with_first : {A : Type 0} → Option A → Option (List A) → Option (List A)
with_first (Some x) (Some xs) = Some (x ∷ xs)
with_first _ _ = None

-- all of them, if none is missing
abbrev pub each_of : {A : Type 0} → List (Option A) → Option (List A)
each_of [] = Some []
each_of (x ∷ xs) = with_first x (each_of xs)

-- the statements that a text spells, or none
abbrev pub statements_of : List ℕ → Option (List Statement)
statements_of text = each_of (map statement_of (pieces 59 text))
