-- How each statement of the batch language is spelled, and a text of several.
use Rattle.std.specs.Prelude.{ℕ, ◌≡◌, ◌<◌, List, [], ◌∷◌, length, map, codes, decimal}
use Rattle.std.specs.Fmt.{signed_decimal}
use Rattle.std.specs.List.{All, join_with_byte}
use Rattle.tds_session.specs.Statements.{IsStatement}
use Rattle.tds_session.specs.declared.statement.Statement.{Statement}
use Rattle.tds_session.specs.declared.statement.Statement.TheVariants.{Say, Rows, Set, Get, Begin, Commit, Rollback, Fail}

-- words with one space between each two
abbrev pub words : List (List ℕ) → List ℕ
words ws = join_with_byte 32 ws

-- the text of a statement
abbrev pub statement_text : Statement → List ℕ
statement_text (Say word) = words (codes "say" ∷ word ∷ [])
statement_text (Rows first count) = words (codes "rows" ∷ decimal first ∷ decimal count ∷ [])
statement_text (Set key value) = words (codes "set" ∷ (key ∷ []) ∷ signed_decimal value ∷ [])
statement_text (Get key) = words (codes "get" ∷ (key ∷ []) ∷ [])
statement_text Begin = codes "begin"
statement_text Commit = codes "commit"
statement_text Rollback = codes "rollback"
statement_text (Fail number) = words (codes "fail" ∷ decimal number ∷ [])

-- A text spells statements: there is one at least, each within its limits, and the text is their
-- texts with one semicolon between each two.
pub record Spells (text : List ℕ) (statements : List Statement) : Type 0 where
  pub some : 0 < length statements
  pub within : All IsStatement statements
  pub spelled : text ≡ join_with_byte 59 (map statement_text statements)
