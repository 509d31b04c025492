-- Rows that lie one behind the other, all under the same columns (MS-TDS 2.2.7.20).
use Rattle.std.specs.Prelude.{◌≡◌, ◌≤◌, ℕ, ℤ, ◌*◌, zero, suc, List, [], ◌∷◌, ◌++◌, length, take, drop, Option, Some, Ok}
use Rattle.tds_token.specs.declared.token.Token.{Token}
use Rattle.tds_token.specs.declared.token.Token.TheVariants as tokens
use Rattle.tds_token.specs.declared.rows.Rows.TheInside.{Inside}
use Rattle.tds_token.specs.Contents.{Contents, with_token}
use Rattle.tds_token.specs.Cursor.{Cursor, step}
use Rattle.tds_token.specs.Layout.{IsToken}
use Rattle.tds_token.specs.Texts.{ints_of}

-- ---- The row at the front

-- It is there whole: its token byte, and four bytes a value.
abbrev pub IsRowAt : ℕ → List ℕ → Type 0
IsRowAt n [] = ⊥
IsRowAt n (kind ∷ bytes) = (kind ≡ 0xD1) × (4 * n ≤ length bytes)

-- Its values.
abbrev pub row_of : ℕ → List ℕ → List ℤ
row_of n [] = []
row_of n (kind ∷ bytes) = ints_of (take (4 * n) bytes)

-- The bytes behind it.
abbrev pub behind_row : ℕ → List ℕ → List ℕ
behind_row n [] = []
behind_row n (kind ∷ bytes) = drop (4 * n) bytes

-- ---- Rows one behind the other

-- So many rows of n values lie at the front, and then come the bytes `rest`.
unfoldable pub AreRowsTo : ℕ → ℕ → List ℕ → List ℕ → Type 0
AreRowsTo zero n bytes rest = bytes ≡ rest
AreRowsTo (suc count) n bytes rest = IsRowAt n bytes × AreRowsTo count n (behind_row n bytes) rest

-- The values of so many rows.
unfoldable pub rows_of : ℕ → ℕ → List ℕ → List (List ℤ)
rows_of zero n bytes = []
rows_of (suc count) n bytes = row_of n bytes ∷ rows_of count n (behind_row n bytes)

-- What lent rows show, and that they fill their bytes.
abbrev pub lent_rows : Inside → List (List ℤ)
lent_rows a = rows_of a.count a.columns a.bytes.now

abbrev pub AreLentRows : Inside → Type 0
AreLentRows a = AreRowsTo a.count a.columns a.bytes.now []

-- These rows of n values lie at the front, and then come the bytes `rest`.
unfoldable pub IsRun : ℕ → List ℕ → List (List ℤ) → List ℕ → Type 0
IsRun n bytes [] rest = bytes ≡ rest
IsRun n bytes (values ∷ others) rest =
    IsRowAt n bytes × (values ≡ row_of n bytes) × IsRun n (behind_row n bytes) others rest

-- ---- As tokens

abbrev pub row_tokens : List (List ℤ) → List Token
row_tokens [] = []
row_tokens (values ∷ others) = tokens.Row values ∷ row_tokens others

-- `Tokens::next` gives these tokens one after the other, and then the reader shows `last`.
unfoldable pub GivesInTurn : Cursor → List Token → Cursor → Type 0
GivesInTurn first [] last = first ≡ last
GivesInTurn first (token ∷ others) last =
    (behind : Cursor) × ((Some (Ok token), behind) ≡ step first) × GivesInTurn behind others last

-- These tokens stand before the contents.
abbrev pub with_tokens : List Token → Contents → Contents
with_tokens [] rest = rest
with_tokens (token ∷ others) rest = with_token token (with_tokens others rest)

-- No front of the bytes spells a row.
abbrev pub NoRow : Option ℕ → List ℕ → Type 0
NoRow columns bytes =
    (values : List ℤ) (front rest : List ℕ) (after : Option ℕ) → IsToken columns (tokens.Row values) front after → bytes ≡ front ++ rest → ⊥
