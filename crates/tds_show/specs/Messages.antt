-- The tokens of a message, as the layout has them (`Layout` of tds_wire; MS-TDS 2.2.7).
use Rattle.std.specs.Prelude.{◌≡◌, ℕ, zero, suc, ◌+◌, ◌-◌, ◌==◌, false, List, [], ◌++◌, length, take, if◌then◌else◌}
use Rattle.tds_show.specs.declared.tokens.message.Ending.{Ending}
use Rattle.tds_show.specs.declared.tokens.message.Ending.TheVariants as ending
use Rattle.tds_show.specs.Lines.{token_line}
use Rattle.tds_wire.specs.declared.features.Features.{Features}
use Rattle.tds_wire.specs.declared.shape.Shape.{Shape}
use Rattle.tds_wire.specs.declared.told.Token.{Token}
use Rattle.tds_wire.specs.Layout.{Read, Got, Short, Wrong, Seen, token_at}
use Rattle.tds_wire.specs.Reading.{Parser, front_of}
use Rattle.tds_wire.specs.Told.{told_of}

-- a login that acknowledged neither column encryption nor ranks
abbrev pub plain : Features
plain = record { encryption = false; ranks = false }

-- a parser over answers after such a login, of results with 4,096 columns at most
pub record IsPlain (r : Parser) : Type 0 where
  pub most : r.walk.most ≡ 4096
  pub features : r.walk.features ≡ plain

-- a token of these bytes, of which the first has this place in the message
abbrev pub token_of : ℕ → ℕ → List ℕ → Token
token_of kind at bytes = record { kind = kind; start = at; length = length bytes; told = told_of kind at (length bytes) (take 24 bytes) }

-- the lines of tokens, and how the data end after them
pub record Lines : Type 0 where
  pub text : List ℕ
  pub ending : Ending

abbrev pub ends : Ending → Lines
ends ending = record { text = []; ending = ending }

abbrev pub after : List ℕ → Lines → Lines
after text lines = record { text = text ++ lines.text; ending = lines.ending }

-- the token that is read at the front of the bytes, and the lines of those after it, where these columns are known
abbrev pub by_token : (List Shape → ℕ → List ℕ → Lines) → ℕ → List ℕ → Read Seen → Lines
by_token more at bytes (Got seen rest) =
    after (token_line (token_of seen.kind at (front_of bytes rest))) (more seen.columns (at + length (front_of bytes rest)) rest)
by_token more at bytes Short = ends ending.Inside
by_token more at bytes (Wrong fault rest) = ends (ending.Refused fault (at + (length (front_of bytes rest) - 1)))

-- what is read at the front of the bytes, where these columns are known
abbrev pub read_token : List Shape → List ℕ → Read Seen
read_token columns bytes = token_at 4096 plain (record { kind = 0; columns = columns }) bytes

-- the tokens of bytes, of which the first has this place in the message; there are no more of them than bytes
unfoldable pub lines_from : ℕ → List Shape → ℕ → List ℕ → Lines
lines_from zero columns at bytes = ends ending.Between
lines_from (suc most) columns at bytes =
    if length bytes == 0 then ends ending.Between else by_token (lines_from most) at bytes (read_token columns bytes)

-- the tokens of a message's data
abbrev pub lines_of : List ℕ → Lines
lines_of bytes = lines_from (length bytes) [] 0 bytes
