-- What a report says of a token that a caller was given (MS-TDS 2.2.7).
use Rattle.std.specs.Prelude.{ℕ, ℤ, List, [], ◌++◌, map, codes, decimal}
use Rattle.std.specs.Fmt.{signed_decimal}
use Rattle.tds_token.specs.declared.token.Token.{Token}
use Rattle.tds_token.specs.declared.token.Token.TheVariants as token
use Rattle.tds_token.specs.declared.message.Message.{Message}
use Rattle.tds_token.specs.declared.columns.Column.{Column}
use Rattle.tds_text.specs.Texts.{line_feed, hex4, shown, with_commas}

-- The number and the text of an INFO or an ERROR.
abbrev pub message_text : Message → List ℕ
message_text m = signed_decimal m.number ++ codes " " ++ shown m.text

-- The name of a column.
abbrev pub name_text : Column → List ℕ
name_text column = shown column.name

-- The names of columns.
abbrev pub names_text : List Column → List ℕ
names_text columns = with_commas (map name_text columns)

-- The values of a row.
abbrev pub values_text : List ℤ → List ℕ
values_text values = with_commas (map signed_decimal values)

-- A DONE's status and its count of rows.
abbrev pub done_text : ℕ → ℕ → List ℕ
done_text status rows = hex4 status ++ codes " " ++ decimal rows

-- A token's line. Callers are given no change of the session, and it has no line.
abbrev pub token_line : Token → List ℕ
token_line (token.Info message) = codes "  info " ++ message_text message ++ line_feed
token_line (token.Error message) = codes "  error " ++ message_text message ++ line_feed
token_line (token.ReturnStatus value) = codes "  status " ++ signed_decimal value ++ line_feed
token_line (token.Columns columns) = codes "  columns " ++ names_text columns ++ line_feed
token_line (token.Row values) = codes "  row " ++ values_text values ++ line_feed
token_line (token.Env change) = []
token_line (token.Done status cur_cmd rows) = codes "  done " ++ done_text status rows ++ line_feed
