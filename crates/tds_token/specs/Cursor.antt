-- Tokens one behind the other.
use Rattle.std.specs.Prelude.{ℕ, List, [], length, ◌==◌, if◌then◌else◌, Option, Some, None, Result, Ok, Err}
use Rattle.tds_token.specs.declared.fault.TokenFault.{TokenFault}
use Rattle.tds_token.specs.declared.token.Token.{Token}
use Rattle.tds_token.specs.declared.token.TokenRef.{TokenRef}
use Rattle.tds_token.specs.Layout.{token_of, columns_after}
use Rattle.tds_token.specs.Reading.{token_at}

-- What a reader shows: the bytes that are left, and the columns that are known.
pub record Cursor : Type 0 where
  pub bytes : List ℕ
  pub columns : Option ℕ

-- The answer of `Tokens::next`, with the token that is lent.
abbrev pub answer_of : Option (Result TokenRef TokenFault) → Option (Result Token TokenFault)
answer_of None = None
answer_of (Some (Ok t)) = Some (Ok (token_of t))
answer_of (Some (Err e)) = Some (Err e)

-- What is read is gone from the front. Behind a fault nothing is left.
abbrev pub step_by : Cursor → Result (Token × List ℕ) TokenFault → Option (Result Token TokenFault) × Cursor
step_by c (Ok x) = (Some (Ok x.0), record { bytes = x.1; columns = columns_after c.columns x.0 })
step_by c (Err e) = (Some (Err e), record { bytes = []; columns = c.columns })

-- One step: at the end of the bytes there is no token, and nothing changes.
unfoldable pub step : Cursor → Option (Result Token TokenFault) × Cursor
step c = if length c.bytes == 0 then (None, c) else step_by c (token_at c.columns c.bytes)
