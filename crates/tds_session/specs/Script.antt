-- The statements of the batch language: what each one does.
use Rattle.std.specs.Prelude.{ℕ, zero, suc, ◌+◌, pos, List, [], ◌∷◌, ◌++◌, if◌then◌else◌, codes}
use Rattle.std.specs.List.{list_any}
use Rattle.tds_session.specs.Session.{SessionState, value_of, with_value}
use Rattle.tds_session.specs.Effects.{Effect, message, gives_token, fails, is_error, done, begins, ends}
use Rattle.tds_session.specs.declared.statement.Statement.{Statement}
use Rattle.tds_session.specs.declared.statement.Statement.TheVariants as statement
use Rattle.tds_token.specs.DoneStatus as done_status
use Rattle.tds_token.specs.declared.env_change.EnvChange.TheVariants as change
use Rattle.tds_token.specs.declared.columns.Column.{Column}
use Rattle.tds_token.specs.declared.token.Token.{Token}
use Rattle.tds_token.specs.declared.token.Token.TheVariants as token

-- tokens, and behind them a DONE `0001`: more follows; none stands behind an ERROR
abbrev pub with_done : List Token → List Token
with_done ts = if list_any is_error ts then ts else ts ++ done done_status.more ∷ []

-- an effect with such a DONE
abbrev pub with_more : Effect → Effect
with_more e = record { tokens = with_done e.tokens; after = e.after }

-- the one column of `rows`, named `n` (MS-TDS 2.2.7.4)
abbrev pub row_column : Column
row_column = record { user_type = 0; flags = 0; name = codes "n" }

-- so many rows, their numbers rising by one
abbrev pub rows_from : ℕ → ℕ → List Token
rows_from first zero = []
rows_from first (suc count) = token.Row (pos first ∷ []) ∷ rows_from (first + 1) count

-- a result of one column: its rows, and a DONE `0011` with their count
abbrev pub result_set : ℕ → ℕ → List Token
result_set first count = token.Columns (row_column ∷ []) ∷ (rows_from first count ++ token.Done (done_status.more + done_status.count) 0 count ∷ [])

-- a statement's tokens, and the session after it
abbrev pub step_of : SessionState → Statement → Effect
step_of s (statement.Say word) = with_more (gives_token (token.Info (message 50000 0 word)) s)
step_of s (statement.Rows first count) = record { tokens = result_set first count; after = s }
step_of s (statement.Set key value) = record { tokens = done done_status.more ∷ []; after = with_value key value s }
step_of s (statement.Get key) = with_more (gives_token (token.ReturnStatus (value_of s key)) s)
step_of s statement.Begin = with_more (begins s)
step_of s statement.Commit = with_more (ends change.Commit s)
step_of s statement.Rollback = with_more (ends change.Rollback s)
step_of s (statement.Fail number) = fails number (codes "fail") s
