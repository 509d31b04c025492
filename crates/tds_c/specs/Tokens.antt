-- A token as a plain value, and a cursor that goes from one to the next.
use Rattle.std.specs.Prelude.{◌≡◌, ℕ, ℤ, ◌-◌, ◌<◌, List, [], ◌∷◌, ◌++◌, length, drop, Option, Some, None, Result, Ok, Err}
use Rattle.tds_token.specs.declared.env_change.EnvChange.{EnvChange}
use Rattle.tds_token.specs.declared.env_change.EnvChange.TheVariants.{Begin, Commit, Rollback, ResetDone}
use Rattle.tds_token.specs.declared.message.Message.{Message}
use Rattle.tds_token.specs.declared.token.Token.{Token}
use Rattle.tds_token.specs.declared.token.Token.TheVariants as tokens
use Rattle.tds_token.specs.Layout.{IsToken}
use Rattle.tds_token.specs.Reading.{wrong_token}
use Rattle.tds_token.specs.Runs.{NoRow, row_tokens}
use Rattle.tds_token.specs.Runs as runs
use Rattle.tds_c.specs.declared.answers.Stop.{Stop}
use Rattle.tds_c.specs.declared.answers.Stop.TheVariants as stops
use Rattle.tds_c.specs.declared.tokens.Ran.{Ran}
use Rattle.tds_c.specs.declared.tokens.Ran.TheVariants as ran
use Rattle.tds_c.specs.declared.tokens.TdsCursor.{TdsCursor}
use Rattle.tds_c.specs.declared.tokens.TdsRows.{TdsRows}
use Rattle.tds_c.specs.declared.tokens.TdsToken.{TdsToken}
use Rattle.tds_c.specs.Plain.{columns_from, columns_number}
use Rattle.tds_walk.specs.Rooms.{HasRead, Room}

-- A token was read, or the data are at their end.
abbrev pub found_number : Option TdsToken → ℕ
found_number (Some t) = 0
found_number None = 9

-- The token's byte, and where it begins.
abbrev pub Begins : TdsToken → ℕ → ℕ → Type 0
Begins t kind start = (t.kind ≡ kind) × (t.start ≡ start)

abbrev pub ShowsMessage : TdsToken → ℕ → ℕ → Message → Type 0
ShowsMessage t kind start m =
    Begins t kind start × (t.number ≡ m.number) × (t.state ≡ m.state) × (t.severity ≡ m.class) × (t.line ≡ m.line)

abbrev pub ShowsChange : TdsToken → ℕ → EnvChange → Type 0
ShowsChange t start (Begin d) = Begins t 0xE3 start × (t.change ≡ 8) × (t.value ≡ d)
ShowsChange t start (Commit d) = Begins t 0xE3 start × (t.change ≡ 9) × (t.value ≡ d)
ShowsChange t start (Rollback d) = Begins t 0xE3 start × (t.change ≡ 10) × (t.value ≡ d)
ShowsChange t start ResetDone = Begins t 0xE3 start × (t.change ≡ 18)

-- The value shows this token, but for what lies in the data alone: texts, names of columns, values of a row.
abbrev pub Shows : TdsToken → ℕ → ℕ → Token → Type 0
Shows t start columns (tokens.Info m) = ShowsMessage t 0xAB start m
Shows t start columns (tokens.Error m) = ShowsMessage t 0xAA start m
Shows t start columns (tokens.ReturnStatus v) = Begins t 0x79 start × (t.number ≡ v)
Shows t start columns (tokens.Columns cs) = Begins t 0x81 start × (t.value ≡ length cs)
Shows t start columns (tokens.Row vs) = Begins t 0xD1 start × (t.value ≡ columns)
Shows t start columns (tokens.Env e) = ShowsChange t start e
Shows t start columns (tokens.Done status cur_cmd rows) =
    Begins t 0xFD start × (t.status ≡ status) × (t.cur_cmd ≡ cur_cmd) × (t.value ≡ rows)

-- The cursor stands behind these bytes, which are left, with these columns known.
abbrev pub StandsAt : TdsCursor → List ℕ → List ℕ → Option ℕ → Type 0
StandsAt c content left columns = (c.at ≡ length content - length left) × (c.columns ≡ columns_number columns)

-- A token is spelled at the cursor, and the cursor goes behind it.
abbrev pub ReadsToken : List ℕ → TdsCursor → TdsCursor → TdsToken → Option ℕ → Type 0
ReadsToken content old new t columns =
    (token : Token) × (front : List ℕ) × (left : List ℕ) × (after : Option ℕ)
    × (drop old.at content ≡ front ++ left) × IsToken columns token front after
    × Shows t old.at old.columns token × StandsAt new content left after

-- What comes of reading where these columns are known.
abbrev pub ReadsUnder : Option ℕ → List ℕ → TdsCursor → TdsCursor → Result (Option TdsToken) Stop → Type 0
ReadsUnder columns content old new (Ok (Some t)) = ReadsToken content old new t columns
ReadsUnder columns content old new (Ok None) = (drop old.at content ≡ []) × (new ≡ old)
ReadsUnder columns content old new (Err (stops.Token fault)) =
    (wrong_token columns (drop old.at content) ≡ Some fault) × (new.at ≡ length content) × (new.columns ≡ old.columns)
ReadsUnder columns content old new (Err stops.NoPlace) = (length content < old.at) × (new ≡ old)
ReadsUnder columns content old new _ = ⊥

abbrev pub ReadsBy : Option (Option ℕ) → List ℕ → TdsCursor → TdsCursor → Result (Option TdsToken) Stop → Type 0
ReadsBy None content old new result = (result ≡ Err stops.NoPlace) × (new ≡ old)
ReadsBy (Some columns) content old new result = ReadsUnder columns content old new result

abbrev pub Reads : List ℕ → TdsCursor → TdsCursor → Result (Option TdsToken) Stop → Type 0
Reads content old new result = ReadsBy (columns_from old.columns) content old new result

-- The caller's token behind a call: the one that was read, and else what it was.
abbrev pub given : TdsToken → Result (Option TdsToken) Stop → TdsToken
given old (Ok (Some t)) = t
given old (Ok None) = old
given old (Err stop) = old

-- ---- Several tokens in one call

abbrev pub ran_number : Ran → ℕ
ran_number ran.Full = 0
ran_number ran.End = 9

-- `tds_token_next` gives these tokens one after the other, and then the cursor stands at `last`.
unfoldable pub GivesInTurn : List ℕ → TdsCursor → List TdsToken → TdsCursor → Type 0
GivesInTurn content first [] last = first ≡ last
GivesInTurn content first (t ∷ others) last =
    (behind : TdsCursor) × Reads content first behind (Ok (Some t)) × GivesInTurn content behind others last

-- So far these tokens were given and written, and the cursor stands behind them.
pub record HasRun (content : List ℕ) (old new : TdsCursor) (room : Room TdsToken) : Type 0 where
  pub read : List TdsToken
  pub given : GivesInTurn content old read new
  pub written : HasRead read room

-- Why no more were read: the room is full, or this is what `tds_token_next` answers next.
abbrev pub StopsAt : List ℕ → TdsCursor → TdsCursor → Room TdsToken → Result Ran Stop → Type 0
StopsAt content last new room (Ok ran.Full) = (new ≡ last) × (room.count ≡ length room.before)
StopsAt content last new room (Ok ran.End) = Reads content last new (Ok None)
StopsAt content last new room (Err stop) = Reads content last new (Err stop)

abbrev pub ReadsRun : List ℕ → TdsCursor → TdsCursor → Room TdsToken → Result Ran Stop → Type 0
ReadsRun content old new room result =
    (read : List TdsToken) × (last : TdsCursor)
    × GivesInTurn content old read last × HasRead read room × StopsAt content last new room result

-- ---- Rows in one run

-- All the rows at the cursor, with their values: the tokens that `Tokens::next` gives one after the other. What is left begins
-- with no row.
abbrev pub RunsUnder : Option ℕ → List ℕ → TdsCursor → TdsCursor → TdsRows → Type 0
RunsUnder columns content old new rows =
    (values : List (List ℤ)) × (left : List ℕ)
    × runs.GivesInTurn (record { bytes = drop old.at content; columns = columns }) (row_tokens values) (record { bytes = left; columns = columns })
    × NoRow columns left × StandsAt new content left columns
    × (rows.start ≡ old.at) × (rows.count ≡ length values) × (rows.columns ≡ old.columns)

-- A cursor that is no place in the data is refused, and nothing was done.
abbrev pub IsNoPlace : List ℕ → TdsCursor → TdsCursor → TdsRows → TdsRows → Stop → Type 0
IsNoPlace content old new before after stop = (stop ≡ stops.NoPlace) × (new ≡ old) × (after ≡ before)

abbrev pub RunsBy : Option (Option ℕ) → List ℕ → TdsCursor → TdsCursor → TdsRows → TdsRows → Result (Unit {0}) Stop → Type 0
RunsBy None content old new before after (Ok done) = ⊥
RunsBy None content old new before after (Err stop) = IsNoPlace content old new before after stop
RunsBy (Some columns) content old new before after (Ok done) = RunsUnder columns content old new after
RunsBy (Some columns) content old new before after (Err stop) = (length content < old.at) × IsNoPlace content old new before after stop

abbrev pub ReadsRows : List ℕ → TdsCursor → TdsCursor → TdsRows → TdsRows → Result (Unit {0}) Stop → Type 0
ReadsRows content old new before after result = RunsBy (columns_from old.columns) content old new before after result
