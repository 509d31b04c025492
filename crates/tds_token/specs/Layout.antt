-- Each token, and the bytes that spell it (MS-TDS 2.2.7). Numbers have their low byte first.
use Rattle.std.specs.Prelude.{◌≡◌, ℕ, ℤ, ◌+◌, ◌*◌, ◌<◌, ◌≤◌, ◌^◌, FitsSigned, Bool, true, false, ◌==◌, ◌&&◌, not, bit_and, List, [], ◌∷◌, ◌++◌, length, Option, Some, None}
use Rattle.std.specs.Int.{w16, w32, w64, to_le_bytes, cast_unsigned}
use Rattle.std.specs.List.{flat_map, AllByRecursion}
use Rattle.tds_token.specs.declared.columns.Column.{Column}
use Rattle.tds_token.specs.declared.columns.ColumnRef.{ColumnRef}
use Rattle.tds_token.specs.declared.env_change.EnvChange.{EnvChange}
use Rattle.tds_token.specs.declared.env_change.EnvChange.TheVariants.{Begin, Commit, Rollback, ResetDone}
use Rattle.tds_token.specs.declared.message.Message.{Message}
use Rattle.tds_token.specs.declared.token.Token.{Token}
use Rattle.tds_token.specs.declared.token.Token.TheVariants as tokens
use Rattle.tds_token.specs.declared.token.TokenRef.{TokenRef}
use Rattle.tds_token.specs.declared.token.TokenRef.TheVariants as lent
use Rattle.tds_token.specs.Texts.{units_bytes}

-- ---- Lent and owned

-- The column that is lent.
abbrev pub column_of : ColumnRef → Column
column_of c = record { user_type = c.user_type; flags = c.flags; name = c.name }

-- The token that is lent.
abbrev pub token_of : TokenRef → Token
token_of (lent.Info m) = tokens.Info m
token_of (lent.Error m) = tokens.Error m
token_of (lent.ReturnStatus v) = tokens.ReturnStatus v
token_of (lent.Columns cs) = tokens.Columns cs
token_of (lent.Row vs) = tokens.Row vs
token_of (lent.Env e) = tokens.Env e
token_of (lent.Done status cur_cmd rows) = tokens.Done status cur_cmd rows

-- ---- The spelling

-- A signed number of four bytes.
abbrev pub int_bytes : ℤ → List ℕ
int_bytes z = to_le_bytes w32 (cast_unsigned w32 z)

-- A text behind the count of its units, in two bytes (US_VARCHAR, MS-TDS 2.2.5.1.2).
abbrev pub long_text : List ℕ → List ℕ
long_text units = to_le_bytes w16 (length units) ++ units_bytes units

-- A text behind the count of its units, in one byte (B_VARCHAR, MS-TDS 2.2.5.1.2).
abbrev pub short_text : List ℕ → List ℕ
short_text units = length units ∷ units_bytes units

-- What stands behind a Length of two bytes, which counts its bytes.
abbrev pub sized : List ℕ → List ℕ
sized inside = to_le_bytes w16 (length inside) ++ inside

-- Number, State, Class, MsgText, ServerName, ProcName, LineNumber (MS-TDS 2.2.7.10, 2.2.7.13).
abbrev pub message_inside : Message → List ℕ
message_inside m =
    int_bytes m.number ++ m.state ∷ m.class ∷ (long_text m.text ++ (short_text m.server ++ (short_text m.procedure ++ int_bytes m.line)))

-- Type, NewValue, OldValue; each value behind the count of its bytes, in one byte
-- (MS-TDS 2.2.7.9). A descriptor has eight bytes, and what is not told has none.
abbrev pub env_inside : EnvChange → List ℕ
env_inside (Begin d) = 8 ∷ 8 ∷ (to_le_bytes w64 d ++ 0 ∷ [])
env_inside (Commit d) = 9 ∷ 0 ∷ 8 ∷ to_le_bytes w64 d
env_inside (Rollback d) = 10 ∷ 0 ∷ 8 ∷ to_le_bytes w64 d
env_inside ResetDone = 18 ∷ 0 ∷ 0 ∷ []

-- UserType, Flags, the type INT4, ColName (MS-TDS 2.2.7.4).
abbrev pub column_bytes : Column → List ℕ
column_bytes c = to_le_bytes w32 c.user_type ++ (to_le_bytes w16 c.flags ++ 0x38 ∷ short_text c.name)

-- The token byte, and what stands behind it.
abbrev pub spelling : Token → List ℕ
spelling (tokens.Info m) = 0xAB ∷ sized (message_inside m)
spelling (tokens.Error m) = 0xAA ∷ sized (message_inside m)
spelling (tokens.ReturnStatus v) = 0x79 ∷ int_bytes v
spelling (tokens.Columns cs) = 0x81 ∷ (to_le_bytes w16 (length cs) ++ flat_map column_bytes cs)
spelling (tokens.Row vs) = 0xD1 ∷ flat_map int_bytes vs
spelling (tokens.Env e) = 0xE3 ∷ sized (env_inside e)
spelling (tokens.Done status cur_cmd rows) =
    0xFD ∷ (to_le_bytes w16 status ++ (to_le_bytes w16 cur_cmd ++ to_le_bytes w64 rows))

-- ---- Which values have a spelling

-- The status of a DONE (MS-TDS 2.2.7.6): of its bits 0001 more, 0002 error, 0004 in transaction,
-- 0010 count, 0020 attention and 0100 server error alone, and not both 0001 and 0020.
unfoldable pub is_done_status : ℕ → Bool
is_done_status status = (bit_and status 0xFEC8 == 0) && not (bit_and status 0x21 == 0x21)

-- The counts of a message's texts and its Length have room.
pub record FitsMessage (m : Message) : Type 0 where
  pub server : length m.server < 256
  pub procedure : length m.procedure < 256
  pub whole : 14 + 2 * (length m.text + length m.server + length m.procedure) < 65536

-- A transaction's descriptor is never 0.
abbrev pub FitsEnv : EnvChange → Type 0
FitsEnv (Begin d) = 0 < d
FitsEnv (Commit d) = 0 < d
FitsEnv (Rollback d) = 0 < d
FitsEnv ResetDone = Unit {0}

-- A column's name has at most 10 units.
abbrev pub FitsColumn : Column → Type 0
FitsColumn c = length c.name ≤ 10

-- What `put_token` asks of a token, and `Token::fits` tests.
abbrev pub Fits : Token → Type 0
Fits (tokens.Info m) = FitsMessage m
Fits (tokens.Error m) = FitsMessage m
Fits (tokens.ReturnStatus v) = Unit {0}
Fits (tokens.Columns cs) = (1 ≤ length cs) × (length cs ≤ 16) × AllByRecursion FitsColumn cs
Fits (tokens.Row vs) = (1 ≤ length vs) × (length vs ≤ 16)
Fits (tokens.Env e) = FitsEnv e
Fits (tokens.Done status cur_cmd rows) = is_done_status status ≡ true

-- ---- Numbers of their widths, as those of a program always are

abbrev pub AreUnits : List ℕ → Type 0
AreUnits units = AllByRecursion (λ unit. unit < 2 ^ 16) units

abbrev pub IsInt : ℤ → Type 0
IsInt z = FitsSigned w32 z

pub record RangedMessage (m : Message) : Type 0 where
  pub number : IsInt m.number
  pub state : m.state < 256
  pub class : m.class < 256
  pub text : AreUnits m.text
  pub server : AreUnits m.server
  pub procedure : AreUnits m.procedure
  pub line : IsInt m.line

abbrev pub RangedEnv : EnvChange → Type 0
RangedEnv (Begin d) = d < 2 ^ 64
RangedEnv (Commit d) = d < 2 ^ 64
RangedEnv (Rollback d) = d < 2 ^ 64
RangedEnv ResetDone = Unit {0}

pub record RangedColumn (c : Column) : Type 0 where
  pub user_type : c.user_type < 2 ^ 32
  pub flags : c.flags < 2 ^ 16
  pub name : AreUnits c.name

abbrev pub Ranged : Token → Type 0
Ranged (tokens.Info m) = RangedMessage m
Ranged (tokens.Error m) = RangedMessage m
Ranged (tokens.ReturnStatus v) = IsInt v
Ranged (tokens.Columns cs) = AllByRecursion RangedColumn cs
Ranged (tokens.Row vs) = AllByRecursion IsInt vs
Ranged (tokens.Env e) = RangedEnv e
Ranged (tokens.Done status cur_cmd rows) = (status < 2 ^ 16) × (cur_cmd < 2 ^ 16) × (rows < 2 ^ 64)

-- ---- The columns that are known

-- A COLMETADATA tells how many values a row has, a DONE ends that, and every other token keeps it.
abbrev pub columns_after : Option ℕ → Token → Option ℕ
columns_after columns (tokens.Columns cs) = Some (length cs)
columns_after columns (tokens.Done status cur_cmd rows) = None
columns_after columns _ = columns

-- A row has as many values as there are columns.
abbrev pub Under : Option ℕ → Token → Type 0
Under columns (tokens.Row vs) = columns ≡ Some (length vs)
Under columns _ = Unit {0}

-- ---- The token

-- Where `columns` are known, these bytes spell this token, and behind it `after` are known.
pub record IsToken (columns : Option ℕ) (token : Token) (bytes : List ℕ) (after : Option ℕ) : Type 0 where
  pub spelled : bytes ≡ spelling token
  pub fits : Fits token
  pub ranged : Ranged token
  pub under : Under columns token
  pub after_is : after ≡ columns_after columns token

-- These bytes spell these tokens, one behind the other, and the columns are handed on.
unfoldable pub IsTokens : Option ℕ → List Token → List ℕ → Option ℕ → Type 0
IsTokens columns [] bytes after = (bytes ≡ []) × (after ≡ columns)
IsTokens columns (token ∷ others) bytes after =
    (front : List ℕ) × (rest : List ℕ) × (middle : Option ℕ) × (bytes ≡ front ++ rest) × IsToken columns token front middle × IsTokens middle others rest after

-- Whether it is an ENVCHANGE.
abbrev pub is_env : Token → Bool
is_env (tokens.Env e) = true
is_env _ = false

-- Whether it is a row.
abbrev pub is_row : Token → Bool
is_row (tokens.Row vs) = true
is_row _ = false
