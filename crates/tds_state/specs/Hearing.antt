-- What is made of a token of an answer: of what it says, and of its bytes where these are kept.
use Rattle.std.specs.Prelude.{ℕ, zero, suc, ◌*◌, ◌==◌, ◌&&◌, ◌||◌, not, nat_lt, Bool, List, [], ◌∷◌, length, take, drop, Option, Some, None, if◌then◌else◌}
use Rattle.std.specs.Int.{w32, from_le_bytes}
use Rattle.tds_wire.specs.declared.told.ChangeValue.{ChangeValue}
use Rattle.tds_wire.specs.declared.told.ChangeValue.TheVariants as changes
use Rattle.tds_wire.specs.declared.told.Told.{Told}
use Rattle.tds_wire.specs.declared.told.Told.TheVariants as told
use Rattle.tds_wire.specs.declared.told.Token.{Token}
use Rattle.tds_state.specs.declared.states.StateSpot.{StateSpot}
use Rattle.tds_state.specs.Spots.{four_bytes, bytes_stand}
use Rattle.tds_state.specs.States.{Listed, behind_state, states_listed, spot_with, state_value}

-- ---- FEATUREEXTACK (MS-TDS 2.2.7.11): features, each its number, the length of its data in four bytes, and these; FF behind the last one

unfoldable pub feature_at : List ℕ → Option StateSpot
feature_at (id ∷ a ∷ b ∷ c ∷ d ∷ behind) = if id == 255 then None else spot_with id 5 (from_le_bytes w32 (a ∷ b ∷ c ∷ d ∷ [])) (length behind)
feature_at other = None

abbrev pub recovery_by : (List ℕ → Option (List ℕ)) → List ℕ → Option StateSpot → Option (List ℕ)
recovery_by others bytes None = None
recovery_by others bytes (Some spot) = if spot.id == 1 then Some (state_value spot bytes) else others (behind_state spot bytes)

-- the data of session recovery, which is feature 1; there are no more features than bytes
unfoldable pub recovery_in : ℕ → List ℕ → Option (List ℕ)
recovery_in zero bytes = None
recovery_in (suc most) bytes = recovery_by (recovery_in most) bytes (feature_at bytes)

abbrev pub recovery : List ℕ → Option (List ℕ)
recovery bytes = recovery_in (length bytes) bytes

-- ---- ENVCHANGE (2.2.7.9): the new value stands behind its count, of letters or, in a collation, of bytes

-- 1 database, 2 language, 3 character set, 5 and 6 the order of letters, 7 collation
abbrev pub has_value : ℕ → Bool
has_value type = (type == 1) || (type == 2) || (type == 3) || (type == 5) || (type == 6) || (type == 7)

abbrev pub value_length : ℕ → ℕ → ℕ
value_length type count = if type == 7 then count else 2 * count

unfoldable pub new_value : ℕ → List ℕ → Option (List ℕ)
new_value type (a ∷ b ∷ c ∷ d ∷ count ∷ behind) =
    if nat_lt (length behind) (value_length type count) then None else Some (take (value_length type count) behind)
new_value type other = None

-- ---- RETURNVALUE (2.2.7.19): its place, the length of its name, a byte (1: of a parameter), six more, its type (26 04: a number of four
-- bytes) and its value behind its length

-- the number of a parameter without a name
abbrev pub returned_value : List ℕ → Option ℕ
returned_value bytes = if bytes_stand bytes 3 (0 ∷ 1 ∷ []) && bytes_stand bytes 11 (38 ∷ 4 ∷ 4 ∷ []) then four_bytes (drop 14 bytes) else None

-- ---- Any token

pub data Heard : Type 0 where
  -- it should tell something, and can't be read, or isn't kept whole
  Unread : Heard
  -- nothing that matters here
  Nothing : Heard
  -- session recovery is acknowledged, with these initial states
  Recovery : List ℕ → Heard
  -- states have new values, which can be recovered or can't
  States : Bool → Listed → Heard
  -- what ENVCHANGE of this type tells has this value now
  Value : ℕ → List ℕ → Heard
  -- the descriptor of the transaction that is open now, or 0
  Transaction : ℕ → Heard
  ResetDone : Heard
  -- a DONE of this kind with this status
  Done : ℕ → ℕ → Heard
  -- a value is returned, this number of four bytes or another one
  Returned : Option ℕ → Heard
  -- an error is told
  Failed : Heard

abbrev pub is_kept_whole : Token → List ℕ → Bool
is_kept_whole token bytes = token.length == length bytes

abbrev pub recovered : Option (List ℕ) → Heard
recovered None = Nothing
recovered (Some states) = Recovery states

abbrev pub told_value : ℕ → Option (List ℕ) → Heard
told_value type None = Unread
told_value type (Some value) = Value type value

abbrev pub news_of_value : ℕ → Token → List ℕ → Heard
news_of_value type token bytes =
    if has_value type then (if is_kept_whole token bytes then told_value type (new_value type bytes) else Unread) else Nothing

abbrev pub news_of_change : ChangeValue → ℕ → Token → List ℕ → Heard
news_of_change (changes.Transaction new old) type token bytes = Transaction new
news_of_change changes.ResetDone type token bytes = ResetDone
news_of_change (changes.PacketSize size) type token bytes = news_of_value type token bytes
news_of_change (changes.Values new old) type token bytes = news_of_value type token bytes
news_of_change changes.Other type token bytes = news_of_value type token bytes

-- the last number is FFFFFFFF: from then on none is told (2.2.7.21)
abbrev pub news_of_states : ℕ → Bool → Token → List ℕ → Heard
news_of_states number is_recoverable token bytes =
    if is_kept_whole token bytes && not (number == 4294967295) then States is_recoverable (states_listed (drop 10 bytes)) else Unread

abbrev pub news_of_features : Token → List ℕ → Heard
news_of_features token bytes = if is_kept_whole token bytes then recovered (recovery (drop 1 bytes)) else Unread

abbrev pub news_of_returned : Token → List ℕ → Heard
news_of_returned token bytes = Returned (if is_kept_whole token bytes then returned_value bytes else None)

abbrev pub error_news : ℕ → Heard
error_news kind = if kind == 0xAA then Failed else Nothing

abbrev pub unclear_news : ℕ → Heard
unclear_news kind = if (kind == 0xE3) || (kind == 0xE4) then Unread else error_news kind

abbrev pub other_news : Token → List ℕ → Heard
other_news token bytes =
    if token.kind == 0xAE then news_of_features token bytes else if token.kind == 0xAC then news_of_returned token bytes else Nothing

abbrev pub news_by : Told → Token → List ℕ → Heard
news_by (told.Done done) token bytes = Done token.kind done.status
news_by (told.Change change) token bytes = news_of_change change.value change.kind token bytes
news_by (told.Message message) token bytes = error_news token.kind
news_by (told.ReturnStatus value) token bytes = Nothing
news_by (told.SessionState state) token bytes = news_of_states state.sequence state.is_recoverable token bytes
news_by told.Unclear token bytes = unclear_news token.kind
news_by told.Other token bytes = other_news token bytes

-- this token, with these bytes
abbrev pub state_news : Token → List ℕ → Heard
state_news token bytes = news_by token.told token bytes
