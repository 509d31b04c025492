-- What was said of a session, the newest first, and what of that lets it rest, line by line.
use Rattle.std.specs.Prelude.{◌≡◌, ℕ, ◌==◌, ◌&&◌, ◌||◌, not, Bool, true, false, List, [], ◌∷◌, ◌++◌, take, Option, Some, None, if◌then◌else◌}
use Rattle.tds_packet.specs.declared.status.Reset.{Reset}
use Rattle.tds_packet.specs.declared.status.Reset.TheVariants.{Full, KeepTransaction}
use Rattle.tds_state.specs.declared.asked.Request.{Request}
use Rattle.tds_state.specs.declared.asked.Request.TheVariants.{Batch, Procedure, Other}
use Rattle.tds_state.specs.declared.session.Session.{Session}
use Rattle.tds_state.specs.Asking.{bulk, procedure_call, is_call, is_known_call, small}
use Rattle.tds_state.specs.Hearing.{Heard, Unread, Recovery, States, Value, Transaction, ResetDone, Done}
use Rattle.tds_state.specs.Ledgers.{may_begin, no_values, state_bytes}
use Rattle.tds_state.specs.Sessions.{session_asked, session_cancelled, session_ended, session_told, is_followed, is_full_reset, keeps_open, transaction_left, session_at_login, session_sent}
use Rattle.tds_state.specs.States.{gives_value, last_value}

pub data Remark : Type 0 where
  -- a request begins, and asks for this reset
  Begins : Request → Option Reset → Remark
  -- bytes of its body go on
  Goes : List ℕ → Remark
  -- it is cancelled
  Cancels : Remark
  -- the server tells something
  Tells : Heard → Remark
  -- a message of the server's has ended
  Ends : Remark

abbrev pub remarked : Session → Remark → Session
remarked s (Begins kind reset) = session_asked s kind reset
remarked s (Goes bytes) = session_sent s bytes
remarked s Cancels = session_cancelled s
remarked s (Tells heard) = session_told s heard
remarked s Ends = session_ended s

unfoldable pub session_said : List Remark → Session
session_said [] = session_at_login
session_said (r ∷ past) = remarked (session_said past) r

-- what such a past made of a session
pub record HasPast (s : Session) : Type 0 where
  pub past : List Remark
  pub is : s ≡ session_said past

-- ---- The server tells its states (MS-TDS 2.2.7.11, 2.2.7.21)

unfoldable pub was_asked : List Remark → Bool
was_asked [] = false
was_asked (Begins kind reset ∷ past) = true
was_asked (r ∷ past) = was_asked past

-- the login's answer acknowledged session recovery
unfoldable pub was_acknowledged : List Remark → Bool
was_acknowledged [] = false
was_acknowledged (Tells (Recovery states) ∷ past) = not (was_asked past) || was_acknowledged past
was_acknowledged (r ∷ past) = was_acknowledged past

-- all could be read, and there was room for the initial states
unfoldable pub was_all_read : List Remark → Bool
was_all_read [] = true
was_all_read (Tells Unread ∷ past) = false
was_all_read (Tells (Recovery states) ∷ past) = may_begin (no_values 7168) states && was_all_read past
was_all_read (Tells (States is_recoverable all) ∷ past) = all.is_whole && was_all_read past
was_all_read (r ∷ past) = was_all_read past

-- ---- Resets (2.2.3.1.2)

-- the one that was asked for and isn't done
unfoldable pub owed_in : List Remark → Option Reset
owed_in [] = None
owed_in (Begins kind None ∷ past) = owed_in past
owed_in (Begins kind (Some reset) ∷ past) = Some reset
owed_in (Tells ResetDone ∷ past) = None
owed_in (r ∷ past) = owed_in past

-- the last one kept the transaction, and no full one was asked for since
unfoldable pub was_kept : List Remark → Bool
was_kept [] = false
was_kept (Begins kind (Some Full) ∷ past) = false
was_kept (Tells ResetDone ∷ past) = keeps_open (owed_in past) || was_kept past
was_kept (r ∷ past) = was_kept past

-- ---- What was told since the last full reset

-- the newest SESSIONSTATE said that the session can be recovered
unfoldable pub newest_is_recoverable : List Remark → Bool
newest_is_recoverable [] = true
newest_is_recoverable (Tells (States is_recoverable all) ∷ past) = is_recoverable
newest_is_recoverable (Tells ResetDone ∷ past) = is_full_reset (owed_in past) || newest_is_recoverable past
newest_is_recoverable (r ∷ past) = newest_is_recoverable past

-- the transaction that is open, or 0
unfoldable pub open_transaction : List Remark → ℕ
open_transaction [] = 0
open_transaction (Tells (Transaction descriptor) ∷ past) = descriptor
open_transaction (Tells ResetDone ∷ past) = transaction_left (is_full_reset (owed_in past)) (open_transaction past)
open_transaction (r ∷ past) = open_transaction past

pub record Telling : Type 0 where
  pub is_recoverable : Bool
  pub value : List ℕ

abbrev pub telling_by : Option (List ℕ) → Bool → Option Telling → Option Telling
telling_by (Some value) is_recoverable before = Some (record { is_recoverable = is_recoverable; value = value })
telling_by None is_recoverable before = before

abbrev pub telling_if : Bool → Option Telling → Option Telling
telling_if true before = None
telling_if false before = before

-- the newest telling of the state of this number
unfoldable pub newest_state : ℕ → List Remark → Option Telling
newest_state id [] = None
newest_state id (Tells (States is_recoverable all) ∷ past) = telling_by (last_value id all.states) is_recoverable (newest_state id past)
newest_state id (Tells ResetDone ∷ past) = telling_if (is_full_reset (owed_in past)) (newest_state id past)
newest_state id (r ∷ past) = newest_state id past

-- it can be recovered, and has the value that these states give it; so does one that wasn't told
abbrev pub IsInitial : List ℕ → ℕ → Option Telling → Type 0
IsInitial states id None = Unit {0}
IsInitial states id (Some told) = record { recoverable : told.is_recoverable ≡ true; value : gives_value states id told.value ≡ true }

-- the states that the login's answer acknowledged
unfoldable pub first_states : List Remark → List ℕ
first_states [] = []
first_states (Tells (Recovery states) ∷ past) = states
first_states (r ∷ past) = first_states past

-- the values that ENVCHANGE told in the login's answer (2.2.7.9), spelled as states; there is room for 1,024 bytes
unfoldable pub first_values : List Remark → List ℕ
first_values [] = []
first_values (Tells (Value type value) ∷ past) = if was_asked past then first_values past else first_values past ++ state_bytes type value
first_values (r ∷ past) = first_values past

-- the newest value of this type that was told since
unfoldable pub newest_value : ℕ → List Remark → Option Telling
newest_value type [] = None
newest_value type (Tells (Value other value) ∷ past) =
    if was_asked past then telling_by (if other == type then Some value else None) true (newest_value type past) else newest_value type past
newest_value type (Tells ResetDone ∷ past) = telling_if (is_full_reset (owed_in past)) (newest_value type past)
newest_value type (r ∷ past) = newest_value type past

-- ---- What was asked since a full reset was asked for: the request that asks comes behind it

-- of each call is known what it leaves, a handle at most; of a call, 1,024 bytes count
unfoldable pub are_harmless : List ℕ → List Remark → Bool
are_harmless body [] = true
are_harmless body (Goes bytes ∷ past) = are_harmless (bytes ++ body) past
are_harmless body (Begins Procedure None ∷ past) = is_known_call (procedure_call (take 1024 body)) && are_harmless [] past
are_harmless body (Begins Procedure (Some Full) ∷ past) = is_known_call (procedure_call (take 1024 body))
are_harmless body (Begins Procedure (Some KeepTransaction) ∷ past) = is_known_call (procedure_call (take 1024 body)) && are_harmless [] past
are_harmless body (Begins Batch (Some Full) ∷ past) = true
are_harmless body (Begins Other (Some Full) ∷ past) = true
are_harmless body (Begins kind reset ∷ past) = are_harmless [] past
are_harmless body (r ∷ past) = are_harmless body past

unfoldable pub newest_kind : List Remark → Request
newest_kind [] = Other
newest_kind (Begins kind reset ∷ past) = kind
newest_kind (r ∷ past) = newest_kind past

-- a call was cancelled
unfoldable pub was_call_cancelled : List Remark → Bool
was_call_cancelled [] = false
was_call_cancelled (Begins kind (Some Full) ∷ past) = false
was_call_cancelled (Cancels ∷ past) = is_call (newest_kind past) || was_call_cancelled past
was_call_cancelled (r ∷ past) = was_call_cancelled past

-- a DONEPROC said that another call follows in its message (2.2.7.7)
unfoldable pub was_followed : List Remark → Bool
was_followed [] = false
was_followed (Begins kind (Some Full) ∷ past) = false
was_followed (Tells (Done kind status) ∷ past) = is_followed kind status || was_followed past
was_followed (r ∷ past) = was_followed past

-- ---- The newest request

-- behind it, and behind a cancel, a message of the server's has ended
unfoldable pub answer_has_ended : List Remark → Bool
answer_has_ended [] = false
answer_has_ended (Begins kind reset ∷ past) = false
answer_has_ended (Cancels ∷ past) = false
answer_has_ended (Ends ∷ past) = true
answer_has_ended (r ∷ past) = answer_has_ended past

-- it was cancelled
unfoldable pub newest_is_cancelled : List Remark → Bool
newest_is_cancelled [] = false
newest_is_cancelled (Begins kind reset ∷ past) = false
newest_is_cancelled (Cancels ∷ past) = true
newest_is_cancelled (r ∷ past) = newest_is_cancelled past

-- bytes begin with a pattern, in small or capital letters; and have it somewhere
unfoldable pub begins_with : List ℕ → List ℕ → Bool
begins_with [] bytes = true
begins_with (p ∷ pattern) [] = false
begins_with (p ∷ pattern) (byte ∷ bytes) = (small byte == p) && begins_with pattern bytes

unfoldable pub stands_within : List ℕ → List ℕ → Bool
stands_within pattern [] = begins_with pattern []
stands_within pattern (byte ∷ bytes) = begins_with pattern (byte ∷ bytes) || stands_within pattern bytes

-- it is a batch in which `bulk` stands
unfoldable pub newest_has_bulk : List ℕ → List Remark → Bool
newest_has_bulk body [] = false
newest_has_bulk body (Goes bytes ∷ past) = newest_has_bulk (bytes ++ body) past
newest_has_bulk body (Begins Batch reset ∷ past) = stands_within bulk body
newest_has_bulk body (Begins Procedure reset ∷ past) = false
newest_has_bulk body (Begins Other reset ∷ past) = false
newest_has_bulk body (r ∷ past) = newest_has_bulk body past
