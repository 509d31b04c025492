-- What a server said of its session, and what was asked of it: one step for each thing that is said, and whether the session rests.
use Rattle.std.specs.Prelude.{ℕ, ◌/◌, ◌%◌, ◌==◌, ◌&&◌, ◌||◌, not, nat_lt, Bool, true, false, List, [], ◌∷◌, Option, Some, None, if◌then◌else◌}
use Rattle.tds_packet.specs.declared.status.Reset.{Reset}
use Rattle.tds_packet.specs.declared.status.Reset.TheVariants.{Full, KeepTransaction}
use Rattle.tds_state.specs.declared.asked.Request.{Request}
use Rattle.tds_state.specs.declared.asked.Request.TheVariants.{Other}
use Rattle.tds_state.specs.declared.session.Flight.{Flight}
use Rattle.tds_state.specs.declared.session.Flight.TheVariants.{Quiet, Asked, Cancelled, Stopped}
use Rattle.tds_state.specs.declared.session.Session.{Session}
use Rattle.tds_state.specs.declared.asked.Call.{Call}
use Rattle.tds_state.specs.declared.handles.Handles.{Handles}
use Rattle.tds_state.specs.Asking.{asked_call, request_begun, is_call, may_make_handles, with_body}
use Rattle.tds_state.specs.Handles.{are_closed, failed_if, handles_begun, handles_settled, no_handles, value_returned}
use Rattle.tds_state.specs.Hearing.{Heard, Unread, Nothing, Recovery, States, Value, Transaction, ResetDone, Done, Returned, Failed}
use Rattle.tds_state.specs.KeptBytes.{no_bytes_kept}
use Rattle.tds_state.specs.Ledgers.{Ledger, back_if, begun_if, is_home, may_add, may_begin, no_values, value_noted, value_taken_in}
use Rattle.tds_state.specs.States.{Listed, OneState}

-- nothing was said: the login's answer is due
abbrev pub session_at_login : Session
session_at_login = record {
  is_login = true;
  is_acknowledged = false;
  is_lost = false;
  is_recoverable = true;
  is_pinned = false;
  awaits = false;
  transaction = 0;
  owed = None;
  flight = Asked;
  asked = record { kind = Other; head = no_bytes_kept 1024; letters = 0 };
  states = no_values 7168;
  changes = no_values 1024;
  handles = no_handles;
}

-- ---- A request (MS-TDS 2.2.3.1.2 on resets)

abbrev pub is_full_reset : Option Reset → Bool
is_full_reset None = false
is_full_reset (Some Full) = true
is_full_reset (Some KeepTransaction) = false

abbrev pub keeps_open : Option Reset → Bool
keeps_open None = false
keeps_open (Some Full) = false
keeps_open (Some KeepTransaction) = true

-- What may have been made that isn't told stays up to a full reset. The request that asks for that comes behind it.
abbrev pub pinned_by : Option Reset → Session → Bool
pinned_by reset s = not (is_full_reset reset) && (s.is_pinned || may_make_handles s.asked)

abbrev pub reset_owed_by : Option Reset → Option Reset → Option Reset
reset_owed_by None owed = owed
reset_owed_by (Some reset) owed = Some reset

abbrev pub is_quiet : Flight → Bool
is_quiet Quiet = true
is_quiet Asked = false
is_quiet Cancelled = false
is_quiet Stopped = false

abbrev pub session_asked : Session → Request → Option Reset → Session
session_asked s kind reset = record s {
  is_login = false;
  is_pinned = pinned_by reset s;
  owed = reset_owed_by reset s.owed;
  flight = Asked;
  asked = request_begun s.asked kind;
  handles = handles_begun (is_full_reset reset) (is_quiet s.flight) (asked_call s.asked) s.handles;
}

-- bytes of its body
abbrev pub session_sent : Session → List ℕ → Session
session_sent s bytes = record s { asked = with_body s.asked bytes }

-- it is cancelled
abbrev pub session_cancelled : Session → Session
session_cancelled s = record s { is_pinned = is_call s.asked.kind || s.is_pinned; flight = Cancelled }

-- ---- A token of an answer

-- the initial states come once, in the login's answer
abbrev pub accepts_states : Session → List ℕ → Bool
accepts_states s states = (s.is_login && not s.is_acknowledged) && may_begin s.states states

abbrev pub recovery_told : Session → List ℕ → Session
recovery_told s states = record s {
  is_acknowledged = accepts_states s states || s.is_acknowledged;
  is_lost = not (accepts_states s states) || s.is_lost;
  states = begun_if (s.is_login && not s.is_acknowledged) s.states states;
}

-- states, one behind the other
unfoldable pub all_noted : Ledger → Bool → List OneState → Ledger
all_noted l is_recoverable [] = l
all_noted l is_recoverable (s ∷ others) = all_noted (value_noted l is_recoverable s.id s.value) is_recoverable others

abbrev pub states_told : Session → Bool → Listed → Session
states_told s is_recoverable all = record s {
  is_lost = not all.is_whole || s.is_lost;
  is_recoverable = is_recoverable;
  states = all_noted s.states is_recoverable all.states;
}

-- what is told at the login is what the session begins with
abbrev pub value_told : Session → ℕ → List ℕ → Session
value_told s type value = record s {
  is_lost = (s.is_login && not (may_add s.changes value)) || s.is_lost;
  changes = value_taken_in s.is_login s.changes type value;
}

abbrev pub transaction_left : Bool → ℕ → ℕ
transaction_left true transaction = 0
transaction_left false transaction = transaction

-- the reset that is owed is done
abbrev pub reset_done_told : Session → Session
reset_done_told s = record s {
  is_recoverable = is_full_reset s.owed || s.is_recoverable;
  is_pinned = keeps_open s.owed || s.is_pinned;
  transaction = transaction_left (is_full_reset s.owed) s.transaction;
  owed = None;
  states = back_if (is_full_reset s.owed) s.states;
  changes = back_if (is_full_reset s.owed) s.changes;
}

-- an attention is acknowledged (2.2.7.6)
abbrev pub flight_stopped : Bool → Flight → Flight
flight_stopped is_stop Quiet = Quiet
flight_stopped is_stop Asked = Asked
flight_stopped is_stop Cancelled = if is_stop then Stopped else Cancelled
flight_stopped is_stop Stopped = Stopped

-- another call follows in the same message (2.2.7.7)
abbrev pub is_followed : ℕ → ℕ → Bool
is_followed kind status = (kind == 0xFE) && (status / 128 % 2 == 1)

-- it ends in an error (2.2.7.6)
abbrev pub ends_in_error : ℕ → Bool
ends_in_error status = (status / 2 % 2 == 1) || (status / 256 % 2 == 1)

abbrev pub done_told : Session → ℕ → ℕ → Session
done_told s kind status = record s {
  is_pinned = is_followed kind status || s.is_pinned;
  flight = flight_stopped (status / 32 % 2 == 1) s.flight;
  handles = failed_if (ends_in_error status) s.handles;
}

abbrev pub session_told : Session → Heard → Session
session_told s Unread = record s { is_lost = true }
session_told s Nothing = s
session_told s (Recovery states) = recovery_told s states
session_told s (States is_recoverable all) = states_told s is_recoverable all
session_told s (Value type value) = value_told s type value
session_told s (Transaction descriptor) = record s { transaction = descriptor }
session_told s ResetDone = reset_done_told s
session_told s (Done kind status) = done_told s kind status
session_told s (Returned value) = record s { handles = value_returned value s.handles }
session_told s Failed = record s { handles = failed_if true s.handles }

-- ---- The end of a message of the server's

abbrev pub ended_flight : Flight → Flight
ended_flight Quiet = Quiet
ended_flight Asked = Quiet
ended_flight Cancelled = Cancelled
ended_flight Stopped = Quiet

-- behind a cancelled request, one whole answer more
abbrev pub awaits_by : Flight → Bool → Bool
awaits_by Quiet awaits = awaits
awaits_by Asked awaits = false
awaits_by Cancelled awaits = awaits
awaits_by Stopped awaits = true

-- the answer that was due is whole: what its call makes or closes counts now
abbrev pub flight_settled : Flight → Call → Handles → Handles
flight_settled Quiet call h = h
flight_settled Asked call h = handles_settled call h
flight_settled Cancelled call h = h
flight_settled Stopped call h = h

abbrev pub session_ended : Session → Session
session_ended s = record s {
  flight = ended_flight s.flight;
  awaits = awaits_by s.flight s.awaits;
  handles = flight_settled s.flight (asked_call s.asked) s.handles;
}

-- ---- Whether it rests

abbrev pub is_owed : Option Reset → Bool
is_owed None = false
is_owed (Some reset) = true

-- the server tells its states, and each is as the login found it
abbrev pub is_told_home : Session → Bool
is_told_home s = s.is_acknowledged && (not s.is_lost && (s.is_recoverable && (is_home s.states && is_home s.changes)))

-- no transaction, no reset to come, no handle, nothing that isn't told
abbrev pub has_nothing_open : Session → Bool
has_nothing_open s =
    (s.transaction == 0) && (not (is_owed s.owed) && (not s.is_pinned && (not (may_make_handles s.asked) && are_closed s.handles)))

-- no answer is due, and nothing that belongs to the last request
abbrev pub has_nothing_due : Session → Bool
has_nothing_due s = is_quiet s.flight && (not s.awaits && nat_lt s.asked.letters 8)

abbrev pub session_rests : Session → Bool
session_rests s = is_told_home s && (has_nothing_open s && has_nothing_due s)
