-- Why a session doesn't rest: the first reason that holds.
use Rattle.std.specs.Prelude.{ℕ, ◌==◌, ◌||◌, not, nat_lt, Bool, true, false, Option, Some, None, if◌then◌else◌}
use Rattle.tds_state.specs.declared.reasons.Reason.{Reason}
use Rattle.tds_state.specs.declared.reasons.Reason.TheVariants as reasons
use Rattle.tds_state.specs.declared.session.Session.{Session}
use Rattle.tds_state.specs.Asking.{may_make_handles}
use Rattle.tds_state.specs.Handles.{are_closed}
use Rattle.tds_state.specs.Ledgers.{first_astray}
use Rattle.tds_state.specs.Sessions.{is_owed, is_quiet}

abbrev pub is_no_reason : Option Reason → Bool
is_no_reason None = true
is_no_reason (Some reason) = false

abbrev pub first_reason : Option Reason → Option Reason → Option Reason
first_reason (Some reason) other = Some reason
first_reason None other = other

-- the lowest number of a state, or of a change, that isn't as the login found it
abbrev pub reason_of_state : Option ℕ → Option Reason
reason_of_state None = None
reason_of_state (Some id) = Some (reasons.State id)

abbrev pub reason_of_change : Option ℕ → Option Reason
reason_of_change None = None
reason_of_change (Some kind) = Some (reasons.Change kind)

-- what the server doesn't tell, or what isn't as the login found it
abbrev pub reason_astray : Session → Option Reason
reason_astray s =
    if not s.is_acknowledged then Some reasons.NoRecovery
    else if s.is_lost then Some reasons.Unread
    else if not s.is_recoverable then Some (reasons.Unrecoverable (first_astray s.states))
    else first_reason (reason_of_state (first_astray s.states)) (reason_of_change (first_astray s.changes))

-- what is open
abbrev pub reason_open : Session → Option Reason
reason_open s =
    if not (s.transaction == 0) then Some reasons.Transaction
    else if is_owed s.owed then Some reasons.Reset
    else if s.is_pinned || may_make_handles s.asked then Some reasons.Untold
    else if not (are_closed s.handles) then Some reasons.Handle
    else None

-- what is due, and what belongs to the last request
abbrev pub reason_due : Session → Option Reason
reason_due s =
    if not (is_quiet s.flight) then Some reasons.Answer
    else if s.awaits then Some reasons.Cancel
    else if not (nat_lt s.asked.letters 8) then Some reasons.Bulk
    else None

abbrev pub session_reason : Session → Option Reason
session_reason s = first_reason (reason_astray s) (first_reason (reason_open s) (reason_due s))

-- a watch that is lost doesn't rest
abbrev pub reason_watched : Bool → Session → Option Reason
reason_watched is_lost s = if is_lost then Some reasons.Unread else session_reason s
