-- What calls made and closed, by their answers, since a full reset was asked for: a handle's number, and how often it is open.
use Rattle.std.specs.Prelude.{◌≡◌, ◌<◌, ℕ, suc, ◌-◌, ◌==◌, ◌&&◌, ◌||◌, not, Bool, true, false, List, [], ◌∷◌, ◌++◌, take, Option, Some, None, if◌then◌else◌}
use Rattle.tds_packet.specs.declared.status.Reset.{Reset}
use Rattle.tds_packet.specs.declared.status.Reset.TheVariants.{Full, KeepTransaction}
use Rattle.tds_state.specs.declared.asked.Call.{Call}
use Rattle.tds_state.specs.declared.asked.Call.TheVariants as calls
use Rattle.tds_state.specs.declared.handles.Returned as answers
use Rattle.tds_state.specs.declared.handles.Returned.TheVariants as values
use Rattle.tds_state.specs.Asking.{call_by}
use Rattle.tds_state.specs.Handles.{is_counted, returned_behind}
use Rattle.tds_state.specs.Hearing.{Returned, Failed, Done}
use Rattle.tds_state.specs.Pasts.{Remark, Begins, Goes, Cancels, Tells, Ends, newest_kind}
use Rattle.tds_state.specs.Sessions.{ends_in_error}

-- ---- The newest request and its answer

unfoldable pub newest_body : List Remark → List ℕ
newest_body [] = []
newest_body (Begins kind reset ∷ past) = []
newest_body (Goes bytes ∷ past) = newest_body past ++ bytes
newest_body (r ∷ past) = newest_body past

-- of a call, 1,024 bytes count
abbrev pub newest_call : List Remark → Call
newest_call past = call_by (newest_kind past) (take 1024 (newest_body past))

-- what RETURNVALUE told since it began
unfoldable pub newest_returned : List Remark → answers.Returned
newest_returned [] = values.Nothing
newest_returned (Begins kind reset ∷ past) = values.Nothing
newest_returned (Tells (Returned value) ∷ past) = returned_behind (newest_returned past) value
newest_returned (r ∷ past) = newest_returned past

-- an ERROR was told, or a DONE that ends in one
unfoldable pub newest_has_failed : List Remark → Bool
newest_has_failed [] = false
newest_has_failed (Begins kind reset ∷ past) = false
newest_has_failed (Tells Failed ∷ past) = true
newest_has_failed (Tells (Done kind status) ∷ past) = ends_in_error status || newest_has_failed past
newest_has_failed (r ∷ past) = newest_has_failed past

-- no message has ended since it began, or the connection, and it wasn't cancelled
unfoldable pub answer_is_due : List Remark → Bool
answer_is_due [] = true
answer_is_due (Begins kind reset ∷ past) = true
answer_is_due (Cancels ∷ past) = false
answer_is_due (Ends ∷ past) = false
answer_is_due (r ∷ past) = answer_is_due past

-- ---- How often a number is open

abbrev pub one_more_if : Bool → ℕ → ℕ
one_more_if true times = suc times
one_more_if false times = times

abbrev pub one_less_if : Bool → ℕ → ℕ
one_less_if true times = times - 1
one_less_if false times = times

-- a call that prepares is returned it
abbrev pub opened_by : answers.Returned → ℕ → ℕ → ℕ
opened_by values.Nothing n times = times
opened_by (values.One m) n times = one_more_if (m == n) times
opened_by values.Unclear n times = times

-- a call that unprepares names it, and hasn't failed
abbrev pub closed_times : Bool → ℕ → ℕ → ℕ → ℕ
closed_times true m n times = times
closed_times false m n times = one_less_if (m == n) times

abbrev pub times_behind : Call → answers.Returned → Bool → ℕ → ℕ → ℕ
times_behind calls.Harmless returned has_failed n times = times
times_behind calls.Prepares returned has_failed n times = opened_by returned n times
times_behind (calls.Unprepares m) returned has_failed n times = closed_times has_failed m n times
times_behind calls.Unknown returned has_failed n times = times

abbrev pub times_if : Bool → ℕ → ℕ → ℕ
times_if true behind before = behind
times_if false behind before = before

-- behind an answer's end
unfoldable pub times_open : ℕ → List Remark → ℕ
times_open n [] = 0
times_open n (Begins kind (Some Full) ∷ past) = 0
times_open n (Ends ∷ past) =
    times_if (answer_is_due past) (times_behind (newest_call past) (newest_returned past) (newest_has_failed past) n (times_open n past)) (times_open n past)
times_open n (r ∷ past) = times_open n past

-- ---- What isn't clear: a call that prepares was returned nothing, 0, or what is no number of four bytes; one unprepared what wasn't open; of a
-- request that began before the last answer's end, this one, or a call that it overtook or that came behind it, prepares or unprepares

-- a request began before the last answer's end
unfoldable pub has_overlap : List Remark → Bool
has_overlap [] = false
has_overlap (Begins kind (Some Full) ∷ past) = answer_is_due past
has_overlap (Begins kind reset ∷ past) = answer_is_due past || has_overlap past
has_overlap (r ∷ past) = has_overlap past

abbrev pub is_no_handle : answers.Returned → Bool
is_no_handle values.Nothing = true
is_no_handle (values.One m) = m == 0
is_no_handle values.Unclear = true

abbrev pub is_unclear_by : Call → answers.Returned → (ℕ → ℕ) → Bool
is_unclear_by calls.Harmless returned times = false
is_unclear_by calls.Prepares returned times = is_no_handle returned
is_unclear_by (calls.Unprepares m) returned times = times m == 0
is_unclear_by calls.Unknown returned times = false

unfoldable pub was_unclear : List Remark → Bool
was_unclear [] = false
was_unclear (Begins kind (Some Full) ∷ past) = answer_is_due past && is_counted (newest_call past)
was_unclear (Begins kind reset ∷ past) = (answer_is_due past && is_counted (newest_call past)) || was_unclear past
was_unclear (Ends ∷ past) =
    (answer_is_due past && (is_counted (newest_call past) && has_overlap past))
    || ((answer_is_due past && is_unclear_by (newest_call past) (newest_returned past) (λ (n : ℕ). times_open n past)) || was_unclear past)
was_unclear (r ∷ past) = was_unclear past
