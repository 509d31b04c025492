-- Calls that were asked, and the newest request.
use Rattle.std.proofs.Common.{◌≡◌, ◌∙◌, ◌≤◌, ℕ, Bool, true, false, List, [], ◌∷◌, ◌++◌, length, take, refl, sym, ap, arith, Some, None, append_assoc}
use Rattle.std.proofs.lemmas.Bool.{false≢true, and_from, not-false}
use Rattle.std.specs.Prelude.{◌||◌, ◌==◌, ◌/◌, ◌%◌}
use Rattle.std.proofs.lemmas.List.{append-nil, length-append, length-take, take_all}
use Rattle.tds_packet.specs.declared.status.Reset.TheVariants.{Full, KeepTransaction}
use Rattle.tds_state.specs.declared.asked.Asked.{Asked}
use Rattle.tds_state.specs.declared.asked.Request.{Request}
use Rattle.tds_state.specs.declared.asked.Request.TheVariants.{Batch, Procedure, Other}
use Rattle.tds_state.specs.Hearing.{Unread, Nothing, Recovery, States, Value, Transaction, ResetDone, Done, Returned, Failed}
use Rattle.tds_state.specs.Asking.{procedure_call, is_call, is_known_call, makes_by, may_make_handles, body_sent_by}
use Rattle.tds_state.specs.Pasts.{Remark, Begins, Goes, Cancels, Tells, Ends, are_harmless, answer_has_ended, newest_is_cancelled, newest_kind, session_said, was_call_cancelled}
use Rattle.tds_state.specs.Sessions.{awaits_by, ended_flight, is_followed, is_quiet, keeps_open, flight_stopped}
use Rattle.tds_state.specs.declared.session.Flight.{Flight}
use Rattle.tds_state.specs.declared.session.Flight.TheVariants as flights
use Rattle.tds_state.proofs.Bools.{is_not, neither}
use Rattle.tds_state.proofs.KeptBytes.{take_front}

-- ---- A request's kind and its first bytes

sent_kind : (kind : Request) (a : Asked) (bytes : List ℕ) → (body_sent_by kind a bytes).kind ≡ a.kind
sent_kind Batch a bytes = refl
sent_kind Procedure a bytes = refl
sent_kind Other a bytes = refl

pub kind_asked : (past : List Remark) → (session_said past).asked.kind ≡ newest_kind past
unfolding session_said newest_kind
kind_asked [] = refl
kind_asked (Begins kind None ∷ past) = refl
kind_asked (Begins kind (Some Full) ∷ past) = refl
kind_asked (Begins kind (Some KeepTransaction) ∷ past) = refl
kind_asked (Goes bytes ∷ past) = sent_kind (session_said past).asked.kind (session_said past).asked bytes ∙ kind_asked past
kind_asked (Cancels ∷ past) = kind_asked past
kind_asked (Tells Unread ∷ past) = kind_asked past
kind_asked (Tells Nothing ∷ past) = kind_asked past
kind_asked (Tells (Returned value) ∷ past) = kind_asked past
kind_asked (Tells Failed ∷ past) = kind_asked past
kind_asked (Tells (Recovery states) ∷ past) = kind_asked past
kind_asked (Tells (States ok all) ∷ past) = kind_asked past
kind_asked (Tells (Value type value) ∷ past) = kind_asked past
kind_asked (Tells (Transaction descriptor) ∷ past) = kind_asked past
kind_asked (Tells ResetDone ∷ past) = kind_asked past
kind_asked (Tells (Done kind status) ∷ past) = kind_asked past
kind_asked (Ends ∷ past) = kind_asked past

pub no_call_cancelled : (past : List Remark) → (session_said past).is_pinned ≡ false → was_call_cancelled past ≡ false
unfolding session_said was_call_cancelled
no_call_cancelled [] h = refl
no_call_cancelled (Begins kind None ∷ past) h = no_call_cancelled past (neither (session_said past).is_pinned (may_make_handles (session_said past).asked) h).0
no_call_cancelled (Begins kind (Some Full) ∷ past) h = refl
no_call_cancelled (Begins kind (Some KeepTransaction) ∷ past) h = no_call_cancelled past (neither (session_said past).is_pinned (may_make_handles (session_said past).asked) h).0
no_call_cancelled (Goes bytes ∷ past) h = no_call_cancelled past h
no_call_cancelled (Cancels ∷ past) h =
    let parts = neither (is_call (session_said past).asked.kind) (session_said past).is_pinned h in
    ap (λ (k : Request). is_call k || was_call_cancelled past) (sym (kind_asked past)) ∙ (ap (λ (b : Bool). b || was_call_cancelled past) parts.0 ∙ no_call_cancelled past parts.1)
no_call_cancelled (Tells Unread ∷ past) h = no_call_cancelled past h
no_call_cancelled (Tells Nothing ∷ past) h = no_call_cancelled past h
no_call_cancelled (Tells (Returned value) ∷ past) h = no_call_cancelled past h
no_call_cancelled (Tells Failed ∷ past) h = no_call_cancelled past h
no_call_cancelled (Tells (Recovery states) ∷ past) h = no_call_cancelled past h
no_call_cancelled (Tells (States ok all) ∷ past) h = no_call_cancelled past h
no_call_cancelled (Tells (Value type value) ∷ past) h = no_call_cancelled past h
no_call_cancelled (Tells (Transaction descriptor) ∷ past) h = no_call_cancelled past h
no_call_cancelled (Tells ResetDone ∷ past) h = no_call_cancelled past (neither (keeps_open (session_said past).owed) (session_said past).is_pinned h).1
no_call_cancelled (Tells (Done kind status) ∷ past) h = no_call_cancelled past (neither (is_followed kind status) (session_said past).is_pinned h).1
no_call_cancelled (Ends ∷ past) h = no_call_cancelled past h

-- ---- Each call is harmless

-- what came of the newest request, with more of it, may make no handle
abbrev IsHarmlessWith : Asked → List ℕ → Type 0
IsHarmlessWith a more = makes_by a.kind (take 1024 (a.head.bytes ++ more)) ≡ false

sent_most : (kind : Request) (a : Asked) (bytes : List ℕ) → (body_sent_by kind a bytes).head.most ≡ a.head.most
sent_most Batch a bytes = refl
sent_most Procedure a bytes = refl
sent_most Other a bytes = refl

pub name_room : (past : List Remark) → (session_said past).asked.head.most ≡ 1024
unfolding session_said
name_room [] = refl
name_room (Begins kind None ∷ past) = name_room past
name_room (Begins kind (Some Full) ∷ past) = name_room past
name_room (Begins kind (Some KeepTransaction) ∷ past) = name_room past
name_room (Goes bytes ∷ past) = sent_most (session_said past).asked.kind (session_said past).asked bytes ∙ name_room past
name_room (Cancels ∷ past) = name_room past
name_room (Tells Unread ∷ past) = name_room past
name_room (Tells Nothing ∷ past) = name_room past
name_room (Tells (Returned value) ∷ past) = name_room past
name_room (Tells Failed ∷ past) = name_room past
name_room (Tells (Recovery states) ∷ past) = name_room past
name_room (Tells (States ok all) ∷ past) = name_room past
name_room (Tells (Value type value) ∷ past) = name_room past
name_room (Tells (Transaction descriptor) ∷ past) = name_room past
name_room (Tells ResetDone ∷ past) = name_room past
name_room (Tells (Done kind status) ∷ past) = name_room past
name_room (Ends ∷ past) = name_room past

sent_with : (kind : Request) (a : Asked) (bytes more : List ℕ) → a.kind ≡ kind → a.head.most ≡ 1024
    → makes_by (body_sent_by kind a bytes).kind (take 1024 ((body_sent_by kind a bytes).head.bytes ++ more)) ≡ false → makes_by kind (take 1024 (a.head.bytes ++ (bytes ++ more))) ≡ false
sent_with Batch a bytes more is room h = refl
sent_with Procedure a bytes more is room h =
    ap (makes_by Procedure) (sym (
    ap (λ (n : ℕ). take 1024 (take n (a.head.bytes ++ bytes) ++ more)) room
    ∙ (take_front 1024 (a.head.bytes ++ bytes) more ∙ ap (take 1024) (append_assoc a.head.bytes bytes more))))
    ∙ (sym (ap (λ (k : Request). makes_by k (take 1024 (take a.head.most (a.head.bytes ++ bytes) ++ more))) is) ∙ h)
sent_with Other a bytes more is room h = refl

sent_short : (kind : Request) (a : Asked) (bytes : List ℕ) → a.head.most ≡ 1024 → length a.head.bytes ≤ 1024 → length (body_sent_by kind a bytes).head.bytes ≤ 1024
sent_short Batch a bytes room short = short
sent_short Procedure a bytes room short = omega (arith, room, length-take a.head.most (a.head.bytes ++ bytes))
sent_short Other a bytes room short = short

pub name_short : (past : List Remark) → length (session_said past).asked.head.bytes ≤ 1024
unfolding session_said
name_short [] = omega arith
name_short (Begins kind None ∷ past) = omega arith
name_short (Begins kind (Some Full) ∷ past) = omega arith
name_short (Begins kind (Some KeepTransaction) ∷ past) = omega arith
name_short (Goes bytes ∷ past) = sent_short (session_said past).asked.kind (session_said past).asked bytes (name_room past) (name_short past)
name_short (Cancels ∷ past) = name_short past
name_short (Tells Unread ∷ past) = name_short past
name_short (Tells Nothing ∷ past) = name_short past
name_short (Tells (Returned value) ∷ past) = name_short past
name_short (Tells Failed ∷ past) = name_short past
name_short (Tells (Recovery states) ∷ past) = name_short past
name_short (Tells (States ok all) ∷ past) = name_short past
name_short (Tells (Value type value) ∷ past) = name_short past
name_short (Tells (Transaction descriptor) ∷ past) = name_short past
name_short (Tells ResetDone ∷ past) = name_short past
name_short (Tells (Done kind status) ∷ past) = name_short past
name_short (Ends ∷ past) = name_short past

harmless_whole : (a : Asked) → length a.head.bytes ≤ 1024 → may_make_handles a ≡ false → IsHarmlessWith a []
harmless_whole a short h =
    let few : length (a.head.bytes ++ []) ≤ 1024 = omega (arith, short, length-append a.head.bytes []) in
    ap (makes_by a.kind) (take_all 1024 (a.head.bytes ++ []) few ∙ append-nil a.head.bytes) ∙ h

pub calls_harmless : (more : List ℕ) (past : List Remark) → (session_said past).is_pinned ≡ false → IsHarmlessWith (session_said past).asked more → are_harmless more past ≡ true
unfolding session_said are_harmless
calls_harmless more [] h m = refl
calls_harmless more (Begins Batch None ∷ past) h m =
    let parts = neither (session_said past).is_pinned (may_make_handles (session_said past).asked) h in
    calls_harmless [] past parts.0 (harmless_whole (session_said past).asked (name_short past) parts.1)
calls_harmless more (Begins Batch (Some Full) ∷ past) h m = refl
calls_harmless more (Begins Batch (Some KeepTransaction) ∷ past) h m =
    let parts = neither (session_said past).is_pinned (may_make_handles (session_said past).asked) h in
    calls_harmless [] past parts.0 (harmless_whole (session_said past).asked (name_short past) parts.1)
calls_harmless more (Begins Procedure None ∷ past) h m =
    let parts = neither (session_said past).is_pinned (may_make_handles (session_said past).asked) h in
    and_from (is_known_call (procedure_call (take 1024 more))) (are_harmless [] past) (not-false (is_known_call (procedure_call (take 1024 more))) m) (calls_harmless [] past parts.0 (harmless_whole (session_said past).asked (name_short past) parts.1))
calls_harmless more (Begins Procedure (Some Full) ∷ past) h m = not-false (is_known_call (procedure_call (take 1024 more))) m
calls_harmless more (Begins Procedure (Some KeepTransaction) ∷ past) h m =
    let parts = neither (session_said past).is_pinned (may_make_handles (session_said past).asked) h in
    and_from (is_known_call (procedure_call (take 1024 more))) (are_harmless [] past) (not-false (is_known_call (procedure_call (take 1024 more))) m) (calls_harmless [] past parts.0 (harmless_whole (session_said past).asked (name_short past) parts.1))
calls_harmless more (Begins Other None ∷ past) h m =
    let parts = neither (session_said past).is_pinned (may_make_handles (session_said past).asked) h in
    calls_harmless [] past parts.0 (harmless_whole (session_said past).asked (name_short past) parts.1)
calls_harmless more (Begins Other (Some Full) ∷ past) h m = refl
calls_harmless more (Begins Other (Some KeepTransaction) ∷ past) h m =
    let parts = neither (session_said past).is_pinned (may_make_handles (session_said past).asked) h in
    calls_harmless [] past parts.0 (harmless_whole (session_said past).asked (name_short past) parts.1)
calls_harmless more (Goes bytes ∷ past) h m = calls_harmless (bytes ++ more) past h (sent_with (session_said past).asked.kind (session_said past).asked bytes more refl (name_room past) m)
calls_harmless more (Cancels ∷ past) h m = calls_harmless more past (neither (is_call (session_said past).asked.kind) (session_said past).is_pinned h).1 m
calls_harmless more (Tells Unread ∷ past) h m = calls_harmless more past h m
calls_harmless more (Tells Nothing ∷ past) h m = calls_harmless more past h m
calls_harmless more (Tells (Returned value) ∷ past) h m = calls_harmless more past h m
calls_harmless more (Tells Failed ∷ past) h m = calls_harmless more past h m
calls_harmless more (Tells (Recovery states) ∷ past) h m = calls_harmless more past h m
calls_harmless more (Tells (States ok all) ∷ past) h m = calls_harmless more past h m
calls_harmless more (Tells (Value type value) ∷ past) h m = calls_harmless more past h m
calls_harmless more (Tells (Transaction descriptor) ∷ past) h m = calls_harmless more past h m
calls_harmless more (Tells ResetDone ∷ past) h m = calls_harmless more past (neither (keeps_open (session_said past).owed) (session_said past).is_pinned h).1 m
calls_harmless more (Tells (Done kind status) ∷ past) h m = calls_harmless more past (neither (is_followed kind status) (session_said past).is_pinned h).1 m
calls_harmless more (Ends ∷ past) h m = calls_harmless more past h m

pub each_harmless : (past : List Remark) → (session_said past).is_pinned ≡ false → may_make_handles (session_said past).asked ≡ false → are_harmless [] past ≡ true
each_harmless past h m = calls_harmless [] past h (harmless_whole (session_said past).asked (name_short past) m)

-- ---- The newest request has been answered

unstopped : (is_stop : Bool) (f : Flight) → is_quiet (flight_stopped is_stop f) ≡ true → is_quiet f ≡ true
unstopped is_stop flights.Quiet h = h
unstopped is_stop flights.Asked h = h
unstopped true flights.Cancelled h = h
unstopped false flights.Cancelled h = h
unstopped is_stop flights.Stopped h = h

pub answer_ended : (past : List Remark) → is_quiet (session_said past).flight ≡ true → answer_has_ended past ≡ true
unfolding session_said answer_has_ended
answer_ended [] h = absurd (false≢true h)
answer_ended (Begins kind None ∷ past) h = absurd (false≢true h)
answer_ended (Begins kind (Some Full) ∷ past) h = absurd (false≢true h)
answer_ended (Begins kind (Some KeepTransaction) ∷ past) h = absurd (false≢true h)
answer_ended (Goes bytes ∷ past) h = answer_ended past h
answer_ended (Cancels ∷ past) h = absurd (false≢true h)
answer_ended (Tells Unread ∷ past) h = answer_ended past h
answer_ended (Tells Nothing ∷ past) h = answer_ended past h
answer_ended (Tells (Returned value) ∷ past) h = answer_ended past h
answer_ended (Tells Failed ∷ past) h = answer_ended past h
answer_ended (Tells (Recovery states) ∷ past) h = answer_ended past h
answer_ended (Tells (States ok all) ∷ past) h = answer_ended past h
answer_ended (Tells (Value type value) ∷ past) h = answer_ended past h
answer_ended (Tells (Transaction descriptor) ∷ past) h = answer_ended past h
answer_ended (Tells ResetDone ∷ past) h = answer_ended past h
answer_ended (Tells (Done kind status) ∷ past) h = answer_ended past (unstopped (status / 32 % 2 == 1) (session_said past).flight h)
answer_ended (Ends ∷ past) h = refl

-- a cancel isn't over: it is acknowledged and one whole answer more has come only then
abbrev stopping : Flight → Bool → Bool
stopping flights.Quiet awaits = awaits
stopping flights.Asked awaits = false
stopping flights.Cancelled awaits = true
stopping flights.Stopped awaits = true

stops_on : (is_stop : Bool) (f : Flight) (awaits : Bool) → stopping f awaits ≡ true → stopping (flight_stopped is_stop f) awaits ≡ true
stops_on is_stop flights.Quiet awaits h = h
stops_on is_stop flights.Asked awaits h = h
stops_on true flights.Cancelled awaits h = refl
stops_on false flights.Cancelled awaits h = refl
stops_on is_stop flights.Stopped awaits h = refl

stops_behind : (f : Flight) (awaits : Bool) → stopping f awaits ≡ true → stopping (ended_flight f) (awaits_by f awaits) ≡ true
stops_behind flights.Quiet awaits h = h
stops_behind flights.Asked awaits h = h
stops_behind flights.Cancelled awaits h = refl
stops_behind flights.Stopped awaits h = refl

pub cancel_stops : (past : List Remark) → newest_is_cancelled past ≡ true → stopping (session_said past).flight (session_said past).awaits ≡ true
unfolding session_said newest_is_cancelled
cancel_stops [] h = absurd (false≢true h)
cancel_stops (Begins kind None ∷ past) h = absurd (false≢true h)
cancel_stops (Begins kind (Some Full) ∷ past) h = absurd (false≢true h)
cancel_stops (Begins kind (Some KeepTransaction) ∷ past) h = absurd (false≢true h)
cancel_stops (Goes bytes ∷ past) h = cancel_stops past h
cancel_stops (Cancels ∷ past) h = refl
cancel_stops (Tells Unread ∷ past) h = cancel_stops past h
cancel_stops (Tells Nothing ∷ past) h = cancel_stops past h
cancel_stops (Tells (Returned value) ∷ past) h = cancel_stops past h
cancel_stops (Tells Failed ∷ past) h = cancel_stops past h
cancel_stops (Tells (Recovery states) ∷ past) h = cancel_stops past h
cancel_stops (Tells (States ok all) ∷ past) h = cancel_stops past h
cancel_stops (Tells (Value type value) ∷ past) h = cancel_stops past h
cancel_stops (Tells (Transaction descriptor) ∷ past) h = cancel_stops past h
cancel_stops (Tells ResetDone ∷ past) h = cancel_stops past h
cancel_stops (Tells (Done kind status) ∷ past) h = stops_on (status / 32 % 2 == 1) (session_said past).flight (session_said past).awaits (cancel_stops past h)
cancel_stops (Ends ∷ past) h = stops_behind (session_said past).flight (session_said past).awaits (cancel_stops past h)

quiet_awaits : (f : Flight) (awaits : Bool) → is_quiet f ≡ true → stopping f awaits ≡ true → awaits ≡ true
quiet_awaits flights.Quiet awaits q h = h
quiet_awaits flights.Asked awaits q h = absurd (false≢true q)
quiet_awaits flights.Cancelled awaits q h = absurd (false≢true q)
quiet_awaits flights.Stopped awaits q h = absurd (false≢true q)

pub not_cancelled : (past : List Remark) → is_quiet (session_said past).flight ≡ true → (session_said past).awaits ≡ false → newest_is_cancelled past ≡ false
not_cancelled past q a = is_not (newest_is_cancelled past) (λ c. sym a ∙ quiet_awaits (session_said past).flight (session_said past).awaits q (cancel_stops past c))
