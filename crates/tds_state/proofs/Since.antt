-- The login, resets, and what was told since one.
use Rattle.std.proofs.Common.{◌≡◌, ◌∙◌, ℕ, Bool, true, false, cond, List, [], ◌∷◌, length, refl, sym, ap, Option, Some, None, ⊎_elim}
use Rattle.std.proofs.lemmas.Bool.{false≢true, true≢false, and_parts, and_from, or_cases, not-false}
use Rattle.std.specs.Prelude.{◌&&◌, ◌||◌, not}
use Rattle.tds_packet.specs.declared.status.Reset.{Reset}
use Rattle.tds_packet.specs.declared.status.Reset.TheVariants.{Full, KeepTransaction}
use Rattle.tds_state.specs.declared.session.Session.{Session}
use Rattle.tds_state.specs.Hearing.{Unread, Nothing, Recovery, States, Value, Transaction, ResetDone, Done, Returned, Failed}
use Rattle.tds_state.specs.Asking.{is_call, may_make_handles}
use Rattle.tds_state.specs.KeptBytes.{KeptBytes, has_room, no_bytes_kept}
use Rattle.tds_state.specs.Ledgers.{Ledger, back_if, begun_with, may_add, may_begin, no_values, value_noted}
use Rattle.tds_state.specs.Pasts.{Remark, Begins, Goes, Cancels, Tells, Ends, newest_is_recoverable, owed_in, session_said, open_transaction, was_acknowledged, was_all_read, was_asked, was_followed, was_kept}
use Rattle.tds_state.specs.Sessions.{all_noted, accepts_states, is_followed, is_full_reset, keeps_open, transaction_left}
use Rattle.tds_state.specs.States.{OneState, states_listed}
use Rattle.tds_state.proofs.Bools.{neither, or_left, or_right}

pub at_login : (past : List Remark) → (session_said past).is_login ≡ not (was_asked past)
unfolding session_said was_asked
at_login [] = refl
at_login (Begins kind None ∷ past) = refl
at_login (Begins kind (Some Full) ∷ past) = refl
at_login (Begins kind (Some KeepTransaction) ∷ past) = refl
at_login (Goes bytes ∷ past) = at_login past
at_login (Cancels ∷ past) = at_login past
at_login (Tells Unread ∷ past) = at_login past
at_login (Tells Nothing ∷ past) = at_login past
at_login (Tells (Returned value) ∷ past) = at_login past
at_login (Tells Failed ∷ past) = at_login past
at_login (Tells (Recovery states) ∷ past) = at_login past
at_login (Tells (States ok all) ∷ past) = at_login past
at_login (Tells (Value type value) ∷ past) = at_login past
at_login (Tells (Transaction descriptor) ∷ past) = at_login past
at_login (Tells ResetDone ∷ past) = at_login past
at_login (Tells (Done kind status) ∷ past) = at_login past
at_login (Ends ∷ past) = at_login past

pub reset_owed : (past : List Remark) → (session_said past).owed ≡ owed_in past
unfolding session_said owed_in
reset_owed [] = refl
reset_owed (Begins kind None ∷ past) = reset_owed past
reset_owed (Begins kind (Some Full) ∷ past) = refl
reset_owed (Begins kind (Some KeepTransaction) ∷ past) = refl
reset_owed (Goes bytes ∷ past) = reset_owed past
reset_owed (Cancels ∷ past) = reset_owed past
reset_owed (Tells Unread ∷ past) = reset_owed past
reset_owed (Tells Nothing ∷ past) = reset_owed past
reset_owed (Tells (Returned value) ∷ past) = reset_owed past
reset_owed (Tells Failed ∷ past) = reset_owed past
reset_owed (Tells (Recovery states) ∷ past) = reset_owed past
reset_owed (Tells (States ok all) ∷ past) = reset_owed past
reset_owed (Tells (Value type value) ∷ past) = reset_owed past
reset_owed (Tells (Transaction descriptor) ∷ past) = reset_owed past
reset_owed (Tells ResetDone ∷ past) = refl
reset_owed (Tells (Done kind status) ∷ past) = reset_owed past
reset_owed (Ends ∷ past) = reset_owed past

-- ---- The room for states stays

begun_most : (b : Bool) (l : Ledger) (states : List ℕ) → (cond b (begun_with l states) l).initial.most ≡ l.initial.most
begun_most true l states = refl
begun_most false l states = refl

back_most : (b : Bool) (l : Ledger) → (back_if b l).initial ≡ l.initial
back_most true l = refl
back_most false l = refl

pub noted_initial : (l : Ledger) (ok : Bool) (states : List OneState) → (all_noted l ok states).initial ≡ l.initial
unfolding all_noted
noted_initial l ok [] = refl
noted_initial l ok (s ∷ others) = noted_initial (value_noted l ok s.id s.value) ok others

pub room_stays : (past : List Remark) → (session_said past).states.initial.most ≡ 7168
unfolding session_said
room_stays [] = refl
room_stays (Begins kind None ∷ past) = room_stays past
room_stays (Begins kind (Some Full) ∷ past) = room_stays past
room_stays (Begins kind (Some KeepTransaction) ∷ past) = room_stays past
room_stays (Goes bytes ∷ past) = room_stays past
room_stays (Cancels ∷ past) = room_stays past
room_stays (Tells Unread ∷ past) = room_stays past
room_stays (Tells Nothing ∷ past) = room_stays past
room_stays (Tells (Returned value) ∷ past) = room_stays past
room_stays (Tells Failed ∷ past) = room_stays past
room_stays (Tells (Recovery states) ∷ past) = begun_most (((session_said past).is_login && not (session_said past).is_acknowledged) && may_begin (session_said past).states states) (session_said past).states states ∙ room_stays past
room_stays (Tells (States ok all) ∷ past) = ap (λ (k : KeptBytes). k.most) (noted_initial (session_said past).states ok all.states) ∙ room_stays past
room_stays (Tells (Value type value) ∷ past) = room_stays past
room_stays (Tells (Transaction descriptor) ∷ past) = room_stays past
room_stays (Tells ResetDone ∷ past) = ap (λ (k : KeptBytes). k.most) (back_most (is_full_reset (session_said past).owed) (session_said past).states) ∙ room_stays past
room_stays (Tells (Done kind status) ∷ past) = room_stays past
room_stays (Ends ∷ past) = room_stays past

-- ---- The server tells its states

began_at_login : (s : Session) (states : List ℕ) → accepts_states s states ≡ true → s.is_login ≡ true
began_at_login s states h = (and_parts s.is_login (not s.is_acknowledged) (and_parts (s.is_login && not s.is_acknowledged) (may_begin s.states states) h).0).0

pub acknowledged : (past : List Remark) → (session_said past).is_acknowledged ≡ true → was_acknowledged past ≡ true
unfolding session_said was_acknowledged
acknowledged [] h = absurd (false≢true h)
acknowledged (Begins kind None ∷ past) h = acknowledged past h
acknowledged (Begins kind (Some Full) ∷ past) h = acknowledged past h
acknowledged (Begins kind (Some KeepTransaction) ∷ past) h = acknowledged past h
acknowledged (Goes bytes ∷ past) h = acknowledged past h
acknowledged (Cancels ∷ past) h = acknowledged past h
acknowledged (Tells Unread ∷ past) h = acknowledged past h
acknowledged (Tells Nothing ∷ past) h = acknowledged past h
acknowledged (Tells (Returned value) ∷ past) h = acknowledged past h
acknowledged (Tells Failed ∷ past) h = acknowledged past h
acknowledged (Tells (Recovery states) ∷ past) h = ⊎_elim (λ b. or_left (not (was_asked past)) (was_acknowledged past) (sym (at_login past) ∙ began_at_login (session_said past) states b)) (λ a. or_right (not (was_asked past)) (was_acknowledged past) (acknowledged past a)) (or_cases (accepts_states (session_said past) states) (session_said past).is_acknowledged h)
acknowledged (Tells (States ok all) ∷ past) h = acknowledged past h
acknowledged (Tells (Value type value) ∷ past) h = acknowledged past h
acknowledged (Tells (Transaction descriptor) ∷ past) h = acknowledged past h
acknowledged (Tells ResetDone ∷ past) h = acknowledged past h
acknowledged (Tells (Done kind status) ∷ past) h = acknowledged past h
acknowledged (Ends ∷ past) h = acknowledged past h

may_begin_by : (most : ℕ) (l : Ledger) (states : List ℕ) → l.initial.most ≡ most → may_begin l states ≡ true → may_begin (no_values most) states ≡ true
may_begin_by most l states same h = sym (ap (λ (n : ℕ). has_room (no_bytes_kept n) (length states) && (states_listed states).is_whole) same) ∙ h

pub all_read : (past : List Remark) → (session_said past).is_lost ≡ false → was_all_read past ≡ true
unfolding session_said was_all_read
all_read [] h = refl
all_read (Begins kind None ∷ past) h = all_read past h
all_read (Begins kind (Some Full) ∷ past) h = all_read past h
all_read (Begins kind (Some KeepTransaction) ∷ past) h = all_read past h
all_read (Goes bytes ∷ past) h = all_read past h
all_read (Cancels ∷ past) h = all_read past h
all_read (Tells Unread ∷ past) h = absurd (true≢false h)
all_read (Tells Nothing ∷ past) h = all_read past h
all_read (Tells (Returned value) ∷ past) h = all_read past h
all_read (Tells Failed ∷ past) h = all_read past h
all_read (Tells (Recovery states) ∷ past) h =
    let parts = neither (not (accepts_states (session_said past) states)) (session_said past).is_lost h in
    let may = (and_parts ((session_said past).is_login && not (session_said past).is_acknowledged) (may_begin (session_said past).states states) (not-false (accepts_states (session_said past) states) parts.0)).1 in
    and_from (may_begin (no_values 7168) states) (was_all_read past) (may_begin_by 7168 (session_said past).states states (room_stays past) may) (all_read past parts.1)
all_read (Tells (States ok all) ∷ past) h =
    let parts = neither (not all.is_whole) (session_said past).is_lost h in
    and_from all.is_whole (was_all_read past) (not-false all.is_whole parts.0) (all_read past parts.1)
all_read (Tells (Value type value) ∷ past) h = all_read past (neither ((session_said past).is_login && not (may_add (session_said past).changes value)) (session_said past).is_lost h).1
all_read (Tells (Transaction descriptor) ∷ past) h = all_read past h
all_read (Tells ResetDone ∷ past) h = all_read past h
all_read (Tells (Done kind status) ∷ past) h = all_read past h
all_read (Ends ∷ past) h = all_read past h

-- ---- Since the last full reset

pub recoverable : (past : List Remark) → (session_said past).is_recoverable ≡ newest_is_recoverable past
unfolding session_said newest_is_recoverable
recoverable [] = refl
recoverable (Begins kind None ∷ past) = recoverable past
recoverable (Begins kind (Some Full) ∷ past) = recoverable past
recoverable (Begins kind (Some KeepTransaction) ∷ past) = recoverable past
recoverable (Goes bytes ∷ past) = recoverable past
recoverable (Cancels ∷ past) = recoverable past
recoverable (Tells Unread ∷ past) = recoverable past
recoverable (Tells Nothing ∷ past) = recoverable past
recoverable (Tells (Returned value) ∷ past) = recoverable past
recoverable (Tells Failed ∷ past) = recoverable past
recoverable (Tells (Recovery states) ∷ past) = recoverable past
recoverable (Tells (States ok all) ∷ past) = refl
recoverable (Tells (Value type value) ∷ past) = recoverable past
recoverable (Tells (Transaction descriptor) ∷ past) = recoverable past
recoverable (Tells ResetDone ∷ past) = ap (λ (o : Option Reset). is_full_reset o || (session_said past).is_recoverable) (reset_owed past) ∙ ap (λ (b : Bool). is_full_reset (owed_in past) || b) (recoverable past)
recoverable (Tells (Done kind status) ∷ past) = recoverable past
recoverable (Ends ∷ past) = recoverable past

pub transaction_open : (past : List Remark) → (session_said past).transaction ≡ open_transaction past
unfolding session_said open_transaction
transaction_open [] = refl
transaction_open (Begins kind None ∷ past) = transaction_open past
transaction_open (Begins kind (Some Full) ∷ past) = transaction_open past
transaction_open (Begins kind (Some KeepTransaction) ∷ past) = transaction_open past
transaction_open (Goes bytes ∷ past) = transaction_open past
transaction_open (Cancels ∷ past) = transaction_open past
transaction_open (Tells Unread ∷ past) = transaction_open past
transaction_open (Tells Nothing ∷ past) = transaction_open past
transaction_open (Tells (Returned value) ∷ past) = transaction_open past
transaction_open (Tells Failed ∷ past) = transaction_open past
transaction_open (Tells (Recovery states) ∷ past) = transaction_open past
transaction_open (Tells (States ok all) ∷ past) = transaction_open past
transaction_open (Tells (Value type value) ∷ past) = transaction_open past
transaction_open (Tells (Transaction descriptor) ∷ past) = refl
transaction_open (Tells ResetDone ∷ past) = ap (λ (o : Option Reset). transaction_left (is_full_reset o) (session_said past).transaction) (reset_owed past) ∙ ap (transaction_left (is_full_reset (owed_in past))) (transaction_open past)
transaction_open (Tells (Done kind status) ∷ past) = transaction_open past
transaction_open (Ends ∷ past) = transaction_open past

-- ---- Since a full reset was asked for

pub not_kept : (past : List Remark) → (session_said past).is_pinned ≡ false → was_kept past ≡ false
unfolding session_said was_kept
not_kept [] h = refl
not_kept (Begins kind None ∷ past) h = not_kept past (neither (session_said past).is_pinned (may_make_handles (session_said past).asked) h).0
not_kept (Begins kind (Some Full) ∷ past) h = refl
not_kept (Begins kind (Some KeepTransaction) ∷ past) h = not_kept past (neither (session_said past).is_pinned (may_make_handles (session_said past).asked) h).0
not_kept (Goes bytes ∷ past) h = not_kept past h
not_kept (Cancels ∷ past) h = not_kept past (neither (is_call (session_said past).asked.kind) (session_said past).is_pinned h).1
not_kept (Tells Unread ∷ past) h = not_kept past h
not_kept (Tells Nothing ∷ past) h = not_kept past h
not_kept (Tells (Returned value) ∷ past) h = not_kept past h
not_kept (Tells Failed ∷ past) h = not_kept past h
not_kept (Tells (Recovery states) ∷ past) h = not_kept past h
not_kept (Tells (States ok all) ∷ past) h = not_kept past h
not_kept (Tells (Value type value) ∷ past) h = not_kept past h
not_kept (Tells (Transaction descriptor) ∷ past) h = not_kept past h
not_kept (Tells ResetDone ∷ past) h =
    let parts = neither (keeps_open (session_said past).owed) (session_said past).is_pinned h in
    ap (λ (o : Option Reset). keeps_open o || was_kept past) (sym (reset_owed past)) ∙ (ap (λ (b : Bool). b || was_kept past) parts.0 ∙ not_kept past parts.1)
not_kept (Tells (Done kind status) ∷ past) h = not_kept past (neither (is_followed kind status) (session_said past).is_pinned h).1
not_kept (Ends ∷ past) h = not_kept past h

pub not_followed : (past : List Remark) → (session_said past).is_pinned ≡ false → was_followed past ≡ false
unfolding session_said was_followed
not_followed [] h = refl
not_followed (Begins kind None ∷ past) h = not_followed past (neither (session_said past).is_pinned (may_make_handles (session_said past).asked) h).0
not_followed (Begins kind (Some Full) ∷ past) h = refl
not_followed (Begins kind (Some KeepTransaction) ∷ past) h = not_followed past (neither (session_said past).is_pinned (may_make_handles (session_said past).asked) h).0
not_followed (Goes bytes ∷ past) h = not_followed past h
not_followed (Cancels ∷ past) h = not_followed past (neither (is_call (session_said past).asked.kind) (session_said past).is_pinned h).1
not_followed (Tells Unread ∷ past) h = not_followed past h
not_followed (Tells Nothing ∷ past) h = not_followed past h
not_followed (Tells (Returned value) ∷ past) h = not_followed past h
not_followed (Tells Failed ∷ past) h = not_followed past h
not_followed (Tells (Recovery states) ∷ past) h = not_followed past h
not_followed (Tells (States ok all) ∷ past) h = not_followed past h
not_followed (Tells (Value type value) ∷ past) h = not_followed past h
not_followed (Tells (Transaction descriptor) ∷ past) h = not_followed past h
not_followed (Tells ResetDone ∷ past) h = not_followed past (neither (keeps_open (session_said past).owed) (session_said past).is_pinned h).1
not_followed (Tells (Done kind status) ∷ past) h =
    let parts = neither (is_followed kind status) (session_said past).is_pinned h in
    ap (λ (b : Bool). b || was_followed past) parts.0 ∙ not_followed past parts.1
not_followed (Ends ∷ past) h = not_followed past h
