-- What handles a session has, by what was asked and told.
use Rattle.std.proofs.Common.{◌≡◌, ◌∙◌, ◌<◌, ℕ, Bool, true, false, cond, List, [], ◌∷◌, ◌++◌, length, take, set, refl, sym, ap, arith, subst, Option, Some, None}
use Rattle.std.proofs.lemmas.Bool.{false≢true, true≢false, and_parts, not-true}
use Rattle.std.proofs.lemmas.List.{length-replicate}
use Rattle.std.specs.List.{list_any}
use Rattle.std.specs.Prelude.{◌==◌, ◌&&◌, ◌||◌, ◌/◌, ◌%◌, not, nat_lt}
use Rattle.tds_packet.specs.declared.status.Reset.TheVariants.{Full, KeepTransaction}
use Rattle.tds_state.specs.declared.asked.Asked as asking
use Rattle.tds_state.specs.declared.asked.Call.{Call}
use Rattle.tds_state.specs.declared.asked.Call.TheVariants as calls
use Rattle.tds_state.specs.declared.asked.Request.{Request}
use Rattle.tds_state.specs.declared.asked.Request.TheVariants.{Batch, Procedure, Other}
use Rattle.tds_state.specs.declared.handles.Handles.{Handles}
use Rattle.tds_state.specs.declared.handles.Returned as answers
use Rattle.tds_state.specs.declared.handles.Returned.TheVariants as values
use Rattle.tds_state.specs.declared.session.Flight.{Flight}
use Rattle.tds_state.specs.declared.session.Flight.TheVariants as flights
use Rattle.tds_state.specs.Asking.{asked_call, body_sent_by, call_by}
use Rattle.tds_state.specs.Exchanges.{answer_is_due, has_overlap, is_unclear_by, newest_body, newest_call, newest_has_failed, newest_returned, times_behind, times_if, times_open, was_unclear}
use Rattle.tds_state.specs.Handles.{are_closed, handle_put, handles_settled, is_counted, is_open_place, place_of_handle, prepared_by, returned_behind, handles_unprepared, unclear_if}
use Rattle.tds_state.specs.Hearing.{Unread, Nothing, Recovery, States, Value, Transaction, ResetDone, Done, Returned, Failed}
use Rattle.tds_state.specs.Pasts.{Remark, Begins, Goes, Cancels, Tells, Ends, newest_kind, session_said}
use Rattle.tds_state.specs.Sessions.{ended_flight, flight_stopped, ends_in_error, is_quiet, flight_settled}
use Rattle.tds_state.proofs.Bools.{neither}
use Rattle.tds_state.proofs.Calls.{kind_asked, name_room}
use Rattle.tds_state.proofs.Counting.{count, count_closed, count_free, settled_apart, settled_clear, settled_counts, settled_known}
use Rattle.tds_state.proofs.Keeping.{Keeps, keeps_ended}
use Rattle.tds_state.proofs.KeptBytes.{take_front}

-- ---- An answer is due

abbrev pub is_due : Flight → Bool
is_due flights.Quiet = false
is_due flights.Asked = true
is_due flights.Cancelled = false
is_due flights.Stopped = false

due_stopped : (is_stop : Bool) (f : Flight) → is_due (flight_stopped is_stop f) ≡ is_due f
due_stopped is_stop flights.Quiet = refl
due_stopped is_stop flights.Asked = refl
due_stopped true flights.Cancelled = refl
due_stopped false flights.Cancelled = refl
due_stopped is_stop flights.Stopped = refl

due_ended : (f : Flight) → is_due (ended_flight f) ≡ false
due_ended flights.Quiet = refl
due_ended flights.Asked = refl
due_ended flights.Cancelled = refl
due_ended flights.Stopped = refl

pub due : (past : List Remark) → is_due (session_said past).flight ≡ answer_is_due past
unfolding session_said answer_is_due
due [] = refl
due (Begins kind None ∷ past) = refl
due (Begins kind (Some Full) ∷ past) = refl
due (Begins kind (Some KeepTransaction) ∷ past) = refl
due (Goes bytes ∷ past) = due past
due (Cancels ∷ past) = refl
due (Tells Unread ∷ past) = due past
due (Tells Nothing ∷ past) = due past
due (Tells (Returned value) ∷ past) = due past
due (Tells Failed ∷ past) = due past
due (Tells (Recovery states) ∷ past) = due past
due (Tells (States ok all) ∷ past) = due past
due (Tells (Value type value) ∷ past) = due past
due (Tells (Transaction descriptor) ∷ past) = due past
due (Tells ResetDone ∷ past) = due past
due (Tells (Done kind status) ∷ past) = due_stopped (status / 32 % 2 == 1) (session_said past).flight ∙ due past
due (Ends ∷ past) = due_ended (session_said past).flight

-- ---- Its call

abbrev IsFront : Request → List ℕ → List ℕ → Type 0
IsFront Batch head body = Unit {0}
IsFront Procedure head body = head ≡ take 1024 body
IsFront Other head body = Unit {0}

front_begun : (kind : Request) → IsFront kind [] []
front_begun Batch = tt
front_begun Procedure = refl
front_begun Other = tt

front_sent : (kind : Request) (a : asking.Asked) (bytes body : List ℕ) → a.kind ≡ kind → a.head.most ≡ 1024 → IsFront kind a.head.bytes body
    → IsFront (body_sent_by kind a bytes).kind (body_sent_by kind a bytes).head.bytes (body ++ bytes)
front_sent Batch a bytes body is room h = subst (λ (k : Request). IsFront k a.head.bytes (body ++ bytes)) (sym is) tt
front_sent Procedure a bytes body is room h =
    subst (λ (k : Request). IsFront k (take a.head.most (a.head.bytes ++ bytes)) (body ++ bytes)) (sym is)
    (ap (λ (n : ℕ). take n (a.head.bytes ++ bytes)) room
    ∙ (ap (λ (xs : List ℕ). take 1024 (xs ++ bytes)) h ∙ take_front 1024 body bytes))
front_sent Other a bytes body is room h = subst (λ (k : Request). IsFront k a.head.bytes (body ++ bytes)) (sym is) tt

pub front : (past : List Remark) → IsFront (session_said past).asked.kind (session_said past).asked.head.bytes (newest_body past)
unfolding session_said newest_body
front [] = tt
front (Begins kind None ∷ past) = front_begun kind
front (Begins kind (Some Full) ∷ past) = front_begun kind
front (Begins kind (Some KeepTransaction) ∷ past) = front_begun kind
front (Goes bytes ∷ past) = front_sent (session_said past).asked.kind (session_said past).asked bytes (newest_body past) refl (name_room past) (front past)
front (Cancels ∷ past) = front past
front (Tells Unread ∷ past) = front past
front (Tells Nothing ∷ past) = front past
front (Tells (Returned value) ∷ past) = front past
front (Tells Failed ∷ past) = front past
front (Tells (Recovery states) ∷ past) = front past
front (Tells (States ok all) ∷ past) = front past
front (Tells (Value type value) ∷ past) = front past
front (Tells (Transaction descriptor) ∷ past) = front past
front (Tells ResetDone ∷ past) = front past
front (Tells (Done kind status) ∷ past) = front past
front (Ends ∷ past) = front past

call_front : (kind : Request) (head body : List ℕ) → IsFront kind head body → call_by kind head ≡ call_by kind (take 1024 body)
call_front Batch head body h = refl
call_front Procedure head body h = ap (call_by Procedure) h
call_front Other head body h = refl

pub call : (past : List Remark) → asked_call (session_said past).asked ≡ newest_call past
call past =
    call_front (session_said past).asked.kind (session_said past).asked.head.bytes (newest_body past) (front past)
    ∙ ap (λ (k : Request). call_by k (take 1024 (newest_body past))) (kind_asked past)

-- ---- What an answer's end leaves as it is

ended : (past : List Remark) → Keeps (session_said past).handles (flight_settled (session_said past).flight (asked_call (session_said past).asked) (session_said past).handles)
ended past = keeps_ended (session_said past).flight (asked_call (session_said past).asked) (session_said past).handles

-- ---- What its answer told

pub returned : (past : List Remark) → (session_said past).handles.returned ≡ newest_returned past
unfolding session_said newest_returned
returned [] = refl
returned (Begins kind None ∷ past) = refl
returned (Begins kind (Some Full) ∷ past) = refl
returned (Begins kind (Some KeepTransaction) ∷ past) = refl
returned (Goes bytes ∷ past) = returned past
returned (Cancels ∷ past) = returned past
returned (Tells Unread ∷ past) = returned past
returned (Tells Nothing ∷ past) = returned past
returned (Tells (Returned value) ∷ past) = ap (λ (r : answers.Returned). returned_behind r value) (returned past)
returned (Tells Failed ∷ past) = returned past
returned (Tells (Recovery states) ∷ past) = returned past
returned (Tells (States ok all) ∷ past) = returned past
returned (Tells (Value type value) ∷ past) = returned past
returned (Tells (Transaction descriptor) ∷ past) = returned past
returned (Tells ResetDone ∷ past) = returned past
returned (Tells (Done kind status) ∷ past) = returned past
returned (Ends ∷ past) = (ended past).returned ∙ returned past

pub failed : (past : List Remark) → (session_said past).handles.has_failed ≡ newest_has_failed past
unfolding session_said newest_has_failed
failed [] = refl
failed (Begins kind None ∷ past) = refl
failed (Begins kind (Some Full) ∷ past) = refl
failed (Begins kind (Some KeepTransaction) ∷ past) = refl
failed (Goes bytes ∷ past) = failed past
failed (Cancels ∷ past) = failed past
failed (Tells Unread ∷ past) = failed past
failed (Tells Nothing ∷ past) = failed past
failed (Tells (Returned value) ∷ past) = failed past
failed (Tells Failed ∷ past) = refl
failed (Tells (Recovery states) ∷ past) = failed past
failed (Tells (States ok all) ∷ past) = failed past
failed (Tells (Value type value) ∷ past) = failed past
failed (Tells (Transaction descriptor) ∷ past) = failed past
failed (Tells ResetDone ∷ past) = failed past
failed (Tells (Done kind status) ∷ past) = ap (λ (b : Bool). ends_in_error status || b) (failed past)
failed (Ends ∷ past) = (ended past).has_failed ∙ failed past

pub room : (past : List Remark) → length (session_said past).handles.places ≡ 64
unfolding session_said
room [] = length-replicate {A = ℕ} 64 0
room (Begins kind None ∷ past) = room past
room (Begins kind (Some Full) ∷ past) = length-replicate {A = ℕ} 64 0
room (Begins kind (Some KeepTransaction) ∷ past) = room past
room (Goes bytes ∷ past) = room past
room (Cancels ∷ past) = room past
room (Tells Unread ∷ past) = room past
room (Tells Nothing ∷ past) = room past
room (Tells (Returned value) ∷ past) = room past
room (Tells Failed ∷ past) = room past
room (Tells (Recovery states) ∷ past) = room past
room (Tells (States ok all) ∷ past) = room past
room (Tells (Value type value) ∷ past) = room past
room (Tells (Transaction descriptor) ∷ past) = room past
room (Tells ResetDone ∷ past) = room past
room (Tells (Done kind status) ∷ past) = room past
room (Ends ∷ past) = (ended past).room ∙ room past

-- ---- Behind an answer's end

pub clear_before : (f : Flight) (c : Call) (h : Handles) → (flight_settled f c h).is_unclear ≡ false → h.is_unclear ≡ false
clear_before flights.Quiet c h is = is
clear_before flights.Asked c h is = settled_clear c h is
clear_before flights.Cancelled c h is = is
clear_before flights.Stopped c h is = is

counts_ended : (f : Flight) (c : Call) (h : Handles) (n : ℕ) → length h.places ≡ 64 → 0 < n → (flight_settled f c h).is_unclear ≡ false
    → count n (flight_settled f c h).places ≡ times_if (is_due f) (times_behind c h.returned h.has_failed n (count n h.places)) (count n h.places)
counts_ended flights.Quiet c h n room some is = refl
counts_ended flights.Asked c h n room some is = settled_counts c h n room some is
counts_ended flights.Cancelled c h n room some is = refl
counts_ended flights.Stopped c h n room some is = refl

known_ended : (f : Flight) (c : Call) (h : Handles) (times : ℕ → ℕ) → length h.places ≡ 64 → ((n : ℕ) → 0 < n → count n h.places ≡ times n)
    → (flight_settled f c h).is_unclear ≡ false → (is_due f && is_unclear_by c h.returned times) ≡ false
known_ended flights.Quiet c h times room same is = refl
known_ended flights.Asked c h times room same is = settled_known c h times room same is
known_ended flights.Cancelled c h times room same is = refl
known_ended flights.Stopped c h times room same is = refl

-- ---- Each number stands as often as it is open

counts_by : (past : List Remark) (n times : ℕ) → count n (session_said past).handles.places ≡ times
    → times_if (is_due (session_said past).flight) (times_behind (asked_call (session_said past).asked) (session_said past).handles.returned (session_said past).handles.has_failed n (count n (session_said past).handles.places)) (count n (session_said past).handles.places)
    ≡ times_if (answer_is_due past) (times_behind (newest_call past) (newest_returned past) (newest_has_failed past) n times) times
counts_by past n times same =
    let h = (session_said past).handles in
    ap (λ (b : Bool). times_if b (times_behind (asked_call (session_said past).asked) h.returned h.has_failed n (count n h.places)) (count n h.places)) (due past)
    ∙ (ap (λ (c : Call). times_if (answer_is_due past) (times_behind c h.returned h.has_failed n (count n h.places)) (count n h.places)) (call past)
    ∙ (ap (λ (r : answers.Returned). times_if (answer_is_due past) (times_behind (newest_call past) r h.has_failed n (count n h.places)) (count n h.places)) (returned past)
    ∙ (ap (λ (b : Bool). times_if (answer_is_due past) (times_behind (newest_call past) (newest_returned past) b n (count n h.places)) (count n h.places)) (failed past)
    ∙ ap (λ (k : ℕ). times_if (answer_is_due past) (times_behind (newest_call past) (newest_returned past) (newest_has_failed past) n k) k) same)))

pub counts : (past : List Remark) (n : ℕ) → 0 < n → (session_said past).handles.is_unclear ≡ false → count n (session_said past).handles.places ≡ times_open n past
unfolding session_said times_open
counts [] n some is = count_free n 64 some
counts (Begins kind None ∷ past) n some is = counts past n some (neither (session_said past).handles.is_unclear (not (is_quiet (session_said past).flight) && is_counted (asked_call (session_said past).asked)) is).0
counts (Begins kind (Some Full) ∷ past) n some is = count_free n 64 some
counts (Begins kind (Some KeepTransaction) ∷ past) n some is = counts past n some (neither (session_said past).handles.is_unclear (not (is_quiet (session_said past).flight) && is_counted (asked_call (session_said past).asked)) is).0
counts (Goes bytes ∷ past) n some is = counts past n some is
counts (Cancels ∷ past) n some is = counts past n some is
counts (Tells Unread ∷ past) n some is = counts past n some is
counts (Tells Nothing ∷ past) n some is = counts past n some is
counts (Tells (Returned value) ∷ past) n some is = counts past n some is
counts (Tells Failed ∷ past) n some is = counts past n some is
counts (Tells (Recovery states) ∷ past) n some is = counts past n some is
counts (Tells (States ok all) ∷ past) n some is = counts past n some is
counts (Tells (Value type value) ∷ past) n some is = counts past n some is
counts (Tells (Transaction descriptor) ∷ past) n some is = counts past n some is
counts (Tells ResetDone ∷ past) n some is = counts past n some is
counts (Tells (Done kind status) ∷ past) n some is = counts past n some is
counts (Ends ∷ past) n some is =
    let s = session_said past in
    counts_ended s.flight (asked_call s.asked) s.handles n (room past) some is
    ∙ counts_by past n (times_open n past) (counts past n some (clear_before s.flight (asked_call s.asked) s.handles is))

pub none_open : (past : List Remark) (n : ℕ) → 0 < n → are_closed (session_said past).handles ≡ true → times_open n past ≡ 0
none_open past n some h =
    let k = (session_said past).handles in
    let parts = and_parts (not k.is_unclear) (not (list_any is_open_place k.places)) h in
    sym (counts past n some (not-true k.is_unclear parts.0)) ∙ count_closed n k.places some (not-true (list_any is_open_place k.places) parts.1)

-- ---- All was clear

not_due : (f : Flight) (b : Bool) → is_due f ≡ b → not (is_quiet f) ≡ false → b ≡ false
not_due flights.Quiet b is q = sym is
not_due flights.Asked b is q = absurd (true≢false q)
not_due flights.Cancelled b is q = absurd (true≢false q)
not_due flights.Stopped b is q = absurd (true≢false q)

known_by : (past : List Remark) → (is_due (session_said past).flight && is_unclear_by (asked_call (session_said past).asked) (session_said past).handles.returned (λ (n : ℕ). times_open n past)) ≡ false
    → (answer_is_due past && is_unclear_by (newest_call past) (newest_returned past) (λ (n : ℕ). times_open n past)) ≡ false
known_by past is =
    let h = (session_said past).handles in
    let times = λ (n : ℕ). times_open n past in
    sym (ap (λ (b : Bool). b && is_unclear_by (asked_call (session_said past).asked) h.returned times) (due past)
    ∙ (ap (λ (c : Call). answer_is_due past && is_unclear_by c h.returned times) (call past)
    ∙ ap (λ (r : answers.Returned). answer_is_due past && is_unclear_by (newest_call past) r times) (returned past)))
    ∙ is

both : (a b : Bool) → a ≡ false → b ≡ false → (a || b) ≡ false
both a b x y = ap (λ (c : Bool). c || b) x ∙ y

-- a request that began before the last answer's end
pub no_overlap : (past : List Remark) → (session_said past).handles.overlaps ≡ false → has_overlap past ≡ false
unfolding session_said has_overlap
no_overlap [] is = refl
no_overlap (Begins kind None ∷ past) is =
    let parts = neither (session_said past).handles.overlaps (not (is_quiet (session_said past).flight)) is in
    both (answer_is_due past) (has_overlap past) (not_due (session_said past).flight (answer_is_due past) (due past) parts.1) (no_overlap past parts.0)
no_overlap (Begins kind (Some Full) ∷ past) is = not_due (session_said past).flight (answer_is_due past) (due past) is
no_overlap (Begins kind (Some KeepTransaction) ∷ past) is =
    let parts = neither (session_said past).handles.overlaps (not (is_quiet (session_said past).flight)) is in
    both (answer_is_due past) (has_overlap past) (not_due (session_said past).flight (answer_is_due past) (due past) parts.1) (no_overlap past parts.0)
no_overlap (Goes bytes ∷ past) is = no_overlap past is
no_overlap (Cancels ∷ past) is = no_overlap past is
no_overlap (Tells Unread ∷ past) is = no_overlap past is
no_overlap (Tells Nothing ∷ past) is = no_overlap past is
no_overlap (Tells (Returned value) ∷ past) is = no_overlap past is
no_overlap (Tells Failed ∷ past) is = no_overlap past is
no_overlap (Tells (Recovery states) ∷ past) is = no_overlap past is
no_overlap (Tells (States ok all) ∷ past) is = no_overlap past is
no_overlap (Tells (Value type value) ∷ past) is = no_overlap past is
no_overlap (Tells (Transaction descriptor) ∷ past) is = no_overlap past is
no_overlap (Tells ResetDone ∷ past) is = no_overlap past is
no_overlap (Tells (Done kind status) ∷ past) is = no_overlap past is
no_overlap (Ends ∷ past) is = no_overlap past (sym (ended past).overlaps ∙ is)

-- it doesn't overtake a call that is counted
not_overtaken : (f : Flight) (b : Bool) (c d : Call) → is_due f ≡ b → c ≡ d → (not (is_quiet f) && is_counted c) ≡ false → (b && is_counted d) ≡ false
not_overtaken f b c d due_is call_is is =
    sym (ap (λ (x : Bool). x && is_counted c) due_is ∙ ap (λ (x : Call). b && is_counted x) call_is) ∙ by f is where
      by : (g : Flight) → (not (is_quiet g) && is_counted c) ≡ false → (is_due g && is_counted c) ≡ false
      by flights.Quiet w = refl
      by flights.Asked w = w
      by flights.Cancelled w = refl
      by flights.Stopped w = refl

overtakes_none : (past : List Remark) → (not (is_quiet (session_said past).flight) && is_counted (asked_call (session_said past).asked)) ≡ false
    → (answer_is_due past && is_counted (newest_call past)) ≡ false
overtakes_none past is =
    not_overtaken (session_said past).flight (answer_is_due past) (asked_call (session_said past).asked) (newest_call past) (due past) (call past) is

-- nor is it counted behind one that did
apart_ended : (f : Flight) (c : Call) (h : Handles) (overlap : Bool) → (h.overlaps ≡ false → overlap ≡ false) → (flight_settled f c h).is_unclear ≡ false
    → (is_due f && (is_counted c && overlap)) ≡ false
apart_ended flights.Quiet c h overlap apart is = refl
apart_ended flights.Asked c h overlap apart is = by (is_counted c) (settled_apart c h is) where
  by : (b : Bool) → (b ≡ true → h.overlaps ≡ false) → (b && overlap) ≡ false
  by true w = apart (w refl)
  by false w = refl
apart_ended flights.Cancelled c h overlap apart is = refl
apart_ended flights.Stopped c h overlap apart is = refl

apart_by : (past : List Remark) → (is_due (session_said past).flight && (is_counted (asked_call (session_said past).asked) && has_overlap past)) ≡ false
    → (answer_is_due past && (is_counted (newest_call past) && has_overlap past)) ≡ false
apart_by past is =
    sym (ap (λ (b : Bool). b && (is_counted (asked_call (session_said past).asked) && has_overlap past)) (due past)
    ∙ ap (λ (c : Call). answer_is_due past && (is_counted c && has_overlap past)) (call past))
    ∙ is

pub all_clear : (past : List Remark) → (session_said past).handles.is_unclear ≡ false → was_unclear past ≡ false
unfolding session_said was_unclear
all_clear [] is = refl
all_clear (Begins kind None ∷ past) is =
    let parts = neither (session_said past).handles.is_unclear (not (is_quiet (session_said past).flight) && is_counted (asked_call (session_said past).asked)) is in
    both (answer_is_due past && is_counted (newest_call past)) (was_unclear past) (overtakes_none past parts.1) (all_clear past parts.0)
all_clear (Begins kind (Some Full) ∷ past) is = overtakes_none past is
all_clear (Begins kind (Some KeepTransaction) ∷ past) is =
    let parts = neither (session_said past).handles.is_unclear (not (is_quiet (session_said past).flight) && is_counted (asked_call (session_said past).asked)) is in
    both (answer_is_due past && is_counted (newest_call past)) (was_unclear past) (overtakes_none past parts.1) (all_clear past parts.0)
all_clear (Goes bytes ∷ past) is = all_clear past is
all_clear (Cancels ∷ past) is = all_clear past is
all_clear (Tells Unread ∷ past) is = all_clear past is
all_clear (Tells Nothing ∷ past) is = all_clear past is
all_clear (Tells (Returned value) ∷ past) is = all_clear past is
all_clear (Tells Failed ∷ past) is = all_clear past is
all_clear (Tells (Recovery states) ∷ past) is = all_clear past is
all_clear (Tells (States ok all) ∷ past) is = all_clear past is
all_clear (Tells (Value type value) ∷ past) is = all_clear past is
all_clear (Tells (Transaction descriptor) ∷ past) is = all_clear past is
all_clear (Tells ResetDone ∷ past) is = all_clear past is
all_clear (Tells (Done kind status) ∷ past) is = all_clear past is
all_clear (Ends ∷ past) is =
    let s = session_said past in
    let before = clear_before s.flight (asked_call s.asked) s.handles is in
    let known = known_ended s.flight (asked_call s.asked) s.handles (λ (n : ℕ). times_open n past) (room past) (λ (n : ℕ) (some : 0 < n). counts past n some before) is in
    let apart = apart_ended s.flight (asked_call s.asked) s.handles (has_overlap past) (no_overlap past) is in
    let unknown = answer_is_due past && is_unclear_by (newest_call past) (newest_returned past) (λ (n : ℕ). times_open n past) in
    both (answer_is_due past && (is_counted (newest_call past) && has_overlap past)) (unknown || was_unclear past) (apart_by past apart)
    (both unknown (was_unclear past) (known_by past known) (all_clear past before))
