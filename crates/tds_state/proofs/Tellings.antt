-- What was told of states and values since the last full reset.
use Rattle.std.proofs.Common.{◌≡◌, ◌∙◌, ◌<◌, ℕ, zero, suc, ◌+◌, Bool, true, false, cond, List, [], ◌∷◌, ◌++◌, length, take, get_or, refl, sym, ap, arith, Option, Some, None, ⊎_elim}
use Rattle.std.proofs.lemmas.Bool.{false≢true, true≢false, and_parts, not-true, not-false}
use Rattle.std.specs.Prelude.{◌&&◌, ◌||◌, not}
use Rattle.tds_packet.specs.declared.status.Reset.{Reset}
use Rattle.tds_packet.specs.declared.status.Reset.TheVariants.{Full, KeepTransaction}
use Rattle.tds_state.specs.declared.session.Session.{Session}
use Rattle.tds_state.specs.Hearing.{Unread, Nothing, Recovery, States, Value, Transaction, ResetDone, Done, Returned, Failed}
use Rattle.std.proofs.lemmas.Bool.{cases_eq, eq-eqb, ne_eqb, ltb-false}
use Rattle.std.proofs.lemmas.List.{get_or-set_other, get_or-set_same, length-append, length-replicate, length-set, take_all}
use Rattle.std.proofs.Common.{subst}
use Rattle.std.specs.Int.{w32, to_le_bytes}
use Rattle.std.specs.List.{list_any}
use Rattle.std.specs.Prelude.{◌==◌, nat_lt}
use Rattle.tds_state.specs.KeptBytes.{KeptBytes, has_room, no_bytes_kept}
use Rattle.tds_state.specs.Ledgers.{Ledger, back_if, begun_with, is_home, may_add, may_begin, value_noted, state_bytes, value_taken_in, with_initial_value}
use Rattle.tds_state.specs.Pasts.{Remark, Begins, Goes, Cancels, Tells, Ends, IsInitial, Telling, first_states, first_values, newest_state, newest_value, owed_in, session_said, telling_by, telling_if, was_asked}
use Rattle.tds_state.specs.Sessions.{all_noted, accepts_states, is_full_reset}
use Rattle.tds_state.specs.States.{OneState, gives_value, last_value, later_of, states_listed, listed_in}
use Rattle.tds_state.proofs.Bools.{neither}
use Rattle.tds_state.proofs.Since.{at_login, noted_initial, reset_owed}

-- ---- One number of a ledger

abbrev pub entry : Ledger → ℕ → Bool
entry l id = get_or l.astray id false

abbrev by_last : Option (List ℕ) → Bool → Ledger → ℕ → Bool → Bool
by_last None ok l id before = before
by_last (Some value) ok l id before = not (ok && gives_value l.initial.bytes id value)

noted_at : (l : Ledger) (ok : Bool) (k id : ℕ) (value : List ℕ) → id < length l.astray
    → entry (value_noted l ok k value) id ≡ by_last (cond (k == id) (Some value) None) ok l id (entry l id)
noted_at l ok k id value h = ⊎_elim same other (cases_eq k id) where
  same : k ≡ id → entry (value_noted l ok k value) id ≡ by_last (cond (k == id) (Some value) None) ok l id (entry l id)
  same e =
      ap (λ (n : ℕ). entry (value_noted l ok n value) id) e
      ∙ (get_or-set_same l.astray id (not (ok && gives_value l.initial.bytes id value)) false h
      ∙ sym (ap (λ (b : Bool). by_last (cond b (Some value) None) ok l id (entry l id)) (eq-eqb k id e)))

  other : (k ≡ id → ⊥) → entry (value_noted l ok k value) id ≡ by_last (cond (k == id) (Some value) None) ok l id (entry l id)
  other ne =
      get_or-set_other l.astray k id (not (ok && gives_value l.initial.bytes k value)) false (λ q. ne (sym q))
      ∙ sym (ap (λ (b : Bool). by_last (cond b (Some value) None) ok l id (entry l id)) (ne_eqb k id ne))

noted_length : (l : Ledger) (ok : Bool) (k : ℕ) (value : List ℕ) → length (value_noted l ok k value).astray ≡ length l.astray
noted_length l ok k value = length-set l.astray k (not (ok && gives_value l.initial.bytes k value))

all_noted_length : (l : Ledger) (ok : Bool) (states : List OneState) → length (all_noted l ok states).astray ≡ length l.astray
unfolding all_noted
all_noted_length l ok [] = refl
all_noted_length l ok (s ∷ others) = all_noted_length (value_noted l ok s.id s.value) ok others ∙ noted_length l ok s.id s.value

all_noted_at : (id : ℕ) (l : Ledger) (ok : Bool) (states : List OneState) → id < length l.astray
    → entry (all_noted l ok states) id ≡ by_last (last_value id states) ok l id (entry l id)
unfolding all_noted last_value
all_noted_at id l ok [] h = refl
all_noted_at id l ok (s ∷ others) h =
    let room = noted_length l ok s.id s.value in
    all_noted_at id (value_noted l ok s.id s.value) ok others (omega (arith, h, room)) ∙ later (last_value id others)
  where
    later : (last : Option (List ℕ)) → by_last last ok (value_noted l ok s.id s.value) id (entry (value_noted l ok s.id s.value) id) ≡ by_last (later_of last id s) ok l id (entry l id)
    later None = noted_at l ok s.id id s.value h
    later (Some value) = refl

told_home : (last : Option (List ℕ)) (ok : Bool) (l : Ledger) (id : ℕ) (before : Option Telling)
    → (entry l id ≡ false → IsInitial l.initial.bytes id before) → by_last last ok l id (entry l id) ≡ false → IsInitial l.initial.bytes id (telling_by last ok before)
told_home None ok l id before home h = home h
told_home (Some value) ok l id before home h =
    let both = and_parts ok (gives_value l.initial.bytes id value) (not-false (ok && gives_value l.initial.bytes id value) h) in
    record { recoverable = both.0; value = both.1 }

back_home : (b : Bool) (l : Ledger) (id : ℕ) (before : Option Telling)
    → (entry l id ≡ false → IsInitial l.initial.bytes id before) → entry (back_if b l) id ≡ false → IsInitial (back_if b l).initial.bytes id (telling_if b before)
back_home true l id before home h = tt
back_home false l id before home h = home h

-- with no initial states none is home
none_gives : (id : ℕ) (value : List ℕ) → gives_value [] id value ≡ false
unfolding listed_in last_value
none_gives id value = refl

begun_home : (b : Bool) (l : Ledger) (states : List ℕ) (id : ℕ) (before : Option Telling) → (b ≡ true → l.initial.bytes ≡ [])
    → (entry l id ≡ false → IsInitial l.initial.bytes id before) → entry (cond b (begun_with l states) l) id ≡ false
    → IsInitial (cond b (begun_with l states) l).initial.bytes id before
begun_home false l states id before empty home h = home h
begun_home true l states id None empty home h = tt
begun_home true l states id (Some told) empty home h =
    absurd (false≢true (sym (none_gives id told.value) ∙ (sym (ap (λ (xs : List ℕ). gives_value xs id told.value) (empty refl)) ∙ (home h).value)))

begun_length : (b : Bool) (l : Ledger) (states : List ℕ) → length (cond b (begun_with l states) l).astray ≡ length l.astray
begun_length true l states = refl
begun_length false l states = refl

back_length : (b : Bool) (l : Ledger) → length l.astray ≡ 256 → length (back_if b l).astray ≡ 256
back_length true l h = length-replicate 256 false
back_length false l h = h

pub numbers : (past : List Remark) → length (session_said past).states.astray ≡ 256
unfolding session_said
numbers [] = length-replicate 256 false
numbers (Begins kind None ∷ past) = numbers past
numbers (Begins kind (Some Full) ∷ past) = numbers past
numbers (Begins kind (Some KeepTransaction) ∷ past) = numbers past
numbers (Goes bytes ∷ past) = numbers past
numbers (Cancels ∷ past) = numbers past
numbers (Tells Unread ∷ past) = numbers past
numbers (Tells Nothing ∷ past) = numbers past
numbers (Tells (Returned value) ∷ past) = numbers past
numbers (Tells Failed ∷ past) = numbers past
numbers (Tells (Recovery states) ∷ past) = begun_length (((session_said past).is_login && not (session_said past).is_acknowledged) && may_begin (session_said past).states states) (session_said past).states states ∙ numbers past
numbers (Tells (States ok all) ∷ past) = all_noted_length (session_said past).states ok all.states ∙ numbers past
numbers (Tells (Value type value) ∷ past) = numbers past
numbers (Tells (Transaction descriptor) ∷ past) = numbers past
numbers (Tells ResetDone ∷ past) = back_length (is_full_reset (session_said past).owed) (session_said past).states (numbers past)
numbers (Tells (Done kind status) ∷ past) = numbers past
numbers (Ends ∷ past) = numbers past

back_initial : (b : Bool) (l : Ledger) → (back_if b l).initial ≡ l.initial
back_initial true l = refl
back_initial false l = refl

-- before an acknowledgement there are no initial states
empty_if : (b a : Bool) (l : Ledger) (states : List ℕ) → (b || a) ≡ false → l.initial.bytes ≡ [] → (cond b (begun_with l states) l).initial.bytes ≡ []
empty_if true a l states h e = absurd (true≢false h)
empty_if false a l states h e = e

pub unacknowledged : (past : List Remark) → (session_said past).is_acknowledged ≡ false → (session_said past).states.initial.bytes ≡ []
unfolding session_said
unacknowledged [] h = refl
unacknowledged (Begins kind None ∷ past) h = unacknowledged past h
unacknowledged (Begins kind (Some Full) ∷ past) h = unacknowledged past h
unacknowledged (Begins kind (Some KeepTransaction) ∷ past) h = unacknowledged past h
unacknowledged (Goes bytes ∷ past) h = unacknowledged past h
unacknowledged (Cancels ∷ past) h = unacknowledged past h
unacknowledged (Tells Unread ∷ past) h = unacknowledged past h
unacknowledged (Tells Nothing ∷ past) h = unacknowledged past h
unacknowledged (Tells (Returned value) ∷ past) h = unacknowledged past h
unacknowledged (Tells Failed ∷ past) h = unacknowledged past h
unacknowledged (Tells (Recovery states) ∷ past) h = empty_if (accepts_states (session_said past) states) (session_said past).is_acknowledged (session_said past).states states h (unacknowledged past (neither (accepts_states (session_said past) states) (session_said past).is_acknowledged h).1)
unacknowledged (Tells (States ok all) ∷ past) h = ap (λ (k : KeptBytes). k.bytes) (noted_initial (session_said past).states ok all.states) ∙ unacknowledged past h
unacknowledged (Tells (Value type value) ∷ past) h = unacknowledged past h
unacknowledged (Tells (Transaction descriptor) ∷ past) h = unacknowledged past h
unacknowledged (Tells ResetDone ∷ past) h = ap (λ (k : KeptBytes). k.bytes) (back_initial (is_full_reset (session_said past).owed) (session_said past).states) ∙ unacknowledged past h
unacknowledged (Tells (Done kind status) ∷ past) h = unacknowledged past h
unacknowledged (Ends ∷ past) h = unacknowledged past h

first_begins : (s : Session) (states : List ℕ) → accepts_states s states ≡ true → s.is_acknowledged ≡ false
first_begins s states h = not-true s.is_acknowledged (and_parts s.is_login (not s.is_acknowledged) (and_parts (s.is_login && not s.is_acknowledged) (may_begin s.states states) h).0).1

-- ---- States

pub state_home : (id : ℕ) (few : id < 256) (past : List Remark) → entry (session_said past).states id ≡ false → IsInitial (session_said past).states.initial.bytes id (newest_state id past)
unfolding session_said newest_state
state_home id few [] h = tt
state_home id few (Begins kind None ∷ past) h = state_home id few past h
state_home id few (Begins kind (Some Full) ∷ past) h = state_home id few past h
state_home id few (Begins kind (Some KeepTransaction) ∷ past) h = state_home id few past h
state_home id few (Goes bytes ∷ past) h = state_home id few past h
state_home id few (Cancels ∷ past) h = state_home id few past h
state_home id few (Tells Unread ∷ past) h = state_home id few past h
state_home id few (Tells Nothing ∷ past) h = state_home id few past h
state_home id few (Tells (Returned value) ∷ past) h = state_home id few past h
state_home id few (Tells Failed ∷ past) h = state_home id few past h
state_home id few (Tells (Recovery states) ∷ past) h = begun_home (accepts_states (session_said past) states) (session_said past).states states id (newest_state id past) (λ b. unacknowledged past (first_begins (session_said past) states b)) (state_home id few past) h
state_home id few (Tells (States ok all) ∷ past) h =
    let room : id < length (session_said past).states.astray = omega (arith, few, numbers past) in
    let home = told_home (last_value id all.states) ok (session_said past).states id (newest_state id past) (state_home id few past) (sym (all_noted_at id (session_said past).states ok all.states room) ∙ h) in
    subst (λ (k : KeptBytes). IsInitial k.bytes id (telling_by (last_value id all.states) ok (newest_state id past))) (sym (noted_initial (session_said past).states ok all.states)) home
state_home id few (Tells (Value type value) ∷ past) h = state_home id few past h
state_home id few (Tells (Transaction descriptor) ∷ past) h = state_home id few past h
state_home id few (Tells ResetDone ∷ past) h =
    let home = back_home (is_full_reset (session_said past).owed) (session_said past).states id (newest_state id past) (state_home id few past) h in
    subst (λ (o : Option Reset). IsInitial (back_if (is_full_reset (session_said past).owed) (session_said past).states).initial.bytes id (telling_if (is_full_reset o) (newest_state id past))) (reset_owed past) home
state_home id few (Tells (Done kind status) ∷ past) h = state_home id few past h
state_home id few (Ends ∷ past) h = state_home id few past h

kept_whole : (most : ℕ) (states : List ℕ) → has_room (no_bytes_kept most) (length states) ≡ true → take most states ≡ states
kept_whole most states h =
    let none : List ℕ = [] in
    let room = ltb-false most (length none + length states) (not-true (nat_lt most (length none + length states)) h) in
    take_all most states (omega (arith, room))

begun_bytes : (b : Bool) (l : Ledger) (states : List ℕ) → b ≡ true → may_begin l states ≡ true → (cond b (begun_with l states) l).initial.bytes ≡ states
begun_bytes true l states is may = kept_whole l.initial.most states (and_parts (has_room (no_bytes_kept l.initial.most) (length states)) (states_listed states).is_whole may).0
begun_bytes false l states is may = absurd (false≢true is)

pub states_begun : (past : List Remark) → (session_said past).is_lost ≡ false → (session_said past).states.initial.bytes ≡ first_states past
unfolding session_said first_states
states_begun [] h = refl
states_begun (Begins kind None ∷ past) h = states_begun past h
states_begun (Begins kind (Some Full) ∷ past) h = states_begun past h
states_begun (Begins kind (Some KeepTransaction) ∷ past) h = states_begun past h
states_begun (Goes bytes ∷ past) h = states_begun past h
states_begun (Cancels ∷ past) h = states_begun past h
states_begun (Tells Unread ∷ past) h = absurd (true≢false h)
states_begun (Tells Nothing ∷ past) h = states_begun past h
states_begun (Tells (Returned value) ∷ past) h = states_begun past h
states_begun (Tells Failed ∷ past) h = states_begun past h
states_begun (Tells (Recovery states) ∷ past) h =
    let is = not-false (accepts_states (session_said past) states) (neither (not (accepts_states (session_said past) states)) (session_said past).is_lost h).0 in
    begun_bytes (accepts_states (session_said past) states) (session_said past).states states is (and_parts ((session_said past).is_login && not (session_said past).is_acknowledged) (may_begin (session_said past).states states) is).1
states_begun (Tells (States ok all) ∷ past) h = ap (λ (k : KeptBytes). k.bytes) (noted_initial (session_said past).states ok all.states) ∙ states_begun past (neither (not all.is_whole) (session_said past).is_lost h).1
states_begun (Tells (Value type value) ∷ past) h = states_begun past (neither ((session_said past).is_login && not (may_add (session_said past).changes value)) (session_said past).is_lost h).1
states_begun (Tells (Transaction descriptor) ∷ past) h = states_begun past h
states_begun (Tells ResetDone ∷ past) h = ap (λ (k : KeptBytes). k.bytes) (back_initial (is_full_reset (session_said past).owed) (session_said past).states) ∙ states_begun past h
states_begun (Tells (Done kind status) ∷ past) h = states_begun past h
states_begun (Ends ∷ past) h = states_begun past h

-- ---- No number is astray where none is

none_any : (flags : List Bool) (i : ℕ) → list_any (λ (b : Bool). b) flags ≡ false → get_or flags i false ≡ false
none_any [] i h = refl
none_any (b ∷ flags) zero h = (neither b (list_any (λ (b : Bool). b) flags) h).0
none_any (b ∷ flags) (suc i) h = none_any flags i (neither b (list_any (λ (b : Bool). b) flags) h).1

entry_home : (l : Ledger) (id : ℕ) → is_home l ≡ true → entry l id ≡ false
entry_home l id h = none_any l.astray id (not-true (list_any (λ (b : Bool). b) l.astray) h)

pub states_home : (past : List Remark) (id : ℕ) → id < 256 → (session_said past).is_lost ≡ false → is_home (session_said past).states ≡ true
    → IsInitial (first_states past) id (newest_state id past)
states_home past id few read home =
    subst (λ (xs : List ℕ). IsInitial xs id (newest_state id past)) (states_begun past read) (state_home id few past (entry_home (session_said past).states id home))

-- ---- Values

taken_length : (b : Bool) (l : Ledger) (type : ℕ) (value : List ℕ) → length (value_taken_in b l type value).astray ≡ length l.astray
taken_length true l type value = chosen (may_add l value) where
  chosen : (b : Bool) → length (cond b (with_initial_value l type value) l).astray ≡ length l.astray
  chosen true = refl
  chosen false = refl
taken_length false l type value = noted_length l true type value

pub types : (past : List Remark) → length (session_said past).changes.astray ≡ 256
unfolding session_said
types [] = length-replicate 256 false
types (Begins kind None ∷ past) = types past
types (Begins kind (Some Full) ∷ past) = types past
types (Begins kind (Some KeepTransaction) ∷ past) = types past
types (Goes bytes ∷ past) = types past
types (Cancels ∷ past) = types past
types (Tells Unread ∷ past) = types past
types (Tells Nothing ∷ past) = types past
types (Tells (Returned value) ∷ past) = types past
types (Tells Failed ∷ past) = types past
types (Tells (Recovery states) ∷ past) = types past
types (Tells (States ok all) ∷ past) = types past
types (Tells (Value type value) ∷ past) = taken_length (session_said past).is_login (session_said past).changes type value ∙ types past
types (Tells (Transaction descriptor) ∷ past) = types past
types (Tells ResetDone ∷ past) = back_length (is_full_reset (session_said past).owed) (session_said past).changes (types past)
types (Tells (Done kind status) ∷ past) = types past
types (Ends ∷ past) = types past

none_if : (b : Bool) → telling_if b None ≡ None
none_if true = refl
none_if false = refl

pub none_at_login : (type : ℕ) (past : List Remark) → was_asked past ≡ false → newest_value type past ≡ None
unfolding was_asked newest_value
none_at_login type [] h = refl
none_at_login type (Begins kind None ∷ past) h = absurd (true≢false h)
none_at_login type (Begins kind (Some Full) ∷ past) h = absurd (true≢false h)
none_at_login type (Begins kind (Some KeepTransaction) ∷ past) h = absurd (true≢false h)
none_at_login type (Goes bytes ∷ past) h = none_at_login type past h
none_at_login type (Cancels ∷ past) h = none_at_login type past h
none_at_login type (Tells Unread ∷ past) h = none_at_login type past h
none_at_login type (Tells Nothing ∷ past) h = none_at_login type past h
none_at_login type (Tells (Returned value) ∷ past) h = none_at_login type past h
none_at_login type (Tells Failed ∷ past) h = none_at_login type past h
none_at_login type (Tells (Recovery states) ∷ past) h = none_at_login type past h
none_at_login type (Tells (States ok all) ∷ past) h = none_at_login type past h
none_at_login type (Tells (Value other value) ∷ past) h =
    ap (λ (b : Bool). cond b (telling_by (cond (other == type) (Some value) None) true (newest_value type past)) (newest_value type past)) h ∙ none_at_login type past h
none_at_login type (Tells (Transaction descriptor) ∷ past) h = none_at_login type past h
none_at_login type (Tells ResetDone ∷ past) h = ap (telling_if (is_full_reset (owed_in past))) (none_at_login type past h) ∙ none_if (is_full_reset (owed_in past))
none_at_login type (Tells (Done kind status) ∷ past) h = none_at_login type past h
none_at_login type (Ends ∷ past) h = none_at_login type past h

value_taken : (asked login : Bool) (l : Ledger) (other type : ℕ) (value : List ℕ) (before : Option Telling) → login ≡ not asked → type < length l.astray
    → (asked ≡ false → before ≡ None) → (entry l type ≡ false → IsInitial l.initial.bytes type before)
    → entry (value_taken_in login l other value) type ≡ false
    → IsInitial (value_taken_in login l other value).initial.bytes type (cond asked (telling_by (cond (other == type) (Some value) None) true before) before)
value_taken true true l other type value before is few none home h = absurd (true≢false is)
value_taken true false l other type value before is few none home h =
    told_home (cond (other == type) (Some value) None) true l type before home (sym (noted_at l true other type value few) ∙ h)
value_taken false true l other type value before is few none home h =
    subst (λ (o : Option Telling). IsInitial (value_taken_in true l other value).initial.bytes type o) (sym (none refl)) tt
value_taken false false l other type value before is few none home h = absurd (false≢true is)

pub value_home : (type : ℕ) (few : type < 256) (past : List Remark) → entry (session_said past).changes type ≡ false → IsInitial (session_said past).changes.initial.bytes type (newest_value type past)
unfolding session_said newest_value
value_home type few [] h = tt
value_home type few (Begins kind None ∷ past) h = value_home type few past h
value_home type few (Begins kind (Some Full) ∷ past) h = value_home type few past h
value_home type few (Begins kind (Some KeepTransaction) ∷ past) h = value_home type few past h
value_home type few (Goes bytes ∷ past) h = value_home type few past h
value_home type few (Cancels ∷ past) h = value_home type few past h
value_home type few (Tells Unread ∷ past) h = value_home type few past h
value_home type few (Tells Nothing ∷ past) h = value_home type few past h
value_home type few (Tells (Returned value) ∷ past) h = value_home type few past h
value_home type few (Tells Failed ∷ past) h = value_home type few past h
value_home type few (Tells (Recovery states) ∷ past) h = value_home type few past h
value_home type few (Tells (States ok all) ∷ past) h = value_home type few past h
value_home type few (Tells (Value other value) ∷ past) h =
    let room : type < length (session_said past).changes.astray = omega (arith, few, types past) in
    value_taken (was_asked past) (session_said past).is_login (session_said past).changes other type value (newest_value type past) (at_login past) room (none_at_login type past) (value_home type few past) h
value_home type few (Tells (Transaction descriptor) ∷ past) h = value_home type few past h
value_home type few (Tells ResetDone ∷ past) h =
    let home = back_home (is_full_reset (session_said past).owed) (session_said past).changes type (newest_value type past) (value_home type few past) h in
    subst (λ (o : Option Reset). IsInitial (back_if (is_full_reset (session_said past).owed) (session_said past).changes).initial.bytes type (telling_if (is_full_reset o) (newest_value type past))) (reset_owed past) home
value_home type few (Tells (Done kind status) ∷ past) h = value_home type few past h
value_home type few (Ends ∷ past) h = value_home type few past h

taken_most : (b : Bool) (l : Ledger) (type : ℕ) (value : List ℕ) → (value_taken_in b l type value).initial.most ≡ l.initial.most
taken_most true l type value = chosen (may_add l value) where
  chosen : (b : Bool) → (cond b (with_initial_value l type value) l).initial.most ≡ l.initial.most
  chosen true = refl
  chosen false = refl
taken_most false l type value = refl

pub values_room : (past : List Remark) → (session_said past).changes.initial.most ≡ 1024
unfolding session_said
values_room [] = refl
values_room (Begins kind None ∷ past) = values_room past
values_room (Begins kind (Some Full) ∷ past) = values_room past
values_room (Begins kind (Some KeepTransaction) ∷ past) = values_room past
values_room (Goes bytes ∷ past) = values_room past
values_room (Cancels ∷ past) = values_room past
values_room (Tells Unread ∷ past) = values_room past
values_room (Tells Nothing ∷ past) = values_room past
values_room (Tells (Returned value) ∷ past) = values_room past
values_room (Tells Failed ∷ past) = values_room past
values_room (Tells (Recovery states) ∷ past) = values_room past
values_room (Tells (States ok all) ∷ past) = values_room past
values_room (Tells (Value type value) ∷ past) = taken_most (session_said past).is_login (session_said past).changes type value ∙ values_room past
values_room (Tells (Transaction descriptor) ∷ past) = values_room past
values_room (Tells ResetDone ∷ past) = ap (λ (k : KeptBytes). k.most) (back_initial (is_full_reset (session_said past).owed) (session_said past).changes) ∙ values_room past
values_room (Tells (Done kind status) ∷ past) = values_room past
values_room (Ends ∷ past) = values_room past

added_whole : (l : Ledger) (type : ℕ) (value : List ℕ) → may_add l value ≡ true → (with_initial_value l type value).initial.bytes ≡ l.initial.bytes ++ state_bytes type value
added_whole l type value h =
    let room = ltb-false l.initial.most (length l.initial.bytes + (6 + length value)) (not-true (nat_lt l.initial.most (length l.initial.bytes + (6 + length value))) h) in
    let four : length (to_le_bytes w32 (length value)) ≡ 4 = refl in
    let tail = length-append (to_le_bytes w32 (length value)) value in
    take_all l.initial.most (l.initial.bytes ++ state_bytes type value) (omega (arith, room, four, tail, length-append l.initial.bytes (state_bytes type value)))

value_begun : (asked login : Bool) (l : Ledger) (type : ℕ) (value before : List ℕ) → login ≡ not asked → (login && not (may_add l value)) ≡ false → l.initial.bytes ≡ before
    → (value_taken_in login l type value).initial.bytes ≡ cond asked before (before ++ state_bytes type value)
value_begun true true l type value before is fits e = absurd (true≢false is)
value_begun true false l type value before is fits e = e
value_begun false true l type value before is fits e =
    let may = not-false (may_add l value) fits in
    ap (λ (b : Bool). (cond b (with_initial_value l type value) l).initial.bytes) may ∙ (added_whole l type value may ∙ ap (λ (xs : List ℕ). xs ++ state_bytes type value) e)
value_begun false false l type value before is fits e = absurd (false≢true is)

pub values_begun : (past : List Remark) → (session_said past).is_lost ≡ false → (session_said past).changes.initial.bytes ≡ first_values past
unfolding session_said first_values
values_begun [] h = refl
values_begun (Begins kind None ∷ past) h = values_begun past h
values_begun (Begins kind (Some Full) ∷ past) h = values_begun past h
values_begun (Begins kind (Some KeepTransaction) ∷ past) h = values_begun past h
values_begun (Goes bytes ∷ past) h = values_begun past h
values_begun (Cancels ∷ past) h = values_begun past h
values_begun (Tells Unread ∷ past) h = absurd (true≢false h)
values_begun (Tells Nothing ∷ past) h = values_begun past h
values_begun (Tells (Returned value) ∷ past) h = values_begun past h
values_begun (Tells Failed ∷ past) h = values_begun past h
values_begun (Tells (Recovery states) ∷ past) h = values_begun past (neither (not (accepts_states (session_said past) states)) (session_said past).is_lost h).1
values_begun (Tells (States ok all) ∷ past) h = values_begun past (neither (not all.is_whole) (session_said past).is_lost h).1
values_begun (Tells (Value type value) ∷ past) h =
    let parts = neither ((session_said past).is_login && not (may_add (session_said past).changes value)) (session_said past).is_lost h in
    value_begun (was_asked past) (session_said past).is_login (session_said past).changes type value (first_values past) (at_login past) parts.0 (values_begun past parts.1)
values_begun (Tells (Transaction descriptor) ∷ past) h = values_begun past h
values_begun (Tells ResetDone ∷ past) h = ap (λ (k : KeptBytes). k.bytes) (back_initial (is_full_reset (session_said past).owed) (session_said past).changes) ∙ values_begun past h
values_begun (Tells (Done kind status) ∷ past) h = values_begun past h
values_begun (Ends ∷ past) h = values_begun past h

pub values_home : (past : List Remark) (type : ℕ) → type < 256 → (session_said past).is_lost ≡ false → is_home (session_said past).changes ≡ true
    → IsInitial (first_values past) type (newest_value type past)
values_home past type few read home =
    subst (λ (xs : List ℕ). IsInitial xs type (newest_value type past)) (values_begun past read) (value_home type few past (entry_home (session_said past).changes type home))
