-- A session rests where there is no reason why not.
use Rattle.std.proofs.Common.{◌≡◌, ◌∙◌, ℕ, ◌+◌, Bool, true, false, List, [], ◌∷◌, Option, Some, None, refl, sym, ap}
use Rattle.std.specs.List.{list_any}
use Rattle.std.specs.Prelude.{◌&&◌, ◌||◌, ◌==◌, not, nat_lt, if◌then◌else◌}
use Rattle.tds_state.specs.declared.reasons.Reason.{Reason}
use Rattle.tds_state.specs.declared.reasons.Reason.TheVariants as reasons
use Rattle.tds_state.specs.declared.session.Session.{Session}
use Rattle.tds_state.specs.Asking.{may_make_handles}
use Rattle.tds_state.specs.Handles.{are_closed}
use Rattle.tds_state.specs.Ledgers.{first_astray, first_set, is_home}
use Rattle.tds_state.specs.Reasons.{first_reason, is_no_reason, reason_astray, reason_due, reason_of_change, reason_of_state, reason_open, session_reason}
use Rattle.tds_state.specs.Sessions.{has_nothing_due, has_nothing_open, is_owed, is_quiet, is_told_home, session_rests}

none_first : (a b : Option Reason) → is_no_reason (first_reason a b) ≡ (is_no_reason a && is_no_reason b)
none_first None b = refl
none_first (Some r) b = refl

abbrev is_none : Option ℕ → Bool
is_none None = true
is_none (Some n) = false

none_set : (n : ℕ) (xs : List Bool) → not (list_any (λ (b : Bool). b) xs) ≡ is_none (first_set n xs)
unfolding first_set
none_set n [] = refl
none_set n (true ∷ xs) = refl
none_set n (false ∷ xs) = none_set (n + 1) xs

astray_by : (told lost fit : Bool) (state change : Option ℕ) → (told && (not lost && (fit && (is_none state && is_none change))))
    ≡ is_no_reason (if not told then Some reasons.NoRecovery else if lost then Some reasons.Unread else if not fit then Some (reasons.Unrecoverable state)
    else first_reason (reason_of_state state) (reason_of_change change))
astray_by false lost fit state change = refl
astray_by true true fit state change = refl
astray_by true false false state change = refl
astray_by true false true (Some id) change = refl
astray_by true false true None (Some kind) = refl
astray_by true false true None None = refl

open_by : (none owed pinned makes closed : Bool) → (none && (not owed && (not pinned && (not makes && closed))))
    ≡ is_no_reason (if not none then Some reasons.Transaction else if owed then Some reasons.Reset else if pinned || makes then Some reasons.Untold
    else if not closed then Some reasons.Handle else None)
open_by false owed pinned makes closed = refl
open_by true true pinned makes closed = refl
open_by true false true makes closed = refl
open_by true false false true closed = refl
open_by true false false false false = refl
open_by true false false false true = refl

due_by : (quiet awaits few : Bool) → (quiet && (not awaits && few))
    ≡ is_no_reason (if not quiet then Some reasons.Answer else if awaits then Some reasons.Cancel else if not few then Some reasons.Bulk else None)
due_by false awaits few = refl
due_by true true few = refl
due_by true false false = refl
due_by true false true = refl

pub rests_without : (s : Session) → session_rests s ≡ is_no_reason (session_reason s)
rests_without s =
    let told : is_told_home s ≡ is_no_reason (reason_astray s) =
    ap (λ (b : Bool). s.is_acknowledged && (not s.is_lost && (s.is_recoverable && (b && is_home s.changes)))) (none_set 0 s.states.astray)
    ∙ (ap (λ (b : Bool). s.is_acknowledged && (not s.is_lost && (s.is_recoverable && (is_none (first_astray s.states) && b)))) (none_set 0 s.changes.astray)
    ∙ astray_by s.is_acknowledged s.is_lost s.is_recoverable (first_astray s.states) (first_astray s.changes)) in
    let open_is : has_nothing_open s ≡ is_no_reason (reason_open s) = open_by (s.transaction == 0) (is_owed s.owed) s.is_pinned (may_make_handles s.asked) (are_closed s.handles) in
    let due_is : has_nothing_due s ≡ is_no_reason (reason_due s) = due_by (is_quiet s.flight) s.awaits (nat_lt s.asked.letters 8) in
    ap (λ (b : Bool). b && (has_nothing_open s && has_nothing_due s)) told
    ∙ (ap (λ (b : Bool). is_no_reason (reason_astray s) && (b && has_nothing_due s)) open_is
    ∙ (ap (λ (b : Bool). is_no_reason (reason_astray s) && (is_no_reason (reason_open s) && b)) due_is
    ∙ (ap (λ (b : Bool). is_no_reason (reason_astray s) && b) (sym (none_first (reason_open s) (reason_due s)))
    ∙ sym (none_first (reason_astray s) (first_reason (reason_open s) (reason_due s))))))
