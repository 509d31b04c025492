-- Each finding, behind a history.
use Rattle.std.proofs.Common.{◌≡◌, ◌∙◌, ◌==◌, ◌&&◌, Bool, ℕ, List, [], refl, ap}
use Rattle.std.proofs.Math.Bool.{or-false}
use Rattle.tds_judge.specs.declared.finding.Spot.{Spot}
use Rattle.tds_judge.specs.declared.talk.Event.{Event}
use Rattle.tds_judge.specs.declared.talk.Event.TheVariants as events
use Rattle.tds_judge.specs.declared.talk.Limits.{Limits}
use Rattle.tds_judge.specs.Breaches.{is_dated}
use Rattle.tds_judge.specs.History as history
use Rattle.tds_judge.specs.History.{Said, is_found, talk_behind}
use Rattle.tds_judge.specs.Noting.{ends_by_version, told_by}
use Rattle.tds_judge.specs.Told as told
use Rattle.tds_judge.specs.Told.{IsFoundWhere, has_breach, is_breach, is_breach_number, is_judged}
use Rattle.tds_judge.proofs.Behind.{talk_as}
use Rattle.tds_judge.proofs.Notes.{among_told, any, breach_among, found_told, notes_of}

-- of what an event notes something has this number exactly where it is so
abbrev pub Notes : ℕ → (List Said → Event → Bool) → Type 0
Notes number is = (limits : Limits) (past : List Said) (spot : Spot) (event : Event) → any (λ (m : ℕ). m == number) (notes_of limits (talk_as past) spot event) ≡ is past event

pub stands : (number : ℕ) (is : List Said → Event → Bool) → Notes number is → IsFoundWhere number is
stands number is noted limits past spot event = found_told number limits past spot event ∙ ap (λ (b : Bool). is_judged past && b) (noted limits past spot event)

pub second_by : Notes 1 history.is_second_attention
second_by limits past spot (events.Attention size status) = or-false (history.is_second_attention past (events.Attention size status))
second_by limits past spot _ = refl

pub unanswered_attention_by : Notes 2 history.is_attention_unanswered
unanswered_attention_by limits past spot (events.Request status bulk) = or-false (history.is_attention_unanswered past (events.Request status bulk))
unanswered_attention_by limits past spot _ = refl

pub ignored_by : Notes 3 told.is_attention_ignored
ignored_by limits past spot (events.Answered whole) = or-false (told.is_attention_ignored past (events.Answered whole))
ignored_by limits past spot _ = refl

pub unasked_by : Notes 4 told.is_acknowledgement_unasked
unasked_by limits past spot (events.Says token) = or-false (told.is_acknowledgement_unasked past (events.Says token))
unasked_by limits past spot _ = refl

pub answering_by : Notes 5 history.is_request_while_answering
answering_by limits past spot (events.Request status bulk) = or-false (history.is_request_while_answering past (events.Request status bulk))
answering_by limits past spot _ = refl

pub unread_by : Notes 6 told.is_answer_unread
unread_by limits past spot events.Closed = or-false (told.is_answer_unread past events.Closed)
unread_by limits past spot _ = refl

pub kept_by : Notes 7 told.is_cancelled_begin_kept
kept_by limits past spot (events.Names descriptor) = or-false (told.is_cancelled_begin_kept past (events.Names descriptor))
kept_by limits past spot _ = refl

pub wrong_by : Notes 8 history.is_wrong_descriptor
wrong_by limits past spot (events.Names descriptor) = or-false (history.is_wrong_descriptor past (events.Names descriptor))
wrong_by limits past spot _ = refl

pub ended_by : Notes 9 told.is_ended_unheard
ended_by limits past spot (events.Names descriptor) = or-false (told.is_ended_unheard past (events.Names descriptor))
ended_by limits past spot _ = refl

pub open_reset_by : Notes 10 told.is_reset_in_transaction
open_reset_by limits past spot (events.Request status bulk) = or-false (told.is_reset_in_transaction past (events.Request status bulk))
open_reset_by limits past spot _ = refl

idle_by : (limits : Limits) (past : List Said) (spot : Spot) (event : Event) → any (λ (m : ℕ). m == 11) (notes_of limits (talk_as past) spot event) ≡ told.is_idle limits past spot event
idle_by limits past spot (events.Request status bulk) = refl
idle_by limits past spot events.Closed = or-false (told.is_idle_at limits past spot.time)
idle_by limits past spot _ = refl

pub idle_told : (limits : Limits) (past : List Said) (spot : Spot) (event : Event) → is_found 11 (told_by [] limits (talk_behind past) spot event) ≡ is_judged past && told.is_idle limits past spot event
idle_told limits past spot event = found_told 11 limits past spot event ∙ ap (λ (b : Bool). is_judged past && b) (idle_by limits past spot event)

pub left_by : Notes 12 told.is_transaction_left
left_by limits past spot events.Closed = or-false (told.is_transaction_left past events.Closed)
left_by limits past spot _ = refl

pub later_by : Notes 13 (λ past. told.is_late_reset)
later_by limits past spot (events.Later status) = or-false (told.is_late_reset (events.Later status))
later_by limits past spot _ = refl

pub both_by : Notes 14 history.is_both_resets
both_by limits past spot (events.Request status bulk) = or-false (history.is_both_resets past (events.Request status bulk))
both_by limits past spot _ = refl

pub unanswered_by : Notes 15 told.is_reset_unanswered
unanswered_by limits past spot (events.Answered whole) = or-false (told.is_reset_unanswered past (events.Answered whole))
unanswered_by limits past spot _ = refl

pub twice_by : Notes 16 told.is_reset_twice
twice_by limits past spot (events.Request status bulk) = or-false (told.is_reset_twice past (events.Request status bulk))
twice_by limits past spot _ = refl

pub reused_by : Notes 17 told.is_reused
reused_by limits past spot (events.Request status bulk) = or-false (told.is_reused past (events.Request status bulk))
reused_by limits past spot _ = refl

pub behind_by : Notes 18 told.is_behind_end
behind_by limits past spot (events.Says token) = or-false (told.is_behind_end past (events.Says token))
behind_by limits past spot _ = refl

pub endless_by : Notes 19 told.is_without_end
endless_by limits past spot (events.Answered whole) = or-false (told.is_without_end past (events.Answered whole))
endless_by limits past spot _ = refl

pub cut_by : Notes 20 told.is_cut_token
cut_by limits past spot (events.Answered whole) = or-false (told.is_cut_token past (events.Answered whole))
cut_by limits past spot _ = refl

pub token_by : Notes 21 told.is_wrong_token
token_by limits past spot (events.Stops ending value) = or-false (told.is_wrong_token past (events.Stops ending value))
token_by limits past spot _ = refl

pub size_by : Notes 22 told.is_wrong_size
size_by limits past spot (events.Packet size fills) = or-false (told.is_wrong_size past (events.Packet size fills))
size_by limits past spot _ = refl

pub length_by : Notes 23 (λ past. told.is_wrong_length)
length_by limits past spot (events.Stops ending value) = or-false (told.is_wrong_length (events.Stops ending value))
length_by limits past spot _ = refl

pub attention_by : Notes 24 (λ past. told.is_wrong_attention)
attention_by limits past spot (events.Attention size status) = or-false (told.is_wrong_attention (events.Attention size status))
attention_by limits past spot _ = refl

pub unfinished_by : Notes 25 (λ past. told.is_unfinished_message)
unfinished_by limits past spot (events.Packet size fills) = refl
unfinished_by limits past spot _ = refl

pub unclear_by : Notes 26 (λ past. told.is_unclear_change)
unclear_by limits past spot (events.Says token) = or-false (told.is_unclear_change (events.Says token))
unclear_by limits past spot _ = refl

pub taken_up_by : Notes 27 (λ past. told.is_taken_up)
taken_up_by limits past spot (events.Packet size fills) = refl
taken_up_by limits past spot _ = refl

pub encrypted_by : Notes 28 (λ past. told.is_encrypted)
encrypted_by limits past spot (events.Stops ending value) = or-false (told.is_encrypted (events.Stops ending value))
encrypted_by limits past spot _ = refl

pub no_tds_by : Notes 29 (λ past. told.is_no_tds)
no_tds_by limits past spot (events.Stops ending value) = or-false (told.is_no_tds (events.Stops ending value))
no_tds_by limits past spot _ = refl

pub version_by : Notes 30 told.is_other_version
version_by limits past spot (events.Stops ending value) = or-false (ends_by_version ending (is_dated past))
version_by limits past spot _ = refl

pub compute_by : Notes 31 (λ past. told.is_compute)
compute_by limits past spot (events.Stops ending value) = or-false (told.is_compute (events.Stops ending value))
compute_by limits past spot _ = refl

pub unawaited_by : Notes 32 told.is_answer_unasked
unawaited_by limits past spot events.Answer = or-false (told.is_answer_unasked past events.Answer)
unawaited_by limits past spot _ = refl

pub early_by : Notes 33 told.is_lent_early
early_by limits past spot events.Borrowed = or-false (told.is_lent_early past events.Borrowed)
early_by limits past spot _ = refl

pub told_unasked_by : Notes 34 told.is_reset_unasked
told_unasked_by limits past spot (events.Says token) = or-false (told.is_reset_unasked past (events.Says token))
told_unasked_by limits past spot _ = refl

pub changed_by : Notes 35 told.is_wrong_change
changed_by limits past spot (events.Says token) = or-false (told.is_wrong_change past (events.Says token))
changed_by limits past spot _ = refl

pub none_by : Notes 36 told.is_none_ended
none_by limits past spot (events.Says token) = or-false (told.is_none_ended past (events.Says token))
none_by limits past spot _ = refl

pub ignore_by : Notes 37 (λ past. told.is_ignore_unended)
ignore_by limits past spot (events.Request status bulk) = or-false (told.is_ignore_unended (events.Request status bulk))
ignore_by limits past spot (events.Later status) = or-false (told.is_ignore_unended (events.Later status))
ignore_by limits past spot _ = refl

pub direction_by : Notes 38 (λ past. told.is_wrong_direction)
direction_by limits past spot (events.Stops ending value) = or-false (told.is_wrong_direction (events.Stops ending value))
direction_by limits past spot _ = refl

pub last_by : Notes 39 told.is_not_last
last_by limits past spot (events.Says token) = or-false (told.is_not_last past (events.Says token))
last_by limits past spot _ = refl

pub headers_by : Notes 40 told.is_wrong_headers
headers_by limits past spot (events.Headers fault) = or-false (told.is_wrong_headers past (events.Headers fault))
headers_by limits past spot _ = refl

pub not_full_by : Notes 41 told.is_not_full
not_full_by limits past spot (events.Packet size fills) = or-false (told.is_not_full past (events.Packet size fills))
not_full_by limits past spot _ = refl

pub before_by : Notes 42 told.is_before_login
before_by limits past spot (events.Request status bulk) = or-false (told.is_before_login past (events.Request status bulk))
before_by limits past spot _ = refl

pub late_by : Notes 43 told.is_reset_late
late_by limits past spot (events.Says token) = or-false (told.is_reset_late past (events.Says token))
late_by limits past spot _ = refl

pub too_early_by : Notes 44 told.is_early
too_early_by limits past spot events.Answer = or-false (told.is_early past events.Answer)
too_early_by limits past spot _ = refl

pub bulk_by : Notes 45 (λ past. told.is_bulk_reset)
bulk_by limits past spot (events.Request status bulk) = or-false (told.is_bulk_reset (events.Request status bulk))
bulk_by limits past spot _ = refl

-- ---- All breaches

breach_by : (limits : Limits) (past : List Said) (spot : Spot) (event : Event) → any is_breach_number (notes_of limits (talk_as past) spot event) ≡ told.breaks_rules past event
breach_by limits past spot (events.Packet size fills) = refl
breach_by limits past spot _ = refl

pub breach_told : (limits : Limits) (past : List Said) (spot : Spot) (event : Event) → has_breach (told_by [] limits (talk_behind past) spot event) ≡ is_breach past event
breach_told limits past spot event =
    breach_among (told_by [] limits (talk_behind past) spot event)
    ∙ (among_told is_breach_number limits past spot event ∙ ap (λ (b : Bool). is_judged past && b) (breach_by limits past spot event))
