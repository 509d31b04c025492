-- Where each finding stands: what is so of the event that it stands at, by what was said before,
-- the newest first.
use Rattle.std.specs.Prelude.{◌≡◌, ℕ, ◌-◌, ◌==◌, ◌&&◌, ◌||◌, not, nat_lt, Bool, true, false, List, [], ◌∷◌, ◌++◌}
use Rattle.tds_judge.specs.declared.finding.Finding.{Finding}
use Rattle.tds_judge.specs.declared.finding.Spot.{Spot}
use Rattle.tds_judge.specs.declared.talk.Ending.{Ending}
use Rattle.tds_judge.specs.declared.talk.Event.{Event}
use Rattle.tds_judge.specs.declared.talk.Event.TheVariants as events
use Rattle.tds_judge.specs.declared.talk.Limits.{Limits}
use Rattle.tds_wire.specs.declared.told.Token.{Token}
use Rattle.tds_judge.specs.Breaches.{asked_last, gone_last, idle_since, has_worked, is_asking, is_awaited_answer, is_bulk, is_dated, is_entering, is_lent, is_other_shown, is_over, is_plain_answer, is_unheard, size_told}
use Rattle.tds_judge.specs.Framing.{Run}
use Rattle.tds_judge.specs.Findings.{is_note, is_risk, number_of}
use Rattle.tds_judge.specs.History.{Said, Tells, asks_of, has_asked_since, has_ended, is_acknowledged, is_another, is_attention_unanswered, is_both_resets, is_cleared, is_forgotten, is_found, is_out, is_request_while_answering, is_second_attention, is_twice, is_underway, is_wrong_descriptor, last_told, of_names, of_request, owed_of, talk_behind}
use Rattle.tds_judge.specs.Talking.{acknowledges, changes_wrongly, descriptor_of, ends_none, says_more, ignores_early, is_asked, is_full, is_known, is_request, is_short, is_unclear, reset_of, tells_reset}
use Rattle.tds_judge.specs.Noting.{ends_by_compute, ends_by_direction, ends_by_length, ends_by_protocol, ends_by_tls, ends_by_token, ends_by_version, told_by}

-- ---- What is so of one kind of event, and of nothing else

abbrev pub of_attention_as : Event → (ℕ → ℕ → Bool) → Bool
of_attention_as (events.Attention size status) is = is size status
of_attention_as _ is = false

abbrev pub of_packet : Event → (ℕ → Bool → Bool) → Bool
of_packet (events.Packet size fills) is = is size fills
of_packet _ is = false

-- where ALL_HEADERS of a request is wrong
abbrev pub of_headers : Event → Bool → Bool
of_headers (events.Headers fault) is = is
of_headers _ is = false

-- where a bulk load begins, by its status
abbrev pub of_bulk : Event → (ℕ → Bool) → Bool
of_bulk (events.Request status bulk) is = bulk && is status
of_bulk _ is = false

abbrev pub of_later : Event → (ℕ → Bool) → Bool
of_later (events.Later status) is = is status
of_later _ is = false

-- where a request's packet begins, by its status
abbrev pub of_status : Event → (ℕ → Bool) → Bool
of_status (events.Request status bulk) is = is status
of_status (events.Later status) is = is status
of_status _ is = false

abbrev pub of_token : Event → (Token → Bool) → Bool
of_token (events.Says token) is = is token
of_token _ is = false

-- where an answer ends, between two tokens or not
abbrev pub of_answer : Event → (Bool → Bool) → Bool
of_answer (events.Answered whole) is = is whole
of_answer _ is = false

abbrev pub of_ending : Event → (Ending → Bool) → Bool
of_ending (events.Stops ending value) is = is ending
of_ending _ is = false

-- where an answer begins
abbrev pub of_begin : Event → Bool → Bool
of_begin events.Answer is = is
of_begin _ is = false

-- where the connection is lent
abbrev pub of_loan : Event → Bool → Bool
of_loan events.Borrowed is = is
of_loan _ is = false

abbrev pub of_close : Event → Bool → Bool
of_close events.Closed is = is
of_close _ is = false

abbrev pub is_taken_up : Event → Bool
is_taken_up events.TakenUp = true
is_taken_up _ = false

abbrev pub is_unfinished_message : Event → Bool
is_unfinished_message events.Unfinished = true
is_unfinished_message _ = false

-- ---- Attentions

-- another answer ends behind that of the cancelled request, to a request that was sent since, and
-- nothing acknowledges
abbrev pub is_attention_ignored : List Said → Event → Bool
is_attention_ignored past event =
    of_answer event (λ whole. is_out past
    && (not (is_acknowledged past) && (has_asked_since past && has_ended past)))

abbrev pub is_acknowledgement_unasked : List Said → Event → Bool
is_acknowledgement_unasked past event =
    of_token event (λ token. acknowledges token
    && (is_request (asked_last past) && (not (is_out past) && not (is_twice past))))

-- one packet, without data, whose status says nothing but that it ends its message
abbrev pub is_wrong_attention : Event → Bool
is_wrong_attention event =
    of_attention_as event (λ size status. not (size == 8) || not (status == 1))

-- ---- Transactions

abbrev pub is_cancelled_begin_kept : List Said → Event → Bool
is_cancelled_begin_kept past event =
    of_names event (λ descriptor. is_another (last_told past) (asks_of past) descriptor
    && is_unheard past)

abbrev pub is_ended_unheard : List Said → Event → Bool
is_ended_unheard past event =
    of_names event (λ descriptor. is_another (last_told past) (asks_of past) descriptor
    && (not (gone_last past == 0) && (gone_last past == descriptor)))

-- one begins inside another or without a descriptor, or another one ends than was told last
-- (2.2.7.9)
abbrev pub is_wrong_change : List Said → Event → Bool
is_wrong_change past event = of_token event (changes_wrongly (last_told past))

-- one ends, and none is open; behind a reset the end of what it ended may be told
abbrev pub is_none_ended : List Said → Event → Bool
is_none_ended past event =
    of_token event (λ token. ends_none (last_told past) token && not (is_cleared past))

abbrev pub is_open : List Said → Bool
is_open past = not (descriptor_of (last_told past) == 0)

abbrev pub is_reset_in_transaction : List Said → Event → Bool
is_reset_in_transaction past event =
    of_request event (λ status. is_full (reset_of status) && is_open past)

abbrev pub is_transaction_left : List Said → Event → Bool
is_transaction_left past event = of_close event (is_open past)

abbrev pub is_idle_at : Limits → List Said → ℕ → Bool
is_idle_at limits past time =
    is_open past
    && (not (is_underway past) &&
    (not (limits.idle == 0) && nat_lt limits.idle (time - idle_since past)))

abbrev pub is_idle : Limits → List Said → Spot → Event → Bool
is_idle limits past spot event =
    of_request event (λ status. is_idle_at limits past spot.time)
    || of_close event (is_idle_at limits past spot.time)

-- ---- Resets

abbrev pub is_late_reset : Event → Bool
is_late_reset event = of_later event (λ status. is_asked (reset_of status))

-- a bulk load asks for a reset (2.2.3.1.2); that it isn't told done is nobody's fault
abbrev pub is_bulk_reset : Event → Bool
is_bulk_reset event = of_bulk event (λ status. is_asked (reset_of status))

abbrev pub is_reset_twice : List Said → Event → Bool
is_reset_twice past event =
    of_request event (λ status. is_asked (reset_of status)
    && (is_asked (asks_of past) && is_cleared past))

abbrev pub is_reused : List Said → Event → Bool
is_reused past event = of_request event (λ status. is_lent past && not (is_asked (reset_of status)))

-- a reset is told done, and none is to be: where the request that asked for it is to be ignored,
-- too
abbrev pub is_reset_unasked : List Said → Event → Bool
is_reset_unasked past event =
    of_token event (λ token. tells_reset token
    && (is_request (asked_last past) && (not (is_asked (owed_of past)) || is_forgotten past)))

-- a reset that is to be told done is told behind what was asked for (2.2.3.1.2)
abbrev pub is_reset_late : List Said → Event → Bool
is_reset_late past event =
    of_token event (λ token. tells_reset token && (is_asked (owed_of past) && has_worked past))

-- lent while an answer isn't read, or an attention isn't acknowledged
abbrev pub is_lent_early : List Said → Event → Bool
is_lent_early past event =
    of_loan event (is_out past || (is_underway past && is_request (asked_last past)))

-- ---- Answers

-- an answer begins, and no request, no login and no attention awaits one, nor is it of a message
-- that was to be ignored
abbrev pub is_answer_unasked : List Said → Event → Bool
is_answer_unasked past event =
    of_begin event (is_known (asked_last past)
    && (not (is_underway past) &&
    (not (is_out past) && (not (is_twice past) && not (is_forgotten past)))))

-- an answer begins before the last packet of its request (2.2.3.1.2)
abbrev pub is_early : List Said → Event → Bool
is_early past event = of_begin event (is_asking past)

abbrev pub is_reset_unanswered : List Said → Event → Bool
is_reset_unanswered past event =
    of_answer event (λ whole. is_plain_answer past
    && (is_over past &&
    (((is_asked (asks_of past) && not (is_forgotten past)) && not (is_cleared past))
    && not (is_bulk past))))

abbrev pub is_without_end : List Said → Event → Bool
is_without_end past event =
    of_answer event (λ whole. is_plain_answer past && (whole && not (is_over past)))

abbrev pub is_cut_token : List Said → Event → Bool
is_cut_token past event =
    of_answer event (λ whole. is_plain_answer past && (not whole && is_dated past))

abbrev pub is_behind_end : List Said → Event → Bool
is_behind_end past event =
    of_token event (λ token. is_over past
    && (is_request (asked_last past) && (not (is_out past) && not (acknowledges token))))

-- a token behind an acknowledgement in its message, or an acknowledgement that says that more come
-- (2.2.7.6), of the answer to a request
abbrev pub is_not_last : List Said → Event → Bool
is_not_last past event =
    of_token event (λ token. is_request (asked_last past)
    && ((is_over past && is_acknowledged past) || (acknowledges token && says_more token)))

abbrev pub is_unclear_change : Event → Bool
is_unclear_change event = of_token event is_unclear

abbrev pub is_answer_unread : List Said → Event → Bool
is_answer_unread past event = of_close event (is_underway past && is_request (asked_last past))

-- ---- Packets

abbrev pub is_wrong_size : List Said → Event → Bool
is_wrong_size past event =
    of_packet event (λ size fills. not (size_told past == 0) && nat_lt (size_told past) size)

-- a packet that has to be full is shorter than was told (2.2.3.1.3)
abbrev pub is_not_full : List Said → Event → Bool
is_not_full past event = of_packet event (λ size fills. fills && nat_lt size (size_told past))

-- of TDS 7.2 and later, which was shown (2.2.5.3)
abbrev pub is_wrong_headers : List Said → Event → Bool
is_wrong_headers past event = of_headers event (is_dated past)

-- a request before a login's end (2.2.7.14)
abbrev pub is_before_login : List Said → Event → Bool
is_before_login past event = of_request event (λ status. is_entering past)

abbrev pub is_wrong_token : List Said → Event → Bool
is_wrong_token past event = of_ending event (λ ending. ends_by_token ending (is_dated past))

-- ---- What isn't judged

-- A version before 7.2, or 8.0: LOGIN7's; or, where none of 7.2 to 7.4 was shown, a DONE isn't one
-- of 13 bytes, an answer that wasn't cancelled ends inside a token, or bytes of an answer are no
-- token.
abbrev pub is_other_version : List Said → Event → Bool
is_other_version past event =
    of_token event (λ token. is_short token && not (is_dated past))
    || (of_answer event (λ whole. is_awaited_answer past && (not whole && not (is_dated past)))
    || of_ending event (λ ending. ends_by_version ending (is_dated past)))

abbrev pub is_compute : Event → Bool
is_compute event = of_ending event ends_by_compute

-- nothing is found behind another version
abbrev pub is_judged : List Said → Bool
is_judged past = not (is_other_shown past)

-- behind any history, and whatever is said next, a finding of this number stands exactly where it
-- is so
abbrev pub IsFoundWhere : ℕ → (List Said → Event → Bool) → Type 0
IsFoundWhere number is =
    (limits : Limits) (past : List Said) (spot : Spot) (event : Event)
    → is_found number (told_by [] limits (talk_behind past) spot event)
    ≡ (is_judged past && is past event)

-- a packet to ignore ends its message (2.2.3.1.2)
abbrev pub is_ignore_unended : Event → Bool
is_ignore_unended event = of_status event ignores_early

-- a packet of a type of the other direction (2.2.3.1.1)
abbrev pub is_wrong_direction : Event → Bool
is_wrong_direction event = of_ending event ends_by_direction

abbrev pub is_encrypted : Event → Bool
is_encrypted event = of_ending event ends_by_tls

abbrev pub is_no_tds : Event → Bool
is_no_tds event = of_ending event ends_by_protocol

abbrev pub is_wrong_length : Event → Bool
is_wrong_length event = of_ending event ends_by_length

-- ---- All breaches of MS-TDS

abbrev pub breaks_rules : List Said → Event → Bool
breaks_rules past event =
    is_second_attention past event || (is_wrong_attention event
    || (is_attention_unanswered past event ||
    (is_request_while_answering past event || (is_both_resets past event
    || (is_wrong_descriptor past event ||
    (is_cancelled_begin_kept past event || (is_ended_unheard past event
    || (is_acknowledgement_unasked past event
    || (is_cut_token past event ||
    (is_without_end past event
    || (is_reset_unanswered past event || (is_attention_ignored past event
    || (is_late_reset event || (is_wrong_token past event || (is_wrong_size past event
    || (is_wrong_length event ||
    (is_wrong_direction event
    || (is_ignore_unended event ||
    (is_before_login past event || (is_wrong_headers past event
    || (is_answer_unasked past event || (is_wrong_change past event || (is_not_last past event
    || (is_lent_early past event || is_unfinished_message event))))))))))))))))))))))))

abbrev pub is_breach : List Said → Event → Bool
is_breach past event = is_judged past && breaks_rules past event

-- a finding of level breach is among these
abbrev pub is_breach_number : ℕ → Bool
is_breach_number n = not (is_risk n) && not (is_note n)

abbrev pub has_breach : List Finding → Bool
has_breach [] = false
has_breach (finding ∷ others) = is_breach_number (number_of finding.name) || has_breach others

-- ---- Over a whole run

-- one of these events, the newest first, is a breach by what was said before it
unfoldable pub is_broken : List Said → List Said → Bool
is_broken past [] = false
is_broken past (x ∷ later) = is_broken past later || is_breach (later ++ past) x.event

-- From one run to another events were said behind this history, and a breach is found where one of
-- them is one, or where one was found before.
pub record Breaks (past : List Said) (before after : Run) : Type 0 where
  pub tells : Tells before after
  pub found : has_breach after.told ≡ has_breach before.told || is_broken past tells.events
