-- What is wrong with what is said, by what was said so far.
use Rattle.std.specs.Prelude.{ℕ, ◌-◌, ◌==◌, ◌&&◌, ◌||◌, not, nat_lt, Bool, true, false, List, if◌then◌else◌}
use Rattle.tds_judge.specs.declared.finding.Finding.{Finding}
use Rattle.tds_judge.specs.declared.finding.Name.TheVariants as names
use Rattle.tds_judge.specs.declared.finding.Spot.{Spot}
use Rattle.tds_judge.specs.declared.talk.Ending.{Ending}
use Rattle.tds_judge.specs.declared.talk.Ending.TheVariants as endings
use Rattle.tds_judge.specs.declared.talk.Event.{Event}
use Rattle.tds_judge.specs.declared.talk.Event.TheVariants as events
use Rattle.tds_judge.specs.declared.talk.Limits.{Limits}
use Rattle.tds_judge.specs.declared.talk.Talk.{Talk}
use Rattle.tds_judge.specs.declared.headers.HeaderFault.{HeaderFault}
use Rattle.tds_wire.specs.declared.told.Token.{Token}
use Rattle.tds_judge.specs.Findings.{noted}
use Rattle.tds_judge.specs.Headers.{header_fault_number}
use Rattle.tds_judge.specs.Talking.{acknowledges, changes_wrongly, descriptor_of, ended_descriptor, ends_none, says_more, ignores_early, is_asked, is_awaited, is_both, is_full, is_known, is_plain, is_request, is_short, is_told, is_unclear, owed, reset_of, tells_reset}

-- in a transaction, with nothing asked for since longer than the limit
abbrev pub is_idle_long : Limits → Talk → ℕ → Bool
is_idle_long limits t time =
    not (descriptor_of t.transaction == 0)
    && (not t.underway && (not (limits.idle == 0) && nat_lt limits.idle (time - t.since)))

-- of the attention, and of the answer before
abbrev pub turn_noted : List Finding → Talk → Spot → List Finding
turn_noted xs t spot =
    noted (noted xs spot t.attention names.AttentionUnanswered 0) spot (t.underway
    && not t.attention) names.RequestWhileAnswering 0

-- of the reset bits
abbrev pub reset_noted : List Finding → Talk → Spot → ℕ → List Finding
reset_noted xs t spot status =
    noted
    (noted
    (noted
    (noted xs spot (is_both (reset_of status)) names.BothResets status)
    spot (is_full (reset_of status)
    && not (descriptor_of t.transaction == 0)) names.ResetEndsTransaction
    (descriptor_of t.transaction))
    spot (is_asked (reset_of status) && (is_asked t.reset && t.reset_done)) names.ResetTwice 0)
    spot (t.borrowed && not (is_asked (reset_of status))) names.SessionReusedWithoutReset 0

abbrev pub request_noted : List Finding → Limits → Talk → Spot → ℕ → Bool → List Finding
request_noted xs limits t spot status bulk =
    noted
    (noted
    (noted
    (noted (reset_noted (turn_noted xs t spot) t spot status) spot (is_idle_long limits t spot.time)
    names.IdleInTransaction (spot.time - t.since))
    spot (ignores_early status) names.IgnoreUnended status)
    spot t.entering names.RequestBeforeLogin 0)
    spot (bulk && is_asked (reset_of status)) names.ResetOnBulkLoad status

abbrev pub attention_noted : List Finding → Talk → Spot → ℕ → ℕ → List Finding
attention_noted xs t spot size status =
    noted (noted xs spot t.attention names.SecondAttention 0) spot (not (size == 8)
    || not (status == 1)) names.WrongAttention size

-- another transaction than was told last, but none is named where a full reset is asked for
abbrev pub names_wrongly : Talk → ℕ → Bool
names_wrongly t descriptor =
    is_told t.transaction
    && (not (descriptor_of t.transaction == descriptor) && not
    (is_full t.reset && (descriptor == 0)))

abbrev pub names_noted : List Finding → Talk → Spot → ℕ → List Finding
names_noted xs t spot descriptor =
    noted
    (noted
    (noted xs spot (names_wrongly t descriptor) names.WrongDescriptor (descriptor_of t.transaction))
    spot (names_wrongly t descriptor
    && t.begun_unheard) names.CancelledBeginKept (descriptor_of t.transaction))
    spot (names_wrongly t descriptor
    && (not (t.ended == 0) && (t.ended == descriptor))) names.TransactionEndedUnheard descriptor

-- nobody asked for the acknowledgement
abbrev pub is_unasked : Talk → Token → Bool
is_unasked t token =
    acknowledges token && (is_request t.asked && (not t.attention && not t.doubled))

abbrev pub is_behind : Talk → Token → Bool
is_behind t token =
    t.is_final && (is_request t.asked && (not t.attention && not (acknowledges token)))

-- no reset is to be told done, nor one of a request that is to be ignored
abbrev pub resets_unasked : Talk → Token → Bool
resets_unasked t token =
    tells_reset token
    && (is_request t.asked && (not (is_asked (owed t.reset_done t.reset)) || t.forgotten))

-- a reset that is to be told done is told behind what was asked for
abbrev pub resets_late : Talk → Token → Bool
resets_late t token = tells_reset token && (is_asked (owed t.reset_done t.reset) && t.worked)

-- behind a reset the end of what it ended may be told
abbrev pub ends_in_vain : Talk → Token → Bool
ends_in_vain t token = ends_none t.transaction token && not t.reset_done

abbrev pub goes_on_acknowledged : Talk → Token → Bool
goes_on_acknowledged t token =
    is_request t.asked
    && ((t.is_final && t.acknowledges) || (acknowledges token && says_more token))

-- of what changes
abbrev pub change_noted : List Finding → Talk → Spot → Token → List Finding
change_noted xs t spot token =
    noted
    (noted
    (noted
    (noted
    (noted xs spot (resets_unasked t token) names.ResetUnasked 0)
    spot (changes_wrongly t.transaction token) names.WrongChange (descriptor_of t.transaction))
    spot (ends_in_vain t token) names.NoneEnded (ended_descriptor token))
    spot (goes_on_acknowledged t token) names.AcknowledgementNotLast token.kind)
    spot (resets_late t token) names.ResetToldLate 0

abbrev pub token_noted : List Finding → Talk → Spot → Token → List Finding
token_noted xs t spot token =
    change_noted
    (noted
    (noted
    (noted
    (noted xs spot (is_unasked t token) names.AcknowledgementUnasked 0)
    spot (is_behind t token) names.TokenAfterFinalDone token.kind)
    spot (is_unclear token) names.UnclearChange token.kind)
    spot (is_short token && not t.dated) names.OtherVersion 0)
    t spot token

-- nothing is to be answered
abbrev pub is_unawaited : Talk → Bool
is_unawaited t =
    is_known t.asked && (not t.underway && (not t.attention && (not t.doubled && not t.forgotten)))

abbrev pub begin_noted : List Finding → Talk → Spot → List Finding
begin_noted xs t spot =
    noted (noted xs spot (is_unawaited t) names.AnswerUnasked 0) spot t.asking names.AnswerBeforeEnd
    0

-- an answer ends inside a token, where TDS 7.2 or later wasn't shown
abbrev pub is_of_another_version : Talk → Bool → Bool
is_of_another_version t whole = is_awaited t && (not whole && not t.dated)

-- a reset is still to be told done, neither of a bulk load nor of a request that is to be ignored
abbrev pub is_reset_due : Talk → Bool
is_reset_due t = ((is_asked t.reset && not t.forgotten) && not t.reset_done) && not t.bulk

abbrev pub answer_noted : List Finding → Talk → Spot → Bool → List Finding
answer_noted xs t spot whole =
    noted
    (noted
    (noted
    (noted
    (noted xs spot (is_plain t && (not whole && t.dated)) names.CutToken 0)
    spot (is_of_another_version t whole) names.OtherVersion 0)
    spot (is_plain t && (whole && not t.is_final)) names.NoFinalDone 0)
    spot (is_plain t && (t.is_final && is_reset_due t)) names.ResetUnanswered 0)
    spot (t.attention && (not t.acknowledges && (t.late && t.ended_since))) names.AttentionIgnored 0

abbrev pub close_noted : List Finding → Limits → Talk → Spot → List Finding
close_noted xs limits t spot =
    noted
    (noted
    (noted xs spot (t.underway && is_request t.asked) names.AnswerUnread 0)
    spot (is_idle_long limits t spot.time) names.IdleInTransaction (spot.time - t.since))
    spot (not (descriptor_of t.transaction == 0)) names.TransactionLeftByClose
    (descriptor_of t.transaction)

-- it is lent while an answer isn't read, or an attention isn't acknowledged
abbrev pub lent_noted : List Finding → Talk → Spot → List Finding
lent_noted xs t spot =
    noted xs spot (t.attention || (t.underway && is_request t.asked)) names.LentWhileAnswering 0

-- why the judging ends; bytes that are no token may be of an earlier version, where none of 7.2 to
-- 7.4 was shown
abbrev pub ends_by_token : Ending → Bool → Bool
ends_by_token endings.WrongToken dated = dated
ends_by_token _ dated = false

abbrev pub ends_by_version : Ending → Bool → Bool
ends_by_version endings.OtherVersion dated = true
ends_by_version endings.WrongToken dated = not dated
ends_by_version _ dated = false

abbrev pub ends_by_length : Ending → Bool
ends_by_length endings.WrongLength = true
ends_by_length _ = false

abbrev pub ends_by_tls : Ending → Bool
ends_by_tls endings.Encrypted = true
ends_by_tls _ = false

abbrev pub ends_by_protocol : Ending → Bool
ends_by_protocol endings.NotTds = true
ends_by_protocol _ = false

abbrev pub ends_by_compute : Ending → Bool
ends_by_compute endings.Compute = true
ends_by_compute _ = false

abbrev pub ends_by_direction : Ending → Bool
ends_by_direction endings.WrongDirection = true
ends_by_direction _ = false

abbrev pub stop_noted : List Finding → Talk → Spot → Ending → ℕ → List Finding
stop_noted xs t spot ending value =
    noted
    (noted
    (noted
    (noted
    (noted
    (noted
    (noted xs spot (ends_by_token ending t.dated) names.WrongToken value)
    spot (ends_by_version ending t.dated) names.OtherVersion value)
    spot (ends_by_length ending) names.WrongLength value)
    spot (ends_by_tls ending) names.Encrypted value)
    spot (ends_by_protocol ending) names.NotTds value)
    spot (ends_by_compute ending) names.Compute value)
    spot (ends_by_direction ending) names.WrongDirection value

abbrev pub size_noted : List Finding → Talk → Spot → ℕ → Bool → List Finding
size_noted xs t spot size fills =
    noted
    (noted xs spot (not (t.most == 0) && nat_lt t.most size) names.PacketSize size)
    spot (fills && nat_lt size t.most) names.PacketNotFull size

-- of ALL_HEADERS, which TDS has from 7.2 on
abbrev pub headers_noted : List Finding → Talk → Spot → HeaderFault → List Finding
headers_noted xs t spot fault = noted xs spot t.dated names.WrongHeaders (header_fault_number fault)

abbrev pub later_noted : List Finding → Spot → ℕ → List Finding
later_noted xs spot status =
    noted (noted xs spot (is_asked (reset_of status)) names.ResetOnLaterPacket status) spot
    (ignores_early status) names.IgnoreUnended status

-- what is found, behind what was found so far
abbrev pub told_here : List Finding → Limits → Talk → Spot → Event → List Finding
told_here xs limits t spot (events.Packet size fills) = size_noted xs t spot size fills
told_here xs limits t spot events.Unfinished = noted xs spot true names.UnfinishedMessage 0
told_here xs limits t spot (events.Request status bulk) = request_noted xs limits t spot status bulk
told_here xs limits t spot events.Login = xs
told_here xs limits t spot (events.Attention size status) = attention_noted xs t spot size status
told_here xs limits t spot (events.Later status) = later_noted xs spot status
told_here xs limits t spot (events.Names descriptor) = names_noted xs t spot descriptor
told_here xs limits t spot (events.Headers fault) = headers_noted xs t spot fault
told_here xs limits t spot events.Ignored = xs
told_here xs limits t spot events.Answer = begin_noted xs t spot
told_here xs limits t spot (events.Says token) = token_noted xs t spot token
told_here xs limits t spot (events.Answered whole) = answer_noted xs t spot whole
told_here xs limits t spot events.TakenUp = noted xs spot true names.TakenUp 0
told_here xs limits t spot (events.Stops ending value) = stop_noted xs t spot ending value
told_here xs limits t spot events.Borrowed = lent_noted xs t spot
told_here xs limits t spot events.Closed = close_noted xs limits t spot

-- Of another version nothing is found.
unfoldable pub told_by : List Finding → Limits → Talk → Spot → Event → List Finding
told_by xs limits t spot event = if t.other then xs else told_here xs limits t spot event
