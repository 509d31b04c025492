-- Breaches, by what was said on a connection before. A history is the list of what was said, the
-- newest first; an event is said next.
use Rattle.std.specs.Prelude.{◌≡◌, ℕ, ◌==◌, ◌&&◌, ◌||◌, not, Bool, true, false, List, [], ◌∷◌, if◌then◌else◌}
use Rattle.tds_judge.specs.declared.finding.Finding.{Finding}
use Rattle.tds_judge.specs.declared.finding.Spot.{Spot}
use Rattle.tds_judge.specs.declared.talk.Event.{Event}
use Rattle.tds_judge.specs.declared.talk.Event.TheVariants as events
use Rattle.tds_judge.specs.declared.talk.Limits.{Limits}
use Rattle.tds_judge.specs.declared.talk.Reset.{Reset}
use Rattle.tds_judge.specs.declared.talk.Reset.TheVariants as resets
use Rattle.tds_judge.specs.declared.talk.Talk.{Talk}
use Rattle.tds_judge.specs.declared.talk.Transaction.{Transaction}
use Rattle.tds_judge.specs.declared.talk.Transaction.TheVariants as transactions
use Rattle.tds_wire.specs.declared.told.ChangeValue.{ChangeValue}
use Rattle.tds_wire.specs.declared.told.ChangeValue.TheVariants as changes
use Rattle.tds_wire.specs.declared.told.Told.{Told}
use Rattle.tds_wire.specs.declared.told.Told.TheVariants as told
use Rattle.tds_judge.specs.Findings.{number_of}
use Rattle.tds_judge.specs.Framing.{Run}
use Rattle.tds_judge.specs.Talking.{acknowledges, begun_as, descriptor_of, is_both, is_full, is_told, keeps, new_talk, owed, reset_of, talk_by}
use Rattle.tds_judge.specs.Noting.{told_by}

-- where and when something was said, and what
pub record Said : Type 0 where
  pub spot : Spot
  pub event : Event

-- ---- What is found is found at what is said

-- where a talk is when more was said, the newest first
unfoldable pub further : List Said → Talk → Talk
further [] t = t
further (x ∷ later) t = talk_by (further later t) x.spot.time x.event

-- and what is found then, behind what was found so far
unfoldable pub found_in : Limits → List Said → Talk → List Finding → List Finding
found_in limits [] t xs = xs
found_in limits (x ∷ later) t xs =
    told_by (found_in limits later t xs) limits (further later t) x.spot x.event

-- From one run to another these events were said, and nothing was found but at them.
pub record Tells (before after : Run) : Type 0 where
  pub events : List Said
  pub talk : after.judge.talk ≡ further events before.judge.talk
  pub limits : after.judge.limits ≡ before.judge.limits
  pub told : after.told ≡ found_in before.judge.limits events before.judge.talk before.told

-- where a judge is behind a history
abbrev pub talk_behind : List Said → Talk
talk_behind past = further past new_talk

-- a finding of this number is among these
abbrev pub is_found : ℕ → List Finding → Bool
is_found number [] = false
is_found number (finding ∷ others) = (number_of finding.name == number) || is_found number others

-- ---- Attentions (MS-TDS 2.2.1.7)

-- among the tokens of the answer that comes is a DONE that acknowledges an attention
abbrev pub acknowledged_by : Event → Bool → Bool
acknowledged_by events.Answer before = false
acknowledged_by (events.Says token) before = before || acknowledges token
acknowledged_by _ before = before

unfoldable pub is_acknowledged : List Said → Bool
is_acknowledged [] = false
is_acknowledged (x ∷ past) = acknowledged_by x.event (is_acknowledged past)

-- An attention is out until an answer with an acknowledgement ends.
abbrev pub out_by : Event → Bool → Bool → Bool
out_by (events.Attention size status) acknowledged before = true
out_by (events.Answered whole) acknowledged before = before && not acknowledged
out_by _ acknowledged before = before

unfoldable pub is_out : List Said → Bool
is_out [] = false
is_out (x ∷ past) = out_by x.event (is_acknowledged past) (is_out past)

-- two attentions were out at once, and the second acknowledgement is still to come
abbrev pub twice_by : Event → Bool → Bool → Bool → Bool
twice_by (events.Attention size status) acknowledged out before = before || out
twice_by (events.Answered whole) acknowledged out before =
    if acknowledged then before && out else before
twice_by _ acknowledged out before = before

unfoldable pub is_twice : List Said → Bool
is_twice [] = false
is_twice (x ∷ past) = twice_by x.event (is_acknowledged past) (is_out past) (is_twice past)

-- ---- Requests

-- A request is underway until an answer ends, or the request itself is to be ignored. An
-- acknowledgement ends the request before the attention, and leaves underway what was asked since;
-- the second of two acknowledgements ends nothing.
abbrev pub left_underway : (acknowledged out since twice before : Bool) → Bool
left_underway acknowledged out since twice before =
    if acknowledged then (if out then since else twice && before) else false

-- A message that is to be ignored has ended, and nothing was sent or answered since: the server may
-- answer that it ignored it (2.2.1.7).
abbrev pub forgotten_by : Event → Bool → Bool
forgotten_by events.Ignored before = true
forgotten_by (events.Request status bulk) before = false
forgotten_by events.Login before = false
forgotten_by (events.Attention size status) before = false
forgotten_by (events.Answered whole) before = false
forgotten_by _ before = before

unfoldable pub is_forgotten : List Said → Bool
is_forgotten [] = false
is_forgotten (x ∷ past) = forgotten_by x.event (is_forgotten past)

abbrev pub underway_by : Event → (acknowledged out since twice forgotten before : Bool) → Bool
underway_by (events.Request status bulk) acknowledged out since twice forgotten before = true
underway_by events.Login acknowledged out since twice forgotten before = true
underway_by (events.Answered whole) acknowledged out since twice forgotten before =
    left_underway acknowledged out since twice before
underway_by events.Ignored acknowledged out since twice forgotten before = false
underway_by events.Answer acknowledged out since twice forgotten before = before || forgotten
underway_by _ acknowledged out since twice forgotten before = before

-- since the attention that is out, the answer of its request has ended
abbrev pub ended_by : Event → (acknowledged underway before : Bool) → Bool
ended_by (events.Attention size status) acknowledged underway before = not underway
ended_by (events.Answered whole) acknowledged underway before = not acknowledged
ended_by _ acknowledged underway before = before

-- a request was sent while the attention is out, and its own answer hasn't ended
abbrev pub asked_since_by : Event → (acknowledged out ended before : Bool) → Bool
asked_since_by (events.Request status bulk) acknowledged out ended before = out
asked_since_by (events.Attention size status) acknowledged out ended before = false
asked_since_by (events.Answered whole) acknowledged out ended before =
    not acknowledged && (before && not ended)
asked_since_by _ acknowledged out ended before = before

pub record Course : Type 0 where
  pub underway : Bool
  pub ended : Bool
  pub since : Bool

abbrev pub course_by : Event → (acknowledged out twice forgotten : Bool) → Course → Course
course_by event acknowledged out twice forgotten t = record {
  underway = underway_by event acknowledged out t.since twice forgotten t.underway;
  ended = ended_by event acknowledged t.underway t.ended;
  since = asked_since_by event acknowledged out t.ended t.since;
}

unfoldable pub course_of : List Said → Course
course_of [] = record { underway = false; ended = false; since = false }
course_of (x ∷ past) =
    course_by x.event (is_acknowledged past) (is_out past) (is_twice past) (is_forgotten past)
    (course_of past)

abbrev pub is_underway : List Said → Bool
is_underway past = (course_of past).underway

abbrev pub has_ended : List Said → Bool
has_ended past = (course_of past).ended

abbrev pub has_asked_since : List Said → Bool
has_asked_since past = (course_of past).since

-- what the newest request asks for
abbrev pub asks_by : Event → Reset → Reset
asks_by (events.Request status bulk) before = reset_of status
asks_by events.Login before = resets.None
asks_by _ before = before

unfoldable pub asks_of : List Said → Reset
asks_of [] = resets.None
asks_of (x ∷ past) = asks_by x.event (asks_of past)

-- ENVCHANGE 18 has come since the newest request (2.2.7.9)
abbrev pub cleared_by_change : ChangeValue → Bool → Bool
cleared_by_change changes.ResetDone before = true
cleared_by_change _ before = before

abbrev pub cleared_by_token : Told → Bool → Bool
cleared_by_token (told.Change change) before = cleared_by_change change.value before
cleared_by_token _ before = before

abbrev pub cleared_by : Event → Bool → Bool
cleared_by (events.Request status bulk) before = false
cleared_by events.Login before = false
cleared_by (events.Says token) before = cleared_by_token token.told before
cleared_by _ before = before

unfoldable pub is_cleared : List Said → Bool
is_cleared [] = false
is_cleared (x ∷ past) = cleared_by x.event (is_cleared past)

-- the reset that the newest request asks for, unless it has come
abbrev pub owed_of : List Said → Reset
owed_of past = owed (is_cleared past) (asks_of past)

-- ---- The transaction that was told last (MS-TDS 2.2.7.9)

-- 8 has begun, 11 is enlisted; all others end it
abbrev pub last_by_type : ℕ → ℕ → Transaction
last_by_type type new =
    if (type == 8) || (type == 11) then begun_as type new else transactions.Told 0

abbrev pub last_by_change : ℕ → ChangeValue → Reset → Transaction → Transaction
last_by_change type (changes.Transaction new old) owes before = last_by_type type new
last_by_change type changes.ResetDone owes before =
    if keeps owes then before else transactions.Told 0
last_by_change type (changes.PacketSize size) owes before = before
last_by_change type (changes.Values new old) owes before = before
last_by_change type changes.Other owes before = before

abbrev pub last_by_token : ℕ → Told → Reset → Transaction → Transaction
last_by_token kind (told.Change change) owes before =
    last_by_change change.kind change.value owes before
last_by_token kind told.Unclear owes before = if kind == 0xE3 then transactions.Unknown else before
last_by_token kind _ owes before = before

abbrev pub last_by : Event → Reset → Transaction → Transaction
last_by (events.Says token) owes before = last_by_token token.kind token.told owes before
last_by events.Login owes before = transactions.Told 0
last_by _ owes before = before

unfoldable pub last_told : List Said → Transaction
last_told [] = transactions.Unknown
last_told (x ∷ past) = last_by x.event (owed_of past) (last_told past)

-- ---- Breaches

-- what is so where an attention is sent, and nowhere else
abbrev pub of_attention : Event → Bool → Bool
of_attention (events.Attention size status) is = is
of_attention _ is = false

-- what is so of a request's beginning, by its status, and of nothing else
abbrev pub of_request : Event → (ℕ → Bool) → Bool
of_request (events.Request status bulk) is = is status
of_request _ is = false

-- what is so of the descriptor that a request names, and of nothing else
abbrev pub of_names : Event → (ℕ → Bool) → Bool
of_names (events.Names descriptor) is = is descriptor
of_names _ is = false

-- an attention, while another one is out
abbrev pub is_second_attention : List Said → Event → Bool
is_second_attention past event = of_attention event (is_out past)

-- a request, while an attention is out
abbrev pub is_attention_unanswered : List Said → Event → Bool
is_attention_unanswered past event = of_request event (λ status. is_out past)

-- a request, while another one is underway that wasn't cancelled
abbrev pub is_request_while_answering : List Said → Event → Bool
is_request_while_answering past event =
    of_request event (λ status. is_underway past && not (is_out past))

-- a request with both reset bits
abbrev pub is_both_resets : List Said → Event → Bool
is_both_resets past event = of_request event (λ status. is_both (reset_of status))

-- a descriptor that isn't the one that was told last; but none may be named where a full reset is
-- asked for
abbrev pub is_another : Transaction → Reset → ℕ → Bool
is_another last asks descriptor =
    is_told last
    && (not (descriptor_of last == descriptor) && not (is_full asks && (descriptor == 0)))

abbrev pub is_wrong_descriptor : List Said → Event → Bool
is_wrong_descriptor past event = of_names event (is_another (last_told past) (asks_of past))
