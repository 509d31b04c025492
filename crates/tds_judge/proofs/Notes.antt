-- What an event notes, as a list.
use Rattle.std.proofs.Common.{◌≡◌, ◌∙◌, ◌-◌, ◌==◌, ◌&&◌, ◌||◌, not, nat_lt, Bool, true, false, ℕ, List, [], ◌∷◌, ◌++◌, refl, sym, ap, append_assoc, append-nil}
use Rattle.std.specs.Prelude.{if◌then◌else◌}
use Rattle.std.proofs.Math.Bool.{and-false, and-true, or-false, or_assoc}
use Rattle.tds_judge.specs.declared.finding.Finding.{Finding}
use Rattle.tds_judge.specs.declared.finding.Name.{Name}
use Rattle.tds_judge.specs.declared.finding.Name.TheVariants as names
use Rattle.tds_judge.specs.declared.finding.Spot.{Spot}
use Rattle.tds_judge.specs.declared.talk.Event.{Event}
use Rattle.tds_judge.specs.declared.talk.Event.TheVariants as events
use Rattle.tds_judge.specs.declared.talk.Limits.{Limits}
use Rattle.tds_judge.specs.declared.talk.Talk.{Talk}
use Rattle.tds_judge.specs.Findings.{noted, number_of}
use Rattle.tds_judge.specs.Headers.{header_fault_number}
use Rattle.tds_judge.specs.History.{Said, is_found, talk_behind}
use Rattle.tds_judge.specs.Talking.{changes_wrongly, descriptor_of, ended_descriptor, ignores_early, is_asked, is_awaited, is_both, is_full, is_plain, is_request, is_short, is_unclear, reset_of}
use Rattle.tds_judge.specs.Noting.{ends_by_compute, ends_by_direction, ends_by_length, ends_by_protocol, ends_by_tls, ends_by_token, ends_by_version, is_behind, is_idle_long, ends_in_vain, goes_on_acknowledged, resets_late, resets_unasked, is_unasked, is_unawaited, names_wrongly, told_by, told_here}
use Rattle.tds_judge.specs.Told.{has_breach, is_breach_number, is_judged}
use Rattle.tds_judge.proofs.Behind.{talk_as, talk_is}

-- ---- What is noted, as a list

pub record Note : Type 0 where
  pub is : Bool
  pub name : Name
  pub value : ℕ

abbrev pub note : Bool → Name → ℕ → Note
note is name value = record { is = is; name = name; value = value }

abbrev pub put : List Finding → Spot → List Note → List Finding
put xs spot [] = xs
put xs spot (n ∷ notes) = put (noted xs spot n.is n.name n.value) spot notes

-- a finding with such a number is among these, and is noted among these
abbrev pub among : (ℕ → Bool) → List Finding → Bool
among p [] = false
among p (finding ∷ others) = p (number_of finding.name) || among p others

abbrev pub any : (ℕ → Bool) → List Note → Bool
any p [] = false
any p (n ∷ notes) = (p (number_of n.name) && n.is) || any p notes

among_end : (p : ℕ → Bool) (xs : List Finding) (x : Finding) → among p (xs ++ x ∷ []) ≡ among p xs || p (number_of x.name)
among_end p [] x = or-false (p (number_of x.name))
among_end p (y ∷ ys) x = ap (λ (b : Bool). p (number_of y.name) || b) (among_end p ys x) ∙ sym (or_assoc (p (number_of y.name)) (among p ys) (p (number_of x.name)))

among_noted : (p : ℕ → Bool) (xs : List Finding) (spot : Spot) (is : Bool) (name : Name) (value : ℕ) → among p (noted xs spot is name value) ≡ among p xs || (p (number_of name) && is)
among_noted p xs spot true name value =
    among_end p xs (record { name = name; value = value; spot = spot }) ∙ ap (λ (b : Bool). among p xs || b) (sym (and-true (p (number_of name))))
among_noted p xs spot false name value = sym (ap (λ (b : Bool). among p xs || b) (and-false (p (number_of name))) ∙ or-false (among p xs))

among_put : (p : ℕ → Bool) (notes : List Note) (xs : List Finding) (spot : Spot) → among p (put xs spot notes) ≡ among p xs || any p notes
among_put p [] xs spot = sym (or-false (among p xs))
among_put p (n ∷ notes) xs spot =
    among_put p notes (noted xs spot n.is n.name n.value) spot
    ∙ (ap (λ (b : Bool). b || any p notes) (among_noted p xs spot n.is n.name n.value)
    ∙ or_assoc (among p xs) (p (number_of n.name) && n.is) (any p notes))

found_among : (n : ℕ) (xs : List Finding) → is_found n xs ≡ among (λ (m : ℕ). m == n) xs
found_among n [] = refl
found_among n (x ∷ xs) = ap (λ (b : Bool). (number_of x.name == n) || b) (found_among n xs)

pub breach_among : (xs : List Finding) → has_breach xs ≡ among is_breach_number xs
breach_among [] = refl
breach_among (x ∷ xs) = ap (λ (b : Bool). is_breach_number (number_of x.name) || b) (breach_among xs)

-- ---- What an event notes

abbrev pub notes_of : Limits → Talk → Spot → Event → List Note
notes_of limits t spot (events.Packet size fills) =
    note (not (t.most == 0) && nat_lt t.most size) names.PacketSize size ∷ note (fills && nat_lt size t.most) names.PacketNotFull size ∷ []
notes_of limits t spot events.Unfinished = note true names.UnfinishedMessage 0 ∷ []
notes_of limits t spot (events.Request status bulk) =
    note t.attention names.AttentionUnanswered 0
    ∷ note (t.underway && not t.attention) names.RequestWhileAnswering 0
    ∷ note (is_both (reset_of status)) names.BothResets status
    ∷ note (is_full (reset_of status) && not (descriptor_of t.transaction == 0)) names.ResetEndsTransaction (descriptor_of t.transaction)
    ∷ note (is_asked (reset_of status) && (is_asked t.reset && t.reset_done)) names.ResetTwice 0
    ∷ note (t.borrowed && not (is_asked (reset_of status))) names.SessionReusedWithoutReset 0
    ∷ note (is_idle_long limits t spot.time) names.IdleInTransaction (spot.time - t.since)
    ∷ note (ignores_early status) names.IgnoreUnended status
    ∷ note t.entering names.RequestBeforeLogin 0
    ∷ note (bulk && is_asked (reset_of status)) names.ResetOnBulkLoad status
    ∷ []
notes_of limits t spot (events.Attention size status) =
    note t.attention names.SecondAttention 0 ∷ note (not (size == 8) || not (status == 1)) names.WrongAttention size ∷ []
notes_of limits t spot (events.Later status) =
    note (is_asked (reset_of status)) names.ResetOnLaterPacket status ∷ note (ignores_early status) names.IgnoreUnended status ∷ []
notes_of limits t spot (events.Names descriptor) =
    note (names_wrongly t descriptor) names.WrongDescriptor (descriptor_of t.transaction)
    ∷ note (names_wrongly t descriptor && t.begun_unheard) names.CancelledBeginKept (descriptor_of t.transaction)
    ∷ note (names_wrongly t descriptor && (not (t.ended == 0) && (t.ended == descriptor))) names.TransactionEndedUnheard descriptor
    ∷ []
notes_of limits t spot (events.Headers fault) = note t.dated names.WrongHeaders (header_fault_number fault) ∷ []
notes_of limits t spot (events.Says token) =
    note (is_unasked t token) names.AcknowledgementUnasked 0
    ∷ note (is_behind t token) names.TokenAfterFinalDone token.kind
    ∷ note (is_unclear token) names.UnclearChange token.kind
    ∷ note (is_short token && not t.dated) names.OtherVersion 0
    ∷ note (resets_unasked t token) names.ResetUnasked 0
    ∷ note (changes_wrongly t.transaction token) names.WrongChange (descriptor_of t.transaction)
    ∷ note (ends_in_vain t token) names.NoneEnded (ended_descriptor token)
    ∷ note (goes_on_acknowledged t token) names.AcknowledgementNotLast token.kind
    ∷ note (resets_late t token) names.ResetToldLate 0
    ∷ []
notes_of limits t spot (events.Answered whole) =
    note (is_plain t && (not whole && t.dated)) names.CutToken 0
    ∷ note (is_awaited t && (not whole && not t.dated)) names.OtherVersion 0
    ∷ note (is_plain t && (whole && not t.is_final)) names.NoFinalDone 0
    ∷ note (is_plain t && (t.is_final && (((is_asked t.reset && not t.forgotten) && not t.reset_done) && not t.bulk))) names.ResetUnanswered 0
    ∷ note (t.attention && (not t.acknowledges && (t.late && t.ended_since))) names.AttentionIgnored 0
    ∷ []
notes_of limits t spot events.TakenUp = note true names.TakenUp 0 ∷ []
notes_of limits t spot (events.Stops ending value) =
    note (ends_by_token ending t.dated) names.WrongToken value
    ∷ note (ends_by_version ending t.dated) names.OtherVersion value
    ∷ note (ends_by_length ending) names.WrongLength value
    ∷ note (ends_by_tls ending) names.Encrypted value
    ∷ note (ends_by_protocol ending) names.NotTds value
    ∷ note (ends_by_compute ending) names.Compute value
    ∷ note (ends_by_direction ending) names.WrongDirection value
    ∷ []
notes_of limits t spot events.Answer = note (is_unawaited t) names.AnswerUnasked 0 ∷ note t.asking names.AnswerBeforeEnd 0 ∷ []
notes_of limits t spot events.Borrowed = note (t.attention || (t.underway && is_request t.asked)) names.LentWhileAnswering 0 ∷ []
notes_of limits t spot events.Closed =
    note (t.underway && is_request t.asked) names.AnswerUnread 0
    ∷ note (is_idle_long limits t spot.time) names.IdleInTransaction (spot.time - t.since)
    ∷ note (not (descriptor_of t.transaction == 0)) names.TransactionLeftByClose (descriptor_of t.transaction)
    ∷ []
notes_of limits t spot _ = []

pub told_is : (xs : List Finding) (limits : Limits) (t : Talk) (spot : Spot) (event : Event) → told_here xs limits t spot event ≡ put xs spot (notes_of limits t spot event)
told_is xs limits t spot (events.Packet size fills) = refl
told_is xs limits t spot _ = refl

-- where it is judged
among_if : (p : ℕ → Bool) (other : Bool) (xs : List Finding) → among p (if other then [] else xs) ≡ not other && among p xs
among_if p true xs = refl
among_if p false xs = refl

pub among_told : (p : ℕ → Bool) (limits : Limits) (past : List Said) (spot : Spot) (event : Event)
    → among p (told_by [] limits (talk_behind past) spot event) ≡ is_judged past && any p (notes_of limits (talk_as past) spot event)
unfolding told_by
among_told p limits past spot event =
    ap (λ (t : Talk). among p (if t.other then [] else told_here [] limits t spot event)) (talk_is past)
    ∙ (among_if p (talk_as past).other (told_here [] limits (talk_as past) spot event)
    ∙ ap (λ (b : Bool). is_judged past && b) (ap (among p) (told_is [] limits (talk_as past) spot event) ∙ among_put p (notes_of limits (talk_as past) spot event) [] spot))

pub found_told : (n : ℕ) (limits : Limits) (past : List Said) (spot : Spot) (event : Event)
    → is_found n (told_by [] limits (talk_behind past) spot event) ≡ is_judged past && any (λ (m : ℕ). m == n) (notes_of limits (talk_as past) spot event)
found_told n limits past spot event = found_among n (told_by [] limits (talk_behind past) spot event) ∙ among_told (λ (m : ℕ). m == n) limits past spot event

-- ---- What is noted stands behind what was found

noted_more : (xs ys : List Finding) (spot : Spot) (is : Bool) (name : Name) (value : ℕ) → noted (xs ++ ys) spot is name value ≡ xs ++ noted ys spot is name value
noted_more xs ys spot true name value = append_assoc xs ys ((record { name = name; value = value; spot = spot }) ∷ [])
noted_more xs ys spot false name value = refl

put_more : (notes : List Note) (xs ys : List Finding) (spot : Spot) → put (xs ++ ys) spot notes ≡ xs ++ put ys spot notes
put_more [] xs ys spot = refl
put_more (n ∷ notes) xs ys spot =
    ap (λ (zs : List Finding). put zs spot notes) (noted_more xs ys spot n.is n.name n.value) ∙ put_more notes xs (noted ys spot n.is n.name n.value) spot

put_behind : (notes : List Note) (xs : List Finding) (spot : Spot) → put xs spot notes ≡ xs ++ put [] spot notes
put_behind notes xs spot = ap (λ (zs : List Finding). put zs spot notes) (sym (append-nil xs)) ∙ put_more notes xs [] spot

appended_if : (other : Bool) (xs ys zs : List Finding) → ys ≡ xs ++ zs → (if other then xs else ys) ≡ xs ++ (if other then [] else zs)
appended_if true xs ys zs so = sym (append-nil xs)
appended_if false xs ys zs so = so

pub appended : (xs : List Finding) (limits : Limits) (t : Talk) (spot : Spot) (event : Event) → told_by xs limits t spot event ≡ xs ++ told_by [] limits t spot event
unfolding told_by
appended xs limits t spot event =
    appended_if t.other xs (told_here xs limits t spot event) (told_here [] limits t spot event)
    (told_is xs limits t spot event ∙ (put_behind (notes_of limits t spot event) xs spot ∙ ap (λ (zs : List Finding). xs ++ zs) (sym (told_is [] limits t spot event))))
