-- A lawful conversation has no breach.
use Rattle.std.proofs.Common.{◌≡◌, ◌∙◌, ◌==◌, ◌&&◌, ◌||◌, not, nat_lt, Bool, true, false, ℕ, List, [], ◌∷◌, ◌++◌, refl, sym, ap}
use Rattle.std.proofs.Math.Bool.{and-false, or-false}
use Rattle.tds_judge.specs.declared.talk.Asked.{Asked}
use Rattle.tds_judge.specs.declared.talk.Ending.{Ending}
use Rattle.tds_judge.specs.declared.talk.Ending.TheVariants as endings
use Rattle.tds_judge.specs.declared.talk.Event.{Event}
use Rattle.tds_judge.specs.declared.talk.Event.TheVariants as events
use Rattle.tds_judge.specs.declared.talk.Reset.{Reset}
use Rattle.tds_judge.specs.declared.talk.Reset.TheVariants as resets
use Rattle.tds_judge.specs.declared.talk.Transaction.{Transaction}
use Rattle.tds_judge.specs.declared.talk.Transaction.TheVariants as transactions
use Rattle.tds_wire.specs.declared.told.Token.{Token}
use Rattle.tds_judge.specs.Breaches.{asked_last, gone_last, is_bulk, is_dated, is_entering, is_over, is_unheard, size_told}
use Rattle.tds_judge.specs.Conversation.{IsLawful, MayAnswer, MayAsk, MayAt, MayEnd, MayHead, MayLend, MayName, MaySay, MayStay, MayStop, Names, Place, Quiet, Greeting, Entering, Asking, Answering, Stopping, Skipping, place_of}
use Rattle.tds_judge.specs.History.{Said, asks_of, has_asked_since, has_ended, is_acknowledged, is_another, is_cleared, is_forgotten, is_out, is_twice, is_underway, last_told}
use Rattle.tds_judge.specs.Talking.{acknowledges, changes_wrongly, ignores_early, is_asked, is_both, is_full, is_known, is_request, reset_of, says_more}
use Rattle.tds_judge.specs.Told.{breaks_rules, is_breach, is_broken, is_judged}
use Rattle.tds_judge.proofs.Standing.{Stands, lawful_stands}

-- ---- No breach

no_asking : (place : Place) (past : List Said) (status : ℕ) (bulk : Bool) → Stands place past → MayAsk place status → breaks_rules past (events.Request status bulk) ≡ false
no_asking Quiet past status bulk so may =
    ap (λ (b : Bool). b || ((is_underway past && not b) || (is_both (reset_of status) || (ignores_early status || (is_entering past || false))))) so.0
    ∙ (ap (λ (b : Bool). (b && true) || (is_both (reset_of status) || (ignores_early status || (is_entering past || false)))) so.1
    ∙ (ap (λ (b : Bool). b || (ignores_early status || (is_entering past || false))) may.0
    ∙ (ap (λ (b : Bool). b || (is_entering past || false)) may.1 ∙ ap (λ (b : Bool). b || false) so.2)))
no_asking _ past status bulk so may = absurd may

no_stop : (place : Place) (past : List Said) (size status : ℕ) → Stands place past → MayStop place → size ≡ 8 → status ≡ 1 → breaks_rules past (events.Attention size status) ≡ false
no_stop Quiet past size status so may eight ends =
    ap (λ (b : Bool). b || ((not (size == 8) || not (status == 1)) || false)) so.0
    ∙ (ap (λ (n : ℕ). (not (n == 8) || not (status == 1)) || false) eight ∙ ap (λ (n : ℕ). not (n == 1) || false) ends)
no_stop (Asking reset) past size status so may eight ends =
    ap (λ (b : Bool). b || ((not (size == 8) || not (status == 1)) || false)) so.0
    ∙ (ap (λ (n : ℕ). (not (n == 8) || not (status == 1)) || false) eight ∙ ap (λ (n : ℕ). not (n == 1) || false) ends)
no_stop (Answering reset final) past size status so may eight ends =
    ap (λ (b : Bool). b || ((not (size == 8) || not (status == 1)) || false)) so.0
    ∙ (ap (λ (n : ℕ). (not (n == 8) || not (status == 1)) || false) eight ∙ ap (λ (n : ℕ). not (n == 1) || false) ends)
no_stop _ past size status so may eight ends = absurd may

either_way : (p q : Bool) → p || q ≡ true → not p && not q ≡ false
either_way true q so = refl
either_way false true so = refl
either_way false false so = sym so

not_another : (last : Transaction) (reset : Reset) (descriptor : ℕ) → Names last reset descriptor → is_another last reset descriptor ≡ false
not_another transactions.Unknown reset descriptor names = refl
not_another (transactions.Told last) reset descriptor names = either_way (last == descriptor) (is_full reset && (descriptor == 0)) names

no_name : (place : Place) (past : List Said) (descriptor : ℕ) → Stands place past → MayName place (last_told past) descriptor → breaks_rules past (events.Names descriptor) ≡ false
no_name (Asking reset) past descriptor so may =
    ap (λ (b : Bool). b || ((b && is_unheard past) || ((b && (not (gone_last past == 0) && (gone_last past == descriptor))) || false)))
    (ap (λ (r : Reset). is_another (last_told past) r descriptor) so.1 ∙ not_another (last_told past) reset descriptor may)
no_name _ past descriptor so may = absurd may

no_saying : (place : Place) (past : List Said) (token : Token) → Stands place past → MaySay place token
    → acknowledges token && (is_request (asked_last past) && (not (is_out past) && not (is_twice past))) ≡ false
no_saying (Greeting enters) past token so may =
    ap (λ (a : Asked). acknowledges token && (is_request a && (not (is_out past) && not (is_twice past)))) so.1 ∙ and-false (acknowledges token)
no_saying (Answering reset final) past token so may = ap (λ (b : Bool). b && (is_request (asked_last past) && (not (is_out past) && not (is_twice past)))) may
no_saying (Skipping done) past token so may =
    ap (λ (b : Bool). acknowledges token && (is_request (asked_last past) && (not b && not (is_twice past)))) so.0
    ∙ (ap (λ (b : Bool). acknowledges token && b) (and-false (is_request (asked_last past))) ∙ and-false (acknowledges token))
no_saying _ past token so may = absurd may

-- nothing is said behind an acknowledgement
abbrev goes_on_behind : List Said → Token → Bool
goes_on_behind past token = is_request (asked_last past) && ((is_over past && is_acknowledged past) || (acknowledges token && says_more token))

none_behind : (place : Place) (past : List Said) (token : Token) → Stands place past → MaySay place token → goes_on_behind past token ≡ false
none_behind (Greeting enters) past token so may =
    ap (λ (a : Asked). is_request a && ((is_over past && is_acknowledged past) || (acknowledges token && says_more token))) so.1
none_behind (Answering reset final) past token so may =
    ap (λ (b : Bool). is_request (asked_last past) && ((is_over past && b) || (acknowledges token && says_more token))) so.1
    ∙ (ap (λ (b : Bool). is_request (asked_last past) && (b || (acknowledges token && says_more token))) (and-false (is_over past))
    ∙ (ap (λ (b : Bool). is_request (asked_last past) && (b && says_more token)) may ∙ and-false (is_request (asked_last past))))
none_behind (Skipping false) past token so may =
    ap (λ (b : Bool). is_request (asked_last past) && ((is_over past && b) || (acknowledges token && says_more token))) so.2
    ∙ (ap (λ (b : Bool). is_request (asked_last past) && (b || (acknowledges token && says_more token))) (and-false (is_over past))
    ∙ (ap (λ (b : Bool). is_request (asked_last past) && b) may ∙ and-false (is_request (asked_last past))))
none_behind _ past token so may = absurd may

-- of an answer that isn't plain
abbrev plain_by : Asked → Bool → Bool → Bool
plain_by asked out acknowledged = is_request asked && (not out && not acknowledged)

abbrev ending_by : (plain whole dated over owed bulk ignored : Bool) → Bool
ending_by plain whole dated over owed bulk ignored =
    (plain && (not whole && dated)) || ((plain && (whole && not over)) || ((plain && (over && (owed && not bulk))) || (ignored || false)))

fits_by : (p q : Bool) → (p || not q) ≡ true → not p && q ≡ false
fits_by true q so = refl
fits_by false false so = refl
fits_by false true so = sym so

all_false : (b dated bulk : Bool) → ending_by b true dated true false bulk false ≡ false
all_false true dated bulk = refl
all_false false dated bulk = refl

fits : (most size : ℕ) → ((most == 0) || not (nat_lt most size)) ≡ true → not (most == 0) && nat_lt most size ≡ false
fits most size so = fits_by (most == 0) (nat_lt most size) so

no_ending : (place : Place) (past : List Said) (whole : Bool) → Stands place past → MayEnd place whole → breaks_rules past (events.Answered whole) ≡ false
no_ending (Greeting enters) past whole so may =
    ap (λ (a : Asked). ending_by (plain_by a (is_out past) (is_acknowledged past)) whole (is_dated past) (is_over past) ((is_asked (asks_of past) && not (is_forgotten past)) && not (is_cleared past)) (is_bulk past)
    (is_out past && (not (is_acknowledged past) && (has_asked_since past && has_ended past)))) so.1
    ∙ ap (λ (b : Bool). (b && (not (is_acknowledged past) && (has_asked_since past && has_ended past))) || false) so.0
no_ending (Answering resets.None true) past true so may =
    ap (λ (b : Bool). ending_by (plain_by (asked_last past) (is_out past) (is_acknowledged past)) true (is_dated past) b ((is_asked (asks_of past) && not (is_forgotten past)) && not (is_cleared past)) (is_bulk past)
    (is_out past && (not (is_acknowledged past) && (has_asked_since past && has_ended past)))) so.2
    ∙ (ap (λ (b : Bool). ending_by (plain_by (asked_last past) (is_out past) (is_acknowledged past)) true (is_dated past) true b (is_bulk past)
    (is_out past && (not (is_acknowledged past) && (has_asked_since past && has_ended past)))) so.3
    ∙ (ap (λ (b : Bool). ending_by (plain_by (asked_last past) (is_out past) (is_acknowledged past)) true (is_dated past) true false (is_bulk past)
    (b && (not (is_acknowledged past) && (has_asked_since past && has_ended past)))) so.0
    ∙ all_false (plain_by (asked_last past) (is_out past) (is_acknowledged past)) (is_dated past) (is_bulk past)))
no_ending (Skipping done) past whole so may =
    ap (λ (b : Bool). ending_by (plain_by (asked_last past) b (is_acknowledged past)) whole (is_dated past) (is_over past) ((is_asked (asks_of past) && not (is_forgotten past)) && not (is_cleared past)) (is_bulk past)
    (is_out past && (not (is_acknowledged past) && (has_asked_since past && has_ended past)))) so.0
    ∙ (ap (λ (b : Bool). ending_by b whole (is_dated past) (is_over past) ((is_asked (asks_of past) && not (is_forgotten past)) && not (is_cleared past)) (is_bulk past)
    (is_out past && (not (is_acknowledged past) && (has_asked_since past && has_ended past)))) (and-false (is_request (asked_last past)))
    ∙ (ap (λ (b : Bool). (is_out past && (not (is_acknowledged past) && (b && has_ended past))) || false) so.1
    ∙ (ap (λ (b : Bool). (is_out past && b) || false) (and-false (not (is_acknowledged past)))
    ∙ ap (λ (b : Bool). b || false) (and-false (is_out past)))))
no_ending _ past whole so may = absurd may

no_answer : (place : Place) (past : List Said) → Stands place past → MayAnswer (is_forgotten past) place → breaks_rules past events.Answer ≡ false
no_answer (Greeting enters) past so may =
    ap (λ (b : Bool). (is_known (asked_last past) && (not b && (not (is_out past) && (not (is_twice past) && not (is_forgotten past))))) || false) so.2
    ∙ ap (λ (b : Bool). b || false) (and-false (is_known (asked_last past)))
no_answer (Asking reset) past so may =
    ap (λ (b : Bool). (is_known (asked_last past) && (not b && (not (is_out past) && (not (is_twice past) && not (is_forgotten past))))) || false) so.3
    ∙ ap (λ (b : Bool). b || false) (and-false (is_known (asked_last past)))
no_answer Stopping past so may =
    ap (λ (b : Bool). (is_known (asked_last past) && (not (is_underway past) && (not b && (not (is_twice past) && not (is_forgotten past))))) || false) so.0
    ∙ (ap (λ (b : Bool). (is_known (asked_last past) && b) || false) (and-false (not (is_underway past)))
    ∙ ap (λ (b : Bool). b || false) (and-false (is_known (asked_last past))))
no_answer Quiet past so may =
    ap (λ (b : Bool). (is_known (asked_last past) && (not (is_underway past) && (not (is_out past) && (not (is_twice past) && not b)))) || false) may
    ∙ (ap (λ (b : Bool). (is_known (asked_last past) && (not (is_underway past) && (not (is_out past) && b))) || false) (and-false (not (is_twice past)))
    ∙ (ap (λ (b : Bool). (is_known (asked_last past) && (not (is_underway past) && b)) || false) (and-false (not (is_out past)))
    ∙ (ap (λ (b : Bool). (is_known (asked_last past) && b) || false) (and-false (not (is_underway past)))
    ∙ ap (λ (b : Bool). b || false) (and-false (is_known (asked_last past))))))
no_answer _ past so may = absurd may

none_awaited : (past : List Said) → is_out past ≡ false → is_underway past ≡ false → is_twice past ≡ false
    → breaks_rules past events.Answer ≡ is_known (asked_last past) && not (is_forgotten past)
none_awaited past out underway once =
    ap (λ (b : Bool). (is_known (asked_last past) && (not b && (not (is_out past) && (not (is_twice past) && not (is_forgotten past))))) || false) underway
    ∙ (ap (λ (b : Bool). (is_known (asked_last past) && (not b && (not (is_twice past) && not (is_forgotten past)))) || false) out
    ∙ (ap (λ (b : Bool). (is_known (asked_last past) && (not b && not (is_forgotten past))) || false) once
    ∙ or-false (is_known (asked_last past) && not (is_forgotten past))))

-- one that comes where nothing is awaited is a breach, wherever something was sent, and isn't to be ignored
unawaited : (place : Place) (past : List Said) → Stands place past → is_twice past ≡ false → MayLend place
    → breaks_rules past events.Answer ≡ is_known (asked_last past) && not (is_forgotten past)
unawaited Quiet past so once may = none_awaited past so.0 so.1 once
unawaited Entering past so once may = none_awaited past so.0 so.1 once
unawaited _ past so once may = absurd may

no_loan : (place : Place) (past : List Said) → Stands place past → MayLend place → breaks_rules past events.Borrowed ≡ false
no_loan Quiet past so may =
    ap (λ (b : Bool). (b || (is_underway past && is_request (asked_last past))) || false) so.0
    ∙ ap (λ (b : Bool). (b && is_request (asked_last past)) || false) so.1
no_loan Entering past so may =
    ap (λ (b : Bool). (b || (is_underway past && is_request (asked_last past))) || false) so.0
    ∙ ap (λ (b : Bool). (b && is_request (asked_last past)) || false) so.1
no_loan _ past so may = absurd may

no_stay : (past : List Said) (ending : Ending) (value : ℕ) → MayStay ending → breaks_rules past (events.Stops ending value) ≡ false
no_stay past endings.WrongToken value may = absurd may
no_stay past endings.WrongLength value may = absurd may
no_stay past endings.WrongDirection value may = absurd may
no_stay past _ value may = refl

no_head : (dated : Bool) → MayHead dated → dated ≡ false
no_head true may = absurd may
no_head false may = refl

no_breach : (place : Place) (past : List Said) (event : Event) → Stands place past → MayAt place (last_told past) (size_told past) (is_dated past) (is_forgotten past) event → breaks_rules past event ≡ false
no_breach place past (events.Packet size fills) so may = ap (λ (b : Bool). b || false) (fits (size_told past) size may)
no_breach place past events.Unfinished so may = absurd may
no_breach place past (events.Request status bulk) so may = no_asking place past status bulk so may
no_breach place past events.Login so may = refl
no_breach place past (events.Attention size status) so may = no_stop place past size status so may.0 may.1 may.2
no_breach place past (events.Later status) so may =
    ap (λ (r : Reset). is_asked r || (ignores_early status || false)) may.0 ∙ ap (λ (b : Bool). b || false) may.1
no_breach place past (events.Names descriptor) so may = no_name place past descriptor so may
no_breach place past (events.Headers fault) so may = ap (λ (b : Bool). b || false) (no_head (is_dated past) may)
no_breach place past events.Ignored so may = refl
no_breach place past events.Answer so may = no_answer place past so may
no_breach place past (events.Says token) so may =
    ap (λ (b : Bool). b || (changes_wrongly (last_told past) token || (goes_on_behind past token || false))) (no_saying place past token so may.0)
    ∙ (ap (λ (b : Bool). b || (goes_on_behind past token || false)) may.1 ∙ ap (λ (b : Bool). b || false) (none_behind place past token so may.0))
no_breach place past (events.Answered whole) so may = no_ending place past whole so may
no_breach place past events.TakenUp so may = refl
no_breach place past (events.Stops ending value) so may = no_stay past ending value may
no_breach place past events.Borrowed so may = no_loan place past so may
no_breach place past events.Closed so may = refl

pub unasked_told : (past : List Said) → IsLawful past → MayLend (place_of past) → is_breach past events.Answer ≡ is_judged past && (is_known (asked_last past) && not (is_forgotten past))
unasked_told past lawful may =
    let (so, once) = lawful_stands past lawful in ap (λ (b : Bool). is_judged past && b) (unawaited (place_of past) past so once may)

both_false : (p q : Bool) → p ≡ false → q ≡ false → p || q ≡ false
both_false p q first second = ap (λ (b : Bool). b || q) first ∙ second

pub not_broken : (past later : List Said) → IsLawful (later ++ past) → is_broken past later ≡ false
unfolding IsLawful is_broken
not_broken past [] lawful = refl
not_broken past (x ∷ later) lawful =
    both_false (is_broken past later) (is_breach (later ++ past) x.event) (not_broken past later lawful.0)
    (ap (λ (b : Bool). is_judged (later ++ past) && b)
    (no_breach (place_of (later ++ past)) (later ++ past) x.event (lawful_stands (later ++ past) lawful.0).0 lawful.1)
    ∙ and-false (is_judged (later ++ past)))
