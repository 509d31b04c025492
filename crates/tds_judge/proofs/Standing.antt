-- What stands behind a lawful conversation, by where it is.
use Rattle.std.specs.Prelude.{if◌then◌else◌}
use Rattle.std.proofs.Common.{◌≡◌, ◌∙◌, ◌&&◌, ◌||◌, not, Bool, true, false, ℕ, List, [], ◌∷◌, refl, ap}
use Rattle.std.proofs.Math.Bool.{and-false, and-true}
use Rattle.tds_judge.specs.declared.finding.Spot.{Spot}
use Rattle.tds_judge.specs.declared.talk.Asked.{Asked}
use Rattle.tds_judge.specs.declared.talk.Asked.TheVariants as asks
use Rattle.tds_judge.specs.declared.talk.Event.{Event}
use Rattle.tds_judge.specs.declared.talk.Event.TheVariants as events
use Rattle.tds_judge.specs.declared.talk.Reset.{Reset}
use Rattle.tds_wire.specs.declared.told.ChangeValue.{ChangeValue}
use Rattle.tds_wire.specs.declared.told.ChangeValue.TheVariants as changes
use Rattle.tds_wire.specs.declared.told.Told.{Told}
use Rattle.tds_wire.specs.declared.told.Told.TheVariants as told
use Rattle.tds_wire.specs.declared.told.Token.{Token}
use Rattle.tds_judge.specs.Breaches.{asked_last, final_by_token, is_dated, is_entering, is_over, size_told}
use Rattle.tds_judge.specs.Conversation.{IsLawful, MayAnswer, MayAsk, MayAt, MayEnd, MayGreet, MaySay, MayStop, Place, Quiet, Greeting, Entering, Asking, Answering, Stopping, Skipping, begun_at, ended_at, forgotten_at, heard_at, left_by, left_by_change, place_by, place_of, stopped_at}
use Rattle.tds_judge.specs.History.{Said, cleared_by_change, cleared_by_token, asks_of, has_asked_since, has_ended, is_acknowledged, is_cleared, is_forgotten, is_out, is_twice, is_underway, last_told, left_underway, course_of}
use Rattle.tds_judge.specs.Talking.{acknowledges, admits, is_asked, reset_of}

-- ---- What stands behind a lawful history

-- of each place, by what the history says: an attention is out, a request is underway, the message acknowledges, is over, and has told a
-- reset done; a request was sent since the attention; a login goes on; a message that is to be ignored ended last; what was asked last, and for which reset
abbrev pub StandsBy : Place → (out underway acknowledged over cleared since entering forgotten : Bool) → Asked → Reset → Type 0
StandsBy Quiet out underway acknowledged over cleared since entering forgotten asked reset = (out ≡ false) × (underway ≡ false) × (entering ≡ false)
StandsBy (Greeting enters) out underway acknowledged over cleared since entering forgotten asked reset =
    (out ≡ false) × (asked ≡ asks.Login) × (underway ≡ true) × (entering ≡ enters)
StandsBy Entering out underway acknowledged over cleared since entering forgotten asked reset = (out ≡ false) × (underway ≡ false)
StandsBy (Asking wanted) out underway acknowledged over cleared since entering forgotten asked reset =
    (out ≡ false) × (reset ≡ wanted) × (cleared ≡ false) × (underway ≡ true) × (entering ≡ false) × (forgotten ≡ false)
StandsBy (Answering left final) out underway acknowledged over cleared since entering forgotten asked reset =
    (out ≡ false) × (acknowledged ≡ false) × (over ≡ final) × ((is_asked reset && not forgotten) && not cleared ≡ is_asked left) × (entering ≡ false)
StandsBy Stopping out underway acknowledged over cleared since entering forgotten asked reset = (out ≡ true) × (since ≡ false) × (entering ≡ false)
StandsBy (Skipping done) out underway acknowledged over cleared since entering forgotten asked reset =
    (out ≡ true) × (since ≡ false) × (acknowledged ≡ done) × (entering ≡ false)

abbrev pub Stands : Place → List Said → Type 0
Stands place past =
    StandsBy place (is_out past) (is_underway past) (is_acknowledged past) (is_over past) (is_cleared past) (has_asked_since past) (is_entering past) (is_forgotten past) (asked_last past) (asks_of past)

abbrev behind : List Said → Spot → Event → List Said
behind past spot event = (record { spot = spot; event = event }) ∷ past

-- a reset that is still to be told done, behind one more token
left_change : (value : ChangeValue) (asked cleared : Bool) (reset : Reset)
    → asked && not cleared ≡ is_asked reset
    → asked && not (cleared_by_change value cleared) ≡ is_asked (left_by_change value reset)
left_change changes.ResetDone asked cleared reset so = and-false asked
left_change _ asked cleared reset so = so

left_token : (x : Told) (asked cleared : Bool) (reset : Reset)
    → asked && not cleared ≡ is_asked reset
    → asked && not (cleared_by_token x cleared) ≡ is_asked (left_by x reset)
left_token (told.Change change) asked cleared reset so = left_change change.value asked cleared reset so
left_token _ asked cleared reset so = so

-- ---- What is said moves it on

-- nothing is left underway where no attention was out
none_left : (acknowledged out since twice before : Bool) → out ≡ false → twice ≡ false → left_underway acknowledged out since twice before ≡ false
none_left true out since twice before o t =
    ap (λ (b : Bool). left_underway true b since twice before) o ∙ ap (λ (b : Bool). left_underway true false since b before) t
none_left false out since twice before o t = refl

asks_there : (place : Place) (past : List Said) (spot : Spot) (status : ℕ) (bulk : Bool) → Stands place past → MayAsk place status → Stands (Asking (reset_of status)) (behind past spot (events.Request status bulk))
unfolding is_out is_cleared asks_of course_of is_entering is_forgotten
asks_there Quiet past spot status bulk so may = (so.0, refl, refl, refl, refl, refl)
asks_there _ past spot status bulk so may = absurd may

greets_there : (place : Place) (past : List Said) (spot : Spot) → Stands place past → MayGreet place → Stands (Greeting true) (behind past spot events.Login)
unfolding is_out asked_last course_of is_entering
greets_there Quiet past spot so may = (so.0, refl, refl, refl)
greets_there (Greeting enters) past spot so may = (so.0, refl, refl, refl)
greets_there Entering past spot so may = (so.0, refl, refl, refl)
greets_there _ past spot so may = absurd may

stops_there : (place : Place) (past : List Said) (spot : Spot) (size status : ℕ) → Stands place past → MayStop place → Stands (stopped_at place) (behind past spot (events.Attention size status))
unfolding is_out course_of is_acknowledged is_entering
stops_there Quiet past spot size status so may = (refl, refl, so.2)
stops_there (Asking reset) past spot size status so may = (refl, refl, so.4)
stops_there (Answering reset final) past spot size status so may = (refl, refl, so.1, so.4)
stops_there _ past spot size status so may = absurd may

forgets_there : (place : Place) (past : List Said) (spot : Spot) → Stands place past → Stands (forgotten_at place) (behind past spot events.Ignored)
unfolding is_out course_of is_acknowledged is_over is_cleared asked_last asks_of is_entering is_forgotten
forgets_there Quiet past spot so = (so.0, refl, so.2)
forgets_there (Asking reset) past spot so = (so.0, refl, so.4)
forgets_there (Greeting enters) past spot so = (so.0, refl)
forgets_there Entering past spot so = (so.0, refl)
forgets_there (Answering reset final) past spot so =
    (so.0, so.1, so.2, ap (λ (b : Bool). b && not (is_cleared past)) (and-false (is_asked (asks_of past))), so.4)
forgets_there Stopping past spot so = so
forgets_there (Skipping done) past spot so = so

answers_there : (place : Place) (past : List Said) (spot : Spot) → Stands place past → MayAnswer (is_forgotten past) place → Stands (begun_at place) (behind past spot events.Answer)
unfolding is_out course_of is_acknowledged is_over is_cleared asked_last asks_of is_entering is_forgotten
answers_there (Greeting enters) past spot so may = (so.0, so.1, ap (λ (b : Bool). b || is_forgotten past) so.2, so.3)
answers_there (Asking reset) past spot so may = (
  so.0,
  refl,
  refl,
  ap (λ (b : Bool). (is_asked (asks_of past) && not b) && not (is_cleared past)) so.5
      ∙ (ap (λ (b : Bool). (is_asked (asks_of past) && true) && not b) so.2
      ∙ (and-true (is_asked (asks_of past) && true) ∙ (and-true (is_asked (asks_of past)) ∙ ap is_asked so.1))),
  so.4,
)
answers_there Quiet past spot so may = (
  so.0,
  refl,
  refl,
  ap (λ (b : Bool). (is_asked (asks_of past) && not b) && not (is_cleared past)) may ∙ ap (λ (b : Bool). b && not (is_cleared past)) (and-false (is_asked (asks_of past))),
  so.2,
)
answers_there Stopping past spot so may = (so.0, so.1, refl, so.2)
answers_there _ past spot so may = absurd may

-- nothing goes on with a login that is over
stays_in : (b entering : Bool) → entering ≡ false → (if b then false else entering) ≡ false
stays_in true entering so = refl
stays_in false entering so = so

says_there : (place : Place) (past : List Said) (spot : Spot) (token : Token) → Stands place past → MaySay place token → Stands (heard_at token place) (behind past spot (events.Says token))
unfolding is_out course_of is_acknowledged is_over is_cleared asked_last asks_of is_entering is_forgotten
says_there (Greeting enters) past spot token so may = (so.0, so.1, so.2, ap (λ (b : Bool). if admits token.kind then false else b) so.3)
says_there (Answering reset final) past spot token so may = (
  so.0,
  ap (λ (b : Bool). b || acknowledges token) so.1 ∙ may,
  ap (final_by_token token.told) so.2,
  left_token token.told (is_asked (asks_of past) && not (is_forgotten past)) (is_cleared past) reset so.3,
  stays_in (admits token.kind) (is_entering past) so.4,
)
says_there (Skipping true) past spot token so may = absurd may
says_there (Skipping false) past spot token so may =
    (so.0, so.1, ap (λ (b : Bool). b || acknowledges token) so.2, stays_in (admits token.kind) (is_entering past) so.3)
says_there _ past spot token so may = absurd may

ends_there : (place : Place) (past : List Said) (spot : Spot) (whole : Bool) → is_twice past ≡ false → Stands place past → MayEnd place whole → Stands (ended_at place) (behind past spot (events.Answered whole))
unfolding is_out course_of is_acknowledged is_over is_cleared asked_last asks_of is_entering is_forgotten
ends_there (Greeting true) past spot whole once so may = (
  ap (λ (b : Bool). b && not (is_acknowledged past)) so.0,
  none_left (is_acknowledged past) (is_out past) (has_asked_since past) (is_twice past) (is_underway past) so.0 once,
)
ends_there (Greeting false) past spot whole once so may = (
  ap (λ (b : Bool). b && not (is_acknowledged past)) so.0,
  none_left (is_acknowledged past) (is_out past) (has_asked_since past) (is_twice past) (is_underway past) so.0 once,
  so.3,
)
ends_there (Answering reset final) past spot whole once so may = (
  ap (λ (b : Bool). b && not (is_acknowledged past)) so.0,
  none_left (is_acknowledged past) (is_out past) (has_asked_since past) (is_twice past) (is_underway past) so.0 once,
  so.4,
)
ends_there (Skipping true) past spot whole once so may = (
  ap (λ (b : Bool). is_out past && not b) so.2 ∙ and-false (is_out past),
  ap (λ (b : Bool). left_underway b (is_out past) (has_asked_since past) (is_twice past) (is_underway past)) so.2
      ∙ (ap (λ (b : Bool). left_underway true b (has_asked_since past) (is_twice past) (is_underway past)) so.0 ∙ so.1),
  so.3,
)
ends_there (Skipping false) past spot whole once so may = (
  ap (λ (b : Bool). is_out past && not b) so.2 ∙ (and-true (is_out past) ∙ so.0),
  ap (λ (b : Bool). not (is_acknowledged past) && (b && not (has_ended past))) so.1 ∙ and-false (not (is_acknowledged past)),
  so.3,
)
ends_there _ past spot whole once so may = absurd may

-- no second attention is out
once_ended : (acknowledged out twice : Bool) → twice ≡ false → (if acknowledged then twice && out else twice) ≡ false
once_ended true out twice once = ap (λ (b : Bool). b && out) once
once_ended false out twice once = once

once_stopped : (place : Place) (past : List Said) → is_twice past ≡ false → Stands place past → MayStop place → is_twice past || is_out past ≡ false
once_stopped Quiet past once so may = ap (λ (b : Bool). b || is_out past) once ∙ so.0
once_stopped (Asking reset) past once so may = ap (λ (b : Bool). b || is_out past) once ∙ so.0
once_stopped (Answering reset final) past once so may = ap (λ (b : Bool). b || is_out past) once ∙ so.0
once_stopped _ past once so may = absurd may

stays_once : (place : Place) (past : List Said) (spot : Spot) (event : Event) → is_twice past ≡ false → Stands place past
    → MayAt place (last_told past) (size_told past) (is_dated past) (is_forgotten past) event → is_twice (behind past spot event) ≡ false
unfolding is_twice
stays_once place past spot (events.Attention size status) once so may = once_stopped place past once so may.0
stays_once place past spot (events.Answered whole) once so may = once_ended (is_acknowledged past) (is_out past) (is_twice past) once
stays_once place past spot _ once so may = once

goes : (place : Place) (past : List Said) (spot : Spot) (event : Event) → is_twice past ≡ false → Stands place past
    → MayAt place (last_told past) (size_told past) (is_dated past) (is_forgotten past) event → Stands (place_by event place) (behind past spot event)
unfolding is_out course_of is_acknowledged is_over is_cleared asked_last asks_of is_entering is_forgotten
goes place past spot (events.Packet size fills) once so may = so
goes place past spot events.Unfinished once so may = so
goes place past spot (events.Request status bulk) once so may = asks_there place past spot status bulk so may
goes place past spot events.Login once so may = greets_there place past spot so may
goes place past spot (events.Attention size status) once so may = stops_there place past spot size status so may.0
goes place past spot (events.Later status) once so may = so
goes place past spot (events.Names descriptor) once so may = so
goes place past spot (events.Headers fault) once so may = so
goes place past spot events.Ignored once so may = forgets_there place past spot so
goes place past spot events.Answer once so may = answers_there place past spot so may
goes place past spot (events.Says token) once so may = says_there place past spot token so may.0
goes place past spot (events.Answered whole) once so may = ends_there place past spot whole once so may
goes place past spot events.TakenUp once so may = so
goes place past spot (events.Stops ending value) once so may = so
goes place past spot events.Borrowed once so may = so
goes place past spot events.Closed once so may = so

pub lawful_stands : (past : List Said) → IsLawful past → Stands (place_of past) past × (is_twice past ≡ false)
unfolding IsLawful place_of is_out course_of is_twice is_entering
lawful_stands [] lawful = ((refl, refl, refl), refl)
lawful_stands (x ∷ past) lawful =
    let (so, once) = lawful_stands past lawful.0 in
    (goes (place_of past) past x.spot x.event once so lawful.1, stays_once (place_of past) past x.spot x.event once so lawful.1)
