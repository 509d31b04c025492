-- What passes an application's end, one after the other: where that leads it, and where it leads the place behind it.
use Rattle.std.proofs.Common.{◌≡◌, ◌∙◌, ℕ, Bool, true, false, List, [], ◌∷◌, ◌++◌, refl, sym, ap, subst}
use Rattle.std.specs.Prelude.{Result, Ok, Err, if◌then◌else◌, ◌==◌, ◌&&◌}
use Rattle.tds_packet.specs.declared.kind.Kind.{Kind}
use Rattle.tds_packet.specs.declared.kind.Kind.TheVariants as kinds
use Rattle.tds_packet.specs.Layout.{bits_of, has_bit, has_both_resets, kind_byte, reset_of}
use Rattle.tds_front.specs.declared.fault.FrontFault.{FrontFault}
use Rattle.tds_front.specs.declared.fault.FrontFault.TheVariants as faults
use Rattle.tds_front.specs.declared.stage.Action.{Action}
use Rattle.tds_front.specs.declared.stage.Action.TheVariants as actions
use Rattle.tds_front.specs.declared.stage.Head.{Head}
use Rattle.tds_front.specs.declared.stage.Move.{Move}
use Rattle.tds_front.specs.declared.stage.Stage.{Stage}
use Rattle.tds_front.specs.declared.stage.Stage.TheVariants as stages
use Rattle.tds_front.specs.Exchanges.{place_after}
use Rattle.tds_front.specs.Passing.{FrontEvent, Packet, Refuses, GoesOn, Says, EndsWhole, happenings_of, stage_behind_reply, with_told}
use Rattle.tds_front.specs.Rules as rules
use Rattle.tds_front.specs.Rules.{taken}
use Rattle.tds_front.specs.Serving.{ServerIsAt, Ready, Executing, Happening, Comes, Goes, Closes, IsLawful, behind_brought, behind_reply}
use Rattle.tds_relay.specs.Core.{IsBegun, IsHere}

-- ---- One list behind the other

abbrev pub stage_along : Stage → List FrontEvent → Stage
stage_along stage [] = stage
stage_along stage (Packet head ∷ events) = stage_along (taken stage head).stage events
stage_along stage (Refuses fault ∷ events) = stage_along (rules.refuses stage fault).stage events
stage_along stage (GoesOn last ∷ events) = stage_along (rules.request_went_on stage) events
stage_along stage (Says reply ∷ events) = stage_along (stage_behind_reply stage reply) events

told_both : (does : Result Action FrontFault) (xs ys : List Happening) → with_told does (xs ++ ys) ≡ with_told does xs ++ ys
told_both (Ok (actions.Begin kind reset)) xs ys = refl
told_both (Ok actions.Go) xs ys = refl
told_both (Ok (actions.Forget true)) xs ys = refl
told_both (Ok (actions.Forget false)) xs ys = refl
told_both (Ok actions.Acknowledge) xs ys = refl
told_both (Ok actions.HandOn) xs ys = refl
told_both (Err fault) xs ys = refl

behind_both : (stage : Stage) (es more : List FrontEvent) → happenings_of stage (es ++ more) ≡ happenings_of stage es ++ happenings_of (stage_along stage es) more
behind_both stage [] more = refl
behind_both stage (Packet head ∷ es) more =
    ap (with_told (taken stage head).does) (behind_both (taken stage head).stage es more)
    ∙ told_both (taken stage head).does (happenings_of (taken stage head).stage es) (happenings_of (stage_along (taken stage head).stage es) more)
behind_both stage (Refuses fault ∷ es) more = behind_both (rules.refuses stage fault).stage es more
behind_both stage (GoesOn true ∷ es) more = ap (λ (xs : List Happening). Comes Rattle.tds_front.specs.Serving.Whole ∷ xs) (behind_both (rules.request_went_on stage) es more)
behind_both stage (GoesOn false ∷ es) more = ap (λ (xs : List Happening). Comes Rattle.tds_front.specs.Serving.More ∷ xs) (behind_both (rules.request_went_on stage) es more)
behind_both stage (Says reply ∷ es) more = ap (λ (xs : List Happening). Goes reply ∷ xs) (behind_both (stage_behind_reply stage reply) es more)

lawful_both : (p : ServerIsAt) (xs ys : List Happening) → IsLawful p xs → IsLawful (place_after p xs) ys → IsLawful p (xs ++ ys)
lawful_both p [] ys h k = k
lawful_both p (Comes brought ∷ xs) ys h k = lawful_both (behind_brought p brought) xs ys h k
lawful_both p (Goes reply ∷ xs) ys h k = (h.0, lawful_both (behind_reply p reply) xs ys h.1 k)
lawful_both p (Closes ∷ xs) ys h k = (h.0, lawful_both p xs ys h.1 k)

whole_both : (stage : Stage) (es more : List FrontEvent) → EndsWhole stage es → EndsWhole (stage_along stage es) more → EndsWhole stage (es ++ more)
whole_both stage [] more h k = k
whole_both stage (Packet head ∷ es) more h k = whole_both (taken stage head).stage es more h k
whole_both stage (Refuses fault ∷ es) more h k = whole_both (rules.refuses stage fault).stage es more h k
whole_both stage (GoesOn last ∷ es) more h k = (h.0, whole_both (rules.request_went_on stage) es more h.1 k)
whole_both stage (Says reply ∷ es) more h k = whole_both (stage_behind_reply stage reply) es more h k

-- ---- Where they lead

abbrev pub Lawful : ServerIsAt → Stage → List FrontEvent → Type 0
Lawful p stage es = IsLawful p (happenings_of stage es) × EndsWhole stage es

pub record Leads (stage : Stage) (p : ServerIsAt) (es : List FrontEvent) (next : Stage) (q : ServerIsAt) : Type 0 where
  pub stage_is : stage_along stage es ≡ next
  pub place_is : place_after p (happenings_of stage es) ≡ q

pub leads_nothing : (stage : Stage) (p : ServerIsAt) → Leads stage p [] stage p
leads_nothing stage p = record { stage_is = refl; place_is = refl }

pub lawful_more : (stage next : Stage) (p q : ServerIsAt) (es more : List FrontEvent) → Leads stage p es next q → Lawful p stage es → Lawful q next more → Lawful p stage (es ++ more)
lawful_more stage next p q es more leads one rest =
    let ys : List Happening = happenings_of (stage_along stage es) more in
    let lawful : IsLawful (place_after p (happenings_of stage es)) ys =
    subst (λ (s : Stage). IsLawful (place_after p (happenings_of stage es)) (happenings_of s more)) (sym leads.stage_is) (subst (λ (x : ServerIsAt). IsLawful x (happenings_of next more)) (sym leads.place_is) rest.0) in
    let whole : EndsWhole (stage_along stage es) more = subst (λ (s : Stage). EndsWhole s more) (sym leads.stage_is) rest.1 in (
      subst (λ (xs : List Happening). IsLawful p xs) (sym (behind_both stage es more)) (lawful_both p (happenings_of stage es) ys one.0 lawful),
      whole_both stage es more one.1 whole,
    )

-- ---- What a packet of the application is, by where it leads

-- something of its request has gone on
abbrev pub IsGone : Stage → Type 0
IsGone stages.Quiet = ⊥
IsGone (stages.Receiving kind gone) = gone ≡ true
IsGone (stages.Underway gone) = gone ≡ true
IsGone stages.Stopping = ⊥
IsGone (stages.Broken fault) = ⊥

-- a packet of a request that goes on leaves what has gone on
abbrev pub KeepsGone : Stage → Stage → Type 0
KeepsGone (stages.Receiving kind gone) (stages.Receiving other next) = next ≡ gone
KeepsGone (stages.Receiving kind gone) (stages.Underway next) = next ≡ gone
KeepsGone stage next = ⊥

abbrev pub ForgetsFrom : Stage → Bool → Type 0
ForgetsFrom stages.Quiet gone = gone ≡ false
ForgetsFrom (stages.Receiving kind was) gone = was ≡ gone
ForgetsFrom (stages.Underway was) gone = ⊥
ForgetsFrom stages.Stopping gone = ⊥
ForgetsFrom (stages.Broken fault) gone = ⊥

abbrev pub FitsAction : Stage → Action → Stage → Type 0
FitsAction stage (actions.Begin kind reset) next = (stage ≡ stages.Quiet) × (IsHere next × IsBegun next)
FitsAction stage actions.Go next = KeepsGone stage next
FitsAction stage (actions.Forget gone) next = (next ≡ stages.Quiet) × ForgetsFrom stage gone
FitsAction stage actions.Acknowledge next = (next ≡ stages.Quiet) × IsHere stage
FitsAction stage actions.HandOn next = (next ≡ stages.Stopping) × IsGone stage

abbrev FitsBy : Stage → Result Action FrontFault → Stage → Type 0
FitsBy stage (Ok action) next = FitsAction stage action next
FitsBy stage (Err fault) next = Unit {0}

abbrev Fits : Stage → Move → Type 0
Fits stage m = FitsBy stage m.does m.stage

if_fits : (stage : Stage) (b : Bool) (m n : Move) → Fits stage m → Fits stage n → Fits stage (if b then m else n)
if_fits stage true m n h k = h
if_fits stage false m n h k = k

here_if : (b : Bool) (kind : Kind) → IsHere (if b then stages.Underway false else stages.Receiving kind false)
here_if true kind = refl
here_if false kind = refl

begun_if : (b : Bool) (kind : Kind) → IsBegun (if b then stages.Underway false else stages.Receiving kind false)
begun_if true kind = tt
begun_if false kind = tt

keeps_if : (b : Bool) (kind : Kind) (gone : Bool) → KeepsGone (stages.Receiving kind gone) (if b then stages.Underway gone else stages.Receiving kind gone)
keeps_if true kind gone = refl
keeps_if false kind gone = refl

forgets_fit : (stage : Stage) (gone : Bool) (status : ℕ) → ForgetsFrom stage gone → Fits stage (rules.forgets gone status)
forgets_fit stage gone status from = if_fits stage (has_bit status 1) (rules.moves_to stages.Quiet (actions.Forget gone)) (rules.breaks_end faults.IgnoredPart) (refl, from) tt

begins_fit : (head : Head) → Fits stages.Quiet (rules.begins head)
begins_fit head =
    let status = bits_of head.status in
    let begin : Move = rules.moves_to (rules.stage_behind_packet head.kind false status) (actions.Begin head.kind (reset_of status)) in
    let empty : Move = if head.count == 0 then rules.breaks_end faults.EmptyPart else begin in
    let ignored : Move = if has_bit status 2 then rules.forgets false status else empty in
    if_fits stages.Quiet (has_both_resets status) (rules.breaks_end faults.BothResets) ignored tt
    (if_fits stages.Quiet (has_bit status 2) (rules.forgets false status) empty (forgets_fit stages.Quiet false status refl)
    (if_fits stages.Quiet (head.count == 0) (rules.breaks_end faults.EmptyPart) begin tt (refl, (here_if (has_bit status 1) head.kind, begun_if (has_bit status 1) head.kind))))

goes_fit : (kind : Kind) (gone : Bool) (head : Head) → Fits (stages.Receiving kind gone) (rules.goes_on kind gone head)
goes_fit kind gone head =
    let stage : Stage = stages.Receiving kind gone in
    let status = bits_of head.status in
    let go : Move = rules.moves_to (rules.stage_behind_packet kind gone status) actions.Go in
    let same : Move = if has_bit status 2 then rules.forgets gone status else go in
    if_fits stage (kind_byte kind == kind_byte head.kind) same (rules.breaks_end faults.TypeChanged)
    (if_fits stage (has_bit status 2) (rules.forgets gone status) go (forgets_fit stage gone status refl) (keeps_if (has_bit status 1) kind gone)) tt

request_fits : (stage : Stage) (head : Head) → Fits stage (rules.of_request stage head)
request_fits stages.Quiet head = begins_fit head
request_fits (stages.Receiving kind gone) head = goes_fit kind gone head
request_fits (stages.Underway gone) head = tt
request_fits stages.Stopping head = tt
request_fits (stages.Broken fault) head = tt

refuses_fit : (stage : Stage) (fault : FrontFault) → Fits stage (rules.refuses stage fault)
refuses_fit stages.Quiet fault = tt
refuses_fit (stages.Receiving kind gone) fault = tt
refuses_fit (stages.Underway gone) fault = tt
refuses_fit stages.Stopping fault = tt
refuses_fit (stages.Broken first) fault = tt

attention_fits : (stage : Stage) → Fits stage (rules.takes_attention stage)
attention_fits stages.Quiet = (refl, tt)
attention_fits (stages.Receiving kind false) = (refl, refl)
attention_fits (stages.Receiving kind true) = (refl, refl)
attention_fits (stages.Underway false) = (refl, refl)
attention_fits (stages.Underway true) = (refl, refl)
attention_fits stages.Stopping = tt
attention_fits (stages.Broken fault) = tt

attended_fits : (stage : Stage) (head : Head) → Fits stage (rules.attended stage head)
attended_fits stage head =
    if_fits stage ((bits_of head.status == 1) && (head.count == 0)) (rules.takes_attention stage) (rules.refuses stage faults.WrongAttention) (attention_fits stage) (refuses_fit stage faults.WrongAttention)

taken_fits : (kind : Kind) (stage : Stage) (head : Head) → Fits stage (rules.taken_as kind stage head)
taken_fits kinds.Batch stage head = request_fits stage head
taken_fits kinds.Procedure stage head = request_fits stage head
taken_fits kinds.BulkLoad stage head = request_fits stage head
taken_fits kinds.Transaction stage head = request_fits stage head
taken_fits kinds.Attention stage head = attended_fits stage head
taken_fits kinds.Answer stage head = refuses_fit stage faults.UnknownType

pub fits : (stage : Stage) (head : Head) (action : Action) → (taken stage head).does ≡ Ok action → FitsAction stage action (taken stage head).stage
fits stage head action e = subst (λ (r : Result Action FrontFault). FitsBy stage r (taken stage head).stage) e (taken_fits head.kind stage head)
