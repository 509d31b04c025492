-- What is given to an application, beside what its end says along what passes it.
use Rattle.std.proofs.Common.{◌≡◌, ◌∙◌, ◌==◌, ℕ, Bool, true, false, List, [], ◌∷◌, ◌++◌, refl, sym, ap, subst}
use Rattle.std.specs.Prelude.{Option, Some, None, Result, Ok, Err, if◌then◌else◌}
use Rattle.tds_packet.specs.declared.kind.Kind.{Kind}
use Rattle.tds_front.specs.declared.fault.FrontFault.{FrontFault}
use Rattle.tds_front.specs.declared.stage.Action.{Action}
use Rattle.tds_front.specs.declared.stage.Action.TheVariants as actions
use Rattle.tds_front.specs.declared.stage.Stage.{Stage}
use Rattle.tds_front.specs.declared.stage.Stage.TheVariants as stages
use Rattle.tds_front.specs.Passing.{FrontEvent, Packet, Refuses, GoesOn, Says, stage_behind_reply, towards, with_own, with_reply}
use Rattle.tds_front.specs.Rules as rules
use Rattle.tds_front.specs.Rules.{taken}
use Rattle.tds_front.specs.Serving as serving
use Rattle.tds_front.specs.Serving.{Happening, Comes, Goes, Closes, ServerReply, begun_behind, brings_message}
use Rattle.tds_service.specs.Line as line
use Rattle.tds_relay.specs.Behind.{gone_on, if_end_open, passes}
use Rattle.tds_relay.specs.Pool as pool
use Rattle.tds_relay.specs.Giving.{AreSaid, Given, if_its}
use Rattle.tds_relay.specs.Core as core
use Rattle.tds_relay.specs.Core.{End, Open, Over, Core, IsQuiet, Move, end_at, sent_by}
use Rattle.tds_relay.proofs.ends.Leading.{stage_along}

-- these are what it says of what passes it from this stage, whatever has begun
abbrev pub Said : Stage → List FrontEvent → List Given → Type 0
Said stage es all = (begun : Option Kind) → AreSaid (towards begun stage es) all

-- ---- One list behind the other

begun_along : Option Kind → List FrontEvent → Option Kind
begun_along begun [] = begun
begun_along begun (Packet head ∷ es) = begun_along (begun_behind begun head) es
begun_along begun (Refuses fault ∷ es) = begun_along None es
begun_along begun (GoesOn last ∷ es) = begun_along begun es
begun_along begun (Says reply ∷ es) = begun_along begun es

own_both : (does : Result Action FrontFault) (xs ys : List Happening) → with_own does (xs ++ ys) ≡ with_own does xs ++ ys
own_both (Ok (actions.Begin kind reset)) xs ys = refl
own_both (Ok actions.Go) xs ys = refl
own_both (Ok (actions.Forget gone)) xs ys = refl
own_both (Ok actions.Acknowledge) xs ys = refl
own_both (Ok actions.HandOn) xs ys = refl
own_both (Err fault) xs ys = refl

reply_both : (stage : Stage) (reply : ServerReply) (xs ys : List Happening) → with_reply stage reply (xs ++ ys) ≡ with_reply stage reply xs ++ ys
reply_both stages.Quiet reply xs ys = refl
reply_both (stages.Receiving kind gone) reply xs ys = refl
reply_both (stages.Underway gone) reply xs ys = refl
reply_both stages.Stopping reply xs ys = refl
reply_both (stages.Broken fault) reply xs ys = refl

towards_both : (begun : Option Kind) (stage : Stage) (es more : List FrontEvent)
    → towards begun stage (es ++ more) ≡ towards begun stage es ++ towards (begun_along begun es) (stage_along stage es) more
unfolding begun_along
towards_both begun stage [] more = refl
towards_both begun stage (Packet head ∷ es) more =
    let next : Option Kind = begun_behind begun head in
    let led : Stage = (taken stage head).stage in
    ap (λ (xs : List Happening). Comes (brings_message begun head) ∷ with_own (taken stage head).does xs) (towards_both next led es more)
    ∙ ap (λ (xs : List Happening). Comes (brings_message begun head) ∷ xs)
    (own_both (taken stage head).does (towards next led es) (towards (begun_along next es) (stage_along led es) more))
towards_both begun stage (Refuses fault ∷ es) more =
    let led : Stage = (rules.refuses stage fault).stage in
    ap (λ (xs : List Happening). Comes serving.Wrong ∷ with_own (rules.refuses stage fault).does xs) (towards_both None led es more)
    ∙ ap (λ (xs : List Happening). Comes serving.Wrong ∷ xs)
    (own_both (rules.refuses stage fault).does (towards None led es) (towards (begun_along None es) (stage_along led es) more))
towards_both begun stage (GoesOn last ∷ es) more = towards_both begun (rules.request_went_on stage) es more
towards_both begun stage (Says reply ∷ es) more =
    let led : Stage = stage_behind_reply stage reply in
    ap (with_reply stage reply) (towards_both begun led es more)
    ∙ reply_both stage reply (towards begun led es) (towards (begun_along begun es) (stage_along led es) more)

are_both : (xs ys : List Happening) (all later : List Given) → AreSaid xs all → AreSaid ys later → AreSaid (xs ++ ys) (all ++ later)
are_both [] ys all later h k = subst (λ (gs : List Given). AreSaid ys (gs ++ later)) (sym h) k
are_both (Comes brought ∷ xs) ys all later h k = are_both xs ys all later h k
are_both (Goes reply ∷ xs) ys [] later h k = absurd h
are_both (Goes reply ∷ xs) ys (pieces ∷ others) later h k = (h.0, are_both xs ys others later h.1 k)
are_both (Closes ∷ xs) ys all later h k = are_both xs ys all later h k

pub said_both : (stage : Stage) (es more : List FrontEvent) (all later : List Given) → Said stage es all → Said (stage_along stage es) more later → Said stage (es ++ more) (all ++ later)
said_both stage es more all later first rest begun =
    subst (λ (xs : List Happening). AreSaid xs (all ++ later)) (sym (towards_both begun stage es more))
    (are_both (towards begun stage es) (towards (begun_along begun es) (stage_along stage es) more) all later (first begun) (rest (begun_along begun es)))

-- ---- A move by which nothing is given

pub gone_said : (packets : List line.Packet) (stage : Stage) → Said stage (gone_on packets) []
gone_said [] stage begun = refl
gone_said (line.OfRequest request first reset last ∷ packets) stage begun = gone_said packets (rules.request_went_on stage) begun
gone_said (line.Ignore request ∷ packets) stage begun = gone_said packets stage begun
gone_said (line.Attention ∷ packets) stage begun = gone_said packets stage begun

open_said : (o : Option End) (packets : List line.Packet) (stage : Stage) → Said stage (if_end_open o (λ front withdrawn. gone_on packets)) []
open_said None packets stage begun = refl
open_said (Some (Open front withdrawn asks)) packets stage begun = gone_said packets stage begun
open_said (Some (Over why)) packets stage begun = refl

if_said : (b : Bool) (es : List FrontEvent) (stage : Stage) → Said stage es [] → Said stage (if b then es else []) []
if_said true es stage s begun = s begun
if_said false es stage s begun = refl

pub made_said : (key : ℕ) (h : Core) (move : Move) (stage : Stage) → IsQuiet move → Said stage (passes key h move) []
made_said key h (core.Does event) stage quiet begun = refl
made_said key h (core.Sends other action) stage quiet begun =
    let packets = sent_by h.pool (pool.Does other action) in
    if_said (other == key) (if_end_open (end_at h.ends key) (λ front withdrawn. gone_on packets)) stage (open_said (end_at h.ends key) packets stage) begun
made_said key h (core.LetsGo other parks gives way) stage quiet begun = refl
made_said key h (core.Loses number) stage quiet begun = refl
made_said key h (core.Replaces number) stage quiet begun = refl
made_said key h (core.Comes number part way) stage quiet begun = absurd quiet
made_said key h (core.Feeds other bytes) stage quiet begun = absurd quiet
made_said key h (core.Closes other) stage quiet begun = refl
made_said key h (core.Enters other ends) stage quiet begun = absurd quiet
made_said key h (core.Quits other gives way) stage quiet begun = absurd quiet

-- ---- What may be given

-- if there is something
abbrev pub gives : Option Given → List Given
gives None = []
gives (Some pieces) = pieces ∷ []

pub its : (key other : ℕ) (o : Option Given) → (other == key) ≡ true → if_its key (Some other) o ≡ gives o
its key other None e = refl
its key other (Some pieces) e = ap (λ (b : Bool). if b then pieces ∷ [] else []) e

pub not_its : (key other : ℕ) (o : Option Given) → (other == key) ≡ false → if_its key (Some other) o ≡ []
not_its key other None e = refl
not_its key other (Some pieces) e = ap (λ (b : Bool). if b then pieces ∷ [] else []) e
