-- What an application's packet does to its end of a relay, and where what is seen between them is then.
use Rattle.std.proofs.Common.{◌≡◌, ◌∙◌, ◌==◌, ◌&&◌, ◌/◌, ◌%◌, ◌*◌, ◌<◌, ℕ, zero, suc, Bool, true, false, List, refl, sym, ap, subst, arith}
use Rattle.std.specs.Prelude.{Option, Some, None, Result, Ok, Err, if◌then◌else◌}
use Rattle.std.proofs.lemmas.Nat.Bits.{and_high}
use Rattle.tds_packet.specs.declared.kind.Kind.{Kind}
use Rattle.tds_packet.specs.declared.kind.Kind.TheVariants as kinds
use Rattle.tds_packet.specs.declared.status.Reset.{Reset}
use Rattle.tds_packet.specs.declared.status.Reset.TheVariants.{Full, KeepTransaction}
use Rattle.tds_packet.specs.Layout.{bits_of, has_bit, has_both_resets, kind_byte, reset_of}
use Rattle.tds_front.specs.declared.fault.FrontFault.{FrontFault}
use Rattle.tds_front.specs.declared.fault.FrontFault.TheVariants as faults
use Rattle.tds_front.specs.declared.stage.Action.{Action}
use Rattle.tds_front.specs.declared.stage.Action.TheVariants as actions
use Rattle.tds_front.specs.declared.stage.Head.{Head}
use Rattle.tds_front.specs.declared.stage.Move.{Move}
use Rattle.tds_front.specs.declared.stage.Stage.{Stage}
use Rattle.tds_front.specs.declared.stage.Stage.TheVariants as stages
use Rattle.tds_front.specs.Rules as rules
use Rattle.tds_front.specs.Rules.{taken}
use Rattle.tds_relay.specs.Core.{End, Open, Over}
use Rattle.tds_judge.specs.declared.talk.Event.TheVariants as events
use Rattle.tds_judge.specs.declared.talk.Reset.{Reset as Asks}
use Rattle.tds_judge.specs.declared.talk.Reset.TheVariants as resets
use Rattle.tds_judge.specs.Conversation.{MayAnswer, MayEnd, Place, Quiet, Asking, Answering, Stopping, Skipping, begun_at, ended_at, forgotten_at, heard_at, place_of, stopped_at}
use Rattle.tds_judge.specs.History.{Said, is_forgotten}
use Rattle.tds_judge.specs.Talking as talking
use Rattle.laws_never_blamed.specs.Seen.{Eye, sees, sees_packet, sees_request}
use Rattle.laws_never_blamed.specs.Relayed.{Side, own_acknowledgement, sees_attention, sees_dropped, sees_first, sees_more, sees_owed}
use Rattle.laws_never_blamed.proofs.Hears.{as_reset}
use Rattle.laws_never_blamed.proofs.Sides.{AnswersAt, Fine, fine_answer, fine_answered, fine_attention, fine_ignored, fine_later, fine_names, fine_packet, fine_request, fine_says}

-- ---- The invariant

-- A request was begun that asks for this, and its answer wasn't.
abbrev pub Waits : Option Reset → List Said → Type 0
Waits asks past = place_of past ≡ Asking (as_reset asks)

-- By what its end is at, by the reset that it hasn't been told of, and by whether a message goes to it that has begun.
abbrev pub AtStage : Stage → Option Reset → Bool → List Said → Type 0
AtStage stages.Quiet asks begun past = (begun ≡ false) × (place_of past ≡ Quiet)
AtStage (stages.Receiving kind gone) asks begun past = (begun ≡ false) × Waits asks past
AtStage (stages.Underway false) asks begun past = (begun ≡ false) × Waits asks past
AtStage (stages.Underway true) asks false past = Waits asks past
AtStage (stages.Underway true) asks true past = (asks ≡ None) × AnswersAt resets.None past
AtStage stages.Stopping asks false past = place_of past ≡ Stopping
AtStage stages.Stopping asks true past = place_of past ≡ Skipping false
AtStage (stages.Broken fault) asks begun past = Unit {0}

abbrev pub AtEnd : Option End → Bool → List Said → Type 0
AtEnd None begun past = Unit {0}
AtEnd (Some (Open front withdrawn asks)) begun past = AtStage front.stage asks begun past
AtEnd (Some (Over why)) begun past = Unit {0}

-- ---- The reset that it asks for, in the judge's words

below_two : (n : ℕ) → n % 2 < 2
below_two n = omega arith

one_8 : (b : ℕ) → b < 2 → (b * 8 == 8) ≡ (b == 1)
one_8 zero small = refl
one_8 (suc zero) small = refl
one_8 (suc (suc b)) small = absurd (omega arith)

one_16 : (b : ℕ) → b < 2 → (b * 16 == 16) ≡ (b == 1)
one_16 zero small = refl
one_16 (suc zero) small = refl
one_16 (suc (suc b)) small = absurd (omega arith)

bit_8 : (status : ℕ) → has_bit status 8 ≡ (status / 8 % 2 == 1)
bit_8 status = ap (λ (n : ℕ). n == 8) (and_high status 1 3) ∙ one_8 (status / 8 % 2) (below_two (status / 8))

bit_16 : (status : ℕ) → has_bit status 16 ≡ (status / 16 % 2 == 1)
bit_16 status = ap (λ (n : ℕ). n == 16) (and_high status 1 4) ∙ one_16 (status / 16 % 2) (below_two (status / 16))

resets_by : (a b : Bool) → a && b ≡ false → talking.reset_by a b ≡ as_reset (if a then (if b then None else Some Full) else (if b then Some KeepTransaction else None))
resets_by true true e = absurd (let u : ⊥ = cc in u)
resets_by true false e = refl
resets_by false true e = refl
resets_by false false e = refl

pub same_reset : (status : ℕ) → has_both_resets status ≡ false → talking.reset_of status ≡ as_reset (reset_of status)
same_reset status e =
    ap (λ (a : Bool). talking.reset_by a (status / 16 % 2 == 1)) (sym (bit_8 status))
    ∙ ap (λ (b : Bool). talking.reset_by (has_bit status 8) b) (sym (bit_16 status))
    ∙ resets_by (has_bit status 8) (has_bit status 16) e

-- ---- What is seen then

pub record Now (stage : Stage) (asks : Option Reset) (begun : Bool) (past : List Said) : Type 0 where
  pub fine : Fine past
  pub at : AtStage stage asks begun past

named_place : (b : Bool) (eye : Eye) (named : ℕ) (past : List Said) → place_of (if b then sees eye past (events.Names named) else past) ≡ place_of past
unfolding place_of
named_place true eye named past = refl
named_place false eye named past = refl

named_fine : (b : Bool) (eye : Eye) (named : ℕ) (past : List Said) → Fine past → Fine (if b then sees eye past (events.Names named) else past)
named_fine true eye named past f = fine_names eye past named f
named_fine false eye named past f = f

pub first_fine : (s : Side) (past : List Said) (head : Head) → Fine past → Fine (sees_first s past head)
first_fine s past head f =
    let asked = sees_request s.eye (sees_packet s.eye past) (bits_of head.status) in
    named_fine (s.eye.headers asked) s.eye (s.names asked) asked
    (fine_request s.eye (sees_packet s.eye past) (bits_of head.status) (s.eye.bulk (sees_packet s.eye past)) (fine_packet s.eye past (s.eye.length past) (s.eye.fills past) f))

asked_place : (s : Side) (past : List Said) (status : ℕ) → place_of (sees_request s.eye (sees_packet s.eye past) status) ≡ Asking (talking.reset_of status)
unfolding place_of
asked_place s past status = refl

pub first_place : (s : Side) (past : List Said) (head : Head) → place_of (sees_first s past head) ≡ Asking (talking.reset_of (bits_of head.status))
first_place s past head =
    let asked = sees_request s.eye (sees_packet s.eye past) (bits_of head.status) in
    named_place (s.eye.headers asked) s.eye (s.names asked) asked ∙ asked_place s past (bits_of head.status)

pub more_fine : (s : Side) (past : List Said) (head : Head) → Fine past → Fine (sees_more s past head)
more_fine s past head f = fine_later s.eye (sees_packet s.eye past) (bits_of head.status) (fine_packet s.eye past (s.eye.length past) (s.eye.fills past) f)

pub more_place : (s : Side) (past : List Said) (head : Head) → place_of (sees_more s past head) ≡ place_of past
unfolding place_of
more_place s past head = refl

pub ignored_place : (eye : Eye) (past : List Said) (asks : Asks) → place_of past ≡ Asking asks → place_of (sees eye past events.Ignored) ≡ Quiet
unfolding place_of
ignored_place eye past asks e = ap forgotten_at e

pub attention_fine : (s : Side) (past : List Said) → Fine past → Fine (sees_attention s past)
attention_fine s past f = fine_attention s.eye (sees s.eye past (events.Packet 8 false)) (fine_packet s.eye past 8 false f)

attention_place : (s : Side) (past : List Said) → place_of (sees_attention s past) ≡ stopped_at (place_of past)
unfolding place_of
attention_place s past = refl

-- a request that has begun, by whether it is whole
pub behind_at : (b : Bool) (kind : Kind) (asks : Option Reset) (begun : Bool) (past : List Said) → begun ≡ false → Waits asks past
    → AtStage (if b then stages.Underway false else stages.Receiving kind false) asks begun past
behind_at true kind asks begun past e waits = (e, waits)
behind_at false kind asks begun past e waits = (e, waits)

pub begun_waits : (asks : Option Reset) (begun : Bool) (past : List Said) → begun ≡ false → Waits asks past → AtStage (stages.Underway true) asks begun past
begun_waits asks false past e waits = waits
begun_waits asks true past e waits = absurd (let u : ⊥ = cc in u)

pub more_at : (b : Bool) (kind : Kind) (gone : Bool) (asks : Option Reset) (begun : Bool) (past : List Said) → begun ≡ false → Waits asks past
    → AtStage (if b then stages.Underway gone else stages.Receiving kind gone) asks begun past
more_at true kind true asks begun past e waits = begun_waits asks begun past e waits
more_at true kind false asks begun past e waits = (e, waits)
more_at false kind gone asks begun past e waits = (e, waits)

-- Its own attention is acknowledged.
pub owed_fine : (s : Side) (past : List Said) (pieces : List (List ℕ)) → Fine past → place_of past ≡ Stopping → Fine (sees_owed s past (Some pieces)) × (place_of (sees_owed s past (Some pieces)) ≡ Quiet)
unfolding place_of
owed_fine s past pieces f e =
    let eye = s.eye in
    let one = sees_packet eye past in
    let two = sees eye one events.Answer in
    let three = sees eye two (events.Says own_acknowledgement) in
    let f1 = fine_packet eye past (eye.length past) (eye.fills past) f in
    let e2 : place_of two ≡ Skipping false = ap begun_at e in
    let f2 = fine_answer eye one (subst (MayAnswer (is_forgotten one)) (sym e) tt) f1 in
    let e3 : place_of three ≡ Skipping true = ap (heard_at own_acknowledgement) e2 in
    let f3 = fine_says eye two own_acknowledgement (subst (λ (p : Place). Rattle.tds_judge.specs.Conversation.MaySay p own_acknowledgement) (sym e2) refl) tt f2 in
    (fine_answered eye three true (λ final. subst (λ (p : Place). MayEnd p true) (sym e3) tt) f3, ap ended_at e3)

-- where an attention leads
pub stopped_quiet : (s : Side) (past : List Said) → place_of past ≡ Quiet → place_of (sees_attention s past) ≡ Stopping
stopped_quiet s past e = attention_place s past ∙ ap stopped_at e

pub stopped_asking : (s : Side) (past : List Said) (asks : Asks) → place_of past ≡ Asking asks → place_of (sees_attention s past) ≡ Stopping
stopped_asking s past asks e = attention_place s past ∙ ap stopped_at e

pub stopped_whole : (s : Side) (past : List Said) (asks now : Option Reset) (begun : Bool) → AtStage (stages.Underway true) asks begun past → AtStage stages.Stopping now begun (sees_attention s past)
stopped_whole s past asks now false at = stopped_asking s past (as_reset asks) at
stopped_whole s past asks now true at = attention_place s past ∙ ap stopped_at at.1.place

pub stopped_part : (s : Side) (past : List Said) (asks now : Option Reset) (begun : Bool) → begun ≡ false → Waits asks past → AtStage stages.Stopping now begun (sees_attention s past)
stopped_part s past asks now false e waits = stopped_asking s past (as_reset asks) waits
stopped_part s past asks now true e waits = absurd (let u : ⊥ = cc in u)

-- ---- Behind a packet's header

abbrev pub LedBy : Side → Stage → List Said → Head → Stage → Option Reset → Bool → Result Action FrontFault → Type 0
LedBy s stage past head next asks begun (Ok (actions.Begin kind reset)) = Now next reset begun (sees_first s past head)
LedBy s stage past head next asks begun (Ok actions.Go) = Now next asks begun (sees_more s past head)
LedBy s stage past head next asks begun (Ok (actions.Forget gone)) = Now next None begun (sees_dropped s stage past head)
LedBy s stage past head next asks begun (Ok actions.Acknowledge) =
    Fine (sees_attention s past) × (place_of (sees_attention s past) ≡ Stopping) × (begun ≡ false) × (next ≡ stages.Quiet)
LedBy s stage past head next asks begun (Ok actions.HandOn) = Now next asks begun (sees_attention s past)
LedBy s stage past head next asks begun (Err fault) = Fine past

module _ (s : Side) (past : List Said) (head : Head) (asks : Option Reset) (begun : Bool) where
  abbrev status : ℕ
  status = bits_of head.status

  abbrev Led : Stage → Move → Type 0
  Led stage move = Now stage asks begun past → LedBy s stage past head move.stage asks begun move.does

  breaks : (stage : Stage) (fault : FrontFault) → Led stage (rules.breaks_end fault)
  breaks stage fault now = now.fine

  drops_by : (b : Bool) → Led stages.Quiet (if b then rules.moves_to stages.Quiet (actions.Forget false) else rules.breaks_end faults.IgnoredPart)
  drops_by true now = record {
    fine = fine_ignored s.eye (sees_first s past head) (first_fine s past head now.fine);
    at = (now.at.0, ignored_place s.eye (sees_first s past head) (talking.reset_of status) (first_place s past head));
  }
  drops_by false now = now.fine

  forgets_by : (kind : Kind) (gone b : Bool) → Led (stages.Receiving kind gone) (if b then rules.moves_to stages.Quiet (actions.Forget gone) else rules.breaks_end faults.IgnoredPart)
  forgets_by kind gone true now = record {
    fine = fine_ignored s.eye (sees_more s past head) (more_fine s past head now.fine);
    at = (now.at.0, ignored_place s.eye (sees_more s past head) (as_reset asks) (more_place s past head ∙ now.at.1));
  }
  forgets_by kind gone false now = now.fine

  begins_by : (both ignore empty : Bool) → has_both_resets status ≡ both
      → Led stages.Quiet (if both then rules.breaks_end faults.BothResets
      else if ignore then rules.forgets false status
      else if empty then rules.breaks_end faults.EmptyPart
      else rules.moves_to (rules.stage_behind_packet head.kind false status) (actions.Begin head.kind (reset_of status)))
  begins_by true ignore empty e now = now.fine
  begins_by false true empty e now = drops_by (has_bit status 1) now
  begins_by false false true e now = now.fine
  begins_by false false false e now = record {
    fine = first_fine s past head now.fine;
    at = behind_at (has_bit status 1) head.kind (reset_of status) begun (sees_first s past head) now.at.0 (first_place s past head ∙ ap Asking (same_reset status e));
  }

  goes_by : (kind : Kind) (gone same ignore : Bool)
      → Led (stages.Receiving kind gone) (if same
      then (if ignore then rules.forgets gone status else rules.moves_to (rules.stage_behind_packet kind gone status) actions.Go)
      else rules.breaks_end faults.TypeChanged)
  goes_by kind gone true true now = forgets_by kind gone (has_bit status 1) now
  goes_by kind gone true false now = record {
    fine = more_fine s past head now.fine;
    at = more_at (has_bit status 1) kind gone asks begun (sees_more s past head) now.at.0 (more_place s past head ∙ now.at.1);
  }
  goes_by kind gone false ignore now = now.fine

  of_request : (stage : Stage) → Led stage (rules.of_request stage head)
  of_request stages.Quiet now = begins_by (has_both_resets status) (has_bit status 2) (head.count == 0) refl now
  of_request (stages.Receiving kind gone) now = goes_by kind gone (kind_byte kind == kind_byte head.kind) (has_bit status 2) now
  of_request (stages.Underway gone) now = now.fine
  of_request stages.Stopping now = now.fine
  of_request (stages.Broken fault) now = now.fine

  refuses : (stage : Stage) (fault : FrontFault) → Led stage (rules.refuses stage fault)
  refuses stages.Quiet fault now = now.fine
  refuses (stages.Receiving kind gone) fault now = now.fine
  refuses (stages.Underway gone) fault now = now.fine
  refuses stages.Stopping fault now = now.fine
  refuses (stages.Broken first) fault now = now.fine

  attends : (stage : Stage) (b : Bool) → Led stage (if b then rules.takes_attention stage else rules.refuses stage faults.WrongAttention)
  attends stage false now = refuses stage faults.WrongAttention now
  attends stages.Quiet true now = (attention_fine s past now.fine, stopped_quiet s past now.at.1, now.at.0, refl)
  attends (stages.Receiving kind false) true now = (attention_fine s past now.fine, stopped_asking s past (as_reset asks) now.at.1, now.at.0, refl)
  attends (stages.Receiving kind true) true now = record { fine = attention_fine s past now.fine; at = stopped_part s past asks asks begun now.at.0 now.at.1 }
  attends (stages.Underway false) true now = (attention_fine s past now.fine, stopped_asking s past (as_reset asks) now.at.1, now.at.0, refl)
  attends (stages.Underway true) true now = record { fine = attention_fine s past now.fine; at = stopped_whole s past asks asks begun now.at }
  attends stages.Stopping true now = now.fine
  attends (stages.Broken fault) true now = now.fine

  taken_as : (kind : Kind) (stage : Stage) → Led stage (rules.taken_as kind stage head)
  taken_as kinds.Batch stage now = of_request stage now
  taken_as kinds.Procedure stage now = of_request stage now
  taken_as kinds.BulkLoad stage now = of_request stage now
  taken_as kinds.Transaction stage now = of_request stage now
  taken_as kinds.Attention stage now = attends stage ((status == 1) && (head.count == 0)) now
  taken_as kinds.Answer stage now = refuses stage faults.UnknownType now

  pub led : (stage : Stage) → Led stage (taken stage head)
  led stage now = taken_as head.kind stage now
