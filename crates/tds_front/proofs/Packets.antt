-- What a call with bytes does to where the application is, and what it answers.
use Rattle.std.proofs.Common.{◌≡◌, ℕ, ◌==◌, ◌&&◌, nat_lt, Bool, true, false, List, [], ◌∷◌, length, refl, sym, subst, rules}
use Rattle.std.specs.Prelude.{Option, Some, None, Result, Ok, Err, if◌then◌else◌, min, not, ◌||◌, ◌-◌, ◌+◌, ◌*◌}
use Rattle.tds_packet.specs.declared.kind.Kind.{Kind}
use Rattle.tds_packet.specs.declared.kind.Kind.TheVariants as kinds
use Rattle.tds_packet.specs.Layout.{bits_of, has_bit, is_status, status_of}
use Rattle.tds_packet.specs.declared.kind.Direction.TheVariants.{ToServer}
use Rattle.tds_front.specs.declared.fault.FrontFault.{FrontFault}
use Rattle.tds_front.specs.declared.fault.FrontFault.TheVariants as faults
use Rattle.tds_front.specs.declared.front.Due.{Due}
use Rattle.tds_front.specs.declared.front.Due.TheVariants as dues
use Rattle.tds_front.specs.declared.front.Fed.{Fed}
use Rattle.tds_front.specs.declared.front.Front.{Front}
use Rattle.tds_front.specs.declared.front.Part.{Part}
use Rattle.tds_front.specs.declared.front.Said.TheVariants as said
use Rattle.tds_front.specs.declared.stage.Action.{Action}
use Rattle.tds_front.specs.declared.stage.Action.TheVariants as actions
use Rattle.tds_front.specs.declared.stage.Head.{Head}
use Rattle.tds_front.specs.declared.stage.Stage.{Stage}
use Rattle.tds_front.specs.declared.stage.Stage.TheVariants.{Quiet, Receiving, Underway, Stopping, Broken}
use Rattle.tds_front.specs.Bytes.{FrontStep, body_count, action_done, due_for, ended_in, fails, fed, fed_by, fed_unless, kind_from, packet_done, length_part_behind, run_of, says, told_body, front_with_due, front_with_kind, with_part}
use Rattle.tds_front.specs.Rules.{takes_attention, begins, breaks_end, goes_on, of_request, refuses, taken, taken_as}
use Rattle.tds_front.specs.Passing.{EndsOf, EndsWhere, IsData, IsSaid, SaysOf, judged, stage_fed}

-- a step leads from there to there, and says no more than of data
abbrev pub Leads : Stage → FrontStep → Type 0
Leads stage step = (step.front.stage ≡ stage_fed stage None step.brings) × SaysOf stage None step.brings × EndsWhere step.front.stage step.brings

abbrev pub front : ℕ → Stage → Due → Part → Front
front most stage due part = record { most = most; stage = stage; due = due; part = part }

told_data : (body : ℕ) → IsData (told_body body)
told_data body = search rules

told_no_end : (stage : Stage) (body : ℕ) (none : Bool) → EndsOf (if none then said.Nothing else said.Body body) stage
told_no_end stage body true = tt
told_no_end stage body false = tt

told_end : (stage : Stage) (body : ℕ) → EndsOf (told_body body) stage
told_end stage body = told_no_end stage body (body == 0)

ended_leads : (most : ℕ) (gone : Bool) (due : Due) (count body : ℕ) (part other : Part) → Leads (Underway gone) (ended_in (front most (Underway gone) due other) count body part)
ended_leads most gone due count body part other = search rules

done_leads : (most : ℕ) (stage : Stage) (due : Due) (part : Part) (count body : ℕ) → Leads stage (packet_done (front most stage due part) stage count body)
done_leads most Quiet due part count body = (refl, told_data body, told_end Quiet body)
done_leads most (Receiving kind gone) due part count body = (refl, told_data body, told_end (Receiving kind gone) body)
done_leads most (Underway gone) due part count body = ended_leads most gone due count body part part
done_leads most Stopping due part count body = (refl, told_data body, told_end Stopping body)
done_leads most (Broken fault) due part count body = (refl, told_data body, told_end (Broken fault) body)

abbrev IsUnbroken : Stage → Type 0
IsUnbroken Quiet = Unit {0}
IsUnbroken (Receiving kind gone) = Unit {0}
IsUnbroken (Underway gone) = Unit {0}
IsUnbroken Stopping = Unit {0}
IsUnbroken (Broken fault) = ⊥

fails_leads : (most : ℕ) (stage : Stage) (due : Due) (part : Part) (fault : FrontFault) → IsUnbroken stage → Leads stage (fails (front most stage due part) fault)
fails_leads most Quiet due part fault u = (refl, tt, tt)
fails_leads most (Receiving kind gone) due part fault u = (refl, tt, tt)
fails_leads most (Underway gone) due part fault u = (refl, tt, tt)
fails_leads most Stopping due part fault u = (refl, tt, tt)
fails_leads most (Broken first) due part fault u = absurd u

-- ---- Bytes that end no header

kind_leads : (most : ℕ) (stage : Stage) (due : Due) (part : Part) → IsUnbroken stage → (kind : Option Kind)
    → Leads stage (front_with_kind (front most stage due part) kind)
kind_leads most stage due part u None = fails_leads most stage due part faults.UnknownType u
kind_leads most stage due part u (Some kind) = (refl, tt, tt)

status_leads : (most : ℕ) (stage : Stage) (due : Due) (part : Part) → IsUnbroken stage → (kind : Kind) (byte : ℕ) (is_one : Bool)
    → Leads stage (if is_one then says (front_with_due (front most stage due part) (dues.HighLength kind (status_of byte))) 1 said.Nothing
    else fails (front most stage due part) faults.WrongStatus)
status_leads most stage due part u kind byte true = (refl, tt, tt)
status_leads most stage due part u kind byte false = fails_leads most stage due part faults.WrongStatus u

length_leads : (most : ℕ) (stage : Stage) (due : Due) (part : Part) → IsUnbroken stage → (head : Head) (wrong empty : Bool)
    → Leads stage (if wrong then fails (front most stage due part) faults.WrongLength
    else if empty then fails (front most stage due part) faults.EmptyPart
    else says (front_with_due (front most stage due part) (dues.Rest head 4)) 1 said.Nothing)
length_leads most stage due part u head true empty = fails_leads most stage due part faults.WrongLength u
length_leads most stage due part u head false true = fails_leads most stage due part faults.EmptyPart u
length_leads most stage due part u head false false = (refl, tt, tt)

passed_leads : (most : ℕ) (stage : Stage) (due : Due) (part : Part) (left run body : ℕ) (all : Bool)
    → Leads stage (if all then packet_done (front most stage dues.Type part) stage run body
    else says (front_with_due (front most stage due part) (dues.Data (left - run))) run (told_body body))
passed_leads most stage due part left run body true = done_leads most stage dues.Type part run body
passed_leads most stage due part left run body false = (refl, told_data body, told_end stage body)

part_leads : (most : ℕ) (stage : Stage) (due : Due) (part : Part) → IsUnbroken stage → (left run body : ℕ) (behind : Option Part)
    → Leads stage (with_part (front most stage due part) left run body behind)
part_leads most stage due part u left run body None = fails_leads most stage due part faults.WrongHeaders u
part_leads most stage due part u left run body (Some next) = passed_leads most stage due next left run body (left == run)

-- ---- The last byte of a header

abbrev SaidOf : Result Action FrontFault → Result Fed FrontFault → Type 0
SaidOf does (Ok fed) = IsSaid does fed.said
SaidOf does (Err fault) = Unit {0}

abbrev StageOf : Stage → Result Fed FrontFault → Stage
StageOf stage (Ok fed) = stage
StageOf stage (Err fault) = (refuses stage fault).stage

abbrev Does : Stage → Result Action FrontFault → FrontStep → Type 0
Does stage does step = (step.front.stage ≡ StageOf stage step.brings) × SaidOf does step.brings × EndsWhere step.front.stage step.brings

abbrev IsFault : Stage → Result Action FrontFault → Type 0
IsFault stage (Ok action) = Unit {0}
IsFault stage (Err fault) = stage ≡ Broken fault

begin_faults : (head : Head) → IsFault (begins head).stage (begins head).does
begin_faults head = search rules

further_faults : (kind : Kind) (gone : Bool) (head : Head) → IsFault (goes_on kind gone head).stage (goes_on kind gone head).does
further_faults kind gone head = search rules

request_faults : (stage : Stage) (head : Head) → IsFault (of_request stage head).stage (of_request stage head).does
request_faults Quiet head = begin_faults head
request_faults (Receiving kind gone) head = further_faults kind gone head
request_faults (Underway gone) head = refl
request_faults Stopping head = refl
request_faults (Broken fault) head = refl

refusal_faults : (stage : Stage) (fault : FrontFault) → IsFault (refuses stage fault).stage (refuses stage fault).does
refusal_faults stage fault = search rules

attention_faults : (stage : Stage) → IsFault (takes_attention stage).stage (takes_attention stage).does
attention_faults stage = search rules

attended_faults : (stage : Stage) (is_one : Bool) → IsFault (if is_one then takes_attention stage else refuses stage faults.WrongAttention).stage
    (if is_one then takes_attention stage else refuses stage faults.WrongAttention).does
attended_faults stage true = attention_faults stage
attended_faults stage false = refusal_faults stage faults.WrongAttention

faults_in : (kind : Kind) (stage : Stage) (head : Head) → IsFault (taken_as kind stage head).stage (taken_as kind stage head).does
faults_in kinds.Batch stage head = request_faults stage head
faults_in kinds.Procedure stage head = request_faults stage head
faults_in kinds.BulkLoad stage head = request_faults stage head
faults_in kinds.Transaction stage head = request_faults stage head
faults_in kinds.Attention stage head = attended_faults stage ((bits_of head.status == 1) && (head.count == 0))
faults_in kinds.Answer stage head = refusal_faults stage faults.UnknownType

ended_does : (most : ℕ) (gone : Bool) (due : Due) (count : ℕ) (part other : Part) → Does (Underway gone) (Ok actions.Go) (ended_in (front most (Underway gone) due other) count 0 part)
ended_does most gone due count part other = search rules

done_does : (most : ℕ) (stage : Stage) (due : Due) (part : Part) (count : ℕ) → Does stage (Ok actions.Go) (packet_done (front most stage due part) stage count 0)
done_does most Quiet due part count = (refl, tt, tt)
done_does most (Receiving kind gone) due part count = (refl, tt, tt)
done_does most (Underway gone) due part count = ended_does most gone due count part part
done_does most Stopping due part count = (refl, tt, tt)
done_does most (Broken fault) due part count = (refl, tt, tt)

went_does : (most : ℕ) (stage : Stage) (due : Due) (part : Part) (empty : Bool)
    → Does stage (Ok actions.Go) (if empty then packet_done (front most stage due part) stage 1 0 else says (front most stage due part) 1 said.Nothing)
went_does most stage due part true = done_does most stage due part 1
went_does most stage due part false = (refl, tt, tt)

breaks_to : (stage : Stage) (fault : FrontFault) → stage ≡ Broken fault → Broken fault ≡ (refuses stage fault).stage
breaks_to stage fault e = subst (λ (s : Stage). Broken fault ≡ (refuses s fault).stage) (sym e) refl

action_does : (f : Front) (stage : Stage) (count : ℕ) (does : Result Action FrontFault) → IsFault stage does → Does stage does (action_done f stage count does)
action_does f stage count (Err fault) e = (breaks_to stage fault e, tt, tt)
action_does f stage count (Ok (actions.Begin kind reset)) e = (refl, refl, tt)
action_does f stage count (Ok actions.Go) e = went_does f.most stage (due_for count) f.part (count == 0)
action_does f stage count (Ok (actions.Forget gone)) e = (refl, refl, tt)
action_does f stage count (Ok actions.Acknowledge) e = (refl, refl, tt)
action_does f stage count (Ok actions.HandOn) e = (refl, refl, tt)

-- ---- Any bytes

abbrev pub Fits : Stage → Option Head → FrontStep → Type 0
Fits stage packet step = (step.front.stage ≡ stage_fed stage packet step.brings) × SaysOf stage packet step.brings × EndsWhere step.front.stage step.brings

judged_stage : (stage : Stage) (head : Head) (behind : Stage) (brings : Result Fed FrontFault) → behind ≡ StageOf (taken stage head).stage brings
    → behind ≡ stage_fed stage (Some head) brings
judged_stage stage head behind (Ok fed) e = e
judged_stage stage head behind (Err fault) e = e

judged_said : (stage : Stage) (head : Head) (brings : Result Fed FrontFault) → SaidOf (taken stage head).does brings → SaysOf stage (Some head) brings
judged_said stage head (Ok fed) s = s
judged_said stage head (Err fault) s = s

header_fits : (f : Front) (head : Head) → Fits f.stage (Some head) (action_done f (taken f.stage head).stage head.count (taken f.stage head).does)
header_fits f head =
    let step : FrontStep = action_done f (taken f.stage head).stage head.count (taken f.stage head).does in
    let d : Does (taken f.stage head).stage (taken f.stage head).does step =
    action_does f (taken f.stage head).stage head.count (taken f.stage head).does (faults_in head.kind f.stage head) in
    (judged_stage f.stage head step.front.stage step.brings d.0, judged_said f.stage head step.brings d.1, d.2)

rest_fits : (f : Front) (head : Head) (left : ℕ) (more : Bool) → Fits f.stage (if more then None else Some head)
    (if more then says (front_with_due f (dues.Rest head (left - 1))) 1 said.Nothing else action_done f (taken f.stage head).stage head.count (taken f.stage head).does)
rest_fits f head left true = (refl, tt, tt)
rest_fits f head left false = header_fits f head

by_due : (most : ℕ) (stage : Stage) (due : Due) (part : Part) → IsUnbroken stage → (next : Due) (byte : ℕ) (rest : List ℕ) (there : ℕ)
    → Fits stage (judged next (byte ∷ rest)) (fed_by next (front most stage due part) byte there)
by_due most stage due part u dues.Type byte rest there = kind_leads most stage due part u (kind_from byte)
by_due most stage due part u (dues.Status kind) byte rest there = status_leads most stage due part u kind byte (is_status ToServer byte)
by_due most stage due part u (dues.HighLength kind status) byte rest there = (refl, tt, tt)
by_due most stage due part u (dues.LowLength kind status high) byte rest there =
    length_leads most stage due part u (record { kind = kind; status = status; count = 256 * high + byte - 8 })
    (nat_lt (256 * high + byte) 8 || nat_lt most (256 * high + byte)) ((256 * high + byte == 8) && not (has_bit (bits_of status) 1))
by_due most stage due part u (dues.Rest head left) byte rest there = rest_fits (front most stage due part) head left (nat_lt 1 left)
by_due most stage due part u (dues.Data left) byte rest there =
    part_leads most stage due part u left (run_of part (min left there)) (body_count part (run_of part (min left there))) (length_part_behind part byte (run_of part (min left there)))

-- behind a fault it is answered again
closed_attended : (fault : FrontFault) (is_one : Bool) → Broken fault ≡ (refuses (if is_one then breaks_end fault else breaks_end fault).stage fault).stage
closed_attended fault true = refl
closed_attended fault false = refl

closed_stage : (fault : FrontFault) (head : Head) (kind : Kind) → Broken fault ≡ (refuses (taken_as kind (Broken fault) head).stage fault).stage
closed_stage fault head kinds.Batch = refl
closed_stage fault head kinds.Procedure = refl
closed_stage fault head kinds.BulkLoad = refl
closed_stage fault head kinds.Transaction = refl
closed_stage fault head kinds.Answer = refl
closed_stage fault head kinds.Attention = closed_attended fault ((bits_of head.status == 1) && (head.count == 0))

closed_fits : (fault : FrontFault) (packet : Option Head)
    → (Broken fault ≡ stage_fed (Broken fault) packet (Err fault)) × SaysOf (Broken fault) packet (Err fault) × EndsWhere (Broken fault) (Err fault)
closed_fits fault None = (refl, tt, tt)
closed_fits fault (Some head) = (closed_stage fault head head.kind, tt, tt)

unless_broken : (most : ℕ) (stage : Stage) (due : Due) (part : Part) (byte : ℕ) (rest : List ℕ) (there : ℕ)
    → Fits stage (judged due (byte ∷ rest)) (fed_unless stage (front most stage due part) byte there)
unless_broken most Quiet due part byte rest there = by_due most Quiet due part tt due byte rest there
unless_broken most (Receiving kind gone) due part byte rest there = by_due most (Receiving kind gone) due part tt due byte rest there
unless_broken most (Underway gone) due part byte rest there = by_due most (Underway gone) due part tt due byte rest there
unless_broken most Stopping due part byte rest there = by_due most Stopping due part tt due byte rest there
unless_broken most (Broken fault) due part byte rest there = closed_fits fault (judged due (byte ∷ rest))

pub fits : (f : Front) (piece : List ℕ) → Fits f.stage (judged f.due piece) (fed f piece)
unfolding fed
fits f [] = (refl, tt, tt)
fits f (byte ∷ rest) = unless_broken f.most f.stage f.due f.part byte rest (length (byte ∷ rest))
