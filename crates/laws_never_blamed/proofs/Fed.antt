-- What is seen where an application's bytes come to its end of a relay, and where that is then.
use Rattle.std.proofs.Common.{◌≡◌, ◌∙◌, ◌||◌, ℕ, Bool, List, [], ◌∷◌, sym, subst}
use Rattle.std.specs.Prelude.{Option, Some, None, Result, Ok, Err}
use Rattle.tds_packet.specs.declared.status.Reset.{Reset}
use Rattle.tds_front.specs.declared.fault.FrontFault.{FrontFault}
use Rattle.tds_front.specs.declared.front.Fed.{Fed}
use Rattle.tds_front.specs.declared.front.Front.{Front}
use Rattle.tds_front.specs.declared.front.Said.{Said as Answer}
use Rattle.tds_front.specs.declared.front.Said.TheVariants as said
use Rattle.tds_front.specs.declared.stage.Action.{Action}
use Rattle.tds_front.specs.declared.stage.Action.TheVariants as actions
use Rattle.tds_front.specs.declared.stage.Head.{Head}
use Rattle.tds_front.specs.declared.stage.Stage.{Stage}
use Rattle.tds_front.specs.declared.stage.Stage.TheVariants as stages
use Rattle.tds_front.specs.Bytes.{fed}
use Rattle.tds_front.specs.Passing.{IsData, IsSaid, SaysOf, judged, stage_fed}
use Rattle.tds_front.specs.Rules.{taken}
use Rattle.tds_relay.specs.Core.{End, Open, asks_by, end_behind, takes_back}
use Rattle.tds_relay.specs.Machine.{owed_by, owed_of}
use Rattle.tds_relay.specs.Queues.{acknowledgement}
use Rattle.tds_judge.specs.History.{Said}
use Rattle.laws_never_blamed.specs.Relayed.{Side, sees_attention, sees_dropped, sees_first, sees_head, sees_judged, sees_more, sees_owed}
use Rattle.laws_never_blamed.proofs.Sides.{Fine}
use Rattle.laws_never_blamed.proofs.Taken.{AtEnd, AtStage, LedBy, Now, led, owed_fine}

-- ---- Behind a packet's header

led_fine : (s : Side) (stage : Stage) (past : List Said) (head : Head) (next : Stage) (asks : Option Reset) (begun : Bool) (does : Result Action FrontFault) → LedBy s stage past head next asks begun does
    → Fine (sees_head s stage past head does)
led_fine s stage past head next asks begun (Ok (actions.Begin kind reset)) l = l.fine
led_fine s stage past head next asks begun (Ok actions.Go) l = l.fine
led_fine s stage past head next asks begun (Ok (actions.Forget gone)) l = l.fine
led_fine s stage past head next asks begun (Ok actions.Acknowledge) l = l.0
led_fine s stage past head next asks begun (Ok actions.HandOn) l = l.fine
led_fine s stage past head next asks begun (Err fault) l = l

-- ---- Where its end is then

pub record NowEnd (end : Option End) (begun : Bool) (past : List Said) : Type 0 where
  pub fine : Fine past
  pub at : AtEnd end begun past

at_stage : (front : Front) (w : Bool) (asks : Option Reset) (begun : Bool) (past : List Said) (stage : Stage) → front.stage ≡ stage → Now stage asks begun past → NowEnd (Some (Open front w asks)) begun past
at_stage front w asks begun past stage e now = record { fine = now.fine; at = subst (λ (x : Stage). AtStage x asks begun past) (sym e) now.at }

abbrev SeenBy : Side → List Said → Front → Bool → Option Reset → Bool → Answer → Type 0
SeenBy s past next w asks begun answer = NowEnd (Some (Open next w (asks_by answer asks))) begun (sees_owed s past (owed_of answer))

data_seen : (s : Side) (past : List Said) (stage : Stage) (next : Front) (w : Bool) (asks : Option Reset) (begun : Bool) (answer : Answer) → IsData answer → next.stage ≡ stage → Now stage asks begun past
    → SeenBy s past next w asks begun answer
data_seen s past stage next w asks begun said.Nothing is e now = at_stage next w asks begun past stage e now
data_seen s past stage next w asks begun (said.Begin kind reset) is e now = absurd is
data_seen s past stage next w asks begun (said.Body count) is e now = at_stage next w asks begun past stage e now
data_seen s past stage next w asks begun (said.End count) is e now = at_stage next w asks begun past stage e now
data_seen s past stage next w asks begun (said.Forget gone) is e now = absurd is
data_seen s past stage next w asks begun said.Acknowledge is e now = absurd is
data_seen s past stage next w asks begun said.HandOn is e now = absurd is

go_seen : (s : Side) (past : List Said) (stage : Stage) (next : Front) (w : Bool) (asks : Option Reset) (begun : Bool) (answer : Answer) → IsSaid (Ok actions.Go) answer → next.stage ≡ stage → Now stage asks begun past
    → SeenBy s past next w asks begun answer
go_seen s past stage next w asks begun said.Nothing is e now = at_stage next w asks begun past stage e now
go_seen s past stage next w asks begun (said.Begin kind reset) is e now = absurd is
go_seen s past stage next w asks begun (said.Body count) is e now = absurd is
go_seen s past stage next w asks begun (said.End count) is e now = at_stage next w asks begun past stage e now
go_seen s past stage next w asks begun (said.Forget gone) is e now = absurd is
go_seen s past stage next w asks begun said.Acknowledge is e now = absurd is
go_seen s past stage next w asks begun said.HandOn is e now = absurd is

head_seen : (s : Side) (stage : Stage) (past : List Said) (head : Head) (led_to : Stage) (next : Front) (w : Bool) (asks : Option Reset) (begun : Bool) (does : Result Action FrontFault) (answer : Answer)
    → IsSaid does answer → next.stage ≡ led_to → LedBy s stage past head led_to asks begun does → SeenBy s (sees_head s stage past head does) next w asks begun answer
head_seen s stage past head led_to next w asks begun (Ok (actions.Begin kind reset)) answer is e l =
    subst (SeenBy s (sees_first s past head) next w asks begun) (sym is) (at_stage next w reset begun (sees_first s past head) led_to e l)
head_seen s stage past head led_to next w asks begun (Ok actions.Go) answer is e l = go_seen s (sees_more s past head) led_to next w asks begun answer is e l
head_seen s stage past head led_to next w asks begun (Ok (actions.Forget gone)) answer is e l =
    subst (SeenBy s (sees_dropped s stage past head) next w asks begun) (sym is) (at_stage next w None begun (sees_dropped s stage past head) led_to e l)
head_seen s stage past head led_to next w asks begun (Ok actions.Acknowledge) answer is e l =
    let own = owed_fine s (sees_attention s past) (acknowledgement ∷ []) l.0 l.1 in
    subst (SeenBy s (sees_attention s past) next w asks begun) (sym is)
    (at_stage next w None begun (sees_owed s (sees_attention s past) (Some (acknowledgement ∷ []))) stages.Quiet (e ∙ l.3) (record { fine = own.0; at = (l.2, own.1) }))
head_seen s stage past head led_to next w asks begun (Ok actions.HandOn) answer is e l =
    subst (SeenBy s (sees_attention s past) next w asks begun) (sym is) (at_stage next w asks begun (sees_attention s past) led_to e l)
head_seen s stage past head led_to next w asks begun (Err fault) answer is e l = absurd is

fed_seen : (s : Side) (stage : Stage) (w : Bool) (asks : Option Reset) (begun : Bool) (past : List Said) (packet : Option Head) (brings : Result Fed FrontFault) (next : Front)
    → next.stage ≡ stage_fed stage packet brings → SaysOf stage packet brings → Now stage asks begun past
    → NowEnd (Some (end_behind next w asks brings)) begun (sees_owed s (sees_judged s stage past packet) (owed_by brings))
fed_seen s stage w asks begun past None (Ok fed) next e says now = data_seen s past stage next (takes_back fed.said || w) asks begun fed.said says e now
fed_seen s stage w asks begun past None (Err fault) next e says now = record { fine = now.fine; at = tt }
fed_seen s stage w asks begun past (Some head) (Ok fed) next e says now =
    head_seen s stage past head (taken stage head).stage next (takes_back fed.said || w) asks begun (taken stage head).does fed.said says e
    (led s past head asks begun stage now)
fed_seen s stage w asks begun past (Some head) (Err fault) next e says now =
    record { fine = led_fine s stage past head (taken stage head).stage asks begun (taken stage head).does (led s past head asks begun stage now); at = tt }

pub bytes_seen : (s : Side) (front : Front) (w : Bool) (asks : Option Reset) (begun : Bool) (past : List Said) (bytes : List ℕ)
    → (fed front bytes).front.stage ≡ stage_fed front.stage (judged front.due bytes) (fed front bytes).brings → SaysOf front.stage (judged front.due bytes) (fed front bytes).brings
    → Now front.stage asks begun past
    → NowEnd (Some (end_behind (fed front bytes).front w asks (fed front bytes).brings)) begun (sees_owed s (sees_judged s front.stage past (judged front.due bytes)) (owed_by (fed front bytes).brings))
bytes_seen s front w asks begun past bytes e says now =
    fed_seen s front.stage w asks begun past (judged front.due bytes) (fed front bytes).brings (fed front bytes).front e says now
