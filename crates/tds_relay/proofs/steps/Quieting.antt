-- An application whose request is forgotten asks nothing, and so it waits no more.
use Rattle.std.proofs.Common.{◌≡◌, ◌∙◌, ℕ, zero, suc, Bool, List, [], ◌∷◌, Option, Some, None, refl, sym, ap, subst, slice_set, option_map}
use Rattle.std.specs.Prelude.{Result, Ok, Err}
use Rattle.tds_packet.specs.declared.status.Reset.{Reset}
use Rattle.tds_front.specs.declared.fault.FrontFault.{FrontFault}
use Rattle.tds_front.specs.declared.front.Front.{Front}
use Rattle.tds_front.specs.declared.front.Said.{Said}
use Rattle.tds_front.specs.declared.front.Said.TheVariants as said
use Rattle.tds_front.specs.declared.stage.Action.{Action}
use Rattle.tds_front.specs.declared.stage.Action.TheVariants as actions
use Rattle.tds_front.specs.declared.stage.Head.{Head}
use Rattle.tds_front.specs.declared.stage.Stage.{Stage}
use Rattle.tds_front.specs.declared.stage.Stage.TheVariants as stages
use Rattle.tds_front.specs.Bytes.{fed}
use Rattle.tds_front.specs.Passing.{IsData, IsSaid, SaysOf, judged, stage_fed}
use Rattle.tds_front.specs.Rules.{taken}
use Rattle.tds_relay.specs.Anew.{AsksNothing}
use Rattle.tds_relay.specs.declared.pool.Hold.{Hold}
use Rattle.tds_relay.specs.Pool as pool
use Rattle.tds_relay.specs.Pool.{Pool, holder_does, find_key, turn}
use Rattle.tds_relay.specs.Fronts.{IsFed, core_of_ends, withdraws}
use Rattle.tds_relay.specs.Core.{Does, End, EndList, Core, IfOpen, IfWhose, IsBegun, Moves, Open, Over, asks_by, change_end, end_at, lets_go}
use Rattle.tds_relay.specs.Ties.{Application, Turns}
use Rattle.tds_relay.proofs.ends.Leading.{fits}
use Rattle.tds_relay.proofs.steps.Fronts.{changed_at, moves_one, same_core}

-- what came of its request is forgotten by what is said
abbrev pub Drops : Said → Type 0
Drops said.Nothing = ⊥
Drops (said.Begin kind reset) = ⊥
Drops (said.Body count) = ⊥
Drops (said.End count) = ⊥
Drops (said.Forget gone) = Unit {0}
Drops said.Acknowledge = Unit {0}
Drops said.HandOn = ⊥

-- ---- Behind a packet by which it is

go_drops : (answer : Said) → IsSaid (Ok actions.Go) answer → Drops answer → ⊥
go_drops said.Nothing s d = d
go_drops (said.Begin kind reset) s d = s
go_drops (said.Body count) s d = s
go_drops (said.End count) s d = d
go_drops (said.Forget gone) s d = s
go_drops said.Acknowledge s d = s
go_drops said.HandOn s d = s

drops_quiet : (stage : Stage) (head : Head) (does : Result Action FrontFault) (answer : Said) → (taken stage head).does ≡ does → IsSaid does answer → Drops answer → (taken stage head).stage ≡ stages.Quiet
drops_quiet stage head (Ok (actions.Begin kind reset)) answer e s d = absurd (subst Drops s d)
drops_quiet stage head (Ok actions.Go) answer e s d = absurd (go_drops answer s d)
drops_quiet stage head (Ok (actions.Forget gone)) answer e s d = (fits stage head (actions.Forget gone) e).0
drops_quiet stage head (Ok actions.Acknowledge) answer e s d = (fits stage head actions.Acknowledge e).0
drops_quiet stage head (Ok actions.HandOn) answer e s d = absurd (subst Drops s d)
drops_quiet stage head (Err fault) answer e s d = absurd s

data_drops : (answer : Said) → IsData answer → Drops answer → ⊥
data_drops said.Nothing s d = d
data_drops (said.Begin kind reset) s d = s
data_drops (said.Body count) s d = d
data_drops (said.End count) s d = d
data_drops (said.Forget gone) s d = s
data_drops said.Acknowledge s d = s
data_drops said.HandOn s d = s

says_quiet : (stage : Stage) (packet : Option Head) (count : ℕ) (answer : Said) → SaysOf stage packet (Ok (record { count = count; said = answer })) → Drops answer
    → stage_fed stage packet (Ok (record { count = count; said = answer })) ≡ stages.Quiet
says_quiet stage None count answer s d = absurd (data_drops answer s d)
says_quiet stage (Some head) count answer s d = drops_quiet stage head (taken stage head).does answer refl s d

-- ---- Behind one by which it begins

abbrev pub Opens : Said → Type 0
Opens said.Nothing = ⊥
Opens (said.Begin kind reset) = Unit {0}
Opens (said.Body count) = ⊥
Opens (said.End count) = ⊥
Opens (said.Forget gone) = ⊥
Opens said.Acknowledge = ⊥
Opens said.HandOn = ⊥

go_opens : (answer : Said) → IsSaid (Ok actions.Go) answer → Opens answer → ⊥
go_opens said.Nothing s d = d
go_opens (said.Begin kind reset) s d = s
go_opens (said.Body count) s d = s
go_opens (said.End count) s d = d
go_opens (said.Forget gone) s d = s
go_opens said.Acknowledge s d = s
go_opens said.HandOn s d = s

opens_begun : (stage : Stage) (head : Head) (does : Result Action FrontFault) (answer : Said) → (taken stage head).does ≡ does → IsSaid does answer → Opens answer → IsBegun (taken stage head).stage
opens_begun stage head (Ok (actions.Begin kind reset)) answer e s d = (fits stage head (actions.Begin kind reset) e).1.1
opens_begun stage head (Ok actions.Go) answer e s d = absurd (go_opens answer s d)
opens_begun stage head (Ok (actions.Forget gone)) answer e s d = absurd (subst Opens s d)
opens_begun stage head (Ok actions.Acknowledge) answer e s d = absurd (subst Opens s d)
opens_begun stage head (Ok actions.HandOn) answer e s d = absurd (subst Opens s d)
opens_begun stage head (Err fault) answer e s d = absurd s

data_opens : (answer : Said) → IsData answer → Opens answer → ⊥
data_opens said.Nothing s d = d
data_opens (said.Begin kind reset) s d = s
data_opens (said.Body count) s d = d
data_opens (said.End count) s d = d
data_opens (said.Forget gone) s d = s
data_opens said.Acknowledge s d = s
data_opens said.HandOn s d = s

says_begun : (stage : Stage) (packet : Option Head) (count : ℕ) (answer : Said) → SaysOf stage packet (Ok (record { count = count; said = answer })) → Opens answer
    → IsBegun (stage_fed stage packet (Ok (record { count = count; said = answer })))
says_begun stage None count answer s d = absurd (data_opens answer s d)
says_begun stage (Some head) count answer s d = opens_begun stage head (taken stage head).does answer refl s d

-- ---- Its end

abbrev pub StageLaw : Type 0
StageLaw = (front : Front) (bytes : List ℕ) → (fed front bytes).front.stage ≡ stage_fed front.stage (judged front.due bytes) (fed front bytes).brings

abbrev pub SaysLaw : Type 0
SaysLaw = (front : Front) (bytes : List ℕ) → SaysOf front.stage (judged front.due bytes) (fed front bytes).brings

fed_quiet : (front : Front) (bytes : List ℕ) (count : ℕ) (answer : Said) → StageLaw → SaysLaw → (fed front bytes).brings ≡ Ok (record { count = count; said = answer }) → Drops answer
    → (fed front bytes).front.stage ≡ stages.Quiet
fed_quiet front bytes count answer stage says e d =
    stage front bytes ∙ ap (stage_fed front.stage (judged front.due bytes)) e
    ∙ says_quiet front.stage (judged front.due bytes) count answer (subst (SaysOf front.stage (judged front.due bytes)) e (says front bytes)) d

open_set : (P : Stage → Type 0) (es : EndList) (key : ℕ) (front : Front) (withdrawn : Bool) (asks : Option Reset) → P front.stage → IfOpen P (end_at (slice_set es key (Some (Open front withdrawn asks))) key)
open_set P [] key front withdrawn asks p = tt
open_set P (x ∷ xs) zero front withdrawn asks p = p
open_set P (x ∷ xs) (suc key) front withdrawn asks p = open_set P xs key front withdrawn asks p

pub quiet_fed : (key : ℕ) (before now : EndList) (bytes : List ℕ) (answer : Said) → StageLaw → SaysLaw → Drops answer → IsFed key before now bytes answer → IfOpen AsksNothing (end_at now key)
quiet_fed key before now bytes answer stage says d f =
    subst (λ (es : EndList). IfOpen AsksNothing (end_at es key)) (sym f.is)
    (open_set AsksNothing before key (fed f.front bytes).front f.withdrawn (asks_by answer f.asks) (fed_quiet f.front bytes f.count answer stage says f.says d))

pub begun_fed : (key : ℕ) (before now : EndList) (bytes : List ℕ) (answer : Said) → StageLaw → SaysLaw → Opens answer → IsFed key before now bytes answer → IfOpen IsBegun (end_at now key)
begun_fed key before now bytes answer stage says d f =
    let fed_is = stage f.front bytes ∙ ap (stage_fed f.front.stage (judged f.front.due bytes)) f.says in
    let begun : IsBegun (fed f.front bytes).front.stage =
    subst IsBegun (sym fed_is) (says_begun f.front.stage (judged f.front.due bytes) f.count answer (subst (SaysOf f.front.stage (judged f.front.due bytes)) f.says (says f.front bytes)) d) in
    subst (λ (es : EndList). IfOpen IsBegun (end_at es key)) (sym f.is) (open_set IsBegun before key (fed f.front bytes).front f.withdrawn (asks_by answer f.asks) begun)

open_let : (P : Stage → Type 0) (o : Option End) → IfOpen P o → IfOpen P (option_map lets_go o)
open_let P None p = tt
open_let P (Some (Open front withdrawn asks)) p = p
open_let P (Some (Over why)) p = tt

-- it stays so where its connection is let go
pub open_lets_go : (P : Stage → Type 0) (es : EndList) (key : ℕ) → IfOpen P (end_at es key) → IfOpen P (end_at (change_end key lets_go es) key)
open_lets_go P es key p = subst (IfOpen P) (sym (changed_at es key lets_go)) (open_let P (end_at es key) p)

pub whose_is : (P : ℕ → Type 0) (o : Option ℕ) (key : ℕ) → o ≡ Some key → IfWhose P o → P key
whose_is P o key e h = subst (IfWhose P) e h

quiet_withdrawn : (o : Option End) → IfOpen AsksNothing o → IfOpen AsksNothing (option_map withdraws o)
quiet_withdrawn None q = tt
quiet_withdrawn (Some (Open front withdrawn asks)) q = q
quiet_withdrawn (Some (Over why)) q = tt

-- ---- Its attention goes out, and it waits no more

either_first : (d : Pool) (key : ℕ) (o : Option Hold) → (holder_does (turn d (pool.Unwaits key)).pool pool.Stops o).pool ≡ (turn (holder_does d pool.Stops o).pool (pool.Unwaits key)).pool
either_first d key None = refl
either_first d key (Some h) = refl

pub stops_unwaits : (key : ℕ) (d d1 d2 : Pool) (before after out out1 : List ℕ) → Turns (pool.Unwaits key) d d1 before after → Turns (pool.Does key pool.Stops) d1 d2 out out1
    → (turn (turn d (pool.Does key pool.Stops)).pool (pool.Unwaits key)).pool ≡ d2
stops_unwaits key d d1 d2 before after out out1 t u =
    sym (either_first d key (find_key key d.holds)) ∙ sym (u.pool_is ∙ ap (λ (x : Pool). (turn x (pool.Does key pool.Stops)).pool) t.pool_is)

pub moves_unwaits : (key : ℕ) (from : Core) (d d2 : Pool) (now behind : EndList) → (turn d (pool.Unwaits key)).pool ≡ d2 → behind ≡ change_end key withdraws now → IfOpen AsksNothing (end_at now key)
    → Moves (Application key) from (core_of_ends d behind) → Moves (Application key) from (core_of_ends d2 behind)
moves_unwaits key from d d2 now behind is ends quiet m =
    let there : IfOpen AsksNothing (end_at behind key) =
    subst (λ (es : EndList). IfOpen AsksNothing (end_at es key)) (sym ends) (subst (IfOpen AsksNothing) (sym (changed_at now key withdraws)) (quiet_withdrawn (end_at now key) quiet)) in
    subst (Moves (Application key) from) (same_core (turn d (pool.Unwaits key)).pool d2 behind behind (sym is) refl)
    (moves_one (Application key) from (core_of_ends d behind) (Does (pool.Unwaits key)) there refl tt m)
