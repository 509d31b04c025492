-- What an application is given by bytes of its own: the acknowledgement of its attention, where its end owes it that.
use Rattle.std.proofs.Common.{◌≡◌, ◌∙◌, ◌-◌, ◌==◌, ◌&&◌, ℕ, Bool, true, false, List, [], ◌∷◌, refl, sym, ap, subst, inr}
use Rattle.std.specs.Prelude.{Option, Some, None, Result, Ok, Err, nat_lt, if◌then◌else◌}
use Rattle.std.proofs.lemmas.Bool.{eqb-true}
use Rattle.tds_packet.specs.declared.status.Reset.{Reset}
use Rattle.tds_packet.specs.declared.kind.Kind.{Kind}
use Rattle.tds_packet.specs.declared.kind.Kind.TheVariants as kinds
use Rattle.tds_packet.specs.Layout.{bits_of}
use Rattle.tds_front.specs.declared.fault.FrontFault.{FrontFault}
use Rattle.tds_front.specs.declared.front.Due.{Due}
use Rattle.tds_front.specs.declared.front.Due.TheVariants as due
use Rattle.tds_front.specs.declared.front.Fed.{Fed}
use Rattle.tds_front.specs.declared.front.Front.{Front}
use Rattle.tds_front.specs.declared.front.Part.{Part}
use Rattle.tds_front.specs.declared.front.Said.{Said as Answer}
use Rattle.tds_front.specs.declared.front.Said.TheVariants as said
use Rattle.tds_front.specs.declared.stage.Action.{Action}
use Rattle.tds_front.specs.declared.stage.Action.TheVariants as actions
use Rattle.tds_front.specs.declared.stage.Head.{Head}
use Rattle.tds_front.specs.declared.stage.Stage.{Stage}
use Rattle.tds_front.specs.declared.stage.Stage.TheVariants as stages
use Rattle.tds_front.specs.Bytes.{action_done, fed, says, front_with_due}
use Rattle.tds_front.specs.Passing.{FrontEvent, Refuses, IsData, IsSaid, SaysOf, judged, towards, with_own}
use Rattle.tds_front.specs.Rules as rules
use Rattle.tds_front.specs.Rules.{taken}
use Rattle.tds_front.specs.Serving.{Happening, begun_behind}
use Rattle.tds_relay.specs.Behind.{brought, brought_by, if_end_open, passes, refused_by}
use Rattle.tds_relay.specs.Giving.{AreSaid, Given, if_its}
use Rattle.tds_relay.specs.Core as core
use Rattle.tds_relay.specs.Core.{End, Open, EndList, Core, end_at}
use Rattle.tds_relay.specs.Machine.{owed, owed_by}
use Rattle.tds_relay.proofs.visits.Replies.{Said, gives, its, not_its}

-- ---- Bytes that are taken

abbrev fed_so : ℕ → Answer → Result Fed FrontFault
fed_so count answer = Ok (record { count = count; said = answer })

data_owes : (count : ℕ) (answer : Answer) → IsData answer → owed_by (fed_so count answer) ≡ None
data_owes count said.Nothing s = refl
data_owes count (said.Begin kind reset) s = absurd s
data_owes count (said.Body size) s = refl
data_owes count (said.End size) s = refl
data_owes count (said.Forget gone) s = absurd s
data_owes count said.Acknowledge s = absurd s
data_owes count said.HandOn s = absurd s

go_owes : (count : ℕ) (answer : Answer) → IsSaid (Ok actions.Go) answer → owed_by (fed_so count answer) ≡ None
go_owes count said.Nothing s = refl
go_owes count (said.Begin kind reset) s = absurd s
go_owes count (said.Body size) s = absurd s
go_owes count (said.End size) s = refl
go_owes count (said.Forget gone) s = absurd s
go_owes count said.Acknowledge s = absurd s
go_owes count said.HandOn s = absurd s

-- where nothing is owed, nothing is to be said
nothing_owed : (xs : List Happening) (owes : Option Given) → owes ≡ None → AreSaid xs [] → AreSaid xs (gives owes)
nothing_owed xs owes e h = subst (λ (o : Option Given). AreSaid xs (gives o)) (sym e) h

own_said : (does : Result Action FrontFault) (count : ℕ) (answer : Answer) → IsSaid does answer → AreSaid (with_own does []) (gives (owed_by (fed_so count answer)))
own_said (Ok (actions.Begin kind reset)) count answer s = nothing_owed [] (owed_by (fed_so count answer)) (ap (λ (a : Answer). owed_by (fed_so count a)) s) refl
own_said (Ok actions.Go) count answer s = nothing_owed [] (owed_by (fed_so count answer)) (go_owes count answer s) refl
own_said (Ok (actions.Forget gone)) count answer s = nothing_owed [] (owed_by (fed_so count answer)) (ap (λ (a : Answer). owed_by (fed_so count a)) s) refl
own_said (Ok actions.Acknowledge) count answer s =
    subst (λ (a : Answer). AreSaid (with_own (Ok actions.Acknowledge) []) (gives (owed_by (fed_so count a)))) (sym s) (inr refl, refl)
own_said (Ok actions.HandOn) count answer s = nothing_owed [] (owed_by (fed_so count answer)) (ap (λ (a : Answer). owed_by (fed_so count a)) s) refl
own_said (Err fault) count answer s = absurd s

-- ---- Bytes that are refused

refuse_said : (stage : Stage) (fault : FrontFault) → Said stage (Refuses fault ∷ []) []
refuse_said stages.Quiet fault begun = refl
refuse_said (stages.Receiving kind gone) fault begun = refl
refuse_said (stages.Underway gone) fault begun = refl
refuse_said stages.Stopping fault begun = refl
refuse_said (stages.Broken first) fault begun = refl

refused_said : (does : Result Action FrontFault) (fault : FrontFault) (begun : Option Kind) (next : Stage) → (does ≡ Ok actions.Acknowledge → ⊥)
    → AreSaid (with_own does (towards begun next (refused_by does fault))) []
refused_said (Ok (actions.Begin kind reset)) fault begun next never = refuse_said next fault begun
refused_said (Ok actions.Go) fault begun next never = refuse_said next fault begun
refused_said (Ok (actions.Forget gone)) fault begun next never = refuse_said next fault begun
refused_said (Ok actions.Acknowledge) fault begun next never = absurd (never refl)
refused_said (Ok actions.HandOn) fault begun next never = refuse_said next fault begun
refused_said (Err first) fault begun next never = refl

-- ---- Any bytes

-- an attention that is acknowledged isn't refused
abbrev NeverRefused : Stage → Option Head → Result Fed FrontFault → Type 0
NeverRefused stage packet brings = (head : Head) (fault : FrontFault) → packet ≡ Some head → brings ≡ Err fault → (taken stage head).does ≡ Ok actions.Acknowledge → ⊥

brought_so : (stage : Stage) (packet : Option Head) (brings : Result Fed FrontFault) → SaysOf stage packet brings → NeverRefused stage packet brings
    → Said stage (brought_by stage packet brings) (gives (owed_by brings))
brought_so stage None (Ok fed) s never begun = nothing_owed [] (owed_by (Ok fed)) (data_owes fed.count fed.said s) refl
brought_so stage None (Err fault) s never begun = refuse_said stage fault begun
brought_so stage (Some head) (Ok fed) s never begun = own_said (taken stage head).does fed.count fed.said s
brought_so stage (Some head) (Err fault) s never begun =
    refused_said (taken stage head).does fault (begun_behind begun head) (taken stage head).stage (never head fault refl refl)

-- ---- An attention that is acknowledged

attended_not : (b : Bool) (first fault : FrontFault) → (if b then rules.breaks_end first else rules.breaks_end fault).does ≡ Ok actions.Acknowledge → ⊥
attended_not true first fault e = let u : ⊥ = cc in u
attended_not false first fault e = let u : ⊥ = cc in u

broken_not : (kind : Kind) (head : Head) (first : FrontFault) → (rules.taken_as kind (stages.Broken first) head).does ≡ Ok actions.Acknowledge → ⊥
broken_not kinds.Batch head first e = let u : ⊥ = cc in u
broken_not kinds.Procedure head first e = let u : ⊥ = cc in u
broken_not kinds.BulkLoad head first e = let u : ⊥ = cc in u
broken_not kinds.Transaction head first e = let u : ⊥ = cc in u
broken_not kinds.Attention head first e = attended_not ((bits_of head.status == 1) && (head.count == 0)) first first e
broken_not kinds.Answer head first e = let u : ⊥ = cc in u

done_not : (f : Front) (stage : Stage) (count : ℕ) (does : Result Action FrontFault) (fault : FrontFault) → (action_done f stage count does).brings ≡ Err fault → does ≡ Ok actions.Acknowledge → ⊥
done_not f stage count does fault fails is =
    let e : (action_done f stage count (Ok actions.Acknowledge)).brings ≡ Err fault = subst (λ (r : Result Action FrontFault). (action_done f stage count r).brings ≡ Err fault) is fails in
    let u : ⊥ = cc in
    u

rest_not : (b : Bool) (f : Front) (first head : Head) (left : ℕ) (fault : FrontFault) → (if b then None else Some first) ≡ Some head
    → (if b then says (front_with_due f (due.Rest first (left - 1))) 1 said.Nothing else action_done f (taken f.stage first).stage first.count (taken f.stage first).does).brings ≡ Err fault
    → (taken f.stage head).does ≡ Ok actions.Acknowledge → ⊥
rest_not true f first head left fault e fails is = let u : ⊥ = cc in u
rest_not false f first head left fault e fails is =
    let same : head ≡ first = cc in
    done_not f (taken f.stage first).stage first.count (taken f.stage first).does fault fails (ap (λ (h : Head). (taken f.stage h).does) (sym same) ∙ is)

abbrev front_at : ℕ → Stage → Due → Part → Front
front_at most stage next part = record { most = most; stage = stage; due = next; part = part }

never_refused : (most : ℕ) (stage : Stage) (next : Due) (part : Part) (bytes : List ℕ) → NeverRefused stage (judged next bytes) (fed (front_at most stage next part) bytes).brings
unfolding fed
never_refused most stage next part [] head fault e fails is = let u : ⊥ = cc in u
never_refused most stage due.Type part (byte ∷ bytes) head fault e fails is = let u : ⊥ = cc in u
never_refused most stage (due.Status kind) part (byte ∷ bytes) head fault e fails is = let u : ⊥ = cc in u
never_refused most stage (due.HighLength kind status) part (byte ∷ bytes) head fault e fails is = let u : ⊥ = cc in u
never_refused most stage (due.LowLength kind status high) part (byte ∷ bytes) head fault e fails is = let u : ⊥ = cc in u
never_refused most stage (due.Data left) part (byte ∷ bytes) head fault e fails is = let u : ⊥ = cc in u
never_refused most stages.Quiet (due.Rest first left) part (byte ∷ bytes) head fault e fails is =
    rest_not (nat_lt 1 left) (front_at most stages.Quiet (due.Rest first left) part) first head left fault e fails is
never_refused most (stages.Receiving kind gone) (due.Rest first left) part (byte ∷ bytes) head fault e fails is =
    rest_not (nat_lt 1 left) (front_at most (stages.Receiving kind gone) (due.Rest first left) part) first head left fault e fails is
never_refused most (stages.Underway gone) (due.Rest first left) part (byte ∷ bytes) head fault e fails is =
    rest_not (nat_lt 1 left) (front_at most (stages.Underway gone) (due.Rest first left) part) first head left fault e fails is
never_refused most stages.Stopping (due.Rest first left) part (byte ∷ bytes) head fault e fails is =
    rest_not (nat_lt 1 left) (front_at most stages.Stopping (due.Rest first left) part) first head left fault e fails is
never_refused most (stages.Broken was) (due.Rest first left) part (byte ∷ bytes) head fault e fails is = broken_not head.kind head was is

-- ---- By bytes of its own, and of others

brought_said : (front : Front) (bytes : List ℕ) → SaysOf front.stage (judged front.due bytes) (fed front bytes).brings → Said front.stage (brought front bytes) (gives (owed_by (fed front bytes).brings))
brought_said front bytes s =
    brought_so front.stage (judged front.due bytes) (fed front bytes).brings s (never_refused front.most front.stage front.due front.part bytes)

own_owes : (bytes : List ℕ) (front : Front) (w : Bool) (asks : Option Reset) (o : Option End) → o ≡ Some (Open front w asks) → SaysOf front.stage (judged front.due bytes) (fed front bytes).brings
    → Said front.stage (if_end_open o (λ front withdrawn. brought front bytes)) (gives (owed bytes o))
own_owes bytes front w asks o e s =
    subst (λ (x : Option End). Said front.stage (if_end_open x (λ front withdrawn. brought front bytes)) (gives (owed bytes x))) (sym e) (brought_said front bytes s)

owes_if : (key : ℕ) (ends : EndList) (other : ℕ) (bytes : List ℕ) (front : Front) (w : Bool) (asks : Option Reset) (b : Bool) → (other == key) ≡ b → end_at ends key ≡ Some (Open front w asks)
    → SaysOf front.stage (judged front.due bytes) (fed front bytes).brings
    → Said front.stage (if b then if_end_open (end_at ends key) (λ front withdrawn. brought front bytes) else []) (if_its key (Some other) (owed bytes (end_at ends other)))
owes_if key ends other bytes front w asks true e is s =
    let es : List FrontEvent = if_end_open (end_at ends key) (λ front withdrawn. brought front bytes) in
    let same : if_its key (Some other) (owed bytes (end_at ends other)) ≡ gives (owed bytes (end_at ends key)) =
    its key other (owed bytes (end_at ends other)) e ∙ ap (λ (k : ℕ). gives (owed bytes (end_at ends k))) (eqb-true other key e) in
    subst (λ (all : List Given). Said front.stage es all) (sym same) (own_owes bytes front w asks (end_at ends key) is s)
owes_if key ends other bytes front w asks false e is s =
    subst (λ (all : List Given). Said front.stage [] all) (sym (not_its key other (owed bytes (end_at ends other)) e)) (λ begun. refl)

pub taken_said : (key : ℕ) (h : Core) (other : ℕ) (bytes : List ℕ) (front : Front) (w : Bool) (asks : Option Reset) → end_at h.ends key ≡ Some (Open front w asks)
    → SaysOf front.stage (judged front.due bytes) (fed front bytes).brings
    → Said front.stage (passes key h (core.Feeds other bytes)) (if_its key (Some other) (owed bytes (end_at h.ends other)))
taken_said key h other bytes front w asks is s = owes_if key h.ends other bytes front w asks (other == key) refl is s
