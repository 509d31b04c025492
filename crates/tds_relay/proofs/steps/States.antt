-- What an application's end is, and where its request, behind each change of what it is at.
use Rattle.std.proofs.Common.{◌≡◌, ◌∙◌, ◌≤◌, Bool, true, false, [], length, Option, Some, None, not, ◌&&◌, refl, sym, ap, arith, if◌then◌else◌}
use Rattle.tds_packet.specs.declared.status.Reset.{Reset}
use Rattle.tds_front.specs.declared.fault.FrontFault.{FrontFault}
use Rattle.tds_front.specs.declared.front.Front.{Front}
use Rattle.tds_front.specs.Rules as rules
use Rattle.tds_relay.specs.declared.state.Request.{Request}
use Rattle.tds_relay.specs.declared.state.Request.TheVariants as requests
use Rattle.tds_relay.specs.declared.state.State.{State}
use Rattle.tds_relay.specs.declared.state.State.TheVariants as states
use Rattle.tds_relay.specs.Bodies.{Body, Closed, body_by}
use Rattle.tds_relay.specs.Core.{End, Open, Over, closes_for, end_acknowledged, end_hears, lets_go}
use Rattle.tds_relay.specs.Fronts.{withdraws}
use Rattle.tds_relay.specs.Machine.{closes_connection, is_said}
use Rattle.tds_relay.specs.declared.pool.coming.What.{What}
use Rattle.tds_relay.specs.Places.{is_state_over, request_asking, request_held, state_asking, state_fault, state_held, state_reset, state_withdrawn, with_request, with_reset, with_withdrawn}

-- as own_end and body_in have it
abbrev pub end_with : Front → State → End
end_with front s = if is_state_over s then Over (state_fault s) else Open front (state_withdrawn s) (state_reset s)

abbrev pub body_with : State → Body → Body
body_with s goes = if is_state_over s then Closed else body_by (state_asking s) (state_held s) goes

-- ---- Another request

pub requested_end : (r : Request) (front : Front) (s : State) → end_with front (with_request r s) ≡ end_with front s
requested_end r front (states.Open o) = refl
requested_end r front (states.Over why) = refl

pub requested_over : (r : Request) (s : State) → is_state_over (with_request r s) ≡ is_state_over s
requested_over r (states.Open o) = refl
requested_over r (states.Over why) = refl

pub requested_asking : (r : Request) (s : State) → is_state_over (with_request r s) ≡ false → state_asking (with_request r s) ≡ request_asking r
requested_asking r (states.Open o) here = refl
requested_asking r (states.Over why) here = absurd (let u : true ≡ false = here in let v : ⊥ = cc in v)

pub requested_held : (r : Request) (s : State) → request_held r ≡ [] → state_held (with_request r s) ≡ []
requested_held r (states.Open o) none = none
requested_held r (states.Over why) none = refl

-- ---- Another reset

pub asked_reset : (r : Option Reset) (s : State) → is_state_over s ≡ false → state_reset (with_reset r s) ≡ r
asked_reset r (states.Open o) here = refl
asked_reset r (states.Over why) here = absurd (let u : true ≡ false = here in let v : ⊥ = cc in v)

pub reset_over : (r : Option Reset) (s : State) → is_state_over (with_reset r s) ≡ is_state_over s
reset_over r (states.Open o) = refl
reset_over r (states.Over why) = refl

pub reset_withdrawn : (r : Option Reset) (s : State) → state_withdrawn (with_reset r s) ≡ state_withdrawn s
reset_withdrawn r (states.Open o) = refl
reset_withdrawn r (states.Over why) = refl

pub reset_held : (r : Option Reset) (s : State) → state_held (with_reset r s) ≡ state_held s
reset_held r (states.Open o) = refl
reset_held r (states.Over why) = refl

pub reset_body : (r : Option Reset) (s : State) (goes : Body) → body_with (with_reset r s) goes ≡ body_with s goes
reset_body r (states.Open o) goes = refl
reset_body r (states.Over why) goes = refl

-- a packet of its answer has come
pub heard_end : (front : Front) (s : State) → state_withdrawn s ≡ false → end_with front (with_reset None s) ≡ end_hears (end_with front s)
heard_end front (states.Open o) e = ap (λ (w : Bool). Open front o.is_withdrawn (if w then o.reset else None)) (sym e)
heard_end front (states.Over why) e = refl

pub unheard_end : (front : Front) (s : State) → state_withdrawn s ≡ true → end_with front s ≡ end_hears (end_with front s)
unheard_end front (states.Open o) e = ap (λ (w : Bool). Open front o.is_withdrawn (if w then o.reset else None)) (sym e)
unheard_end front (states.Over why) e = refl

-- ---- What it took back

pub withdrawn_body : (w : Bool) (s : State) (goes : Body) → body_with (with_withdrawn w s) goes ≡ body_with s goes
withdrawn_body w (states.Open o) goes = refl
withdrawn_body w (states.Over why) goes = refl

pub withdrawn_end : (front : Front) (s : State) → end_with front (with_withdrawn true s) ≡ withdraws (end_with front s)
withdrawn_end front (states.Open o) = refl
withdrawn_end front (states.Over why) = refl

pub let_go_end : (front : Front) (s : State) → end_with front (with_withdrawn false s) ≡ lets_go (end_with front s)
let_go_end front (states.Open o) = refl
let_go_end front (states.Over why) = refl

-- that is acknowledged, or its own attention
pub resumed_end : (front : Front) (s : State) → state_withdrawn s ≡ true → end_with front (with_withdrawn false s) ≡ end_acknowledged (end_hears (end_with front s))
resumed_end front (states.Open o) e = ap (λ (w : Bool). end_acknowledged (Open front w (if w then o.reset else None))) (sym e)
resumed_end front (states.Over why) e = refl

pub acknowledged_end : (front : Front) (s : State) → state_withdrawn s ≡ false
    → end_with (record front { stage = rules.acknowledged front.stage }) (with_reset None s) ≡ end_acknowledged (end_hears (end_with front s))
acknowledged_end front (states.Open o) e =
    ap (λ (w : Bool). Open (record front { stage = rules.acknowledged front.stage }) w None) e
    ∙ ap (λ (w : Bool). end_acknowledged (Open front w (if w then o.reset else None))) (sym e)
acknowledged_end front (states.Over why) e = refl

-- of what it took back it hears nothing
pub back_silent : (what : What) (front : Front) (s : State) → state_withdrawn s ≡ true → is_said what (Some (end_with front s)) ≡ false
back_silent what front (states.Open o) e = ap (λ (w : Bool). not w && not (closes_connection what)) e
back_silent what front (states.Over why) e = refl

-- ---- It is to be closed

pub closed_end : (why : Option FrontFault) (front : Front) (s : State) → is_state_over s ≡ false → end_with front (states.Over why) ≡ closes_for why (end_with front s)
closed_end why front (states.Open o) here = refl
closed_end why front (states.Over was) here = absurd (let u : true ≡ false = here in let v : ⊥ = cc in v)

pub closed_before : (why : Option FrontFault) (front : Front) (s : State) → is_state_over s ≡ true → end_with front s ≡ closes_for why (end_with front s)
closed_before why front (states.Open o) over = absurd (let u : false ≡ true = over in let v : ⊥ = cc in v)
closed_before why front (states.Over was) over = refl

-- ---- How much is kept

request_bounded : (r : Request) → length (request_held r) ≤ 16384
request_bounded requests.Nothing = omega arith
request_bounded (requests.Waits w) = omega (arith, w.bounded, w.held.ok.0)
request_bounded requests.Goes = omega arith

pub held_bounded : (s : State) → length (state_held s) ≤ 16384
held_bounded (states.Open o) = request_bounded o.request
held_bounded (states.Over why) = omega arith
