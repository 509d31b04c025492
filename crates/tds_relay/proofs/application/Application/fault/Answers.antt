use Rattle.std.proofs.Common.{◌≡◌, ◌∙◌, Bool, Option, Some, if◌then◌else◌, refl}
use Rattle.tds_packet.specs.declared.status.Reset.{Reset}
use Rattle.tds_front.specs.declared.front.Front.{Front}
use Rattle.tds_relay.specs.Core.{Open, Over}
use Rattle.tds_relay.specs.Faults.{why_of}
use Rattle.tds_relay.specs.Places.{is_state_over, own_reset, state_fault, took_back}
use Rattle.tds_relay.specs.declared.state.State.{State}
use Rattle.tds_relay.specs.declared.state.State.TheVariants as states
use Rattle.tds_relay.proofs.application.Application.fault.Goals as goal

why_is : (s : State) (front : Front) (withdrawn : Bool) (asks : Option Reset) → state_fault s ≡ why_of (Some (if is_state_over s then Over (state_fault s) else Open front withdrawn asks))
why_is (states.Open o) front withdrawn asks = refl
why_is (states.Over why) front withdrawn asks = refl

pub returns : goal.returns
returns c =
    let a = c.args.self.now in
    c.fault.ensures ∙ why_is a.state a.front (took_back a) (own_reset a)
