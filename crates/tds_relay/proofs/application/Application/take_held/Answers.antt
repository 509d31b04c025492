use Rattle.std.proofs.Common.{◌∙◌, ap, refl, sym}
use Rattle.tds_relay.specs.Places.{is_state_over, state_asking, state_held}
use Rattle.tds_relay.specs.declared.state.Request.TheVariants as requests
use Rattle.tds_relay.proofs.steps.States.{end_with, requested_asking, requested_end, requested_held, requested_over}
use Rattle.tds_relay.proofs.application.Application.take_held.Goals as goal

pub returns-clause-end : goal.returns-clause-end
returns-clause-end c =
    let a = c.args.self.now in
    ap (end_with a.front) c.take_held.ensures.goes ∙ requested_end requests.Goes a.front a.state

pub returns-clause-asking : goal.returns-clause-asking
returns-clause-asking c = λ here.
    ap state_asking c.take_held.ensures.goes
    ∙ requested_asking requests.Goes c.args.self.now.state (sym (ap is_state_over c.take_held.ensures.goes) ∙ here)

pub returns-clause-body : goal.returns-clause-body
returns-clause-body c = (
  ap is_state_over c.take_held.ensures.goes ∙ requested_over requests.Goes c.args.self.now.state,
  ap state_held c.take_held.ensures.goes ∙ requested_held requests.Goes c.args.self.now.state refl,
)
