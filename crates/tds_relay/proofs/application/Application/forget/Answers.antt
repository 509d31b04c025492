use Rattle.std.proofs.Common.{◌∙◌, ap, sym}
use Rattle.tds_relay.specs.Places.{is_state_over, state_asking, state_held}
use Rattle.tds_relay.proofs.steps.States.{end_with, requested_asking, requested_end, requested_held, requested_over}
use Rattle.tds_relay.proofs.application.Application.forget.Goals as goal

pub returns-clause-end : goal.returns-clause-end
returns-clause-end c =
    let a = c.args.self.now in
    ap (end_with a.front) c.set_request.ensures ∙ requested_end c.new.result a.front a.state

pub returns-clause-asking : goal.returns-clause-asking
returns-clause-asking c = λ here.
    ap state_asking c.set_request.ensures
    ∙ requested_asking c.new.result c.args.self.now.state (sym (ap is_state_over c.set_request.ensures) ∙ here)
    ∙ c.new.ensures.asking

pub returns-clause-body : goal.returns-clause-body
returns-clause-body c = (
  ap is_state_over c.set_request.ensures ∙ requested_over c.new.result c.args.self.now.state,
  ap state_held c.set_request.ensures ∙ requested_held c.new.result c.args.self.now.state c.new.ensures.held,
)
