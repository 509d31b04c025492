use Rattle.std.proofs.Common.{◌∙◌, false, ap}
use Rattle.tds_relay.specs.declared.state.State.{State}
use Rattle.tds_relay.proofs.steps.States.{body_with, end_with, let_go_end, withdrawn_body}
use Rattle.tds_relay.proofs.application.Application.let_go.Goals as goal

pub returns-clause-end : goal.returns-clause-end
returns-clause-end c =
    let a = c.args.self.now in
    ap (end_with a.front) c.set_withdrawn.ensures ∙ let_go_end a.front a.state

pub returns-clause-body : goal.returns-clause-body
returns-clause-body c = λ goes.
    ap (λ (s : State). body_with s goes) c.set_withdrawn.ensures ∙ withdrawn_body false c.args.self.now.state goes
