use Rattle.std.proofs.Common.{◌≡◌, ◌∙◌, ap, false, rules}
use Rattle.tds_front.specs.declared.front.Front.{Front}
use Rattle.tds_front.specs.Rules as fronts
use Rattle.tds_relay.proofs.steps.States.{acknowledged_end, end_with}
use Rattle.tds_relay.proofs.application.Application.acknowledged.Goals as goal
use Rattle.tds_relay.specs.Places.{took_back}

pub returns-clause-end : goal.returns-clause-end
returns-clause-end c =
    let a = c.args.self.now in
    let stays : took_back a ≡ false = search rules in
    c.end_request.ensures.end ∙ ap (λ (f : Front). end_with f c.set_reset.new.self) c.acknowledged.ensures ∙ ap (end_with (record a.front { stage = fronts.acknowledged a.front.stage })) c.set_reset.ensures ∙ acknowledged_end a.front a.state stays
