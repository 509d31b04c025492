use Rattle.std.proofs.Common.{refl}
use Rattle.tds_relay.proofs.steps.Fronts.{ends_kept}
use Rattle.tds_relay.proofs.relay.Relay.forget_sent.Goals as goal

pub returns-in-Some-clause-ends : goal.returns-in-Some-clause-ends
returns-in-Some-clause-ends c = ends_kept c.args.self.now.applications c.args.key c.in-Some.application.now _ c.in-Some.ensures.value refl
