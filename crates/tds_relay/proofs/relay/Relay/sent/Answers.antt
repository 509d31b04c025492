use Rattle.std.proofs.Common.{ap}
use Rattle.tds_relay.specs.Fronts.{machine_in}
use Rattle.tds_relay.specs.Ties.{pool_in}
use Rattle.tds_relay.proofs.steps.Stepping.{steps_writes}
use Rattle.tds_relay.proofs.seats.Relays.{kept_seated}
use Rattle.tds_relay.proofs.relay.Relay.sent.Goals as goal

pub returns-in_err-hold-clause-steps : goal.returns-in_err-hold-clause-steps
returns-in_err-hold-clause-steps c = steps_writes c.args.key c.args.count (machine_in c.args.self.now) _ _ _ (ap pool_in c.forget_sent.ensures.pool) c.forget_sent.ensures.ends c.forget_sent.ensures.sent

pub returns-in_err-link-clause-steps : goal.returns-in_err-link-clause-steps
returns-in_err-link-clause-steps c = steps_writes c.args.key c.args.count (machine_in c.args.self.now) _ _ _ (ap pool_in c.forget_sent.ensures.pool) c.forget_sent.ensures.ends c.forget_sent.ensures.sent

pub returns-clause-steps : goal.returns-clause-steps
returns-clause-steps c = steps_writes c.args.key c.args.count (machine_in c.args.self.now) _ _ _ (ap pool_in c.forget_sent.ensures.pool) c.forget_sent.ensures.ends c.forget_sent.ensures.sent

pub returns-in_err-hold-clause-seated : goal.returns-in_err-hold-clause-seated
returns-in_err-hold-clause-seated c = λ s. kept_seated c.args.self.now c.forget_sent.new.self c.forget_sent.ensures.pool c.forget_sent.ensures.links s

pub returns-in_err-link-clause-seated : goal.returns-in_err-link-clause-seated
returns-in_err-link-clause-seated c = λ s. kept_seated c.args.self.now c.forget_sent.new.self c.forget_sent.ensures.pool c.forget_sent.ensures.links s

pub returns-clause-seated : goal.returns-clause-seated
returns-clause-seated c = λ s. kept_seated c.args.self.now c.forget_sent.new.self c.forget_sent.ensures.pool c.forget_sent.ensures.links s
