use Rattle.std.proofs.Common.{refl, rules}
use Rattle.tds_service.specs.Service as calls
use Rattle.tds_relay.proofs.bytes.Walking.{keeps_stand}
use Rattle.tds_relay.proofs.spared.Held.{action_others, action_same}
use Rattle.tds_relay.proofs.steps.Halting.{client_stops}
use Rattle.tds_service.specs.Table.{service_in}
use Rattle.tds_service.specs.Ties.{cancel_answer}
use Rattle.tds_relay.specs.Ties.{pool_in}
use Rattle.tds_relay.proofs.steps.Made.{turns_stopped}
use Rattle.tds_relay.proofs.pool.Pool.cancel.Goals as goal

pub returns-in-Ok-clause-stand : goal.returns-in-Ok-clause-stand
returns-in-Ok-clause-stand c = keeps_stand _ _ (calls.Cancel c.in-Some.hold.lease) c.in-Ok.ensures.ok.service_is (λ opens. opens) c.in-Ok.ensures.makes c.in-Ok.ensures.sizes c.in-Ok.ensures.keeps

pub returns-in-Ok-clause-others : goal.returns-in-Ok-clause-others
returns-in-Ok-clause-others c = action_others c.args.self.now _ c.args.key c.in-Some.hold (search rules) refl c.in-Ok.ensures.clients

pub returns-in-Err-clause-others : goal.returns-in-Err-clause-others
returns-in-Err-clause-others c = action_same c.args.self.now _ c.args.key (search rules)

pub returns-in-Ok-clause-stops : goal.returns-in-Ok-clause-stops
returns-in-Ok-clause-stops c =
    client_stops c.args.key c.in-Some.hold c.args.self.now _ c.args.out.now.items c.cancel.new.out.items (search rules) refl c.in-Ok.ensures.ok.service_is c.in-Ok.ensures.ok.reply_is c.in-Ok.ensures.stops

pub returns-in-Ok-clause-ok : goal.returns-in-Ok-clause-ok
returns-in-Ok-clause-ok c =
    turns_stopped (pool_in c.args.self.now) c.args.key c.in-Some.hold (service_in c.cancel.new.self) c.with_cancel-self.result calls.Did _ (cancel_answer c.in-Ok.ensures.how.0 c.in-Ok.how) c.args.out.now.items c.cancel.new.out.items (search rules)
    c.in-Ok.ensures.ok c.in-Ok.ensures.how.1 (c.with_cancel-self.ensures c.in-Ok.ensures.how.0)
