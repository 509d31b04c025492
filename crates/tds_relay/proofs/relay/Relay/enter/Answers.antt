use Rattle.tds_relay.specs.Fronts.{ends_in, machine_in}
use Rattle.tds_relay.specs.Queues.{queues_in}
use Rattle.tds_relay.specs.Ties.{Neither, pool_in}
use Rattle.tds_relay.proofs.steps.Fronts.{ends_entered}
use Rattle.tds_relay.proofs.steps.Queueing.{enters_is}
use Rattle.tds_relay.proofs.steps.Stepping.{no_steps, steps_enters}
use Rattle.tds_relay.proofs.relay.Relay.enter.Goals as goal

pub returns-clause-queues : goal.returns-clause-queues
returns-clause-queues c =
    enters_is c.args.self.now.applications c.insert.new.self c.args.self.now.size c.args.tag c.in-Ok.key c.new-application.result
    c.in-Ok.ensures.was_vacant c.in-Ok.ensures.updates c.new-application.ensures.queue

pub returns-clause-steps : goal.returns-clause-steps
returns-clause-steps c =
    let old = c.args.self.now in
    steps_enters (machine_in old) (pool_in old.pool) (ends_in old.applications) (ends_in c.insert.new.self) (queues_in old.applications) (queues_in c.insert.new.self) c.in-Ok.key old.size c.args.tag
    (ends_entered old.applications c.insert.new.self old.size c.in-Ok.key c.new-application.result c.in-Ok.ensures.was_vacant c.in-Ok.ensures.updates c.new-application.ensures.end)
    (enters_is old.applications c.insert.new.self old.size c.args.tag c.in-Ok.key c.new-application.result c.in-Ok.ensures.was_vacant c.in-Ok.ensures.updates c.new-application.ensures.queue)
    (no_steps Neither (machine_in old))

pub returns-clause-ends : goal.returns-clause-ends
returns-clause-ends c =
    (ends_entered c.args.self.now.applications c.insert.new.self c.args.self.now.size c.in-Ok.key c.new-application.result c.in-Ok.ensures.was_vacant c.in-Ok.ensures.updates c.new-application.ensures.end).others_stay
