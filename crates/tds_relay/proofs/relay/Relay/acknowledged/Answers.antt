use Rattle.tds_relay.specs.declared.pool.coming.What.TheVariants as whats
use Rattle.tds_relay.specs.Core.{end_told}
use Rattle.tds_relay.proofs.steps.Fronts.{ends_moved}
use Rattle.tds_relay.proofs.steps.Queueing.{queues_kept}
use Rattle.std.proofs.Common.{refl, rules}
use Rattle.tds_relay.specs.Closings.{NoKey}
use Rattle.tds_relay.proofs.spared.Sending.{kept_refl}
use Rattle.tds_relay.proofs.spared.Shutting.{closes_moved, keeps_acknowledged, unclosed}
use Rattle.tds_relay.proofs.spared.Losing.{taken_or_deaf}
use Rattle.tds_relay.proofs.steps.Doing.{done_kept}
use Rattle.tds_relay.proofs.steps.Answering.{told_absent, told_there}
use Rattle.tds_relay.proofs.relay.Relay.acknowledged.Goals as goal

pub returns-in-Some-clause-kept : goal.returns-in-Some-clause-kept
returns-in-Some-clause-kept c = queues_kept c.args.self.now.applications c.args.key c.in-Some.application.now c.acknowledged.new.self c.in-Some.ensures.value c.acknowledged.ensures.queue

pub returns-in-Some-clause-ends : goal.returns-in-Some-clause-ends
returns-in-Some-clause-ends c = ends_moved c.args.self.now.applications c.args.key c.in-Some.application.now c.acknowledged.new.self (end_told whats.Acknowledged) c.in-Some.ensures.value c.acknowledged.ensures.end

pub returns-in-Some-clause-closes : goal.returns-in-Some-clause-closes
returns-in-Some-clause-closes c =
    let s = c.args.self.now.applications in
    let a = c.in-Some.application.now in
    closes_moved NoKey c.args.key (end_told whats.Acknowledged) _ _ keeps_acknowledged (ends_moved s c.args.key a c.acknowledged.new.self (end_told whats.Acknowledged) c.in-Some.ensures.value c.acknowledged.ensures.end)
    (queues_kept s c.args.key a c.acknowledged.new.self c.in-Some.ensures.value c.acknowledged.ensures.queue) refl (kept_refl c.args.self.now.links.items) (unclosed _ _ refl)

pub returns-in-Some-clause-resumes : goal.returns-in-Some-clause-resumes
returns-in-Some-clause-resumes c = λ resumes. (c.args.key, refl, taken_or_deaf c.args.self.now.applications c.args.key c.in-Some.application.now c.in-Some.ensures.value (c.acknowledged.ensures.resumes resumes))

pub returns-in-Some-clause-asks : goal.returns-in-Some-clause-asks
returns-in-Some-clause-asks c = done_kept c.args.self.now.applications c.args.key c.in-Some.application.now c.acknowledged.new.self c.in-Some.ensures.value c.acknowledged.ensures.body.0

pub returns-in-Some-clause-told : goal.returns-in-Some-clause-told
returns-in-Some-clause-told c = told_there c.args.self.now.applications c.args.key whats.Acknowledged c.in-Some.application.now c.acknowledged.new.self c.in-Some.ensures.value c.acknowledged.ensures.body.1

pub returns-in-None-clause-told : goal.returns-in-None-clause-told
returns-in-None-clause-told c = told_absent c.args.self.now.applications c.args.key whats.Acknowledged (search rules)
