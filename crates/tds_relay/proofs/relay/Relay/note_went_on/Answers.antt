use Rattle.std.proofs.Common.{◌∙◌, rules, refl}
use Rattle.tds_relay.specs.Fronts.{own_end, goes_by}
use Rattle.tds_relay.proofs.steps.Fronts.{ends_moved}
use Rattle.tds_relay.proofs.steps.Queueing.{queues_kept}
use Rattle.tds_relay.proofs.steps.Putting.{gone_where}
use Rattle.tds_relay.specs.Closings.{NoKey}
use Rattle.tds_relay.proofs.spared.Sending.{kept_refl}
use Rattle.tds_relay.proofs.spared.Shutting.{closes_moved, keeps_goes_by, unclosed}
use Rattle.tds_relay.proofs.steps.Bodied.{asks_kept}
use Rattle.tds_relay.proofs.relay.Relay.note_went_on.Goals as goal

pub returns-in-Some-clause-kept : goal.returns-in-Some-clause-kept
returns-in-Some-clause-kept c = queues_kept c.args.self.now.applications c.args.key c.in-Some.application.now c.went_on.new.self c.in-Some.ensures.value c.went_on.ensures.queue

pub returns-in-Some-clause-ends : goal.returns-in-Some-clause-ends
returns-in-Some-clause-ends c =
    ends_moved c.args.self.now.applications c.args.key c.in-Some.application.now c.went_on.new.self (goes_by c.args.self.now.outbox.items) c.in-Some.ensures.value
    (c.went_on.ensures.end ∙ gone_where c.args.self.now.outbox.items c.is_empty.result (own_end c.in-Some.application.now) (search rules) c.if-is_empty.false)

pub returns-in-Some-clause-closes : goal.returns-in-Some-clause-closes
returns-in-Some-clause-closes c = closes_moved NoKey c.args.key (goes_by c.args.self.now.outbox.items) _ _ (keeps_goes_by c.args.self.now.outbox.items)
    (ends_moved c.args.self.now.applications c.args.key c.in-Some.application.now c.went_on.new.self (goes_by c.args.self.now.outbox.items) c.in-Some.ensures.value
    (c.went_on.ensures.end ∙ gone_where c.args.self.now.outbox.items c.is_empty.result (own_end c.in-Some.application.now) (search rules) c.if-is_empty.false))
    (queues_kept c.args.self.now.applications c.args.key c.in-Some.application.now c.went_on.new.self c.in-Some.ensures.value c.went_on.ensures.queue) refl (kept_refl c.args.self.now.links.items) (unclosed _ _ refl)

pub returns-in-Some-clause-asks : goal.returns-in-Some-clause-asks
returns-in-Some-clause-asks c = asks_kept c.args.self.now.applications c.args.key c.in-Some.application.now c.went_on.new.self c.in-Some.ensures.value c.went_on.ensures.body
